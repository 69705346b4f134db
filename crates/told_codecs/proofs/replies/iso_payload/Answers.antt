use Rattle.iso_schema.specs.Declarations.{schema}
use Rattle.iso_message.specs.Documents.{iso_tree}
use Rattle.reply_watts.specs.Replies.{IsoTree}
use Rattle.reply_watts.proofs.Payloads.{spelled, refused}
use Rattle.told_codecs.proofs.replies.iso_payload.Goals as goal

pub returns-in-Ok-clause-watts : goal.returns-in-Ok-clause-watts
returns-in-Ok-clause-watts c =
    spelled schema IsoTree c.args.payload.now c.args.plan.now c.args.spoken c.args.told (iso_tree c.read_iso.new.message) c.iso_watts.result
    c.requires.payload c.in-Ok.ensures.read c.iso_watts.ensures

pub returns-in-Err-clause-watts : goal.returns-in-Err-clause-watts
returns-in-Err-clause-watts c =
    refused schema IsoTree c.args.payload.now c.args.plan.now c.args.spoken c.args.told _ _ c.in-Err.ensures.refused
