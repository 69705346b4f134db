use Rattle.din_schema.specs.Declarations.{schema}
use Rattle.din_message.specs.Documents.{din_tree}
use Rattle.reply_watts.specs.Replies.{DinTree}
use Rattle.reply_watts.proofs.Payloads.{spelled, refused}
use Rattle.told_codecs.proofs.replies.din_payload.Goals as goal

pub returns-in-Ok-clause-watts : goal.returns-in-Ok-clause-watts
returns-in-Ok-clause-watts c =
    spelled schema DinTree c.args.payload.now c.args.plan.now c.args.spoken c.args.told (din_tree c.read_din.new.message) c.din_watts.result
    c.requires.payload c.in-Ok.ensures.read (c.din_watts.ensures c.args.plan.now)

pub returns-in-Err-clause-watts : goal.returns-in-Err-clause-watts
returns-in-Err-clause-watts c =
    refused schema DinTree c.args.payload.now c.args.plan.now c.args.spoken c.args.told _ _ c.in-Err.ensures.refused
