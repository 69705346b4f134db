use Rattle.din_message.specs.Documents.{din_tree}
use Rattle.site_codec_rules.proofs.reading.din_word.Goals as goal

pub returns-in-Ok-clause-read : goal.returns-in-Ok-clause-read
returns-in-Ok-clause-read c =
    record { tree = din_tree c.read_din.new.message; document = c.in-Ok.ensures.read; word_is = c.to_word.ensures }
