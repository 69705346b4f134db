use Rattle.iso_codec.specs.Documents.{iso_tree}
use Rattle.site_codec_rules.proofs.reading.iso_word.Goals as goal

pub returns-in-Ok-clause-read : goal.returns-in-Ok-clause-read
returns-in-Ok-clause-read c =
    record { tree = iso_tree c.read_iso.new.message; document = c.in-Ok.ensures.read; word_is = c.to_word.ensures }
