use Rattle.std.proofs.Common.{◌∙◌}
use Rattle.clap.specs.Words.{found_of, rows_of}
use Rattle.command_words.proofs.Told.{told_by}
use Rattle.command_words.proofs.reading.command_of.Goals as goal

pub returns : goal.returns
returns c =
    c.command_named.ensures
    ∙ told_by _ c.in_ok-name.name.now (rows_of (found_of c.in_ok-name.values.now)) c.in_ok-name.ensures.name c.in_ok-name.ensures.rows
