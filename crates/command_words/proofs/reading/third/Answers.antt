use Rattle.std.proofs.Common.{codes, refl}
use Rattle.clap.specs.Words.{found_of}
use Rattle.clap.proofs.WalkLemmas.{first_value-rows}
use Rattle.command_words.proofs.reading.third.Goals as goal

pub returns : goal.returns
returns c =
    let word = first_value-rows (found_of c.args.values.now) (codes "THIRD") in
    rw (← word, ← c.get_str.ensures) refl
