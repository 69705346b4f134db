use Rattle.std.proofs.Common.{◌∙◌, arith, sym}
use Rattle.command_words.specs.Command.{seeds}
use Rattle.command_words.proofs.Told.{number_read, number_unread, seeds_fit}
use Rattle.command_words.proofs.reading.seed_named.Goals as goal

pub returns-in-Ok : goal.returns-in-Ok
returns-in-Ok c =
    let read = c.in-Ok.ensures in
    number_read 0 seeds c.in-Ok.seed c.args.word.now (omega arith) seeds_fit (omega arith) (omega (arith, read.0.1)) (sym c.as_bytes.ensures.value ∙ read.1)

pub returns-in-Err : goal.returns-in-Err
returns-in-Err c =
    let none = c.in-Err.ensures in
    number_unread 0 seeds c.args.word.now (omega arith) (λ n is spelled. none.1 n (is.0, omega (arith, is.1)) (c.as_bytes.ensures.value ∙ spelled))
