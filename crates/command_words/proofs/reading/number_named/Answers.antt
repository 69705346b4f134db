use Rattle.std.proofs.Common.{◌∙◌, arith, sym}
use Rattle.command_words.proofs.Told.{number_read, number_unread}
use Rattle.command_words.proofs.reading.number_named.Goals as goal

pub returns-in-Ok : goal.returns-in-Ok
returns-in-Ok c =
    let read = c.in-Ok.ensures in
    number_read 0 c.args.bound c.in-Ok.number c.args.word.now c.requires (omega (arith, c.ranges.bound.fits)) (omega arith) (omega (arith, read.0.1, c.from.ensures))
    (sym c.as_bytes.ensures.value ∙ read.1)

pub returns-in-Err : goal.returns-in-Err
returns-in-Err c =
    let none = c.in-Err.ensures in
    number_unread 0 c.args.bound c.args.word.now c.requires (λ n is spelled. none.1 n (is.0, omega (arith, is.1, c.from.ensures)) (c.as_bytes.ensures.value ∙ spelled))
