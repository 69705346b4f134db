use Rattle.std.proofs.Common.{◌∙◌, ◌+◌, arith, sym}
use Rattle.command_words.specs.Command.{most_sessions}
use Rattle.command_words.proofs.Told.{number_read, number_unread, counts_fit}
use Rattle.command_words.proofs.reading.count_named.Goals as goal

pub returns-in-Ok : goal.returns-in-Ok
returns-in-Ok c =
    let read = c.in-Ok.ensures in
    number_read 1 (most_sessions + 1) c.in-Ok.count c.args.word.now (omega arith) counts_fit (omega (arith, read.0.0)) (omega (arith, read.0.1)) (sym c.as_bytes.ensures.value ∙ read.1)

pub returns-in-Err : goal.returns-in-Err
returns-in-Err c =
    let none = c.in-Err.ensures in
    number_unread 1 (most_sessions + 1) c.args.word.now (omega arith) (λ n is spelled. none.1 n (omega (arith, is.0), omega (arith, is.1)) (c.as_bytes.ensures.value ∙ spelled))
