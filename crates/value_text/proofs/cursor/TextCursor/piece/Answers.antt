use Rattle.value_text.proofs.PieceTexts.{takes_quote, takes_plain, takes_escape, wrong_escape, no_piece_at_end, no_piece_at_control}
use Rattle.value_text.proofs.cursor.TextCursor.piece.Goals as goal

pub returns-in_default-clause-fault : goal.returns-in_default-clause-fault
returns-in_default-clause-fault c = no_piece_at_end c.args.self.now c.in_default.ensures.passes.0

pub returns-then-c-eq34-clause-taken : goal.returns-then-c-eq34-clause-taken
returns-then-c-eq34-clause-taken c = takes_quote c.args.self.now c.next.new.self c.in-Some.c c.if-c-eq34.true c.in-Some.ensures.passes

pub returns-in-Ok-clause-taken : goal.returns-in-Ok-clause-taken
returns-in-Ok-clause-taken c = takes_escape c.args.self.now c.next.new.self c.in-Ok.behind c.in-Some.c c.in-Ok.c c.if-c-eq92.true c.in-Some.ensures.passes c.in-Ok.ensures.taken

pub returns-in-Err-clause-fault : goal.returns-in-Err-clause-fault
returns-in-Err-clause-fault c = wrong_escape c.args.self.now c.next.new.self c.in-Some.c c.in-Err.place c.if-c-eq92.true c.in-Some.ensures.passes c.in-Err.ensures.fault

pub returns-then-c-lt32-clause-fault : goal.returns-then-c-lt32-clause-fault
returns-then-c-lt32-clause-fault c = no_piece_at_control c.args.self.now c.next.new.self c.in-Some.c c.in-Some.ensures.passes c.if-c-lt32.true

pub returns-clause-taken : goal.returns-clause-taken
returns-clause-taken c =
    takes_plain c.args.self.now c.next.new.self c.in-Some.c c.in-Some.ensures.scalar c.if-c-lt32.false c.if-c-eq34.false c.if-c-eq92.false c.in-Some.ensures.passes
