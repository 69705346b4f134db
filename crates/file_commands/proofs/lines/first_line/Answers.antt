use Rattle.std.proofs.Common.{sym, ◌∙◌}
use Rattle.trace_text.proofs.WholeLines.{passed_on}
use Rattle.file_commands.proofs.LineWords.{line_read, words_at}
use Rattle.file_commands.proofs.lines.first_line.Goals as goal

pub returns-in_err-line : goal.returns-in_err-line
returns-in_err-line c =
    let cut = rw c.in_ok-front.ensures.ok_part at c.cut.ensures in
    let bad = c.in_err-line.ensures in
    passed_on _ _ _ _ c.from_residual-in_err-line.ensures
    (bad.0, λ line more is said. bad.1 line is (c.of.ensures ∙ words_at c.args.text.now c.in_ok-front.front.now c.in_ok-front.rest.now more line cut is said))

pub returns : goal.returns
returns c =
    let cut = rw c.in_ok-front.ensures.ok_part at c.cut.ensures in
    let read = c.in_ok-line.ensures in
    (read.0, line_read c.args.text.now c.in_ok-front.front.now c.in_ok-front.rest.now c.in_ok-line.line cut (sym c.of.ensures ∙ read.1))
