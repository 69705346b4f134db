use Rattle.std.proofs.Common.{sym, ◌∙◌, arith}
use Rattle.trace_reading.proofs.LineFeeds.{cut_nowhere, cut_there}
use Rattle.trace_reading.proofs.cuts.cut_line.Goals as goal

pub returns-then-len-text : goal.returns-then-len-text
returns-then-len-text c = cut_nowhere c.args.text.now (sym c.line_len-len.ensures.len ∙ c.if-len-text.true)

pub returns : goal.returns
returns c =
    let cut = cut_there c.args.text.now c.line_len-len.result (sym c.line_len-len.ensures.len) (omega (arith, c.if-len-text.false, c.line_len-len.ensures.within)) in
    rw (c.split_at.ensures.front, c.split_at.ensures.back) cut
