use Rattle.std.proofs.Common.{◌≡◌, ℕ, arith}
use Rattle.trace_text.specs.declared.reading.LineFault.TheVariants.{BadLine}
use Rattle.trace_files.proofs.Limits.{whole_front, passed}
use Rattle.trace_files.proofs.judging.trace_of.Goals as goal

one_line : (m n : ℕ) → BadLine m ≡ BadLine n → m ≡ n
one_line m n h = cc

pub slice_bounds-lines_in-end : goal.slice_bounds-lines_in-end
slice_bounds-lines_in-end c = whole_front c.args.bytes.now 268435456 c.if-bytes-gt-LONGEST_TRACE.true

pub lines_in-requires : goal.lines_in-requires
lines_in-requires c = let long = whole_front c.args.bytes.now 268435456 c.if-bytes-gt-LONGEST_TRACE.true in omega (arith, long)

pub returns-then-bytes-gt-LONGEST_TRACE-clause-fault : goal.returns-then-bytes-gt-LONGEST_TRACE-clause-fault
returns-then-bytes-gt-LONGEST_TRACE-clause-fault c text number h same =
    passed c.args.posts text c.args.bytes.now c.lines_in.result number c.if-bytes-gt-LONGEST_TRACE.true c.lines_in.ensures h (one_line c.lines_in.result number same)
