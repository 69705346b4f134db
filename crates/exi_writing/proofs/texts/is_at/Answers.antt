use Rattle.std.proofs.Common.{refl}
use Rattle.exi_bits.specs.Pens.{written_bits}
use Rattle.exi_writing.proofs.Found.{other_length}
use Rattle.exi_writing.proofs.Stays.{span_held, same_held}
use Rattle.exi_writing.proofs.texts.is_at.Goals as goal

pub of-requires-clause-spelled : goal.of-requires-clause-spelled
of-requires-clause-spelled c = span_held c.written.result.now _ c.args.at c.written.ensures.holds c.requires.spelled

pub returns : goal.returns
returns c = same_held c.written.result.now _ _ c.args.at c.of.result _ c.written.ensures.holds c.requires.spelled c.of.ensures.span c.is_same.ensures

pub returns-then-at-count : goal.returns-then-at-count
returns-then-at-count c = other_length (written_bits c.args.pen.now) c.args.at _ c.args.count _ c.requires.spelled c.requires.count c.if-at-count.true refl
