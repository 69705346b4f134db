use Rattle.std.proofs.Common.{arith}
use Rattle.exi_writing.proofs.Values.{few_chars, written_text}
use Rattle.exi_tests.proofs.writing.text.Goals as goal

pub put_value-requires-clause-value : goal.put_value-requires-clause-value
put_value-requires-clause-value c = written_text c.args.text.now 2 c.utf8.text (omega (arith, few_chars c.args.text.now c.utf8.text))
