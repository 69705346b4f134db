use Rattle.std.proofs.Common.{arith}
use Rattle.file_commands.proofs.Scripts.{only_output, whole_front}
use Rattle.file_commands.proofs.script.orders_of.Goals as goal

pub slice_bounds-lines_in-end : goal.slice_bounds-lines_in-end
slice_bounds-lines_in-end c = whole_front c.args.script.now 65536 c.if-script-gt-LONGEST_SCRIPT.true

pub lines_in-requires : goal.lines_in-requires
lines_in-requires c = let long = whole_front c.args.script.now 65536 c.if-script-gt-LONGEST_SCRIPT.true in omega (arith, long)

pub returns-clause-one : goal.returns-clause-one
returns-clause-one c = only_output c.args.script.now c.run.result c.run.ensures.run c.run.ensures.bad
