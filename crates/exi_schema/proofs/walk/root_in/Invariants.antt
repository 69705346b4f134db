use Rattle.std.proofs.Common.{◌≡◌, drop}
use Rattle.exi_schema.specs.Counts.{root_numbered}
use Rattle.exi_schema.proofs.walk.root_in.Given as goal

abbrev pub invariant-loop-root : goal.invariant-loop-root
invariant-loop-root l = root_numbered (drop l.root-index l.roots) l.number ≡ root_numbered l.roots l.number
