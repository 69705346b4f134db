use Rattle.std.proofs.Common.{◌≡◌, take, map}
use Rattle.charge_world.specs.Logs.{entry_of}
use Rattle.charge_world.proofs.log.entries.Given as goal

abbrev pub invariant-loop-one : goal.invariant-loop-one
invariant-loop-one l = l.entries.items ≡ map (entry_of l.bytes) (take l.one-index l.kept)
