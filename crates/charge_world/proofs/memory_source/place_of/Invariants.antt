use Rattle.std.proofs.Common.{◌≡◌, drop}
use Rattle.charge_world.specs.NamedFiles.{bytes_named}
use Rattle.charge_world.proofs.memory_source.place_of.Given as goal

abbrev pub invariant-loop-i : goal.invariant-loop-i
invariant-loop-i l = bytes_named (drop l.i l.files) l.name ≡ bytes_named l.files l.name
