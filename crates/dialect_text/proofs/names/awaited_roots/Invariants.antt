use Rattle.std.proofs.Common.{◌≡◌, take, map}
use Rattle.exi_schema.specs.Told.{schema_of}
use Rattle.dialect_text.specs.Awaited.{awaited_root}
use Rattle.dialect_text.proofs.names.awaited_roots.Given as goal

abbrev pub invariant-loop-root : goal.invariant-loop-root
invariant-loop-root l = l.awaited.items ≡ map (awaited_root (schema_of l.schema)) (take l.root-index l.root-items)
