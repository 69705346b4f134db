use Rattle.std.proofs.Common.{◌≡◌, take}
use Rattle.exi_schema.specs.Offers.{offers}
use Rattle.exi_schema.specs.Told.{schema_of}
use Rattle.exi_tables.proofs.filling.row_of.Given as goal

abbrev pub invariant-loop-code : goal.invariant-loop-code
invariant-loop-code l = l.steps.items ≡ take l.code (offers (schema_of l.schema).kinds l.place)
