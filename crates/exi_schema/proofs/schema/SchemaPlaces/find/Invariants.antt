use Rattle.exi_schema.specs.Offers.{offers}
use Rattle.exi_schema.specs.Told.{schema_of}
use Rattle.exi_schema.proofs.Finding.{IsLater}
use Rattle.exi_schema.proofs.schema.SchemaPlaces.find.Given as goal

abbrev pub invariant-loop-code : goal.invariant-loop-code
invariant-loop-code l = IsLater (offers (schema_of l.self).kinds l.place) l.sought l.code
