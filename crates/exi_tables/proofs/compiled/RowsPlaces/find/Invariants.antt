use Rattle.exi_schema.specs.Offers.{offers}
use Rattle.exi_schema.proofs.Finding.{IsLater}
use Rattle.exi_tables.proofs.compiled.RowsPlaces.find.Given as goal

abbrev pub invariant-loop-code : goal.invariant-loop-code
invariant-loop-code g l = IsLater (offers g.D.Declared.schema.kinds l.fn.place) l.sought l.code
