use Rattle.exi_schema.specs.Offers.{IsPlace}
use Rattle.compiled_places.proofs.comparing.compare_kind.Given as goal

abbrev pub invariant-loop : goal.invariant-loop
invariant-loop g l = IsPlace (g.A.Places.schema l.plain).kinds l.place
