use Rattle.std.proofs.Common.{◌≡◌, ℕ, ◌<◌, Some}
use Rattle.std.specs.Prelude.{slice_get}
use Rattle.exi_schema.specs.declared.places.Place.{Place}
use Rattle.exi_schema.specs.declared.places.Step.TheVariants.{Attribute}
use Rattle.exi_schema.specs.Offers.{offers}
use Rattle.exi_schema.specs.Told.{schema_of}
use Rattle.tree_text.proofs.print.attribute_kind.Given as goal

abbrev pub invariant-loop-code : goal.invariant-loop-code
invariant-loop-code l = (i : ℕ) (kind : ℕ) (next : Place) → i < l.code → slice_get (offers (schema_of l.schema).kinds l.here) i ≡ Some (Attribute l.name kind next) → ⊥
