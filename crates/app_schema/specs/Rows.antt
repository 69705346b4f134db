-- Own: what is offered at a place, as one step or two.
use Rattle.std.specs.Prelude.{ℕ, List, [], ◌∷◌, Option, Some, None}
use Rattle.exi_schema.specs.declared.places.Place.{Place}
use Rattle.exi_schema.specs.declared.places.Step.{Step}
use Rattle.app_schema.specs.declared.places.Row.{Row}

-- a place in a kind without attributes
abbrev pub at : ℕ → ℕ → ℕ → Place
at kind particle copies = record { kind = kind; particle = particle; copies = copies; attributes = 0 }

abbrev pub list_of : Option Step → List Step
list_of None = []
list_of (Some step) = step ∷ []

abbrev pub steps_of : Row → List Step
steps_of row = row.first ∷ list_of row.second
