-- ISO 15118-2:2014, section 8.8, and own: an example of a session that conforms behind one that didn't. The car that came first left, and the order to
-- open failed. So the next session begins with that order, behind which a vehicle that isn't ready is no cause; and an answer to a datagram fails.
use Rattle.std.specs.Prelude.{true, false, List, [], ◌∷◌, None}
use Rattle.charge_world.specs.declared.heard.PilotState.TheVariants.{B}
use Rattle.charge_world.specs.declared.heard.PlantEvent.TheVariants as plant
use Rattle.charge_world.specs.declared.ports.Order.TheVariants as order
use Rattle.post_spec.specs.Steps.{Came, Gone, Datagram, Plant, Give, Answer, End, Step, Hears, Does}
use Rattle.station_examples.specs.Fixtures.{ac_post, token}
use Rattle.conforming_runs.specs.Conforming.{Conforming}

abbrev pub leaving : List Step
leaving = Hears 20 Gone ∷ Does None (Give order.Close) true ∷ Hears 0 (Came token) ∷ []

abbrev pub later : List Step
later =
    Does None (Answer []) false ∷ Hears 50 (Datagram []) ∷ Does None (Give order.Open) true ∷ Hears 40 (Plant (plant.Pilot B)) ∷ Hears 30 (Came token)
    ∷ Does None (End 15) true ∷ Does None (Give order.Open) false ∷ leaving

-- the first session doesn't conform, the second does so far
abbrev pub LaterConforms : Type 0
LaterConforms = (Conforming ac_post leaving → ⊥) × Conforming ac_post later
