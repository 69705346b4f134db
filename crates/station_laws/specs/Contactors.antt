-- Own: what a post keeps of its contactor is what its past tells of it.
use Rattle.std.specs.Prelude.{◌≡◌, List, map}
use Rattle.session_words.specs.declared.plan.PostPlan.{PostPlan}
use Rattle.station_spec.specs.Contactors.{standing, live}
use Rattle.station_spec.specs.Steps.{Seen, Step, seen_of}
use Rattle.station_spec.specs.States.{State}
use Rattle.station_spec.specs.Acting.{state}

pub record IsContactor (past : List Seen) (s : State) : Type 0 where
  pub standing_is : s.facts.contactor ≡ standing past
  pub live_is : s.live ≡ live past

-- behind any steps
abbrev pub ContactorsAreRead : Type 0
ContactorsAreRead = (plan : PostPlan) (steps : List Step) → IsContactor (map seen_of steps) (state plan steps)
