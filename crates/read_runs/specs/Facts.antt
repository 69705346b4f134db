-- Own: what a post keeps of its clock and its charger is what its past tells of them.
use Rattle.std.specs.Prelude.{◌≡◌, List, [], ◌∷◌, map, is_some}
use Rattle.session_words.specs.declared.plan.PostPlan.{PostPlan}
use Rattle.post_spec.specs.Facts.{now, pilot, measured, isolation, paid, stop}
use Rattle.post_spec.specs.Contactors.{standing, live}
use Rattle.post_spec.specs.Sessions.{session}
use Rattle.post_spec.specs.Steps.{Event, Clock, Seen, Heard, Did, Step, seen_of}
use Rattle.station_spec.specs.States.{State}
use Rattle.station_spec.specs.Hearing.{arrival}
use Rattle.station_spec.specs.Acting.{state}

-- the newest hearing: its event, and the past before it
abbrev pub newest_event : List Seen → Event
newest_event [] = Clock
newest_event (Heard at event ∷ past) = event
newest_event (Did act taken ∷ past) = newest_event past

abbrev pub before_hearing : List Seen → List Seen
before_hearing [] = []
before_hearing (Heard at event ∷ past) = past
before_hearing (Did act taken ∷ past) = before_hearing past

pub record AreFacts (past : List Seen) (s : State) : Type 0 where
  pub clock_is : s.clock ≡ now past
  pub event_is : s.event ≡ newest_event past
  pub arrived_is : s.arrived ≡ arrival (newest_event past)
  pub stood_is : s.stood ≡ standing (before_hearing past)
  pub pilot_is : s.facts.pilot ≡ pilot past
  pub isolation_is : s.facts.isolation ≡ isolation past
  pub voltage_is : s.facts.voltage ≡ (measured past).0
  pub current_is : s.facts.current ≡ (measured past).1
  pub paid_is : s.facts.paid ≡ paid past
  pub stop_is : s.facts.stop ≡ stop past
  pub contactor_is : s.facts.contactor ≡ standing past
  pub live_is : s.live ≡ live past
  -- a session lives in both or in neither
  pub session_is : is_some s.session ≡ is_some (session past)

-- behind any steps
abbrev pub FactsAreRead : Type 0
FactsAreRead = (plan : PostPlan) (steps : List Step) → AreFacts (map seen_of steps) (state plan steps)
