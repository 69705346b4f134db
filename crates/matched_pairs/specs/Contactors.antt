-- IEC 61851-23: where the post's contactor stands in the first session of plans that match, what its charger is to tell of it, and which orders it had.
use Rattle.std.specs.Prelude.{◌≡◌, ℕ, Bool, true, false, List, Option, Some, None, ◌⊎◌, slice_get}
use Rattle.std.specs.List.{AllByRecursion}
use Rattle.session_words.specs.declared.phase.Phase.{Phase}
use Rattle.session_words.specs.declared.phase.Phase.TheVariants as row
use Rattle.session_words.specs.declared.phase.Standing.{Standing}
use Rattle.session_words.specs.declared.phase.Standing.TheVariants as standing
use Rattle.session_words.specs.declared.plan.CarPlan.{CarPlan}
use Rattle.plant_sim.specs.Charger.{Charger}
use Rattle.session_rules.specs.Stages.{is_waiting}
use Rattle.post_spec.specs.Codecs as post
use Rattle.post_spec.specs.Steps.{Event, Came, Bytes, Gone, Datagram, Plant, Clock, Over}
use Rattle.station_spec.specs.States.{Wording, Session, State, nothing}
use Rattle.station_spec.specs.Deciding.{confirms}
use Rattle.car_spec.specs.Codecs as car
use Rattle.pipe_spec.specs.Chargers.{IsCharger}
use Rattle.pipe_spec.specs.Histories.{Happening, joined}
use Rattle.pipe_spec.specs.Turns.{Station, station_state}
use Rattle.pipe_laws.specs.OneMessage.{IsShort}
use Rattle.pipe_laws.specs.PipePasts.{IsFirst}
use Rattle.pipe_facts.specs.Calm.{LeavesContactor}
use Rattle.matched_pairs.specs.Moves.{IsPair}
use Rattle.matched_pairs.specs.Courses.{AllGoUndisturbed}

-- where the contactor stands, and when feedback of closed (place 5 of the charger) and of open (place 6) is to come: each only behind its order, and no
-- order failed
abbrev pub IsLinked : Standing → Option (Option ℕ) → Option (Option ℕ) → Type 0
IsLinked standing.Opened closed opened = (closed ≡ Some None) × (opened ≡ Some None)
IsLinked standing.Closing closed opened = opened ≡ Some None
IsLinked standing.Closed closed opened = (closed ≡ Some None) × (opened ≡ Some None)
IsLinked standing.Opening closed opened = closed ≡ Some None
IsLinked standing.MustOpen closed opened = ⊥

-- it is heard that the contactor is closed
abbrev pub is_confirming : Event → Bool
is_confirming (Plant event) = confirms event
is_confirming (Came token) = false
is_confirming (Bytes bytes) = false
is_confirming Gone = false
is_confirming (Datagram bytes) = false
is_confirming Clock = false
is_confirming Over = false

-- a reply waits for the contactor, of which nothing was heard
pub record IsClosing (s : State) : Type 0 where
  pub session : Session
  pub session_is : s.session ≡ Some session
  pub waits : is_waiting session.stage.row ≡ true
  pub arrived : s.arrived ≡ None
  pub none : s.agenda ≡ nothing
  pub unheard : is_confirming s.event ≡ true → s.part ≡ Wording

-- rows from PowerDelivery Start on
abbrev pub is_late : Phase → Bool
is_late row.DcClosing = true
is_late row.DcCharging = true
is_late row.DcStopped = true
is_late row.AcClosing = true
is_late row.AcCharging = true
is_late row.AcStopped = true
is_late other = false

abbrev pub IsLateIn : Option Session → Type 0
IsLateIn None = Unit {0}
IsLateIn (Some session) = is_late session.stage.row ≡ true

pub record IsLate (s : State) : Type 0 where
  pub arrived : s.arrived ≡ None
  pub row : IsLateIn s.session

-- no close and no open was ordered until PowerDelivery Start
pub record Stands (st : Station) (h : List Happening) : Type 0 where
  pub linked : (charger : Charger) → IsCharger st.post.free h charger
      → IsLinked (station_state st h).facts.contactor (slice_get charger.moments 5) (slice_get charger.moments 6)
  pub closing : (station_state st h).facts.contactor ≡ standing.Closing → IsClosing (station_state st h)
  pub late : AllByRecursion LeavesContactor h ⊎ IsLate (station_state st h)

-- 65,544: the bytes of the longest frame that is read
abbrev pub ContactorsFollow : post.Codecs → car.Codecs → Type 0
ContactorsFollow c cc = (st : Station) (plan : CarPlan) (h : List Happening) → IsPair c cc st.post (joined plan) → IsFirst c cc st plan h
    → AllByRecursion (IsShort 65544) h → AllGoUndisturbed c cc st (joined plan) h → Stands st h
