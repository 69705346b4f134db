-- IEC 61851-23; ISO 15118-2:2014, 8.7: how long a post's contactor closes over the pipe, by the moment from which its deadline counts.
use Rattle.std.specs.Prelude.{◌≡◌, ℕ, ◌+◌, ◌≤◌, List, Option, Some, slice_get}
use Rattle.std.specs.List.{AllByRecursion}
use Rattle.session_words.specs.declared.phase.Standing.TheVariants as standing
use Rattle.session_words.specs.declared.plan.CarPlan.{CarPlan}
use Rattle.plant_sim.specs.Charger.{Charger}
use Rattle.post_spec.specs.Codecs as post
use Rattle.station_spec.specs.States.{Session, State}
use Rattle.car_spec.specs.Codecs as car
use Rattle.pipe_spec.specs.Chargers.{IsCharger}
use Rattle.pipe_spec.specs.Histories.{Happening, joined, moment}
use Rattle.pipe_spec.specs.Turns.{Station, station_state}
use Rattle.pipe_laws.specs.OneMessage.{IsShort}
use Rattle.pipe_laws.specs.PipePasts.{IsFirst}
use Rattle.matched_pairs.specs.Moves.{IsPair}
use Rattle.matched_pairs.specs.Courses.{AllGoUndisturbed}

-- the charger tells of it (place 5) 50 ms behind the order; until then the clock goes on by a tick at most beyond that
pub record IsHeardSoon (s : State) (closed : Option (Option ℕ)) (now : ℕ) : Type 0 where
  pub session : Session
  pub session_is : s.session ≡ Some session
  pub to_come : closed ≡ Some (Some (session.since + 50))
  pub soon : now ≤ session.since + 60

-- 65,544: the bytes of the longest frame that is read. A plan's turns bound the moments, which are below 2^64 - 51
abbrev pub ClosesAreHeard : post.Codecs → car.Codecs → Type 0
ClosesAreHeard c cc = (st : Station) (plan : CarPlan) (h : List Happening) → IsPair c cc st.post (joined plan) → IsFirst c cc st plan h
    → AllByRecursion (IsShort 65544) h → AllGoUndisturbed c cc st (joined plan) h → moment h ≤ 18446744073709551500
    → (station_state st h).facts.contactor ≡ standing.Closing → (charger : Charger) → IsCharger st.post.free h charger
    → IsHeardSoon (station_state st h) (slice_get charger.moments 5) (moment h)
