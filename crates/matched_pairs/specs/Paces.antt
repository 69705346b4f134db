-- ISO 15118-2:2014, 8.7 (the deadlines of both ends): how far the moments from which deadlines count are behind the clock in the first session of plans
-- that match.
use Rattle.std.specs.Prelude.{◌≡◌, ℕ, ◌+◌, ◌≤◌, true, List, Option, Some, None}
use Rattle.std.specs.List.{AllByRecursion}
use Rattle.session_words.specs.declared.plan.CarPlan.{CarPlan}
use Rattle.post_spec.specs.Codecs as post
use Rattle.station_spec.specs.States.{Session}
use Rattle.car_rules.specs.Deadlines.{awaits_setup}
use Rattle.car_spec.specs.Codecs as car
use Rattle.car_spec.specs.States as car_states
use Rattle.pipe_spec.specs.Histories.{Happening, moment, joined}
use Rattle.pipe_spec.specs.Turns.{Station, station_state, car_state}
use Rattle.pipe_laws.specs.OneMessage.{IsShort}
use Rattle.pipe_laws.specs.PipePasts.{IsFirst}
use Rattle.matched_pairs.specs.Moves.{IsPair}
use Rattle.matched_pairs.specs.Power.{AllKeepTime}

-- the deadline of a post counts from a moment that is past, by 1,010 ms at most: a car's pace, and a tick
abbrev pub IsSoonBehind : ℕ → Option Session → Type 0
IsSoonBehind now None = Unit {0}
IsSoonBehind now (Some session) = (session.since ≤ now) × (now ≤ session.since + 1010)

-- a request that has no reply yet was said 60 ms before at most
abbrev pub IsFresh : ℕ → Option ℕ → Type 0
IsFresh now None = Unit {0}
IsFresh now (Some sent) = now ≤ sent + 60

abbrev pub IsFreshIn : ℕ → Option car_states.Session → Type 0
IsFreshIn now None = Unit {0}
IsFreshIn now (Some session) = IsFresh now session.moments.sent

-- SessionSetup is replied to at 0
abbrev pub IsSetUpAtOnce : ℕ → Option car_states.Session → Type 0
IsSetUpAtOnce now None = Unit {0}
IsSetUpAtOnce now (Some session) = awaits_setup session.stage ≡ true → now ≡ 0

pub record KeepsPace (st : Station) (plan : CarPlan) (h : List Happening) : Type 0 where
  pub behind : IsSoonBehind (moment h) (station_state st h).session
  pub fresh : IsFreshIn (moment h) (car_state plan h).session
  pub set_up : IsSetUpAtOnce (moment h) (car_state plan h).session

-- 65,544: the bytes of the longest frame that is read
abbrev pub SessionsKeepPace : post.Codecs → car.Codecs → Type 0
SessionsKeepPace c cc = (st : Station) (plan : CarPlan) (h : List Happening) → IsPair c cc st.post (joined plan) → IsFirst c cc st plan h
    → AllByRecursion (IsShort 65544) h → AllKeepTime st (joined plan) h → KeepsPace st (joined plan) h
