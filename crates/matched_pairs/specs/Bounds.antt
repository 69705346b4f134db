-- Own: the moments of the first session of the pipe are bounded by the hearings of its ends.
use Rattle.std.specs.Prelude.{◌≡◌, ◌*◌, ◌≤◌, false, List, Option, Some, None}
use Rattle.session_words.specs.declared.plan.CarPlan.{CarPlan}
use Rattle.post_spec.specs.Codecs as post
use Rattle.car_spec.specs.Codecs as car
use Rattle.car_spec.specs.States as car_states
use Rattle.pipe_spec.specs.Histories.{Happening, joined, moment, car_has_ended, station_hearings, car_hearings}
use Rattle.pipe_spec.specs.Turns.{Station, car_state}
use Rattle.pipe_laws.specs.PipePasts.{IsFirst}

-- the car came at 0
abbrev pub CameFirst : Option car_states.Session → Type 0
CameFirst None = Unit {0}
CameFirst (Some session) = session.moments.came ≡ 0

-- a car that has ended hears nothing any more
pub record IsBounded (plan : CarPlan) (h : List Happening) : Type 0 where
  pub station : moment h ≤ 10 * station_hearings h
  pub car : car_has_ended h ≡ false → moment h ≤ 10 * car_hearings h
  pub came : CameFirst (car_state plan h).session

abbrev pub MomentsAreBounded : post.Codecs → car.Codecs → Type 0
MomentsAreBounded c cc = (st : Station) (plan : CarPlan) (h : List Happening) → IsFirst c cc st plan h → IsBounded (joined plan) h
