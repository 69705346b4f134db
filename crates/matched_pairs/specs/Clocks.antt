-- Own: the clocks of both ends in the first session of the pipe.
use Rattle.std.specs.Prelude.{◌≡◌, false, List}
use Rattle.session_words.specs.declared.plan.CarPlan.{CarPlan}
use Rattle.post_spec.specs.Codecs as post
use Rattle.car_spec.specs.Codecs as car
use Rattle.pipe_spec.specs.Histories.{Happening, joined, moment, car_has_ended}
use Rattle.pipe_spec.specs.Turns.{Station, station_state, car_state}
use Rattle.pipe_laws.specs.PipePasts.{IsFirst}

-- a car that has ended hears nothing any more
pub record ShowMoment (st : Station) (plan : CarPlan) (h : List Happening) : Type 0 where
  pub station : (station_state st h).clock ≡ moment h
  pub car : car_has_ended h ≡ false → (car_state plan h).clock ≡ moment h

abbrev pub ClocksAreRight : post.Codecs → car.Codecs → Type 0
ClocksAreRight c cc = (st : Station) (plan : CarPlan) (h : List Happening) → IsFirst c cc st plan h → ShowMoment st (joined plan) h
