-- IEC 61851-23; ISO 15118-2:2014, 8.8.4: a session of plans that match which is over, but for the turns of a plan, leaves both contactors ordered open.
use Rattle.std.specs.Prelude.{◌≡◌, ◌<◌, List, [], Some}
use Rattle.std.specs.List.{AllByRecursion}
use Rattle.charge_world.specs.declared.ports.Order.TheVariants as order
use Rattle.session_words.specs.declared.plan.CarPlan.{CarPlan}
use Rattle.post_spec.specs.Codecs as post
use Rattle.car_spec.specs.Codecs as car
use Rattle.pipe_spec.specs.Histories.{Happening, joined, station_hearings, car_hearings}
use Rattle.pipe_spec.specs.Counts.{station_order, car_order}
use Rattle.pipe_spec.specs.Runs.{IsSession}
use Rattle.pipe_spec.specs.Turns.{Station}
use Rattle.pipe_laws.specs.OneMessage.{IsShort}
use Rattle.matched_pairs.specs.Moves.{IsPair}
use Rattle.matched_pairs.specs.Courses.{AllGoUndisturbed}

-- the last order of each end to its contactor
pub record AreOpened (h : List Happening) : Type 0 where
  pub station : station_order h ≡ Some order.Open
  pub car : car_order h ≡ Some order.Open

-- 65,544: the bytes of the longest frame that is read
abbrev pub ContactorsAreOpened : post.Codecs → car.Codecs → Type 0
ContactorsAreOpened c cc = (st : Station) (plan : CarPlan) (h : List Happening) → IsPair c cc st.post (joined plan) → IsSession c cc st [] plan h
    → AllByRecursion (IsShort 65544) h → AllGoUndisturbed c cc st (joined plan) h → station_hearings h < st.turns → car_hearings h < plan.turns
    → AreOpened h
