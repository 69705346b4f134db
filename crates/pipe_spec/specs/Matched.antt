-- Own: plans of a station and of a car that go together, so that their session comes to its end; and what that end is.
use Rattle.std.specs.Prelude.{◌≡◌, ℕ, ◌+◌, ◌-◌, ◌*◌, ◌<◌, ◌≤◌, List, [], Contains, MatchBool, Some}
use Rattle.std.specs.List.{AllByRecursion}
use Rattle.charge_world.specs.declared.offer.Dialect.{Dialect}
use Rattle.charge_world.specs.declared.ports.Order.TheVariants as order
use Rattle.session_words.specs.declared.plan.CarPlan.{CarPlan}
use Rattle.session_words.specs.declared.plan.PostPlan.{PostPlan}
use Rattle.session_words.specs.declared.plan.Stop.TheVariants.{Terminate}
use Rattle.session_words.specs.Amounts.{ac_watts_of}
use Rattle.session_words.specs.Modes.{phases_of}
use Rattle.session_rules.specs.Finishing.{is_ac}
use Rattle.pipe_spec.specs.Histories.{Happening, car_cause, station_cause}
use Rattle.pipe_spec.specs.Counts.{exchanges, station_order, car_order, IsOk}

-- a dialect that both speak
pub record IsShared (post : PostPlan) (plan : CarPlan) (dialect : Dialect) : Type 0 where
  pub of_post : Contains post.dialects.items dialect
  pub of_car : Contains plan.dialects.items dialect

-- in alternating current the car can take a watt at the post, and the post can go as low as the car needs
pub record IsAcMatched (post : PostPlan) (plan : CarPlan) : Type 0 where
  pub takes : 1 ≤ ac_watts_of plan.max_current post.nominal (phases_of post.mode)
  pub gives : ac_watts_of plan.min_current post.nominal (phases_of post.mode) ≤ post.max_watts

-- what is least among the numbers of which something holds
pub record IsLeast (Holds : ℕ → Type 0) (n : ℕ) : Type 0 where
  pub holds : Holds n
  pub least : (m : ℕ) → Holds m → n ≤ m

-- so many steps of 100.0 V bring the voltage from 0 within 20.0 V of the target
abbrev pub Reaches : ℕ → ℕ → Type 0
Reaches target steps = target - 200 ≤ 1000 * steps

-- the clock's next tick behind the car's pace
abbrev pub IsTickOf : ℕ → ℕ → Type 0
IsTickOf pace ticks = pace ≤ 10 * ticks

-- the pre-charge is done within the car's 7,000 ms
pub record IsSoonCharged (plan : CarPlan) : Type 0 where
  pub steps : ℕ
  pub steps_are : IsLeast (Reaches plan.target_voltage) steps
  pub ticks : ℕ
  pub ticks_are : IsLeast (IsTickOf plan.pace) ticks
  pub soon : steps * (10 * ticks) < 7000

-- Matched plans. The car neither means to come back nor comes back; a simulated charger never asks for a renegotiation.
pub record IsMatched (post : PostPlan) (plan : CarPlan) : Type 0 where
  pub mode : post.mode ≡ plan.mode
  pub dialect : Dialect
  pub shared : IsShared post plan dialect
  pub voltage : post.min_voltage ≤ plan.max_voltage
  pub current : post.min_current ≤ plan.max_current
  pub target : plan.target_voltage ≤ post.max_voltage
  pub ac : MatchBool (is_ac post.mode) (IsAcMatched post plan) (Unit {0})
  pub terminates : plan.stop ≡ Terminate
  pub unnamed : plan.session.bytes.items ≡ []
  pub soon : IsSoonCharged plan

-- how the session of matched plans ends: with codes of the OK class, within this many exchanges, by SessionStop, and with both contactors
-- open
pub record EndsWell (plan : CarPlan) (h : List Happening) : Type 0 where
  pub few : exchanges h ≤ 64 + 4 * plan.cycles
  pub ok : AllByRecursion IsOk h
  pub station : station_cause h ≡ Some 1
  pub car : car_cause h ≡ Some 1
  pub station_open : station_order h ≡ Some order.Open
  pub car_open : car_order h ≡ Some order.Open
