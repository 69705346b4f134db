-- IEC 61851-23 (pre-charge): the voltage that a charger gives and tells in the first session of plans that match, while the car pre-charges.
use Rattle.std.specs.Prelude.{◌≡◌, ℕ, suc, ◌+◌, ◌*◌, ◌≤◌, min, Bool, true, false, List, [], ◌∷◌, Option, Some, None, slice_get}
use Rattle.std.specs.List.{AllByRecursion}
use Rattle.charge_world.specs.declared.ports.Order.TheVariants as order
use Rattle.session_words.specs.declared.facts.Facts.{Facts}
use Rattle.session_words.specs.declared.plan.CarPlan.{CarPlan}
use Rattle.plant_sim.specs.Charger.{Charger}
use Rattle.post_spec.specs.Codecs as post
use Rattle.post_spec.specs.Steps.{Act, Give, Reading}
use Rattle.station_spec.specs.Report.{one_if}
use Rattle.car_rules.specs.declared.stage.CarPhase.{CarPhase}
use Rattle.car_rules.specs.declared.stage.CarPhase.TheVariants as phase
use Rattle.car_rules.specs.declared.stage.CarStage.{CarStage}
use Rattle.car_spec.specs.Codecs as car
use Rattle.car_spec.specs.States as car_states
use Rattle.pipe_spec.specs.Chargers.{IsCharger}
use Rattle.pipe_spec.specs.Histories.{Happening, StationDoes, moment, joined}
use Rattle.pipe_spec.specs.Turns.{Station, station_state, car_state, StationMayDo}
use Rattle.pipe_laws.specs.OneMessage.{IsShort}
use Rattle.pipe_laws.specs.PipePasts.{IsFirst}
use Rattle.matched_pairs.specs.Moves.{IsPair}
use Rattle.matched_pairs.specs.Power.{AllKeepTime}

-- the orders of limits that the station gave
abbrev pub is_limits : Act → Bool
is_limits (Give (order.Limits voltage current watts)) = true
is_limits other = false

abbrev pub limits_given : List Happening → ℕ
limits_given [] = 0
limits_given (StationDoes reading act ∷ h) = one_if (is_limits act) + limits_given h
limits_given (other ∷ h) = limits_given h

-- 100.0 V more with each order, up to the target
abbrev pub volts_behind : ℕ → ℕ → ℕ
volts_behind target orders = min target (1000 * orders)

-- what the charger told: all that it was ordered, or all but its newest order, which it tells (place 4) 20 ms behind it
pub data Rises (target given now : ℕ) (s : Charger) (f : Facts) : Type 0 where
  HasTold : slice_get s.moments 4 ≡ Some None → f.voltage ≡ volts_behind target given → Rises target given now s f
  IsToTell : (before at : ℕ) → given ≡ suc before → slice_get s.moments 4 ≡ Some (Some at) → at ≤ now + 20
      → f.voltage ≡ volts_behind target before → Rises target given now s f

-- and it gives what it told
pub record IsRising (target given now : ℕ) (s : Charger) (f : Facts) : Type 0 where
  pub gives : f.voltage ≡ s.voltage
  pub rises : Rises target given now s f

-- the car's session is in this phase
abbrev pub HasPhase : CarPhase → Option CarStage → Type 0
HasPhase ph None = ⊥
HasPhase ph (Some stage) = stage.phase ≡ ph

abbrev pub IsInPhase : CarPhase → Option car_states.Session → Type 0
IsInPhase ph None = ⊥
IsInPhase ph (Some session) = HasPhase ph session.stage

-- While the car pre-charges. 65,544: the bytes of the longest frame that is read
abbrev pub VoltagesRise : post.Codecs → car.Codecs → Type 0
VoltagesRise c cc = (st : Station) (plan : CarPlan) (h : List Happening) (charger : Charger) → IsPair c cc st.post (joined plan) → IsFirst c cc st plan h
    → AllByRecursion (IsShort 65544) h → AllKeepTime st (joined plan) h → IsInPhase phase.PreCharging (car_state (joined plan) h).session
    → IsCharger st.post.free h charger → IsRising plan.target_voltage (limits_given h) (moment h) charger (station_state st h).facts

-- where the post reads a PreCharge request, its charger has told all
abbrev pub VoltagesAreTold : post.Codecs → car.Codecs → Type 0
VoltagesAreTold c cc = (st : Station) (plan : CarPlan) (h : List Happening) (reading : Reading) (act : Act) → IsPair c cc st.post (joined plan)
    → IsFirst c cc st plan h → AllByRecursion (IsShort 65544) h → AllKeepTime st (joined plan) h → StationMayDo c st h (Some reading) act
    → IsInPhase phase.PreCharging (car_state (joined plan) h).session
    → (station_state st h).facts.voltage ≡ volts_behind plan.target_voltage (limits_given h)
