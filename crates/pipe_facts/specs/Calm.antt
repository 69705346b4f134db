-- IEC 61851-1, annex A; IEC 61851-23: what a simulated charger tells a station over the pipe is what one tells where nothing goes wrong.
use Rattle.std.specs.Prelude.{◌≡◌, false, List, ◌⊎◌}
use Rattle.std.specs.List.{AllByRecursion}
use Rattle.charge_world.specs.declared.heard.IsolationLevel.TheVariants as isolation
use Rattle.charge_world.specs.declared.heard.PilotState.TheVariants as pilot
use Rattle.charge_world.specs.declared.heard.PlantEvent.{PlantEvent}
use Rattle.charge_world.specs.declared.heard.PlantEvent.TheVariants as plant
use Rattle.charge_world.specs.declared.ports.Order.TheVariants as order
use Rattle.session_words.specs.declared.facts.Facts.{Facts}
use Rattle.session_words.specs.declared.phase.Standing.TheVariants as standing
use Rattle.post_spec.specs.Codecs.{Codecs}
use Rattle.post_spec.specs.Steps.{Act, Give, Send, Answer, End}
use Rattle.car_spec.specs.Codecs as car
use Rattle.conforming_runs.specs.Requests.{IsSound}
use Rattle.pipe_spec.specs.Histories.{Happening, ChargerTells, StationDoes}
use Rattle.pipe_spec.specs.Runs.{IsRun}
use Rattle.pipe_spec.specs.Turns.{Station, station_state}

-- a car that is ready, isolation that is measured or valid, payment, measurements and feedback. Nobody asks to stop or to renegotiate
abbrev pub IsCalm : PlantEvent → Type 0
IsCalm (plant.Pilot state) = state ≡ pilot.C
IsCalm (plant.Isolation level) = (level ≡ isolation.Invalid) ⊎ (level ≡ isolation.Valid)
IsCalm (plant.Measured voltage current) = Unit {0}
IsCalm (plant.Feedback closed) = Unit {0}
IsCalm plant.Paid = Unit {0}
IsCalm plant.Emergency = ⊥
IsCalm plant.StopAsked = ⊥
IsCalm plant.RenewAsked = ⊥

abbrev pub TellsCalmly : Happening → Type 0
TellsCalmly (ChargerTells event) = IsCalm event
TellsCalmly other = Unit {0}

abbrev pub ToldIsCalm : Codecs → car.Codecs → Type 0
ToldIsCalm c cc = (station : Station) (h : List Happening) → IsRun c cc station h → AllByRecursion TellsCalmly h

-- what a station knows then
pub record AreCalm (facts : Facts) : Type 0 where
  pub pilot : (facts.pilot ≡ pilot.A) ⊎ (facts.pilot ≡ pilot.C)
  pub isolation : IsSound facts.isolation
  pub stop : facts.stop ≡ false
  pub renew : facts.renew ≡ false

abbrev pub FactsAreCalm : Codecs → car.Codecs → Type 0
FactsAreCalm c cc = (station : Station) (h : List Happening) → IsRun c cc station h → AreCalm (station_state station h).facts

-- the contactor stays open while it has no order
abbrev pub LeavesContactorBy : Act → Type 0
LeavesContactorBy (Give order.Open) = ⊥
LeavesContactorBy (Give order.Close) = ⊥
LeavesContactorBy (Give (order.Limits voltage current watts)) = Unit {0}
LeavesContactorBy (Send bytes) = Unit {0}
LeavesContactorBy (Answer bytes) = Unit {0}
LeavesContactorBy (End cause) = Unit {0}

abbrev pub LeavesContactor : Happening → Type 0
LeavesContactor (StationDoes reading act) = LeavesContactorBy act
LeavesContactor other = Unit {0}

abbrev pub StaysOpened : Codecs → car.Codecs → Type 0
StaysOpened c cc = (station : Station) (h : List Happening) → IsRun c cc station h → AllByRecursion LeavesContactor h
    → (station_state station h).facts.contactor ≡ standing.Opened
