-- IEC 61851-1, annex A; IEC 61851-23: what the charger tells in a session in which all goes well.
use Rattle.std.specs.Prelude.{◌≡◌, ◌≤◌, ◌*◌, true, false, Some}
use Rattle.charge_world.specs.declared.heard.IsolationLevel.TheVariants as isolation
use Rattle.charge_world.specs.declared.heard.PilotState.{PilotState}
use Rattle.charge_world.specs.declared.heard.PilotState.TheVariants as pilot
use Rattle.charge_world.specs.declared.heard.PlantEvent.{PlantEvent}
use Rattle.charge_world.specs.declared.heard.PlantEvent.TheVariants as plant
use Rattle.contactor.specs.Standing.{is_against}
use Rattle.session_rules.specs.declared.causes.Watch.{Watch}
use Rattle.session_rules.specs.Causes.{needs_isolation, is_closing}
use Rattle.conforming_runs.specs.Requests.{IsSound}

-- a car is there, and it is ready while the contactor is live
abbrev pub IsThere : Watch → PilotState → Type 0
IsThere w pilot.B = w.live ≡ false
IsThere w pilot.C = Unit {0}
IsThere w pilot.D = Unit {0}
IsThere w pilot.A = ⊥
IsThere w pilot.E = ⊥
IsThere w pilot.F = ⊥

abbrev pub GoesWell : Watch → PlantEvent → Type 0
GoesWell w (plant.Pilot state) = IsThere w state
GoesWell w (plant.Isolation level) = IsSound (Some level) × (needs_isolation w.row ≡ true → level ≡ isolation.Valid)
GoesWell w (plant.Measured voltage current) = is_closing w.standing
    ≡ true → voltage * current * w.phases ≤ 105 * w.allowed
GoesWell w (plant.Feedback closed) = is_against w.standing closed ≡ false
GoesWell w plant.Paid = Unit {0}
GoesWell w plant.Emergency = ⊥
GoesWell w plant.StopAsked = Unit {0}
GoesWell w plant.RenewAsked = Unit {0}
