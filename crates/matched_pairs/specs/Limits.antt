-- ISO 15118-2:2014, 8.7 (deadlines); IEC 61851-23 (power): what is left by which an end could have a cause of its own.
use Rattle.std.specs.Prelude.{◌≡◌, ◌+◌, List, [], ◌∷◌, Option, Some, None}
use Rattle.std.specs.List.{AllByRecursion}
use Rattle.charge_world.specs.declared.heard.PlantEvent.{PlantEvent}
use Rattle.charge_world.specs.declared.heard.PlantEvent.TheVariants as plant
use Rattle.session_words.specs.declared.plan.CarPlan.{CarPlan}
use Rattle.session_words.specs.declared.plan.PostPlan.{PostPlan}
use Rattle.session_rules.specs.Causes.{plant_cause}
use Rattle.post_spec.specs.Codecs as post
use Rattle.post_spec.specs.Steps.{Bytes, Clock}
use Rattle.station_spec.specs.States.{Session, State, nothing}
use Rattle.station_spec.specs.Deciding.{timing, watch}
use Rattle.car_spec.specs.Codecs as car
use Rattle.car_spec.specs.States as car_states
use Rattle.car_spec.specs.Deciding as car_deciding
use Rattle.car_spec.specs.Hearing as car_hearing
use Rattle.pipe_spec.specs.Histories.{Happening, ChargerTells, StationHears, CarHears, TimePasses, moment, joined}
use Rattle.pipe_spec.specs.Turns.{Station, station_state, car_state}
use Rattle.pipe_laws.specs.OneMessage.{IsShort}
use Rattle.pipe_laws.specs.PipePasts.{IsFirst}
use Rattle.matched_pairs.specs.Moves.{IsPair}
use Rattle.matched_pairs.specs.Courses.{AllGoUndisturbed}

-- the deadline of a post isn't reached
abbrev pub IsInTime : State → Type 0
IsInTime s = timing s.session s.clock s.live ≡ nothing

-- nor one of a car
abbrev pub IsCarInTime : CarPlan → car_states.State → Type 0
IsCarInTime plan k = car_deciding.timing plan k ≡ car_states.nothing

-- what is measured is no cause
abbrev pub IsWithin : PostPlan → Option Session → PlantEvent → State → Type 0
IsWithin plan None event s = Unit {0}
IsWithin plan (Some session) (plant.Measured voltage current) s = plant_cause (watch plan session s) (plant.Measured voltage current) ≡ None
IsWithin plan (Some session) other s = Unit {0}

abbrev pub KeepsLimits : Station → CarPlan → List Happening → Happening → Type 0
KeepsLimits st plan h (ChargerTells event) = IsInTime (station_state st (ChargerTells event ∷ h))
    × IsWithin st.post (station_state st (ChargerTells event ∷ h)).session event (station_state st (ChargerTells event ∷ h))
KeepsLimits st plan h (StationHears bytes) = IsInTime (station_state st (StationHears bytes ∷ h))
KeepsLimits st plan h (CarHears bytes) = IsCarInTime plan (car_hearing.hearing (moment h) (Bytes bytes) (car_state plan h))
KeepsLimits st plan h TimePasses =
    IsInTime (station_state st (TimePasses ∷ h)) × IsCarInTime plan (car_hearing.hearing (moment h + 10) Clock (car_state plan h))
KeepsLimits st plan h other = Unit {0}

abbrev pub AllKeepLimits : Station → CarPlan → List Happening → Type 0
AllKeepLimits st plan [] = Unit {0}
AllKeepLimits st plan (e ∷ h) = AllKeepLimits st plan h × KeepsLimits st plan h e

-- 65,544: the bytes of the longest frame that is read
abbrev pub SessionsAreUndisturbed : post.Codecs → car.Codecs → Type 0
SessionsAreUndisturbed c cc = (st : Station) (plan : CarPlan) (h : List Happening) → IsPair c cc st.post (joined plan) → IsFirst c cc st plan h
    → AllByRecursion (IsShort 65544) h → AllKeepLimits st (joined plan) h → AllGoUndisturbed c cc st (joined plan) h
