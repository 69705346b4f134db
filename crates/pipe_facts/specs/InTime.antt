-- Own: in the first session of the pipe, what the station knows of its charger and when.
use Rattle.std.specs.Prelude.{◌≡◌, ◌≤◌, Bool, true, false, List, [], ◌∷◌, Some, ◌⊎◌}
use Rattle.charge_world.specs.declared.heard.IsolationLevel.TheVariants as isolation
use Rattle.charge_world.specs.declared.heard.PilotState.TheVariants as pilot
use Rattle.session_words.specs.declared.plan.CarPlan.{CarPlan}
use Rattle.post_spec.specs.Codecs.{Codecs}
use Rattle.car_spec.specs.Codecs as car
use Rattle.pipe_spec.specs.Histories.{Happening, CarComes, ChargerTells, StationHears, CarHears, TimePasses, CarGoes, moment, station_has_ended}
use Rattle.pipe_spec.specs.Turns.{Station, station_state}
use Rattle.pipe_laws.specs.PipePasts.{IsFirst}

-- the newest turn brought bytes to an end, so that nothing of the charger was due
abbrev pub is_told : List Happening → Bool
is_told [] = false
is_told (CarComes plan ∷ h) = false
is_told (ChargerTells event ∷ h) = false
is_told (StationHears bytes ∷ h) = true
is_told (CarHears bytes ∷ h) = true
is_told (TimePasses ∷ h) = false
is_told (CarGoes ∷ h) = false
is_told (other ∷ h) = is_told h

-- the car is ready
abbrev pub CarIsReady : Codecs → car.Codecs → Type 0
CarIsReady c cc = (station : Station) (plan : CarPlan) (h : List Happening) → IsFirst c cc station plan h → is_told h ≡ true
    → (station_state station h).facts.pilot ≡ pilot.C

-- from 100 ms on somebody paid, where that is needed
abbrev pub PaysInTime : Codecs → car.Codecs → Type 0
PaysInTime c cc = (station : Station) (plan : CarPlan) (h : List Happening) → IsFirst c cc station plan h → is_told h ≡ true
    → station_has_ended h ≡ false → 100 ≤ moment h → (station.post.free ≡ true) ⊎ ((station_state station h).facts.paid ≡ true)

-- from 300 ms on the isolation is valid
abbrev pub IsValidInTime : Codecs → car.Codecs → Type 0
IsValidInTime c cc = (station : Station) (plan : CarPlan) (h : List Happening) → IsFirst c cc station plan h → is_told h ≡ true
    → 300 ≤ moment h → (station_state station h).facts.isolation ≡ Some isolation.Valid
