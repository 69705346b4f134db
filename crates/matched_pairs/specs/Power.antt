-- ISO 15118-2:2014, 8.7 (deadlines): what is left by which an end could have a cause of its own, once no measured power is one.
use Rattle.std.specs.Prelude.{◌+◌, List, [], ◌∷◌}
use Rattle.std.specs.List.{AllByRecursion}
use Rattle.session_words.specs.declared.plan.CarPlan.{CarPlan}
use Rattle.post_spec.specs.Codecs as post
use Rattle.post_spec.specs.Steps.{Bytes, Clock}
use Rattle.car_spec.specs.Codecs as car
use Rattle.car_spec.specs.Hearing as car_hearing
use Rattle.pipe_spec.specs.Histories.{Happening, ChargerTells, StationHears, CarHears, TimePasses, moment, joined}
use Rattle.pipe_spec.specs.Turns.{Station, station_state, car_state}
use Rattle.pipe_laws.specs.OneMessage.{IsShort}
use Rattle.pipe_laws.specs.PipePasts.{IsFirst}
use Rattle.matched_pairs.specs.Moves.{IsPair}
use Rattle.matched_pairs.specs.Limits.{IsInTime, IsCarInTime, AllKeepLimits}

-- no deadline is reached
abbrev pub KeepsTime : Station → CarPlan → List Happening → Happening → Type 0
KeepsTime st plan h (ChargerTells event) = IsInTime (station_state st (ChargerTells event ∷ h))
KeepsTime st plan h (StationHears bytes) = IsInTime (station_state st (StationHears bytes ∷ h))
KeepsTime st plan h (CarHears bytes) = IsCarInTime plan (car_hearing.hearing (moment h) (Bytes bytes) (car_state plan h))
KeepsTime st plan h TimePasses =
    IsInTime (station_state st (TimePasses ∷ h)) × IsCarInTime plan (car_hearing.hearing (moment h + 10) Clock (car_state plan h))
KeepsTime st plan h other = Unit {0}

abbrev pub AllKeepTime : Station → CarPlan → List Happening → Type 0
AllKeepTime st plan [] = Unit {0}
AllKeepTime st plan (e ∷ h) = AllKeepTime st plan h × KeepsTime st plan h e

-- 65,544: the bytes of the longest frame that is read
abbrev pub PowersAreWithin : post.Codecs → car.Codecs → Type 0
PowersAreWithin c cc = (st : Station) (plan : CarPlan) (h : List Happening) → IsPair c cc st.post (joined plan) → IsFirst c cc st plan h
    → AllByRecursion (IsShort 65544) h → AllKeepTime st (joined plan) h → AllKeepLimits st (joined plan) h
