-- Own: the first session of the pipe between a station and a car whose plans match, as far as it has come, goes through the phases of its exchanges.
use Rattle.std.specs.Prelude.{◌≡◌, ℕ, suc, ◌+◌, List, [], ◌∷◌, length}
use Rattle.std.specs.List.{AllByRecursion}
use Rattle.session_words.specs.declared.plan.CarPlan.{CarPlan}
use Rattle.post_spec.specs.Codecs as post
use Rattle.post_spec.specs.Steps.{Bytes, Clock}
use Rattle.car_spec.specs.Codecs as car
use Rattle.car_spec.specs.States as car_states
use Rattle.car_spec.specs.Deciding as car_deciding
use Rattle.car_spec.specs.Hearing as car_hearing
use Rattle.pipe_spec.specs.Histories.{Happening, ChargerTells, StationHears, CarHears, TimePasses, StationDoes, moment, joined, to_station, to_car}
use Rattle.pipe_spec.specs.Counts.{exchanges, IsOk}
use Rattle.pipe_spec.specs.Turns.{Station, station_state, car_state}
use Rattle.pipe_laws.specs.OneMessage.{IsShort}
use Rattle.pipe_laws.specs.PipePasts.{IsFirst}
use Rattle.matched_pairs.specs.Phases.{Words, NoneYet, Read, IsIn}
use Rattle.matched_pairs.specs.Moves.{IsPair, IfRead, SuitsWords}
use Rattle.matched_pairs.specs.Hearings.{IsUndisturbed}
use Rattle.matched_pairs.specs.Repeats.{repeats_in, is_any, repeats_among}

-- where the session stands
abbrev pub IsAt : post.Codecs → car.Codecs → Station → CarPlan → Words → List Happening → Type 0
IsAt c cc st plan words h = IsIn c cc st.post plan words (station_state st h) (car_state plan h) (to_station h) (to_car h)

-- no end has a cause of its own: what the charger told suits the request that the post reads, its last order didn't fail, none of its events is a cause,
-- and no deadline is reached
abbrev pub GoesUndisturbed : post.Codecs → car.Codecs → Station → CarPlan → List Happening → Happening → Type 0
GoesUndisturbed c cc st plan h (StationDoes reading act) =
    (words : Words) → IsAt c cc st plan words h → IfRead reading (SuitsWords st.post plan words (station_state st h).facts)
GoesUndisturbed c cc st plan h (ChargerTells event) = IsUndisturbed st.post (station_state st (ChargerTells event ∷ h))
GoesUndisturbed c cc st plan h (StationHears bytes) = IsUndisturbed st.post (station_state st (StationHears bytes ∷ h))
GoesUndisturbed c cc st plan h (CarHears bytes) =
    car_deciding.timing plan (car_hearing.hearing (moment h) (Bytes bytes) (car_state plan h)) ≡ car_states.nothing
GoesUndisturbed c cc st plan h TimePasses = IsUndisturbed st.post (station_state st (TimePasses ∷ h))
    × (car_deciding.timing plan (car_hearing.hearing (moment h + 10) Clock (car_state plan h)) ≡ car_states.nothing)
GoesUndisturbed c cc st plan h other = Unit {0}

abbrev pub AllGoUndisturbed : post.Codecs → car.Codecs → Station → CarPlan → List Happening → Type 0
AllGoUndisturbed c cc st plan [] = Unit {0}
AllGoUndisturbed c cc st plan (e ∷ h) = AllGoUndisturbed c cc st plan h × GoesUndisturbed c cc st plan h e

-- the replies that the car has read, the response counted
abbrev pub count : Words → ℕ
count NoneYet = 0
count (Read dialect xs) = suc (length xs)

-- its words are exchanges, each of the OK class
pub record GoesWell (c : post.Codecs) (cc : car.Codecs) (st : Station) (plan : CarPlan) (h : List Happening) : Type 0 where
  pub words : Words
  pub phase : IsAt c cc st plan words h
  pub ok : AllByRecursion IsOk h
  pub exchanges_are : exchanges h ≡ count words
  pub repeats_are : repeats_in is_any plan h ≡ repeats_among st.post plan words

-- 65,544: the bytes of the longest frame that is read
abbrev pub SessionsGoWell : post.Codecs → car.Codecs → Type 0
SessionsGoWell c cc = (st : Station) (plan : CarPlan) (h : List Happening) → IsPair c cc st.post (joined plan) → IsFirst c cc st plan h
    → AllByRecursion (IsShort 65544) h → AllGoUndisturbed c cc st (joined plan) h → GoesWell c cc st (joined plan) h
