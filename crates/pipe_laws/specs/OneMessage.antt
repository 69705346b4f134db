-- Own: of all that both ends say, one message at most is under way, to the station or to the car.
use Rattle.std.specs.Prelude.{◌≡◌, ℕ, ◌≤◌, List, [], ◌++◌, length, ◌⊎◌}
use Rattle.std.specs.List.{AllByRecursion}
use Rattle.v2gtp_frames.specs.Frames.{frame}
use Rattle.post_spec.specs.Codecs.{Codecs}
use Rattle.car_spec.specs.Codecs as car
use Rattle.pipe_spec.specs.Histories.{Happening, StationDoes, CarDoes, station_says, car_says, to_station, to_car}
use Rattle.pipe_spec.specs.Turns.{Station}
use Rattle.pipe_spec.specs.Runs.{IsRun}

-- what is said has at most so many bytes
abbrev pub IsShort : ℕ → Happening → Type 0
IsShort most (StationDoes reading act) = length (station_says act) ≤ most
IsShort most (CarDoes act) = length (car_says act) ≤ most
IsShort most other = Unit {0}

-- the rest of a message of at most so many bytes
pub record IsRest (most : ℕ) (way : List ℕ) : Type 0 where
  pub payload : List ℕ
  pub front : List ℕ
  pub frame_is : frame payload ≡ front ++ way
  pub short : length (frame payload) ≤ most

-- to one end a message at most is under way, and nothing to the other
abbrev pub IsOneUnderWay : ℕ → List Happening → Type 0
IsOneUnderWay most h = (IsRest most (to_station h) × (to_car h ≡ [])) ⊎ ((to_station h ≡ []) × IsRest most (to_car h))

-- 65,544: the bytes of the longest frame that is read
abbrev pub OneIsUnderWay : Codecs → car.Codecs → Type 0
OneIsUnderWay c cc = (most : ℕ) (station : Station) (h : List Happening) → 8 ≤ most → most ≤ 65544 → IsRun c cc station h
    → AllByRecursion (IsShort most) h → IsOneUnderWay most h
