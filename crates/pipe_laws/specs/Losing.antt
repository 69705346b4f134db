-- Own: the pipe loses nothing. What was said in the newest session is what was heard of it, and then what is under way.
use Rattle.std.specs.Prelude.{◌≡◌, ℕ, List, [], ◌∷◌, ◌++◌}
use Rattle.post_spec.specs.Codecs.{Codecs}
use Rattle.post_spec.specs.Steps.{seen_of}
use Rattle.car_spec.specs.Codecs as car
use Rattle.post_spec.specs.Steps as post
use Rattle.pipe_spec.specs.Histories.{Happening, CarComes, StationHears, CarHears, StationDoes, CarDoes, station_says, car_says, to_station, to_car, station_past}
use Rattle.pipe_spec.specs.Pasts.{station_entries}
use Rattle.pipe_spec.specs.Turns.{Station}
use Rattle.pipe_spec.specs.Runs.{IsRun}

-- all that the car said, and all of it that the station heard
abbrev pub said_by_car : List Happening → List ℕ
said_by_car [] = []
said_by_car (CarComes plan ∷ h) = []
said_by_car (CarDoes act ∷ h) = said_by_car h ++ car_says act
said_by_car (other ∷ h) = said_by_car h

abbrev pub heard_by_station : List Happening → List ℕ
heard_by_station [] = []
heard_by_station (CarComes plan ∷ h) = []
heard_by_station (StationHears bytes ∷ h) = heard_by_station h ++ bytes
heard_by_station (other ∷ h) = heard_by_station h

-- all that the station said, and all of it that came to the car
abbrev pub said_by_station : List Happening → List ℕ
said_by_station [] = []
said_by_station (CarComes plan ∷ h) = []
said_by_station (StationDoes reading act ∷ h) = said_by_station h ++ station_says act
said_by_station (other ∷ h) = said_by_station h

abbrev pub come_to_car : List Happening → List ℕ
come_to_car [] = []
come_to_car (CarComes plan ∷ h) = []
come_to_car (CarHears bytes ∷ h) = come_to_car h ++ bytes
come_to_car (other ∷ h) = come_to_car h

pub record IsWhole (h : List Happening) : Type 0 where
  pub asked : said_by_car h ≡ heard_by_station h ++ to_station h
  pub answered : said_by_station h ≡ come_to_car h ++ to_car h

abbrev pub NothingIsLost : Codecs → car.Codecs → Type 0
NothingIsLost c cc = (station : Station) (h : List Happening) → IsRun c cc station h → IsWhole h

-- the station's past shows its steps
abbrev pub PastsShowSteps : Type 0
PastsShowSteps = (h : List Happening) → post.seen 1 (station_entries h) ≡ station_past h
