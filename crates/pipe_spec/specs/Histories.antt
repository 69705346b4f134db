-- Own: what happens between a station and a car that are joined by a pipe in memory, and what each of both goes by. Histories have the
-- newest first. Each reading is of the history by itself.
use Rattle.std.specs.Prelude.{ℕ, suc, ◌+◌, Bool, true, if◌then◌else◌, List, [], ◌∷◌, ◌++◌, length, drop, map, Option, Some, None, is_some}
use Rattle.charge_world.specs.declared.heard.PlantEvent.{PlantEvent}
use Rattle.session_words.specs.declared.plan.CarPlan.{CarPlan}
use Rattle.post_spec.specs.Steps as post
use Rattle.post_spec.specs.Steps.{Reading, seen_of}
use Rattle.car_spec.specs.Codecs.{Judged}
use Rattle.car_spec.specs.Steps as car

-- What happens: a car with this plan comes; the charger tells the station something; a piece of what is under way is heard; time passes; an
-- end does what it has to do, with what the station read for it, or the car reads a payload; the connection goes; a number is drawn.
pub data Happening : Type 0 where
  CarComes : (plan : CarPlan) → Happening
  ChargerTells : (event : PlantEvent) → Happening
  StationHears : (bytes : List ℕ) → Happening
  CarHears : (bytes : List ℕ) → Happening
  TimePasses : Happening
  StationDoes : (reading : Option Reading) (act : post.Act) → Happening
  CarReads : (judged : Judged) → Happening
  CarDoes : (act : car.Act) → Happening
  CarGoes : Happening
  NumberIsDrawn : Happening

-- the clock of both ends, in milliseconds
abbrev pub moment : List Happening → ℕ
moment [] = 0
moment (TimePasses ∷ h) = moment h + 10
moment (other ∷ h) = moment h

-- the numbers that were drawn: one for each piece, and those that a caller asked for
abbrev pub draws : List Happening → ℕ
draws [] = 0
draws (StationHears bytes ∷ h) = suc (draws h)
draws (CarHears bytes ∷ h) = suc (draws h)
draws (NumberIsDrawn ∷ h) = suc (draws h)
draws (other ∷ h) = draws h

-- the plan of the newest car. It is joined to the station, so it looks for none
abbrev pub joined : CarPlan → CarPlan
joined plan = record plan { sdp = 0 }

-- with a port, which a car that is joined to a station doesn't dial
abbrev pub ported : CarPlan → CarPlan
ported plan = record plan { tcp = Some 15118 }

abbrev pub car_plan : List Happening → Option CarPlan
car_plan [] = None
car_plan (CarComes plan ∷ h) = Some (joined plan)
car_plan (other ∷ h) = car_plan h

-- the causes by which the sessions of both ends have ended since the newest car came
abbrev pub station_ended_by : post.Act → Option ℕ → Option ℕ
station_ended_by (post.End cause) earlier = Some cause
station_ended_by other earlier = earlier

abbrev pub station_cause : List Happening → Option ℕ
station_cause [] = None
station_cause (CarComes plan ∷ h) = None
station_cause (StationDoes reading act ∷ h) = station_ended_by act (station_cause h)
station_cause (other ∷ h) = station_cause h

abbrev pub car_ended_by : car.Act → Option ℕ → Option ℕ
car_ended_by (car.End cause) earlier = Some cause
car_ended_by other earlier = earlier

abbrev pub car_cause : List Happening → Option ℕ
car_cause [] = None
car_cause (CarComes plan ∷ h) = None
car_cause (CarDoes act ∷ h) = car_ended_by act (car_cause h)
car_cause (other ∷ h) = car_cause h

abbrev pub station_has_ended : List Happening → Bool
station_has_ended h = is_some (station_cause h)

abbrev pub car_has_ended : List Happening → Bool
car_has_ended h = is_some (car_cause h)

-- the token of every connection (own)
abbrev pub token : ℕ
token = 1

-- the steps of the station. The pipe takes all that is done
abbrev pub station_steps : List Happening → List post.Step
station_steps [] = []
station_steps (CarComes plan ∷ h) = post.Hears (moment h) (post.Came token) ∷ station_steps h
station_steps (ChargerTells event ∷ h) = post.Hears (moment h) (post.Plant event) ∷ station_steps h
station_steps (StationHears bytes ∷ h) = post.Hears (moment h) (post.Bytes bytes) ∷ station_steps h
station_steps (TimePasses ∷ h) = post.Hears (moment h + 10) post.Clock ∷ station_steps h
station_steps (CarGoes ∷ h) = post.Hears (moment h) post.Gone ∷ station_steps h
station_steps (StationDoes reading act ∷ h) = post.Does reading act true ∷ station_steps h
station_steps (other ∷ h) = station_steps h

abbrev pub station_past : List Happening → List post.Seen
station_past h = map seen_of (station_steps h)

-- the steps of the newest car. One that has ended hears nothing
abbrev pub heard_by_car : List Happening → car.Step → List car.Step → List car.Step
heard_by_car h step steps = if car_has_ended h then steps else step ∷ steps

abbrev pub car_steps : List Happening → List car.Step
car_steps [] = []
car_steps (CarComes plan ∷ h) = car.Hears (moment h) (post.Came token) ∷ []
car_steps (CarHears bytes ∷ h) = heard_by_car h (car.Hears (moment h) (post.Bytes bytes)) (car_steps h)
car_steps (TimePasses ∷ h) = heard_by_car h (car.Hears (moment h + 10) post.Clock) (car_steps h)
car_steps (CarReads judged ∷ h) = car.Reads judged ∷ car_steps h
car_steps (CarDoes act ∷ h) = car.Does act true ∷ car_steps h
car_steps (other ∷ h) = car_steps h

-- the hearings of both ends since the newest car came, its coming counted
abbrev pub station_hearings : List Happening → ℕ
station_hearings [] = 0
station_hearings (CarComes plan ∷ h) = 1
station_hearings (ChargerTells event ∷ h) = suc (station_hearings h)
station_hearings (StationHears bytes ∷ h) = suc (station_hearings h)
station_hearings (TimePasses ∷ h) = suc (station_hearings h)
station_hearings (CarGoes ∷ h) = suc (station_hearings h)
station_hearings (other ∷ h) = station_hearings h

abbrev pub car_hearings : List Happening → ℕ
car_hearings [] = 0
car_hearings (CarComes plan ∷ h) = 1
car_hearings (CarHears bytes ∷ h) = if car_has_ended h then car_hearings h else suc (car_hearings h)
car_hearings (TimePasses ∷ h) = if car_has_ended h then car_hearings h else suc (car_hearings h)
car_hearings (other ∷ h) = car_hearings h

-- the bytes under way to each end, the first to be heard first: what was sent there, without what was heard of it. What is under way as
-- a car comes is dropped
abbrev pub station_says : post.Act → List ℕ
station_says (post.Send bytes) = bytes
station_says other = []

abbrev pub car_says : car.Act → List ℕ
car_says (car.Say spoken bytes) = bytes
car_says other = []

abbrev pub to_station : List Happening → List ℕ
to_station [] = []
to_station (CarComes plan ∷ h) = []
to_station (CarDoes act ∷ h) = to_station h ++ car_says act
to_station (StationHears bytes ∷ h) = drop (length bytes) (to_station h)
to_station (other ∷ h) = to_station h

abbrev pub to_car : List Happening → List ℕ
to_car [] = []
to_car (CarComes plan ∷ h) = []
to_car (StationDoes reading act ∷ h) = to_car h ++ station_says act
to_car (CarHears bytes ∷ h) = drop (length bytes) (to_car h)
to_car (other ∷ h) = to_car h
