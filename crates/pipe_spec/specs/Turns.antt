-- Own: what may happen next in the pipe. It loses nothing, and cuts what is sent into pieces.
use Rattle.std.specs.Prelude.{◌≡◌, ◌≢◌, ℕ, ◌+◌, nat_le, Bool, true, false, ◌&&◌, ◌||◌, List, [], ◌∷◌, take, Option, Some, None, ◌⊎◌}
use Rattle.session_words.specs.declared.plan.CarPlan.{CarPlan}
use Rattle.session_words.specs.declared.plan.PostPlan.{PostPlan}
use Rattle.plant_sim.specs.Charger.{Charger, Comes, NoneReached}
use Rattle.post_spec.specs.Codecs.{Codecs}
use Rattle.post_spec.specs.Steps.{Act, Reading}
use Rattle.station_spec.specs.States.{State}
use Rattle.station_spec.specs.Acting.{state}
use Rattle.station_spec.specs.Next.{IsQuiet, Acts}
use Rattle.station_spec.specs.Sharing.{Shows}
use Rattle.car_spec.specs.Codecs as car
use Rattle.car_spec.specs.Steps as car_steps_of
use Rattle.car_spec.specs.States as car_states
use Rattle.car_spec.specs.Acting as car_acting
use Rattle.car_spec.specs.Next as car_next
use Rattle.pipe_spec.specs.Numbers.{drawn, behind}
use Rattle.pipe_spec.specs.Chargers.{IsCharger}
use Rattle.pipe_spec.specs.Histories.{Happening, CarComes, ChargerTells, StationHears, CarHears, TimePasses, StationDoes, CarReads, CarDoes, CarGoes, NumberIsDrawn, moment, draws, car_plan, station_has_ended, car_has_ended, station_steps, car_steps, station_hearings, car_hearings, to_station, to_car}

-- what a history is of: a site with one post, and the number behind which its numbers are drawn
pub record Station : Type 0 where
  pub limit : ℕ
  pub turns : ℕ
  pub post : PostPlan
  pub seed : ℕ

-- what both ends keep, and whether they have nothing to do
abbrev pub station_state : Station → List Happening → State
station_state station h = state station.post (station_steps h)

abbrev pub car_state : CarPlan → List Happening → car_states.State
car_state plan h = car_acting.state plan (car_steps h)

abbrev pub StationRests : Station → List Happening → Type 0
StationRests station h = IsQuiet station.post (station_state station h)

abbrev pub CarRestsBy : Option CarPlan → List Happening → Type 0
CarRestsBy None h = Unit {0}
CarRestsBy (Some plan) h = car_next.IsQuiet plan (car_state plan h)

pub record BothRest (station : Station) (h : List Happening) : Type 0 where
  pub station_rests : StationRests station h
  pub car_rests : CarRestsBy (car_plan h) h

-- what the station does: its post is alone at its site
abbrev pub StationMayDo : Codecs → Station → List Happening → Option Reading → Act → Type 0
StationMayDo c station h reading act = Acts c station.post (Shows station.limit [] []) (station_state station h) reading act true

-- what the car reads and does, once the station rests
abbrev pub CarMayReadBy : car.Codecs → Option CarPlan → List Happening → car.Judged → Type 0
CarMayReadBy c None h judged = ⊥
CarMayReadBy c (Some plan) h judged = car_next.MayRead c plan (car_state plan h) judged

abbrev pub CarMayDoBy : car.Codecs → Option CarPlan → List Happening → car_steps_of.Act → Type 0
CarMayDoBy c None h act = ⊥
CarMayDoBy c (Some plan) h act = car_next.MayAct c plan (car_state plan h) act true

-- a number is drawn for each piece: so many bytes are heard, the first of those under way, or all where there are fewer
abbrev pub piece_length : Station → List Happening → ℕ
piece_length station h = 1 + drawn 64 (behind station.seed (draws h))

pub record IsPiece (station : Station) (h : List Happening) (way bytes : List ℕ) : Type 0 where
  pub under_way : way ≢ []
  pub bytes_are : bytes ≡ take (piece_length station h) way

-- A turn. The charger goes first, then what is under way to the station, then what is under way to the car; else ten milliseconds pass.
abbrev pub IsTurn : Station → Charger → List Happening → Happening → Type 0
IsTurn station charger h (ChargerTells event) = (after : Charger) × Comes charger (moment h) event after
IsTurn station charger h (StationHears bytes) = NoneReached charger.moments (moment h) × IsPiece station h (to_station h) bytes
IsTurn station charger h (CarHears bytes) =
    NoneReached charger.moments (moment h) × (to_station h ≡ []) × IsPiece station h (to_car h) bytes
IsTurn station charger h TimePasses = NoneReached charger.moments (moment h) × (to_station h ≡ []) × (to_car h ≡ [])
IsTurn station charger h other = ⊥

-- The session of the pipe is over: both ends' sessions have ended; an end has used up its plan's turns in it; or one has ended, and nothing
-- is under way.
abbrev pub is_none : List ℕ → Bool
is_none [] = true
is_none (byte ∷ bytes) = false

abbrev pub nothing_under_way : List Happening → Bool
nothing_under_way h = is_none (to_station h) && is_none (to_car h)

abbrev pub car_is_spent : Option CarPlan → List Happening → Bool
car_is_spent None h = false
car_is_spent (Some plan) h = nat_le plan.turns (car_hearings h)

abbrev pub is_over : Station → List Happening → Bool
is_over station h =
    (station_has_ended h && car_has_ended h) || nat_le station.turns (station_hearings h) || car_is_spent (car_plan h) h
    || ((station_has_ended h || car_has_ended h) && nothing_under_way h)

pub record MayTurn (station : Station) (h : List Happening) (e : Happening) : Type 0 where
  pub plan : CarPlan
  pub came : car_plan h ≡ Some plan
  pub rest : BothRest station h
  pub goes_on : is_over station h ≡ false
  pub charger : Charger
  pub charger_is : IsCharger station.post.free h charger
  pub turn : IsTurn station charger h e

-- The connection of a session that is over goes where the station's still stands, so that the next car may come.
pub record MayGo (station : Station) (h : List Happening) : Type 0 where
  pub plan : CarPlan
  pub came : car_plan h ≡ Some plan
  pub rest : BothRest station h
  pub over : is_over station h ≡ true
  pub stands : station_has_ended h ≡ false

pub record MayFollow (station : Station) (h : List Happening) : Type 0 where
  pub rest : BothRest station h
  pub over : is_over station h ≡ true
  pub ended : station_has_ended h ≡ true

-- a car comes as the first one, or behind one whose session is over
abbrev pub MayCome : Station → List Happening → Type 0
MayCome station h = (car_plan h ≡ None) ⊎ MayFollow station h

-- what may happen behind a history. What an end has to do is done at once, the station's part first
abbrev pub Follows : Codecs → car.Codecs → Station → List Happening → Happening → Type 0
Follows c cc station h (CarComes plan) = MayCome station h
Follows c cc station h (StationDoes reading act) = StationMayDo c station h reading act
Follows c cc station h (CarReads judged) = StationRests station h × CarMayReadBy cc (car_plan h) h judged
Follows c cc station h (CarDoes act) = StationRests station h × CarMayDoBy cc (car_plan h) h act
Follows c cc station h CarGoes = MayGo station h
Follows c cc station h NumberIsDrawn = BothRest station h
Follows c cc station h turn = MayTurn station h turn
