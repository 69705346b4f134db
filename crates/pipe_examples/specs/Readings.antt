-- Own: what a short history tells.
use Rattle.std.specs.Prelude.{◌≡◌, true, false, List, [], ◌∷◌, None}
use Rattle.charge_world.specs.declared.ports.Order.TheVariants as order
use Rattle.post_spec.specs.Steps as steps
use Rattle.car_spec.specs.Codecs.{Chosen, WrongSide}
use Rattle.car_spec.specs.Steps as car
use Rattle.car_examples.specs.Fixtures.{dc_car}
use Rattle.station_examples.specs.Fixtures.{dc_post}
use Rattle.pipe_spec.specs.Histories.{Happening, CarComes, StationHears, CarHears, TimePasses, StationDoes, CarReads, CarDoes, NumberIsDrawn, moment, draws, car_steps, station_hearings, car_hearings, to_station, to_car}
use Rattle.pipe_spec.specs.Turns.{is_over}
use Rattle.pipe_spec.specs.Counts.{exchanges, counts}
use Rattle.pipe_examples.specs.Whole.{station_of}

-- the car's offer of five bytes comes in two pieces, and is answered by three
abbrev pub asked : List Happening
asked = CarDoes (car.Say car.Offer (1 ∷ 2 ∷ 3 ∷ 4 ∷ 5 ∷ [])) ∷ CarComes dc_car ∷ NumberIsDrawn ∷ []

abbrev pub half_heard : List Happening
half_heard = StationHears (1 ∷ 2 ∷ []) ∷ TimePasses ∷ asked

abbrev pub answered : List Happening
answered = StationDoes None (steps.Send (7 ∷ 8 ∷ 9 ∷ [])) ∷ StationHears (3 ∷ 4 ∷ 5 ∷ []) ∷ half_heard

abbrev pub ended : List Happening
ended = CarDoes (car.End 5) ∷ CarReads (Chosen None) ∷ CarHears (7 ∷ 8 ∷ 9 ∷ []) ∷ StationDoes None (steps.Give order.Open) ∷ answered

abbrev pub KeepsTheRest : Type 0
KeepsTheRest = to_station half_heard ≡ 3 ∷ 4 ∷ 5 ∷ []

abbrev pub AnswersAll : Type 0
AnswersAll = to_car answered ≡ 7 ∷ 8 ∷ 9 ∷ []

abbrev pub PassesTime : Type 0
PassesTime = moment answered ≡ 10

abbrev pub DrawsForPieces : Type 0
DrawsForPieces = draws answered ≡ 3

abbrev pub HearsAtBothEnds : Type 0
HearsAtBothEnds = station_hearings ended ≡ 4

abbrev pub CarHearsLess : Type 0
CarHearsLess = car_hearings ended ≡ 3

abbrev pub CarIsDeaf : Type 0
CarIsDeaf = car_steps (TimePasses ∷ ended) ≡ car_steps ended

abbrev pub IsOverByOne : Type 0
IsOverByOne = is_over (station_of dc_post) ended ≡ true

abbrev pub GoesOnUnderWay : Type 0
GoesOnUnderWay = is_over (station_of dc_post) (CarDoes (car.End 5) ∷ answered) ≡ false

abbrev pub IsOverByTurns : Type 0
IsOverByTurns = is_over (record (station_of dc_post) { turns = 1 }) asked ≡ true

abbrev pub CountsExchanges : Type 0
CountsExchanges = exchanges ended ≡ 1

abbrev pub CountsNoOther : Type 0
CountsNoOther = exchanges (CarReads WrongSide ∷ answered) ≡ 0

abbrev pub CountsAll : Type 0
CountsAll = counts ended ≡ record { replies = 1; bytes = 3; closed = 0; opened = 1 }

abbrev pub BeginsAnew : Type 0
BeginsAnew = car_steps (CarComes dc_car ∷ ended) ≡ car.Hears 10 (steps.Came 1) ∷ []

abbrev pub DropsTheRest : Type 0
DropsTheRest = to_station (CarComes dc_car ∷ half_heard) ≡ []
