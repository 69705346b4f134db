-- Own: what is kept of a pair, and what each happening makes of it.
use Rattle.std.specs.Prelude.{ℕ, ◌+◌, List, [], length, take, drop, if◌then◌else◌}
use Rattle.charge_world.specs.declared.heard.PlantEvent.{PlantEvent}
use Rattle.session_words.specs.declared.plan.CarPlan.{CarPlan}
use Rattle.plant_sim.specs.Charger.{Charger}
use Rattle.post_spec.specs.Steps.{Event, Plant, Bytes, Gone, Clock}
use Rattle.pipe_spec.specs.Numbers.{next, drawn}
use Rattle.pair_ends.specs.Ends.{PostSide, CarSide, post_side, car_side, post_heard_at, post_came_at, car_heard_at, car_came_at}
use Rattle.pair_talk.specs.declared.pair.Pair.{Pair}

-- both ends, the bytes under way to each, the clock, the number behind which the next is drawn, and the turns of the station
pub record Sides : Type 0 where
  pub post : PostSide
  pub car : CarSide
  pub to_station : List ℕ
  pub to_car : List ℕ
  pub moment : ℕ
  pub number : ℕ
  pub turns : ℕ

abbrev pub sides : Pair → Sides
sides pair = record {
  post = post_side pair.post;
  car = car_side pair.car;
  to_station = pair.to_station;
  to_car = pair.to_car;
  moment = pair.moment;
  number = pair.numbers;
  turns = pair.turns;
}

-- a car comes
abbrev pub with_car : Sides → Sides
with_car s = record s { post = post_came_at s.moment s.post; car = car_came_at s.moment s.car; to_station = []; to_car = [] }

-- the charger, which is behind this now, told its event
abbrev pub with_event : PlantEvent → Charger → Sides → Sides
with_event event charger s = record s { post = post_heard_at s.moment (Plant event) (record s.post { charger = charger }) }

-- the piece of these bytes that is heard next
abbrev pub piece_of : ℕ → List ℕ → List ℕ
piece_of number way = take (1 + drawn 64 number) way

abbrev pub with_piece_at_station : Sides → Sides
with_piece_at_station s = record s {
  post = post_heard_at s.moment (Bytes (piece_of s.number s.to_station)) s.post;
  to_station = drop (length (piece_of s.number s.to_station)) s.to_station;
  number = next s.number;
}

-- a car that has ended hears nothing
abbrev pub heard_by : ℕ → Event → CarSide → CarSide
heard_by now event s = if s.car.over then s else car_heard_at now event s

abbrev pub with_piece_at_car : Sides → Sides
with_piece_at_car s = record s {
  car = heard_by s.moment (Bytes (piece_of s.number s.to_car)) s.car;
  to_car = drop (length (piece_of s.number s.to_car)) s.to_car;
  number = next s.number;
}

-- ten milliseconds pass
abbrev pub later : Sides → Sides
later s = record s {
  post = post_heard_at (s.moment + 10) Clock s.post;
  car = heard_by (s.moment + 10) Clock s.car;
  moment = s.moment + 10;
}

-- the connection goes
abbrev pub gone : Sides → Sides
gone s = record s { post = post_heard_at s.moment Gone s.post }

-- the next car has this plan
abbrev pub with_plan : CarPlan → Sides → Sides
with_plan plan s = record s { car = record s.car { plan = plan } }
