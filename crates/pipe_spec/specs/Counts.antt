-- Own: what is counted of a history, and how its newest session has gone.
use Rattle.std.specs.Prelude.{ℕ, ◌+◌, Bool, true, false, ◌&&◌, List, [], ◌∷◌, length, Option, Some, None, unwrap_or}
use Rattle.std.specs.List.{sum_by}
use Rattle.charge_world.specs.declared.ports.Order.{Order}
use Rattle.charge_world.specs.declared.ports.Order.TheVariants as order
use Rattle.session_words.specs.Codes.{IsOkClass}
use Rattle.post_spec.specs.Sessions.{replies}
use Rattle.post_spec.specs.Steps.{Act, Give, Seen, Heard, Did}
use Rattle.station_spec.specs.Report.{one_if, closed}
use Rattle.car_spec.specs.Codecs.{Judged, Chosen, Told, WrongSide, Refused}
use Rattle.car_spec.specs.Steps as car
use Rattle.pipe_spec.specs.Histories.{Happening, CarComes, StationDoes, CarReads, CarDoes, station_past, station_cause, car_cause}

-- an exchange is a reply that the car heard, the response to its offer counted
abbrev pub is_reply : Judged → Bool
is_reply (Chosen dialect) = true
is_reply (Told reply) = true
is_reply WrongSide = false
is_reply Refused = false

-- the exchanges of the newest session
abbrev pub exchanges : List Happening → ℕ
exchanges [] = 0
exchanges (CarComes plan ∷ h) = 0
exchanges (CarReads judged ∷ h) = one_if (is_reply judged) + exchanges h
exchanges (other ∷ h) = exchanges h

-- the number of the cause by which an end's session ended, 0 where it hasn't
abbrev pub station_cause_number : List Happening → ℕ
station_cause_number h = unwrap_or (station_cause h) 0

abbrev pub car_cause_number : List Happening → ℕ
car_cause_number h = unwrap_or (car_cause h) 0

-- the orders to open that the charger took
abbrev pub orders_open : Act → Bool
orders_open (Give order.Open) = true
orders_open other = false

abbrev pub opened : List Seen → ℕ
opened [] = 0
opened (Heard at event ∷ past) = opened past
opened (Did act taken ∷ past) = one_if (orders_open act && taken) + opened past

-- Over the whole history: the replies of the station, their bytes, and the orders to close and to open that its charger took.
pub record Counts : Type 0 where
  pub replies : ℕ
  pub bytes : ℕ
  pub closed : ℕ
  pub opened : ℕ

abbrev pub counts : List Happening → Counts
counts h = record {
  replies = length (replies (station_past h));
  bytes = sum_by length (replies (station_past h));
  closed = closed (station_past h);
  opened = opened (station_past h);
}

-- the last order of an end to its contactor in the newest session
abbrev pub contactor_order : Order → Option Order → Option Order
contactor_order order.Open earlier = Some order.Open
contactor_order order.Close earlier = Some order.Close
contactor_order (order.Limits voltage current watts) earlier = earlier

abbrev pub station_ordered : Act → Option Order → Option Order
station_ordered (Give order) earlier = contactor_order order earlier
station_ordered other earlier = earlier

abbrev pub station_order : List Happening → Option Order
station_order [] = None
station_order (CarComes plan ∷ h) = None
station_order (StationDoes reading act ∷ h) = station_ordered act (station_order h)
station_order (other ∷ h) = station_order h

abbrev pub car_ordered : car.Act → Option Order → Option Order
car_ordered (car.Give order) earlier = contactor_order order earlier
car_ordered other earlier = earlier

abbrev pub car_order : List Happening → Option Order
car_order [] = None
car_order (CarComes plan ∷ h) = None
car_order (CarDoes act ∷ h) = car_ordered act (car_order h)
car_order (other ∷ h) = car_order h

-- what a car heard is of the OK class: a dialect was chosen, and each code begins with OK
abbrev pub IsOkReply : Judged → Type 0
IsOkReply (Chosen None) = ⊥
IsOkReply (Chosen (Some dialect)) = Unit {0}
IsOkReply (Told reply) = IsOkClass reply.code
IsOkReply WrongSide = ⊥
IsOkReply Refused = ⊥

abbrev pub IsOk : Happening → Type 0
IsOk (CarReads judged) = IsOkReply judged
IsOk other = Unit {0}
