-- Own: a session over the pipe, computed from the definitions of both ends: one happening behind the other. A message is a frame without
-- a payload, and what it says is told beside it.
use Rattle.std.specs.Prelude.{ℕ, zero, suc, ◌+◌, min, Bool, true, false, if◌then◌else◌, List, [], ◌∷◌, take, Option, Some, None}
use Rattle.std.specs.List.{list_any}
use Rattle.charge_world.specs.declared.heard.PlantEvent.{PlantEvent}
use Rattle.charge_world.specs.declared.offer.Dialect.{Dialect}
use Rattle.charge_world.specs.declared.offer.Dialect.TheVariants as dialect
use Rattle.session_words.specs.declared.plan.CarPlan.{CarPlan}
use Rattle.session_words.specs.Causes.{number_of}
use Rattle.v2gtp_frames.specs.Frames.{frame}
use Rattle.plant_sim.specs.Charger.{Charger, idle, came}
use Rattle.post_spec.specs.Codecs as asked
use Rattle.post_spec.specs.Spelled as post_spelled
use Rattle.post_spec.specs.Steps as steps
use Rattle.post_spec.specs.Steps.{Reading}
use Rattle.station_spec.specs.States as states
use Rattle.station_spec.specs.States.{State, Session, fresh}
use Rattle.station_spec.specs.Deciding.{decided}
use Rattle.station_spec.specs.Hearing.{hearing}
use Rattle.station_spec.specs.Judging.{Payload, wanted, filled, shows, asked_behind}
use Rattle.station_spec.specs.Acting.{acted}
use Rattle.car_spec.specs.Codecs as told
use Rattle.car_spec.specs.Spelled as car_spelled
use Rattle.car_spec.specs.Steps as car_steps
use Rattle.car_spec.specs.States as car_states
use Rattle.car_spec.specs.Deciding as car_deciding
use Rattle.car_spec.specs.Hearing as car_hearing
use Rattle.car_spec.specs.Judging as car_judging
use Rattle.car_spec.specs.Acting as car_acting
use Rattle.pipe_spec.specs.Histories.{Happening, CarComes, ChargerTells, StationHears, CarHears, TimePasses, StationDoes, CarReads, CarDoes, moment, token, to_station, to_car}
use Rattle.pipe_spec.specs.Chargers.{behind_act}
use Rattle.pipe_spec.specs.Turns.{Station, piece_length, is_over}
use Rattle.pipe_examples.specs.Chargers.{tells}

-- A pair so far: what happened, what both ends and the charger are behind it, and what the message says that is under way to each end.
pub record Play : Type 0 where
  pub history : List Happening
  pub station : State
  pub car : car_states.State
  pub charger : Charger
  pub for_station : asked.Judged
  pub for_car : told.Judged

-- both ends hear that a car has come
abbrev pub begins : Station → CarPlan → Play
begins st plan = record {
  history = CarComes plan ∷ [];
  station = hearing 0 (steps.Came token) fresh;
  car = car_hearing.hearing 0 (steps.Came token) car_states.fresh;
  charger = came (idle st.post.free) 0;
  for_station = asked.Refused;
  for_car = told.Refused;
}

-- the watts that are shown at a site with one post
abbrev pub shown_in : Station → State → Option Session → asked.Judged → ℕ
shown_in st s (Some session) (asked.Asked r) = if shows session.stage st.post s r then min (asked_behind session st.post s r) st.limit else 0
shown_in st s o judged = 0

abbrev pub reading : Station → State → asked.Judged → Option Payload → Option Reading
reading st s judged None = None
reading st s judged (Some payload) = Some (record { judged = judged; shown = shown_in st s s.session judged })

-- a message as the other end reads it
abbrev pub same : Dialect → Dialect → Bool
same dialect.Iso dialect.Iso = true
same dialect.Din dialect.Din = true
same a b = false

abbrev pub first_shared : List Dialect → List Dialect → Option Dialect
first_shared [] offers = None
first_shared (d ∷ dialects) offers = if list_any (same d) offers then Some d else first_shared dialects offers

abbrev pub as_chosen : asked.Judged → told.Judged
as_chosen (asked.Negotiated chosen response) = told.Chosen chosen
as_chosen other = told.Refused

abbrev pub as_heard_by_car : asked.Judged → states.Spoken → told.Judged
as_heard_by_car judged (states.Response payload) = as_chosen judged
as_heard_by_car judged (states.Said dialect reply) = told.Told (post_spelled.read_back reply)

abbrev pub as_heard_by_station : Station → CarPlan → car_steps.Spoken → asked.Judged
as_heard_by_station st plan car_steps.Offer = asked.Negotiated (first_shared plan.dialects.items st.post.dialects.items) []
as_heard_by_station st plan (car_steps.Asked dialect request) = asked.Asked (car_spelled.read_back request)

-- the station does something
abbrev pub act_of : states.Todo → steps.Act
act_of (states.Tell datagram) = steps.Answer datagram
act_of (states.Give order) = steps.Give order
act_of (states.Say spoken) = steps.Send (frame [])
act_of (states.Finish cause) = steps.End (number_of cause)

abbrev pub said_by_station : asked.Judged → states.Todo → told.Judged → told.Judged
said_by_station judged (states.Say spoken) before = as_heard_by_car judged spoken
said_by_station judged other before = before

abbrev pub station_did : Station → Play → Option Reading → states.Todo → Play
station_did st p read todo = record p {
  history = StationDoes read (act_of todo) ∷ p.history;
  station = acted (act_of todo) true (filled st.post read p.station);
  charger = behind_act (act_of todo) p.history p.charger;
  for_car = said_by_station p.for_station todo p.for_car;
}

-- the car does something, or reads what it heard
abbrev pub car_act_of : car_states.Todo → car_steps.Act
car_act_of (car_states.Call port) = car_steps.Dial port
car_act_of (car_states.Drive order) = car_steps.Give order
car_act_of (car_states.Speak spoken) = car_steps.Say spoken (frame [])
car_act_of (car_states.Finish cause) = car_steps.End (number_of cause)
car_act_of car_states.Inquire = car_steps.Seek []

abbrev pub said_by_car : Station → CarPlan → car_states.Todo → asked.Judged → asked.Judged
said_by_car st plan (car_states.Speak spoken) before = as_heard_by_station st plan spoken
said_by_car st plan other before = before

abbrev pub car_did : Station → CarPlan → Play → car_states.Todo → Play
car_did st plan p todo = record p {
  history = CarDoes (car_act_of todo) ∷ p.history;
  car = car_acting.acted (car_act_of todo) true (car_deciding.decided plan p.car);
  for_station = said_by_car st plan todo p.for_station;
}

abbrev pub car_read : CarPlan → Play → Play
car_read plan p = record p {
  history = CarReads p.for_car ∷ p.history;
  car = car_judging.read plan (car_deciding.decided plan p.car) p.for_car;
}

-- a turn
abbrev pub charger_told : Play → PlantEvent → Charger → Play
charger_told p event after = record p {
  history = ChargerTells event ∷ p.history;
  station = hearing (moment p.history) (steps.Plant event) p.station;
  charger = after;
}

abbrev pub station_heard : Play → List ℕ → Play
station_heard p bytes = record p {
  history = StationHears bytes ∷ p.history;
  station = hearing (moment p.history) (steps.Bytes bytes) p.station;
}

abbrev pub car_heard : Play → List ℕ → Play
car_heard p bytes = record p {
  history = CarHears bytes ∷ p.history;
  car = car_hearing.hearing (moment p.history) (steps.Bytes bytes) p.car;
}

abbrev pub time_passed : Play → Play
time_passed p = record p {
  history = TimePasses ∷ p.history;
  station = hearing (moment p.history + 10) steps.Clock p.station;
  car = car_hearing.hearing (moment p.history + 10) steps.Clock p.car;
}

abbrev pub turned_by : Station → Play → Option (PlantEvent × Charger) → List ℕ → List ℕ → Play
turned_by st p (Some event) to_s to_c = charger_told p event.0 event.1
turned_by st p None (byte ∷ bytes) to_c = station_heard p (take (piece_length st p.history) (byte ∷ bytes))
turned_by st p None [] (byte ∷ bytes) = car_heard p (take (piece_length st p.history) (byte ∷ bytes))
turned_by st p None [] [] = time_passed p

abbrev pub turned : Station → Play → Play
turned st p = turned_by st p (tells p.charger (moment p.history)) (to_station p.history) (to_car p.history)

-- what happens next, where something does
abbrev pub by_wish : Station → CarPlan → Play → Option car_judging.Payload → Option Play
by_wish st plan p (Some payload) = Some (car_read plan p)
by_wish st plan p None = if is_over st p.history then None else Some (turned st p)

abbrev pub by_car : Station → CarPlan → Play → Option car_states.Todo → Option Play
by_car st plan p (Some todo) = Some (car_did st plan p todo)
by_car st plan p None = by_wish st plan p (car_judging.wanted (car_deciding.decided plan p.car))

abbrev pub by_station : Station → CarPlan → Play → Option Reading → Option states.Todo → Option Play
by_station st plan p read (Some todo) = Some (station_did st p read todo)
by_station st plan p read None = by_car st plan p (car_states.first (car_deciding.decided plan p.car).agenda)

abbrev pub next : Station → CarPlan → Play → Option Play
next st plan p =
    let read = reading st p.station p.for_station (wanted (decided st.post p.station)) in
    by_station st plan p read (states.first (filled st.post read p.station).agenda)

-- at most so much happens
abbrev pub go_on : (Play → Option Play) → (Play → Play) → Option Play → Play → Play
go_on more rest None p = p
go_on more rest (Some q) p = rest q

abbrev pub play : Station → CarPlan → ℕ → Play → Play
play st plan zero p = p
play st plan (suc n) p = go_on (next st plan) (play st plan n) (next st plan p) p
