-- Own: what the pipe tells of a history: the pasts of both ends, as a wire would tell them, and the station's hearing in the last turn. A
-- car's post is 1, as the station's is.
use Rattle.std.specs.Prelude.{ℕ, ◌+◌, true, if◌then◌else◌, List, [], ◌∷◌, length, Option, Some, None}
use Rattle.charge_world.specs.declared.entry.Entry.{Entry}
use Rattle.charge_world.specs.declared.entry.Entry.TheVariants as entry
use Rattle.charge_world.specs.declared.heard.Heard.{Heard}
use Rattle.charge_world.specs.declared.heard.What.{What}
use Rattle.charge_world.specs.declared.heard.What.TheVariants as what
use Rattle.station_spec.specs.Runs as station
use Rattle.car_spec.specs.Steps as car
use Rattle.pipe_spec.specs.Histories.{Happening, CarComes, ChargerTells, StationHears, CarHears, TimePasses, StationDoes, CarReads, CarDoes, CarGoes, NumberIsDrawn, moment, token, car_has_ended}

-- a hearing, and its bytes
pub record Hearing : Type 0 where
  pub heard : Heard
  pub bytes : List ℕ

abbrev pub hearing_at : ℕ → What → List ℕ → Hearing
hearing_at at what bytes = record { heard = record { at = at; what = what }; bytes = bytes }

abbrev pub entry_of : Hearing → Entry
entry_of h = entry.Heard h.heard h.bytes

-- what the station heard in the last turn, where it heard something; before the first turn of a session, that a car came
abbrev pub station_heard : List Happening → Option Hearing
station_heard [] = None
station_heard (CarComes plan ∷ h) = Some (hearing_at (moment h) (what.Came 1 token) [])
station_heard (ChargerTells event ∷ h) = Some (hearing_at (moment h) (what.Plant 1 event) [])
station_heard (StationHears bytes ∷ h) = Some (hearing_at (moment h) (what.Bytes 1 (length bytes)) bytes)
station_heard (CarHears bytes ∷ h) = None
station_heard (TimePasses ∷ h) = Some (hearing_at (moment h + 10) what.Tick [])
station_heard (CarGoes ∷ h) = Some (hearing_at (moment h) (what.Gone 1) [])
station_heard (other ∷ h) = station_heard h

-- the past of the station
abbrev pub station_entries : List Happening → List Entry
station_entries [] = []
station_entries (CarComes plan ∷ h) = entry_of (hearing_at (moment h) (what.Came 1 token) []) ∷ station_entries h
station_entries (ChargerTells event ∷ h) = entry_of (hearing_at (moment h) (what.Plant 1 event) []) ∷ station_entries h
station_entries (StationHears bytes ∷ h) = entry_of (hearing_at (moment h) (what.Bytes 1 (length bytes)) bytes) ∷ station_entries h
station_entries (TimePasses ∷ h) = entry_of (hearing_at (moment h + 10) what.Tick []) ∷ station_entries h
station_entries (CarGoes ∷ h) = entry_of (hearing_at (moment h) (what.Gone 1) []) ∷ station_entries h
station_entries (StationDoes reading act ∷ h) = station.entry_of 1 act true ∷ station_entries h
station_entries (other ∷ h) = station_entries h

-- and of the newest car
abbrev pub heard_by_car : List Happening → Entry → List Entry → List Entry
heard_by_car h e past = if car_has_ended h then past else e ∷ past

abbrev pub car_entries : List Happening → List Entry
car_entries [] = []
car_entries (CarComes plan ∷ h) = entry_of (hearing_at (moment h) (what.Came 1 token) []) ∷ []
car_entries (CarHears bytes ∷ h) = heard_by_car h (entry_of (hearing_at (moment h) (what.Bytes 1 (length bytes)) bytes)) (car_entries h)
car_entries (TimePasses ∷ h) = heard_by_car h (entry_of (hearing_at (moment h + 10) what.Tick [])) (car_entries h)
car_entries (CarDoes act ∷ h) = car.entry_of act true ∷ car_entries h
car_entries (other ∷ h) = car_entries h
