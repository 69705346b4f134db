-- Own: what a past tells of the charger of a post: its clock and its events. Each is read off the past by itself.
use Rattle.std.specs.Prelude.{ℕ, Bool, true, List, [], ◌∷◌, Option, Some, None, unwrap_or, is_some}
use Rattle.charge_world.specs.declared.heard.IsolationLevel.{IsolationLevel}
use Rattle.charge_world.specs.declared.heard.PilotState.{PilotState}
use Rattle.charge_world.specs.declared.heard.PilotState.TheVariants.{A}
use Rattle.charge_world.specs.declared.heard.PlantEvent.{PlantEvent}
use Rattle.charge_world.specs.declared.heard.PlantEvent.TheVariants as plant
use Rattle.post_spec.specs.Steps.{Event, Came, Bytes, Gone, Datagram, Plant, Clock, Over, Act, Give, Send, Answer, End, Seen, Heard, Did}

-- now: the greatest moment heard so far
abbrev pub now : List Seen → ℕ
now [] = 0
now (Heard at event ∷ past) = at
now (Did act taken ∷ past) = now past

-- what the newest hearing that tells of it tells
abbrev pub newer : {A : Type 0} → Option A → Option A → Option A
newer None older = older
newer (Some a) older = Some a

abbrev pub last : {A : Type 0} → (Event → Option A) → List Seen → Option A
last told [] = None
last told (Heard at event ∷ past) = newer (told event) (last told past)
last told (Did act taken ∷ past) = last told past

-- the entries since the newest connection
abbrev pub unless_came : Event → List Seen → List Seen
unless_came (Came token) since = []
unless_came (Bytes bytes) since = since
unless_came Gone since = since
unless_came (Datagram bytes) since = since
unless_came (Plant event) since = since
unless_came Clock since = since
unless_came Over since = since

abbrev pub since_came : List Seen → List Seen
since_came [] = []
since_came (Heard at event ∷ past) = unless_came event (Heard at event ∷ since_came past)
since_came (Did act taken ∷ past) = Did act taken ∷ since_came past

-- the entries since the newest end of a session
abbrev pub unless_ended : Act → List Seen → List Seen
unless_ended (Give order) since = since
unless_ended (Send bytes) since = since
unless_ended (Answer bytes) since = since
unless_ended (End cause) since = []

abbrev pub since_ended : List Seen → List Seen
since_ended [] = []
since_ended (Heard at event ∷ past) = Heard at event ∷ since_ended past
since_ended (Did act taken ∷ past) = unless_ended act (Did act taken ∷ since_ended past)

-- what a charger event tells
abbrev pub told_by : {A : Type 0} → (PlantEvent → Option A) → Event → Option A
told_by of (Plant event) = of event
told_by of (Came token) = None
told_by of (Bytes bytes) = None
told_by of Gone = None
told_by of (Datagram bytes) = None
told_by of Clock = None
told_by of Over = None

abbrev pub pilot_in : PlantEvent → Option PilotState
pilot_in (plant.Pilot state) = Some state
pilot_in _ = None

abbrev pub isolation_in : PlantEvent → Option IsolationLevel
isolation_in (plant.Isolation level) = Some level
isolation_in _ = None

-- voltage and current at the outlet, in tenths
abbrev pub measured_in : PlantEvent → Option (ℕ × ℕ)
measured_in (plant.Measured voltage current) = Some (voltage, current)
measured_in _ = None

abbrev pub paid_in : PlantEvent → Option Bool
paid_in plant.Paid = Some true
paid_in _ = None

abbrev pub stop_in : PlantEvent → Option Bool
stop_in plant.StopAsked = Some true
stop_in _ = None

-- the last state of the control pilot, at first A (IEC 61851-1, annex A: no vehicle)
abbrev pub pilot : List Seen → PilotState
pilot past = unwrap_or (last (told_by pilot_in) past) A

-- the last measurement, at first 0 V and 0 A
abbrev pub measured : List Seen → ℕ × ℕ
measured past = unwrap_or (last (told_by measured_in) past) (0, 0)

-- what the isolation monitor found last since the newest connection
abbrev pub isolation : List Seen → Option IsolationLevel
isolation past = last (told_by isolation_in) (since_came past)

-- whether somebody asked to stop since the newest connection
abbrev pub stop : List Seen → Bool
stop past = is_some (last (told_by stop_in) (since_came past))

-- whether somebody paid since the newest end of a session
abbrev pub paid : List Seen → Bool
paid past = is_some (last (told_by paid_in) (since_ended past))
