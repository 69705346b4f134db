-- Own: how a car's act is done: with bytes that stand at the front of a room.
use Rattle.std.specs.Prelude.{◌≡◌, ◌≤◌, ℕ, Bool, true, false, List, take, Option, Some, None}
use Rattle.charge_world.specs.declared.offer.Dialect.{Dialect}
use Rattle.session_words.specs.declared.plan.CarPlan.{CarPlan}
use Rattle.session_words.specs.Causes.{number_of}
use Rattle.v2gtp_frames.specs.Frames.{frame}
use Rattle.car_rules.specs.Searching.{search_datagram}
use Rattle.car_spec.specs.Codecs.{Judged, Codecs, Judges}
use Rattle.car_spec.specs.Deciding.{decided}
use Rattle.car_spec.specs.Judging.{Payload, wanted, read}
use Rattle.car_spec.specs.Next.{IsQuiet, IsSpoken}
use Rattle.car_spec.specs.Report.{Report}
use Rattle.car_spec.specs.States.{State, first}
use Rattle.car_spec.specs.States as states
use Rattle.car_spec.specs.Steps.{Spoken, Offer, Act}
use Rattle.car_spec.specs.Steps as steps
use Rattle.car_acts.specs.declared.choosing.Next.{Next}
use Rattle.car_acts.specs.declared.choosing.Next.TheVariants as next
use Rattle.car_acts.specs.declared.deeds.Deed.{Deed}
use Rattle.car_acts.specs.declared.deeds.Deed.TheVariants.{Dial, Give, Say, Finish, Seek}
use Rattle.car_acts.specs.Reporting.{report_by}

-- the act of a deed, where this is said
abbrev pub act_of : List ℕ → Spoken → Deed → Act
act_of room spoken (Dial port) = steps.Dial port
act_of room spoken (Give order) = steps.Give order
act_of room spoken (Say n) = steps.Say spoken (take n room)
act_of room spoken (Finish cause) = steps.End (number_of cause)
act_of room spoken (Seek datagram) = steps.Seek datagram

abbrev pub is_seek : Deed → Bool
is_seek (Dial port) = false
is_seek (Give order) = false
is_seek (Say n) = false
is_seek (Finish cause) = false
is_seek (Seek datagram) = true

-- what is said, where something is
abbrev pub spoken_in : states.Todo → Spoken
spoken_in (states.Speak spoken) = spoken
spoken_in other = Offer

-- the bytes that are sent are a frame in the room
abbrev pub IsFramed : Deed → Type 0
IsFramed (Dial port) = Unit {0}
IsFramed (Give order) = Unit {0}
IsFramed (Say n) = (8 ≤ n) × (n ≤ 1032)
IsFramed (Finish cause) = Unit {0}
IsFramed (Seek datagram) = Unit {0}

-- the end of a car can't fail
abbrev pub MayTake : Deed → Bool → Type 0
MayTake (Dial port) taken = Unit {0}
MayTake (Give order) taken = Unit {0}
MayTake (Say n) taken = Unit {0}
MayTake (Finish cause) taken = taken ≡ true
MayTake (Seek datagram) taken = Unit {0}

-- what is reported behind a deed
abbrev pub noted_by : Deed → State → Option Report → Option Report
noted_by (Dial port) s told = told
noted_by (Give order) s told = told
noted_by (Say n) s told = told
noted_by (Finish cause) s told = Some (report_by cause s)
noted_by (Seek datagram) s told = told

-- these bytes are the frame of what is said
pub record IsFrameOf (c : Codecs) (plan : CarPlan) (spoken : Spoken) (bytes : List ℕ) : Type 0 where
  pub payload : List ℕ
  pub spoken_is : IsSpoken c plan spoken payload
  pub bytes_are : bytes ≡ frame payload

-- the deed by which a thing is done
abbrev pub IsDeed : Codecs → CarPlan → List ℕ → states.Todo → Deed → Type 0
IsDeed c plan room (states.Call port) (Dial dialed) = dialed ≡ port
IsDeed c plan room (states.Drive order) (Give given) = given ≡ order
IsDeed c plan room (states.Speak spoken) (Say n) = IsFrameOf c plan spoken (take n room)
IsDeed c plan room (states.Finish cause) (Finish named) = named ≡ cause
IsDeed c plan room states.Inquire (Seek datagram) = datagram ≡ search_datagram
IsDeed c plan room todo deed = ⊥

-- the deed, where there is something to do
abbrev pub Prepares : Codecs → CarPlan → Option states.Todo → List ℕ → Option Deed → Type 0
Prepares c plan None room None = Unit {0}
Prepares c plan (Some todo) room (Some deed) = IsDeed c plan room todo deed × IsFramed deed
Prepares c plan todo room deed = ⊥

-- a payload is judged exactly where one is wanted
abbrev pub JudgesFor : Codecs → List Dialect → Option Payload → Option Judged → Type 0
JudgesFor c offers None None = Unit {0}
JudgesFor c offers None (Some judged) = ⊥
JudgesFor c offers (Some payload) None = ⊥
JudgesFor c offers (Some payload) (Some judged) = Judges c offers payload.dialect payload.bytes judged

-- a word that was read
pub record ReadsNext (c : Codecs) (plan : CarPlan) (s new : State) : Type 0 where
  pub payload : Payload
  pub word : Judged
  pub wanted_is : wanted s ≡ Some payload
  pub judges : Judges c plan.dialects.items payload.dialect payload.bytes word
  pub new_is : new ≡ read plan s word

-- whether a word was read, which is where one was wanted
abbrev pub ReadsSo : Codecs → CarPlan → State → Bool → State → Type 0
ReadsSo c plan s true new = ReadsNext c plan s new
ReadsSo c plan s other new = (wanted s ≡ None) × (new ≡ s)

-- a deed that is next, of what was decided
pub record DoesNext (c : Codecs) (plan : CarPlan) (s : State) (room : List ℕ) (deed : Deed) : Type 0 where
  pub todo : states.Todo
  pub first_is : first s.agenda ≡ Some todo
  pub done : IsDeed c plan room todo deed
  pub framed : IsFramed deed

-- what is next: nothing, a word that was read, or a deed
abbrev pub Nexts : Codecs → CarPlan → State → List ℕ → Next → State → Type 0
Nexts c plan s room next.Rest new = IsQuiet plan s × (new ≡ decided plan s)
Nexts c plan s room next.Read new = (first (decided plan s).agenda ≡ None) × ReadsNext c plan (decided plan s) new
Nexts c plan s room (next.Do deed) new = DoesNext c plan (decided plan s) room deed × (new ≡ decided plan s)
