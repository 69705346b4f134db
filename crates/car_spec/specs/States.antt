-- Own: what a car keeps of its steps.
use Rattle.std.specs.Prelude.{ℕ, Bool, true, false, List, [], Option, Some, None}
use Rattle.charge_world.specs.declared.ports.Order.{Order}
use Rattle.session_words.specs.declared.cause.EndCause.{EndCause}
use Rattle.car_rules.specs.declared.deadlines.CarMoments.{CarMoments}
use Rattle.car_rules.specs.declared.searching.Search.{Search}
use Rattle.car_rules.specs.declared.stage.CarStage.{CarStage}
use Rattle.car_rules.specs.Searching.{first_search}
use Rattle.post_spec.specs.Steps.{Event, Clock}
use Rattle.car_spec.specs.Steps.{Spoken}

-- What is decided and not done yet. It is done in this order: a post is dialed, the order, what is said, the end, the search.
pub record Agenda : Type 0 where
  pub port : Option ℕ
  pub order : Option Order
  pub spoken : Option Spoken
  pub ending : Option EndCause
  pub seeks : Bool

-- Before the first hearing nothing is due; then the parts of a hearing, in order: the deadlines, the event, and the words with what is due
-- behind them.
pub data Part : Type 0 where
  Unheard : Part
  Timing : Part
  Eventing : Part
  Wording : Part

-- A session that lives. `stage`: none until a dialect is chosen. `again`: when the request is due that is asked once more, if it ever is.
-- `unread`: what of the stream was not read yet. `stop`: somebody asked to stop.
pub record Session : Type 0 where
  pub stage : Option CarStage
  pub moments : CarMoments
  pub again : Option ℕ
  pub unread : List ℕ
  pub stop : Bool

-- What a car keeps. `clock`: the moment of the newest hearing. `live`: a Close was ordered, and no Open was taken since. `event`: what was
-- heard then, and `stood`: whether a session stood before. `over`: the car has ended.
pub record State : Type 0 where
  pub clock : ℕ
  pub live : Bool
  pub session : Option Session
  pub search : Search
  pub event : Event
  pub stood : Bool
  pub part : Part
  pub agenda : Agenda
  pub over : Bool

abbrev pub nothing : Agenda
nothing = record { port = None; order = None; spoken = None; ending = None; seeks = false }

-- before anything was heard
abbrev pub fresh : State
fresh = record {
  clock = 0;
  live = false;
  session = None;
  search = first_search;
  event = Clock;
  stood = false;
  part = Unheard;
  agenda = nothing;
  over = false;
}

-- a connection came at this moment
abbrev pub first_session : ℕ → Session
first_session at = record {
  stage = None;
  moments = record { came = at; sent = None; begun = at };
  again = None;
  unread = [];
  stop = false;
}

-- a thing to do
pub data Todo : Type 0 where
  Call : (port : ℕ) → Todo
  Drive : (order : Order) → Todo
  Speak : (spoken : Spoken) → Todo
  Finish : (cause : EndCause) → Todo
  Inquire : Todo

-- what is done first
abbrev pub then_inquire : Bool → Option Todo
then_inquire false = None
then_inquire true = Some Inquire

abbrev pub then_finish : Option EndCause → Bool → Option Todo
then_finish None seeks = then_inquire seeks
then_finish (Some cause) seeks = Some (Finish cause)

abbrev pub then_speak : Option Spoken → Option EndCause → Bool → Option Todo
then_speak None ending seeks = then_finish ending seeks
then_speak (Some spoken) ending seeks = Some (Speak spoken)

abbrev pub then_drive : Option Order → Option Spoken → Option EndCause → Bool → Option Todo
then_drive None spoken ending seeks = then_speak spoken ending seeks
then_drive (Some order) spoken ending seeks = Some (Drive order)

abbrev pub first_of : Option ℕ → Option Order → Option Spoken → Option EndCause → Bool → Option Todo
first_of None order spoken ending seeks = then_drive order spoken ending seeks
first_of (Some port) order spoken ending seeks = Some (Call port)

abbrev pub first : Agenda → Option Todo
first a = first_of a.port a.order a.spoken a.ending a.seeks

-- nothing is left to do
abbrev pub is_none : Option Todo → Bool
is_none None = true
is_none (Some todo) = false

abbrev pub is_done : Agenda → Bool
is_done a = is_none (first a)
