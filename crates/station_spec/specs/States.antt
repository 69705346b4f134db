-- Own: what a post keeps of its steps.
use Rattle.std.specs.Prelude.{ℕ, Bool, true, false, List, [], Option, Some, None}
use Rattle.charge_world.specs.declared.heard.PilotState.TheVariants.{A}
use Rattle.charge_world.specs.declared.offer.Dialect.{Dialect}
use Rattle.charge_world.specs.declared.ports.Order.{Order}
use Rattle.session_words.specs.declared.cause.EndCause.{EndCause}
use Rattle.session_words.specs.declared.facts.Facts.{Facts}
use Rattle.session_words.specs.declared.phase.Standing.{Standing}
use Rattle.session_words.specs.declared.phase.Standing.TheVariants as standing
use Rattle.session_words.specs.declared.word.Reply.{Reply}
use Rattle.session_rules.specs.declared.allowed.Lowered.{Lowered}
use Rattle.session_rules.specs.declared.stage.Stage.{Stage}
use Rattle.session_rules.specs.Stages.{first_stage}
use Rattle.post_spec.specs.Steps.{Event, Clock}

-- what is sent: the response to a negotiation, as its payload, or a reply in the session's dialect
pub data Spoken : Type 0 where
  Response : (payload : List ℕ) → Spoken
  Said : (dialect : Dialect) (reply : Reply) → Spoken

-- What is decided and not done yet. It is done in this order: the datagram, the order, the reply, and then the session ends. `ending`
-- is the session's cause, once it has one; `behind_reply` becomes it once the reply was taken.
pub record Agenda : Type 0 where
  pub datagram : Option (List ℕ)
  pub order : Option Order
  pub reply : Option Spoken
  pub ending : Option EndCause
  pub behind_reply : Option EndCause

-- the parts of a hearing, in order: an Open that failed is repeated, the deadlines, the event, the words
pub data Part : Type 0 where
  Repeating : Part
  Timing : Part
  Eventing : Part
  Wording : Part

-- A session that lives. `since`: the moment from which its deadline counts. `unread`: what of its stream was not read yet. `asked`: the
-- watts that it asks for, 0 where it doesn't.
pub record Session : Type 0 where
  pub stage : Stage
  pub since : ℕ
  pub unread : List ℕ
  pub asked : ℕ
  pub lowered : Option Lowered

-- What a post keeps. `clock`: the moment of the newest hearing. `live`: a Close was ordered, and no Open was taken since. `arrived`:
-- the token of a connection that began in the newest hearing. `event`: what was heard then, and `stood`: how the contactor stood before.
pub record State : Type 0 where
  pub clock : ℕ
  pub facts : Facts
  pub live : Bool
  pub session : Option Session
  pub arrived : Option ℕ
  pub event : Event
  pub stood : Standing
  pub part : Part
  pub agenda : Agenda

abbrev pub nothing : Agenda
nothing = record { datagram = None; order = None; reply = None; ending = None; behind_reply = None }

abbrev pub first_facts : Facts
first_facts = record {
  pilot = A;
  isolation = None;
  voltage = 0;
  current = 0;
  paid = false;
  stop = false;
  contactor = standing.Opened;
  kept = None;
  joined = false;
  renew = false;
}

-- before anything was heard
abbrev pub fresh : State
fresh = record {
  clock = 0;
  facts = first_facts;
  live = false;
  session = None;
  arrived = None;
  event = Clock;
  stood = standing.Opened;
  part = Wording;
  agenda = nothing;
}

-- a connection with this token began at this moment
abbrev pub first_session : ℕ → ℕ → Session
first_session token at = record { stage = first_stage token; since = at; unread = []; asked = 0; lowered = None }

-- a thing to do
pub data Todo : Type 0 where
  Tell : (datagram : List ℕ) → Todo
  Give : (order : Order) → Todo
  Say : (spoken : Spoken) → Todo
  Finish : (cause : EndCause) → Todo

-- what is done first
abbrev pub then_finish : Option EndCause → Option Todo
then_finish None = None
then_finish (Some cause) = Some (Finish cause)

abbrev pub then_say : Option Spoken → Option EndCause → Option Todo
then_say None ending = then_finish ending
then_say (Some spoken) ending = Some (Say spoken)

abbrev pub then_order : Option Order → Option Spoken → Option EndCause → Option Todo
then_order None reply ending = then_say reply ending
then_order (Some order) reply ending = Some (Give order)

abbrev pub first_of : Option (List ℕ) → Option Order → Option Spoken → Option EndCause → Option Todo
first_of None order reply ending = then_order order reply ending
first_of (Some datagram) order reply ending = Some (Tell datagram)

abbrev pub first : Agenda → Option Todo
first a = first_of a.datagram a.order a.reply a.ending

-- nothing is left to do
abbrev pub is_none : Option Todo → Bool
is_none None = true
is_none (Some todo) = false

abbrev pub is_done : Agenda → Bool
is_done a = is_none (first a)
