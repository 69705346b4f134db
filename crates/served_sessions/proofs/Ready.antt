-- What holds of a post in a session that conforms: nothing but SessionStop gives it a cause.
use Rattle.std.proofs.Common.{◌≡◌, ◌≤◌, ℕ, ◌+◌, Bool, true, false, if◌then◌else◌, List, [], ◌∷◌, length, Option, Some, None, ◌⊎◌}
use Rattle.charge_world.specs.declared.offer.Dialect.{Dialect}
use Rattle.charge_world.specs.declared.ports.Order.{Order}
use Rattle.charge_world.specs.declared.ports.Order.TheVariants as order
use Rattle.session_words.specs.declared.cause.EndCause.{EndCause}
use Rattle.session_words.specs.declared.cause.EndCause.TheVariants.{Stopped, Paused}
use Rattle.session_words.specs.declared.phase.Phase.{Phase}
use Rattle.session_words.specs.declared.phase.Standing.TheVariants as stood
use Rattle.session_words.specs.declared.plan.PostPlan.{PostPlan}
use Rattle.session_words.specs.declared.word.Ask.TheVariants as ask
use Rattle.session_words.specs.declared.word.Reply.{Reply}
use Rattle.session_words.specs.declared.word.Request.{Request}
use Rattle.session_words.specs.Codes.{IsOkClass}
use Rattle.session_rules.specs.Stages.{is_waiting}
use Rattle.post_spec.specs.Codecs.{Codecs}
use Rattle.post_spec.specs.Kinds.{asks_start}
use Rattle.post_spec.specs.Sessions.{session, stream, replies, waits}
use Rattle.post_spec.specs.Steps.{Seen, Heard, Did, Step, Hears, Does}
use Rattle.post_spec.specs.Talk.{Exchange, Answered}
use Rattle.station_spec.specs.States.{Spoken, Response, Said, Agenda, Part, Wording, Session, State, nothing, is_done}
use Rattle.station_spec.specs.Acting.{state}
use Rattle.safe_runs.proofs.Links.{Asks}
use Rattle.read_sessions.specs.Sessions.{words_read}
use Rattle.served_sessions.specs.Answered.{IsAnswered, AwaitsReply}

-- SessionStop was accepted, and the reply to it is owed
pub record Owes (c : Codecs) (plan : PostPlan) (past : List Seen) (k : EndCause) (dialect : Dialect) (reply : Reply) : Type 0 where
  pub es : List Seen
  pub session_is : session past ≡ Some es
  pub still : waits es ≡ false
  pub xs : List Exchange
  pub answered : IsAnswered c plan past xs
  pub request : Request
  pub asks : Asks c (stream es) xs request dialect
  pub ok : IsOkClass reply.code
  pub pause : Bool
  pub stop : request.ask ≡ ask.SessionStop pause
  pub cause_is : k ≡ (if pause then Paused else Stopped)

-- it was sent, and the session ends
pub record Ends (c : Codecs) (plan : PostPlan) (past : List Seen) (k : EndCause) : Type 0 where
  pub request : Request
  pub reply : Reply
  pub before : List Seen
  pub earlier : List Exchange
  pub answered : IsAnswered c plan past (Answered request reply before ∷ earlier)
  pub pause : Bool
  pub stop : request.ask ≡ ask.SessionStop pause
  pub cause_is : k ≡ (if pause then Paused else Stopped)

abbrev pub Stops : Codecs → PostPlan → List Seen → Option EndCause → Option Spoken → Type 0
Stops c plan past None reply = Unit {0}
Stops c plan past (Some k) None = Ends c plan past k
Stops c plan past (Some k) (Some (Response payload)) = ⊥
Stops c plan past (Some k) (Some (Said dialect reply)) = Owes c plan past k dialect reply

-- a reply that doesn't wait answers another request than PowerDelivery Start
pub record Other (c : Codecs) (plan : PostPlan) (past : List Seen) (dialect : Dialect) (reply : Reply) : Type 0 where
  pub es : List Seen
  pub session_is : session past ≡ Some es
  pub xs : List Exchange
  pub answered : IsAnswered c plan past xs
  pub request : Request
  pub asks : Asks c (stream es) xs request dialect
  pub ok : IsOkClass reply.code
  pub other : asks_start request.ask ≡ false

abbrev pub Others : Codecs → PostPlan → List Seen → Option Session → Option Spoken → Type 0
Others c plan past kept None = Unit {0}
Others c plan past kept (Some (Response payload)) = Unit {0}
Others c plan past kept (Some (Said dialect reply)) = (ss : Session) → kept ≡ Some ss → is_waiting ss.stage.row ≡ false → Other c plan past dialect reply

-- the words that were read before the newest hearing
abbrev pub words_before : List Seen → ℕ
words_before [] = 0
words_before (Heard at event ∷ es) = words_read es
words_before (Did act taken ∷ es) = words_before es

-- they are answered as the next word is read
pub record Early (es : List Seen) (here : Phase) (reply : Option Spoken) (o : Option Order) : Type 0 where
  pub within : words_before es ≤ length (replies es) + 1
  pub free : is_waiting here ≡ false → reply ≡ None → words_before es ≤ length (replies es)
  pub closing : o ≡ Some order.Close → words_before es ≤ length (replies es)

abbrev pub EarlyIn : Option (List Seen) → Option Session → Agenda → Type 0
EarlyIn lives kept a = (es : List Seen) (ss : Session) → lives ≡ Some es → kept ≡ Some ss → Early es ss.stage.row a.reply a.order

-- a reply that waits is on the agenda in the hearing of the feedback alone
abbrev pub Unsaid : List Seen → Option Session → Agenda → Type 0
Unsaid past kept a = (ss : Session) → kept ≡ Some ss → is_waiting ss.stage.row ≡ true → (a.reply ≡ None) ⊎ (AwaitsReply past × (a.datagram ≡ None) × (a.order ≡ None))

-- an order to open is owed as the newest hearing comes, and is what is left to do
abbrev pub IsOwed : PostPlan → List Step → Type 0
IsOwed plan [] = ⊥
IsOwed plan (Hears at event ∷ steps) = (state plan (Hears at event ∷ steps)).facts.contactor ≡ stood.MustOpen
IsOwed plan (Does reading act taken ∷ steps) = ⊥

abbrev pub opening : Agenda
opening = record nothing { order = Some order.Open }

abbrev pub Worded : Type 0 → State → Type 0
Worded Owed t = (t.part ≡ Wording) ⊎ ((is_done t.agenda ≡ true) ⊎ (Owed × (t.agenda ≡ opening)))

pub record Ready (c : Codecs) (plan : PostPlan) (Owed : Type 0) (past : List Seen) (t : State) : Type 0 where
  pub matched : t.agenda.behind_reply ≡ None
  pub stops : Stops c plan past t.agenda.ending t.agenda.reply
  pub opens : t.agenda.order ≡ Some order.Close → t.agenda.ending ≡ None
  pub worded : Worded Owed t
  pub unsaid : Unsaid past t.session t.agenda
  pub others : Others c plan past t.session t.agenda.reply
  pub early : EarlyIn (session past) t.session t.agenda

-- behind an act the words are next, but behind an order to open that was owed
abbrev pub AtWords : PostPlan → List Step → Part → Type 0
AtWords plan [] part = part ≡ Wording
AtWords plan (Hears at event ∷ steps) part = Unit {0}
AtWords plan (Does reading act taken ∷ steps) part = (part ≡ Wording) ⊎ IsOwed plan steps

-- the reply that waited is all that is on an agenda
pub record Confirms (a : Agenda) : Type 0 where
  pub spoken : Spoken
  pub datagram_is : a.datagram ≡ None
  pub order_is : a.order ≡ None
  pub reply_is : a.reply ≡ Some spoken

-- what is decided behind a past
pub record Decides (c : Codecs) (plan : PostPlan) (Owed : Type 0) (past : List Seen) (s t : State) : Type 0 where
  pub ready : Ready c plan Owed past t
  pub outcome : (t ≡ s) ⊎ (is_done t.agenda ≡ false)
  pub at_once : AwaitsReply past → Confirms t.agenda
