-- ISO 15118-2:2014, sections 8.4 and 8.8: what a post does in a session that conforms, read off its past.
use Rattle.std.specs.Prelude.{◌≡◌, ◌≤◌, ℕ, ◌+◌, Bool, true, if◌then◌else◌, List, [], ◌∷◌, length, map, Some}
use Rattle.charge_world.specs.declared.ports.Order.{Order}
use Rattle.charge_world.specs.declared.ports.Order.TheVariants as order
use Rattle.session_words.specs.declared.cause.EndCause.TheVariants.{Stopped, Paused}
use Rattle.session_words.specs.declared.plan.PostPlan.{PostPlan}
use Rattle.session_words.specs.declared.word.Ask.TheVariants as ask
use Rattle.session_words.specs.declared.word.Reply.{Reply}
use Rattle.session_words.specs.declared.word.Request.{Request}
use Rattle.session_words.specs.Causes.{number_of}
use Rattle.v2gtp_frames.specs.Frames.{Frames}
use Rattle.post_spec.specs.Codecs.{Codecs}
use Rattle.post_spec.specs.Sessions.{arriving, session, stream, waits}
use Rattle.post_spec.specs.Steps.{Act, Give, Send, Answer, End, Seen, Heard, Did, Step, seen_of}
use Rattle.post_spec.specs.Talk.{Exchange, Answered, Unless}
use Rattle.station_spec.specs.Acting.{state}
use Rattle.station_spec.specs.Next.{IsQuiet}
use Rattle.read_runs.specs.Facts.{before_hearing}
use Rattle.served_sessions.specs.Answered.{OfSession, IsAnswered, IsStart, answers_start, AwaitsReply}

-- a contactor is ordered closed for PowerDelivery Start, in the hearing that made its frame whole: before it, each
-- whole frame of the stream was one of a word that is answered
pub record ClosesAtOnce (c : Codecs) (plan : PostPlan) (past : List Seen) : Type 0 where
  pub es : List Seen
  pub session_is : session past ≡ Some es
  pub xs : List Exchange
  pub answered : IsAnswered c plan past xs
  pub start : IsStart c es xs
  pub came_now : (payloads : List (List ℕ)) (rest : List ℕ) → Frames (stream (before_hearing es)) payloads rest
      → length payloads ≤ length xs

-- a reply is one of a session. The one that waits is sent behind that feedback
pub record Replies (past : List Seen) : Type 0 where
  pub es : List Seen
  pub session_is : session past ≡ Some es
  pub confirmed : waits es ≡ true → AwaitsReply past

-- a session ends behind the reply to its SessionStop, as stopped or as paused
pub record EndsByStop (c : Codecs) (plan : PostPlan) (past : List Seen) (cause : ℕ) : Type 0 where
  pub request : Request
  pub reply : Reply
  pub before : List Seen
  pub earlier : List Exchange
  pub answered : IsAnswered c plan past (Answered request reply before ∷ earlier)
  pub pause : Bool
  pub stop : request.ask ≡ ask.SessionStop pause
  pub cause_is : cause ≡ number_of (if pause then Paused else Stopped)

-- what stands before an act
abbrev pub Orders : Codecs → PostPlan → Order → List Seen → Type 0
Orders c plan order.Close past = ClosesAtOnce c plan past
Orders c plan order.Open past = Unit {0}
Orders c plan (order.Limits voltage current watts) past = Unit {0}

abbrev pub Acts : Codecs → PostPlan → Act → List Seen → Type 0
Acts c plan (Give order) past = Orders c plan order past
Acts c plan (Send bytes) past = Replies past
Acts c plan (Answer bytes) past = Unit {0}
Acts c plan (End cause) past = EndsByStop c plan past cause

abbrev pub IsReply : Act → Type 0
IsReply (Send bytes) = Unit {0}
IsReply (Give order) = ⊥
IsReply (Answer bytes) = ⊥
IsReply (End cause) = ⊥

-- an act: all replies up to it are as they should be. One that answers PowerDelivery Start waited for its feedback, so that Close was
-- ordered; and behind the feedback that was awaited it is the reply
pub record IsServed (c : Codecs) (plan : PostPlan) (act : Act) (taken : Bool) (past : List Seen) : Type 0 where
  pub xs : List Exchange
  pub answered : IsAnswered c plan (Did act taken ∷ past) xs
  pub acts : Acts c plan act past
  pub awaited : IsReply act → answers_start xs ≡ true → AwaitsReply past
  pub at_once : AwaitsReply past → IsReply act

-- behind a whole block each whole frame of the stream is one of a word that is answered, but for PowerDelivery Start
-- while its reply waits
pub record IsUpToDate (c : Codecs) (plan : PostPlan) (past es : List Seen) : Type 0 where
  pub xs : List Exchange
  pub answered : IsAnswered c plan past xs
  pub each : (payloads : List (List ℕ)) (rest : List ℕ) → Frames (stream es) payloads rest
      → length payloads ≡ (if waits es then length xs + 1 else length xs)
  pub start : waits es ≡ true → IsStart c es xs

pub record IsRested (c : Codecs) (plan : PostPlan) (past : List Seen) : Type 0 where
  pub up_to_date : OfSession (session past) (IsUpToDate c plan past)
  pub confirmed : AwaitsReply past → ⊥

-- behind a whole block, but that of a connection: there another session may still have stood
abbrev pub RestsIn : Codecs → PostPlan → List Seen → Type 0
RestsIn c plan past = Unless (arriving past) (IsRested c plan past) (Unit {0})

-- before an act, and behind the block that a hearing ends
abbrev pub Serves : Codecs → PostPlan → Seen → List Seen → Type 0
Serves c plan (Heard at event) past = RestsIn c plan past
Serves c plan (Did act taken) past = IsServed c plan act taken past

-- a past in which all this holds of the session to which it has come, behind the block of its connection
abbrev pub AreServed : Codecs → PostPlan → List Seen → Type 0
AreServed c plan [] = Unit {0}
AreServed c plan (x ∷ past) = Unless (arriving (x ∷ past)) (AreServed c plan past × Serves c plan x past) (Unit {0})

-- what a session gets that has come so far, and where its post has nothing left to do
pub record IsWellServed (c : Codecs) (plan : PostPlan) (steps : List Step) : Type 0 where
  pub served : AreServed c plan (map seen_of steps)
  pub up_to_date : IsQuiet plan (state plan steps) → RestsIn c plan (map seen_of steps)
