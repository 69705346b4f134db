-- ISO 15118-2:2014, sections 7.8.3 and 8.2: what bytes say that were sent in a foreign trace.
use Rattle.std.specs.Prelude.{◌≡◌, ◌≤◌, ◌+◌, ◌==◌, ℕ, Bool, true, false, List, drop, length, Option, Some, None, Result, Ok, Err}
use Rattle.charge_world.specs.declared.offer.Dialect.{Dialect}
use Rattle.session_words.specs.declared.plan.PostPlan.{PostPlan}
use Rattle.session_words.specs.declared.word.Ask.{Ask}
use Rattle.session_words.specs.declared.word.Reply.{Reply}
use Rattle.session_words.specs.declared.word.Request.{Request}
use Rattle.session_words.specs.declared.word.Word.{Word}
use Rattle.session_words.specs.declared.word.Word.TheVariants as word
use Rattle.v2gtp_frames.specs.declared.FrameFault.{FrameFault}
use Rattle.v2gtp_frames.specs.Frames.{frame, IsPayload}
use Rattle.car_rules.specs.Replies.{answers}
use Rattle.post_spec.specs.Steps.{Seen}
use Rattle.told_pasts.specs.Reading.{IsSaid}
use Rattle.told_pasts.specs.Spelling.{SpelledWatts, ToldCodecs}
use Rattle.told_pasts.specs.Steps as steps
use Rattle.audit_watts.specs.Values.{AreOf}
use Rattle.audit_streams.specs.declared.reader.ToldWatts.{ToldWatts}
use Rattle.audit_streams.specs.declared.reader.ToldWord.{ToldWord}
use Rattle.audit_streams.specs.declared.reader.ToldWord.TheVariants as heard
use Rattle.audit_readings.specs.declared.replies.ToldReply.{ToldReply}
use Rattle.audit_readings.specs.declared.replies.ToldSaid.{ToldSaid}
use Rattle.audit_readings.specs.declared.replies.ToldSaid.TheVariants.{Response, Replied, Other, Unasked}

-- one frame, and nothing behind it
pub record IsFrame (bytes : List ℕ) : Type 0 where
  pub short : length (drop 8 bytes) ≤ 65536
  pub whole : bytes ≡ frame (drop 8 bytes)

abbrev pub IsNoFrame : List ℕ → Type 0
IsNoFrame bytes = (payload : List ℕ) → IsPayload payload → bytes ≡ frame payload → ⊥

abbrev pub fills : Result (Option ℕ) FrameFault → ℕ → Bool
fills (Ok None) len = false
fills (Ok (Some payload)) len = len == 8 + payload
fills (Err fault) len = false

abbrev pub said_by : Option ToldReply → ToldSaid
said_by None = Other
said_by (Some reply) = Replied reply

-- a response to a negotiation, and whether it is positive
pub record IsResponse (Responds : List ℕ → Bool → Type 0) (bytes : List ℕ) (positive : Bool) : Type 0 where
  pub frame : IsFrame bytes
  pub responds : Responds (drop 8 bytes) positive
  pub once : (other : Bool) → Responds (drop 8 bytes) other → other ≡ positive

abbrev pub ResponseSo : (List ℕ → Bool → Type 0) → List ℕ → Option Bool → Type 0
ResponseSo Responds bytes None = (payload : List ℕ) (positive : Bool) → bytes ≡ frame payload → Responds payload positive → ⊥
ResponseSo Responds bytes (Some positive) = IsResponse Responds bytes positive

abbrev pub IsReplyWord : Option Word → Option Reply → Type 0
IsReplyWord found None = (reply : Reply) → found ≡ Some (word.Reply reply) → ⊥
IsReplyWord found (Some reply) = found ≡ Some (word.Reply reply)

-- a payload is a reply of the kind of the request
pub record IsReply (c : ToldCodecs) (plan : PostPlan) (told : ToldWatts) (spoken : Dialect) (ask : Ask) (payload : List ℕ) (r : ToldReply) : Type 0 where
  pub reads : c.words.Reads spoken payload (Some (word.Reply r.reply))
  pub kind : answers ask r.reply.tell ≡ true
  pub spelled : SpelledWatts
  pub spells : c.Watts spoken payload spelled
  pub values : AreOf plan told.dialect told.watts spelled r.watts

abbrev pub PayloadSo : ToldCodecs → PostPlan → ToldWatts → Dialect → Ask → List ℕ → Option ToldReply → Type 0
PayloadSo c plan told spoken ask payload None =
    (reply : Reply) (spelled : SpelledWatts) → c.words.Reads spoken payload (Some (word.Reply reply)) → answers ask reply.tell ≡ true → c.Watts spoken payload spelled → ⊥
PayloadSo c plan told spoken ask payload (Some r) = IsReply c plan told spoken ask payload r

abbrev pub ReplySo : ToldCodecs → PostPlan → ToldWatts → Dialect → Ask → List ℕ → Option ToldReply → Type 0
ReplySo c plan told spoken ask bytes None = (payload : List ℕ) → bytes ≡ frame payload → PayloadSo c plan told spoken ask payload None
ReplySo c plan told spoken ask bytes (Some r) = IsFrame bytes × PayloadSo c plan told spoken ask (drop 8 bytes) (Some r)

-- what bytes say to a word
abbrev pub ResponseTo : ToldCodecs → Option Dialect → List ℕ → ToldSaid → Type 0
ResponseTo c chosen bytes (Response own positive) = (own ≡ chosen) × ResponseSo c.Responds bytes (Some positive)
ResponseTo c chosen bytes (Replied r) = ⊥
ResponseTo c chosen bytes Other = ResponseSo c.Responds bytes None
ResponseTo c chosen bytes Unasked = ⊥

abbrev pub ReplyTo : ToldCodecs → PostPlan → ToldWatts → Option Dialect → Ask → List ℕ → ToldSaid → Type 0
ReplyTo c plan told None ask bytes said = said ≡ Other
ReplyTo c plan told (Some spoken) ask bytes (Response own positive) = ⊥
ReplyTo c plan told (Some spoken) ask bytes (Replied r) = ReplySo c plan told spoken ask bytes (Some r)
ReplyTo c plan told (Some spoken) ask bytes Other = ReplySo c plan told spoken ask bytes None
ReplyTo c plan told (Some spoken) ask bytes Unasked = ⊥

abbrev pub SaysTo : ToldCodecs → PostPlan → ToldWatts → Option Dialect → List ℕ → Option ToldWord → ToldSaid → Type 0
SaysTo c plan told spoken bytes None said = said ≡ Unasked
SaysTo c plan told spoken bytes (Some (heard.BadFrame fault)) said = said ≡ Other
SaysTo c plan told spoken bytes (Some (heard.Negotiated chosen)) said = ResponseTo c chosen bytes said
SaysTo c plan told spoken bytes (Some (heard.Asked request)) said = ReplyTo c plan told spoken request.ask bytes said
SaysTo c plan told spoken bytes (Some heard.WrongSide) said = said ≡ Other
SaysTo c plan told spoken bytes (Some heard.Refused) said = said ≡ Other

-- ---- as the definitions say it

pub record IsToldReply (plan : PostPlan) (told : ToldWatts) (kept : Option ToldWord) (r : ToldReply) (said : steps.Said) : Type 0 where
  pub request : Request
  pub spelled : SpelledWatts
  pub kept_is : kept ≡ Some (heard.Asked request)
  pub said_is : said ≡ steps.Replied request r.reply spelled
  pub values : AreOf plan told.dialect told.watts spelled r.watts

abbrev pub IsSame : PostPlan → ToldWatts → Option ToldWord → ToldSaid → steps.Said → Type 0
IsSame plan told kept (Response chosen positive) said = said ≡ steps.Response chosen positive
IsSame plan told kept (Replied r) said = IsToldReply plan told kept r said
IsSame plan told kept Other said = said ≡ steps.Other
IsSame plan told kept Unasked said = said ≡ steps.Unasked

-- bytes say this, and nothing else
pub record SaidSo (c : ToldCodecs) (plan : PostPlan) (told : ToldWatts) (past : List Seen) (bytes : List ℕ) (kept : Option ToldWord) (found : ToldSaid) : Type 0 where
  pub said : steps.Said
  pub same : IsSame plan told kept found said
  pub is : IsSaid c plan past bytes said
  pub only : (other : steps.Said) → IsSaid c plan past bytes other → other ≡ said
