-- Own: what the acts of a post were about in a foreign trace: which of them judged a word, and what its bytes say.
use Rattle.std.specs.Prelude.{◌≡◌, ◌≤◌, ◌<◌, ℕ, Bool, true, false, ◌&&◌, List, [], ◌∷◌, drop, length, Option, Some, None, unwrap_or, ◌⊎◌}
use Rattle.charge_world.specs.declared.offer.Dialect.{Dialect}
use Rattle.charge_world.specs.declared.ports.Order.{Order}
use Rattle.charge_world.specs.declared.ports.Order.TheVariants as order
use Rattle.session_words.specs.declared.phase.Standing.TheVariants.{MustOpen}
use Rattle.session_words.specs.declared.plan.PostPlan.{PostPlan}
use Rattle.session_words.specs.declared.word.Reply.{Reply}
use Rattle.session_words.specs.declared.word.Request.{Request}
use Rattle.session_words.specs.declared.word.Word.TheVariants as word
use Rattle.session_timers.specs.Due.{never}
use Rattle.session_rules.specs.Asks.{asks, shows_watts}
use Rattle.session_rules.specs.Verdict.{verdict, is_accepted}
use Rattle.v2gtp_frames.specs.Frames.{frame}
use Rattle.car_rules.specs.Replies.{answers}
use Rattle.post_spec.specs.Causes.{due}
use Rattle.post_spec.specs.Codecs.{Judged, Negotiated, Asked, Codecs}
use Rattle.post_spec.specs.Contactors.{standing}
use Rattle.post_spec.specs.Course.{Talked, Course, facts_of}
use Rattle.post_spec.specs.Facts.{now}
use Rattle.post_spec.specs.Sessions.{session, stream, replies, waits}
use Rattle.post_spec.specs.Steps.{Act, Give, Send, Answer, End, Seen, Reading}
use Rattle.post_spec.specs.Words.{HeardWord, Payload, Fault, Words, chosen_by, next_words}
use Rattle.told_pasts.specs.Course.{told_course}
use Rattle.told_pasts.specs.Spelling.{SpelledWatts, ToldCodecs}
use Rattle.told_pasts.specs.Steps.{Said, Response, Replied, Other, Unasked, ToldStep, seen_in}
use Rattle.told_pasts.specs.Talk.{is_judged}

-- ---- words

-- the words of the living session, and its entries
pub record Hearing (c : Codecs) (offers : List Dialect) (past es : List Seen) (words : List HeardWord) : Type 0 where
  pub session_is : session past ≡ Some es
  pub words_are : Words c offers (stream es) words

-- the first word without a reply
pub record IsUnanswered (c : Codecs) (offers : List Dialect) (past : List Seen) (words : List HeardWord) (word : HeardWord) : Type 0 where
  pub es : List Seen
  pub hearing : Hearing c offers past es words
  pub rest : List HeardWord
  pub first : drop (length (replies es)) words ≡ word ∷ rest

-- the next word: that one, and while a reply waits the one behind it
pub record IsNext (c : Codecs) (offers : List Dialect) (past : List Seen) (word : HeardWord) : Type 0 where
  pub es : List Seen
  pub words : List HeardWord
  pub hearing : Hearing c offers past es words
  pub rest : List HeardWord
  pub next : next_words es words ≡ word ∷ rest

-- ---- which acts judge it

-- a deadline is reached
pub record IsReached (plan : PostPlan) (steps : List ToldStep) : Type 0 where
  pub talked : Talked
  pub es : List Seen
  pub course_is : (told_course plan steps).session ≡ Some talked
  pub session_is : session (seen_in steps) ≡ Some es
  pub reached : due (Some talked) es ≤ now (seen_in steps)
  pub bound : due (Some talked) es < never

-- an order to open that repeats a failed one, or comes as a deadline is reached, is about no word; nor are an answer to a datagram and an end
abbrev pub OrderJudges : PostPlan → List ToldStep → Order → Type 0
OrderJudges plan steps order.Open = (standing (seen_in steps) ≡ MustOpen) ⊎ IsReached plan steps → ⊥
OrderJudges plan steps other = Unit {0}

abbrev pub ActJudges : PostPlan → List ToldStep → Act → Type 0
ActJudges plan steps (Give given) = OrderJudges plan steps given
ActJudges plan steps (Send bytes) = Unit {0}
ActJudges plan steps (Answer bytes) = ⊥
ActJudges plan steps (End cause) = ⊥

-- the next word is judged where it wasn't, and no reply waits
pub record IsJudged (c : ToldCodecs) (plan : PostPlan) (steps : List ToldStep) (act : Act) (judged : Judged) : Type 0 where
  pub next : IsNext c.words plan.dialects.items (seen_in steps) (Payload judged)
  pub free : waits next.es ≡ false
  pub unread : is_judged steps ≡ false
  pub judges : ActJudges plan steps act

-- what it is shown: where it is accepted and shows watts, the post's share with what it asks for then
abbrev pub ShownTo : (ℕ → ℕ → Type 0) → Bool → ℕ → ℕ → Type 0
ShownTo Shows true asked shown = Shows asked shown
ShownTo Shows false asked shown = shown ≡ 0

abbrev pub IsShownIn : (ℕ → ℕ → Type 0) → PostPlan → List ToldStep → Course → Option Talked → Judged → ℕ → Type 0
IsShownIn Shows plan steps c (Some t) (Asked r) shown =
    ShownTo Shows (is_accepted (verdict t.stage (facts_of (seen_in steps) c) plan r) && shows_watts r.ask) (unwrap_or (asks plan r.ask) t.asked) shown
IsShownIn Shows plan steps c talked judged shown = shown ≡ 0

abbrev pub IsShown : (ℕ → ℕ → Type 0) → PostPlan → List ToldStep → Judged → ℕ → Type 0
IsShown Shows plan steps judged shown = IsShownIn Shows plan steps (told_course plan steps) (told_course plan steps).session judged shown

abbrev pub IsReading : ToldCodecs → (ℕ → ℕ → Type 0) → PostPlan → List ToldStep → Act → Option Reading → Type 0
IsReading c Shows plan steps act None = (judged : Judged) → IsJudged c plan steps act judged → ⊥
IsReading c Shows plan steps act (Some reading) = IsJudged c plan steps act reading.judged × IsShown Shows plan steps reading.judged reading.shown

-- ---- what bytes say

-- the dialect in which a session talks behind its first word
abbrev pub spoken_in : List HeardWord → Option Dialect
spoken_in [] = None
spoken_in (Payload judged ∷ words) = chosen_by judged
spoken_in (Fault fault ∷ words) = None

-- one whole frame that spells what answers the first word without a reply
pub data Says (c : ToldCodecs) (plan : PostPlan) (past : List Seen) (bytes : List ℕ) : Said → Type 0 where
  IsResponse : (words : List HeardWord) (chosen : Option Dialect) (own payload : List ℕ) (positive : Bool)
      → IsUnanswered c.words plan.dialects.items past words (Payload (Negotiated chosen own))
      → bytes ≡ frame payload → c.Responds payload positive
      → Says c plan past bytes (Response chosen positive)
  IsReply : (words : List HeardWord) (request : Request) (reply : Reply) (spoken : Dialect) (payload : List ℕ) (watts : SpelledWatts)
      → IsUnanswered c.words plan.dialects.items past words (Payload (Asked request))
      → spoken_in words ≡ Some spoken → bytes ≡ frame payload → c.words.Reads spoken payload (Some (word.Reply reply))
      → answers request.ask reply.tell ≡ true → c.Watts spoken payload watts
      → Says c plan past bytes (Replied request reply watts)

abbrev pub IsSaid : ToldCodecs → PostPlan → List Seen → List ℕ → Said → Type 0
IsSaid c plan past bytes Unasked = (words : List HeardWord) (word : HeardWord) → IsUnanswered c.words plan.dialects.items past words word → ⊥
IsSaid c plan past bytes Other =
    ((words : List HeardWord) × (word : HeardWord) × IsUnanswered c.words plan.dialects.items past words word)
    × ((said : Said) → Says c plan past bytes said → ⊥)
IsSaid c plan past bytes said = Says c plan past bytes said
