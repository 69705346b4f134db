-- ISO 15118-2:2014, section 8.8.4, and IEC 61851-23: when a contactor may be closed in a foreign trace. It is said by the words of the session
-- and what the charger told, without rows.
use Rattle.std.specs.Prelude.{◌≡◌, true, if◌then◌else◌, List, ◌∷◌, ◌++◌, map, Some, ◌⊎◌, MatchBool}
use Rattle.std.specs.List.{AllByRecursion}
use Rattle.session_words.specs.declared.plan.PostPlan.{PostPlan}
use Rattle.session_words.specs.declared.word.Request.{Request}
use Rattle.session_words.specs.declared.word.Reply.{Reply as PostReply}
use Rattle.contactor.specs.Rights.{is_ready}
use Rattle.session_rules.specs.Finishing.{is_ac}
use Rattle.post_spec.specs.Checked.{IsChecked}
use Rattle.post_spec.specs.Codecs.{Asked}
use Rattle.post_spec.specs.Facts.{pilot}
use Rattle.post_spec.specs.Kinds.{is_of, any, asks_start, asks_opening}
use Rattle.post_spec.specs.Prepared.{HasNo, IsPrepared}
use Rattle.post_spec.specs.Sessions.{session}
use Rattle.post_spec.specs.Steps.{Seen}
use Rattle.post_spec.specs.Talk.{Exchange, IsOk}
use Rattle.post_spec.specs.Words.{HeardWord, Payload}
use Rattle.told_pasts.specs.Reading.{IsUnanswered}
use Rattle.told_pasts.specs.Spelling.{ToldCodecs, SpelledWatts}
use Rattle.told_pasts.specs.Steps.{ToldStep, Replied, seen_in}
use Rattle.told_pasts.specs.Talk.{Reply, is_judged, judged_over, replies, exchange_of, talk}

-- PowerDelivery Start is the first word without a reply: these were answered before, and over this past it was judged, or would be now
pub record IsStarting (c : ToldCodecs) (plan : PostPlan) (steps : List ToldStep) (earlier : List Exchange) (judged : List Seen) : Type 0 where
  pub words : List HeardWord
  pub request : Request
  pub unanswered : IsUnanswered c.words plan.dialects.items (seen_in steps) words (Payload (Asked request))
  pub start : asks_start request.ask ≡ true
  pub earlier_is : earlier ≡ talk steps
  pub judged_is : judged ≡ (if is_judged steps then judged_over steps else seen_in steps)

-- PowerDelivery Start was answered, and no Stop or Renegotiate behind it
pub record IsStarted (steps : List ToldStep) (earlier : List Exchange) (judged : List Seen) : Type 0 where
  pub behind : List Reply
  pub reply : Reply
  pub rest : List Reply
  pub replies_are : replies steps ≡ behind ++ reply ∷ rest
  pub request : Request
  pub answer : PostReply
  pub watts : SpelledWatts
  pub said_is : reply.said ≡ Replied request answer watts
  pub start : asks_start request.ask ≡ true
  pub goes_on : HasNo (is_of asks_opening any) (map exchange_of behind)
  pub earlier_is : earlier ≡ map exchange_of rest
  pub judged_is : judged ≡ reply.judged

-- the session is mandated to have its contactor closed
pub record IsMandated (c : ToldCodecs) (plan : PostPlan) (steps : List ToldStep) : Type 0 where
  pub es : List Seen
  pub session_is : session (seen_in steps) ≡ Some es
  pub ok : AllByRecursion IsOk (talk steps)
  pub earlier : List Exchange
  pub judged : List Seen
  pub starts : IsStarting c plan steps earlier judged ⊎ IsStarted steps earlier judged
  pub prepared : IsPrepared (is_ac plan.mode) earlier
  pub checked : MatchBool (is_ac plan.mode) (Unit {0}) (IsChecked (seen_in steps) earlier)
  pub ready : is_ready (pilot judged) ≡ true
