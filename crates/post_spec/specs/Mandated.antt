-- ISO 15118-2:2014, section 8.8.4, and IEC 61851-23: when a contactor may be closed. It is said by the words of the session and what the
-- charger told, without rows. That feedback confirms a Close is own.
use Rattle.std.specs.Prelude.{◌≡◌, ℕ, true, if◌then◌else◌, List, [], ◌∷◌, ◌++◌, length, Some, ◌⊎◌, MatchBool}
use Rattle.std.specs.List.{AllByRecursion}
use Rattle.charge_world.specs.declared.offer.Dialect.{Dialect}
use Rattle.charge_world.specs.declared.ports.Order.{Order}
use Rattle.charge_world.specs.declared.ports.Order.TheVariants as order
use Rattle.session_words.specs.declared.plan.PostPlan.{PostPlan}
use Rattle.session_words.specs.declared.word.Reply.{Reply}
use Rattle.session_words.specs.declared.word.Request.{Request}
use Rattle.session_words.specs.declared.word.Word.TheVariants as word
use Rattle.session_rules.specs.Rights.{is_ready}
use Rattle.session_rules.specs.Finishing.{is_ac}
use Rattle.post_spec.specs.Codecs.{Codecs}
use Rattle.post_spec.specs.Facts.{pilot}
use Rattle.post_spec.specs.Kinds.{is_of, any, asks_start, asks_opening}
use Rattle.post_spec.specs.Sessions.{session, stream, waits}
use Rattle.post_spec.specs.Steps.{Act, Give, Send, Answer, End, Seen, Heard, Did}
use Rattle.post_spec.specs.Talk.{Exchange, Answered, dialect_of, Talks, IsOk}
use Rattle.post_spec.specs.Words.{IsPayloadAt}
use Rattle.post_spec.specs.Prepared.{HasNo, IsPrepared}
use Rattle.post_spec.specs.Checked.{IsChecked}

-- the past before the newest order to close
abbrev pub before_order : Order → List Seen → List Seen → List Seen
before_order order.Close past earlier = past
before_order order.Open past earlier = earlier
before_order (order.Limits voltage current watts) past earlier = earlier

abbrev pub before_act : Act → List Seen → List Seen → List Seen
before_act (Give order) past earlier = before_order order past earlier
before_act (Send bytes) past earlier = earlier
before_act (Answer bytes) past earlier = earlier
before_act (End cause) past earlier = earlier

abbrev pub before_close : List Seen → List Seen
before_close [] = []
before_close (Heard at event ∷ past) = before_close past
before_close (Did act taken ∷ past) = before_act act past (before_close past)

-- PowerDelivery Start is the next word, or the reply to it waits; these were answered before, and over this past it was judged
pub record IsStarting (c : Codecs) (past es : List Seen) (xs earlier : List Exchange) (judged : List Seen) : Type 0 where
  pub spoken : Dialect
  pub payload : List ℕ
  pub request : Request
  pub dialect_is : dialect_of xs ≡ Some spoken
  pub next : IsPayloadAt (stream es) (length xs) payload
  pub request_is : c.Reads spoken payload (Some (word.Request request))
  pub start : asks_start request.ask ≡ true
  pub earlier_is : earlier ≡ xs
  pub judged_is : judged ≡ (if waits es then before_close past else past)

-- PowerDelivery Start was answered, and no Stop or Renegotiate behind it
pub record IsStarted (xs earlier : List Exchange) (judged : List Seen) : Type 0 where
  pub behind : List Exchange
  pub request : Request
  pub reply : Reply
  pub before : List Seen
  pub xs_are : xs ≡ behind ++ Answered request reply before ∷ earlier
  pub start : asks_start request.ask ≡ true
  pub goes_on : HasNo (is_of asks_opening any) behind
  pub judged_is : judged ≡ before_close before

-- the session is mandated to have its contactor closed
pub record Mandated (c : Codecs) (plan : PostPlan) (past : List Seen) : Type 0 where
  pub es : List Seen
  pub session_is : session past ≡ Some es
  pub xs : List Exchange
  pub talks : Talks c plan.dialects.items past xs
  pub ok : AllByRecursion IsOk xs
  pub earlier : List Exchange
  pub judged : List Seen
  pub starts : IsStarting c past es xs earlier judged ⊎ IsStarted xs earlier judged
  pub prepared : IsPrepared (is_ac plan.mode) earlier
  pub checked : MatchBool (is_ac plan.mode) (Unit {0}) (IsChecked past earlier)
  pub ready : is_ready (pilot judged) ≡ true
