-- ISO 15118-2:2014, section 8.8.4: by which PowerDelivery Start a contactor may be closed. It is the one right behind which the Close stands: an
-- older Close, or that of another session, gives no right.
use Rattle.std.specs.Prelude.{◌≡◌, true, List, Some, ◌⊎◌}
use Rattle.session_words.specs.declared.plan.PostPlan.{PostPlan}
use Rattle.post_spec.specs.Codecs.{Codecs}
use Rattle.post_spec.specs.Mandated.{IsStarting, IsStarted, Mandated}
use Rattle.post_spec.specs.Sessions.{session, waits}
use Rattle.post_spec.specs.Steps.{Seen}
use Rattle.post_spec.specs.Talk.{Exchange}

-- a past before a reply: in its session a Close was taken behind the reply before
pub record IsBehindClose (before : List Seen) : Type 0 where
  pub es : List Seen
  pub session_is : session before ≡ Some es
  pub waited : waits es ≡ true

-- PowerDelivery Start was answered behind its own Close
pub record IsOwnStart (xs earlier : List Exchange) (judged : List Seen) : Type 0 where
  pub started : IsStarted xs earlier judged
  pub closed : IsBehindClose started.before

-- The session is mandated to have its contactor closed, by a PowerDelivery Start that is the next word or waits for its Close, or that was
-- answered behind its own
pub record MandatedByOwn (c : Codecs) (plan : PostPlan) (past : List Seen) : Type 0 where
  pub mandated : Mandated c plan past
  pub own : IsStarting c past mandated.es mandated.xs mandated.earlier mandated.judged ⊎ IsOwnStart mandated.xs mandated.earlier mandated.judged
