-- Own: each reply that a post gives in ISO 15118-2:2014 can be spelled.
use Rattle.std.specs.Prelude.{◌≡◌, ℕ}
use Rattle.charge_world.specs.declared.offer.Dialect.TheVariants as dialect
use Rattle.session_words.specs.Plans.{IsPostPlan}
use Rattle.session_words.specs.declared.facts.Facts.{Facts}
use Rattle.session_words.specs.declared.plan.PostPlan.{PostPlan}
use Rattle.session_words.specs.declared.word.Ask.{Ask}
use Rattle.session_words.specs.declared.word.Ask.TheVariants as ask
use Rattle.session_words.specs.declared.word.Request.{Request}
use Rattle.session_words.specs.declared.word.Word.TheVariants as word
use Rattle.session_rules.specs.declared.stage.Stage.{Stage}
use Rattle.session_rules.specs.Reply.{reply_to, waiting_reply}
use Rattle.written_words.specs.Posts.{ArePostBounds}
use Rattle.written_words.specs.Typed.{IsTyped}
use Rattle.iso_word_messages.specs.Spellable.{IsService, CanSession, CanSpell}

abbrev pub IsServiceOf : Ask → Type 0
IsServiceOf (ask.ServiceDetail service) = IsService service
IsServiceOf other = Unit {0}

-- what the types of a session, of its post and of a request bound, and watts that a post may tell
pub record IsBounded (s : Stage) (facts : Facts) (plan : PostPlan) (r : Request) (shown : ℕ) : Type 0 where
  pub session : CanSession s.session
  pub named : CanSession r.session
  pub service : IsServiceOf r.ask
  pub post : ArePostBounds s facts plan shown

abbrev pub SpellsReplies : Type 0
SpellsReplies = (s : Stage) (facts : Facts) (plan : PostPlan) (r : Request) (shown : ℕ)
    → s.dialect ≡ dialect.Iso → IsPostPlan plan → IsBounded s facts plan r shown → CanSpell (word.Reply (reply_to s facts plan r shown))

abbrev pub SpellsWaiting : Type 0
SpellsWaiting = (s : Stage) (facts : Facts) (plan : PostPlan) → CanSession s.session → CanSpell (word.Reply (waiting_reply s facts plan))

-- the same, where the types of the reply itself bound what it has of the session and of the request
abbrev pub SpellsTyped : Type 0
SpellsTyped = (s : Stage) (facts : Facts) (plan : PostPlan) (r : Request) (shown : ℕ)
    → s.dialect ≡ dialect.Iso → IsPostPlan plan → ArePostBounds s facts plan shown → IsTyped (reply_to s facts plan r shown)
    → CanSpell (word.Reply (reply_to s facts plan r shown))

abbrev pub SpellsTypedWaiting : Type 0
SpellsTypedWaiting = (s : Stage) (facts : Facts) (plan : PostPlan) → IsTyped (waiting_reply s facts plan)
    → CanSpell (word.Reply (waiting_reply s facts plan))
