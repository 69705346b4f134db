-- Own: the replies that a post gives, which its codecs have to spell.
use Rattle.std.specs.Prelude.{◌≡◌, ◌≤◌, ℕ, List, Option, Some, Contains, ◌⊎◌}
use Rattle.charge_world.specs.declared.offer.Dialect.{Dialect}
use Rattle.session_words.specs.declared.facts.Facts.{Facts}
use Rattle.session_words.specs.declared.plan.PostPlan.{PostPlan}
use Rattle.session_words.specs.declared.word.Reply.{Reply}
use Rattle.session_words.specs.declared.word.Request.{Request}
use Rattle.session_words.specs.declared.word.Word.{Word}
use Rattle.session_words.specs.declared.word.Word.TheVariants as word
use Rattle.session_words.specs.Plans.{IsPostPlan}
use Rattle.session_rules.specs.declared.stage.Stage.{Stage}
use Rattle.session_rules.specs.Reply.{reply_to, waiting_reply}

-- a plan within its rules, with its amounts within their types: tenths of at most 3,000.0 V and A
pub record IsPlan (plan : PostPlan) : Type 0 where
  pub rules : IsPostPlan plan
  pub max_voltage : plan.max_voltage ≤ 30000
  pub min_voltage : plan.min_voltage ≤ 30000
  pub max_current : plan.max_current ≤ 30000
  pub min_current : plan.min_current ≤ 30000
  pub ripple : plan.ripple ≤ 30000

-- what the charger told is within its types
pub record AreFacts (facts : Facts) : Type 0 where
  pub voltage : facts.voltage ≤ 30000
  pub current : facts.current ≤ 30000

-- the reply to a request that was read in this dialect, where these watts are shown
pub record IsAnswer (Reads : Dialect → List ℕ → Option Word → Type 0) (stage : Stage) (facts : Facts) (plan : PostPlan) (reply : Reply) : Type 0 where
  pub payload : List ℕ
  pub request : Request
  pub shown : ℕ
  pub asked : Reads stage.dialect payload (Some (word.Request request))
  pub most : shown ≤ 1000000
  pub reply_is : reply ≡ reply_to stage facts plan request shown

-- a reply that a post gives: to a request, or to PowerDelivery once the contactor's feedback is there
pub record IsGiven (Reads : Dialect → List ℕ → Option Word → Type 0) (dialect : Dialect) (reply : Reply) : Type 0 where
  pub plan : PostPlan
  pub facts : Facts
  pub stage : Stage
  pub is_plan : IsPlan plan
  pub are_facts : AreFacts facts
  pub told : stage.told ≤ 1000000
  pub dialect_is : dialect ≡ stage.dialect
  pub offered : Contains plan.dialects.items dialect
  pub given : IsAnswer Reads stage facts plan reply ⊎ (reply ≡ waiting_reply stage facts plan)
