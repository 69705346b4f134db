-- Own: how many entries the schedules of a reply have. They alone make a reply long.
use Rattle.std.specs.Prelude.{◌≤◌, ℕ, All, IfSome}
use Rattle.session_words.specs.declared.facts.Facts.{Facts}
use Rattle.session_words.specs.declared.plan.PostPlan.{PostPlan}
use Rattle.session_words.specs.declared.word.Request.{Request}
use Rattle.session_words.specs.declared.word.Tell.{Tell}
use Rattle.session_words.specs.declared.word.Tell.TheVariants as tell
use Rattle.session_words.specs.declared.word.Word.{Word}
use Rattle.session_words.specs.declared.word.Word.TheVariants as word
use Rattle.session_rules.specs.declared.stage.Stage.{Stage}
use Rattle.session_rules.specs.Reply.{reply_to, waiting_reply}

-- no schedule tuple has more
abbrev pub HasEntries : ℕ → Tell → Type 0
HasEntries most (tell.ChargeParameters processing schedule limits) =
    IfSome schedule (λ tuples. All (λ t. t.entries ≤ most) tuples.items)
HasEntries most other = Unit {0}

-- where it is a reply
abbrev pub IsBrief : Word → Type 0
IsBrief (word.Reply r) = HasEntries 1 r.tell
IsBrief other = Unit {0}

abbrev pub RepliesAreBrief : Type 0
RepliesAreBrief = (s : Stage) (facts : Facts) (plan : PostPlan) (r : Request) (shown : ℕ)
    → HasEntries 1 ((reply_to s facts plan r shown).tell)

abbrev pub WaitingIsBrief : Type 0
WaitingIsBrief = (s : Stage) (facts : Facts) (plan : PostPlan) → HasEntries 1 ((waiting_reply s facts plan).tell)
