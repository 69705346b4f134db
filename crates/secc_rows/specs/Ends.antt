-- Own: the cause by which a session ends behind a request, and the reply that goes at once.
use Rattle.std.specs.Prelude.{ℕ, false, if◌then◌else◌, Option, Some, None}
use Rattle.session_words.specs.declared.cause.EndCause.{EndCause}
use Rattle.session_words.specs.declared.facts.Facts.{Facts}
use Rattle.session_words.specs.declared.plan.PostPlan.{PostPlan}
use Rattle.session_words.specs.declared.word.Reply.{Reply}
use Rattle.session_words.specs.declared.word.Request.{Request}
use Rattle.session_rules.specs.declared.stage.Stage.{Stage}
use Rattle.session_rules.specs.Causes.{found_by, word_cause}
use Rattle.session_rules.specs.Moves.{stage_behind}
use Rattle.session_rules.specs.Reply.{reply_to}
use Rattle.session_rules.specs.Stages.{is_waiting}
use Rattle.session_rules.specs.Verdict.{verdict}

-- the cause that a request is where no reply waits
abbrev pub end_of : Stage → Facts → PostPlan → Request → Option EndCause
end_of s facts plan r = word_cause false (found_by (verdict s facts plan r) r.ask)

-- the reply that goes at once: none where it waits for the contactor
abbrev pub reply_at_once : Stage → Facts → PostPlan → Request → ℕ → Option Reply
reply_at_once s facts plan r shown =
    if is_waiting (stage_behind s facts plan r shown).row then None else Some (reply_to s facts plan r shown)
