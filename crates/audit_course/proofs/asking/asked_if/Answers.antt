use Rattle.std.proofs.Common.{ℕ, Bool, Option, Some, None, ap, ◌∙◌}
use Rattle.std.specs.Prelude.{◌&&◌, if◌then◌else◌}
use Rattle.session_rules.specs.Asks.{shows_watts}
use Rattle.session_rules.specs.Verdict.{is_accepted}
use Rattle.audit_course.proofs.asking.asked_if.Goals as goal

pub returns : goal.returns
returns c =
    c.watts_if.ensures
    ∙ ap (λ (b : Bool). if b then Some c.asked_behind.result else None) c.shows.ensures
    ∙ ap (λ (n : ℕ). if is_accepted c.args.code && shows_watts c.args.ask.now then Some n else None) c.asked_behind.ensures
