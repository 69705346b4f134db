-- The row behind an accepted request.
use Rattle.std.proofs.Common.{◌≡◌, ℕ, Bool, true, Option, Some, sym, ap, ◌∙◌, subst}
use Rattle.std.specs.Prelude.{IfSome, unwrap_or, if◌then◌else◌}
use Rattle.session_words.specs.declared.code.Code.{Code}
use Rattle.session_words.specs.declared.phase.Phase.{Phase}
use Rattle.session_words.specs.declared.plan.PostPlan.{PostPlan}
use Rattle.session_words.specs.declared.word.Request.{Request}
use Rattle.session_rules.specs.Finishing.{is_ac, is_finished}
use Rattle.session_rules.specs.Moves.{next_row}
use Rattle.session_rules.specs.Rows.{leads}
use Rattle.session_rules.specs.Verdict.{is_accepted}
use Rattle.audit_rows.specs.declared.judging.PostValues.{PostValues}
use Rattle.audit_rows.specs.declared.rows.Lead.{Lead}
use Rattle.audit_rows.specs.Rows.{number_behind, led}
use Rattle.audit_rows.specs.Values.{stage_of, next_by}

pub next_accepted : (row : Phase) (v : PostValues) (plan : PostPlan) (r : Request) (code : Code) (ac finished : Bool) (found : Option Lead) (lead : Lead) (next : ℕ)
    → ac ≡ is_ac plan.mode → finished ≡ is_finished v.facts plan r.ask v.shown
    → ((f : Bool) → IfSome found (λ l. led f l ≡ number_behind r.ask (unwrap_or (leads row r.ask f ac) row)))
    → found ≡ Some lead → next ≡ led finished lead → is_accepted code ≡ true
    → next ≡ next_by code (stage_of row v) v plan r
next_accepted row v plan r code ac finished found lead next mode ends behind is it good =
    let at : led finished lead ≡ number_behind r.ask (unwrap_or (leads row r.ask finished ac) row) =
    subst (λ (o : Option Lead). IfSome o (λ l. led finished l ≡ number_behind r.ask (unwrap_or (leads row r.ask finished ac) row))) is (behind finished) in
    it ∙ at
    ∙ ap (λ (b : Bool). number_behind r.ask (unwrap_or (leads row r.ask finished b) row)) mode
    ∙ ap (λ (b : Bool). number_behind r.ask (unwrap_or (leads row r.ask b (is_ac plan.mode)) row)) ends
    ∙ ap (λ (b : Bool). if b then number_behind r.ask (next_row (stage_of row v) v.facts plan r.ask v.shown) else 0) (sym good)
