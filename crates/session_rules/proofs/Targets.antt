-- What an accepted PreCharge asks for.
use Rattle.std.proofs.Common.{◌≡◌, ℕ, ◌≤◌, Bool, true, false, not, ◌&&◌, nat_lt, Some, None, [], ◌∷◌, unwrap_or, subst, arith, refl}
use Rattle.std.proofs.lemmas.Grind.{common_steps}
use Rattle.session_words.specs.declared.amount.Amount.{Amount}
use Rattle.session_words.specs.declared.code.Code.TheVariants as code
use Rattle.session_words.specs.declared.facts.Facts.{Facts}
use Rattle.session_words.specs.declared.plan.PostPlan.{PostPlan}
use Rattle.session_words.specs.declared.word.Ask.{Ask}
use Rattle.session_words.specs.declared.word.Ask.TheVariants as ask
use Rattle.session_words.specs.declared.word.Request.{Request}
use Rattle.session_rules.specs.declared.stage.Stage.{Stage}
use Rattle.session_rules.specs.Lines.{line, first_line}
use Rattle.session_rules.specs.Rows.{accepts}
use Rattle.session_rules.specs.Verdict.{verdict, is_accepted, is_misnamed}

-- where a request is accepted, none of four lines applies
passed : (a b c d : Bool)
    → is_accepted (unwrap_or (first_line (
    line a (Some code.FailedUnknownSession) ∷ line b (Some code.FailedSequenceError) ∷
    line c (Some code.Failed) ∷ line d (Some code.Failed) ∷ []) None) code.Ok) ≡ true
    → d ≡ false
passed true b c d h = cc
passed false true c d h = cc
passed false false true d h = cc
passed false false false true h = cc
passed false false false false h = refl

within : (m n : ℕ) → nat_lt m n ≡ false → n ≤ m
within m n h = grind (arith, common_steps)

-- its target is at most the post's greatest voltage
pub target_within : (s : Stage) (facts : Facts) (plan : PostPlan) (r : Request) (ready : Bool) (soc : ℕ) (voltage current : Amount)
    → r.ask ≡ ask.PreCharge ready soc voltage current → is_accepted (verdict s facts plan r) ≡ true
    → voltage.size ≤ plan.max_voltage
target_within s facts plan r ready soc voltage current asked accepted =
    let P : Ask → Type 0 = λ a. is_accepted (verdict s facts plan (record { session = r.session; ask = a })) ≡ true in
    within plan.max_voltage voltage.size (passed (is_misnamed s r.session)
    (not (accepts s.dialect s.row (ask.PreCharge ready soc voltage current)))
    (not (voltage.right && current.right)) (nat_lt plan.max_voltage voltage.size) (subst P asked accepted))
