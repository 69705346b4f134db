-- Rows that take no request, and what holds where the contactor is to be closed.
use Rattle.std.proofs.Common.{◌≡◌, Bool, true, false, ◌&&◌, List, ◌∷◌, Option, Some, None, is_some, unwrap_or, refl}
use Rattle.std.specs.Prelude.{not}
use Rattle.charge_world.specs.declared.ports.Order.TheVariants as order
use Rattle.session_words.specs.declared.code.Code.{Code}
use Rattle.session_words.specs.declared.code.Code.TheVariants as code
use Rattle.session_words.specs.declared.facts.Facts.{Facts}
use Rattle.session_words.specs.declared.phase.Phase.{Phase}
use Rattle.session_words.specs.declared.phase.Phase.TheVariants as row
use Rattle.session_words.specs.declared.plan.PostPlan.{PostPlan}
use Rattle.session_words.specs.declared.word.Ask.{Ask}
use Rattle.session_words.specs.declared.word.Ask.TheVariants as ask
use Rattle.session_words.specs.declared.word.Request.{Request}
use Rattle.session_rules.specs.declared.stage.Stage.{Stage}
use Rattle.session_rules.specs.Laws.{ClosesRight, IsNear}
use Rattle.session_rules.specs.Lines.{Line, line, first_line}
use Rattle.session_rules.specs.Orders.{granted_order}
use Rattle.session_rules.specs.Rows.{leads, is_spoken, accepts}
use Rattle.session_rules.specs.Verdict.{verdict, is_misnamed, content_lines, accepting_code, is_accepted}
use Rattle.secc_rows.specs.declared.carried.Accepted.{Accepted}
use Rattle.secc_rows.specs.declared.carried.Carried.{Carried}
use Rattle.secc_rows.specs.declared.kind.Kind.{Kind}
use Rattle.secc_rows.specs.Leading.{IsAccepted, LeadsTo}
use Rattle.secc_rows.specs.Rows.{carried_stage, takes_none}

-- these rows lead nowhere
leads_nowhere : (here : Phase) (a : Ask) → takes_none here ≡ true → is_some (leads here a true true) ≡ false
leads_nowhere row.Connected (ask.SessionStop pause) t = refl
leads_nowhere row.DcClosing (ask.SessionStop pause) t = refl
leads_nowhere row.AcClosing (ask.SessionStop pause) t = refl
leads_nowhere row.Connected a t = refl
leads_nowhere row.DcClosing a t = refl
leads_nowhere row.AcClosing a t = refl
leads_nowhere here a t = cc

never : (b c : Bool) → c ≡ false → (b && c) ≡ false
never true c h = h
never false c h = refl

refused_by : (m n : Bool) (rest : List (Line (Option Code))) (otherwise : Code) → n ≡ false
    → is_accepted (unwrap_or (first_line (line m (Some code.FailedUnknownSession) ∷ line (not n) (Some code.FailedSequenceError) ∷ rest) None) otherwise) ≡ false
refused_by true n rest otherwise h = refl
refused_by false n rest otherwise h = rw h refl

refused : (s : Stage) (facts : Facts) (plan : PostPlan) (r : Request) → takes_none s.row ≡ true → is_accepted (verdict s facts plan r) ≡ false
refused s facts plan r t =
    refused_by (is_misnamed s r.session) (accepts s.dialect s.row r.ask) (content_lines s facts plan r.ask) (accepting_code s facts r.session r.ask)
    (never (is_spoken s.dialect r.ask) (is_some (leads s.row r.ask true true)) (leads_nowhere s.row r.ask t))

pub led_nowhere : (s : Stage) (by : Accepted) (to : Kind) (closes : Bool) → takes_none s.row ≡ true → IsAccepted s by → LeadsTo s by to closes
led_nowhere s by to closes t a = absurd (let e = refused s by.facts.now by.plan.now by.request.now t in cc)

-- an accepted Start comes behind a near pre-charge
pub starts_near : (k : Carried) (by : Accepted) → ClosesRight → IsAccepted (carried_stage row.DcPreCharging k) by
    → granted_order by.plan.now k.told 0 by.request.now.ask ≡ Some order.Close → IsNear k.pre_charge
starts_near k by law a o =
    (law (carried_stage row.DcPreCharging k) by.facts.now by.plan.now by.request.now 0 (rw a o)).near refl
