-- The row that a number tells.
use Rattle.std.proofs.Common.{◌≡◌, ℕ, ◌==◌, Bool, true, false, Some, None, refl, ap, ◌∙◌}
use Rattle.std.specs.Prelude.{unwrap_or, if◌then◌else◌}
use Rattle.std.proofs.lemmas.Bool.{eqb-true}
use Rattle.session_words.specs.declared.phase.Phase.{Phase}
use Rattle.session_words.specs.declared.phase.Phase.TheVariants as row
use Rattle.session_words.specs.declared.word.Ask.{Ask}
use Rattle.session_words.specs.declared.word.Ask.TheVariants as ask
use Rattle.session_words.specs.declared.plan.PostPlan.{PostPlan}
use Rattle.session_words.specs.declared.word.Request.{Request}
use Rattle.session_rules.specs.Finishing.{is_ac, is_finished}
use Rattle.session_rules.specs.Moves.{next_row}
use Rattle.session_rules.specs.Rows.{leads, may_stop}
use Rattle.session_rules.specs.Verdict.{is_accepted}
use Rattle.audit_rows.specs.declared.judging.Judged.{Judged}
use Rattle.audit_rows.specs.declared.judging.PostValues.{PostValues}
use Rattle.audit_rows.specs.Rows.{number_of, number_behind, row_numbered}
use Rattle.audit_rows.specs.Values.{stage_of, IsJudged}

numbered : (r : Phase) → row_numbered (number_of r) ≡ r
numbered row.Connected = refl
numbered row.Negotiated = refl
numbered row.SetUp = refl
numbered row.Discovered = refl
numbered row.Selected = refl
numbered row.Authorized = refl
numbered row.DcReady = refl
numbered row.DcChecked = refl
numbered row.DcPreCharging = refl
numbered row.DcClosing = refl
numbered row.DcCharging = refl
numbered row.DcStopped = refl
numbered row.AcReady = refl
numbered row.AcClosing = refl
numbered row.AcCharging = refl
numbered row.AcStopped = refl

some_row : (r : Phase) → (number_of r == 0) ≡ false
some_row row.Connected = refl
some_row row.Negotiated = refl
some_row row.SetUp = refl
some_row row.Discovered = refl
some_row row.Selected = refl
some_row row.Authorized = refl
some_row row.DcReady = refl
some_row row.DcChecked = refl
some_row row.DcPreCharging = refl
some_row row.DcClosing = refl
some_row row.DcCharging = refl
some_row row.DcStopped = refl
some_row row.AcReady = refl
some_row row.AcClosing = refl
some_row row.AcCharging = refl
some_row row.AcStopped = refl

stays : (b : Bool) (r : Phase) → r ≡ unwrap_or (if b then Some r else None) r
stays true r = refl
stays false r = refl

-- the row that a number leads to, from this one
abbrev pub behind : Phase → ℕ → Phase
behind r n = if n == 0 then r else row_numbered n

led_on : (r next : Phase) → behind r (number_of next) ≡ next
led_on r next = ap (λ (b : Bool). if b then r else row_numbered (number_of next)) (some_row next) ∙ numbered next

told : (r : Phase) (a : Ask) (finished ac : Bool) → behind r (number_behind a (unwrap_or (leads r a finished ac) r)) ≡ unwrap_or (leads r a finished ac) r
told r (ask.SessionStop pause) finished ac = stays (may_stop r) r
told r (ask.SessionSetup car) finished ac = led_on r (unwrap_or (leads r (ask.SessionSetup car) finished ac) r)
told r ask.ServiceDiscovery finished ac = led_on r (unwrap_or (leads r ask.ServiceDiscovery finished ac) r)
told r (ask.ServiceDetail service) finished ac = led_on r (unwrap_or (leads r (ask.ServiceDetail service) finished ac) r)
told r (ask.PaymentSelection external services) finished ac = led_on r (unwrap_or (leads r (ask.PaymentSelection external services) finished ac) r)
told r ask.Authorization finished ac = led_on r (unwrap_or (leads r ask.Authorization finished ac) r)
told r (ask.ChargeParameters mode limits) finished ac = led_on r (unwrap_or (leads r (ask.ChargeParameters mode limits) finished ac) r)
told r (ask.CableCheck ready soc) finished ac = led_on r (unwrap_or (leads r (ask.CableCheck ready soc) finished ac) r)
told r (ask.PreCharge ready soc voltage current) finished ac = led_on r (unwrap_or (leads r (ask.PreCharge ready soc voltage current) finished ac) r)
told r (ask.PowerDelivery progress tuple profile) finished ac = led_on r (unwrap_or (leads r (ask.PowerDelivery progress tuple profile) finished ac) r)
told r (ask.CurrentDemand ready soc voltage current) finished ac = led_on r (unwrap_or (leads r (ask.CurrentDemand ready soc voltage current) finished ac) r)
told r ask.ChargingStatus finished ac = led_on r (unwrap_or (leads r ask.ChargingStatus finished ac) r)
told r (ask.WeldingDetection ready soc) finished ac = led_on r (unwrap_or (leads r (ask.WeldingDetection ready soc) finished ac) r)

led_if : (b : Bool) (r : Phase) (n : ℕ) → (b ≡ true → n ≡ 0) → (n ≡ 0 → ⊥) → row_numbered n ≡ (if b then r else row_numbered n)
led_if true r n zero some = absurd (some (zero refl))
led_if false r n zero some = refl

pub not_zero : (r : Phase) (n : ℕ) → (n ≡ 0 → ⊥) → row_numbered n ≡ behind r n
not_zero r n some = led_if (n == 0) r n (λ is. eqb-true n 0 is) some

accepted : (b : Bool) (n : ℕ) → b ≡ true → (if b then n else 0) ≡ n
accepted true n is = refl
accepted false n is = cc

pub row_told : (r : Phase) (v : PostValues) (plan : PostPlan) (request : Request) (j : Judged) → IsJudged r v plan request j → is_accepted j.code ≡ true
    → behind r j.next ≡ next_row (stage_of r v) v.facts plan request.ask v.shown
row_told r v plan request j h good =
    ap (λ (n : ℕ). behind r n) (h.next ∙ accepted (is_accepted j.code) (number_behind request.ask (next_row (stage_of r v) v.facts plan request.ask v.shown)) good)
    ∙ told r request.ask (is_finished v.facts plan request.ask v.shown) (is_ac plan.mode)
