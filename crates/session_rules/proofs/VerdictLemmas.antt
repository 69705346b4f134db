-- What the lines of the verdict give.
use Rattle.std.proofs.Common.{◌≡◌, Bool, true, false, not, ◌&&◌, List, [], ◌∷◌, Option, Some, None, unwrap_or, if◌then◌else◌, refl}
use Rattle.charge_world.specs.declared.offer.Dialect.{Dialect}
use Rattle.charge_world.specs.declared.offer.Dialect.TheVariants as dialect
use Rattle.session_words.specs.declared.code.Code.{Code}
use Rattle.session_words.specs.declared.code.Code.TheVariants as code
use Rattle.session_words.specs.declared.code.Progress.TheVariants as progress
use Rattle.session_words.specs.declared.facts.Facts.{Facts}
use Rattle.session_words.specs.declared.plan.PostPlan.{PostPlan}
use Rattle.session_words.specs.declared.session.SessionId.{SessionId}
use Rattle.session_words.specs.declared.word.Ask.{Ask}
use Rattle.session_words.specs.declared.word.Ask.TheVariants as ask
use Rattle.session_words.specs.declared.word.Request.{Request}
use Rattle.session_rules.specs.declared.stage.Stage.{Stage}
use Rattle.session_rules.specs.Delivery.{contactor_code}
use Rattle.session_rules.specs.Laws.{AcceptsWithoutLine, AnswersInDialect, is_code_of}
use Rattle.session_rules.specs.Lines.{Line, line, first_line, none_applies}
use Rattle.session_rules.specs.Parameters.{wrong_mode}
use Rattle.session_rules.specs.Verdict.{verdict_lines, content_lines, accepting_code, setup_code, joins, is_accepted}

-- each line gives a FAILED code that the dialect has
abbrev pub Fails : Dialect → List (Line (Option Code)) → Type 0
Fails d [] = Unit {0}
Fails d (l ∷ lines) = (is_accepted (unwrap_or l.gives code.Ok) ≡ false) × (is_code_of d (unwrap_or l.gives code.Ok) ≡ true) × Fails d lines

start_fails : (d : Dialect) → Fails d (
    line true (Some code.FailedTariffSelectionInvalid) ∷
    line true (Some code.FailedChargingProfileInvalid) ∷
    line true (Some code.FailedPowerDeliveryNotApplied) ∷
    line true (Some (contactor_code d)) ∷
    line true (Some code.FailedPowerDeliveryNotApplied) ∷ [])
start_fails dialect.Iso = (refl, refl, (refl, refl, (refl, refl, (refl, refl, (refl, refl, tt)))))
start_fails dialect.Din = (refl, refl, (refl, refl, (refl, refl, (refl, refl, (refl, refl, tt)))))

mode_fails : (d : Dialect) → Fails d (line true (Some (wrong_mode d)) ∷ line true (Some code.FailedWrongChargeParameter) ∷ [])
mode_fails dialect.Iso = (refl, refl, (refl, refl, tt))
mode_fails dialect.Din = (refl, refl, (refl, refl, tt))

one_fails : (d : Dialect) → Fails d (line true (Some code.Failed) ∷ [])
one_fails dialect.Iso = (refl, refl, tt)
one_fails dialect.Din = (refl, refl, tt)

two_fail : (d : Dialect) → Fails d (line true (Some code.Failed) ∷ line true (Some code.Failed) ∷ [])
two_fail dialect.Iso = (refl, refl, (refl, refl, tt))
two_fail dialect.Din = (refl, refl, (refl, refl, tt))

service_fails : (d : Dialect) → Fails d (line true (Some code.FailedServiceIdInvalid) ∷ [])
service_fails dialect.Iso = (refl, refl, tt)
service_fails dialect.Din = (refl, refl, tt)

selection_fails : (d : Dialect) → Fails d (
    line true (Some code.FailedPaymentSelectionInvalid) ∷
    line true (Some code.FailedServiceSelectionInvalid) ∷ [])
selection_fails dialect.Iso = (refl, refl, (refl, refl, tt))
selection_fails dialect.Din = (refl, refl, (refl, refl, tt))

header_fails : (d : Dialect) (lines : List (Line (Option Code))) → Fails d lines
    → Fails d (line true (Some code.FailedUnknownSession) ∷ line true (Some code.FailedSequenceError) ∷ lines)
header_fails dialect.Iso lines f = (refl, refl, (refl, refl, f))
header_fails dialect.Din lines f = (refl, refl, (refl, refl, f))

content_fails : (s : Stage) (facts : Facts) (plan : PostPlan) (a : Ask) → Fails s.dialect (content_lines s facts plan a)
content_fails s facts plan (ask.SessionSetup car) = tt
content_fails s facts plan ask.ServiceDiscovery = tt
content_fails s facts plan (ask.ServiceDetail service) = service_fails s.dialect
content_fails s facts plan (ask.PaymentSelection external services) = selection_fails s.dialect
content_fails s facts plan ask.Authorization = tt
content_fails s facts plan (ask.ChargeParameters mode limits) = mode_fails s.dialect
content_fails s facts plan (ask.CableCheck ready soc) = two_fail s.dialect
content_fails s facts plan (ask.PreCharge ready soc voltage current) = two_fail s.dialect
content_fails s facts plan (ask.PowerDelivery progress.Start tuple profile) = start_fails s.dialect
content_fails s facts plan (ask.PowerDelivery progress.Stop tuple profile) = tt
content_fails s facts plan (ask.PowerDelivery progress.Renegotiate tuple profile) = tt
content_fails s facts plan (ask.CurrentDemand ready soc voltage current) = one_fails s.dialect
content_fails s facts plan ask.ChargingStatus = tt
content_fails s facts plan (ask.WeldingDetection ready soc) = tt
content_fails s facts plan (ask.SessionStop pause) = one_fails s.dialect

lines_fail : (s : Stage) (facts : Facts) (plan : PostPlan) (r : Request) → Fails s.dialect (verdict_lines s facts plan r)
lines_fail s facts plan r = header_fails s.dialect (content_lines s facts plan r.ask) (content_fails s facts plan r.ask)

setup_good : (d : Dialect) (j : Bool) → (is_accepted (setup_code j) ≡ true) × (is_code_of d (setup_code j) ≡ true)
setup_good dialect.Iso false = (refl, refl)
setup_good dialect.Iso true = (refl, refl)
setup_good dialect.Din false = (refl, refl)
setup_good dialect.Din true = (refl, refl)

ok_good : (d : Dialect) → (is_accepted code.Ok ≡ true) × (is_code_of d code.Ok ≡ true)
ok_good dialect.Iso = (refl, refl)
ok_good dialect.Din = (refl, refl)

-- without a line that applies, the code is of the OK class
accepting_good : (s : Stage) (facts : Facts) (named : SessionId) (a : Ask)
    → (is_accepted (accepting_code s facts named a) ≡ true) × (is_code_of s.dialect (accepting_code s facts named a) ≡ true)
accepting_good s facts named (ask.SessionSetup car) = setup_good s.dialect (joins s.dialect facts named)
accepting_good s facts named ask.ServiceDiscovery = ok_good s.dialect
accepting_good s facts named (ask.ServiceDetail service) = ok_good s.dialect
accepting_good s facts named (ask.PaymentSelection external services) = ok_good s.dialect
accepting_good s facts named ask.Authorization = ok_good s.dialect
accepting_good s facts named (ask.ChargeParameters mode limits) = ok_good s.dialect
accepting_good s facts named (ask.CableCheck ready soc) = ok_good s.dialect
accepting_good s facts named (ask.PreCharge ready soc voltage current) = ok_good s.dialect
accepting_good s facts named (ask.PowerDelivery progress tuple profile) = ok_good s.dialect
accepting_good s facts named (ask.CurrentDemand ready soc voltage current) = ok_good s.dialect
accepting_good s facts named ask.ChargingStatus = ok_good s.dialect
accepting_good s facts named (ask.WeldingDetection ready soc) = ok_good s.dialect
accepting_good s facts named (ask.SessionStop pause) = ok_good s.dialect

-- a line more, of which is known whether it applies
step_accepts : (b : Bool) (g rest : Option Code) (ok : Code) (tail : Bool)
    → is_accepted (unwrap_or g code.Ok) ≡ false → is_accepted ok ≡ true → is_accepted (unwrap_or rest ok) ≡ tail
    → is_accepted (unwrap_or (if b then g else rest) ok) ≡ (not b && tail)
step_accepts true None rest ok tail f o e = cc
step_accepts true (Some c) rest ok tail f o e = f
step_accepts false g rest ok tail f o e = e

accepts_lines : (d : Dialect) (lines : List (Line (Option Code))) (ok : Code)
    → Fails d lines → is_accepted ok ≡ true → is_accepted (unwrap_or (first_line lines None) ok) ≡ none_applies lines
accepts_lines d [] ok f o = o
accepts_lines d (l ∷ lines) ok f o =
    step_accepts l.applies l.gives (first_line lines None) ok (none_applies lines) f.0 o (accepts_lines d lines ok f.2 o)

step_codes : (d : Dialect) (b : Bool) (g rest : Option Code) (ok : Code)
    → is_code_of d (unwrap_or g code.Ok) ≡ true → is_code_of d ok ≡ true → is_code_of d (unwrap_or rest ok) ≡ true
    → is_code_of d (unwrap_or (if b then g else rest) ok) ≡ true
step_codes d true None rest ok f o e = o
step_codes d true (Some c) rest ok f o e = f
step_codes d false g rest ok f o e = e

codes_lines : (d : Dialect) (lines : List (Line (Option Code))) (ok : Code)
    → Fails d lines → is_code_of d ok ≡ true → is_code_of d (unwrap_or (first_line lines None) ok) ≡ true
codes_lines d [] ok f o = o
codes_lines d (l ∷ lines) ok f o = step_codes d l.applies l.gives (first_line lines None) ok f.1 o (codes_lines d lines ok f.2 o)

pub accepts_without_line : AcceptsWithoutLine
accepts_without_line s facts plan r =
    accepts_lines s.dialect (verdict_lines s facts plan r) (accepting_code s facts r.session r.ask)
    (lines_fail s facts plan r) ((accepting_good s facts r.session r.ask).0)

pub answers_in_dialect : AnswersInDialect
answers_in_dialect s facts plan r =
    codes_lines s.dialect (verdict_lines s facts plan r) (accepting_code s facts r.session r.ask)
    (lines_fail s facts plan r) ((accepting_good s facts r.session r.ask).1)
