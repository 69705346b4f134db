-- A request is judged by the values as by the stage that they tell.
use Rattle.std.proofs.Common.{◌≡◌, ℕ, Bool, Option, Some, None, refl, sym, ap, ◌∙◌}
use Rattle.std.specs.Prelude.{not, ◌&&◌, unwrap_or, if◌then◌else◌, [], ◌∷◌}
use Rattle.session_words.specs.declared.code.Code.{Code}
use Rattle.session_words.specs.declared.code.Code.TheVariants as code
use Rattle.session_words.specs.declared.code.Progress.TheVariants as progress
use Rattle.session_words.specs.declared.facts.Facts.{Facts}
use Rattle.session_words.specs.declared.phase.Phase.{Phase}
use Rattle.session_words.specs.declared.phase.Phase.TheVariants as row
use Rattle.session_words.specs.declared.plan.PostPlan.{PostPlan}
use Rattle.session_words.specs.declared.session.SessionId.{SessionId}
use Rattle.session_words.specs.declared.word.Ask.{Ask}
use Rattle.session_words.specs.declared.word.Ask.TheVariants as ask
use Rattle.session_words.specs.declared.word.Request.{Request}
use Rattle.session_rules.specs.declared.stage.PreCharged.{PreCharged}
use Rattle.session_rules.specs.declared.stage.Stage.{Stage}
use Rattle.session_rules.specs.Delivery.{is_pre_charged, is_other_tuple, is_profile_off, is_opened, contactor_code}
use Rattle.session_rules.specs.Lines.{line, first_line}
use Rattle.session_rules.specs.Allowed.{lowered_by}
use Rattle.session_rules.specs.Asks.{asks, shows_watts}
use Rattle.session_rules.specs.Moves.{next_row, moved, facts_moved, facts_behind}
use Rattle.session_rules.specs.Rows.{accepts}
use Rattle.session_rules.specs.Verdict.{verdict, is_accepted, is_misnamed}
use Rattle.contactor.specs.Rights.{is_ready}
use Rattle.audit_rows.specs.declared.judging.PostValues.{PostValues}
use Rattle.audit_rows.specs.Values.{stage_of as stage_in}
use Rattle.post_spec.specs.Course.{Talked, Course, asked_course}
use Rattle.audit_course.specs.Changes.{last_of, values_of}

pre_charge_same : (r : Phase) (p : Option PreCharged) → is_pre_charged r (Some (last_of p)) ≡ is_pre_charged r p
pre_charge_same r (Some p) = refl
pre_charge_same row.Connected None = refl
pre_charge_same row.Negotiated None = refl
pre_charge_same row.SetUp None = refl
pre_charge_same row.Discovered None = refl
pre_charge_same row.Selected None = refl
pre_charge_same row.Authorized None = refl
pre_charge_same row.DcReady None = refl
pre_charge_same row.DcChecked None = refl
pre_charge_same row.DcPreCharging None = refl
pre_charge_same row.DcClosing None = refl
pre_charge_same row.DcCharging None = refl
pre_charge_same row.DcStopped None = refl
pre_charge_same row.AcReady None = refl
pre_charge_same row.AcClosing None = refl
pre_charge_same row.AcCharging None = refl
pre_charge_same row.AcStopped None = refl

abbrev code_by : Stage → Facts → PostPlan → SessionId → Ask → Code
code_by s facts plan named asked = verdict s facts plan (record { session = named; ask = asked })

code_same : (s : Stage) (facts : Facts) (plan : PostPlan) (shown : ℕ) (named : SessionId) (asked : Ask)
    → code_by (stage_in s.row (values_of s facts shown)) facts plan named asked ≡ code_by s facts plan named asked
code_same s facts plan shown named (ask.SessionSetup car) = refl
code_same s facts plan shown named ask.ServiceDiscovery = refl
code_same s facts plan shown named (ask.ServiceDetail service) = refl
code_same s facts plan shown named (ask.PaymentSelection external services) = refl
code_same s facts plan shown named ask.Authorization = refl
code_same s facts plan shown named (ask.ChargeParameters mode limits) = refl
code_same s facts plan shown named (ask.CableCheck ready soc) = refl
code_same s facts plan shown named (ask.PreCharge ready soc voltage current) = refl
code_same s facts plan shown named (ask.CurrentDemand ready soc voltage current) = refl
code_same s facts plan shown named ask.ChargingStatus = refl
code_same s facts plan shown named (ask.WeldingDetection ready soc) = refl
code_same s facts plan shown named (ask.SessionStop pause) = refl
code_same s facts plan shown named (ask.PowerDelivery progress.Start tuple profile) =
    ap (λ (b : Bool). unwrap_or (first_line (
    line (is_misnamed s named) (Some code.FailedUnknownSession) ∷
    line (not (accepts s.dialect s.row (ask.PowerDelivery progress.Start tuple profile))) (Some code.FailedSequenceError) ∷
    line (is_other_tuple tuple) (Some code.FailedTariffSelectionInvalid) ∷
    line (is_profile_off s.dialect s.schedule profile) (Some code.FailedChargingProfileInvalid) ∷
    line (not (is_ready facts.pilot)) (Some code.FailedPowerDeliveryNotApplied) ∷
    line (not (is_opened facts.contactor)) (Some (contactor_code s.dialect)) ∷
    line (not b) (Some code.FailedPowerDeliveryNotApplied) ∷ []) None) code.Ok)
    (pre_charge_same s.row s.pre_charge)
code_same s facts plan shown named (ask.PowerDelivery progress.Stop tuple profile) = refl
code_same s facts plan shown named (ask.PowerDelivery progress.Renegotiate tuple profile) = refl

pub code_told : (s : Stage) (v : PostValues) (facts : Facts) (shown : ℕ) (plan : PostPlan) (r : Request) (code : Code)
    → code ≡ verdict (stage_in s.row v) v.facts plan r → v ≡ values_of s facts shown → code ≡ verdict s facts plan r
code_told s v facts shown plan r code is same =
    is ∙ ap (λ (w : PostValues). verdict (stage_in s.row w) w.facts plan r) same ∙ code_same s facts plan shown r.session r.ask

pub row_told : (s : Stage) (v : PostValues) (facts : Facts) (shown : ℕ) (plan : PostPlan) (r : Request) (behind : Phase)
    → behind ≡ next_row (stage_in s.row v) v.facts plan r.ask v.shown → v ≡ values_of s facts shown → behind ≡ next_row s facts plan r.ask shown
row_told s v facts shown plan r behind is same = is ∙ ap (λ (w : PostValues). next_row (stage_in s.row w) w.facts plan r.ask w.shown) same

-- ---- what it leaves

abbrev pub course_if : Bool → Talked → Facts → PostPlan → Request → ℕ → ℕ → Course
course_if good t facts plan r shown at = record {
  session = Some (record {
    stage = if good then moved t.stage facts plan r shown else t.stage;
    asked = if good then unwrap_or (asks plan r.ask) t.asked else t.asked;
    lowered = if good && shows_watts r.ask then lowered_by t.stage.told t.lowered at shown else t.lowered;
  });
  kept = (if good then facts_moved t.stage facts r else facts).kept;
  joined = (if good then facts_moved t.stage facts r else facts).joined;
  renew = (if good then facts_moved t.stage facts r else facts).renew;
}

pub judged_told : (t : Talked) (facts : Facts) (plan : PostPlan) (r : Request) (shown at : ℕ) (code : Code) (good : Bool)
    → code ≡ verdict t.stage facts plan r → is_accepted code ≡ good
    → course_if good t facts plan r shown at ≡ asked_course t facts (facts_behind t.stage facts plan r) plan r shown at
judged_told t facts plan r shown at code good is same =
    ap (λ (b : Bool). course_if b t facts plan r shown at) (sym same ∙ ap is_accepted is)
