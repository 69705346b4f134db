-- ISO 15118-2:2014, 8.8.3 (the response codes); DIN SPEC 70121:2014. Which line goes first, and the content that is judged, is own.
use Rattle.std.specs.Prelude.{ℕ, Bool, true, false, not, ◌&&◌, nat_lt, ◌==◌, if◌then◌else◌, List, [], ◌∷◌, Option, Some, None, unwrap_or}
use Rattle.std.specs.List.{list_any}
use Rattle.charge_world.specs.declared.heard.IsolationLevel.{IsolationLevel}
use Rattle.charge_world.specs.declared.heard.IsolationLevel.TheVariants.{Warning, Fault, NoImd}
use Rattle.charge_world.specs.declared.offer.Dialect.{Dialect}
use Rattle.charge_world.specs.declared.offer.Dialect.TheVariants as dialect
use Rattle.session_words.specs.declared.amount.Amount.{Amount}
use Rattle.session_words.specs.declared.code.Code.{Code}
use Rattle.session_words.specs.declared.code.Code.TheVariants as code
use Rattle.session_words.specs.declared.facts.Facts.{Facts}
use Rattle.session_words.specs.declared.phase.Phase.{Phase}
use Rattle.session_words.specs.declared.phase.Phase.TheVariants as row
use Rattle.session_words.specs.declared.plan.PostPlan.{PostPlan}
use Rattle.session_words.specs.declared.session.SessionId.{SessionId}
use Rattle.session_words.specs.declared.word.Ask.{Ask}
use Rattle.session_words.specs.declared.word.Ask.TheVariants as ask
use Rattle.session_words.specs.declared.word.Request.{Request}
use Rattle.contactor.specs.Rights.{is_ready}
use Rattle.session_rules.specs.declared.stage.Stage.{Stage}
use Rattle.session_rules.specs.Lines.{Line, line, first_line}
use Rattle.session_rules.specs.Stages.{is_same, is_set_up}
use Rattle.session_rules.specs.Rows.{accepts}
use Rattle.session_rules.specs.Parameters.{parameter_lines}
use Rattle.session_rules.specs.Delivery.{delivery_lines}

-- the header names another session than the one that is set up
abbrev pub is_misnamed : Stage → SessionId → Bool
is_misnamed s named = is_set_up s.row && not (is_same named s.session)

abbrev pub is_broken : Option IsolationLevel → Bool
is_broken (Some Warning) = true
is_broken (Some Fault) = true
is_broken (Some NoImd) = true
is_broken other = false

-- rows behind PowerDelivery Stop
abbrev pub is_stopped : Phase → Bool
is_stopped row.DcStopped = true
is_stopped row.AcStopped = true
is_stopped other = false

-- a service other than 1, the only one that is offered
abbrev pub has_other_service : List ℕ → Bool
has_other_service services = list_any (λ service. not (service == 1)) services

abbrev pub selection_lines : Bool → List ℕ → List (Line (Option Code))
selection_lines external services =
    line (not external) (Some code.FailedPaymentSelectionInvalid) ∷
    line (has_other_service services) (Some code.FailedServiceSelectionInvalid) ∷ []

abbrev pub cable_lines : Facts → List (Line (Option Code))
cable_lines facts =
    line (not (is_ready facts.pilot)) (Some code.Failed) ∷
    line (is_broken facts.isolation) (Some code.Failed) ∷ []

abbrev pub pre_charge_lines : PostPlan → Amount → Amount → List (Line (Option Code))
pre_charge_lines plan voltage current =
    line (not (voltage.right && current.right)) (Some code.Failed) ∷
    line (nat_lt plan.max_voltage voltage.size) (Some code.Failed) ∷ []

-- what is judged of a request that its row takes
abbrev pub content_lines : Stage → Facts → PostPlan → Ask → List (Line (Option Code))
content_lines s facts plan (ask.PaymentSelection external services) = selection_lines external services.items
content_lines s facts plan (ask.ServiceDetail service) =
    line (not (service == 1)) (Some code.FailedServiceIdInvalid) ∷ []
content_lines s facts plan (ask.ChargeParameters mode limits) = parameter_lines s.dialect plan mode limits
content_lines s facts plan (ask.CableCheck ready soc) = cable_lines facts
content_lines s facts plan (ask.PreCharge ready soc voltage current) = pre_charge_lines plan voltage current
content_lines s facts plan (ask.CurrentDemand ready soc voltage current) =
    line (not (voltage.right && current.right)) (Some code.Failed) ∷ []
content_lines s facts plan (ask.PowerDelivery progress tuple profile) = delivery_lines s facts progress tuple profile
content_lines s facts plan (ask.SessionStop pause) =
    line (pause && not (is_stopped s.row)) (Some code.Failed) ∷ []
content_lines s facts plan other = []

-- the identifier of the paused session to which a car may come back
abbrev pub is_kept : Option SessionId → SessionId → Bool
is_kept None named = false
is_kept (Some kept) named = is_same named kept

-- SessionSetup joins the paused session. DIN has no pause
abbrev pub joins : Dialect → Facts → SessionId → Bool
joins dialect.Iso facts named = is_kept facts.kept named
joins dialect.Din facts named = false

abbrev pub setup_code : Bool → Code
setup_code joining = if joining then code.OkOldSessionJoined else code.OkNewSessionEstablished

abbrev pub accepting_code : Stage → Facts → SessionId → Ask → Code
accepting_code s facts named (ask.SessionSetup car) = setup_code (joins s.dialect facts named)
accepting_code s facts named other = code.Ok

-- all lines, in their order
abbrev pub verdict_lines : Stage → Facts → PostPlan → Request → List (Line (Option Code))
verdict_lines s facts plan r =
    line (is_misnamed s r.session) (Some code.FailedUnknownSession) ∷
    line (not (accepts s.dialect s.row r.ask)) (Some code.FailedSequenceError) ∷
    content_lines s facts plan r.ask

-- the code of the first line that applies
abbrev pub refusal : Stage → Facts → PostPlan → Request → Option Code
refusal s facts plan r = first_line (verdict_lines s facts plan r) None

-- the code of the reply
abbrev pub verdict : Stage → Facts → PostPlan → Request → Code
verdict s facts plan r = unwrap_or (refusal s facts plan r) (accepting_code s facts r.session r.ask)

-- the request is accepted
abbrev pub is_accepted : Code → Bool
is_accepted code.Ok = true
is_accepted code.OkNewSessionEstablished = true
is_accepted code.OkOldSessionJoined = true
is_accepted code.OkCertificateExpiresSoon = true
is_accepted other = false
