-- ISO 15118-2:2014, 8.3.3, 8.4 and 8.8.3 (the identifier, the pairs of messages, the response codes); DIN SPEC 70121:2014. Which line
-- goes first is own.
use Rattle.std.specs.Prelude.{Bool, true, false, not, ◌&&◌, ◌||◌, if◌then◌else◌, List, [], ◌∷◌, Option, Some, None}
use Rattle.std.specs.List.{list_any}
use Rattle.charge_world.specs.declared.heard.PlantEvent.{PlantEvent}
use Rattle.charge_world.specs.declared.heard.PlantEvent.TheVariants as event
use Rattle.charge_world.specs.declared.offer.Dialect.{Dialect}
use Rattle.session_words.specs.declared.cause.EndCause.{EndCause}
use Rattle.session_words.specs.declared.cause.EndCause.TheVariants as cause
use Rattle.session_words.specs.declared.mode.Mode.{Mode}
use Rattle.session_words.specs.declared.mode.Mode.TheVariants as mode
use Rattle.session_words.specs.declared.mode.OfferedMode.{OfferedMode}
use Rattle.session_words.specs.declared.mode.OfferedMode.TheVariants as offered
use Rattle.session_words.specs.declared.plan.CarPlan.{CarPlan}
use Rattle.session_words.specs.declared.session.SessionId.{SessionId}
use Rattle.session_words.specs.declared.word.Ask.{Ask}
use Rattle.session_words.specs.declared.word.Ask.TheVariants as ask
use Rattle.session_words.specs.declared.word.Reply.{Reply}
use Rattle.session_words.specs.declared.word.Tell.{Tell}
use Rattle.session_words.specs.declared.word.Tell.TheVariants as tell
use Rattle.session_rules.specs.Lines.{Line, line, first_line}
use Rattle.session_rules.specs.Stages.{is_same}
use Rattle.session_rules.specs.Verdict.{is_accepted}
use Rattle.car_rules.specs.declared.stage.CarPhase.{CarPhase}
use Rattle.car_rules.specs.declared.stage.CarPhase.TheVariants as phase
use Rattle.car_rules.specs.declared.stage.CarStage.{CarStage}
use Rattle.car_rules.specs.Requests.{ask_of, pauses}

-- the reply is of the kind of the request
abbrev pub answers : Ask → Tell → Bool
answers (ask.SessionSetup car) (tell.SessionSetup evse) = true
answers ask.ServiceDiscovery (tell.ServiceDiscovery free modes) = true
answers (ask.ServiceDetail service) (tell.ServiceDetail told) = true
answers (ask.PaymentSelection external services) tell.PaymentSelection = true
answers ask.Authorization (tell.Authorization processing) = true
answers (ask.ChargeParameters mode car) (tell.ChargeParameters processing schedule limits) = true
answers (ask.CableCheck ready soc) (tell.CableCheck status processing) = true
answers (ask.PreCharge ready soc target current) (tell.PreCharge status voltage) = true
answers (ask.PowerDelivery progress tuple profile) (tell.PowerDelivery status) = true
answers (ask.CurrentDemand ready soc target_voltage target_current)
    (tell.CurrentDemand status voltage current current_cut voltage_cut watts_cut most_voltage most_current most_watts evse) = true
answers ask.ChargingStatus (tell.ChargingStatus notify evse current) = true
answers (ask.WeldingDetection ready soc) (tell.WeldingDetection status voltage) = true
answers (ask.SessionStop pause) tell.SessionStop = true
answers asked other = false

abbrev pub is_setting_up : CarPhase → Bool
is_setting_up phase.SettingUp = true
is_setting_up other = false

-- the reply is of another session. That of SessionSetup gives the identifier, whatever it is
abbrev pub is_misnamed : CarStage → SessionId → Bool
is_misnamed s named = not (is_setting_up s.phase) && not (is_same named s.session)

-- the reply is unasked, of another kind, or of another session
abbrev pub is_wrong : CarPlan → CarStage → Bool → Reply → Bool
is_wrong plan s awaited r = not awaited || not (answers (ask_of plan s.dialect s.phase) r.tell) || is_misnamed s r.session

-- the offered mode is the car's
abbrev pub is_mode : Mode → OfferedMode → Bool
is_mode mode.AcSinglePhaseCore offered.AcSinglePhaseCore = true
is_mode mode.AcThreePhaseCore offered.AcThreePhaseCore = true
is_mode mode.DcCore offered.DcCore = true
is_mode mode.DcExtended offered.DcExtended = true
is_mode mode.DcComboCore offered.DcComboCore = true
is_mode mode.DcUnique offered.DcUnique = true
is_mode own other = false

-- the post doesn't offer the car's mode
abbrev pub lacks_mode : Mode → Tell → Bool
lacks_mode own (tell.ServiceDiscovery free modes) = not (list_any (is_mode own) modes.items)
lacks_mode own other = false

abbrev pub is_ending : CarPhase → Bool
is_ending phase.Ending = true
is_ending other = false

-- the cause that an accepted SessionStop is
abbrev pub stop_cause : CarPlan → Dialect → EndCause
stop_cause plan d = if pauses plan d then cause.Paused else cause.Stopped

abbrev pub reply_lines : CarPlan → CarStage → Bool → Reply → List (Line (Option EndCause))
reply_lines plan s awaited r =
    line (is_wrong plan s awaited r) (Some cause.WrongReply) ∷
    line (not (is_accepted r.code)) (Some cause.CodeFailed) ∷
    line (lacks_mode plan.mode r.tell) (Some cause.NoOffer) ∷
    line (is_ending s.phase) (Some (stop_cause plan s.dialect)) ∷ []

-- the cause that a reply is, if it is one. `awaited` says that the request of the stage was sent and has no reply yet
abbrev pub reply_cause : CarPlan → CarStage → Bool → Reply → Option EndCause
reply_cause plan s awaited r = first_line (reply_lines plan s awaited r) None

-- the cause that an event of the charger is, if it is one: the emergency stop alone (own)
abbrev pub plant_cause : PlantEvent → Option EndCause
plant_cause event.Emergency = Some cause.Emergency
plant_cause other = None
