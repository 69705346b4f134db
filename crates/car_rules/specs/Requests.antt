-- ISO 15118-2:2014, 8.4 (the requests and their fields); DIN SPEC 70121:2014. Which values a car tells is own.
use Rattle.std.specs.Prelude.{ℤ, pos, Bool, true, false, ◌&&◌, if◌then◌else◌, [], ◌∷◌, Option, Some, None}
use Rattle.charge_world.specs.declared.offer.Dialect.{Dialect}
use Rattle.charge_world.specs.declared.offer.Dialect.TheVariants as dialect
use Rattle.session_words.specs.declared.code.Progress.TheVariants as progress
use Rattle.session_words.specs.declared.limits.CarLimits.{CarLimits}
use Rattle.session_words.specs.declared.limits.CarLimits.TheVariants as limits
use Rattle.session_words.specs.declared.plan.CarPlan.{CarPlan}
use Rattle.session_words.specs.declared.plan.Stop.{Stop}
use Rattle.session_words.specs.declared.plan.Stop.TheVariants as stop
use Rattle.session_words.specs.declared.word.Ask.{Ask}
use Rattle.session_words.specs.declared.word.Ask.TheVariants as ask
use Rattle.session_words.specs.declared.word.Request.{Request}
use Rattle.session_rules.specs.Finishing.{is_ac}
use Rattle.session_rules.specs.Offers.{amount}
use Rattle.session_rules.specs.Status.{is_iso}
use Rattle.car_rules.specs.declared.stage.CarPhase.{CarPhase}
use Rattle.car_rules.specs.declared.stage.CarPhase.TheVariants as phase
use Rattle.car_rules.specs.declared.stage.CarStage.{CarStage}

-- what the car can take. It isn't ready before the cable is checked
abbrev pub limits_of : CarPlan → CarLimits
limits_of plan =
    if is_ac plan.mode then limits.Ac (amount plan.max_current) (amount plan.min_current) (amount plan.max_voltage)
    else limits.Dc false plan.soc (amount plan.max_current) (Some (amount plan.max_watts)) (amount plan.max_voltage)

-- the schedule that is taken: the first one. DIN names it with a profile alone
abbrev pub tuple_of : Dialect → Option ℤ
tuple_of dialect.Iso = Some (pos 1)
tuple_of dialect.Din = None

-- what is asked while the car charges
abbrev pub charging_ask : CarPlan → Ask
charging_ask plan =
    if is_ac plan.mode then ask.ChargingStatus
    else ask.CurrentDemand true plan.soc (amount plan.target_voltage) (amount plan.target_current)

-- the car means to come back. DIN has no pause
abbrev pub is_pause : Stop → Bool
is_pause stop.Terminate = false
is_pause stop.Pause = true

abbrev pub pauses : CarPlan → Dialect → Bool
pauses plan d = is_iso d && is_pause plan.stop

-- what is asked in a phase
abbrev pub ask_of : CarPlan → Dialect → CarPhase → Ask
ask_of plan d phase.SettingUp = ask.SessionSetup (record { items = plan.car_id })
ask_of plan d phase.Discovering = ask.ServiceDiscovery
ask_of plan d phase.Selecting = ask.PaymentSelection true (record { items = 1 ∷ [] })
ask_of plan d phase.Authorizing = ask.Authorization
ask_of plan d phase.Asking = ask.ChargeParameters plan.mode (limits_of plan)
ask_of plan d phase.CableChecking = ask.CableCheck true plan.soc
ask_of plan d phase.PreCharging = ask.PreCharge true plan.soc (amount plan.target_voltage) (amount plan.target_current)
ask_of plan d phase.Starting = ask.PowerDelivery progress.Start (tuple_of d) None
ask_of plan d phase.Charging = charging_ask plan
ask_of plan d phase.Stopping = ask.PowerDelivery progress.Stop (tuple_of d) None
ask_of plan d phase.Renegotiating = ask.PowerDelivery progress.Renegotiate (tuple_of d) None
ask_of plan d (phase.Welding left) = ask.WeldingDetection true plan.soc
ask_of plan d phase.Ending = ask.SessionStop (pauses plan d)

-- the request of a stage
abbrev pub request_of : CarPlan → CarStage → Request
request_of plan s = record { session = s.session; ask = ask_of plan s.dialect s.phase }
