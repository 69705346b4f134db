-- ISO 15118-2:2014, 8.8.4 (the order of the requests) and 8.4.5; DIN SPEC 70121:2014; IEC 61851-23 (the voltage before the contactor
-- closes, whose bound is 20 V). How long a car charges is own.
use Rattle.std.specs.Prelude.{ℕ, ◌+◌, ◌-◌, ◌==◌, nat_le, Bool, true, false, ◌&&◌, ◌||◌, if◌then◌else◌, Option, Some, None}
use Rattle.charge_world.specs.declared.offer.Dialect.{Dialect}
use Rattle.charge_world.specs.declared.ports.Order.{Order}
use Rattle.charge_world.specs.declared.ports.Order.TheVariants as order
use Rattle.session_words.specs.declared.amount.Amount.{Amount}
use Rattle.session_words.specs.declared.code.Notify.{Notify}
use Rattle.session_words.specs.declared.code.Notify.TheVariants as notify
use Rattle.session_words.specs.declared.mode.Mode.{Mode}
use Rattle.session_words.specs.declared.plan.CarPlan.{CarPlan}
use Rattle.session_words.specs.declared.session.SessionId.{SessionId}
use Rattle.session_words.specs.declared.word.Reply.{Reply}
use Rattle.session_words.specs.declared.word.Tell.{Tell}
use Rattle.session_words.specs.declared.word.Tell.TheVariants as tell
use Rattle.session_rules.specs.Delivery.{off_of}
use Rattle.session_rules.specs.Finishing.{is_ac}
use Rattle.session_rules.specs.Status.{is_iso}
use Rattle.post_spec.specs.Kinds.{says_finished}
use Rattle.car_rules.specs.declared.stage.CarPhase.{CarPhase}
use Rattle.car_rules.specs.declared.stage.CarPhase.TheVariants as phase
use Rattle.car_rules.specs.declared.stage.CarStage.{CarStage}

-- a voltage within 20.0 V of the target, in tenths, whatever unit the reply says
abbrev pub is_near : ℕ → Amount → Bool
is_near target voltage = nat_le (off_of (record { target = target; voltage = voltage.size })) 200

-- the pre-charge is done
abbrev pub is_pre_charged : ℕ → Tell → Bool
is_pre_charged target (tell.PreCharge status voltage) = is_near target voltage
is_pre_charged target other = false

-- what a charging reply asks of the car
abbrev pub notify_in : Tell → Notify
notify_in (tell.CurrentDemand status voltage current current_cut voltage_cut watts_cut most_voltage most_current most_watts evse) =
    status.notify
notify_in (tell.ChargingStatus notify evse current) = notify
notify_in other = notify.None

abbrev pub asks_stop : Notify → Bool
asks_stop notify.StopCharging = true
asks_stop other = false

abbrev pub asks_renewal : Notify → Bool
asks_renewal notify.ReNegotiation = true
asks_renewal other = false

-- charging stops: with this reply there were as many charging replies as planned, the post asks for it, or somebody asked to stop
abbrev pub stops : CarPlan → ℕ → Bool → Tell → Bool
stops plan cycles stop told = nat_le plan.cycles (cycles + 1) || stop || asks_stop (notify_in told)

-- the post asks to negotiate anew. DIN doesn't have that
abbrev pub renews : Dialect → Tell → Bool
renews d told = is_iso d && asks_renewal (notify_in told)

-- the phase in which so many welding detections are to come
abbrev pub welding_phase : ℕ → CarPhase
welding_phase n = if n == 0 then phase.Ending else phase.Welding (n - 1)

abbrev pub first_power_phase : Mode → CarPhase
first_power_phase mode = if is_ac mode then phase.Starting else phase.CableChecking

abbrev pub charging_leads : Dialect → Tell → Bool → CarPhase
charging_leads d told stopping = if stopping then phase.Stopping else (if renews d told then phase.Renegotiating else phase.Charging)

abbrev pub phase_behind_stop : CarPlan → CarPhase
phase_behind_stop plan = if is_ac plan.mode then phase.Ending else welding_phase plan.welding

-- a step that is asked for until it is done
abbrev pub until_done : Bool → CarPhase → CarPhase → CarPhase
until_done done next again = if done then next else again

-- The phase to which an accepted reply leads. `stopping` says that charging stops with it.
abbrev pub leads : CarPlan → Dialect → CarPhase → Tell → Bool → CarPhase
leads plan d phase.SettingUp told stopping = phase.Discovering
leads plan d phase.Discovering told stopping = phase.Selecting
leads plan d phase.Selecting told stopping = phase.Authorizing
leads plan d phase.Authorizing told stopping = until_done (says_finished told) phase.Asking phase.Authorizing
leads plan d phase.Asking told stopping = until_done (says_finished told) (first_power_phase plan.mode) phase.Asking
leads plan d phase.CableChecking told stopping = until_done (says_finished told) phase.PreCharging phase.CableChecking
leads plan d phase.PreCharging told stopping = until_done (is_pre_charged plan.target_voltage told) phase.Starting phase.PreCharging
leads plan d phase.Starting told stopping = phase.Charging
leads plan d phase.Charging told stopping = charging_leads d told stopping
leads plan d phase.Stopping told stopping = phase_behind_stop plan
leads plan d phase.Renegotiating told stopping = phase.Asking
leads plan d (phase.Welding left) told stopping = welding_phase left
leads plan d phase.Ending told stopping = phase.Ending

abbrev pub next_phase : CarPlan → CarStage → Tell → Bool → CarPhase
next_phase plan s told stop = leads plan s.dialect s.phase told (stops plan s.cycles stop told)

-- the request is asked once more, which waits for the car's pace
abbrev pub is_again : CarPhase → CarPhase → Bool
is_again phase.Authorizing phase.Authorizing = true
is_again phase.Asking phase.Asking = true
is_again phase.CableChecking phase.CableChecking = true
is_again phase.PreCharging phase.PreCharging = true
is_again phase.Charging phase.Charging = true
is_again phase next = false

-- The order that an accepted reply gives before the next request: Close in DC once the pre-charge is done, in AC once PowerDelivery was
-- accepted; Open once charging is to stop.
abbrev pub order_of : CarPlan → CarPhase → Tell → Option Order
order_of plan phase.PreCharging told = if is_pre_charged plan.target_voltage told then Some order.Close else None
order_of plan phase.Starting told = if is_ac plan.mode then Some order.Close else None
order_of plan phase.Stopping told = Some order.Open
order_of plan phase.Renegotiating told = Some order.Open
order_of plan other told = None

-- the charging replies behind one more reply
abbrev pub cycles_behind : CarPhase → ℕ → ℕ
cycles_behind phase.Charging cycles = cycles + 1
cycles_behind other cycles = cycles

-- the identifier of the session: the reply to SessionSetup gives it
abbrev pub session_behind : CarPhase → SessionId → SessionId → SessionId
session_behind phase.SettingUp own given = given
session_behind other own given = own

-- the stage behind an accepted reply. `stop` says that somebody asked to stop since the connection came
abbrev pub stage_behind : CarPlan → CarStage → Reply → Bool → CarStage
stage_behind plan s r stop = record {
  phase = next_phase plan s r.tell stop;
  dialect = s.dialect;
  session = session_behind s.phase s.session r.session;
  cycles = cycles_behind s.phase s.cycles;
}
