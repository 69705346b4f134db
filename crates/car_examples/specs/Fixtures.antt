-- Own: the cars of the examples, and their words. Voltages and currents are tenths of a volt and of an ampere.
use Rattle.std.specs.Prelude.{ℕ, true, false, [], ◌∷◌, Some, None}
use Rattle.charge_world.specs.declared.offer.Dialect.TheVariants as dialect
use Rattle.session_words.specs.declared.code.Code.{Code}
use Rattle.session_words.specs.declared.code.Code.TheVariants as code
use Rattle.session_words.specs.declared.code.Notify.{Notify}
use Rattle.session_words.specs.declared.code.Notify.TheVariants as notify
use Rattle.session_words.specs.declared.code.Processing.{Processing}
use Rattle.session_words.specs.declared.code.StatusCode.TheVariants as status
use Rattle.session_words.specs.declared.limits.DcStatus.{DcStatus}
use Rattle.session_words.specs.declared.limits.EvseId.{EvseId}
use Rattle.session_words.specs.declared.limits.EvseId.TheVariants as evse
use Rattle.session_words.specs.declared.limits.PostLimits.TheVariants as limits
use Rattle.session_words.specs.declared.limits.PostStatus.TheVariants as post
use Rattle.session_words.specs.declared.mode.Mode.{Mode}
use Rattle.session_words.specs.declared.mode.Mode.TheVariants as mode
use Rattle.session_words.specs.declared.mode.OfferedMode.{OfferedMode}
use Rattle.session_words.specs.declared.plan.CarPlan.{CarPlan}
use Rattle.session_words.specs.declared.plan.Stop.TheVariants as stop
use Rattle.session_words.specs.declared.session.SessionId.{SessionId}
use Rattle.session_words.specs.declared.word.Tell.{Tell}
use Rattle.session_words.specs.declared.word.Tell.TheVariants as tell
use Rattle.session_rules.specs.Offers.{amount}
use Rattle.session_rules.specs.Stages.{id_of}
use Rattle.car_spec.specs.Codecs.{Judged, Told}

-- a car with the usual plan, but for two charging replies in place of 200
abbrev pub car_of : Mode → CarPlan
car_of mode = record {
  tcp = Some 15120;
  sdp = 0;
  turns = 1000000;
  mode = mode;
  dialects = record { items = dialect.Iso ∷ dialect.Din ∷ [] };
  car_id = 0 ∷ 1 ∷ 2 ∷ 3 ∷ 4 ∷ 5 ∷ [];
  soc = 20;
  target_voltage = 4000;
  target_current = 1000;
  max_voltage = 4500;
  max_current = 2000;
  min_current = 60;
  max_watts = 50000;
  cycles = 2;
  welding = 1;
  pace = 100;
  stop = stop.Terminate;
  session = id_of [];
}

abbrev pub dc_car : CarPlan
dc_car = car_of mode.DcExtended

abbrev pub ac_car : CarPlan
ac_car = car_of mode.AcThreePhaseCore

-- one that looks for its post, and one that means to come back
abbrev pub seeking_car : CarPlan
seeking_car = record dc_car { sdp = 15118 }

abbrev pub pausing_car : CarPlan
pausing_car = record ac_car { stop = stop.Pause; session = id_of (7 ∷ 7 ∷ []) }

-- the identifier of the sessions, another one, and eight zero bytes
abbrev pub named : SessionId
named = id_of (1 ∷ 2 ∷ 3 ∷ 4 ∷ 5 ∷ 6 ∷ 7 ∷ 8 ∷ [])

abbrev pub other_name : SessionId
other_name = id_of (1 ∷ 2 ∷ 3 ∷ 4 ∷ 5 ∷ 6 ∷ 7 ∷ 9 ∷ [])

abbrev pub unnamed : SessionId
unnamed = id_of (0 ∷ 0 ∷ 0 ∷ 0 ∷ 0 ∷ 0 ∷ 0 ∷ 0 ∷ [])

-- a reply, of the OK class where nothing else is said
abbrev pub told_as : SessionId → Code → Tell → Judged
told_as session code told = Told (record { session = session; code = code; tell = told })

abbrev pub told : Tell → Judged
told = told_as named code.Ok

-- what the replies tell
abbrev pub evse_id : EvseId
evse_id = evse.Text (90 ∷ 90 ∷ [])

abbrev pub dc_status : Notify → DcStatus
dc_status notify = record { notify = notify; isolation = None; code = status.EvseReady }

abbrev pub setup : Tell
setup = tell.SessionSetup evse_id

abbrev pub services : OfferedMode → Tell
services mode = tell.ServiceDiscovery true (record { items = mode ∷ [] })

abbrev pub authorization : Processing → Tell
authorization processing = tell.Authorization processing

abbrev pub parameters : Processing → Tell
parameters processing = tell.ChargeParameters processing None (limits.Ac notify.None (amount 2300) (amount 320))

abbrev pub cable_check : Processing → Tell
cable_check processing = tell.CableCheck (dc_status notify.None) processing

abbrev pub pre_charge : ℕ → Tell
pre_charge voltage = tell.PreCharge (dc_status notify.None) (amount voltage)

abbrev pub delivery : Tell
delivery = tell.PowerDelivery (post.Ac notify.None)

abbrev pub demand : Notify → Tell
demand notify = tell.CurrentDemand (dc_status notify) (amount 4000) (amount 1000) false false false None None None (Some evse_id)

abbrev pub charging_status : Notify → Tell
charging_status notify = tell.ChargingStatus notify evse_id None

abbrev pub welding : Tell
welding = tell.WeldingDetection (dc_status notify.None) (amount 0)
