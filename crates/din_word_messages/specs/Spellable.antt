-- Own: a word that the declarations of DIN SPEC 70121:2014 can spell: its messages, codes, modes, states and steps are DIN's, its lists
-- within their bounds, its numbers within their ranges, and its amounts such that a Value of 16 bits with a sign and a Multiplier write
-- them.
use Rattle.std.specs.Prelude.{◌≡◌, ◌≤◌, true, not, IsTrue, All, length, ℤ, pos, negsuc, ◌≤ℤ◌, IfSome, Option, Some, None}
use Rattle.arrayvec.specs.ArrayVec.{ArrayVec}
use Rattle.session_words.specs.declared.amount.Amount.{Amount}
use Rattle.session_words.specs.declared.code.Progress.{Progress}
use Rattle.session_words.specs.declared.code.Progress.TheVariants as progress
use Rattle.session_words.specs.declared.limits.CarLimits.{CarLimits}
use Rattle.session_words.specs.declared.limits.CarLimits.TheVariants as car
use Rattle.session_words.specs.declared.limits.DcStatus.{DcStatus}
use Rattle.session_words.specs.declared.limits.EvseId.{EvseId}
use Rattle.session_words.specs.declared.limits.EvseId.TheVariants as evse
use Rattle.session_words.specs.declared.limits.PostLimits.{PostLimits}
use Rattle.session_words.specs.declared.limits.PostLimits.TheVariants as limits
use Rattle.session_words.specs.declared.limits.PostStatus.{PostStatus}
use Rattle.session_words.specs.declared.limits.PostStatus.TheVariants as post
use Rattle.session_words.specs.declared.limits.Tuple.{Tuple}
use Rattle.session_words.specs.declared.word.Ask.{Ask}
use Rattle.session_words.specs.declared.word.Ask.TheVariants as ask
use Rattle.session_words.specs.declared.word.Tell.{Tell}
use Rattle.session_words.specs.declared.word.Tell.TheVariants as tell
use Rattle.session_words.specs.declared.word.Word.{Word}
use Rattle.session_words.specs.declared.word.Word.TheVariants as word
use Rattle.din_values.specs.Codes.{is_din_code}
use Rattle.din_values.specs.Modes.{is_din_mode}
use Rattle.din_values.specs.States.{is_din_level, is_din_processing}
pub use Rattle.message_tables.specs.Spellable.{AreTenths, AreWatts, IsByte, IsService, IsCharge, IsFromTo, AreBytes, AreServices, AreTuples, CanSession}

-- whole watts of 16 bits with a sign, without a unit
pub record AreFewWatts (amount : Amount) : Type 0 where
  pub few : amount.size ≤ 32767
  pub right : amount.right ≡ true

-- the number of a schedule tuple
abbrev pub IsTupleNumber : ℤ → Type 0
IsTupleNumber id = (negsuc 32767 ≤ℤ id) × (id ≤ℤ pos 32767)

-- ---- requests

abbrev pub CanCarLimits : CarLimits → Type 0
CanCarLimits (car.Ac most_current least_current most_voltage) = ⊥
CanCarLimits (car.Dc ready soc current watts voltage) = IsCharge soc × AreTenths current × IfSome watts AreWatts × AreTenths voltage

abbrev pub IsDinProgress : Progress → Type 0
IsDinProgress progress.Start = Unit {0}
IsDinProgress progress.Stop = Unit {0}
IsDinProgress progress.Renegotiate = ⊥

-- a tuple is there exactly with a profile
abbrev pub CanProfile : Option ℤ → Option Amount → Type 0
CanProfile None None = Unit {0}
CanProfile (Some tuple) (Some power) = IsTupleNumber tuple × AreFewWatts power
CanProfile (Some tuple) None = ⊥
CanProfile None (Some power) = ⊥

abbrev pub CanAsk : Ask → Type 0
CanAsk (ask.SessionSetup car) = AreBytes 8 car
CanAsk ask.ServiceDiscovery = Unit {0}
CanAsk (ask.ServiceDetail service) = ⊥
CanAsk (ask.PaymentSelection external services) = AreServices services
CanAsk ask.Authorization = Unit {0}
CanAsk (ask.ChargeParameters mode limits) = CanCarLimits limits
CanAsk (ask.CableCheck ready soc) = IsCharge soc
CanAsk (ask.PreCharge ready soc voltage current) = IsCharge soc × AreTenths voltage × AreTenths current
CanAsk (ask.PowerDelivery progress tuple profile) = IsDinProgress progress × CanProfile tuple profile
CanAsk (ask.CurrentDemand ready soc voltage current) = IsCharge soc × AreTenths voltage × AreTenths current
CanAsk ask.ChargingStatus = ⊥
CanAsk (ask.WeldingDetection ready soc) = IsCharge soc
CanAsk (ask.SessionStop pause) = IsTrue (not pause)

-- ---- replies

-- an EVSEID of DIN: at most 32 bytes
abbrev pub CanEvse : EvseId → Type 0
CanEvse (evse.Text id) = ⊥
CanEvse (evse.Bytes id) = AreBytes 32 id

abbrev pub CanStatus : DcStatus → Type 0
CanStatus status = IfSome status.isolation (λ level. IsTrue (is_din_level level))

abbrev pub CanPostStatus : PostStatus → Type 0
CanPostStatus (post.Ac notify) = ⊥
CanPostStatus (post.Dc status) = CanStatus status

pub record CanTuple (t : Tuple) : Type 0 where
  pub id : IsTupleNumber t.id
  pub entries : IsFromTo 1 128 t.entries
  pub least : AreFewWatts t.least

abbrev pub CanTuples : ArrayVec Tuple → Type 0
CanTuples tuples = AreTuples CanTuple tuples

abbrev pub CanPostLimits : PostLimits → Type 0
CanPostLimits (limits.Ac notify nominal current) = ⊥
CanPostLimits (limits.Dc status current watts voltage least_current least_voltage ripple) =
    CanStatus status × AreTenths current × IfSome watts AreWatts × AreTenths voltage × AreTenths least_current × AreTenths least_voltage
    × AreTenths ripple

abbrev pub IsNoEvse : Option EvseId → Type 0
IsNoEvse None = Unit {0}
IsNoEvse (Some id) = ⊥

abbrev pub CanTell : Tell → Type 0
CanTell (tell.SessionSetup id) = CanEvse id
CanTell (tell.ServiceDiscovery free modes) = (length modes.items ≡ 1) × All (λ m. IsTrue (is_din_mode m)) modes.items
CanTell (tell.ServiceDetail service) = ⊥
CanTell tell.PaymentSelection = Unit {0}
CanTell (tell.Authorization processing) = IsTrue (is_din_processing processing)
CanTell (tell.ChargeParameters processing schedule limits) =
    IsTrue (is_din_processing processing) × IfSome schedule CanTuples × CanPostLimits limits
CanTell (tell.CableCheck status processing) = CanStatus status × IsTrue (is_din_processing processing)
CanTell (tell.PreCharge status voltage) = CanStatus status × AreTenths voltage
CanTell (tell.PowerDelivery status) = CanPostStatus status
CanTell (tell.CurrentDemand status voltage current current_cut voltage_cut watts_cut most_voltage most_current most_watts id) =
    CanStatus status × AreTenths voltage × AreTenths current × IfSome most_voltage AreTenths × IfSome most_current AreTenths
    × IfSome most_watts AreWatts × IsNoEvse id
CanTell (tell.ChargingStatus notify id current) = ⊥
CanTell (tell.WeldingDetection status voltage) = CanStatus status × AreTenths voltage
CanTell tell.SessionStop = Unit {0}

-- ---- words

abbrev pub CanSpell : Word → Type 0
CanSpell (word.Request r) = CanSession r.session × CanAsk r.ask
CanSpell (word.Reply r) = CanSession r.session × IsTrue (is_din_code r.code) × CanTell r.tell
CanSpell word.Nothing = Unit {0}
