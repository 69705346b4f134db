-- Own: a word that the declarations of ISO 15118-2:2014 can spell: its codes and modes are ISO's, its lists within their bounds, its
-- numbers within their ranges, and its amounts such that a Value of 16 bits with a sign and a Multiplier write them.
use Rattle.std.specs.Prelude.{◌<◌, ◌≤◌, IsTrue, All, length, ℤ, pos, ◌≤ℤ◌, IfSome, Option, Some, None}
use Rattle.session_words.specs.declared.amount.Amount.{Amount}
use Rattle.session_words.specs.declared.limits.CarLimits.{CarLimits}
use Rattle.session_words.specs.declared.limits.CarLimits.TheVariants as car
use Rattle.session_words.specs.declared.limits.EvseId.{EvseId}
use Rattle.session_words.specs.declared.limits.EvseId.TheVariants as evse
use Rattle.session_words.specs.declared.limits.PostLimits.{PostLimits}
use Rattle.session_words.specs.declared.limits.PostLimits.TheVariants as post
use Rattle.session_words.specs.declared.limits.Tuple.{Tuple}
use Rattle.session_words.specs.declared.word.Ask.{Ask}
use Rattle.session_words.specs.declared.word.Ask.TheVariants as ask
use Rattle.session_words.specs.declared.word.Tell.{Tell}
use Rattle.session_words.specs.declared.word.Tell.TheVariants as tell
use Rattle.session_words.specs.declared.word.Word.{Word}
use Rattle.session_words.specs.declared.word.Word.TheVariants as word
use Rattle.arrayvec.specs.ArrayVec.{ArrayVec}
use Rattle.iso_values.specs.Codes.{is_iso_code}
use Rattle.iso_values.specs.Modes.{is_iso_mode}
pub use Rattle.message_tables.specs.Spellable.{AreTenths, AreWatts, IsByte, IsService, IsCharge, IsFromTo, AreBytes, AreServices, AreTuples, CanSession}

-- the number of a schedule tuple
abbrev pub IsTupleNumber : ℤ → Type 0
IsTupleNumber id = (pos 1 ≤ℤ id) × (id ≤ℤ pos 255)

-- ---- requests

abbrev pub CanCarLimits : CarLimits → Type 0
CanCarLimits (car.Ac most_current least_current most_voltage) = AreTenths most_current × AreTenths least_current × AreTenths most_voltage
CanCarLimits (car.Dc ready soc current watts voltage) = IsCharge soc × AreTenths current × IfSome watts AreWatts × AreTenths voltage

abbrev pub IsSomeTuple : Option ℤ → Type 0
IsSomeTuple None = ⊥
IsSomeTuple (Some id) = IsTupleNumber id

abbrev pub CanAsk : Ask → Type 0
CanAsk (ask.SessionSetup car) = AreBytes 6 car
CanAsk (ask.ServiceDetail service) = IsService service
CanAsk (ask.PaymentSelection external services) = AreServices services
CanAsk (ask.ChargeParameters mode limits) = CanCarLimits limits
CanAsk (ask.CableCheck ready soc) = IsCharge soc
CanAsk (ask.PreCharge ready soc voltage current) = IsCharge soc × AreTenths voltage × AreTenths current
CanAsk (ask.PowerDelivery progress tuple profile) = IsSomeTuple tuple × IfSome profile AreWatts
CanAsk (ask.CurrentDemand ready soc voltage current) = IsCharge soc × AreTenths voltage × AreTenths current
CanAsk (ask.WeldingDetection ready soc) = IsCharge soc
CanAsk other = Unit {0}

-- ---- replies

-- an EVSEID of ISO: at most 37 ASCII characters
abbrev pub CanEvse : EvseId → Type 0
CanEvse (evse.Text id) = All (λ c. c < 128) id × (length id ≤ 37)
CanEvse (evse.Bytes id) = ⊥

abbrev pub IsSomeEvse : Option EvseId → Type 0
IsSomeEvse None = ⊥
IsSomeEvse (Some id) = CanEvse id

pub record CanTuple (t : Tuple) : Type 0 where
  pub id : IsTupleNumber t.id
  pub entries : IsFromTo 1 128 t.entries
  pub least : AreWatts t.least

abbrev pub CanTuples : ArrayVec Tuple → Type 0
CanTuples tuples = AreTuples CanTuple tuples

abbrev pub IsSomeWatts : Option Amount → Type 0
IsSomeWatts None = ⊥
IsSomeWatts (Some watts) = AreWatts watts

abbrev pub CanPostLimits : PostLimits → Type 0
CanPostLimits (post.Ac notify nominal current) = AreTenths nominal × AreTenths current
CanPostLimits (post.Dc status current watts voltage least_current least_voltage ripple) =
    AreTenths current × IsSomeWatts watts × AreTenths voltage × AreTenths least_current × AreTenths least_voltage × AreTenths ripple

abbrev pub CanTell : Tell → Type 0
CanTell (tell.SessionSetup id) = CanEvse id
CanTell (tell.ServiceDiscovery free modes) = IsFromTo 1 6 (length modes.items) × All (λ m. IsTrue (is_iso_mode m)) modes.items
CanTell (tell.ServiceDetail service) = IsService service
CanTell (tell.ChargeParameters processing schedule limits) = IfSome schedule CanTuples × CanPostLimits limits
CanTell (tell.PreCharge status voltage) = AreTenths voltage
CanTell (tell.CurrentDemand status voltage current current_cut voltage_cut watts_cut most_voltage most_current most_watts id) =
    AreTenths voltage × AreTenths current × IfSome most_voltage AreTenths × IfSome most_current AreTenths × IfSome most_watts AreWatts
    × IsSomeEvse id
CanTell (tell.ChargingStatus notify id current) = CanEvse id × IfSome current AreTenths
CanTell (tell.WeldingDetection status voltage) = AreTenths voltage
CanTell other = Unit {0}

-- ---- words

abbrev pub CanSpell : Word → Type 0
CanSpell (word.Request r) = CanSession r.session × CanAsk r.ask
CanSpell (word.Reply r) = CanSession r.session × IsTrue (is_iso_code r.code) × CanTell r.tell
CanSpell word.Nothing = Unit {0}
