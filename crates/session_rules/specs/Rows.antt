-- ISO 15118-2:2014, 8.8.4 (the sequence of requests); DIN SPEC 70121:2014. That each row behind the setup takes SessionStop is own.
use Rattle.std.specs.Prelude.{Bool, true, false, ◌&&◌, if◌then◌else◌, Option, Some, None, is_some}
use Rattle.charge_world.specs.declared.offer.Dialect.{Dialect}
use Rattle.charge_world.specs.declared.offer.Dialect.TheVariants as dialect
use Rattle.session_words.specs.declared.phase.Phase.{Phase}
use Rattle.session_words.specs.declared.phase.Phase.TheVariants as row
use Rattle.session_words.specs.declared.code.Progress.TheVariants as progress
use Rattle.session_words.specs.declared.word.Ask.{Ask}
use Rattle.session_words.specs.declared.word.Ask.TheVariants as ask

-- rows that take SessionStop
abbrev pub may_stop : Phase → Bool
may_stop row.Connected = false
may_stop row.Negotiated = false
may_stop row.DcClosing = false
may_stop row.AcClosing = false
may_stop other = true

-- the messages of a dialect: DIN has neither ServiceDetail nor Renegotiate
abbrev pub is_spoken : Dialect → Ask → Bool
is_spoken dialect.Din (ask.ServiceDetail service) = false
is_spoken dialect.Din (ask.PowerDelivery progress.Renegotiate tuple profile) = false
is_spoken other asked = true

abbrev pub first_power_row : Bool → Phase
first_power_row ac = if ac then row.AcReady else row.DcReady

-- The row to which an accepted request leads, none where the row doesn't take it. `finished` says that its reply says
-- Finished, `ac` that the post gives alternating current. Behind SessionStop no row follows: it stays.
abbrev pub leads : Phase → Ask → Bool → Bool → Option Phase
leads row (ask.SessionStop pause) finished ac = if may_stop row then Some row else None
leads row.Negotiated (ask.SessionSetup car) finished ac = Some row.SetUp
leads row.SetUp ask.ServiceDiscovery finished ac = Some row.Discovered
leads row.Discovered (ask.ServiceDetail service) finished ac = Some row.Discovered
leads row.Discovered (ask.PaymentSelection external services) finished ac = Some row.Selected
leads row.Selected ask.Authorization finished ac = Some (if finished then row.Authorized else row.Selected)
leads row.Authorized (ask.ChargeParameters mode limits) finished ac = Some (if finished then first_power_row ac else row.Authorized)
leads row.DcReady (ask.CableCheck ready soc) finished ac = Some (if finished then row.DcChecked else row.DcReady)
leads row.DcChecked (ask.PreCharge ready soc voltage current) finished ac = Some row.DcPreCharging
leads row.DcPreCharging (ask.PreCharge ready soc voltage current) finished ac = Some row.DcPreCharging
leads row.DcPreCharging (ask.PowerDelivery progress.Start tuple profile) finished ac = Some row.DcClosing
leads row.DcCharging (ask.CurrentDemand ready soc voltage current) finished ac = Some row.DcCharging
leads row.DcCharging (ask.PowerDelivery progress.Stop tuple profile) finished ac = Some row.DcStopped
leads row.DcCharging (ask.PowerDelivery progress.Renegotiate tuple profile) finished ac = Some row.Authorized
leads row.DcStopped (ask.WeldingDetection ready soc) finished ac = Some row.DcStopped
leads row.AcReady (ask.PowerDelivery progress.Start tuple profile) finished ac = Some row.AcClosing
leads row.AcCharging ask.ChargingStatus finished ac = Some row.AcCharging
leads row.AcCharging (ask.PowerDelivery progress.Stop tuple profile) finished ac = Some row.AcStopped
leads row.AcCharging (ask.PowerDelivery progress.Renegotiate tuple profile) finished ac = Some row.Authorized
leads other asked finished ac = None

-- the row takes the request, whatever it holds
abbrev pub accepts : Dialect → Phase → Ask → Bool
accepts d row asked = is_spoken d asked && is_some (leads row asked true true)
