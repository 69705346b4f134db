-- ISO 15118-2:2014, section 8.4: what an answered word is, by its request and the reply to it.
use Rattle.std.specs.Prelude.{ℕ, Bool, true, false, ◌&&◌, max, fold, map, Option, Some, None}
use Rattle.session_words.specs.declared.amount.Amount.{Amount}
use Rattle.session_words.specs.declared.code.Processing.{Processing}
use Rattle.session_words.specs.declared.code.Processing.TheVariants as processing
use Rattle.session_words.specs.declared.code.Progress.TheVariants as progress
use Rattle.session_words.specs.declared.limits.PostLimits.{PostLimits}
use Rattle.session_words.specs.declared.limits.PostLimits.TheVariants as limits
use Rattle.session_words.specs.declared.limits.Tuple.{Tuple}
use Rattle.session_words.specs.declared.plan.PostPlan.{PostPlan}
use Rattle.session_words.specs.declared.word.Ask.{Ask}
use Rattle.session_words.specs.declared.word.Ask.TheVariants as ask
use Rattle.session_words.specs.declared.word.Tell.{Tell}
use Rattle.session_words.specs.declared.word.Tell.TheVariants as tell
use Rattle.session_words.specs.Amounts.{ac_watts_of}
use Rattle.session_words.specs.Modes.{phases_of}
use Rattle.arrayvec.specs.ArrayVec.{ArrayVec}
use Rattle.post_spec.specs.Talk.{Exchange, Negotiation, Answered}

abbrev pub is_finished : Processing → Bool
is_finished processing.Finished = true
is_finished processing.Ongoing = false
is_finished processing.OngoingWaitingForCustomerInteraction = false

-- a reply that says Finished
abbrev pub says_finished : Tell → Bool
says_finished (tell.Authorization processing) = is_finished processing
says_finished (tell.ChargeParameters processing schedule limits) = is_finished processing
says_finished (tell.CableCheck status processing) = is_finished processing
says_finished other = false

abbrev pub is_negotiation : Exchange → Bool
is_negotiation (Negotiation chosen) = true
is_negotiation (Answered request reply before) = false

-- a request of this kind, with a reply of this kind
abbrev pub is_of : (Ask → Bool) → (Tell → Bool) → Exchange → Bool
is_of asks tells (Negotiation chosen) = false
is_of asks tells (Answered request reply before) = asks request.ask && tells reply.tell

abbrev pub any : Tell → Bool
any told = true

abbrev pub asks_setup : Ask → Bool
asks_setup (ask.SessionSetup car) = true
asks_setup other = false

abbrev pub asks_services : Ask → Bool
asks_services ask.ServiceDiscovery = true
asks_services other = false

abbrev pub asks_payment : Ask → Bool
asks_payment (ask.PaymentSelection external services) = true
asks_payment other = false

abbrev pub asks_authorization : Ask → Bool
asks_authorization ask.Authorization = true
asks_authorization other = false

abbrev pub asks_parameters : Ask → Bool
asks_parameters (ask.ChargeParameters mode limits) = true
asks_parameters other = false

abbrev pub asks_cable_check : Ask → Bool
asks_cable_check (ask.CableCheck ready soc) = true
asks_cable_check other = false

abbrev pub asks_pre_charge : Ask → Bool
asks_pre_charge (ask.PreCharge ready soc voltage current) = true
asks_pre_charge other = false

abbrev pub asks_start : Ask → Bool
asks_start (ask.PowerDelivery progress.Start tuple profile) = true
asks_start other = false

abbrev pub asks_renegotiation : Ask → Bool
asks_renegotiation (ask.PowerDelivery progress.Renegotiate tuple profile) = true
asks_renegotiation other = false

-- PowerDelivery Stop or Renegotiate
abbrev pub asks_opening : Ask → Bool
asks_opening (ask.PowerDelivery progress.Stop tuple profile) = true
asks_opening (ask.PowerDelivery progress.Renegotiate tuple profile) = true
asks_opening other = false

-- the watts that a reply spells, in EVSEMaximumPowerLimit, in PMax, or as EVSEMaxCurrent at the nominal voltage over the phases
abbrev pub watts_at : PostPlan → Option Amount → ℕ
watts_at plan None = 0
watts_at plan (Some current) = ac_watts_of current.size plan.nominal (phases_of plan.mode)

abbrev pub size_of : Option Amount → ℕ
size_of None = 0
size_of (Some amount) = amount.size

abbrev pub schedule_watts : Option (ArrayVec Tuple) → ℕ
schedule_watts None = 0
schedule_watts (Some tuples) = fold max 0 (map (λ t. t.least.size) tuples.items)

abbrev pub limits_watts : PostPlan → PostLimits → ℕ
limits_watts plan (limits.Ac notify nominal current) = watts_at plan (Some current)
limits_watts plan (limits.Dc status current watts voltage least_current least_voltage ripple) = size_of watts

abbrev pub tell_watts : PostPlan → Tell → ℕ
tell_watts plan (tell.ChargeParameters processing schedule limits) = max (schedule_watts schedule) (limits_watts plan limits)
tell_watts plan (tell.CurrentDemand status voltage current current_cut voltage_cut watts_cut most_voltage most_current most_watts evse) = size_of most_watts
tell_watts plan (tell.ChargingStatus notify evse current) = watts_at plan current
tell_watts plan other = 0
