-- ISO 15118-2:2014, 8.4.3 to 8.4.5 (the responses); DIN SPEC 70121:2014. Which optional elements are there is own.
use Rattle.std.specs.Prelude.{ℕ, Bool, not, ◌&&◌, nat_lt, if◌then◌else◌, [], ◌∷◌, Option, Some, None}
use Rattle.arrayvec.specs.ArrayVec.{ArrayVec}
use Rattle.charge_world.specs.declared.offer.Dialect.{Dialect}
use Rattle.charge_world.specs.declared.offer.Dialect.TheVariants as dialect
use Rattle.session_words.specs.declared.amount.Amount.{Amount}
use Rattle.session_words.specs.declared.code.Code.{Code}
use Rattle.session_words.specs.declared.code.Code.TheVariants as code
use Rattle.session_words.specs.declared.code.Processing.{Processing}
use Rattle.session_words.specs.declared.code.Processing.TheVariants as processing
use Rattle.session_words.specs.declared.code.Progress.TheVariants as progress
use Rattle.session_words.specs.declared.facts.Facts.{Facts}
use Rattle.session_words.specs.declared.limits.EvseId.{EvseId}
use Rattle.session_words.specs.declared.limits.Tuple.{Tuple}
use Rattle.session_words.specs.declared.plan.PostPlan.{PostPlan}
use Rattle.session_words.specs.declared.word.Ask.{Ask}
use Rattle.session_words.specs.declared.word.Ask.TheVariants as ask
use Rattle.session_words.specs.declared.word.Reply.{Reply}
use Rattle.session_words.specs.declared.word.Request.{Request}
use Rattle.session_words.specs.declared.word.Tell.{Tell}
use Rattle.session_words.specs.declared.word.Tell.TheVariants as tell
use Rattle.session_words.specs.Amounts.{dc_watts_of}
use Rattle.session_words.specs.Modes.{offered_of}
use Rattle.session_rules.specs.declared.stage.Stage.{Stage}
use Rattle.session_rules.specs.Finishing.{is_ac, is_finished}
use Rattle.session_rules.specs.Stages.{identifier}
use Rattle.session_rules.specs.Verdict.{verdict, is_accepted}
use Rattle.session_rules.specs.Status.{notify_of, dc_status, post_status}
use Rattle.session_rules.specs.Offers.{amount, evse_of, schedule_of, ac_current_at, limits_of}
use Rattle.session_rules.specs.Moves.{stage_behind}

-- a step that isn't finished goes on; a FAILED one is finished
abbrev pub processing_of : Processing → Bool → Bool → Processing
processing_of ongoing accepted finished = if accepted && not finished then ongoing else processing.Finished

-- in ISO an authorization waits for the customer
abbrev pub awaiting : Dialect → Processing
awaiting dialect.Iso = processing.OngoingWaitingForCustomerInteraction
awaiting dialect.Din = processing.Ongoing

abbrev pub evse_if_iso : Dialect → PostPlan → Option EvseId
evse_if_iso dialect.Iso plan = Some (evse_of dialect.Iso plan)
evse_if_iso dialect.Din plan = None

abbrev pub schedule_if : Bool → Dialect → ℕ → Option (ArrayVec Tuple)
schedule_if there d watts = if there then schedule_of d watts else None

-- what the reply to ChargeParameterDiscovery tells: behind a FAILED code no watts
abbrev pub parameters_told : Stage → Facts → PostPlan → Code → ℕ → Ask → Tell
parameters_told s facts plan code shown asked =
    tell.ChargeParameters
    (processing_of processing.Ongoing (is_accepted code) (nat_lt 0 shown))
    (schedule_if (is_accepted code && nat_lt 0 shown) s.dialect shown)
    (limits_of (is_ac plan.mode) s.dialect facts plan code asked (if is_accepted code then shown else 0))

-- what the reply to CurrentDemand tells: whether the targets are above what the post gives, and the greatest values. Behind a
-- FAILED code nothing is cut, and the watts are those told before
abbrev pub demand_told : Stage → Facts → PostPlan → Code → ℕ → Ask → Amount → Amount → Tell
demand_told s facts plan code shown asked voltage current =
    tell.CurrentDemand (dc_status s.dialect facts code asked)
    (amount facts.voltage) (amount facts.current)
    (is_accepted code && nat_lt plan.max_current current.size)
    (is_accepted code && nat_lt plan.max_voltage voltage.size)
    (is_accepted code && nat_lt shown (dc_watts_of voltage.size current.size))
    (Some (amount plan.max_voltage)) (Some (amount plan.max_current))
    (Some (amount (if is_accepted code then shown else s.told)))
    (evse_if_iso s.dialect plan)

-- what a reply with this code tells, where these watts are shown
abbrev pub tell_of : Stage → Facts → PostPlan → Code → ℕ → Ask → Tell
tell_of s facts plan code shown (ask.SessionSetup car) = tell.SessionSetup (evse_of s.dialect plan)
tell_of s facts plan code shown ask.ServiceDiscovery =
    tell.ServiceDiscovery plan.free (record { items = offered_of plan.mode ∷ [] })
tell_of s facts plan code shown (ask.ServiceDetail service) = tell.ServiceDetail service
tell_of s facts plan code shown (ask.PaymentSelection external services) = tell.PaymentSelection
tell_of s facts plan code shown ask.Authorization =
    tell.Authorization (processing_of (awaiting s.dialect) (is_accepted code) (is_finished facts plan ask.Authorization shown))
tell_of s facts plan code shown (ask.ChargeParameters mode limits) =
    parameters_told s facts plan code shown (ask.ChargeParameters mode limits)
tell_of s facts plan code shown (ask.CableCheck ready soc) =
    tell.CableCheck (dc_status s.dialect facts code (ask.CableCheck ready soc))
    (processing_of processing.Ongoing (is_accepted code) (is_finished facts plan (ask.CableCheck ready soc) shown))
tell_of s facts plan code shown (ask.PreCharge ready soc voltage current) =
    tell.PreCharge (dc_status s.dialect facts code (ask.PreCharge ready soc voltage current)) (amount facts.voltage)
tell_of s facts plan code shown (ask.PowerDelivery progress tuple profile) =
    tell.PowerDelivery (post_status (is_ac plan.mode) s.dialect facts code (ask.PowerDelivery progress tuple profile))
tell_of s facts plan code shown (ask.CurrentDemand ready soc voltage current) =
    demand_told s facts plan code shown (ask.CurrentDemand ready soc voltage current) voltage current
tell_of s facts plan code shown ask.ChargingStatus =
    tell.ChargingStatus (notify_of s.dialect facts code ask.ChargingStatus) (evse_of s.dialect plan)
    (Some (amount (ac_current_at plan (if is_accepted code then shown else s.told))))
tell_of s facts plan code shown (ask.WeldingDetection ready soc) =
    tell.WeldingDetection (dc_status s.dialect facts code (ask.WeldingDetection ready soc)) (amount facts.voltage)
tell_of s facts plan code shown (ask.SessionStop pause) = tell.SessionStop

-- the reply to a request, where these watts are shown
abbrev pub reply_to : Stage → Facts → PostPlan → Request → ℕ → Reply
reply_to s facts plan r shown = record {
  session = identifier (stage_behind s facts plan r shown);
  code = verdict s facts plan r;
  tell = tell_of s facts plan (verdict s facts plan r) shown r.ask;
}

-- the reply to PowerDelivery that waited for the feedback
abbrev pub waiting_reply : Stage → Facts → PostPlan → Reply
waiting_reply s facts plan = record {
  session = identifier s;
  code = code.Ok;
  tell = tell.PowerDelivery (post_status (is_ac plan.mode) s.dialect facts code.Ok (ask.PowerDelivery progress.Start None None));
}
