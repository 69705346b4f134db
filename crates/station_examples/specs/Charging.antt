-- ISO 15118-2:2014, section 8.4.5: examples of what a session does while it charges.
use Rattle.std.specs.Prelude.{◌≡◌, true, false, List, [], ◌∷◌, Some}
use Rattle.charge_world.specs.declared.heard.IsolationLevel.TheVariants as isolation
use Rattle.charge_world.specs.declared.heard.PlantEvent.TheVariants as plant
use Rattle.charge_world.specs.declared.ports.Order.TheVariants as order
use Rattle.session_words.specs.declared.cause.EndCause.TheVariants as cause
use Rattle.session_words.specs.declared.code.Code.TheVariants as code
use Rattle.session_words.specs.declared.code.Notify.TheVariants as notify
use Rattle.session_words.specs.declared.code.Progress.TheVariants as progress
use Rattle.session_words.specs.declared.code.StatusCode.TheVariants as status_code
use Rattle.session_words.specs.declared.limits.PostStatus.TheVariants as of_post
use Rattle.session_words.specs.declared.limits.EvseId.TheVariants as of_evse
use Rattle.session_words.specs.declared.phase.Phase.TheVariants as row
use Rattle.session_words.specs.declared.phase.Standing.TheVariants as standing
use Rattle.session_words.specs.declared.word.Ask.TheVariants as ask
use Rattle.session_words.specs.declared.word.Tell.TheVariants as tell
use Rattle.session_rules.specs.Offers.{amount}
use Rattle.session_words.specs.declared.code.Notify.{Notify}
use Rattle.session_words.specs.declared.code.StatusCode.{StatusCode}
use Rattle.session_words.specs.declared.word.Ask.{Ask}
use Rattle.session_words.specs.declared.word.Tell.{Tell}
use Rattle.station_examples.specs.Whole.{shown_of, Ordered, Coded, Ended}
use Rattle.station_spec.specs.States.{Todo, Give, Finish}
use Rattle.station_examples.specs.Playing.{Play, hear}
use Rattle.station_examples.specs.Fixtures.{dc_post, ac_post, asks, asks_shown, replies, status, a_frame, request, tells}
use Rattle.station_examples.specs.Sessions.{closed_in, unchecked_in, ac_in}
use Rattle.station_examples.specs.Words.{delivery, pre_charge, wrong_demand}

-- 22,080 W over three phases at 230 V are 32.0 A
abbrev pub charges : Play
charges = ac_in row.AcCharging standing.Closed true

abbrev pub StatusLimits : Type 0
StatusLimits = (request ac_post 10000 (asks_shown ask.ChargingStatus 22080) charges).did
    ≡ Give (order.Limits 2300 320 22080)
    ∷ replies code.Ok (tell.ChargingStatus notify.None (of_evse.Text ac_post.evse_id) (Some (amount 320))) ∷ []

-- 105 % of the allowed watts are allowed
abbrev pub MeasuredAtBound : Type 0
MeasuredAtBound = (tells ac_post 10000 (plant.Measured 2300 336) charges).did ≡ []

abbrev pub MeasuredAboveEnds : Type 0
MeasuredAboveEnds = (tells ac_post 10000 (plant.Measured 2300 337) charges).did
    ≡ Give order.Open ∷ Finish cause.OverPower ∷ []

-- the watts that were allowed before told ones were lowered stay so for 5,000 ms
abbrev pub lowers : Play
lowers = request ac_post 10000 (asks_shown ask.ChargingStatus 10000) charges

abbrev pub LoweredStays : Type 0
LoweredStays = (tells ac_post 14999 (plant.Measured 2300 336) lowers).did ≡ []

abbrev pub LoweredEnds : Type 0
LoweredEnds = (tells ac_post 15000 (plant.Measured 2300 336) lowers).did ≡ Give order.Open ∷ Finish cause.OverPower ∷ []

-- a FAILED reply while the contactor is live: Open goes first
abbrev pub OpensBeforeFailed : Type 0
OpensBeforeFailed = (request dc_post 10000 (asks (delivery progress.Start)) (closed_in row.DcCharging)).did
    ≡ Give order.Open
    ∷ replies code.FailedSequenceError (tell.PowerDelivery (of_post.Dc (status (Some isolation.Valid) status_code.EvseMalfunction)))
    ∷ Finish cause.FailedReply ∷ []

-- where that Open fails, the reply is dropped
abbrev pub FailedOpenDropsReply : Type 0
FailedOpenDropsReply =
    (hear dc_post 10000 a_frame (asks (delivery progress.Start) ∷ []) (false ∷ []) (closed_in row.DcCharging)).did
    ≡ Give order.Open ∷ Finish cause.FailedReply ∷ []

-- PowerDelivery Stop opens before its reply
abbrev pub StopOpens : Type 0
StopOpens = (request dc_post 10000 (asks (delivery progress.Stop)) (closed_in row.DcCharging)).did
    ≡ Give order.Open
    ∷ replies code.Ok (tell.PowerDelivery (of_post.Dc (status (Some isolation.Valid) status_code.EvseNotReady))) ∷ []

-- the first pre-charge orders its target, 2.0 A and the told watts
abbrev pub PreChargeLimits : Type 0
PreChargeLimits = (request dc_post 10000 (asks pre_charge) (unchecked_in row.DcChecked (Some isolation.Valid))).did
    ≡ Give (order.Limits 4000 20 40000)
    ∷ replies code.Ok (tell.PreCharge (status (Some isolation.Valid) status_code.EvseReady) (amount 0)) ∷ []

-- a reply that can't be sent
abbrev pub FailedSendEnds : Type 0
FailedSendEnds = (hear ac_post 10000 a_frame (asks_shown ask.ChargingStatus 22080 ∷ []) (true ∷ false ∷ []) charges).did
    ≡ Give (order.Limits 2300 320 22080)
    ∷ replies code.Ok (tell.ChargingStatus notify.None (of_evse.Text ac_post.evse_id) (Some (amount 320)))
    ∷ Give order.Open ∷ Finish cause.SendFailed ∷ []

-- a demand in direct current is cut to what the post can give, and tells so
abbrev pub big_demand : Ask
big_demand = ask.CurrentDemand true 40 (amount 4000) (amount 1251)

abbrev pub told_to : Notify → StatusCode → Tell
told_to wish status_code =
    tell.CurrentDemand (record { notify = wish; isolation = Some isolation.Valid; code = status_code })
    (amount 0) (amount 0) true false true (Some (amount 9200)) (Some (amount 1250)) (Some (amount 40000)) (Some (of_evse.Text dc_post.evse_id))

abbrev pub demands : Play → List Todo
demands p = (request dc_post 10000 (asks_shown big_demand 40000) p).did

abbrev pub DemandIsCut : Type 0
DemandIsCut = demands (closed_in row.DcCharging)
    ≡ Give (order.Limits 4000 1250 40000) ∷ replies code.Ok (told_to notify.None status_code.EvseReady) ∷ []

-- the charger's wish to negotiate anew is told, and before it the wish to stop
abbrev pub renewing : Play
renewing = tells dc_post 10000 plant.RenewAsked (closed_in row.DcCharging)

abbrev pub RenewalIsTold : Type 0
RenewalIsTold = demands renewing
    ≡ Give (order.Limits 4000 1250 40000) ∷ replies code.Ok (told_to notify.ReNegotiation status_code.EvseReady) ∷ []

abbrev pub StopIsToldFirst : Type 0
StopIsToldFirst = demands (tells dc_post 10000 plant.StopAsked renewing)
    ≡ Give (order.Limits 4000 1250 40000) ∷ replies code.Ok (told_to notify.StopCharging status_code.EvseShutdown) ∷ []

-- a target with a wrong unit
abbrev pub WrongUnitOpens : Type 0
WrongUnitOpens = shown_of (request dc_post 10000 (asks wrong_demand) (closed_in row.DcCharging)).did
    ≡ Ordered order.Open ∷ Coded code.Failed ∷ Ended cause.FailedReply ∷ []
