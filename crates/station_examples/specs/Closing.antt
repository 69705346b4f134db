-- ISO 15118-2:2014, section 8.4.5; IEC 61851-23: examples of when a contactor is ordered closed, and of what follows.
use Rattle.std.specs.Prelude.{◌≡◌, Bool, true, false, List, [], ◌∷◌, ◌++◌, Some, None}
use Rattle.charge_world.specs.declared.heard.IsolationLevel.TheVariants as isolation
use Rattle.charge_world.specs.declared.heard.PilotState.TheVariants as pilot
use Rattle.charge_world.specs.declared.heard.PlantEvent.TheVariants as plant
use Rattle.charge_world.specs.declared.ports.Order.TheVariants as order
use Rattle.session_words.specs.declared.cause.EndCause.TheVariants as cause
use Rattle.session_words.specs.declared.code.Code.TheVariants as code
use Rattle.session_words.specs.declared.code.Notify.TheVariants as notify
use Rattle.session_words.specs.declared.code.Processing.TheVariants as processing
use Rattle.session_words.specs.declared.code.Progress.TheVariants as progress
use Rattle.session_words.specs.declared.code.StatusCode.TheVariants as status_code
use Rattle.session_words.specs.declared.limits.PostStatus.TheVariants as of_post
use Rattle.session_words.specs.declared.phase.Phase.TheVariants as row
use Rattle.session_words.specs.declared.phase.Standing.TheVariants as standing
use Rattle.session_words.specs.declared.word.Tell.TheVariants as tell
use Rattle.v2gtp_frames.specs.Frames.{frame}
use Rattle.post_spec.specs.Steps.{Bytes}
use Rattle.station_spec.specs.States.{Todo, Give, Finish}
use Rattle.session_words.specs.declared.limits.DcStatus.{DcStatus}
use Rattle.station_examples.specs.Playing.{Play, hear}
use Rattle.station_examples.specs.Fixtures.{dc_post, ac_post, asks, replies, status, a_frame, request, tells}
use Rattle.station_examples.specs.Sessions.{near, session_in, facts_at, keeping, pre_charged_in, unchecked_in, ac_in}
use Rattle.station_examples.specs.Words.{delivery, cable_check}

abbrev pub start : Play → Play
start = request dc_post 10000 (asks (delivery progress.Start))

-- PowerDelivery Start before the cable check
abbrev pub StartBeforeCheckFails : Type 0
StartBeforeCheckFails = (start (unchecked_in row.DcReady None)).did
    ≡ replies code.FailedSequenceError (tell.PowerDelivery (of_post.Dc (status None status_code.EvseMalfunction)))
    ∷ Finish cause.FailedReply ∷ []

-- a pre-charge to 400.0 V that reached 380.0 V, or 420.0 V: closed; 379.0 V, 379.9 V or 420.1 V: not
abbrev pub ClosesNear : Type 0
ClosesNear = (start (pre_charged_in row.DcPreCharging 3800)).did ≡ Give order.Close ∷ []

abbrev pub ClosesNearAbove : Type 0
ClosesNearAbove = (start (pre_charged_in row.DcPreCharging 4200)).did ≡ Give order.Close ∷ []

abbrev pub far : List Todo
far =
    replies code.FailedPowerDeliveryNotApplied (tell.PowerDelivery (of_post.Dc (status (Some isolation.Valid) status_code.EvseMalfunction)))
    ∷ Finish cause.FailedReply ∷ []

abbrev pub StaysOpenFar : Type 0
StaysOpenFar = (start (pre_charged_in row.DcPreCharging 3790)).did ≡ far

abbrev pub StaysOpenJustFar : Type 0
StaysOpenJustFar = (start (pre_charged_in row.DcPreCharging 3799)).did ≡ far

abbrev pub StaysOpenFarAbove : Type 0
StaysOpenFarAbove = (start (pre_charged_in row.DcPreCharging 4201)).did ≡ far

-- an outlet that isn't open isn't closed, and without a car that is ready neither
abbrev pub StaysOpenWhileOpening : Type 0
StaysOpenWhileOpening =
    (start (keeping (session_in row.DcPreCharging 40000 (near 4000)) (facts_at (Some isolation.Valid) standing.Opening) false)).did
    ≡ replies code.FailedContactorError (tell.PowerDelivery (of_post.Dc (status (Some isolation.Valid) status_code.EvseMalfunction)))
    ∷ Finish cause.FailedReply ∷ []

abbrev pub StaysOpenWithoutCar : Type 0
StaysOpenWithoutCar = (start (tells dc_post 10000 (plant.Pilot pilot.B) (pre_charged_in row.DcPreCharging 4000))).did
    ≡ far

-- the reply waits for the feedback, up to 3,000 ms
abbrev pub closes_at : Play
closes_at = start (pre_charged_in row.DcPreCharging 4000)

abbrev pub ready : DcStatus
ready = status (Some isolation.Valid) status_code.EvseReady

abbrev pub ConfirmedIsAnswered : Type 0
ConfirmedIsAnswered = (tells dc_post 12999 (plant.Feedback true) closes_at).did
    ≡ replies code.Ok (tell.PowerDelivery (of_post.Dc ready)) ∷ []

abbrev pub UnconfirmedEnds : Type 0
UnconfirmedEnds = (tells dc_post 13000 (plant.Feedback true) closes_at).did
    ≡ Give order.Open ∷ Finish cause.FeedbackTimeout ∷ []

-- a frame behind Start in the same piece is a request while the reply waits
abbrev pub FrameBehindStartEnds : Type 0
FrameBehindStartEnds =
    (hear dc_post 10000 (Bytes (frame [] ++ frame [])) (asks (delivery progress.Start) ∷ []) [] (pre_charged_in row.DcPreCharging 4000)).did
    ≡ Give order.Close ∷ Give order.Open ∷ Finish cause.Impatient ∷ []

-- in alternating current no pre-charge is asked for
abbrev pub ac_start : List Bool → Play
ac_start =
    λ outcomes. hear ac_post 10000 a_frame (asks (delivery progress.Start) ∷ []) outcomes (ac_in row.AcReady standing.Opened false)

abbrev pub AcCloses : Type 0
AcCloses = (ac_start []).did ≡ Give order.Close ∷ []

abbrev pub AcConfirmedIsAnswered : Type 0
AcConfirmedIsAnswered = (tells ac_post 10500 (plant.Feedback true) (ac_start [])).did
    ≡ replies code.Ok (tell.PowerDelivery (of_post.Ac notify.None)) ∷ []

-- a Close that fails
abbrev pub FailedCloseEnds : Type 0
FailedCloseEnds = (ac_start (false ∷ [])).did ≡ Give order.Close ∷ Give order.Open ∷ Finish cause.OrderFailed ∷ []

-- a cable check goes on until the isolation is told, and fails by a fault of it
abbrev pub CheckWaits : Type 0
CheckWaits = (request dc_post 10000 (asks cable_check) (unchecked_in row.DcReady None)).did
    ≡ replies code.Ok (tell.CableCheck (status None status_code.EvseIsolationMonitoringActive) processing.Ongoing) ∷ []

abbrev pub CheckFails : Type 0
CheckFails = (request dc_post 10000 (asks cable_check) (unchecked_in row.DcReady (Some isolation.Fault))).did
    ≡ replies code.Failed (tell.CableCheck (status (Some isolation.Fault) status_code.EvseMalfunction) processing.Finished)
    ∷ Finish cause.FailedReply ∷ []
