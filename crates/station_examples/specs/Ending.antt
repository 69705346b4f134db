-- ISO 15118-2:2014, section 8.8; IEC 61851-1, annex A; IEC 61851-23: examples of what ends a session.
use Rattle.std.specs.Prelude.{◌≡◌, Bool, true, false, List, [], ◌∷◌, Option, Some, None}
use Rattle.charge_world.specs.declared.heard.IsolationLevel.TheVariants as isolation
use Rattle.charge_world.specs.declared.heard.PilotState.TheVariants as pilot
use Rattle.charge_world.specs.declared.heard.PlantEvent.TheVariants as plant
use Rattle.charge_world.specs.declared.ports.Order.TheVariants as order
use Rattle.session_words.specs.declared.cause.EndCause.{EndCause}
use Rattle.session_words.specs.declared.cause.EndCause.TheVariants as cause
use Rattle.session_words.specs.declared.code.Code.TheVariants as code
use Rattle.session_words.specs.declared.phase.Phase.TheVariants as row
use Rattle.session_words.specs.declared.word.Ask.TheVariants as ask
use Rattle.session_words.specs.declared.word.Tell.TheVariants as tell
use Rattle.session_rules.specs.Causes.{plant_cause}
use Rattle.post_spec.specs.Causes.{watch}
use Rattle.post_spec.specs.Contactors.{live_as_told}
use Rattle.post_spec.specs.Course.{Talked}
use Rattle.post_spec.specs.Steps.{Came, Gone, Plant, Clock, Over, Seen, Heard, Did}
use Rattle.post_spec.specs.Steps as steps
use Rattle.station_spec.specs.States.{Give, Finish}
use Rattle.station_examples.specs.Playing.{Play, hear}
use Rattle.station_examples.specs.Fixtures.{dc_post, unnamed, asks_as, asks, replies, request, tells, tick}
use Rattle.station_examples.specs.Sessions.{open_in, closing_in, closed_in, unchecked_in}
use Rattle.station_examples.specs.Words.{demand}

-- the emergency stop: Open, and the end, before anything else is heard; nothing is answered behind it
abbrev pub stopped_hard : List Bool → Play
stopped_hard outcomes = hear dc_post 11000 (Plant plant.Emergency) [] outcomes (closed_in row.DcCharging)

abbrev pub EmergencyOpens : Type 0
EmergencyOpens = (stopped_hard []).did ≡ Give order.Open ∷ Finish cause.Emergency ∷ []

abbrev pub NothingBehindEnd : Type 0
NothingBehindEnd = (request dc_post 11000 (asks demand) (stopped_hard [])).did ≡ []

-- an Open that fails is repeated in each later hearing until one is taken, and the session ends once
abbrev pub FailedOpenEndsOnce : Type 0
FailedOpenEndsOnce = (stopped_hard (false ∷ [])).did ≡ Give order.Open ∷ Finish cause.Emergency ∷ []

abbrev pub FailedOpenIsRepeated : Type 0
FailedOpenIsRepeated = (tick dc_post 11100 (stopped_hard (false ∷ []))).did ≡ Give order.Open ∷ []

abbrev pub again : Play
again = hear dc_post 11100 Clock [] (false ∷ []) (stopped_hard (false ∷ []))

abbrev pub FailedOpenIsRepeatedAgain : Type 0
FailedOpenIsRepeatedAgain = (tick dc_post 11200 again).did ≡ Give order.Open ∷ []

abbrev pub TakenOpenIsDone : Type 0
TakenOpenIsDone = (tick dc_post 11300 (tick dc_post 11200 again)).did ≡ []

-- an isolation that isn't valid: behind the cable check it ends the session, and Open goes first where the contactor is
-- live
abbrev pub InvalidEndsChecked : Type 0
InvalidEndsChecked = (tells dc_post 10000 (plant.Isolation isolation.Invalid) (open_in row.DcChecked)).did
    ≡ Finish cause.IsolationLost ∷ []

abbrev pub WarningOpensCharging : Type 0
WarningOpensCharging = (tells dc_post 10000 (plant.Isolation isolation.Warning) (closed_in row.DcCharging)).did
    ≡ Give order.Open ∷ Finish cause.IsolationLost ∷ []

abbrev pub InvalidBeforeCheckWaits : Type 0
InvalidBeforeCheckWaits = (tells dc_post 10000 (plant.Isolation isolation.Invalid) (unchecked_in row.DcReady None)).did
    ≡ []

-- the pilot: B ends a session whose contactor is live, A any
abbrev pub PilotBOpens : Type 0
PilotBOpens = (tells dc_post 10000 (plant.Pilot pilot.B) (closed_in row.DcCharging)).did
    ≡ Give order.Open ∷ Finish cause.PilotLost ∷ []

abbrev pub PilotBWaits : Type 0
PilotBWaits = (tells dc_post 10000 (plant.Pilot pilot.B) (open_in row.DcPreCharging)).did ≡ []

abbrev pub PilotAEnds : Type 0
PilotAEnds = (tells dc_post 10000 (plant.Pilot pilot.A) (open_in row.DcPreCharging)).did ≡ Finish cause.PilotLost ∷ []

-- a session that begins while an order to open is owed: that goes first, and B ends the session neither then nor later
abbrev pub arrives : Play
arrives = hear dc_post 11200 (Came 7) [] [] again

abbrev pub ArrivesBehindOpen : Type 0
ArrivesBehindOpen = arrives.did ≡ Give order.Open ∷ []

abbrev pub PilotBBehindOpenWaits : Type 0
PilotBBehindOpenWaits = (tells dc_post 11300 (plant.Pilot pilot.B) arrives).did ≡ []

-- and so it is no cause while an Open is owed, nor behind one that was taken; while the contactor is closed it is one
abbrev pub closed : List Seen
closed = Did (steps.Give order.Close) true ∷ []

abbrev pub owed : List Seen
owed = Did (steps.Give order.Open) false ∷ closed

abbrev pub opened : List Seen
opened = Did (steps.Give order.Open) true ∷ Heard 11200 (Plant (plant.Pilot pilot.B)) ∷ owed

abbrev pub cause_by_pilot_b : List Seen → Talked → Option EndCause
cause_by_pilot_b past t = plant_cause (watch dc_post t past (live_as_told past) 11300) (plant.Pilot pilot.B)

abbrev pub PilotBWhileOwed : Type 0
PilotBWhileOwed = (t : Talked) → cause_by_pilot_b owed t ≡ None

abbrev pub PilotBBehindOpen : Type 0
PilotBBehindOpen = (t : Talked) → cause_by_pilot_b opened t ≡ None

abbrev pub PilotBWhileClosed : Type 0
PilotBWhileClosed = (t : Talked) → cause_by_pilot_b closed t ≡ Some cause.PilotLost

-- feedback against the order
abbrev pub OpenedAgainstOrderEnds : Type 0
OpenedAgainstOrderEnds = (tells dc_post 10000 (plant.Feedback false) (closed_in row.DcCharging)).did
    ≡ Give order.Open ∷ Finish cause.FeedbackWrong ∷ []

abbrev pub OpenWhileClosingWaits : Type 0
OpenWhileClosingWaits = (tells dc_post 10000 (plant.Feedback false) (closing_in row.DcClosing)).did ≡ []

abbrev pub ClosedAgainstOrderEnds : Type 0
ClosedAgainstOrderEnds = (tells dc_post 10000 (plant.Feedback true) (open_in row.DcPreCharging)).did
    ≡ Finish cause.FeedbackWrong ∷ []

-- SessionStop behind the charging, of this session and of another
abbrev pub StopEnds : Type 0
StopEnds = (request dc_post 10000 (asks (ask.SessionStop false)) (open_in row.DcStopped)).did
    ≡ replies code.Ok tell.SessionStop ∷ Finish cause.Stopped ∷ []

abbrev pub StopOfAnotherFails : Type 0
StopOfAnotherFails = (request dc_post 10000 (asks_as unnamed (ask.SessionStop false)) (open_in row.DcStopped)).did
    ≡ replies code.FailedUnknownSession tell.SessionStop ∷ Finish cause.FailedReply ∷ []

-- the connection ends, another one comes, nothing more is heard
abbrev pub GoneOpens : Type 0
GoneOpens = (hear dc_post 10000 Gone [] [] (closed_in row.DcCharging)).did ≡ Give order.Open ∷ Finish cause.Gone ∷ []

abbrev pub CameOpens : Type 0
CameOpens = (hear dc_post 10000 (Came 7) [] [] (closed_in row.DcCharging)).did
    ≡ Give order.Open ∷ Finish cause.Gone ∷ []

abbrev pub OverOpens : Type 0
OverOpens = (hear dc_post 10000 Over [] [] (closed_in row.DcCharging)).did ≡ Give order.Open ∷ Finish cause.RunOver ∷ []
