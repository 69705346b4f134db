-- Own: why a session of a post ends. IEC 61851-1, annex A (the pilot); IEC 61851-23 (isolation); ISO 15118-2:2014, 8.7 and 8.8.
use Rattle.std.specs.Prelude.{ℕ, ◌*◌, Bool, true, false, not, ◌&&◌, nat_lt, if◌then◌else◌, Option, Some, None}
use Rattle.charge_world.specs.declared.heard.PilotState.{PilotState}
use Rattle.charge_world.specs.declared.heard.PilotState.TheVariants as pilot
use Rattle.charge_world.specs.declared.heard.PlantEvent.{PlantEvent}
use Rattle.charge_world.specs.declared.heard.PlantEvent.TheVariants as event
use Rattle.session_words.specs.declared.cause.EndCause.{EndCause}
use Rattle.session_words.specs.declared.cause.EndCause.TheVariants as cause
use Rattle.session_words.specs.declared.code.Code.{Code}
use Rattle.session_words.specs.declared.phase.Phase.{Phase}
use Rattle.session_words.specs.declared.phase.Phase.TheVariants as row
use Rattle.session_words.specs.declared.phase.Standing.{Standing}
use Rattle.session_words.specs.declared.phase.Standing.TheVariants as standing
use Rattle.session_words.specs.declared.word.Ask.{Ask}
use Rattle.session_words.specs.declared.word.Ask.TheVariants as ask
use Rattle.session_words.specs.Causes.{cause_of}
use Rattle.contactor.specs.Standing.{is_against}
use Rattle.session_rules.specs.declared.causes.Watch.{Watch}
use Rattle.session_rules.specs.declared.causes.Found.{Found}
use Rattle.session_rules.specs.declared.causes.Found.TheVariants as found
use Rattle.session_rules.specs.declared.causes.Break.{Break}
use Rattle.session_rules.specs.declared.causes.Break.TheVariants as broken
use Rattle.session_rules.specs.Finishing.{is_valid}
use Rattle.session_rules.specs.Verdict.{is_accepted}

abbrev pub cause_if : Bool → EndCause → Option EndCause
cause_if stands cause = if stands then Some cause else None

-- no vehicle, no signal or a fault; while the contactor is live also a vehicle that isn't ready
abbrev pub is_pilot_lost : Bool → PilotState → Bool
is_pilot_lost live pilot.A = true
is_pilot_lost live pilot.B = live
is_pilot_lost live pilot.C = false
is_pilot_lost live pilot.D = false
is_pilot_lost live pilot.E = true
is_pilot_lost live pilot.F = true

-- rows in which the isolation has to be valid
abbrev pub needs_isolation : Phase → Bool
needs_isolation row.DcChecked = true
needs_isolation row.DcPreCharging = true
needs_isolation row.DcClosing = true
needs_isolation row.DcCharging = true
needs_isolation other = false

-- rows in which power is measured against what is allowed: the contactor closes or is closed
abbrev pub is_closing : Standing → Bool
is_closing standing.Closing = true
is_closing standing.Closed = true
is_closing other = false

-- more than 105 % of the allowed watts, with voltage and current in tenths
abbrev pub is_over : ℕ → ℕ → ℕ → ℕ → Bool
is_over phases allowed voltage current = nat_lt (105 * allowed) (voltage * current * phases)

-- the cause that an event of the charger is in a session, if it is one
abbrev pub plant_cause : Watch → PlantEvent → Option EndCause
plant_cause w (event.Pilot state) = cause_if (is_pilot_lost w.live state) cause.PilotLost
plant_cause w (event.Isolation level) = cause_if (needs_isolation w.row && not (is_valid (Some level))) cause.IsolationLost
plant_cause w (event.Measured voltage current) =
    cause_if (is_closing w.standing && is_over w.phases w.allowed voltage current) cause.OverPower
plant_cause w (event.Feedback closed) = cause_if (is_against w.standing closed) cause.FeedbackWrong
plant_cause w event.Paid = None
plant_cause w event.Emergency = Some cause.Emergency
plant_cause w event.StopAsked = None
plant_cause w event.RenewAsked = None

-- what a payload of a dialect is, none where it is refused; a request is judged by its verdict
abbrev pub found_by : Code → Ask → Found
found_by code (ask.SessionStop pause) = if is_accepted code then found.Stopped pause else found.Failed
found_by code other = if is_accepted code then found.Accepted else found.Failed

-- the cause that the next word of a session is, if it is one. A payload isn't read while a reply waits
abbrev pub word_cause : Bool → Found → Option EndCause
word_cause waiting found.BadFrame = Some cause.BadFrame
word_cause true other = Some cause.Impatient
word_cause false found.Refused = Some cause.Refused
word_cause false found.WrongSide = Some cause.WrongSide
word_cause false (found.Negotiation matched) = cause_if (not matched) cause.NoNegotiation
word_cause false found.Failed = Some cause.FailedReply
word_cause false (found.Stopped pause) = Some (if pause then cause.Paused else cause.Stopped)
word_cause false found.Accepted = None

-- the cause that comes from outside
abbrev pub break_cause : Break → EndCause
break_cause broken.Gone = cause.Gone
break_cause (broken.Due timeout) = cause_of timeout
break_cause broken.SendFailed = cause.SendFailed
break_cause broken.OrderFailed = cause.OrderFailed
break_cause broken.Over = cause.RunOver
