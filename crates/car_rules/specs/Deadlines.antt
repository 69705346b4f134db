-- ISO 15118-2:2014, 8.7 (the timers of the car): which deadlines run, and which decides. The spans are used in DIN too (own).
use Rattle.std.specs.Prelude.{ℕ, ◌+◌, min, fold, map, nat_le, Bool, true, if◌then◌else◌, List, [], ◌∷◌, Option, Some, None}
use Rattle.std.specs.Option.{option_map}
use Rattle.session_words.specs.declared.cause.EndCause.{EndCause}
use Rattle.session_words.specs.declared.cause.EndCause.TheVariants as cause
use Rattle.session_words.specs.declared.plan.CarPlan.{CarPlan}
use Rattle.session_words.specs.declared.word.Ask.{Ask}
use Rattle.session_words.specs.declared.word.Ask.TheVariants as ask
use Rattle.session_timers.specs.Due.{never}
use Rattle.car_rules.specs.declared.deadlines.CarDue.{CarDue}
use Rattle.car_rules.specs.declared.deadlines.CarMoments.{CarMoments}
use Rattle.car_rules.specs.declared.stage.CarPhase.{CarPhase}
use Rattle.car_rules.specs.declared.stage.CarPhase.TheVariants as phase
use Rattle.car_rules.specs.declared.stage.CarStage.{CarStage}
use Rattle.car_rules.specs.Replies.{is_setting_up}
use Rattle.car_rules.specs.Requests.{ask_of}

-- so many milliseconds behind a moment; none where that is past 2^64 - 1, since no such moment is ever reached
abbrev pub due_at : ℕ → ℕ → Option ℕ
due_at at span = if nat_le (at + span) never then Some (at + span) else None

abbrev pub is_reached : ℕ → ℕ → Bool
is_reached moment now = nat_le moment now

abbrev pub due : EndCause → ℕ → ℕ → Option CarDue
due cause at span = option_map (λ moment. record { cause = cause; moment = moment }) (due_at at span)

-- how long a reply may take
abbrev pub message_span : Ask → ℕ
message_span (ask.PowerDelivery progress tuple profile) = 5000
message_span (ask.CurrentDemand ready soc voltage current) = 250
message_span other = 2000

-- the negotiation comes before every stage
abbrev pub awaits_setup : Option CarStage → Bool
awaits_setup None = true
awaits_setup (Some s) = is_setting_up s.phase

abbrev pub setup_due : Option CarStage → ℕ → Option CarDue
setup_due stage came = if awaits_setup stage then due cause.SetupTimeout came 20000 else None

abbrev pub span_in : CarPlan → Option CarStage → ℕ
span_in plan None = 2000
span_in plan (Some s) = message_span (ask_of plan s.dialect s.phase)

abbrev pub message_due : CarPlan → Option CarStage → Option ℕ → Option CarDue
message_due plan stage None = None
message_due plan stage (Some sent) = due cause.MessageTimeout sent (span_in plan stage)

-- how long a step may take that is asked for again and again, from its first request on
abbrev pub step_due_in : CarPhase → ℕ → Option CarDue
step_due_in phase.Authorizing begun = due cause.OngoingTimeout begun 60000
step_due_in phase.Asking begun = due cause.OngoingTimeout begun 60000
step_due_in phase.CableChecking begun = due cause.CableCheckTimeout begun 40000
step_due_in phase.PreCharging begun = due cause.PreChargeTimeout begun 7000
step_due_in other begun = None

abbrev pub step_due : Option CarStage → ℕ → Option CarDue
step_due None begun = None
step_due (Some s) begun = step_due_in s.phase begun

-- the deadlines of a session, in order of their numbers
abbrev pub deadlines : CarPlan → Option CarStage → CarMoments → List (Option CarDue)
deadlines plan stage m = setup_due stage m.came ∷ message_due plan stage m.sent ∷ step_due stage m.begun ∷ []

-- the first of these that was reached, so that the least number decides
abbrev pub hit_by : Option CarDue → ℕ → Option EndCause → Option EndCause
hit_by None now later = later
hit_by (Some d) now later = if is_reached d.moment now then Some d.cause else later

abbrev pub hit : List (Option CarDue) → ℕ → Option EndCause
hit [] now = None
hit (d ∷ ds) now = hit_by d now (hit ds now)

-- the moment to wait for, at most 2^64 - 1
abbrev pub moment_of : Option CarDue → ℕ
moment_of None = never
moment_of (Some d) = d.moment

abbrev pub least_moment : List (Option CarDue) → ℕ
least_moment ds = fold min never (map moment_of ds)
