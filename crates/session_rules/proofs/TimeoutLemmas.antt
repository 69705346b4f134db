-- Which deadline runs in a row.
use Rattle.std.proofs.Common.{◌≡◌, ◌≢◌, ℕ, ◌+◌, Bool, true, false, Some, refl}
use Rattle.session_words.specs.declared.cause.Timeout.{Timeout}
use Rattle.session_words.specs.declared.cause.Timeout.TheVariants.{Setup, Sequence, Feedback}
use Rattle.session_words.specs.declared.phase.Phase.{Phase}
use Rattle.session_words.specs.declared.phase.Phase.TheVariants as row
use Rattle.session_timers.specs.declared.deadlines.Last.{Last}
use Rattle.session_timers.specs.declared.deadlines.Last.TheVariants.{Nothing, Replied, Closing}
use Rattle.session_timers.specs.Due.{due_in}
use Rattle.session_timers.specs.Law.{span_of}
use Rattle.session_rules.specs.Deadlines.{timeout_of}
use Rattle.session_rules.specs.Laws.{RunsByRow, is_closing}
use Rattle.session_rules.specs.Stages.{is_set_up, is_waiting}

-- by what the row says of itself
abbrev pub by_kind : Bool → Bool → Timeout
by_kind false waiting = Setup
by_kind true true = Feedback
by_kind true false = Sequence

kind_of : (r : Phase) → timeout_of r ≡ by_kind (is_set_up r) (is_waiting r)
kind_of row.Connected = refl
kind_of row.Negotiated = refl
kind_of row.SetUp = refl
kind_of row.Discovered = refl
kind_of row.Selected = refl
kind_of row.Authorized = refl
kind_of row.DcReady = refl
kind_of row.DcChecked = refl
kind_of row.DcPreCharging = refl
kind_of row.DcClosing = refl
kind_of row.DcCharging = refl
kind_of row.DcStopped = refl
kind_of row.AcReady = refl
kind_of row.AcClosing = refl
kind_of row.AcCharging = refl
kind_of row.AcStopped = refl

due_by : (came : ℕ) (set_up waiting : Bool) (last : Last) → is_closing last ≡ waiting → (set_up ≡ true → last ≢ Nothing)
    → (from : ℕ) × (due_in (Some came) set_up last
    ≡ Some (record { timeout = by_kind set_up waiting; moment = from + span_of (by_kind set_up waiting) }))
due_by came false waiting last w r = (came, refl)
due_by came true true Nothing w r = absurd (r refl refl)
due_by came true false Nothing w r = absurd (r refl refl)
due_by came true true (Replied at) w r = cc
due_by came true false (Replied at) w r = (at, refl)
due_by came true true (Closing at) w r = (at, refl)
due_by came true false (Closing at) w r = cc

pub runs_by_row : RunsByRow
runs_by_row in_row came last fits = rw (kind_of in_row) (due_by came (is_set_up in_row) (is_waiting in_row) last fits.waits fits.replied)
