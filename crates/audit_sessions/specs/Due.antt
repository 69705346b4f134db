-- ISO 15118-2:2014, section 8.7: which deadline of a session is reached.
use Rattle.std.specs.Prelude.{◌≡◌, ◌≤◌, ◌<◌, ℕ, ◌+◌, nat_le, nat_lt, Bool, ◌&&◌, if◌then◌else◌, List, Option, Some, None}
use Rattle.session_words.specs.declared.cause.Timeout.{Timeout}
use Rattle.session_words.specs.declared.cause.Timeout.TheVariants.{Setup, Sequence, Feedback}
use Rattle.session_timers.specs.Due.{never}
use Rattle.session_timers.specs.Law.{span_of}
use Rattle.post_spec.specs.Causes.{running, due}
use Rattle.post_spec.specs.Course.{Talked}
use Rattle.post_spec.specs.Facts.{now}
use Rattle.post_spec.specs.Sessions.{session}
use Rattle.post_spec.specs.Steps.{Seen}
use Rattle.audit_sessions.specs.declared.values.Moments.{Moments}

abbrev pub counts_from : Timeout → Moments → ℕ
counts_from Setup m = m.came_at
counts_from Sequence m = m.replied_at
counts_from Feedback m = m.closed_at

-- the deadline that runs
abbrev pub runs : Bool → Moments → Timeout
runs set_up m = running set_up m.waits

abbrev pub due_of : Bool → Moments → ℕ
due_of set_up m = counts_from (runs set_up m) m + span_of (runs set_up m)

-- the one that is reached at this moment
abbrev pub reached_by : Bool → ℕ → Moments → Option Timeout
reached_by set_up at m = if nat_le (due_of set_up m) at && nat_lt (due_of set_up m) never then Some (runs set_up m) else None

abbrev pub reached_in : Bool → ℕ → Option Moments → Option Timeout
reached_in set_up at None = None
reached_in set_up at (Some m) = reached_by set_up at m

-- the session with these entries, in which that was talked about, has reached its deadline
pub record IsReached (talked : Talked) (past es : List Seen) : Type 0 where
  pub session_is : session past ≡ Some es
  pub reached : due (Some talked) es ≤ now past
  pub bound : due (Some talked) es < never
