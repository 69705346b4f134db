-- Own: what a post keeps of the stream and of the deadline of its session, read off the session's entries. ISO 15118-2:2014, section
-- 8.7, has the deadlines.
use Rattle.std.specs.Prelude.{◌≡◌, ℕ, ◌+◌, if◌then◌else◌, List, map, length, Option, Some, None}
use Rattle.session_words.specs.declared.plan.PostPlan.{PostPlan}
use Rattle.v2gtp_frames.specs.Reading.{behind_frames}
use Rattle.session_rules.specs.Stages.{is_waiting}
use Rattle.post_spec.specs.Causes as causes
use Rattle.post_spec.specs.Codecs.{Codecs}
use Rattle.post_spec.specs.Sessions.{session, stream, replies, waits}
use Rattle.post_spec.specs.Steps.{Seen, Step, seen_of}
use Rattle.station_spec.specs.States.{Session}
use Rattle.station_spec.specs.Deciding.{due}
use Rattle.station_spec.specs.Acting.{state}
use Rattle.station_spec.specs.Next.{IsQuiet}
use Rattle.station_laws.specs.PostRuns.{IsPostRun}
use Rattle.read_runs.specs.Courses.{talked_of}

-- how many words of a session were read: those with a reply, and while a reply waits one more
abbrev pub words_read : List Seen → ℕ
words_read es = if waits es then length (replies es) + 1 else length (replies es)

pub record IsSession (es : List Seen) (s : Session) : Type 0 where
  pub unread_is : s.unread ≡ behind_frames (words_read es) (stream es)
  pub waiting_is : is_waiting s.stage.row ≡ waits es
  pub due_is : due s ≡ causes.due (Some (talked_of s)) es

-- a session lives in both or in neither
abbrev pub IsSessionOf : Option (List Seen) → Option Session → Type 0
IsSessionOf None None = Unit {0}
IsSessionOf None (Some s) = ⊥
IsSessionOf (Some es) None = ⊥
IsSessionOf (Some es) (Some s) = IsSession es s

-- behind the steps of a post in a run, once it has nothing to do
abbrev pub SessionsAreRead : Codecs → Type 0
SessionsAreRead c = (plan : PostPlan) (steps : List Step) → IsPostRun c plan steps → IsQuiet plan (state plan steps)
    → IsSessionOf (session (map seen_of steps)) (state plan steps).session
