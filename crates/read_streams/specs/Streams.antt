-- Own: what a post keeps of the stream of its session, and of the moment from which its deadline counts, read off its steps. ISO
-- 15118-2:2014, section 7.8.3, has the frames, and section 8.7 the deadlines.
use Rattle.std.specs.Prelude.{◌≡◌, ℕ, ◌+◌, true, if◌then◌else◌, List, [], ◌∷◌, map, Option, Some, None}
use Rattle.charge_world.specs.declared.ports.Order.TheVariants as order
use Rattle.session_words.specs.declared.plan.PostPlan.{PostPlan}
use Rattle.v2gtp_frames.specs.Reading.{behind_frames}
use Rattle.post_spec.specs.Causes.{is_set_up_in}
use Rattle.post_spec.specs.Codecs.{Codecs}
use Rattle.post_spec.specs.Course.{course}
use Rattle.post_spec.specs.Facts.{now}
use Rattle.post_spec.specs.Sessions.{arriving, session, stream}
use Rattle.post_spec.specs.Steps.{Give, Send, Seen, Reading, Step, Hears, Does, seen_of}
use Rattle.station_spec.specs.States.{Session}
use Rattle.station_spec.specs.Acting.{state}
use Rattle.station_laws.specs.PostRuns.{IsPostRun}

-- in the session that a connection opened behind its block, or else in the one before it
abbrev pub unless_opened : Option Seen → ℕ → ℕ → ℕ
unless_opened None opened before = before
unless_opened (Some came) opened before = opened

-- how many words of the session were read
abbrev pub one_more : Option Reading → ℕ → ℕ
one_more None n = n
one_more (Some reading) n = n + 1

abbrev pub read_so_far : List Step → ℕ
read_so_far [] = 0
read_so_far (Hears at event ∷ steps) = unless_opened (arriving (map seen_of steps)) 0 (read_so_far steps)
read_so_far (Does reading act taken ∷ steps) = one_more reading (read_so_far steps)

-- the moment from which the session's deadline counts: its connection; the newest reply that was taken, once SessionSetup was accepted;
-- the newest Close that was taken
abbrev pub counting_from : PostPlan → List Step → ℕ
counting_from plan [] = 0
counting_from plan (Hears at event ∷ steps) = unless_opened (arriving (map seen_of steps)) (now (map seen_of steps)) (counting_from plan steps)
counting_from plan (Does reading (Give order.Close) true ∷ steps) = now (map seen_of steps)
counting_from plan (Does reading (Send bytes) true ∷ steps) =
    if is_set_up_in (course plan (Does reading (Send bytes) true ∷ steps)).session then now (map seen_of steps) else counting_from plan steps
counting_from plan (Does reading act taken ∷ steps) = counting_from plan steps

pub record IsStream (plan : PostPlan) (steps : List Step) (es : List Seen) (s : Session) : Type 0 where
  pub unread_is : s.unread ≡ behind_frames (read_so_far steps) (stream es)
  pub since_is : s.since ≡ counting_from plan steps

-- a session lives in both or in neither
abbrev pub IsStreamOf : PostPlan → List Step → Option (List Seen) → Option Session → Type 0
IsStreamOf plan steps None None = Unit {0}
IsStreamOf plan steps None (Some s) = ⊥
IsStreamOf plan steps (Some es) None = ⊥
IsStreamOf plan steps (Some es) (Some s) = IsStream plan steps es s

-- behind any steps of a post in a run
abbrev pub StreamsAreRead : Codecs → Type 0
StreamsAreRead c = (plan : PostPlan) (steps : List Step) → IsPostRun c plan steps
    → IsStreamOf plan steps (session (map seen_of steps)) (state plan steps).session
