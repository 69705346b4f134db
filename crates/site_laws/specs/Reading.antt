-- Own: what a post keeps behind each of its steps, read off its past (ISO 15118-2:2014, sections 7.8.3, 8.7 and 8.8).
use Rattle.std.specs.Prelude.{◌≡◌, List, ◌++◌, map}
use Rattle.session_words.specs.declared.plan.PostPlan.{PostPlan}
use Rattle.post_spec.specs.Sessions.{session}
use Rattle.post_spec.specs.Steps.{Step, seen_of}
use Rattle.station_spec.specs.Acting.{state}
use Rattle.applied_causes.specs.Left.{left, IsLeft}
use Rattle.read_streams.specs.Streams.{IsStreamOf}

-- what is left to do, and to which part of the hearing the post has come; the bytes that are unread, and from when the deadline counts
pub record IsReadOff (plan : PostPlan) (steps : List Step) : Type 0 where
  pub left_is : IsLeft (left plan steps) (state plan steps)
  pub stream_is : IsStreamOf plan steps (session (map seen_of steps)) (state plan steps).session

-- behind each step, and before the first
abbrev pub ReadsOff : PostPlan → List Step → Type 0
ReadsOff plan steps = (newer front : List Step) → steps ≡ newer ++ front → IsReadOff plan front
