-- ISO 15118-2:2014, section 8.7: a deadline is reached by a hearing, never by what the post does.
use Rattle.std.specs.Prelude.{◌≡◌, ◌≤◌, List, [], ◌∷◌, ◌++◌, map, Some}
use Rattle.charge_world.specs.declared.entry.Entry.{Entry}
use Rattle.session_words.specs.declared.cause.Timeout.{Timeout}
use Rattle.session_words.specs.declared.plan.PostPlan.{PostPlan}
use Rattle.session_words.specs.declared.plan.SitePlan.{SitePlan}
use Rattle.session_rules.specs.Stages.{is_set_up}
use Rattle.post_spec.specs.Causes.{running, due}
use Rattle.post_spec.specs.Codecs.{Codecs}
use Rattle.post_spec.specs.Course.{Talked, course}
use Rattle.post_spec.specs.Facts.{now}
use Rattle.post_spec.specs.Sessions.{session, waits}
use Rattle.post_spec.specs.Steps.{Seen, Step, Hears, Does, seen_of}
use Rattle.station_spec.specs.Sharing.{Post}
use Rattle.station_spec.specs.Runs.{IsRun}

-- behind these steps, the session's deadline that runs is this one, and it is reached
pub record IsReached (plan : PostPlan) (steps : List Step) (timeout : Timeout) : Type 0 where
  pub t : Talked
  pub es : List Seen
  pub course_is : (course plan steps).session ≡ Some t
  pub session_is : session (map seen_of steps) ≡ Some es
  pub timeout_is : timeout ≡ running (is_set_up t.stage.row) (waits es)
  pub reached : due (Some t) es ≤ now (map seen_of steps)

-- one that is reached behind an act was reached before it
abbrev pub AreLateByHearing : PostPlan → List Step → Type 0
AreLateByHearing plan [] = Unit {0}
AreLateByHearing plan (Hears at event ∷ steps) = AreLateByHearing plan steps
AreLateByHearing plan (Does reading act taken ∷ steps) =
    AreLateByHearing plan steps
    × ((timeout : Timeout) → IsReached plan (Does reading act taken ∷ steps) timeout → IsReached plan steps timeout)

-- in every run, of each post
abbrev pub RunsAreLateByHearing : Codecs → Type 0
RunsAreLateByHearing c = (site : SitePlan) (past : List Entry) (posts before : List Post) (post : Post) (behind : List Post)
    → IsRun c site past posts → posts ≡ before ++ post ∷ behind → AreLateByHearing post.plan post.steps
