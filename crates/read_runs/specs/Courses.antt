-- Own: what a post keeps of its session is where the words of its past have led it.
use Rattle.std.specs.Prelude.{◌≡◌, List, map, Option, Some, None}
use Rattle.session_words.specs.declared.plan.PostPlan.{PostPlan}
use Rattle.post_spec.specs.Codecs.{Codecs}
use Rattle.post_spec.specs.Course.{Talked, course, facts_of, ask, told, allowed, allowed_in}
use Rattle.post_spec.specs.Steps.{Step, seen_of}
use Rattle.station_spec.specs.States.{Session, State}
use Rattle.station_spec.specs.Acting.{state}
use Rattle.station_spec.specs.Sharing.{asked_in, told_in}
use Rattle.station_laws.specs.PostRuns.{IsPostRun}

-- of a session that a post keeps: its stage, the watts that it asks for, and those that stay allowed
abbrev pub talked_of : Session → Talked
talked_of session = record { stage = session.stage; asked = session.asked; lowered = session.lowered }

abbrev pub talked_in : Option Session → Option Talked
talked_in None = None
talked_in (Some session) = Some (talked_of session)

pub record IsCourse (plan : PostPlan) (steps : List Step) (s : State) : Type 0 where
  pub session_is : talked_in s.session ≡ (course plan steps).session
  pub asked_is : asked_in s.session ≡ ask plan steps
  pub told_is : told_in s.session ≡ told plan steps
  pub allowed_is : allowed_in (talked_in s.session) s.clock ≡ allowed plan steps
  pub facts_are : s.facts ≡ facts_of (map seen_of steps) (course plan steps)

-- behind the steps of a post in a run
abbrev pub CoursesAreRead : Codecs → Type 0
CoursesAreRead c = (plan : PostPlan) (steps : List Step) → IsPostRun c plan steps → IsCourse plan steps (state plan steps)
