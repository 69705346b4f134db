-- IEC 61851-1, annex A, and IEC 61851-23; ISO 15118-2:2014, section 8.8: what ends a session opens a live contactor before anything else
-- is heard, and before anything is sent.
use Rattle.std.specs.Prelude.{◌≡◌, ℕ, ◌+◌, Bool, true, false, List, [], ◌∷◌, ◌++◌, length, map, Option, Some, ◌⊎◌}
use Rattle.charge_world.specs.declared.entry.Entry.{Entry}
use Rattle.charge_world.specs.declared.ports.Order.TheVariants as order
use Rattle.session_words.specs.declared.cause.EndCause.{EndCause}
use Rattle.session_words.specs.declared.plan.PostPlan.{PostPlan}
use Rattle.session_words.specs.declared.plan.SitePlan.{SitePlan}
use Rattle.session_words.specs.declared.word.Request.{Request}
use Rattle.session_rules.specs.Verdict.{verdict, is_accepted}
use Rattle.post_spec.specs.Causes.{IsCause, IsDue, IsTold, HasLeft, HasCome, IsOver, HasNotSent, HasNotDriven, HasNoMatch, IsWord}
use Rattle.post_spec.specs.Codecs.{Asked, Codecs}
use Rattle.post_spec.specs.Course.{Talked, course, facts_of}
use Rattle.post_spec.specs.Contactors.{live}
use Rattle.post_spec.specs.Kinds.{asks_opening}
use Rattle.post_spec.specs.Spelled.{ReadsBack, AreDetermined}
use Rattle.post_spec.specs.Steps.{Bytes, Act, Give, Send, Did, Reading, Step, Hears, Does, seen, seen_of}
use Rattle.station_spec.specs.Sharing.{Post}
use Rattle.station_spec.specs.Runs.{Rests, IsRun, Closes}
use Rattle.safe_runs.specs.Opening.{HasFailed}

-- Where a cause comes: a deadline is reached as a hearing tells of its moment; a word is next from the bytes on that brought it, from the
-- reply on to the word before it, or from the Close on behind whose Start none may come; any other is what was heard or done last.
abbrev pub IsHeard : List Step → Type 0
IsHeard [] = ⊥
IsHeard (Hears at event ∷ steps) = Unit {0}
IsHeard (Does reading act taken ∷ steps) = ⊥

abbrev pub IsNext : List Step → Type 0
IsNext [] = ⊥
IsNext (Hears at (Bytes bytes) ∷ steps) = Unit {0}
IsNext (Hears at event ∷ steps) = ⊥
IsNext (Does reading (Send bytes) true ∷ steps) = Unit {0}
IsNext (Does reading (Give order.Close) true ∷ steps) = Unit {0}
IsNext (Does reading act taken ∷ steps) = ⊥

abbrev pub Comes : (c : Codecs) (plan : PostPlan) (steps : List Step) (cause : EndCause) → IsCause c plan steps cause → Type 0
Comes c plan steps cause (IsDue before t es course_is session_is reached bound) = IsHeard before
Comes c plan steps cause (IsWord before t es words rest word it course_is session_is heard next judged) = IsNext before
Comes c plan steps cause (IsTold at event before t it session_is told) = Unit {0}
Comes c plan steps cause (HasLeft at before es session_is) = Unit {0}
Comes c plan steps cause (HasCome at token before es session_is) = Unit {0}
Comes c plan steps cause (IsOver at before es session_is) = Unit {0}
Comes c plan steps cause (HasNotSent reading bytes before es session_is) = Unit {0}
Comes c plan steps cause (HasNotDriven reading order before es session_is) = Unit {0}
Comes c plan steps cause (HasNoMatch reading bytes before talks) = Unit {0}

-- An order to open may itself fail. It is that of an earlier cause, whose session ends then, but where it repeated one that had failed,
-- or where the car asked to stop or to negotiate anew, and that was accepted.
abbrev pub Repeats : List Step → Type 0
Repeats [] = ⊥
Repeats (Hears at event ∷ steps) = HasFailed (map seen_of steps)
Repeats (Does reading act taken ∷ steps) = ⊥

pub record WasAsked (plan : PostPlan) (steps : List Step) (reading : Option Reading) : Type 0 where
  pub talked : Talked
  pub request : Request
  pub shown : ℕ
  pub session_is : (course plan steps).session ≡ Some talked
  pub reading_is : reading ≡ Some (record { judged = Asked request; shown = shown })
  pub accepted : is_accepted (verdict talked.stage (facts_of (map seen_of steps) (course plan steps)) plan request) ≡ true
  pub opening : asks_opening request.ask ≡ true

abbrev pub IsFirstBehind : PostPlan → Option Reading → Act → Bool → List Step → Type 0
IsFirstBehind plan reading (Give order.Open) false steps = Repeats steps ⊎ WasAsked plan steps reading
IsFirstBehind plan reading act taken steps = Unit {0}

abbrev pub IsFirst : PostPlan → List Step → Type 0
IsFirst plan [] = Unit {0}
IsFirst plan (Hears at event ∷ steps) = Unit {0}
IsFirst plan (Does reading act taken ∷ steps) = IsFirstBehind plan reading act taken steps

-- a cause comes behind these steps, while the contactor is live, in a session that had none
pub record HasCause (c : Codecs) (plan : PostPlan) (steps : List Step) : Type 0 where
  pub cause : EndCause
  pub is : IsCause c plan steps cause
  pub comes : Comes c plan steps cause is
  pub live_is : live (map seen_of steps) ≡ true
  pub first : IsFirst plan steps

abbrev pub IsOpening : Step → Type 0
IsOpening step = (reading : Option Reading) × (taken : Bool) × (step ≡ Does reading (Give order.Open) taken)

-- the step behind it is an order to open
abbrev pub OpenAtCauses : Codecs → PostPlan → List Step → Type 0
OpenAtCauses c plan [] = Unit {0}
OpenAtCauses c plan (step ∷ steps) = OpenAtCauses c plan steps × (HasCause c plan steps → IsOpening step)

-- in every run, of each post; and no whole block ends at a cause
abbrev pub RunsOpenAtCauses : Codecs → Type 0
RunsOpenAtCauses c = (site : SitePlan) (past : List Entry) (posts before : List Post) (post : Post) (behind : List Post)
    → ReadsBack c → AreDetermined c → IsRun c site past posts → posts ≡ before ++ post ∷ behind
    → OpenAtCauses c post.plan post.steps × (Rests post → HasCause c post.plan post.steps → ⊥)

-- where a run, whole or cut, ends at a cause of any kind, it is closed by an order to open that contactor
abbrev pub RunsEndAtCauses : Codecs → Type 0
RunsEndAtCauses c = (site : SitePlan) (past blocks : List Entry) (posts before : List Post) (post : Post) (behind : List Post) (cause : EndCause)
    → IsRun c site blocks posts → Closes 1 posts blocks past → posts ≡ before ++ post ∷ behind
    → IsCause c post.plan post.steps cause → live (map seen_of post.steps) ≡ true
    → (taken : Bool) × (seen (length before + 1) past ≡ Did (Give order.Open) taken ∷ seen (length before + 1) blocks)
