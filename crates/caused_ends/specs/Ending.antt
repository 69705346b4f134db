-- ISO 15118-2:2014, sections 8.7 and 8.8, and own: each end of a session has its cause, and each cause ends its session, in that hearing.
use Rattle.std.specs.Prelude.{◌≡◌, ℕ, List, [], ◌∷◌, ◌++◌, ◌⊎◌}
use Rattle.charge_world.specs.declared.entry.Entry.{Entry}
use Rattle.session_words.specs.declared.cause.EndCause.{EndCause}
use Rattle.session_words.specs.declared.plan.PostPlan.{PostPlan}
use Rattle.session_words.specs.declared.plan.SitePlan.{SitePlan}
use Rattle.session_words.specs.Causes.{number_of}
use Rattle.post_spec.specs.Codecs.{Codecs}
use Rattle.post_spec.specs.Spelled.{AreDetermined}
use Rattle.post_spec.specs.Steps.{Act, Give, Send, Answer, End, Step, Hears, Does}
use Rattle.station_spec.specs.Sharing.{Post}
use Rattle.station_spec.specs.Runs.{Rests, IsRun}
use Rattle.caused_ends.specs.Applying.{Applies}

-- the first cause of a session: one that came before, or where none did one that applies here
abbrev pub IsFirst : (EndCause → Type 0) → (EndCause → Type 0) → EndCause → Type 0
IsFirst Came Applies cause = Came cause ⊎ (Applies cause × ((earlier : EndCause) → Came earlier → ⊥))

-- the session's first cause, where it came before the newest step, in the block that the newest hearing begins
abbrev pub CameAct : Act → (EndCause → Type 0) → EndCause → Type 0
CameAct (Give order) First cause = First cause
CameAct (Send bytes) First cause = First cause
CameAct (Answer bytes) First cause = First cause
CameAct (End number) First cause = ⊥

abbrev pub HasCome : Codecs → PostPlan → List Step → EndCause → Type 0
HasCome c plan [] cause = ⊥
HasCome c plan (Hears at event ∷ steps) cause = ⊥
HasCome c plan (Does reading act taken ∷ steps) cause = CameAct act (IsFirst (λ k. HasCome c plan steps k) (Applies c plan steps)) cause

-- the first cause that applied in the session that stands there, in this block
abbrev pub FirstCause : Codecs → PostPlan → List Step → EndCause → Type 0
FirstCause c plan steps cause = IsFirst (HasCome c plan steps) (Applies c plan steps) cause

-- a session ends by the number of its first cause, and there is no other
pub record IsCaused (c : Codecs) (plan : PostPlan) (number : ℕ) (steps : List Step) : Type 0 where
  pub cause : EndCause
  pub first : FirstCause c plan steps cause
  pub only : (other : EndCause) → FirstCause c plan steps other → other ≡ cause
  pub number_is : number ≡ number_of cause

-- behind a whole block no session stands that has a cause
abbrev pub HasNoCause : Codecs → PostPlan → List Step → Type 0
HasNoCause c plan steps = (cause : EndCause) → FirstCause c plan steps cause → ⊥

abbrev pub EndsAct : Codecs → PostPlan → Act → List Step → Type 0
EndsAct c plan (Give order) steps = Unit {0}
EndsAct c plan (Send bytes) steps = Unit {0}
EndsAct c plan (Answer bytes) steps = Unit {0}
EndsAct c plan (End number) steps = IsCaused c plan number steps

-- each end has its cause, the first that applied in its session; and where a cause applies nothing more is heard until the session has ended
abbrev pub EndByCauses : Codecs → PostPlan → List Step → Type 0
EndByCauses c plan [] = Unit {0}
EndByCauses c plan (Hears at event ∷ steps) = EndByCauses c plan steps × HasNoCause c plan steps
EndByCauses c plan (Does reading act taken ∷ steps) = EndByCauses c plan steps × EndsAct c plan act steps

-- in every run, of each post; and where it has nothing left to do
abbrev pub RunsEndByCauses : Codecs → Type 0
RunsEndByCauses c = (site : SitePlan) (past : List Entry) (posts before : List Post) (post : Post) (behind : List Post)
    → AreDetermined c → IsRun c site past posts → posts ≡ before ++ post ∷ behind
    → EndByCauses c post.plan post.steps × (Rests post → HasNoCause c post.plan post.steps)
