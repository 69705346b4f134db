-- IEC 61851-1, annex A, and IEC 61851-23; ISO 15118-2:2014, section 8.8: wherever what ends a session stands for the first time, it opens
-- a live contactor before anything else is heard, and before anything is sent.
use Rattle.std.specs.Prelude.{◌≡◌, true, List, [], ◌∷◌, ◌++◌, map, ◌⊎◌}
use Rattle.charge_world.specs.declared.entry.Entry.{Entry}
use Rattle.session_words.specs.declared.cause.EndCause.{EndCause}
use Rattle.session_words.specs.declared.plan.PostPlan.{PostPlan}
use Rattle.session_words.specs.declared.plan.SitePlan.{SitePlan}
use Rattle.post_spec.specs.Causes.{IsCause}
use Rattle.post_spec.specs.Codecs.{Codecs}
use Rattle.post_spec.specs.Contactors.{live}
use Rattle.post_spec.specs.Spelled.{ReadsBack, AreDetermined}
use Rattle.post_spec.specs.Steps.{End, Step, Hears, Does, seen_of}
use Rattle.station_spec.specs.Sharing.{Post}
use Rattle.station_spec.specs.Runs.{Rests, IsRun}
use Rattle.coming_causes_open.specs.Causing.{Comes, IsFirst, IsOpening}

-- what ends the session comes behind these steps
pub record HasCome (c : Codecs) (plan : PostPlan) (steps : List Step) : Type 0 where
  pub cause : EndCause
  pub is : IsCause c plan steps cause
  pub comes : Comes c plan steps cause is

-- or one came earlier in this block, which a hearing begins, and in this session, which its end ends
abbrev pub CameBefore : Codecs → PostPlan → List Step → Type 0
CameBefore c plan [] = ⊥
CameBefore c plan (Hears at event ∷ steps) = ⊥
CameBefore c plan (Does reading (End cause) taken ∷ steps) = ⊥
CameBefore c plan (Does reading act taken ∷ steps) = HasCome c plan steps ⊎ CameBefore c plan steps

-- a cause that stands behind any part of a run, while the contactor is live, came there, or one came before in the block
abbrev pub IsCome : Codecs → PostPlan → List Step → Type 0
IsCome c plan steps =
    (cause : EndCause) → IsCause c plan steps cause → live (map seen_of steps) ≡ true → HasCome c plan steps ⊎ CameBefore c plan steps

abbrev pub HaveCome : Codecs → PostPlan → List Step → Type 0
HaveCome c plan [] = IsCome c plan []
HaveCome c plan (step ∷ steps) = HaveCome c plan steps × IsCome c plan (step ∷ steps)

-- in every run, of each post
abbrev pub RunsHaveCome : Codecs → Type 0
RunsHaveCome c = (site : SitePlan) (past : List Entry) (posts before : List Post) (post : Post) (behind : List Post)
    → ReadsBack c → AreDetermined c → IsRun c site past posts → posts ≡ before ++ post ∷ behind → HaveCome c post.plan post.steps

-- A cause stands while the contactor is live, and none came before in its block. What is read off the next word again, once its first
-- act was done, is none: that act is the Open of an accepted PowerDelivery, behind which the contactor isn't live, that of a cause,
-- which came before, or an order on the outlet, behind which the word is accepted again.
pub record StandsFirst (c : Codecs) (plan : PostPlan) (steps : List Step) : Type 0 where
  pub cause : EndCause
  pub is : IsCause c plan steps cause
  pub live_is : live (map seen_of steps) ≡ true
  pub none_before : CameBefore c plan steps → ⊥
  pub first : IsFirst plan steps

-- the step behind it is an order to open
abbrev pub OpenAtFirst : Codecs → PostPlan → List Step → Type 0
OpenAtFirst c plan [] = Unit {0}
OpenAtFirst c plan (step ∷ steps) = OpenAtFirst c plan steps × (StandsFirst c plan steps → IsOpening step)

-- in every run, of each post; and no whole block ends where a cause stands
abbrev pub CausesOpen : Codecs → Type 0
CausesOpen c = (site : SitePlan) (past : List Entry) (posts before : List Post) (post : Post) (behind : List Post)
    → ReadsBack c → AreDetermined c → IsRun c site past posts → posts ≡ before ++ post ∷ behind
    → OpenAtFirst c post.plan post.steps × (Rests post → StandsFirst c post.plan post.steps → ⊥)
