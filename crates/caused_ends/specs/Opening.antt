-- IEC 61851-1, annex A, and IEC 61851-23; ISO 15118-2:2014, section 8.8: why a contactor is ordered open.
use Rattle.std.specs.Prelude.{◌≡◌, true, List, [], ◌∷◌, ◌++◌, map, Option, ◌⊎◌}
use Rattle.charge_world.specs.declared.entry.Entry.{Entry}
use Rattle.charge_world.specs.declared.ports.Order.TheVariants as order
use Rattle.session_words.specs.declared.cause.EndCause.{EndCause}
use Rattle.session_words.specs.declared.plan.PostPlan.{PostPlan}
use Rattle.session_words.specs.declared.plan.SitePlan.{SitePlan}
use Rattle.post_spec.specs.Codecs.{Codecs}
use Rattle.post_spec.specs.Contactors.{live}
use Rattle.post_spec.specs.Spelled.{AreDetermined}
use Rattle.post_spec.specs.Steps.{Act, Give, Reading, Step, Hears, Does, seen_of}
use Rattle.station_spec.specs.Sharing.{Post}
use Rattle.station_spec.specs.Runs.{IsRun}
use Rattle.coming_causes_open.specs.Causing.{WasAsked, IsOpening}
use Rattle.caused_ends.specs.Applying.{is_owed, Applies}
use Rattle.caused_ends.specs.Ending.{HasCome, FirstCause}

-- an order to open: it repeats one that failed, the car asked for it and that was accepted, or its session has a cause
abbrev pub IsReasoned : Codecs → PostPlan → Option Reading → Act → List Step → Type 0
IsReasoned c plan reading (Give order.Open) steps =
    (is_owed steps ≡ true) ⊎ (WasAsked plan steps reading ⊎ ((cause : EndCause) × FirstCause c plan steps cause))
IsReasoned c plan reading act steps = Unit {0}

abbrev pub AreReasoned : Codecs → PostPlan → List Step → Type 0
AreReasoned c plan [] = Unit {0}
AreReasoned c plan (Hears at event ∷ steps) = AreReasoned c plan steps
AreReasoned c plan (Does reading act taken ∷ steps) = AreReasoned c plan steps × IsReasoned c plan reading act steps

-- in every run, of each post
abbrev pub RunsOpenForReasons : Codecs → Type 0
RunsOpenForReasons c = (site : SitePlan) (past : List Entry) (posts before : List Post) (post : Post) (behind : List Post)
    → AreDetermined c → IsRun c site past posts → posts ≡ before ++ post ∷ behind → AreReasoned c post.plan post.steps

-- a cause applies, and none came before in the session, while the contactor is live
pub record AppliesLive (c : Codecs) (plan : PostPlan) (steps : List Step) : Type 0 where
  pub cause : EndCause
  pub applies : Applies c plan steps cause
  pub none_before : (earlier : EndCause) → HasCome c plan steps earlier → ⊥
  pub live_is : live (map seen_of steps) ≡ true

-- the step behind it is an order to open, before anything is heard or sent
abbrev pub OpenAtFirstCauses : Codecs → PostPlan → List Step → Type 0
OpenAtFirstCauses c plan [] = Unit {0}
OpenAtFirstCauses c plan (step ∷ steps) = OpenAtFirstCauses c plan steps × (AppliesLive c plan steps → IsOpening step)

-- in every run, of each post
abbrev pub RunsOpenFirst : Codecs → Type 0
RunsOpenFirst c = (site : SitePlan) (past : List Entry) (posts before : List Post) (post : Post) (behind : List Post)
    → AreDetermined c → IsRun c site past posts → posts ≡ before ++ post ∷ behind → OpenAtFirstCauses c post.plan post.steps
