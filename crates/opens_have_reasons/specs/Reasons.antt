-- IEC 61851-1, annex A, and IEC 61851-23; ISO 15118-2:2014, section 8.8: why a contactor is ordered open, and that every cause opens it.
use Rattle.std.specs.Prelude.{◌≡◌, true, List, [], ◌∷◌, ◌++◌, map, Option, ◌⊎◌}
use Rattle.charge_world.specs.declared.entry.Entry.{Entry}
use Rattle.charge_world.specs.declared.ports.Order.TheVariants as order
use Rattle.session_words.specs.declared.cause.EndCause.{EndCause}
use Rattle.session_words.specs.declared.plan.PostPlan.{PostPlan}
use Rattle.session_words.specs.declared.plan.SitePlan.{SitePlan}
use Rattle.post_spec.specs.Causes.{IsCause}
use Rattle.post_spec.specs.Codecs.{Codecs}
use Rattle.post_spec.specs.Contactors.{live}
use Rattle.post_spec.specs.Spelled.{ReadsBack, AreDetermined, JudgesAll}
use Rattle.post_spec.specs.Steps.{Act, Give, Reading, Step, Hears, Does, seen_of}
use Rattle.station_spec.specs.Sharing.{Post}
use Rattle.station_spec.specs.Runs.{Rests, IsRun}
use Rattle.coming_causes_open.specs.Causing.{Repeats, WasAsked, IsOpening}
use Rattle.standing_causes_open.specs.Standing.{HasCome, CameBefore}

-- an order to open behind these steps: it repeats one that failed, or the car asked for it, or what ends the session came, there or before in the block
abbrev pub IsReasoned : Codecs → PostPlan → Option Reading → Act → List Step → Type 0
IsReasoned c plan reading (Give order.Open) steps = Repeats steps ⊎ (WasAsked plan steps reading ⊎ (HasCome c plan steps ⊎ CameBefore c plan steps))
IsReasoned c plan reading act steps = Unit {0}

abbrev pub AreReasoned : Codecs → PostPlan → List Step → Type 0
AreReasoned c plan [] = Unit {0}
AreReasoned c plan (Hears at event ∷ steps) = AreReasoned c plan steps
AreReasoned c plan (Does reading act taken ∷ steps) = AreReasoned c plan steps × IsReasoned c plan reading act steps

-- in every run, of each post
abbrev pub RunsOpenForReasons : Codecs → Type 0
RunsOpenForReasons c = (site : SitePlan) (past : List Entry) (posts before : List Post) (post : Post) (behind : List Post)
    → ReadsBack c → AreDetermined c → JudgesAll c → IsRun c site past posts → posts ≡ before ++ post ∷ behind → AreReasoned c post.plan post.steps

-- anything that ends the session stands while the contactor is live, and nothing came before in the block
pub record Stands (c : Codecs) (plan : PostPlan) (steps : List Step) : Type 0 where
  pub cause : EndCause
  pub is : IsCause c plan steps cause
  pub live_is : live (map seen_of steps) ≡ true
  pub none_before : CameBefore c plan steps → ⊥

-- the step behind it is an order to open
abbrev pub OpenWhereStanding : Codecs → PostPlan → List Step → Type 0
OpenWhereStanding c plan [] = Unit {0}
OpenWhereStanding c plan (step ∷ steps) = OpenWhereStanding c plan steps × (Stands c plan steps → IsOpening step)

-- in every run, of each post; and no whole block ends where a cause stands
abbrev pub EveryCauseOpens : Codecs → Type 0
EveryCauseOpens c = (site : SitePlan) (past : List Entry) (posts before : List Post) (post : Post) (behind : List Post)
    → ReadsBack c → AreDetermined c → JudgesAll c → IsRun c site past posts → posts ≡ before ++ post ∷ behind
    → OpenWhereStanding c post.plan post.steps × (Rests post → Stands c post.plan post.steps → ⊥)
