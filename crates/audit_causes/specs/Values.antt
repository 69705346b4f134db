-- ISO 15118-2:2014, sections 8.7 and 8.8; IEC 61851-1 and IEC 61851-23: whether an order to open is owed to a post, as a value behind each step.
use Rattle.std.specs.Prelude.{◌≡◌, ◌↔◌, ℕ, Bool, true, false, not, ◌==◌, ◌&&◌, ◌||◌, List, [], ◌∷◌, is_some, IsTrue, ◌⊎◌}
use Rattle.charge_world.specs.declared.entry.Entry.{Entry}
use Rattle.charge_world.specs.declared.entry.Entry.TheVariants as entry
use Rattle.session_words.specs.declared.cause.EndCause.{EndCause}
use Rattle.session_words.specs.declared.plan.PostPlan.{PostPlan}
use Rattle.session_words.specs.declared.plan.SitePlan.{SitePlan}
use Rattle.post_spec.specs.Sessions.{arriving}
use Rattle.post_spec.specs.Steps.{Event, Came, Bytes, Gone, Datagram, Plant, Clock, Over}
use Rattle.told_pasts.specs.Causes.{ComesWith, HasCause, OwesOpen}
use Rattle.told_pasts.specs.Checks.{is_open, IsNewest, AnswersOrHears, OwesAt, OpensAlone}
use Rattle.told_pasts.specs.Site.{ToldPost, IsPostOf}
use Rattle.told_pasts.specs.Spelling.{ToldCodecs}
use Rattle.told_pasts.specs.Steps.{ToldStep, seen_in}
use Rattle.audit_causes.specs.declared.values.CauseValues.{CauseValues}

-- a cause comes with the newest step
abbrev pub Comes : ToldCodecs → PostPlan → List ToldStep → Type 0
Comes c plan steps = (cause : EndCause) × ComesWith c plan steps cause

-- the values behind these steps
pub record AreOf (c : ToldCodecs) (plan : PostPlan) (steps : List ToldStep) (v : CauseValues) : Type 0 where
  pub arrived_is : v.arrived ≡ is_some (arriving (seen_in steps))
  pub caused_is : IsTrue v.caused ↔ HasCause c plan steps
  pub owed_is : IsTrue v.owed ↔ OwesOpen c plan steps

-- ---- a step

-- With it a cause comes, or doesn't; the contactor is live behind it, or isn't. One came in the session before it, and an Open that is owed
-- stays so, or neither.
abbrev pub stepped : Bool → Bool → Bool → Bool → CauseValues → CauseValues
stepped comes live earlier goes_on v = record v {
  caused = comes || earlier;
  owed = (comes && (not earlier && live)) || (goes_on && v.owed);
}

abbrev pub came_in : Event → Bool
came_in (Came token) = true
came_in (Bytes bytes) = false
came_in Gone = false
came_in (Datagram bytes) = false
came_in (Plant event) = false
came_in Clock = false
came_in Over = false

abbrev pub heard_by : Bool → Bool → Bool → CauseValues → CauseValues
heard_by came comes live v = record (stepped comes live (not v.arrived && v.caused) false v) { arrived = came }

-- ---- the third check at a post

-- at an entry, with the past before it and what follows it
abbrev pub Passes : ToldCodecs → SitePlan → List Entry → Entry → List Entry → ℕ → Type 0
Passes c site earlier e behind k =
    (AnswersOrHears k e × OwesAt c site earlier k)
    ⊎ (IsNewest behind × OwesAt c site (e ∷ earlier) k × (OpensAlone k (e ∷ earlier) → ⊥))

-- a post of these steps is post k of a past, and no other is
pub record IsOnly (c : ToldCodecs) (site : SitePlan) (past : List Entry) (k : ℕ) (plan : PostPlan) (steps : List ToldStep) : Type 0 where
  pub is : IsPostOf c site past k (record { plan = plan; steps = steps })
  pub only : (other : ToldPost) → IsPostOf c site past k other → other ≡ record { plan = plan; steps = steps }

-- something is sent to the car of post k, or something is heard
abbrev pub answers_or_hears : ℕ → Entry → Bool
answers_or_hears k (entry.Sent post bytes taken) = post == k
answers_or_hears k (entry.Heard heard bytes) = true
answers_or_hears k other = false

-- off the values before an entry and behind it
abbrev pub passes_by : ℕ → Entry → Bool → Bool → CauseValues → CauseValues → Bool
passes_by k e last alone v later = (answers_or_hears k e && v.owed) || (last && (later.owed && not alone))

-- behind an order of post k to open that failed there are orders to open alone
abbrev pub fails_or : ℕ → Entry → Bool → Bool
fails_or k (entry.Drove post given taken) alone = is_open given && (((post == k) && not taken) || alone)
fails_or k other alone = false

abbrev pub opens_alone : ℕ → List Entry → Bool
opens_alone k [] = false
opens_alone k (e ∷ past) = fails_or k e (opens_alone k past)
