-- IEC 61851-1 and IEC 61851-23; ISO 15118-2:2014, section 8.8: what a trace tells of a site whose contactors were closed only as mandated and
-- opened at the first cause, and whose watts stayed within the limit. It is said of any past, whoever wrote it.
use Rattle.std.specs.Prelude.{◌≡◌, ◌≤◌, ℕ, Bool, true, false, List, ◌∷◌, ◌++◌, Option, ◌⊎◌}
use Rattle.std.specs.List.{list_any, sum_by}
use Rattle.charge_world.specs.declared.entry.Entry.{Entry}
use Rattle.charge_world.specs.declared.entry.Entry.TheVariants as entry
use Rattle.charge_world.specs.declared.ports.Order.TheVariants as order
use Rattle.session_words.specs.declared.plan.SitePlan.{SitePlan}
use Rattle.session_words.specs.declared.phase.Standing.TheVariants.{MustOpen}
use Rattle.post_spec.specs.Contactors.{contactor_acts, standing, live, closed}
use Rattle.post_spec.specs.Steps.{Reading, seen}
use Rattle.told_pasts.specs.Causes.{OwesOpen}
use Rattle.told_pasts.specs.Checks.{is_heard, is_act_of, opens, in_block, before_block, EndsBlock, HasFailedCode, OpensAlone, AnswersOrHears, opened_in_vain, ends_opened}
use Rattle.told_pasts.specs.Mandated.{IsMandated}
use Rattle.told_pasts.specs.Site.{ToldPost, told_of, spelled_of, ArePosts, IsPostOf}
use Rattle.told_pasts.specs.Spelling.{ToldCodecs}
use Rattle.told_pasts.specs.Steps.{Said, ToldStep, Sends}

-- of one post, at each entry of the past
pub record IsSafeAt (c : ToldCodecs) (site : SitePlan) (k : ℕ) (behind : List Entry) (e : Entry) (earlier : List Entry) : Type 0 where
  -- it is ordered closed only where that is mandated
  pub closes : (taken : Bool) (post : ToldPost) → e ≡ entry.Drove k order.Close taken → IsPostOf c site earlier k post → IsMandated c post.plan post.steps
  -- behind each block it is closed only where that is mandated, or an order to open failed
  pub holds : (post : ToldPost) → EndsBlock behind (e ∷ earlier) → IsPostOf c site (e ∷ earlier) k post → closed (seen k (e ∷ earlier)) ≡ true
      → IsMandated c post.plan post.steps ⊎ (opened_in_vain (contactor_acts (seen k (e ∷ earlier))) ≡ true)
  -- the first cause opens it, before anything else is heard or sent
  pub caused : (post : ToldPost) → AnswersOrHears k e → IsPostOf c site earlier k post → OwesOpen c post.plan post.steps → ⊥
  -- where its last order of a block failed, the next block begins with an order to open
  pub again : is_act_of k e ≡ true → list_any is_heard earlier ≡ true → list_any (is_act_of k) (in_block earlier) ≡ false
      → standing (seen k (before_block earlier)) ≡ MustOpen → opens e ≡ true
  pub opened : EndsBlock behind (e ∷ earlier) → standing (seen k (before_block (e ∷ earlier))) ≡ MustOpen
      → list_any (is_act_of k) (in_block (e ∷ earlier)) ≡ true
  -- while it is live no FAILED reply is sent
  pub fails : (bytes : List ℕ) (taken : Bool) (post : ToldPost) (reading : Option Reading) (said : Said) (steps : List ToldStep)
      → e ≡ entry.Sent k bytes taken → IsPostOf c site (e ∷ earlier) k post → post.steps ≡ Sends reading bytes taken said ∷ steps
      → HasFailedCode said → live (seen k earlier) ≡ false

-- and at the end it is ordered open
pub record IsSafePost (c : ToldCodecs) (site : SitePlan) (k : ℕ) (past : List Entry) : Type 0 where
  pub each : (behind : List Entry) (e : Entry) (earlier : List Entry) → past ≡ behind ++ e ∷ earlier → IsSafeAt c site k behind e earlier
  pub caused : (post : ToldPost) → IsPostOf c site past k post → OwesOpen c post.plan post.steps → OpensAlone k past
  pub ends : live (seen k past) ≡ true → ends_opened k past ≡ true

abbrev pub IsSafe : ToldCodecs → SitePlan → List Entry → Type 0
IsSafe c site past = (k : ℕ) (post : ToldPost) → IsPostOf c site past k post → IsSafePost c site k past

-- after every entry the watts that the last replies spell, and those told, add up to at most the limit
abbrev pub IsWithin : ToldCodecs → SitePlan → List Entry → Type 0
IsWithin c site past = (behind earlier : List Entry) (posts : List ToldPost) → past ≡ behind ++ earlier → ArePosts c site earlier posts
    → (sum_by spelled_of posts ≤ site.limit) × (sum_by told_of posts ≤ site.limit)
