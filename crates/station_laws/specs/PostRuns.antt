-- Own: what one post goes by in a run: each hearing comes when it has nothing to do, and each act is what it does next.
use Rattle.std.specs.Prelude.{◌≡◌, ℕ, suc, List, [], ◌∷◌, map}
use Rattle.charge_world.specs.declared.entry.Entry.{Entry}
use Rattle.session_words.specs.declared.plan.PostPlan.{PostPlan}
use Rattle.session_words.specs.declared.plan.SitePlan.{SitePlan}
use Rattle.station_spec.specs.Codecs.{Codecs}
use Rattle.station_spec.specs.Steps.{Step, Hears, Does, seen, seen_of}
use Rattle.station_spec.specs.Acting.{state}
use Rattle.station_spec.specs.Next.{IsQuiet, Acts}
use Rattle.station_spec.specs.Sharing.{Post, Shows}
use Rattle.station_spec.specs.Runs.{IsRun}

abbrev pub IsPostRun : Codecs → PostPlan → List Step → Type 0
IsPostRun c plan [] = Unit {0}
IsPostRun c plan (Hears at event ∷ steps) = IsPostRun c plan steps × IsQuiet plan (state plan steps)
IsPostRun c plan (Does reading act taken ∷ steps) =
    IsPostRun c plan steps
    × ((limit : ℕ) × (before : List Post) × (behind : List Post) × Acts c plan (Shows limit before behind) (state plan steps) reading act taken)

-- the steps of post k are a run of that post, and what the past shows of it
pub record IsPostOf (c : Codecs) (past : List Entry) (k : ℕ) (post : Post) : Type 0 where
  pub run : IsPostRun c post.plan post.steps
  pub seen_is : seen k past ≡ map seen_of post.steps

-- so of each post, from number k on
abbrev pub ArePostsOf : Codecs → List Entry → ℕ → List Post → Type 0
ArePostsOf c past k [] = Unit {0}
ArePostsOf c past k (post ∷ posts) = IsPostOf c past k post × ArePostsOf c past (suc k) posts

-- behind every run
abbrev pub RunsArePostRuns : Codecs → Type 0
RunsArePostRuns c = (site : SitePlan) (past : List Entry) (posts : List Post) → IsRun c site past posts → ArePostsOf c past 1 posts
