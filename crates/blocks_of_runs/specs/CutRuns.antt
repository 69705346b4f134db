-- Own: a run that stops at any entry, as a list of blocks, and the law that runs and blocks say the same.
use Rattle.std.specs.Prelude.{◌⊎◌, ◌≡◌, ◌<◌, ℕ, ◌+◌, false, List, [], ◌∷◌, ◌++◌, length}
use Rattle.charge_world.specs.declared.entry.Entry.{Entry}
use Rattle.charge_world.specs.declared.entry.Entry.TheVariants as entry
use Rattle.charge_world.specs.declared.heard.Heard.{Heard}
use Rattle.session_words.specs.declared.plan.PostPlan.{PostPlan}
use Rattle.session_words.specs.declared.plan.SitePlan.{SitePlan}
use Rattle.post_spec.specs.Codecs.{Codecs}
use Rattle.post_spec.specs.Steps.{Step, Does}
use Rattle.station_spec.specs.Acting.{state}
use Rattle.station_spec.specs.Next.{Acts}
use Rattle.station_spec.specs.Blocks.{is_last, hearings}
use Rattle.station_spec.specs.Sharing.{Post, Shows}
use Rattle.station_spec.specs.Runs.{HeardBy, IsRun, Closes, IsSiteRun, IsCutRun}
use Rattle.blocks_of_runs.specs.Answers.{Move, Answers}
use Rattle.blocks_of_runs.specs.BlockRuns.{past_behind, with_moves, AreBlocks, AreSame, IsBlockRun}
use Rattle.blocks_of_runs.specs.Stops.{Stops}

-- moves that a post made one after another, whether more is left for it to do or not
abbrev pub AreMade : Codecs → PostPlan → (ℕ → ℕ → Type 0) → List Step → List Move → Type 0
AreMade c plan Shows steps [] = Unit {0}
AreMade c plan Shows steps (m ∷ moves) =
    Acts c plan Shows (state plan steps) m.reading m.act m.taken × AreMade c plan Shows (Does m.reading m.act m.taken ∷ steps) moves

-- the posts up to some one have answered, that one has made some moves, in whole parts up to the one in which it stops, and those behind
-- it have done nothing yet
abbrev pub AreBegun : Codecs → ℕ → List Post → List Post → List Entry → List Post → List Entry → Type 0
AreBegun c limit before [] past answered later = (answered ≡ before) × (later ≡ past)
AreBegun c limit before (post ∷ posts) past answered later =
    ((moves : List Move) × Answers c post.plan (Shows limit before posts) post.steps moves
    × AreBegun c limit (before ++ with_moves moves post ∷ []) posts (past_behind (length before + 1) moves past) answered later)
    ⊎ ((moves : List Move) × AreMade c post.plan (Shows limit before posts) post.steps moves
    × Stops c post.plan (Shows limit before posts) post.steps moves
    × (answered ≡ before ++ with_moves moves post ∷ posts) × (later ≡ past_behind (length before + 1) moves past))

-- the last block of such a past, and the whole blocks before it
pub record IsLastBlock (c : Codecs) (site : SitePlan) (past : List Entry) (posts : List Post) : Type 0 where
  pub at : Heard
  pub bytes : List ℕ
  pub heard : List Entry
  pub earlier : List Entry
  pub before : List Post
  pub are : AreBlocks c site heard earlier before
  pub goes_on : is_last earlier ≡ false
  pub turns_left : hearings earlier < site.turns
  pub hearing : List Post
  pub heard_by : HeardBy earlier before (entry.Heard at bytes) hearing
  pub begun : AreBegun c site.limit [] hearing (entry.Heard at bytes ∷ earlier) posts past

-- blocks that stop at any entry: whole ones, or whole ones and one that may have stopped
abbrev pub StopInBlocks : Codecs → SitePlan → List Entry → List Post → Type 0
StopInBlocks c site past posts = ((heard : List Entry) × AreBlocks c site heard past posts) ⊎ IsLastBlock c site past posts

pub record AreCut (c : Codecs) (site : SitePlan) (past : List Entry) (posts : List Post) : Type 0 where
  pub to_blocks : IsRun c site past posts → StopInBlocks c site past posts
  pub to_run : StopInBlocks c site past posts → IsRun c site past posts

-- a run that is cut where an entry couldn't be written to the trace, in blocks
pub record IsCutInBlocks (c : Codecs) (site : SitePlan) (past : List Entry) : Type 0 where
  pub blocks : List Entry
  pub posts : List Post
  pub stop : StopInBlocks c site blocks posts
  pub closes : Closes 1 posts blocks past

pub record RunsAreBlocks (c : Codecs) : Type 0 where
  pub pasts : (site : SitePlan) (past : List Entry) (posts : List Post) → AreSame c site past posts
  pub cut : (site : SitePlan) (past : List Entry) (posts : List Post) → AreCut c site past posts
  pub whole_to_blocks : (site : SitePlan) (past : List Entry) → IsSiteRun c site past → IsBlockRun c site past
  pub whole_to_run : (site : SitePlan) (past : List Entry) → IsBlockRun c site past → IsSiteRun c site past
  pub cut_to_blocks : (site : SitePlan) (past : List Entry) → IsCutRun c site past → IsCutInBlocks c site past
  pub cut_to_run : (site : SitePlan) (past : List Entry) → IsCutInBlocks c site past → IsCutRun c site past
