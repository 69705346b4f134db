-- Own: a run as a list of blocks. Each is a hearing, and then for every post in order of number its answers.
use Rattle.std.specs.Prelude.{◌≡◌, ◌<◌, ℕ, ◌+◌, false, List, [], ◌∷◌, ◌++◌, length, map}
use Rattle.charge_world.specs.declared.entry.Entry.{Entry}
use Rattle.charge_world.specs.declared.entry.Entry.TheVariants as entry
use Rattle.session_words.specs.declared.plan.SitePlan.{SitePlan}
use Rattle.post_spec.specs.Codecs.{Codecs}
use Rattle.station_spec.specs.Blocks.{is_last, hearings}
use Rattle.station_spec.specs.Sharing.{Post, Shows}
use Rattle.station_spec.specs.Runs.{entry_of, unheard, AreQuiet, HeardBy, IsRun, IsEnded, Closes}
use Rattle.blocks_of_runs.specs.Answers.{Move, behind, Answers}

-- the past behind the moves of post k
abbrev pub past_behind : ℕ → List Move → List Entry → List Entry
past_behind k [] past = past
past_behind k (m ∷ moves) past = past_behind k moves (entry_of k m.act m.taken ∷ past)

abbrev pub with_moves : List Move → Post → Post
with_moves moves post = record { plan = post.plan; steps = behind moves post.steps }

-- AreAnswered c limit before posts past answered later: these posts, behind those that have answered, each answer in turn
abbrev pub AreAnswered : Codecs → ℕ → List Post → List Post → List Entry → List Post → List Entry → Type 0
AreAnswered c limit before [] past answered later = (answered ≡ before) × (later ≡ past)
AreAnswered c limit before (post ∷ posts) past answered later =
    (moves : List Move) × Answers c post.plan (Shows limit before posts) post.steps moves
    × AreAnswered c limit (before ++ with_moves moves post ∷ []) posts (past_behind (length before + 1) moves past) answered later

-- a block that begins with this entry; a lost hearing is heard by none, and nothing answers it
abbrev pub IsBlock : Codecs → ℕ → List Entry → List Post → Entry → List Post → List Entry → Type 0
IsBlock c limit past posts (entry.Heard heard bytes) answered later =
    (hearing : List Post) × HeardBy past posts (entry.Heard heard bytes) hearing
    × AreAnswered c limit [] hearing (entry.Heard heard bytes ∷ past) answered later
IsBlock c limit past posts entry.Lost answered later = (answered ≡ posts) × (later ≡ entry.Lost ∷ past)
IsBlock c limit past posts (entry.Sent post bytes taken) answered later = ⊥
IsBlock c limit past posts (entry.Answered post bytes taken) answered later = ⊥
IsBlock c limit past posts (entry.Drove post order taken) answered later = ⊥
IsBlock c limit past posts (entry.Dialed port taken) answered later = ⊥
IsBlock c limit past posts (entry.Ended post cause) answered later = ⊥

-- blocks that begin with these entries, the newest first
abbrev pub AreBlocks : Codecs → SitePlan → List Entry → List Entry → List Post → Type 0
AreBlocks c site [] past posts = (past ≡ []) × (posts ≡ map unheard site.post.items)
AreBlocks c site (e ∷ heard) past posts =
    (earlier : List Entry) × (before : List Post) × AreBlocks c site heard earlier before
    × (is_last earlier ≡ false) × (hearings earlier < site.turns) × IsBlock c site.limit earlier before e posts past

-- a run is whole blocks exactly where its posts have nothing more to do
pub record AreSame (c : Codecs) (site : SitePlan) (past : List Entry) (posts : List Post) : Type 0 where
  pub to_blocks : IsRun c site past posts → AreQuiet posts → (heard : List Entry) × AreBlocks c site heard past posts
  pub to_run : (heard : List Entry) → AreBlocks c site heard past posts → IsRun c site past posts × AreQuiet posts

-- a whole run of a site, in blocks, with the orders that close it
pub record IsBlockRun (c : Codecs) (site : SitePlan) (past : List Entry) : Type 0 where
  pub blocks : List Entry
  pub posts : List Post
  pub heard : List Entry
  pub are : AreBlocks c site heard blocks posts
  pub ended : IsEnded site.turns blocks
  pub closes : Closes 1 posts blocks past
