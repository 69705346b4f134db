-- Own: the runs of a site. Each entry follows from those before it: a hearing behind a whole block, else what the first post that has
-- something to do does next.
use Rattle.std.specs.Prelude.{◌≡◌, ◌<◌, ℕ, suc, ◌+◌, length, map, max, Bool, true, false, List, [], ◌∷◌, ◌++◌, Option, ◌⊎◌, MatchBool}
use Rattle.std.specs.List.{AllByRecursion}
use Rattle.charge_world.specs.declared.entry.Entry.{Entry}
use Rattle.charge_world.specs.declared.entry.Entry.TheVariants as entry
use Rattle.charge_world.specs.declared.heard.Heard.{Heard}
use Rattle.charge_world.specs.declared.ports.Order.TheVariants as order
use Rattle.charge_world.specs.Outside.{IsOfPosts}
use Rattle.session_words.specs.declared.plan.PostPlan.{PostPlan}
use Rattle.session_words.specs.declared.plan.SitePlan.{SitePlan}
use Rattle.post_spec.specs.Codecs.{Codecs}
use Rattle.post_spec.specs.Steps.{Act, Give, Send, Answer, End, Step, Hears, Does, Reading, moment, event_at}
use Rattle.station_spec.specs.Next.{IsQuiet, Acts}
use Rattle.station_spec.specs.Sharing.{Post, state_of, Shows}
use Rattle.station_spec.specs.Blocks.{is_last, hearings, IsHearing}

-- the entry of an act of post k
abbrev pub entry_of : ℕ → Act → Bool → Entry
entry_of k (Give order) taken = entry.Drove k order taken
entry_of k (Send bytes) taken = entry.Sent k bytes taken
entry_of k (Answer bytes) taken = entry.Answered k bytes taken
entry_of k (End cause) taken = entry.Ended k cause

-- In what follows `posts` are the posts of the site, in order of number.

abbrev pub with_step : Step → Post → Post
with_step step post = record post { steps = step ∷ post.steps }

abbrev pub unheard : PostPlan → Post
unheard plan = record { plan = plan; steps = [] }

-- a hearing at this moment, as the posts from k on hear it
abbrev pub heard_from : ℕ → ℕ → Heard → List ℕ → List Post → List Post
heard_from k at heard bytes [] = []
heard_from k at heard bytes (post ∷ posts) =
    with_step (Hears at (event_at k heard.what bytes)) post ∷ heard_from (suc k) at heard bytes posts

-- a post has nothing to do
abbrev pub Rests : Post → Type 0
Rests post = IsQuiet post.plan (state_of post)

abbrev pub AreQuiet : List Post → Type 0
AreQuiet = AllByRecursion Rests

-- what a hearing makes of the posts. A lost one is heard by none
abbrev pub HeardBy : List Entry → List Post → Entry → List Post → Type 0
HeardBy past posts (entry.Heard heard bytes) later =
    IsOfPosts (length posts) heard.what × IsHearing heard bytes × (later ≡ heard_from 1 (max (moment past) heard.at) heard bytes posts)
HeardBy past posts entry.Lost later = later ≡ posts
HeardBy past posts (entry.Sent post bytes taken) later = ⊥
HeardBy past posts (entry.Answered post bytes taken) later = ⊥
HeardBy past posts (entry.Drove post order taken) later = ⊥
HeardBy past posts (entry.Dialed port taken) later = ⊥
HeardBy past posts (entry.Ended post cause) later = ⊥

-- a hearing, behind a whole block
pub record MayHear (turns : ℕ) (past : List Entry) (posts : List Post) (e : Entry) (later : List Post) : Type 0 where
  pub whole : AreQuiet posts
  pub goes_on : is_last past ≡ false
  pub turns_left : hearings past < turns
  pub heard : HeardBy past posts e later

-- an act of the first post that has something to do
pub record MayAct (c : Codecs) (limit : ℕ) (posts : List Post) (e : Entry) (later : List Post) : Type 0 where
  pub before : List Post
  pub post : Post
  pub behind : List Post
  pub posts_are : posts ≡ before ++ post ∷ behind
  pub first : AreQuiet before
  pub reading : Option Reading
  pub act : Act
  pub taken : Bool
  pub acts : Acts c post.plan (Shows limit before behind) (state_of post) reading act taken
  pub entry_is : e ≡ entry_of (length before + 1) act taken
  pub later_is : later ≡ before ++ with_step (Does reading act taken) post ∷ behind

abbrev pub Follows : Codecs → SitePlan → List Entry → List Post → Entry → List Post → Type 0
Follows c site past posts e later = MayHear site.turns past posts e later ⊎ MayAct c site.limit posts e later

-- a past and what the posts of the site made of it: each entry follows from those before it
abbrev pub IsRun : Codecs → SitePlan → List Entry → List Post → Type 0
IsRun c site [] posts = posts ≡ map unheard site.post.items
IsRun c site (e ∷ past) later = (posts : List Post) × IsRun c site past posts × Follows c site past posts e later

-- the orders that close a run, on top of its blocks: one Open for each post from k on that is live, in order of number
abbrev pub Closes : ℕ → List Post → List Entry → List Entry → Type 0
Closes k [] blocks past = past ≡ blocks
Closes k (post ∷ posts) blocks past =
    MatchBool (state_of post).live
    ((taken : Bool) × Closes (suc k) posts (entry.Drove k order.Open taken ∷ blocks) past)
    (Closes (suc k) posts blocks past)

-- how the blocks of a run end: with Over or a lost hearing, at the last turn, or before the first hearing
abbrev pub IsEnded : ℕ → List Entry → Type 0
IsEnded turns blocks = (is_last blocks ≡ true) ⊎ ((hearings blocks ≡ turns) ⊎ (blocks ≡ []))

-- a whole run of a site
pub record IsSiteRun (c : Codecs) (site : SitePlan) (past : List Entry) : Type 0 where
  pub blocks : List Entry
  pub posts : List Post
  pub run : IsRun c site blocks posts
  pub whole : AreQuiet posts
  pub ended : IsEnded site.turns blocks
  pub closes : Closes 1 posts blocks past

-- a run that is cut where an entry couldn't be written to the trace: the rest of the hearing is dropped, and the closing orders follow
pub record IsCutRun (c : Codecs) (site : SitePlan) (past : List Entry) : Type 0 where
  pub blocks : List Entry
  pub posts : List Post
  pub run : IsRun c site blocks posts
  pub closes : Closes 1 posts blocks past
