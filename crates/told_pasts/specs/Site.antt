-- Own: what the posts of a site went by in a foreign trace.
use Rattle.std.specs.Prelude.{◌≡◌, ℕ, suc, ◌+◌, ◌-◌, max, min, Bool, true, List, [], ◌∷◌, ◌++◌, length, map, Option}
use Rattle.std.specs.List.{sum_by}
use Rattle.charge_world.specs.declared.entry.Entry.{Entry}
use Rattle.charge_world.specs.declared.entry.Entry.TheVariants as entry
use Rattle.session_words.specs.declared.plan.PostPlan.{PostPlan}
use Rattle.session_words.specs.declared.plan.SitePlan.{SitePlan}
use Rattle.power_share.specs.Sharing.{IsLevel}
use Rattle.post_spec.specs.Course.{ask_in, told_in}
use Rattle.post_spec.specs.Steps.{Event, Act, Give, Send, Answer, End, Reading, moment, event_at}
use Rattle.told_pasts.specs.Course.{told_course}
use Rattle.told_pasts.specs.Reading.{IsReading, IsSaid}
use Rattle.told_pasts.specs.Spelling.{ToldCodecs}
use Rattle.told_pasts.specs.Steps.{Said, ToldStep, Hears, Does, Sends, seen_in}
use Rattle.told_pasts.specs.Talk.{spelled}

pub record ToldPost : Type 0 where
  pub plan : PostPlan
  pub steps : List ToldStep

abbrev pub asked_of : ToldPost → ℕ
asked_of post = ask_in (told_course post.plan post.steps).session

abbrev pub told_of : ToldPost → ℕ
told_of post = told_in (told_course post.plan post.steps).session

abbrev pub spelled_of : ToldPost → ℕ
spelled_of post = spelled post.plan post.steps

-- what a post that asks for these watts is shown between those before and behind it: the least of what it asks for, the level, and the
-- limit less what the others were told
pub record Shows (limit : ℕ) (before behind : List ToldPost) (asked shown : ℕ) : Type 0 where
  pub level : ℕ
  pub is_level : IsLevel limit (map asked_of before ++ asked ∷ map asked_of behind) level
  pub least : shown ≡ min (min asked level) (limit - (sum_by told_of before + sum_by told_of behind))

-- the step of an act, of a post between these
abbrev pub IsOther : ToldCodecs → (ℕ → ℕ → Type 0) → ToldPost → Act → Bool → ToldStep → Type 0
IsOther c Share post act taken step =
    (reading : Option Reading) × IsReading c Share post.plan post.steps act reading × (step ≡ Does reading act taken)

abbrev pub IsSending : ToldCodecs → (ℕ → ℕ → Type 0) → ToldPost → List ℕ → Bool → ToldStep → Type 0
IsSending c Share post bytes taken step =
    (reading : Option Reading) × (said : Said) × IsReading c Share post.plan post.steps (Send bytes) reading
    × IsSaid c post.plan (seen_in post.steps) bytes said × (step ≡ Sends reading bytes taken said)

abbrev pub IsStep : ToldCodecs → (ℕ → ℕ → Type 0) → ToldPost → Act → Bool → ToldStep → Type 0
IsStep c Share post (Give given) taken step = IsOther c Share post (Give given) taken step
IsStep c Share post (Send bytes) taken step = IsSending c Share post bytes taken step
IsStep c Share post (Answer bytes) taken step = IsOther c Share post (Answer bytes) taken step
IsStep c Share post (End cause) taken step = IsOther c Share post (End cause) taken step

-- all posts hear, from number k on
abbrev pub hearing : (ℕ → Event) → ℕ → ℕ → List ToldPost → List ToldPost
hearing event at k [] = []
hearing event at k (post ∷ posts) = record post { steps = Hears at (event k) ∷ post.steps } ∷ hearing event at (suc k) posts

-- post k does something
pub record OneDoes (c : ToldCodecs) (limit k : ℕ) (act : Act) (taken : Bool) (earlier later : List ToldPost) : Type 0 where
  pub before : List ToldPost
  pub post : ToldPost
  pub behind : List ToldPost
  pub place : k ≡ length before + 1
  pub earlier_are : earlier ≡ before ++ post ∷ behind
  pub step : ToldStep
  pub is : IsStep c (Shows limit before behind) post act taken step
  pub later_are : later ≡ before ++ record post { steps = step ∷ post.steps } ∷ behind

abbrev pub Later : ToldCodecs → ℕ → ℕ → Act → Bool → (List ToldPost → Type 0) → List ToldPost → Type 0
Later c limit k act taken Earlier posts = (earlier : List ToldPost) × Earlier earlier × OneDoes c limit k act taken earlier posts

-- the posts of a site behind a past
abbrev pub ArePosts : ToldCodecs → SitePlan → List Entry → List ToldPost → Type 0
ArePosts c site [] posts = posts ≡ map (λ plan. record { plan = plan; steps = [] }) site.post.items
ArePosts c site (entry.Heard heard bytes ∷ past) posts =
    (earlier : List ToldPost) × ArePosts c site past earlier
    × (posts ≡ hearing (λ k. event_at k heard.what bytes) (max (moment past) heard.at) 1 earlier)
ArePosts c site (entry.Lost ∷ past) posts = ArePosts c site past posts
ArePosts c site (entry.Sent k bytes taken ∷ past) posts = Later c site.limit k (Send bytes) taken (ArePosts c site past) posts
ArePosts c site (entry.Answered k bytes taken ∷ past) posts = Later c site.limit k (Answer bytes) taken (ArePosts c site past) posts
ArePosts c site (entry.Drove k given taken ∷ past) posts = Later c site.limit k (Give given) taken (ArePosts c site past) posts
ArePosts c site (entry.Dialed port taken ∷ past) posts = ArePosts c site past posts
ArePosts c site (entry.Ended k cause ∷ past) posts = Later c site.limit k (End cause) true (ArePosts c site past) posts

-- one of them
pub record IsPostOf (c : ToldCodecs) (site : SitePlan) (past : List Entry) (k : ℕ) (post : ToldPost) : Type 0 where
  pub before : List ToldPost
  pub behind : List ToldPost
  pub posts : ArePosts c site past (before ++ post ∷ behind)
  pub place : k ≡ length before + 1
