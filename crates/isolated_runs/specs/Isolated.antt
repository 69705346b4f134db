-- Own: what a post does depends on its own hearings, on the moments, on its own outcomes and on the watts that it is shown.
use Rattle.std.specs.Prelude.{◌≡◌, ℕ, ◌+◌, Bool, List, [], ◌∷◌, ◌++◌, length, reverse, Option, Some, None}
use Rattle.charge_world.specs.declared.entry.Entry.{Entry}
use Rattle.session_words.specs.declared.plan.SitePlan.{SitePlan}
use Rattle.post_spec.specs.Codecs.{Codecs}
use Rattle.post_spec.specs.Spelled.{AreDetermined}
use Rattle.post_spec.specs.Steps.{Seen, Heard, Did, Reading, Step, Hears, Does, seen}
use Rattle.station_spec.specs.Sharing.{Post}
use Rattle.station_spec.specs.Runs.{IsSiteRun}

abbrev pub with_some : {A : Type 0} → Option A → List A → List A
with_some None rest = rest
with_some (Some a) rest = a ∷ rest

-- what some of the entries tell
abbrev pub gather : {A B : Type 0} → (A → Option B) → List A → List B
gather f [] = []
gather f (x ∷ xs) = with_some (f x) (gather f xs)

-- a hearing: what was heard there, elsewhere the moment alone
abbrev pub hearing_in : Seen → Option Seen
hearing_in (Heard at event) = Some (Heard at event)
hearing_in (Did act taken) = None

abbrev pub outcome_in : Seen → Option Bool
outcome_in (Heard at event) = None
outcome_in (Did act taken) = Some taken

abbrev pub shown_to : Option Reading → Option ℕ
shown_to None = None
shown_to (Some reading) = Some reading.shown

abbrev pub shown_in : Step → Option ℕ
shown_in (Hears at event) = None
shown_in (Does reading act taken) = shown_to reading

-- two lists, the oldest first, that differ at no place that both have
abbrev pub Agree : {A : Type 0} → List A → List A → Type 0
Agree [] ys = Unit {0}
Agree (x ∷ xs) [] = Unit {0}
Agree (x ∷ xs) (y ∷ ys) = (x ≡ y) × Agree xs ys

-- two posts of one plan hear the same; and as far as both act, their acts have the same outcomes, and as far as both are shown watts, the same
-- watts. How often each acts, or is shown any, isn't asked
pub record AreAlike (post post' : Post) (past past' : List Seen) : Type 0 where
  pub plan : post.plan ≡ post'.plan
  pub hearings : gather hearing_in past ≡ gather hearing_in past'
  pub outcomes : Agree (reverse (gather outcome_in past)) (reverse (gather outcome_in past'))
  pub shown : Agree (reverse (gather shown_in post.steps)) (reverse (gather shown_in post'.steps))

-- then they do the same, in whole runs of any two sites
abbrev pub RunsAreIsolated : Codecs → Type 0
RunsAreIsolated c = (site site' : SitePlan) (past past' : List Entry) (run : IsSiteRun c site past) (run' : IsSiteRun c site' past') (n : ℕ)
    (before before' : List Post) (post post' : Post) (behind behind' : List Post) → AreDetermined c
    → run.posts ≡ before ++ post ∷ behind → run'.posts ≡ before' ++ post' ∷ behind' → n ≡ length before + 1 → n ≡ length before' + 1
    → AreAlike post post' (seen n past) (seen n past') → seen n past ≡ seen n past'
