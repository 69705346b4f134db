-- Own: how the posts of a site share its watts.
use Rattle.std.specs.Prelude.{◌≡◌, ℕ, ◌+◌, ◌-◌, min, List, ◌∷◌, ◌++◌, map, Option, Some, None}
use Rattle.std.specs.List.{sum_by}
use Rattle.session_words.specs.declared.plan.PostPlan.{PostPlan}
use Rattle.power_share.specs.Sharing.{IsLevel}
use Rattle.post_spec.specs.Steps.{Step}
use Rattle.station_spec.specs.States.{Session, State}
use Rattle.station_spec.specs.Acting.{state}

-- a post: its plan, and what it went by so far, the newest step first
pub record Post : Type 0 where
  pub plan : PostPlan
  pub steps : List Step

abbrev pub state_of : Post → State
state_of post = state post.plan post.steps

-- the watts that a post asks for and those that its replies told last: none without a session
abbrev pub asked_in : Option Session → ℕ
asked_in None = 0
asked_in (Some session) = session.asked

abbrev pub told_in : Option Session → ℕ
told_in None = 0
told_in (Some session) = session.stage.told

abbrev pub asked_of : Post → ℕ
asked_of post = asked_in (state_of post).session

abbrev pub told_of : Post → ℕ
told_of post = told_in (state_of post).session

-- what all posts were told together
abbrev pub told_total : List Post → ℕ
told_total posts = sum_by told_of posts

-- what a post that asks for these watts is shown between those before and behind it: the least of what it asks for, the level, and the
-- limit less what the others were told
pub record Shows (limit : ℕ) (before behind : List Post) (asked shown : ℕ) : Type 0 where
  pub level : ℕ
  pub is_level : IsLevel limit (map asked_of before ++ asked ∷ map asked_of behind) level
  pub least : shown ≡ min (min asked level) (limit - (told_total before + told_total behind))
