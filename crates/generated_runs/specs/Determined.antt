-- Own: what is generated is determined by the seed and the count of sessions.
use Rattle.std.specs.Prelude.{◌≡◌, ℕ, Bool, List, Some}
use Rattle.toml.specs.Data.{no_members}
use Rattle.session_words.specs.declared.plan.CarPlan.{CarPlan}
use Rattle.session_words.specs.declared.plan.PostPlan.{PostPlan}
use Rattle.plan_keys.specs.Keys.{Holds}
use Rattle.site_plan.specs.Keys.{post_rules}
use Rattle.site_plan.specs.Plans.{fixed_mode, IsFixedCar}
use Rattle.post_spec.specs.Codecs.{Codecs}
use Rattle.post_spec.specs.Spelled.{AreDetermined}
use Rattle.car_spec.specs.Codecs as car
use Rattle.car_spec.specs.Spelled as car_spelled
use Rattle.pipe_spec.specs.Histories.{Happening}
use Rattle.pair_plans.specs.Generated.{IsGenerated}

-- there is one car, and one post, without a file
abbrev pub FixedCarsAreOne : Type 0
FixedCarsAreOne = (ac : Bool) (a b : CarPlan) → IsFixedCar ac a → IsFixedCar ac b → a ≡ b

abbrev pub FixedPostsAreOne : Type 0
FixedPostsAreOne = (ac : Bool) (a b : PostPlan) → Holds (post_rules (Some 15120) (fixed_mode ac)) no_members a
    → Holds (post_rules (Some 15120) (fixed_mode ac)) no_members b → a ≡ b

-- where a payload is judged one way, and what is said has one encoding
abbrev pub GeneratedRunsAreDetermined : Codecs → car.Codecs → Type 0
GeneratedRunsAreDetermined c cc = AreDetermined c → car_spelled.AreDetermined cc → (seed count : ℕ) (h k : List Happening)
    → IsGenerated c cc seed count h → IsGenerated c cc seed count k → h ≡ k
