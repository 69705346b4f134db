-- Own: until when a car waits for its next hearing.
use Rattle.std.specs.Prelude.{ℕ, min, List, [], ◌∷◌, Option, Some, None}
use Rattle.session_timers.specs.Due.{never}
use Rattle.session_words.specs.declared.plan.CarPlan.{CarPlan}
use Rattle.car_rules.specs.Deadlines.{least_moment}
use Rattle.car_rules.specs.Searching.{next_request}
use Rattle.car_spec.specs.Steps.{Step, Hears, Loses, Reads, Does}
use Rattle.car_spec.specs.States.{State}
use Rattle.car_spec.specs.Due.{all_deadlines, again_in}
use Rattle.car_spec.specs.Acting.{state}

abbrev pub or_never : Option ℕ → ℕ
or_never None = never
or_never (Some moment) = moment

-- the least of the moments of all deadlines, of the request that waits, and of the next request for a post; at most 2^64 - 1
abbrev pub until : CarPlan → State → ℕ
until plan s = min (least_moment (all_deadlines plan s)) (min (or_never (again_in s.session)) (or_never (next_request plan s.search)))

-- the moment that each hearing waited for, the newest first
abbrev pub untils : CarPlan → List Step → List ℕ
untils plan [] = []
untils plan (Hears at event ∷ steps) = until plan (state plan steps) ∷ untils plan steps
untils plan (Loses ∷ steps) = until plan (state plan steps) ∷ untils plan steps
untils plan (Reads word ∷ steps) = untils plan steps
untils plan (Does act taken ∷ steps) = untils plan steps
