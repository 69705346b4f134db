-- ISO 15118-2:2014, 8.7 (the timers of the car): what is due in a car, and when.
use Rattle.std.specs.Prelude.{ℕ, Bool, false, List, [], ◌∷◌, ◌++◌, Option, Some, None}
use Rattle.session_words.specs.declared.plan.CarPlan.{CarPlan}
use Rattle.car_rules.specs.declared.deadlines.CarDue.{CarDue}
use Rattle.car_rules.specs.Deadlines.{deadlines, is_reached}
use Rattle.car_rules.specs.Searching.{search_due}
use Rattle.car_spec.specs.States.{Session, State}

-- all deadlines that run, in order of their numbers
abbrev pub session_deadlines : CarPlan → Option Session → List (Option CarDue)
session_deadlines plan None = []
session_deadlines plan (Some session) = deadlines plan session.stage session.moments

abbrev pub all_deadlines : CarPlan → State → List (Option CarDue)
all_deadlines plan s = session_deadlines plan s.session ++ search_due plan s.search ∷ []

-- when a request is due once more, if ever
abbrev pub again_in : Option Session → Option ℕ
again_in None = None
again_in (Some session) = session.again

-- something is due
abbrev pub is_due : Option ℕ → ℕ → Bool
is_due None now = false
is_due (Some moment) now = is_reached moment now
