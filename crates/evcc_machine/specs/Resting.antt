-- Own: what holds of a car that has nothing to do.
use Rattle.std.specs.Prelude.{◌≡◌, false, Option, Some, None, Ok}
use Rattle.session_words.specs.declared.plan.CarPlan.{CarPlan}
use Rattle.v2gtp_frames.specs.Reading.{whole_at}
use Rattle.car_spec.specs.Deciding.{decided}
use Rattle.car_spec.specs.Next.{IsQuiet}
use Rattle.car_spec.specs.States.{Session, State}

-- neither a whole frame nor a wrong field stands at the front of what a session didn't read yet
abbrev pub IsReadOut : Option Session → Type 0
IsReadOut None = Unit {0}
IsReadOut (Some session) = whole_at session.unread ≡ Ok None

-- a quiet car that didn't end read all frames that came
abbrev pub ReadsAll : Type 0
ReadsAll = (plan : CarPlan) (s : State) → IsQuiet plan s → s.over ≡ false → IsReadOut s.session

-- deciding leaves a quiet car
abbrev pub StaysQuiet : Type 0
StaysQuiet = (plan : CarPlan) (s : State) → IsQuiet plan s → decided plan s ≡ s
