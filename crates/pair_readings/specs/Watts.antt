-- Own: a station whose post is alone shows watts to a car whose plan matches, so that its parameters are finished at once.
use Rattle.std.specs.Prelude.{ℕ, ◌≤◌, []}
use Rattle.session_words.specs.declared.plan.CarPlan.{CarPlan}
use Rattle.session_words.specs.declared.plan.PostPlan.{PostPlan}
use Rattle.session_rules.specs.Asks.{ask_of}
use Rattle.station_spec.specs.Sharing.{Shows}
use Rattle.car_rules.specs.Requests.{limits_of}
use Rattle.car_spec.specs.Spelled.{dropped_limits}
use Rattle.pair_words.specs.Meeting.{ArePaired}

abbrev pub SomeWattsAreAsked : Type 0
SomeWattsAreAsked = (post : PostPlan) (plan : CarPlan) → ArePaired post plan → 1 ≤ ask_of post (dropped_limits (limits_of plan))

abbrev pub SomeWattsAreShown : Type 0
SomeWattsAreShown = (limit asked shown : ℕ) → 1 ≤ limit → 1 ≤ asked → Shows limit [] [] asked shown → 1 ≤ shown
