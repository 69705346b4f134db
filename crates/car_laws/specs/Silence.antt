-- Own: behind its end nothing follows in a run of a car: it hears nothing, reads nothing and does nothing.
use Rattle.std.specs.Prelude.{◌≡◌, false, List, ◌∷◌}
use Rattle.charge_world.specs.declared.entry.Entry.{Entry}
use Rattle.session_words.specs.declared.plan.CarPlan.{CarPlan}
use Rattle.car_spec.specs.Codecs.{Codecs}
use Rattle.car_spec.specs.Steps.{Step}
use Rattle.car_spec.specs.Acting.{state}
use Rattle.car_spec.specs.Runs.{IsRun}

-- what takes a step hasn't ended
abbrev pub RunsStopAtTheEnd : Codecs → Type 0
RunsStopAtTheEnd c = (plan : CarPlan) (past : List Entry) (step : Step) (steps : List Step) → IsRun c plan past (step ∷ steps)
    → (state plan steps).over ≡ false
