-- Own: what follows for conforming requests and events.
use Rattle.std.specs.Prelude.{◌≡◌, true, None}
use Rattle.charge_world.specs.declared.heard.PlantEvent.{PlantEvent}
use Rattle.session_words.specs.declared.facts.Facts.{Facts}
use Rattle.session_words.specs.declared.plan.PostPlan.{PostPlan}
use Rattle.session_words.specs.declared.word.Request.{Request}
use Rattle.session_rules.specs.declared.causes.Watch.{Watch}
use Rattle.session_rules.specs.declared.stage.Stage.{Stage}
use Rattle.session_rules.specs.Causes.{plant_cause}
use Rattle.session_rules.specs.Verdict.{verdict, is_accepted}
use Rattle.conforming_runs.specs.Charger.{GoesWell}
use Rattle.conforming_runs.specs.Requests.{IsConforming}

-- a conforming request is answered with a code of the OK class
abbrev pub RequestsAreAccepted : Type 0
RequestsAreAccepted = (s : Stage) (facts : Facts) (plan : PostPlan) (r : Request)
    → IsConforming s facts plan r → is_accepted (verdict s facts plan r) ≡ true

-- what goes well is no cause
abbrev pub EventsEndNothing : Type 0
EventsEndNothing = (w : Watch) (event : PlantEvent) → GoesWell w event → plant_cause w event ≡ None
