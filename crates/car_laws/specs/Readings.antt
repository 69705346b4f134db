-- Own: what a car keeps of its session is what its steps tell of it: the wish to stop, what was said and has no reply yet, the charging
-- replies, and the last request.
use Rattle.std.specs.Prelude.{◌≡◌, ℕ, List, Some}
use Rattle.charge_world.specs.declared.entry.Entry.{Entry}
use Rattle.session_words.specs.declared.plan.CarPlan.{CarPlan}
use Rattle.car_rules.specs.declared.stage.CarStage.{CarStage}
use Rattle.car_rules.specs.Requests.{request_of}
use Rattle.car_spec.specs.Asked.{last_request, awaited}
use Rattle.car_spec.specs.Codecs.{Codecs}
use Rattle.car_spec.specs.Steps.{Step}
use Rattle.car_spec.specs.States.{Session}
use Rattle.car_spec.specs.Acting.{state}
use Rattle.car_spec.specs.Runs.{IsRun}
use Rattle.car_spec.specs.Told.{stop, cycles}

pub record KeepsReadings (plan : CarPlan) (steps : List Step) (session : Session) : Type 0 where
  pub stop_is : session.stop ≡ stop steps
  pub sent_is : session.moments.sent ≡ awaited steps
  pub cycles_are : (stage : CarStage) → session.stage ≡ Some stage → stage.cycles ≡ cycles steps
  pub asked : (stage : CarStage) (at : ℕ) → session.stage ≡ Some stage → session.moments.sent ≡ Some at
      → last_request steps ≡ Some (record { request = request_of plan stage; at = at })

-- in every run, of a session that lives
abbrev pub RunsKeepReadings : Codecs → Type 0
RunsKeepReadings c = (plan : CarPlan) (past : List Entry) (steps : List Step) (session : Session) → IsRun c plan past steps
    → (state plan steps).session ≡ Some session → KeepsReadings plan steps session
