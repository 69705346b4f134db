-- IEC 61851-23: how a run of a car leaves its contactor.
use Rattle.std.specs.Prelude.{◌≡◌, true, List}
use Rattle.charge_world.specs.declared.entry.Entry.{Entry}
use Rattle.session_words.specs.declared.plan.CarPlan.{CarPlan}
use Rattle.car_spec.specs.Codecs.{Codecs}
use Rattle.car_spec.specs.Runs.{IsCarRun}
use Rattle.car_laws.specs.Contactor.{closed, failed_open}

-- at the end of a whole run the last order that was taken isn't Close, unless a later Open failed
abbrev pub RunsEndOpen : Codecs → Type 0
RunsEndOpen c = (plan : CarPlan) (past : List Entry) → IsCarRun c plan past → closed past ≡ true → failed_open past ≡ true
