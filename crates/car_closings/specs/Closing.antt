-- ISO 15118-2:2014, section 8.8.4, and IEC 61851-23: in every run of a car each order to close is mandated by the bytes of its session.
use Rattle.std.specs.Prelude.{List}
use Rattle.charge_world.specs.declared.entry.Entry.{Entry}
use Rattle.session_words.specs.declared.plan.CarPlan.{CarPlan}
use Rattle.car_spec.specs.Codecs.{Codecs}
use Rattle.car_spec.specs.Mandated.{ClosesMandated}
use Rattle.car_spec.specs.Runs.{IsRun}
use Rattle.car_spec.specs.Spelled.{ReadsBack, AreDetermined}
use Rattle.car_spec.specs.Steps.{Step}

-- where encoded requests read back, and a payload is judged one way
abbrev pub RunsCloseByBytes : Codecs → Type 0
RunsCloseByBytes c = ReadsBack c → AreDetermined c → (plan : CarPlan) (past : List Entry) (steps : List Step) → IsRun c plan past steps
    → ClosesMandated c plan past
