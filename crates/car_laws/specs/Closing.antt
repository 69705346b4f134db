-- ISO 15118-2:2014, section 8.8.4, and IEC 61851-23: a car orders its contactor closed only behind the words that mandate it.
use Rattle.std.specs.Prelude.{◌≡◌, Bool, true, List, ◌∷◌}
use Rattle.charge_world.specs.declared.entry.Entry.{Entry}
use Rattle.charge_world.specs.declared.ports.Order.TheVariants as order
use Rattle.session_words.specs.declared.plan.CarPlan.{CarPlan}
use Rattle.car_spec.specs.Answered.{exchanges, may_close}
use Rattle.car_spec.specs.Codecs.{Codecs}
use Rattle.car_spec.specs.Steps.{Give, Step, Does}
use Rattle.car_spec.specs.Runs.{IsRun}

-- in every run, each order to close, taken or failed
abbrev pub RunsCloseByWords : Codecs → Type 0
RunsCloseByWords c = (plan : CarPlan) (past : List Entry) (steps : List Step) (taken : Bool)
    → IsRun c plan past (Does (Give order.Close) taken ∷ steps) → may_close plan (exchanges steps) ≡ true
