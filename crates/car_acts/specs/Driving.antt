-- Own: what holds of a past that is told, and of the car at that moment.
use Rattle.std.specs.Prelude.{◌≡◌, List, Option}
use Rattle.charge_world.specs.declared.entry.Entry.{Entry}
use Rattle.session_words.specs.declared.plan.CarPlan.{CarPlan}
use Rattle.endpoint.specs.Knowing.{Known, IsKnown}
use Rattle.car_spec.specs.Acting.{state}
use Rattle.car_spec.specs.Codecs.{Codecs}
use Rattle.car_spec.specs.Report.{Report}
use Rattle.car_spec.specs.Runs.{IsRun}
use Rattle.car_spec.specs.States.{State}
use Rattle.car_spec.specs.Steps.{Step}
use Rattle.car_spec.specs.Until.{untils}
use Rattle.car_acts.specs.Reporting.{Reports}

-- the car keeps what its steps in a run tell, and reported it where it ended
pub record InRun (c : Codecs) (plan : CarPlan) (k : Known) (s : State) (told : Option Report) (past : List Entry) : Type 0 where
  pub steps : List Step
  pub run : IsRun c plan past steps
  pub state_is : s ≡ state plan steps
  pub report_is : Reports s.over told steps past
  pub known_is : IsKnown k past
  pub untils_are : untils plan steps ≡ k.untils
