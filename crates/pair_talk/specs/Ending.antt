-- Own: a session that is over.
use Rattle.std.specs.Prelude.{List}
use Rattle.session_words.specs.declared.plan.CarPlan.{CarPlan}
use Rattle.post_spec.specs.Codecs.{Codecs}
use Rattle.car_spec.specs.Codecs as car
use Rattle.pipe_spec.specs.Histories.{Happening}
use Rattle.pipe_spec.specs.Runs.{IsSession}
use Rattle.pipe_spec.specs.Turns.{Station}
use Rattle.pair_talk.specs.Keeping.{IsAt}
use Rattle.pair_talk.specs.Sides.{Sides}

-- the pair is where the session of this car, behind what happened before, is over
pub record Ends (c : Codecs) (cc : car.Codecs) (st : Station) (plan : CarPlan) (before : List Happening) (s : Sides) : Type 0 where
  pub history : List Happening
  pub session : IsSession c cc st before plan history
  pub at : IsAt c cc st plan history s
