-- Own: where a car dials and where it looks for its post, by its plan.
use Rattle.std.specs.Prelude.{unwrap_or}
use Rattle.charge_world.specs.declared.ports.Ports.{Ports}
use Rattle.charge_world.specs.declared.ports.Ports.TheVariants.{Car}
use Rattle.session_words.specs.declared.plan.CarPlan.{CarPlan}

abbrev pub ports_of : CarPlan → Ports
ports_of plan = Car (unwrap_or plan.tcp 0) plan.sdp
