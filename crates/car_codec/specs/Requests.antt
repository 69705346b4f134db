-- Own: the requests that a car asks, which its codecs have to spell.
use Rattle.std.specs.Prelude.{◌≡◌, ◌≤◌, Contains, length}
use Rattle.charge_world.specs.declared.offer.Dialect.{Dialect}
use Rattle.charge_world.specs.declared.offer.Dialect.TheVariants.{Iso}
use Rattle.session_words.specs.declared.plan.CarPlan.{CarPlan}
use Rattle.session_words.specs.declared.word.Request.{Request}
use Rattle.session_words.specs.Plans.{IsCarPlan}
use Rattle.car_rules.specs.declared.stage.CarPhase.TheVariants as phase
use Rattle.car_rules.specs.declared.stage.CarStage.{CarStage}
use Rattle.car_rules.specs.Requests.{request_of}

-- a plan within its rules, with its values within their types: an EVCCID of six bytes, tenths of at most 3,000.0 V and A
pub record IsPlan (plan : CarPlan) : Type 0 where
  pub rules : IsCarPlan plan
  pub car_id : length plan.car_id ≡ 6
  pub target_voltage : plan.target_voltage ≤ 30000
  pub target_current : plan.target_current ≤ 30000
  pub max_voltage : plan.max_voltage ≤ 30000
  pub max_current : plan.max_current ≤ 30000
  pub min_current : plan.min_current ≤ 30000

-- the request of a stage of a car in one of its plan's dialects. DIN has no renegotiation
pub record IsAsked (dialect : Dialect) (request : Request) : Type 0 where
  pub plan : CarPlan
  pub stage : CarStage
  pub is_plan : IsPlan plan
  pub dialect_is : dialect ≡ stage.dialect
  pub offered : Contains plan.dialects.items dialect
  pub renegotiates : stage.phase ≡ phase.Renegotiating → dialect ≡ Iso
  pub request_is : request ≡ request_of plan stage
