-- Own: what holds of a car so that its codecs can spell what it says, and that it does nothing once it ended.
use Rattle.std.specs.Prelude.{◌≡◌, true, Contains, Option, Some, None}
use Rattle.charge_world.specs.declared.offer.Dialect.TheVariants as dialect
use Rattle.session_words.specs.declared.plan.CarPlan.{CarPlan}
use Rattle.car_rules.specs.declared.stage.CarPhase.TheVariants as phase
use Rattle.car_rules.specs.declared.stage.CarStage.{CarStage}
use Rattle.car_codec.specs.Requests.{IsAsked}
use Rattle.car_spec.specs.States.{State, first}
use Rattle.car_spec.specs.Steps.{Spoken, Offer, Asked}
use Rattle.evcc_machine.specs.Views.{stage_in}

-- a stage is in one of the plan's dialects. DIN has no renegotiation
pub record IsSoundStage (plan : CarPlan) (stage : CarStage) : Type 0 where
  pub offered : Contains plan.dialects.items stage.dialect
  pub renegotiates : stage.phase ≡ phase.Renegotiating → stage.dialect ≡ dialect.Iso

abbrev pub IsSoundIn : CarPlan → Option CarStage → Type 0
IsSoundIn plan None = Unit {0}
IsSoundIn plan (Some stage) = IsSoundStage plan stage

-- the codecs can spell what is said
abbrev pub CanSay : Option Spoken → Type 0
CanSay None = Unit {0}
CanSay (Some Offer) = Unit {0}
CanSay (Some (Asked dialect request)) = IsAsked dialect request

pub record IsSound (plan : CarPlan) (s : State) : Type 0 where
  pub stage : IsSoundIn plan (stage_in s.session)
  pub spoken : CanSay s.agenda.spoken
  pub still : s.over ≡ true → (first s.agenda ≡ None) × (s.session ≡ None)
