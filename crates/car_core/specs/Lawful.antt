-- What holds of every past of a car, whole or cut (IEC 61851-23; ISO 15118-2:2014, sections 8.4 and 8.8.4).
use Rattle.std.specs.Prelude.{◌≡◌, ℕ, Bool, true, false, List, [], ◌∷◌, ◌++◌, Some}
use Rattle.charge_world.specs.declared.entry.Entry.{Entry}
use Rattle.charge_world.specs.declared.entry.Entry.TheVariants as entry
use Rattle.charge_world.specs.declared.ports.Order.TheVariants as order
use Rattle.session_words.specs.declared.plan.CarPlan.{CarPlan}
use Rattle.car_spec.specs.Acting.{state}
use Rattle.car_spec.specs.Answered.{exchanges, may_close}
use Rattle.car_spec.specs.Codecs.{Codecs}
use Rattle.car_spec.specs.Mandated.{ClosesMandated}
use Rattle.car_spec.specs.Report.{Report}
use Rattle.car_spec.specs.States.{Session}
use Rattle.car_spec.specs.Steps.{Give, Step, Does}
use Rattle.car_laws.specs.Contactor.{live, closed, failed_open}
use Rattle.car_laws.specs.Readings.{KeepsReadings}
use Rattle.car_turns.specs.declared.ending.Ended.{Ended}
use Rattle.car_turns.specs.Ending.{IsDriven}

-- each order to close, taken or failed, stands behind the words that mandate it: since the last renegotiation, in DC a CableCheck was
-- answered Finished and a PreCharge within 20.0 V of its target, in AC PowerDelivery Start was accepted
abbrev pub CloseByWords : CarPlan → List Step → Type 0
CloseByWords plan steps = (behind earlier : List Step) (taken : Bool) → steps ≡ behind ++ Does (Give order.Close) taken ∷ earlier → may_close plan (exchanges earlier) ≡ true

-- behind its end the car takes no step
abbrev pub StopAtTheEnd : CarPlan → List Step → Type 0
StopAtTheEnd plan steps = (behind earlier : List Step) (step : Step) → steps ≡ behind ++ step ∷ earlier → (state plan earlier).over ≡ false

-- the car ended
abbrev pub has_ended : List Entry → Bool
has_ended [] = false
has_ended (entry.Ended post cause ∷ past) = true
has_ended (other ∷ past) = has_ended past

-- a car that ended hears and does nothing more: only the newest entry says that it ended
abbrev pub IsSilent : List Entry → Type 0
IsSilent [] = Unit {0}
IsSilent (newest ∷ past) = has_ended past ≡ false

-- Of the blocks of a run by these steps, and the past that they are with the order that closes it, whole or cut: the contactor closes by words,
-- each order to close is mandated by the bytes of the session before it, and the contactor is live as the orders tell; behind its end the car takes
-- no step, and no entry follows; what it keeps of its session is what its steps tell; and at the end the last order of Open and Close that was taken
-- isn't Close, unless a later Open failed
pub record IsLawful (c : Codecs) (plan : CarPlan) (steps : List Step) (blocks past : List Entry) : Type 0 where
  pub by_words : CloseByWords plan steps
  pub mandated : ClosesMandated c plan past
  pub live_is : (state plan steps).live ≡ live blocks
  pub stops : StopAtTheEnd plan steps
  pub silent : IsSilent blocks
  pub keeps : (session : Session) → (state plan steps).session ≡ Some session → KeepsReadings plan steps session
  pub ends_open : closed past ≡ true → failed_open past ≡ true

-- a car was driven so, and by the very steps of that run it is lawful
pub record IsDrivenLawfully (c : Codecs) (plan : CarPlan) (how : Ended) (before after : List ℕ) (told : Report) (past : List Entry) : Type 0 where
  pub driven : IsDriven c plan how before after told past
  pub lawful : IsLawful c plan driven.steps driven.blocks past
