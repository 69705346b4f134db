-- Own: how many requests a car still has to ask, each that may be asked again counted once; and why one is asked again.
use Rattle.std.specs.Prelude.{◌≡◌, ℕ, suc, ◌+◌, ◌-◌, ◌<◌, false, if◌then◌else◌}
use Rattle.session_words.specs.declared.plan.CarPlan.{CarPlan}
use Rattle.session_words.specs.declared.plan.PostPlan.{PostPlan}
use Rattle.session_rules.specs.Delivery.{off_of}
use Rattle.session_rules.specs.Finishing.{is_ac, is_valid}
use Rattle.car_rules.specs.declared.stage.CarPhase.{CarPhase}
use Rattle.car_rules.specs.declared.stage.CarPhase.TheVariants as phase
use Rattle.car_rules.specs.declared.stage.CarStage.{CarStage}
use Rattle.pair_words.specs.Exchanges.{Outside}

-- PowerDelivery Stop, the welding detections, SessionStop
abbrev pub left_to_stop : CarPlan → ℕ
left_to_stop plan = if is_ac plan.mode then 2 else plan.welding + 2

-- behind so many charging replies: one more at least
abbrev pub left_to_charge : CarPlan → ℕ → ℕ
left_to_charge plan cycles = suc (plan.cycles - suc cycles) + left_to_stop plan

-- PowerDelivery Start, and in direct current CableCheck and PreCharge before
abbrev pub left_to_start : CarPlan → ℕ → ℕ
left_to_start plan cycles = suc (left_to_charge plan cycles)

abbrev pub left_to_power : CarPlan → ℕ → ℕ
left_to_power plan cycles = if is_ac plan.mode then left_to_start plan cycles else left_to_start plan cycles + 2

abbrev pub left_in : CarPlan → CarPhase → ℕ → ℕ
left_in plan phase.SettingUp cycles = left_to_power plan cycles + 5
left_in plan phase.Discovering cycles = left_to_power plan cycles + 4
left_in plan phase.Selecting cycles = left_to_power plan cycles + 3
left_in plan phase.Authorizing cycles = left_to_power plan cycles + 2
left_in plan phase.Asking cycles = left_to_power plan cycles + 1
left_in plan phase.CableChecking cycles = left_to_start plan cycles + 2
left_in plan phase.PreCharging cycles = left_to_start plan cycles + 1
left_in plan phase.Starting cycles = left_to_start plan cycles
left_in plan phase.Charging cycles = left_to_charge plan cycles
left_in plan phase.Stopping cycles = left_to_stop plan
left_in plan phase.Renegotiating cycles = 0
left_in plan (phase.Welding left) cycles = left + 2
left_in plan phase.Ending cycles = 1

abbrev pub left : CarPlan → CarStage → ℕ
left plan c = left_in plan c.phase c.cycles

-- why a request is asked again: nobody paid; no watts are shown; the isolation isn't valid yet; the voltage isn't within 20.0 V of its target
abbrev pub IsUnready : PostPlan → CarPlan → CarPhase → Outside → Type 0
IsUnready post plan phase.Authorizing x = (post.free ≡ false) × (x.facts.paid ≡ false)
IsUnready post plan phase.Asking x = x.shown ≡ 0
IsUnready post plan phase.CableChecking x = is_valid x.facts.isolation ≡ false
IsUnready post plan phase.PreCharging x = 200 < off_of (record { target = plan.target_voltage; voltage = x.facts.voltage })
IsUnready post plan other x = ⊥

-- the car asks the same again, for such a reason, or it has fewer requests left
pub data GoesOn (post : PostPlan) (plan : CarPlan) (c : CarStage) (x : Outside) (after : CarStage) : Type 0 where
  Again : after ≡ c → IsUnready post plan c.phase x → GoesOn post plan c x after
  Further : left plan after < left plan c → GoesOn post plan c x after
