-- Own: the exchanges of a session with their moments: a step is asked for again 100 ms later at the earliest, and what it waits for comes in time. So
-- the requests that are repeated are few, and with them all exchanges.
use Rattle.std.specs.Prelude.{◌≡◌, ℕ, ◌+◌, ◌*◌, ◌≤◌, min, Bool, true, false, ◌&&◌, if◌then◌else◌, List, [], ◌∷◌, length, Some, ◌⊎◌}
use Rattle.charge_world.specs.declared.heard.IsolationLevel.TheVariants as isolation
use Rattle.charge_world.specs.declared.offer.Dialect.{Dialect}
use Rattle.session_words.specs.declared.plan.CarPlan.{CarPlan}
use Rattle.session_words.specs.declared.plan.PostPlan.{PostPlan}
use Rattle.station_spec.specs.Report.{one_if}
use Rattle.car_rules.specs.declared.stage.CarPhase.{CarPhase}
use Rattle.car_rules.specs.declared.stage.CarPhase.TheVariants as phase
use Rattle.pair_words.specs.Exchanges.{Both, Outside, behind}
use Rattle.pair_words.specs.Meeting.{ArePaired}
use Rattle.pair_words.specs.Laws.{both, AreExchanges, is_repeated, left_behind}

-- an exchange, and the moment at which the post judges the request
pub record Timed : Type 0 where
  pub outside : Outside
  pub at : ℕ

abbrev pub outsides : List Timed → List Outside
outsides [] = []
outsides (t ∷ ts) = t.outside ∷ outsides ts

-- what both keep behind so many
abbrev pub both_behind : PostPlan → CarPlan → ℕ → Dialect → List Timed → Both
both_behind post plan token dialect ts = both post plan token dialect (outsides ts)

-- the request that comes next is one that is repeated
abbrev pub asks_again : PostPlan → CarPlan → Both → Outside → Bool
asks_again post plan b x = is_repeated b.car.phase (behind post plan b x).car.phase

-- the earliest moment of the next request
abbrev pub next_at : PostPlan → CarPlan → ℕ → Dialect → List Timed → ℕ
next_at post plan token dialect [] = 0
next_at post plan token dialect (t ∷ ts) =
    if asks_again post plan (both_behind post plan token dialect ts) t.outside then t.at + 100 else t.at

-- the steps that wait for something
abbrev pub is_authorizing : CarPhase → Bool
is_authorizing phase.Authorizing = true
is_authorizing other = false

abbrev pub is_asking : CarPhase → Bool
is_asking phase.Asking = true
is_asking other = false

abbrev pub is_cable_checking : CarPhase → Bool
is_cable_checking phase.CableChecking = true
is_cable_checking other = false

abbrev pub is_pre_charging : CarPhase → Bool
is_pre_charging phase.PreCharging = true
is_pre_charging other = false

-- how often a step was asked for again
abbrev pub repeats_of : (CarPhase → Bool) → PostPlan → CarPlan → ℕ → Dialect → List Timed → ℕ
repeats_of is_step post plan token dialect [] = 0
repeats_of is_step post plan token dialect (t ∷ ts) =
    one_if (is_step (both_behind post plan token dialect ts).car.phase && asks_again post plan (both_behind post plan token dialect ts) t.outside)
    + repeats_of is_step post plan token dialect ts

-- From 100 ms on somebody paid, where that is needed; watts are shown; from 300 ms on the isolation is valid; and with each PreCharge that was asked for
-- again the voltage rose by 100.0 V, up to its target.
pub record IsTimely (post : PostPlan) (plan : CarPlan) (b : Both) (earliest pre_charges : ℕ) (t : Timed) : Type 0 where
  pub in_order : earliest ≤ t.at
  pub paid : b.car.phase ≡ phase.Authorizing → 100 ≤ t.at → (post.free ≡ true) ⊎ (t.outside.facts.paid ≡ true)
  pub shown : b.car.phase ≡ phase.Asking → 1 ≤ t.outside.shown
  pub valid : b.car.phase ≡ phase.CableChecking → 300 ≤ t.at → t.outside.facts.isolation ≡ Some isolation.Valid
  pub voltage : b.car.phase ≡ phase.PreCharging → t.outside.facts.voltage ≡ min plan.target_voltage (1000 * pre_charges)

abbrev pub AreTimely : PostPlan → CarPlan → ℕ → Dialect → List Timed → Type 0
AreTimely post plan token dialect [] = Unit {0}
AreTimely post plan token dialect (t ∷ ts) = AreTimely post plan token dialect ts
    × IsTimely post plan (both_behind post plan token dialect ts) (next_at post plan token dialect ts)
    (repeats_of is_pre_charging post plan token dialect ts) t

-- 30,000: the greatest voltage, in tenths of a volt
abbrev pub ExchangesAreFew : Type 0
ExchangesAreFew = (post : PostPlan) (plan : CarPlan) (token : ℕ) (dialect : Dialect) (ts : List Timed) → ArePaired post plan
    → plan.target_voltage ≤ 30000 → AreExchanges post plan token dialect (outsides ts) → AreTimely post plan token dialect ts
    → length ts + left_behind post plan token dialect (outsides ts) ≤ 54 + plan.cycles

-- the negotiation counted
abbrev pub SessionsAreShort : Type 0
SessionsAreShort = (post : PostPlan) (plan : CarPlan) (token : ℕ) (dialect : Dialect) (ts : List Timed) → ArePaired post plan
    → plan.target_voltage ≤ 30000 → AreExchanges post plan token dialect (outsides ts) → AreTimely post plan token dialect ts
    → length ts + 1 ≤ 64 + 4 * plan.cycles
