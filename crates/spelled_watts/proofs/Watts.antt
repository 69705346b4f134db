-- No reply spells more watts than its session is told.
use Rattle.std.proofs.Common.{◌≡◌, ◌≤◌, ℕ, ◌*◌, ◌/◌, max, Bool, true, false, if◌then◌else◌, nat_lt, arith}
use Rattle.std.specs.Option.{option_map}
use Rattle.std.proofs.Math.Nat.{div-mul-le_self, div-le_of_le-mul}
use Rattle.charge_world.specs.declared.offer.Dialect.{Dialect}
use Rattle.charge_world.specs.declared.offer.Dialect.TheVariants as dialect
use Rattle.session_words.specs.declared.code.Code.{Code}
use Rattle.session_words.specs.declared.facts.Facts.{Facts}
use Rattle.session_words.specs.declared.plan.PostPlan.{PostPlan}
use Rattle.session_words.specs.declared.word.Ask.{Ask}
use Rattle.session_words.specs.declared.word.Ask.TheVariants as ask
use Rattle.session_words.specs.Amounts.{ac_watts_of, ac_current_of}
use Rattle.session_words.specs.Modes.{phases_of}
use Rattle.session_rules.specs.declared.stage.Stage.{Stage}
use Rattle.session_rules.specs.Asks.{shows_watts}
use Rattle.session_rules.specs.Finishing.{is_ac}
use Rattle.session_rules.specs.Offers.{spelled_watts, scheduled_watts, limits_of}
use Rattle.session_rules.specs.Reply.{schedule_if, tell_of}
use Rattle.session_rules.specs.Verdict.{is_accepted}
use Rattle.session_rules.proofs.ScheduleLemmas.{schedules_within}
use Rattle.post_spec.specs.Kinds.{schedule_watts, limits_watts, tell_watts}
use Rattle.post_spec.specs.Spelled.{dropped_tuples, dropped_limits, dropped_tell}

times_le : (a b m : ℕ) → a ≤ b → a * m ≤ b * m
times_le a b m h = grind arith

ac_held : (c w n p : ℕ) → c ≤ 10 * w / (n * p) → c * n * p ≤ 10 * w
ac_held c w n p h =
    let x = times_le c (10 * w / (n * p)) (n * p) h in
    let y = div-mul-le_self (10 * w) (n * p) in
    let z : c * n * p ≡ c * (n * p) = grind arith in
    omega (arith, x, y, z)

ac_within : (watts nominal phases : ℕ) → ac_watts_of (ac_current_of watts nominal phases) nominal phases ≤ watts
ac_within watts nominal phases = div-le_of_le-mul 10 (ac_held (ac_current_of watts nominal phases) watts nominal phases (omega arith))

spelled_within : (watts : ℕ) → spelled_watts watts ≤ watts
spelled_within watts = schedules_within dialect.Iso watts

scheduled_within : (d : Dialect) (watts : ℕ) → scheduled_watts d watts ≤ watts
scheduled_within dialect.Iso watts = omega arith
scheduled_within dialect.Din watts = omega arith

schedule_within : (there : Bool) (d : Dialect) (watts : ℕ) → schedule_watts (option_map dropped_tuples (schedule_if there d watts)) ≤ watts
schedule_within true d watts = let x = spelled_within (scheduled_watts d watts) in let y = scheduled_within d watts in omega (arith, x, y)
schedule_within false d watts = omega arith

limits_within : (ac : Bool) (d : Dialect) (facts : Facts) (plan : PostPlan) (x : Code) (a : Ask) (watts : ℕ) → limits_watts plan (dropped_limits (limits_of ac d facts plan x a watts)) ≤ watts
limits_within true d facts plan x a watts = ac_within watts plan.nominal (phases_of plan.mode)
limits_within false d facts plan x a watts = spelled_within watts

greater_within : (a b n : ℕ) → a ≤ n → b ≤ n → max a b ≤ n
greater_within a b n h k = omega (arith, h, k)

-- the watts that a reply tells where it is accepted, and where it isn't
abbrev pub told_by : Bool → ℕ → ℕ → ℕ
told_by accepted shown told = if accepted then shown else told

pub tell_within : (b : Bool) (s : Stage) (facts : Facts) (plan : PostPlan) (x : Code) (shown : ℕ) (a : Ask) → is_accepted x ≡ b → shows_watts a ≡ true → tell_watts plan (dropped_tell (tell_of s facts plan x shown a)) ≤ told_by b shown s.told
tell_within true s facts plan x shown (ask.ChargeParameters mode limits) e h =
    rw e (greater_within _ _ shown (schedule_within (nat_lt 0 shown) s.dialect shown) (limits_within (is_ac plan.mode) s.dialect facts plan x (ask.ChargeParameters mode limits) shown))
tell_within false s facts plan x shown (ask.ChargeParameters mode limits) e h =
    let l = limits_within (is_ac plan.mode) s.dialect facts plan x (ask.ChargeParameters mode limits) 0 in
    rw e (greater_within _ _ s.told (omega arith) (omega (arith, l)))
tell_within true s facts plan x shown (ask.CurrentDemand ready soc voltage current) e h = rw e (spelled_within shown)
tell_within false s facts plan x shown (ask.CurrentDemand ready soc voltage current) e h = rw e (spelled_within s.told)
tell_within true s facts plan x shown ask.ChargingStatus e h = rw e (ac_within shown plan.nominal (phases_of plan.mode))
tell_within false s facts plan x shown ask.ChargingStatus e h = rw e (ac_within s.told plan.nominal (phases_of plan.mode))
tell_within b s facts plan x shown a e h = cc
