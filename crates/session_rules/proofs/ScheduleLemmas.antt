-- The watts that a schedule spells.
use Rattle.std.proofs.Common.{◌≡◌, ℕ, zero, suc, ◌+◌, ◌*◌, ◌/◌, ◌<◌, ◌≤◌, arith, lit<}
use Rattle.std.proofs.lemmas.Grind.{common_steps}
use Rattle.charge_world.specs.declared.offer.Dialect.TheVariants as dialect
use Rattle.session_rules.specs.Laws.{SpellsSchedule, SchedulesWithin}
use Rattle.session_rules.specs.Offers.{spelled_watts}

spelled_within : (watts : ℕ) → spelled_watts watts ≤ watts
spelled_within watts = grind (arith, common_steps)

pub schedules_within : SchedulesWithin
schedules_within dialect.Iso watts = spelled_within watts
schedules_within dialect.Din watts = omega arith

units : (watts : ℕ) → watts < 32768 → spelled_watts watts ≡ watts
units watts h = grind (arith, common_steps)

tens : (watts : ℕ) → 32768 ≤ watts → watts < 327680 → spelled_watts watts ≡ watts / 10 * 10
tens watts l h = grind (arith, common_steps)

hundreds : (watts : ℕ) → 327680 ≤ watts → watts < 3276800 → spelled_watts watts ≡ watts / 100 * 100
hundreds watts l h = grind (arith, common_steps)

thousands : (watts : ℕ) → 3276800 ≤ watts → spelled_watts watts ≡ watts / 1000 * 1000
thousands watts l = grind (arith, common_steps)

pub spells_schedule : SpellsSchedule
spells_schedule watts zero value few w =
    let held : 1 * value ≤ watts = w.value_is.held in
    let most : watts < 1 * (value + 1) = w.value_is.most in
    let fits : value ≤ 32767 = w.fits in
    let e : spelled_watts watts ≡ watts = units watts (omega arith) in
    rw e (omega arith)
spells_schedule watts (suc zero) value few w =
    let held : 10 * value ≤ watts = w.value_is.held in
    let most : watts < 10 * (value + 1) = w.value_is.most in
    let fits : value ≤ 32767 = w.fits in
    let least : 32768 ≤ watts = w.least 0 (lit< tt) in
    let e : spelled_watts watts ≡ watts / 10 * 10 = tens watts least (omega arith) in
    rw e (omega arith)
spells_schedule watts (suc (suc zero)) value few w =
    let held : 100 * value ≤ watts = w.value_is.held in
    let most : watts < 100 * (value + 1) = w.value_is.most in
    let fits : value ≤ 32767 = w.fits in
    let least : 327680 ≤ watts = w.least 1 (lit< tt) in
    let e : spelled_watts watts ≡ watts / 100 * 100 = hundreds watts least (omega arith) in
    rw e (omega arith)
spells_schedule watts (suc (suc (suc zero))) value few w =
    let held : 1000 * value ≤ watts = w.value_is.held in
    let most : watts < 1000 * (value + 1) = w.value_is.most in
    let least : 3276800 ≤ watts = w.least 2 (lit< tt) in
    let e : spelled_watts watts ≡ watts / 1000 * 1000 = thousands watts least in
    rw e (omega arith)
spells_schedule watts (suc (suc (suc (suc n)))) value few w =
    let least : 32768000 ≤ watts = w.least 3 (omega arith) in
    absurd (omega arith)
