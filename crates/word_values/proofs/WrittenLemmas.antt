-- By which Multipliers a Value gives tenths, and which Value and Multiplier are written of watts.
use Rattle.std.proofs.Common.{◌≡◌, ℕ, zero, suc, ◌*◌, ◌/◌, ◌%◌, ◌+◌, ◌<◌, ◌≤◌, Bool, true, false, ◌||◌, IsTrue, ℤ, pos, negsuc, ◌≤ℤ◌, arith, refl, sym, lit<}
use Rattle.std.proofs.lemmas.Grind.{common_steps}
use Rattle.std.proofs.lemmas.Int.{ints}
use Rattle.session_words.specs.Amounts.{above_zero, tenths_of, IsWrittenWatts}
use Rattle.word_values.specs.Amounts.{is_whole, can_write_tenths, written, written_watts}

value_few : (v : ℤ) → v ≤ℤ pos 32767 → above_zero v ≤ 32767
value_few (pos n) h = omega (arith, ints)
value_few (negsuc n) h = omega arith

units_whole : (size n : ℕ) → n ≤ 32767 → n * 100 / 100 ≡ size → is_whole size 1 ≡ true
units_whole size n few e =
    let rest : size % 1 ≡ 0 = omega arith in
    let quotient : size / 1 ≤ 32767 = omega arith in
    grind (arith, common_steps)

tens_whole : (size n : ℕ) → n ≤ 32767 → n * 1000 / 100 ≡ size → is_whole size 10 ≡ true
tens_whole size n few e =
    let rest : size % 10 ≡ 0 = omega arith in
    let quotient : size / 10 ≤ 32767 = omega arith in
    grind (arith, common_steps)

hundreds_whole : (size n : ℕ) → n ≤ 32767 → n * 10000 / 100 ≡ size → is_whole size 100 ≡ true
hundreds_whole size n few e =
    let rest : size % 100 ≡ 0 = omega arith in
    let quotient : size / 100 ≤ 32767 = omega arith in
    grind (arith, common_steps)

thousands_whole : (size n : ℕ) → n ≤ 32767 → n * 100000 / 100 ≡ size → is_whole size 1000 ≡ true
thousands_whole size n few e =
    let rest : size % 1000 ≡ 0 = omega arith in
    let quotient : size / 1000 ≤ 32767 = omega arith in
    grind (arith, common_steps)

-- where neither -1, 0 nor 1 gives them, the Multiplier is at least 2
pub at_least_two : (size : ℕ) → is_whole size 1 ≡ false → is_whole size 10 ≡ false → is_whole size 100 ≡ false
    → (m v : ℤ) → negsuc 0 ≤ℤ m → m ≤ℤ pos 3 → v ≤ℤ pos 32767 → tenths_of m v ≡ size → pos 2 ≤ℤ m
at_least_two size a b c (negsuc zero) v l h f e = let t : is_whole size 1 ≡ true = units_whole size (above_zero v) (value_few v f) e in absurd (cc)
at_least_two size a b c (negsuc (suc k)) v l h f e = absurd (omega (arith, ints))
at_least_two size a b c (pos zero) v l h f e = let t : is_whole size 10 ≡ true = tens_whole size (above_zero v) (value_few v f) e in absurd (cc)
at_least_two size a b c (pos (suc zero)) v l h f e = let t : is_whole size 100 ≡ true = hundreds_whole size (above_zero v) (value_few v f) e in absurd (cc)
at_least_two size a b c (pos (suc (suc k))) v l h f e = omega (arith, ints)

pub at_least_three : (size : ℕ) → is_whole size 1 ≡ false → is_whole size 10 ≡ false → is_whole size 100 ≡ false → is_whole size 1000 ≡ false
    → (m v : ℤ) → negsuc 0 ≤ℤ m → m ≤ℤ pos 3 → v ≤ℤ pos 32767 → tenths_of m v ≡ size → pos 3 ≤ℤ m
at_least_three size a b c d (negsuc zero) v l h f e = let t : is_whole size 1 ≡ true = units_whole size (above_zero v) (value_few v f) e in absurd (cc)
at_least_three size a b c d (negsuc (suc k)) v l h f e = absurd (omega (arith, ints))
at_least_three size a b c d (pos zero) v l h f e = let t : is_whole size 10 ≡ true = tens_whole size (above_zero v) (value_few v f) e in absurd (cc)
at_least_three size a b c d (pos (suc zero)) v l h f e = let t : is_whole size 100 ≡ true = hundreds_whole size (above_zero v) (value_few v f) e in absurd (cc)
at_least_three size a b c d (pos (suc (suc zero))) v l h f e = let t : is_whole size 1000 ≡ true = thousands_whole size (above_zero v) (value_few v f) e in absurd (cc)
at_least_three size a b c d (pos (suc (suc (suc k)))) v l h f e = omega (arith, ints)

-- of five tests of which four fail, the fifth passes
pub last_of : (a b c d e : Bool) → IsTrue (a || b || c || d || e) → a ≡ false → b ≡ false → c ≡ false → d ≡ false → e ≡ true
last_of a b c d e h p q r s = grind (arith, common_steps)

-- what a whole number of parts gives
pub thousands_exact : (size : ℕ) → is_whole size 1000 ≡ true → (size / 1000 ≤ 32767) × (size / 1000 * 100000 / 100 ≡ size)
thousands_exact size h =
    let rest : size % 1000 ≡ 0 = grind (arith, common_steps) in
    let few : size / 1000 ≤ 32767 = grind (arith, common_steps) in
    (few, omega arith)

pub ten_thousands_exact : (size : ℕ) → is_whole size 10000 ≡ true → (size / 10000 ≤ 32767) × (size / 10000 * 1000000 / 100 ≡ size)
ten_thousands_exact size h =
    let rest : size % 10000 ≡ 0 = grind (arith, common_steps) in
    let few : size / 10000 ≤ 32767 = grind (arith, common_steps) in
    (few, omega arith)

-- ---- watts

units : (watts : ℕ) → watts < 32768 → written_watts watts ≡ written (pos 0) watts
units watts h = grind (arith, common_steps)

tens : (watts : ℕ) → 32768 ≤ watts → watts < 327680 → written_watts watts ≡ written (pos 1) (watts / 10)
tens watts l h = grind (arith, common_steps)

hundreds : (watts : ℕ) → 327680 ≤ watts → watts < 3276800 → written_watts watts ≡ written (pos 2) (watts / 100)
hundreds watts l h = grind (arith, common_steps)

thousands : (watts : ℕ) → 3276800 ≤ watts → written_watts watts ≡ written (pos 3) (watts / 1000)
thousands watts l = grind (arith, common_steps)

-- the least Multiplier and its Value are those
pub watts_written : (watts multiplier value : ℕ) → watts < 32768000 → IsWrittenWatts watts multiplier value → written (pos multiplier) value ≡ written_watts watts
watts_written watts zero value few w =
    let held : 1 * value ≤ watts = w.value_is.held in
    let most : watts < 1 * (value + 1) = w.value_is.most in
    let fits : value ≤ 32767 = w.fits in
    let e : written_watts watts ≡ written (pos 0) watts = units watts (omega arith) in
    let v : value ≡ watts = omega arith in
    cc
watts_written watts (suc zero) value few w =
    let held : 10 * value ≤ watts = w.value_is.held in
    let most : watts < 10 * (value + 1) = w.value_is.most in
    let fits : value ≤ 32767 = w.fits in
    let least : 32768 ≤ watts = w.least 0 (lit< tt) in
    let e : written_watts watts ≡ written (pos 1) (watts / 10) = tens watts least (omega arith) in
    let v : value ≡ watts / 10 = omega arith in
    cc
watts_written watts (suc (suc zero)) value few w =
    let held : 100 * value ≤ watts = w.value_is.held in
    let most : watts < 100 * (value + 1) = w.value_is.most in
    let fits : value ≤ 32767 = w.fits in
    let least : 327680 ≤ watts = w.least 1 (lit< tt) in
    let e : written_watts watts ≡ written (pos 2) (watts / 100) = hundreds watts least (omega arith) in
    let v : value ≡ watts / 100 = omega arith in
    cc
watts_written watts (suc (suc (suc zero))) value few w =
    let held : 1000 * value ≤ watts = w.value_is.held in
    let most : watts < 1000 * (value + 1) = w.value_is.most in
    let least : 3276800 ≤ watts = w.least 2 (lit< tt) in
    let e : written_watts watts ≡ written (pos 3) (watts / 1000) = thousands watts least in
    let v : value ≡ watts / 1000 = omega arith in
    cc
watts_written watts (suc (suc (suc (suc n)))) value few w =
    let least : 32768000 ≤ watts = w.least 3 (omega arith) in
    absurd (omega arith)
