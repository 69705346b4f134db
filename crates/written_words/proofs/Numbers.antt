-- What is written of amounts counts as them.
use Rattle.std.proofs.Common.{◌≡◌, ℕ, ◌*◌, ◌/◌, ◌%◌, ◌≤◌, Bool, true, false, ◌||◌, nat_lt, IsTrue, if◌then◌else◌, pos, negsuc, arith, refl}
use Rattle.std.proofs.lemmas.Grind.{common_steps}
use Rattle.session_words.specs.Amounts.{tenths_of, units_of}
use Rattle.session_rules.specs.Offers.{spelled_watts}
use Rattle.word_values.specs.declared.amounts.Written.{Written}
use Rattle.word_values.specs.Amounts.{nearest, is_whole, can_write_tenths, written, written_tenths, written_volts, written_watts}

-- what is written where these tests pass
abbrev chosen : Bool → Bool → Bool → Bool → ℕ → Written
chosen a b c d size =
    if a then written (negsuc 0) size else (
    if b then written (pos 0) (size / 10) else (
    if c then written (pos 1) (size / 100) else (
    if d then written (pos 2) (size / 1000) else written (pos 3) (size / 10000))))

abbrev counted : Written → ℕ
counted w = tenths_of (nearest w.multiplier) w.value

whole : (size part : ℕ) → is_whole size part ≡ true → size % part ≡ 0
whole size part h = grind (arith, common_steps)

tens : (size : ℕ) → is_whole size 10 ≡ true → size / 10 * 1000 / 100 ≡ size
tens size h = let rest : size % 10 ≡ 0 = whole size 10 h in omega arith

hundreds : (size : ℕ) → is_whole size 100 ≡ true → size / 100 * 10000 / 100 ≡ size
hundreds size h = let rest : size % 100 ≡ 0 = whole size 100 h in omega arith

thousands : (size : ℕ) → is_whole size 1000 ≡ true → size / 1000 * 100000 / 100 ≡ size
thousands size h = let rest : size % 1000 ≡ 0 = whole size 1000 h in omega arith

ten_thousands : (size : ℕ) → is_whole size 10000 ≡ true → size / 10000 * 1000000 / 100 ≡ size
ten_thousands size h = let rest : size % 10000 ≡ 0 = whole size 10000 h in omega arith

last_of : (e : Bool) → IsTrue (false || false || false || false || e) → e ≡ true
last_of e h = h

chosen_back : (size : ℕ) (a b c d : Bool) → is_whole size 10 ≡ b → is_whole size 100 ≡ c → is_whole size 1000 ≡ d
    → IsTrue (a || b || c || d || is_whole size 10000) → counted (chosen a b c d size) ≡ size
chosen_back size true b c d q r s h = let e : size * 100 / 100 ≡ size = omega arith in e
chosen_back size false true c d q r s h = tens size q
chosen_back size false false true d q r s h = hundreds size r
chosen_back size false false false true q r s h = thousands size s
chosen_back size false false false false q r s h = ten_thousands size (last_of (is_whole size 10000) h)

pub tenths_back : (size : ℕ) → IsTrue (can_write_tenths size) → counted (written_tenths size) ≡ size
tenths_back size h = chosen_back size (is_whole size 1) (is_whole size 10) (is_whole size 100) (is_whole size 1000) refl refl refl h

volts_chosen : (size : ℕ) (b : Bool) → is_whole size 10 ≡ b → IsTrue (can_write_tenths size)
    → counted (if b then written (pos 0) (size / 10) else written_tenths size) ≡ size
volts_chosen size true q h = tens size q
volts_chosen size false q h = tenths_back size h

pub volts_back : (size : ℕ) → IsTrue (can_write_tenths size) → counted (written_volts size) ≡ size
volts_back size h = volts_chosen size (is_whole size 10) refl h

-- ---- watts

abbrev watts_chosen : Bool → Bool → Bool → ℕ → Written
watts_chosen a b c watts =
    if a then written (pos 0) watts else (
    if b then written (pos 1) (watts / 10) else (
    if c then written (pos 2) (watts / 100) else written (pos 3) (watts / 1000)))

abbrev spelled_chosen : Bool → Bool → Bool → ℕ → ℕ
spelled_chosen a b c watts =
    if a then watts else (if b then watts / 10 * 10 else (if c then watts / 100 * 100 else watts / 1000 * 1000))

abbrev watts_counted : Written → ℕ
watts_counted w = units_of (nearest w.multiplier) w.value

chosen_watts_back : (watts : ℕ) (a b c : Bool) → watts_counted (watts_chosen a b c watts) ≡ spelled_chosen a b c watts
chosen_watts_back watts true b c = let e : watts * 1000 / 1000 ≡ watts = omega arith in e
chosen_watts_back watts false true c = let e : watts / 10 * 10000 / 1000 ≡ watts / 10 * 10 = omega arith in e
chosen_watts_back watts false false true = let e : watts / 100 * 100000 / 1000 ≡ watts / 100 * 100 = omega arith in e
chosen_watts_back watts false false false = let e : watts / 1000 * 1000000 / 1000 ≡ watts / 1000 * 1000 = omega arith in e

pub watts_back : (watts : ℕ) → watts_counted (written_watts watts) ≡ spelled_watts watts
watts_back watts = chosen_watts_back watts (nat_lt watts 32768) (nat_lt watts 327680) (nat_lt watts 3276800)

-- ---- what a post tells can be written

few_chosen : (size : ℕ) (b c d e : Bool) → is_whole size 1 ≡ true → IsTrue (is_whole size 1 || b || c || d || e)
few_chosen size b c d e h = grind (arith, common_steps)

pub few_tenths : (size : ℕ) → size ≤ 32767 → IsTrue (can_write_tenths size)
few_tenths size h =
    let rest : size % 1 ≡ 0 = omega arith in
    let quotient : size / 1 ≤ 32767 = omega arith in
    let whole_is : is_whole size 1 ≡ true = grind (arith, common_steps) in
    few_chosen size (is_whole size 10) (is_whole size 100) (is_whole size 1000) (is_whole size 10000) whole_is
