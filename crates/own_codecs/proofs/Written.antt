-- Watts as a message writes them, and a current.
use Rattle.std.proofs.Common.{◌≡◌, ◌≤◌, ◌<◌, ℕ, zero, suc, ◌*◌, ◌/◌, ◌%◌, ◌^◌, Bool, true, false, refl, arith}
use Rattle.std.specs.Prelude.{nat_lt, pos, negsuc}
use Rattle.std.proofs.lemmas.Bool.Decides.{nat_tests}
use Rattle.std.proofs.lemmas.Grind.{common_steps}
use Rattle.charge_world.specs.declared.offer.Dialect.{Dialect}
use Rattle.session_words.specs.Amounts.{IsWrittenWatts}
use Rattle.session_words.specs.declared.plan.PostPlan.{PostPlan}
use Rattle.session_rules.specs.Offers.{ac_current_at}
use Rattle.word_values.specs.Amounts.{nearest, is_whole, written_tenths, written_watts}
use Rattle.word_values.specs.declared.amounts.Written.{Written as Word}
use Rattle.told_pasts.specs.Spelling.{Written, Writes, WritesCurrent, AreTold}
use Rattle.audit_watts.specs.Values.{no_watts}

-- as the reader of a trace has what a message writes
abbrev pub as_read : Word → Written
as_read w = record { multiplier = nearest w.multiplier; value = w.value }

-- by which Multiplier
least_one : (n k : ℕ) → 32768 ≤ n → k < 1 → 32768 * 10 ^ k ≤ n
least_one n zero h l = h
least_one n (suc k) h l = absurd (omega (arith, l))

least_two : (n k : ℕ) → 327680 ≤ n → k < 2 → 32768 * 10 ^ k ≤ n
least_two n zero h l = omega (arith, h)
least_two n (suc zero) h l = h
least_two n (suc (suc k)) h l = absurd (omega (arith, l))

least_three : (n k : ℕ) → 3276800 ≤ n → k < 3 → 32768 * 10 ^ k ≤ n
least_three n zero h l = omega (arith, h)
least_three n (suc zero) h l = omega (arith, h)
least_three n (suc (suc zero)) h l = h
least_three n (suc (suc (suc k))) h l = absurd (omega (arith, l))

in_units : (n : ℕ) → n < 32768 → IsWrittenWatts n 0 n
in_units n h = record { value_is = record { held = omega arith; most = omega arith }; fits = omega (arith, h); least = λ k l. absurd (omega (arith, l)) }

in_tens : (n : ℕ) → 32768 ≤ n → n < 327680 → IsWrittenWatts n 1 (n / 10)
in_tens n l h = record { value_is = record { held = omega arith; most = omega arith }; fits = omega (arith, h); least = λ k m. least_one n k l m }

in_hundreds : (n : ℕ) → 327680 ≤ n → n < 3276800 → IsWrittenWatts n 2 (n / 100)
in_hundreds n l h = record { value_is = record { held = omega arith; most = omega arith }; fits = omega (arith, h); least = λ k m. least_two n k l m }

in_thousands : (n : ℕ) → 3276800 ≤ n → n < 32768000 → IsWrittenWatts n 3 (n / 1000)
in_thousands n l h = record { value_is = record { held = omega arith; most = omega arith }; fits = omega (arith, h); least = λ k m. least_three n k l m }

one_written : (n m v : ℕ) → IsWrittenWatts n m v → Writes n (record { multiplier = pos m; value = pos v })
one_written n m v w = (m, v, w, refl)

less_by : (n m : ℕ) → nat_lt n m ≡ true → n < m
less_by n m e = grind (arith, nat_tests)

least_by : (n m : ℕ) → nat_lt n m ≡ false → m ≤ n
least_by n m e = grind (arith, nat_tests)

watts_by : (n : ℕ) (a b d : Bool) → nat_lt n 32768 ≡ a → nat_lt n 327680 ≡ b → nat_lt n 3276800 ≡ d → n < 32768000 → Writes n (as_read (written_watts n))
watts_by n true b d e f g h = rw e (one_written n 0 n (in_units n (less_by n 32768 e)))
watts_by n false true d e f g h = rw (e, f) (one_written n 1 (n / 10) (in_tens n (least_by n 32768 e) (less_by n 327680 f)))
watts_by n false false true e f g h = rw (e, f, g) (one_written n 2 (n / 100) (in_hundreds n (least_by n 327680 f) (less_by n 3276800 g)))
watts_by n false false false e f g h = rw (e, f, g) (one_written n 3 (n / 1000) (in_thousands n (least_by n 3276800 g) h))

pub watts_written : (n : ℕ) → n < 32768000 → Writes n (as_read (written_watts n))
watts_written n h = watts_by n (nat_lt n 32768) (nat_lt n 327680) (nat_lt n 3276800) refl refl refl h

-- a current that a post tells is written in tenths
whole_one : (n : ℕ) → n ≤ 32767 → is_whole n 1 ≡ true
whole_one n h =
    let rest : n % 1 ≡ 0 = omega arith in
    let few : n / 1 ≤ 32767 = omega (arith, h) in
    grind (arith, common_steps)

few_tenths : (plan : PostPlan) (told : ℕ) → ac_current_at plan told ≤ 32767
few_tenths plan told = omega arith

tenths_by : (n : ℕ) → is_whole n 1 ≡ true → as_read (written_tenths n) ≡ record { multiplier = negsuc 0; value = pos n }
tenths_by n e = rw e refl

pub current_written : (plan : PostPlan) (told : ℕ) → WritesCurrent plan told (as_read (written_tenths (ac_current_at plan told)))
current_written plan told = tenths_by (ac_current_at plan told) (whole_one (ac_current_at plan told) (few_tenths plan told))

-- no watts are those of any post
pub none_told : (plan : PostPlan) (d : Dialect) (told : ℕ) → AreTold plan d told no_watts
none_told plan d told = record { power = tt; current = tt; p_max = tt }
