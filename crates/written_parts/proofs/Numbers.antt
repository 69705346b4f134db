-- A Value and a Multiplier that are written lie within their ranges.
use Rattle.std.proofs.Common.{◌≡◌, ℕ, ◌/◌, ◌<◌, ◌≤◌, Bool, true, false, ◌||◌, nat_lt, IsTrue, if◌then◌else◌, ℤ, pos, negsuc, arith, refl, lit<}
use Rattle.std.proofs.lemmas.Grind.{common_steps}
use Rattle.std.proofs.lemmas.Int.{ints}
use Rattle.exi_schema.specs.declared.tables.Datatype.{Datatype}
use Rattle.exi_schema.specs.declared.tables.Datatype.TheVariants.{Bounded, Signed}
use Rattle.exi_documents.specs.Trees.{Number}
use Rattle.exi_documents.specs.Values.{IsValue}
use Rattle.word_values.specs.declared.amounts.Written.{Written}
use Rattle.word_values.specs.Amounts.{is_whole, can_write_tenths, written, written_tenths, written_volts, written_watts}

-- -3 to 3, and 16 bits with a sign
abbrev pub multiplier_type : Datatype
multiplier_type = Bounded (negsuc 2) 7

abbrev pub value_type : Datatype
value_type = Signed (negsuc 32767) (pos 32767)

pub record IsPhysical (multiplier value : ℤ) : Type 0 where
  pub multiplier_fits : IsValue multiplier_type (Number multiplier)
  pub value_fits : IsValue value_type (Number value)

abbrev Fits : Written → Type 0
Fits w = IsPhysical w.multiplier w.value

pub value_few : (n : ℕ) → n ≤ 32767 → IsValue value_type (Number (pos n))
value_few n few = (omega (arith, ints), omega (arith, ints))

tenth : (n : ℕ) → n ≤ 32767 → Fits (written (negsuc 0) n)
tenth n few = record { multiplier_fits = (2, lit< tt, refl); value_fits = value_few n few }

unit : (n : ℕ) → n ≤ 32767 → Fits (written (pos 0) n)
unit n few = record { multiplier_fits = (3, lit< tt, refl); value_fits = value_few n few }

ten : (n : ℕ) → n ≤ 32767 → Fits (written (pos 1) n)
ten n few = record { multiplier_fits = (4, lit< tt, refl); value_fits = value_few n few }

hundred : (n : ℕ) → n ≤ 32767 → Fits (written (pos 2) n)
hundred n few = record { multiplier_fits = (5, lit< tt, refl); value_fits = value_few n few }

thousand : (n : ℕ) → n ≤ 32767 → Fits (written (pos 3) n)
thousand n few = record { multiplier_fits = (6, lit< tt, refl); value_fits = value_few n few }

-- ---- tenths

few_of : (size part : ℕ) → is_whole size part ≡ true → size / part ≤ 32767
few_of size part h = grind (arith, common_steps)

one_part : (size : ℕ) → is_whole size 1 ≡ true → size ≤ 32767
one_part size h = let few : size / 1 ≤ 32767 = few_of size 1 h in omega arith

last_of : (e : Bool) → IsTrue (false || false || false || false || e) → e ≡ true
last_of e h = h

chosen : Bool → Bool → Bool → Bool → ℕ → Written
chosen a b c d size =
    if a then written (negsuc 0) size else (
    if b then written (pos 0) (size / 10) else (
    if c then written (pos 1) (size / 100) else (
    if d then written (pos 2) (size / 1000) else written (pos 3) (size / 10000))))

chosen_fit : (size : ℕ) (a b c d : Bool) → is_whole size 1 ≡ a → is_whole size 10 ≡ b → is_whole size 100 ≡ c → is_whole size 1000 ≡ d
    → IsTrue (a || b || c || d || is_whole size 10000) → Fits (chosen a b c d size)
unfolding chosen
chosen_fit size true b c d p q r s h = tenth size (one_part size p)
chosen_fit size false true c d p q r s h = unit (size / 10) (few_of size 10 q)
chosen_fit size false false true d p q r s h = ten (size / 100) (few_of size 100 r)
chosen_fit size false false false true p q r s h = hundred (size / 1000) (few_of size 1000 s)
chosen_fit size false false false false p q r s h = thousand (size / 10000) (few_of size 10000 (last_of (is_whole size 10000) h))

pub tenths_fit : (size : ℕ) → IsTrue (can_write_tenths size) → IsPhysical (written_tenths size).multiplier (written_tenths size).value
unfolding chosen
tenths_fit size h = chosen_fit size (is_whole size 1) (is_whole size 10) (is_whole size 100) (is_whole size 1000) refl refl refl refl h

volts_chosen : (size : ℕ) (b : Bool) → is_whole size 10 ≡ b → IsTrue (can_write_tenths size)
    → Fits (if b then written (pos 0) (size / 10) else written_tenths size)
volts_chosen size true q h = unit (size / 10) (few_of size 10 q)
volts_chosen size false q h = tenths_fit size h

pub volts_fit : (size : ℕ) → IsTrue (can_write_tenths size) → IsPhysical (written_volts size).multiplier (written_volts size).value
volts_fit size h = volts_chosen size (is_whole size 10) refl h

-- ---- watts

few_watts : (watts most : ℕ) → nat_lt watts most ≡ true → watts < most
few_watts watts most h = grind (arith, common_steps)

watts_chosen : (watts : ℕ) (a b c : Bool) → nat_lt watts 32768 ≡ a → nat_lt watts 327680 ≡ b → nat_lt watts 3276800 ≡ c → watts < 32768000
    → Fits (if a then written (pos 0) watts else (
    if b then written (pos 1) (watts / 10) else (
    if c then written (pos 2) (watts / 100) else written (pos 3) (watts / 1000))))
watts_chosen watts true b c p q r few = let h : watts < 32768 = few_watts watts 32768 p in unit watts (omega arith)
watts_chosen watts false true c p q r few = let h : watts < 327680 = few_watts watts 327680 q in ten (watts / 10) (omega arith)
watts_chosen watts false false true p q r few = let h : watts < 3276800 = few_watts watts 3276800 r in hundred (watts / 100) (omega arith)
watts_chosen watts false false false p q r few = thousand (watts / 1000) (omega arith)

pub watts_fit : (watts : ℕ) → watts < 32768000 → IsPhysical (written_watts watts).multiplier (written_watts watts).value
watts_fit watts few = watts_chosen watts (nat_lt watts 32768) (nat_lt watts 327680) (nat_lt watts 3276800) refl refl refl few

pub none_fits : IsPhysical (pos 0) (pos 0)
none_fits = unit 0 (omega arith)
