-- What is written for a value is no more than its weight.
use Rattle.std.proofs.Common.{◌≡◌, ℕ, zero, suc, ℤ, pos, negsuc, ◌+◌, ◌*◌, ◌/◌, ◌%◌, ◌^◌, ◌<◌, ◌≤◌, nat_lt, ◌==◌, if◌then◌else◌, Bool, true, false, ltb, List, [], ◌∷◌, ◌++◌, length, refl, ap, inl, inr, arith}
use Rattle.std.specs.List.{AllByRecursion}
use Rattle.std.specs.Char.{IsScalar}
use Rattle.std.proofs.lemmas.Bool.{cases_lt, lt-ltb, le-ltb, ltb-true, leb-true}
use Rattle.std.proofs.lemmas.Bool.Decides.{nat_tests}
use Rattle.std.proofs.lemmas.List.{length-append}
use Rattle.std.proofs.lemmas.Nat.{div_below}
use Rattle.std.proofs.Math.Nat.{pow-suc}
use Rattle.exi_spec.specs.Bits.{bits_of}
use Rattle.exi_spec.specs.Items.{octet, shortest_within, shortest_unsigned, shortest_integer, shortest_chars}
use Rattle.exi_spec.proofs.BitLaws.{length-number_bits, length-bits_of}
use Rattle.exi_schema.specs.declared.tables.Datatype.{Datatype}
use Rattle.exi_schema.specs.declared.tables.Datatype.TheVariants.{Bool as BoolType, Named, Bounded, Unsigned, Signed, Binary, Text as TextType}
use Rattle.exi_strings.specs.Table.{global_of, local_of}
use Rattle.exi_strings.specs.Texts.{WritesHit, WritesText}
use Rattle.exi_documents.specs.Trees.{Value, Truth, Ordinal, Number, Bytes, Text}
use Rattle.exi_documents.specs.Values.{Entries, most_entries, SpellsCode, WritesValue}
use Rattle.document_sizes.specs.Sizes.{is_narrow_datatype, value_weight}

-- ---- Unsigned Integers

shortest_low : (more v : ℕ) → v < 128 → shortest_within more v ≡ octet false v
unfolding shortest_within
shortest_low zero v h = refl
shortest_low (suc more) v h = let low : ltb v 128 ≡ true = lt-ltb _ _ h in rw low refl

shortest_high : (more v : ℕ) → 128 ≤ v → shortest_within (suc more) v ≡ octet true (v % 128) ++ shortest_within more (v / 128)
unfolding shortest_within
shortest_high more v h = let high : ltb v 128 ≡ false = le-ltb _ _ h in rw high refl

shortest_last : (v : ℕ) → shortest_within zero v ≡ octet false v
unfolding shortest_within
shortest_last v = refl

octet_long : (more : Bool) (group : ℕ) → length (octet more group) ≡ 8
octet_long more group = ap suc (length-number_bits 7 group)

low_long : (more v : ℕ) → v < 128 → length (shortest_within more v) ≡ 8
low_long more v low = omega (arith, ap length (shortest_low more v low), octet_long false v)

high_long : (more v : ℕ) → 128 ≤ v → length (shortest_within (suc more) v) ≡ 8 + length (shortest_within more (v / 128))
high_long more v high = omega (arith, ap length (shortest_high more v high), length-append (octet true (v % 128)) (shortest_within more (v / 128)), octet_long true (v % 128))

all_octets : (more v : ℕ) → length (shortest_within more v) ≤ 8 + 8 * more
all_octets zero v = omega (arith, ap length (shortest_last v), octet_long false v)
all_octets (suc more) v =
    elim (cases_lt v 128) [
      | inl low ↦ omega (arith, low_long (suc more) v low)
      | inr high ↦ omega (arith, high_long more v high, all_octets more (v / 128))
    ]

-- of a number so small
few_octets : (more k v : ℕ) → v < 128 ^ suc k → length (shortest_within more v) ≤ 8 + 8 * k
few_octets zero k v bound = omega (arith, ap length (shortest_last v), octet_long false v)
few_octets (suc more) zero v bound = let low : v < 128 = omega (arith, bound) in omega (arith, low_long (suc more) v low)
few_octets (suc more) (suc k) v bound =
    elim (cases_lt v 128) [
      | inl low ↦ omega (arith, low_long (suc more) v low)
      | inr high ↦
          let power : 128 ^ suc (suc k) ≡ 128 ^ suc k * 128 = pow-suc 128 (suc k) in
          let below : v / 128 < 128 ^ suc k = div_below v 128 (128 ^ suc k) (omega arith) (omega (arith, power, bound)) in
          omega (arith, high_long more v high, few_octets more k (v / 128) below)
    ]

unsigned_long : (n : ℕ) → length (shortest_unsigned n) ≤ 80
unsigned_long n = omega (arith, all_octets 9 n)

three_octets : (n : ℕ) → n < 2 ^ 21 → length (shortest_unsigned n) ≤ 24
three_octets n small = omega (arith, few_octets 9 2 n (omega (arith, small)))

integer_long : (v : ℤ) → length (shortest_integer v) ≤ 81
integer_long (pos n) = omega (arith, unsigned_long n)
integer_long (negsuc n) = omega (arith, unsigned_long n)

-- ---- codes

code_long : (count code w : ℕ) (bits : List Bool) → count ≤ 2 ^ w → SpellsCode count code bits → length bits ≤ w
code_long count code w bits few s =
    let width = s.is_width.least w few in
    omega (arith, width, ap length s.spelled, length-number_bits s.width code)

-- ---- texts

scalar_small : (char : ℕ) → IsScalar char → char < 2 ^ 21
scalar_small char is = grind (arith, nat_tests)

chars_long : (chars : List ℕ) → AllByRecursion (λ char. IsScalar char) chars → length (shortest_chars chars) ≤ 24 * length chars
chars_long [] all = omega arith
chars_long (char ∷ chars) all =
    let small : char < 2 ^ 21 = scalar_small char all.0 in
    omega (arith, three_octets char small, chars_long chars all.1, length-append (shortest_unsigned char) (shortest_chars chars))

global_few : (entries : Entries) → length (global_of entries) ≤ length entries
global_few [] = omega arith
global_few (entry ∷ entries) = omega (arith, global_few entries)

local_few : (name : ℕ) (entries : Entries) → length (local_of name entries) ≤ length entries
local_few name [] = omega arith
local_few name (entry ∷ entries) =
    elim (entry.0 == name) as (λ b. length (if b then entry.1 ∷ local_of name entries else local_of name entries) ≤ suc (length entries))
    [ true ↦ omega (arith, local_few name entries) | false ↦ omega (arith, local_few name entries) ]

hit_long : (n : ℕ) (partition : List (List ℕ)) (text : List ℕ) (bits : List Bool) → n < 128 → length partition ≤ most_entries → WritesHit n partition text bits → length bits ≤ 24
hit_long n partition text bits small few h =
    let index = h.1 in
    let width = index.3.least 13 (omega (arith, few)) in
    omega (arith, width, ap length index.4, length-number_bits index.1 index.0, few_octets 9 0 n (omega (arith, small)), ap length h.2, length-append (shortest_unsigned n) h.0)

text_long : (entries after : Entries) (name : ℕ) (chars : List ℕ) (bits : List Bool) → length chars + 2 < 2 ^ 21 → AllByRecursion (λ char. IsScalar char) chars → length after ≤ most_entries →
    WritesText entries name chars bits after → length bits ≤ 24 + 24 * length chars
text_long entries after name chars bits short all few (inl h) =
    let same = ap length h.1 in
    let hit = hit_long 0 (local_of name entries) chars bits (omega arith) (omega (arith, few, same, local_few name entries)) h.0 in
    omega (arith, hit)
text_long entries after name chars bits short all few (inr (inl h)) =
    let same = ap length h.2 in
    let hit = hit_long 1 (global_of entries) chars bits (omega arith) (omega (arith, few, same, global_few entries)) h.1 in
    omega (arith, hit)
text_long entries after name chars bits short all few (inr (inr h)) =
    omega (arith, three_octets (length chars + 2) short, chars_long chars all, ap length h.2, length-append (shortest_unsigned (length chars + 2)) (shortest_chars chars))

-- ---- values

below : (n most : ℕ) → n ≤ most → nat_lt (most + 2) (2 ^ 21) ≡ true → n + 2 < 2 ^ 21
below n most within narrow = let less = ltb-true (most + 2) (2 ^ 21) narrow in omega (arith, within, less)

pub value_small : (w : ℕ) (d : Datatype) (entries : Entries) (name : ℕ) (v : Value) (bits : List Bool) (after : Entries) → is_narrow_datatype w d ≡ true → WritesValue d entries name v bits after → length bits ≤ value_weight w v
value_small w BoolType entries name (Truth t) bits after narrow h = omega (arith, ap length h.0)
value_small w (Named count) entries name (Ordinal n) bits after narrow h = code_long count n w bits (leb-true count (2 ^ w) narrow) h.0
value_small w (Bounded least count) entries name (Number n) bits after narrow h =
    let few : count ≤ 4096 = leb-true count 4096 narrow in
    let long = code_long count h.0.0 12 bits (omega (arith, few)) h.0.2 in omega (arith, long)
value_small w (Unsigned most) entries name (Number (pos n)) bits after narrow h = omega (arith, ap length h.1, unsigned_long n)
value_small w (Signed least most) entries name (Number v) bits after narrow h = omega (arith, ap length h.2, integer_long v)
value_small w (Binary most) entries name (Bytes bytes) bits after narrow h =
    omega (arith, three_octets (length bytes) (omega (arith, below (length bytes) most h.0.0 narrow)), ap length h.1, length-append (shortest_unsigned (length bytes)) (bits_of bytes), length-bits_of bytes)
value_small w (TextType most) entries name (Text chars) bits after narrow h =
    text_long entries after name chars bits (below (length chars) most h.0.0 narrow) h.0.1 h.2 h.1
value_small w d entries name v bits after narrow h = absurd h
