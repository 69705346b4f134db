-- Bits that are written at once, as a number.
use Rattle.std.proofs.Common.{◌≡◌, ℕ, suc, ◌+◌, ◌-◌, ◌*◌, ◌/◌, ◌%◌, ◌^◌, ◌<◌, ◌≤◌, Bool, true, false, ltb, List, [], ◌∷◌, ◌++◌, length, Option, Some, None, OnSome, Result, Ok, Err, OnOk, refl, sym, ap, subst, ◌∙◌, arith, append_assoc, ◌↔◌, ℤ, pos, negsuc, if◌then◌else◌}
use Rattle.std.specs.Result.{IsErr}
use Rattle.std.proofs.lemmas.Bool.{le-ltb}
use Rattle.std.proofs.lemmas.List.{length-append}
use Rattle.std.proofs.lemmas.Nat.{mul-add-lt, pow-add, shl_whole}
use Rattle.std.proofs.Math.Nat.{mul_comm, pow-le-pow_right}
use Rattle.exi_spec.specs.Bits.{number_bits}
use Rattle.exi_spec.specs.Items.{octet, shortest_within, shortest_unsigned, shortest_integer}
use Rattle.exi_spec.proofs.BitLaws.{length-number_bits, low_octet, high_octet}
use Rattle.exi_bits.specs.Pens.{written_bits, Writes, Needs}
use Rattle.exi_bits.specs.declared.pen.BitPen.{BitPen}
use mir.Val.{bool_byte}
use Rattle.exi_bits.proofs.Parts.{one_bit}
use Rattle.exi_bits.proofs.Shortest.{shortest_low}
use Rattle.exi_bits.proofs.Windows.{number_bits-add, number_bits-mod, number_bits-join}
use Rattle.exi_schema.specs.declared.tables.Datatype.{Datatype}
use Rattle.exi_schema.specs.declared.tables.Datatype.TheVariants.{Bool as BoolType}
use Rattle.exi_writing.specs.ShortValue.{ShortValue}
use Rattle.exi_writing.specs.ShortValue.TheVariants as short
use Rattle.exi_writing.specs.Short.{tree_of}
use Rattle.exi_writing.specs.Values.{Entries, WritesValue}
use Rattle.exi_writing.proofs.Pens.{writes_both}

pub no_bits : number_bits 0 0 ≡ []
unfolding number_bits
no_bits = refl

-- ---- a number behind another one

module _ (count number value n : ℕ) (held : number < 2 ^ count) (range : value < 2 ^ n) where
  word_below : number * 2 ^ n + value < 2 ^ (count + n)
  word_below =
      let power : 2 ^ (count + n) ≡ 2 ^ n * 2 ^ count = pow-add 2 count n ∙ mul_comm (2 ^ count) (2 ^ n) in
      let below : number * 2 ^ n + value < 2 ^ n * 2 ^ count = mul-add-lt number (2 ^ n) value (2 ^ count) held range in
      omega (arith, power, below)

  pub word_whole : count + n ≤ 64 → number * 2 ^ n % 2 ^ 64 + value ≡ number * 2 ^ n + value
  word_whole fits = ap (λ (k : ℕ). k + value) (shl_whole number count n 64 held fits)

  pub word_range : count + n ≤ 64 → number * 2 ^ n % 2 ^ 64 + value < 2 ^ (count + n)
  word_range fits = omega (arith, word_below, word_whole fits)

  pub word_fits : count + n ≤ 64 → number * 2 ^ n % 2 ^ 64 + value < 2 ^ 64
  word_fits fits =
      let within : 2 ^ (count + n) ≤ 2 ^ 64 = pow-le-pow_right {n = 2} (omega arith) {i = count + n} {j = 64} fits in
      omega (arith, word_range fits, within)

  pub word_pushed : (old : List Bool) → count + n ≤ 64 → number_bits count number ≡ old → number_bits (count + n) (number * 2 ^ n % 2 ^ 64 + value) ≡ old ++ number_bits n value
  word_pushed old fits is =
      ap (λ (k : ℕ). number_bits (count + n) k) (word_whole fits)
      ∙ number_bits-join count n number value range
      ∙ ap (λ (l : List Bool). l ++ number_bits n value) is

pub word_full : (count number n : ℕ) (old : List Bool) → number_bits count number ≡ old → 64 < count + n → 64 < length old + n
word_full count number n old is more = omega (arith, more, ap length is, length-number_bits count number)

-- ---- options

pub some_weaker : {T : Type 0} (r : Option T) (P Q : Type 0) → (P → Q) → OnSome r P → OnSome r Q
some_weaker {T} None P Q f h = tt
some_weaker {T} (Some x) P Q f h = f h

-- ---- octets

pub octets_high : (more v : ℕ) → 128 ≤ v → shortest_within (suc more) v ≡ octet true (v % 128) ++ shortest_within more (v / 128)
unfolding shortest_within
octets_high more v h = let high : ltb v 128 ≡ false = le-ltb _ _ h in rw high refl

last_octet : (more v : ℕ) → v < 128 → number_bits 8 v ≡ shortest_within more v
last_octet more v low = low_octet v low ∙ sym (shortest_low more v low)

first_octet : (more v : ℕ) → 128 ≤ v → number_bits 8 (v % 128 + 128) ++ shortest_within more (v / 128) ≡ shortest_within (suc more) v
first_octet more v high =
    ap (λ (l : List Bool). l ++ shortest_within more (v / 128)) (high_octet (v % 128) (omega arith)) ∙ sym (octets_high more v high)

pub one_pushed : (old new : List Bool) (v : ℕ) → v < 128 → new ≡ old ++ number_bits 8 v → new ≡ old ++ shortest_unsigned v
one_pushed old new v low is = is ∙ ap (λ (l : List Bool). old ++ l) (last_octet 9 v low)

behind_octet : (more v : ℕ) (old mid new rest : List Bool) → 128 ≤ v → mid ≡ old ++ number_bits 8 (v % 128 + 128) → new ≡ mid ++ rest → rest ≡ shortest_within more (v / 128) → new ≡ old ++ shortest_within (suc more) v
behind_octet more v old mid new rest high first last is =
    last
    ∙ ap (λ (l : List Bool). l ++ rest) first
    ∙ append_assoc old (number_bits 8 (v % 128 + 128)) rest
    ∙ ap (λ (l : List Bool). old ++ (number_bits 8 (v % 128 + 128) ++ l)) is
    ∙ ap (λ (l : List Bool). old ++ l) (first_octet more v high)

pub two_pushed : (old mid new : List Bool) (v : ℕ) → 128 ≤ v → v < 16384 → mid ≡ old ++ number_bits 8 (v % 128 + 128) → new ≡ mid ++ number_bits 8 (v / 128) → new ≡ old ++ shortest_unsigned v
two_pushed old mid new v high low first last =
    behind_octet 8 v old mid new (number_bits 8 (v / 128)) high first last (last_octet 8 (v / 128) (omega (arith, low)))

pub three_pushed : (old one two new : List Bool) (v : ℕ) → 16384 ≤ v → v < 2097152 → one ≡ old ++ number_bits 8 (v % 128 + 128) → two ≡ one ++ number_bits 8 (v / 128 % 128 + 128) → new ≡ two ++ number_bits 8 (v / 128 / 128) → new ≡ old ++ shortest_unsigned v
three_pushed old one two new v high low first second third =
    let rest : new ≡ one ++ shortest_within 8 (v / 128) =
    behind_octet 7 (v / 128) one two new (number_bits 8 (v / 128 / 128)) (omega (arith, high)) second third (last_octet 7 (v / 128 / 128) (omega (arith, low))) in
    behind_octet 8 v old one new (shortest_within 8 (v / 128)) (omega (arith, high)) first rest refl

-- ---- a sign

pub signed_is : (negative : Bool) (n : ℕ) → negative ∷ shortest_unsigned n ≡ shortest_integer (if negative then negsuc n else pos n)
signed_is true n = refl
signed_is false n = refl

pub signed_pushed : (old mid new : List Bool) (negative : Bool) (sign n : ℕ) (v : ℤ) → sign ≡ bool_byte negative → v ≡ (if negative then negsuc n else pos n) →
    mid ≡ old ++ number_bits 1 sign → new ≡ mid ++ shortest_unsigned n → new ≡ old ++ shortest_integer v
signed_pushed old mid new negative sign n v sign_is is first rest =
    rest
    ∙ ap (λ (l : List Bool). l ++ shortest_unsigned n) (first ∙ ap (λ (l : List Bool). old ++ l) (ap (λ (k : ℕ). number_bits 1 k) sign_is ∙ one_bit negative))
    ∙ append_assoc old (negative ∷ []) (shortest_unsigned n)
    ∙ ap (λ (l : List Bool). old ++ l) (signed_is negative n ∙ ap shortest_integer (sym is))

-- ---- a pen with room

ok_of : {T E : Type 0} (r : Result T E) (P N : Type 0) → (IsErr r ↔ N) → (N → ⊥) → OnOk r P → P
ok_of {T} {E} (Ok x) P N full room ok = ok
ok_of {T} {E} (Err e) P N full room ok = absurd (room (full.0 refl))

pub put_few : {T E : Type 0} (r : Result T E) (old new : BitPen) (n : ℕ) (bits : List Bool) → n ≤ 64 → length (written_bits old) + 64 ≤ 8 * length old.room.now → (IsErr r ↔ Needs old n) → OnOk r (Writes old new bits) → Writes old new bits
put_few {T} {E} r old new n bits few room full ok = ok_of r (Writes old new bits) (Needs old n) full (λ needs. omega (arith, few, room, needs)) ok

pub put_rest : {T E : Type 0} (r : Result T E) (old mid new : BitPen) (high n : ℕ) (front bits : List Bool) → high + n ≤ 64 → length front ≡ high → length (written_bits old) + 64 ≤ 8 * length old.room.now → Writes old mid front → (IsErr r ↔ Needs mid n) → OnOk r (Writes mid new bits) → Writes old new (front ++ bits)
put_rest {T} {E} r old mid new high n front bits few long room wrote full ok =
    writes_both old mid new front bits wrote
    (ok_of r (Writes mid new bits) (Needs mid n) full (λ needs. omega (arith, few, long, room, needs, wrote.room, ap length wrote.written, length-append (written_bits old) front)) ok)

pub both_parts : (count number : ℕ) → 32 ≤ count → number_bits (count - 32) (number / 2 ^ 32) ++ number_bits 32 (number % 2 ^ 32) ≡ number_bits count number
both_parts count number more =
    let sum : count - 32 + 32 ≡ count = omega (arith, more) in
    ap (λ (l : List Bool). number_bits (count - 32) (number / 2 ^ 32) ++ l) (number_bits-mod 32 number)
    ∙ sym (number_bits-add (count - 32) 32 number)
    ∙ ap (λ (k : ℕ). number_bits k number) sum

pub high_range : (count number : ℕ) → 32 ≤ count → number < 2 ^ count → number / 2 ^ 32 < 2 ^ (count - 32)
high_range count number more held =
    let sum : count - 32 + 32 ≡ count = omega (arith, more) in
    let power : 2 ^ count ≡ 2 ^ (count - 32) * 2 ^ 32 = ap (λ (k : ℕ). 2 ^ k) (sym sum) ∙ pow-add 2 (count - 32) 32 in
    omega (arith, power, held)

pub low_range : (count number : ℕ) → count ≤ 32 → number < 2 ^ count → number < 2 ^ 32
low_range count number few held =
    let within : 2 ^ count ≤ 2 ^ 32 = pow-le-pow_right {n = 2} (omega arith) {i = count} {j = 32} few in
    omega (arith, held, within)

-- ---- a Boolean

pub bool_writes : (d : Datatype) (v : ShortValue) (truth : Bool) → d ≡ BoolType → v ≡ short.Bool truth → (entries : Entries) (name : ℕ) → WritesValue d entries name (tree_of v) (truth ∷ []) entries
bool_writes d v truth is v_is entries name =
    subst (λ (e : Datatype). WritesValue e entries name (tree_of v) (truth ∷ []) entries) (sym is)
    (subst (λ (w : ShortValue). WritesValue BoolType entries name (tree_of w) (truth ∷ []) entries) (sym v_is) (refl, refl))

-- ---- pieces behind one another

pub code_pushed : (old new : List Bool) (n a b : ℕ) → new ≡ old ++ number_bits n a → a ≡ b → new ≡ old ++ number_bits n b
code_pushed old new n a b is same = is ∙ ap (λ (k : ℕ). old ++ number_bits n k) same

pub three_joined : (w0 w1 w2 w3 w4 w5 code a b c end : List Bool) → w0 ≡ [] → w1 ≡ w0 ++ code → w2 ≡ w1 ++ a → w3 ≡ w2 ++ b → w4 ≡ w3 ++ c → w5 ≡ w4 ++ end → w5 ≡ code ++ (a ++ (b ++ (c ++ end)))
three_joined w0 w1 w2 w3 w4 w5 code a b c end none is1 is2 is3 is4 is5 =
    let one : w1 ≡ code = is1 ∙ ap (λ (l : List Bool). l ++ code) none in
    let two : w2 ≡ code ++ a = is2 ∙ ap (λ (l : List Bool). l ++ a) one in
    let three : w3 ≡ code ++ (a ++ b) = is3 ∙ ap (λ (l : List Bool). l ++ b) two ∙ append_assoc code a b in
    let four : w4 ≡ code ++ ((a ++ b) ++ c) = is4 ∙ ap (λ (l : List Bool). l ++ c) three ∙ append_assoc code (a ++ b) c in
    is5
    ∙ ap (λ (l : List Bool). l ++ end) four
    ∙ append_assoc code ((a ++ b) ++ c) end
    ∙ ap (λ (l : List Bool). code ++ l) (append_assoc (a ++ b) c end ∙ append_assoc a b (c ++ end))

pub two_joined : (w0 w1 w2 w3 w4 code a b end : List Bool) → w0 ≡ [] → w1 ≡ w0 ++ code → w2 ≡ w1 ++ a → w3 ≡ w2 ++ b → w4 ≡ w3 ++ end → w4 ≡ code ++ (a ++ (b ++ end))
two_joined w0 w1 w2 w3 w4 code a b end none is1 is2 is3 is4 =
    let one : w1 ≡ code = is1 ∙ ap (λ (l : List Bool). l ++ code) none in
    let two : w2 ≡ code ++ a = is2 ∙ ap (λ (l : List Bool). l ++ a) one in
    let three : w3 ≡ code ++ (a ++ b) = is3 ∙ ap (λ (l : List Bool). l ++ b) two ∙ append_assoc code a b in
    is4
    ∙ ap (λ (l : List Bool). l ++ end) three
    ∙ append_assoc code (a ++ b) end
    ∙ ap (λ (l : List Bool). code ++ l) (append_assoc a b end)

pub three_behind : (old code a b c end : List Bool) → old ++ (code ++ (a ++ (b ++ (c ++ end)))) ≡ ((((old ++ code) ++ a) ++ b) ++ c) ++ end
three_behind old code a b c end =
    sym (append_assoc (((old ++ code) ++ a) ++ b) c end
    ∙ append_assoc ((old ++ code) ++ a) b (c ++ end)
    ∙ append_assoc (old ++ code) a (b ++ (c ++ end))
    ∙ append_assoc old code (a ++ (b ++ (c ++ end))))
