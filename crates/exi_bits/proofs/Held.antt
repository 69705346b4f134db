-- The bits that a window holds.
use Rattle.std.proofs.Common.{eqb, cond, ℤ, pos, negsuc, true, ◌≡◌, ℕ, zero, suc, ◌+◌, ◌-◌, ◌*◌, ◌/◌, ◌%◌, ◌^◌, ◌<◌, ◌≤◌, Bool, List, [], ◌∷◌, ◌++◌, length, get_or, take, drop, refl, sym, ap, subst, ◌∙◌, arith, append_assoc, w64}
use Rattle.std.specs.Int.{from_be_bytes}
use Rattle.std.proofs.Math.Seq.{take-add}
use Rattle.std.proofs.lemmas.List.{length-append, take_at, drop_at, drop-drop, get_or-drop, take-append-le}
use Rattle.std.proofs.lemmas.Nat.{mul-add-lt, pow-add, pow_pos, shr_below}
use Rattle.exi_spec.specs.Bits.{number_bits, bits_of}
use Rattle.exi_spec.specs.Items.{SpellsBool, SpellsNumber, SpellsUnsigned, SpellsInteger, SpellsOctets, octet}
use Rattle.exi_spec.proofs.BitLaws.{length-number_bits, low_octet, high_octet}
use Rattle.exi_spec.proofs.OctetLaws.{only_octet, more_octets}
use Rattle.exi_bits.specs.Reading.{Cursor, Passes, Takes}
use Rattle.exi_bits.proofs.Taken.{integer_of}
use Rattle.exi_bits.proofs.Windows.{number_bits-add, number_bits-mod, number_bits-join, window_there}

-- ---- a number of bytes

abbrev big_endian : List ℕ → ℕ
big_endian [] = 0
big_endian (byte ∷ bytes) = byte * 2 ^ (8 * length bytes) + big_endian bytes

abbrev pub AreBytes : List ℕ → Type 0
AreBytes bytes = (i : ℕ) → get_or bytes i 0 < 256

power_more : (n : ℕ) → 2 ^ (8 * n) * 2 ^ 8 ≡ 2 ^ (8 * suc n)
power_more n = sym (pow-add 2 (8 * n) 8) ∙ ap (λ (k : ℕ). 2 ^ k) (let e : 8 * n + 8 ≡ 8 * suc n = omega arith in e)

big_endian_fits : (bytes : List ℕ) → AreBytes bytes → big_endian bytes < 2 ^ (8 * length bytes)
big_endian_fits [] are = omega arith
big_endian_fits (byte ∷ bytes) are =
    subst (λ (k : ℕ). big_endian (byte ∷ bytes) < k) (power_more (length bytes))
    (mul-add-lt byte (2 ^ (8 * length bytes)) (big_endian bytes) (2 ^ 8) (are 0) (big_endian_fits bytes (λ i. are (suc i))))

big_endian_spelled : (bytes : List ℕ) → AreBytes bytes → number_bits (8 * length bytes) (big_endian bytes) ≡ bits_of bytes
unfolding number_bits bits_of
big_endian_spelled [] are = refl
big_endian_spelled (byte ∷ bytes) are =
    ap (λ (k : ℕ). number_bits k (big_endian (byte ∷ bytes))) (let e : 8 * suc (length bytes) ≡ 8 + 8 * length bytes = omega arith in e)
    ∙ number_bits-join 8 (8 * length bytes) byte (big_endian bytes) (big_endian_fits bytes (λ i. are (suc i)))
    ∙ ap (λ (l : List Bool). number_bits 8 byte ++ l) (big_endian_spelled bytes (λ i. are (suc i)))

big_endian_is : (bytes : List ℕ) → length bytes ≡ 8 → from_be_bytes w64 bytes ≡ big_endian bytes
big_endian_is (a ∷ b ∷ c ∷ d ∷ e ∷ f ∷ g ∷ h ∷ []) long =
    let computed : from_be_bytes w64 (a ∷ b ∷ c ∷ d ∷ e ∷ f ∷ g ∷ h ∷ []) ≡ a * 256 ^ 7 + b * 256 ^ 6 + c * 256 ^ 5 + d * 256 ^ 4 + e * 256 ^ 3 + f * 256 ^ 2 + g * 256 ^ 1 + h = refl in
    omega (arith, computed)
big_endian_is [] long = absurd (omega (arith, long))
big_endian_is (a ∷ []) long = absurd (omega (arith, long))
big_endian_is (a ∷ b ∷ []) long = absurd (omega (arith, long))
big_endian_is (a ∷ b ∷ c ∷ []) long = absurd (omega (arith, long))
big_endian_is (a ∷ b ∷ c ∷ d ∷ []) long = absurd (omega (arith, long))
big_endian_is (a ∷ b ∷ c ∷ d ∷ e ∷ []) long = absurd (omega (arith, long))
big_endian_is (a ∷ b ∷ c ∷ d ∷ e ∷ f ∷ []) long = absurd (omega (arith, long))
big_endian_is (a ∷ b ∷ c ∷ d ∷ e ∷ f ∷ g ∷ []) long = absurd (omega (arith, long))
big_endian_is (a ∷ b ∷ c ∷ d ∷ e ∷ f ∷ g ∷ h ∷ i ∷ l) long = absurd (omega (arith, long))

bytes_taken : (n : ℕ) (bytes : List ℕ) → AreBytes bytes → AreBytes (take n bytes)
bytes_taken zero bytes are i = omega arith
bytes_taken (suc n) [] are i = omega arith
bytes_taken (suc n) (byte ∷ bytes) are zero = are 0
bytes_taken (suc n) (byte ∷ bytes) are (suc i) = bytes_taken n bytes (λ j. are (suc j)) i

bytes_dropped : (n : ℕ) (bytes : List ℕ) → AreBytes bytes → AreBytes (drop n bytes)
bytes_dropped n bytes are i = omega (arith, get_or-drop n bytes i 0, are (n + i))

pub word_spelled : (bytes eight : List ℕ) (first word : ℕ) → AreBytes bytes → eight ≡ take 8 (drop first bytes) → length eight ≡ 8 → word ≡ from_be_bytes w64 eight → number_bits 64 word ≡ bits_of (take 8 (drop first bytes))
word_spelled bytes eight first word are eight_is long word_is =
    let are_eight : AreBytes eight = subst AreBytes (sym eight_is) (bytes_taken 8 (drop first bytes) (bytes_dropped first bytes are)) in
    ap (number_bits 64) (word_is ∙ big_endian_is eight long)
    ∙ ap (λ (k : ℕ). number_bits (8 * k) (big_endian eight)) (sym long)
    ∙ big_endian_spelled eight are_eight
    ∙ ap bits_of eight_is

-- ---- a number whose first bits are shifted out

shifted : (n rest word : ℕ) → n + rest ≡ 64 → number_bits 64 (word * 2 ^ n % 2 ^ 64) ≡ number_bits rest word ++ number_bits n 0
shifted n rest word sum =
    number_bits-mod 64 (word * 2 ^ n)
    ∙ ap (λ (k : ℕ). number_bits k (word * 2 ^ n)) (let e : 64 ≡ rest + n = omega (arith, sum) in e)
    ∙ ap (number_bits (rest + n)) (let e : word * 2 ^ n ≡ word * 2 ^ n + 0 = omega arith in e)
    ∙ number_bits-join rest n word 0 (pow_pos n)

pub loaded : (bytes : List ℕ) (first word place passed : ℕ) → first + 8 ≤ length bytes → number_bits 64 word ≡ bits_of (take 8 (drop first bytes)) → place ≡ 8 * first + passed → passed < 64 →
    drop place (bits_of bytes) ≡ take (64 - passed) (number_bits 64 (word * 2 ^ passed % 2 ^ 64)) ++ drop (place + (64 - passed)) (bits_of bytes)
loaded bytes first word place passed within spelled place_is less =
    let n = 64 - passed in
    let sum : passed + n ≡ 64 = omega arith in
    let whole : word / 2 ^ 0 ≡ word = omega arith in
    window_there bytes first 8 word place n 0 (record { within = within; spelled = spelled }) (omega (arith, place_is)) (omega (arith, place_is))
    ∙ ap (λ (l : List Bool). l ++ drop (place + n) (bits_of bytes))
    (ap (number_bits n) whole
    ∙ sym (take_at (number_bits n word) (number_bits passed 0) n (length-number_bits n word))
    ∙ ap (take n) (sym (shifted passed n word sum)))

-- ---- bits taken from those that are held

abbrev pub Holds : List Bool → ℕ → ℕ → ℕ → Type 0
Holds bits place held word = drop place bits ≡ take held (number_bits 64 word) ++ drop (place + held) bits

module _ (bits : List Bool) (place held word n : ℕ) (some : n ≤ held) (few : held ≤ 64) (holds : Holds bits place held word) where
  abbrev pub value : ℕ
  value = word / 2 ^ (64 - n)

  abbrev rest : List Bool
  rest = take (held - n) (number_bits (64 - n) word) ++ drop (place + held) bits

  parts : number_bits 64 word ≡ number_bits n value ++ number_bits (64 - n) word
  parts = ap (λ (k : ℕ). number_bits k word) (let e : 64 ≡ n + (64 - n) = omega (arith, some, few) in e) ∙ number_bits-add n (64 - n) word

  front : take held (number_bits 64 word) ≡ number_bits n value ++ take (held - n) (number_bits (64 - n) word)
  front =
      ap (λ (k : ℕ). take k (number_bits 64 word)) (let e : held ≡ n + (held - n) = omega (arith, some) in e)
      ∙ take-add n (held - n) (number_bits 64 word)
      ∙ ap (λ (l : List Bool). take n l ++ take (held - n) (drop n l)) parts
      ∙ ap (λ (l : List Bool). l ++ take (held - n) (drop n (number_bits n value ++ number_bits (64 - n) word))) (take_at (number_bits n value) (number_bits (64 - n) word) n (length-number_bits n value))
      ∙ ap (λ (l : List Bool). number_bits n value ++ take (held - n) l) (drop_at (number_bits n value) (number_bits (64 - n) word) n (length-number_bits n value))

  there : drop place bits ≡ number_bits n value ++ rest
  there =
      holds
      ∙ ap (λ (l : List Bool). l ++ drop (place + held) bits) front
      ∙ append_assoc (number_bits n value) (take (held - n) (number_bits (64 - n) word)) (drop (place + held) bits)

  behind : drop (place + n) bits ≡ rest
  behind =
      ap (λ (k : ℕ). drop k bits) (let e : place + n ≡ n + place = omega arith in e)
      ∙ sym (drop-drop n place bits ∙ ap (λ (k : ℕ). drop k bits) (let e : place + n ≡ n + place = omega arith in e))
      ∙ ap (drop n) there
      ∙ drop_at (number_bits n value) rest n (length-number_bits n value)

  pub held_on : Holds bits (place + n) (held - n) (word * 2 ^ n % 2 ^ 64)
  held_on =
      let within : held - n ≤ length (number_bits (64 - n) word) = omega (arith, length-number_bits (64 - n) word, few) in
      behind
      ∙ ap (λ (l : List Bool). l ++ drop (place + held) bits)
      (sym (ap (take (held - n)) (shifted n (64 - n) word (let e : n + (64 - n) ≡ 64 = omega (arith, some, few) in e)) ∙ take-append-le (held - n) (number_bits (64 - n) word) (number_bits n 0) within))
      ∙ ap (λ (k : ℕ). take (held - n) (number_bits 64 (word * 2 ^ n % 2 ^ 64)) ++ drop k bits) (let e : place + held ≡ place + n + (held - n) = omega (arith, some) in e)

  pub held_taken : word < 2 ^ 64 → Takes (SpellsNumber n value) (record { bits = bits; place = place }) (record { bits = bits; place = place + n })
  held_taken fits =
      let sum : n + (64 - n) ≡ 64 = omega (arith, some, few) in (
        number_bits n value,
        record { range = shr_below word n (64 - n) (subst (λ (k : ℕ). word < 2 ^ k) (sym sum) fits); spelled = refl },
        record {
          same = refl;
          moved = ap (λ (k : ℕ). place + k) (sym (length-number_bits n value));
          there = there ∙ ap (λ (l : List Bool). number_bits n value ++ l) (sym behind);
        },
      )

-- ---- items of several numbers

passed_both : (old mid new : Cursor) (first second : List Bool) → Passes old mid first → Passes mid new second → Passes old new (first ++ second)
passed_both old mid new first second a b =
    record {
      same = b.same ∙ a.same;
      moved = omega (arith, a.moved, b.moved, length-append first second);
      there = a.there ∙ ap (λ (l : List Bool). first ++ l) b.there ∙ sym (append_assoc first second (drop new.place new.bits));
    }

pub octet_taken : (most value : ℕ) (old new : Cursor) → 0 < most → value < 128 → Takes (SpellsNumber 8 value) old new → Takes (SpellsOctets most value) old new
octet_taken most value old new some low taken = (
  taken.0,
  subst (λ (l : List Bool). SpellsOctets most value l) (sym (taken.1.spelled ∙ low_octet value low)) (only_octet most value some low),
  taken.2,
)

pub octets_taken : (most first rest : ℕ) (old mid new : Cursor) → 128 ≤ first → rest < 2 ^ 57 → Takes (SpellsNumber 8 first) old mid → Takes (SpellsOctets most rest) mid new → Takes (SpellsOctets (suc most) (first - 128 + 128 * rest)) old new
octets_taken most first rest old mid new high fits a b =
    let range : first < 2 ^ 8 = a.1.range in
    let group : first - 128 < 128 = omega (arith, range) in
    let back : first ≡ first - 128 + 128 = omega (arith, high) in
    let front : a.0 ≡ octet true (first - 128) = a.1.spelled ∙ ap (number_bits 8) back ∙ high_octet (first - 128) group in (
      a.0 ++ b.0,
      subst (λ (l : List Bool). SpellsOctets (suc most) (first - 128 + 128 * rest) (l ++ b.0)) (sym front) (more_octets most (first - 128) rest b.0 group (omega (arith, fits)) b.1),
      passed_both old mid new a.0 b.0 a.2 b.2,
    )

sign_bit : (sign : ℕ) → sign < 2 ^ 1 → number_bits 1 sign ≡ eqb sign 1 ∷ []
unfolding number_bits
sign_bit zero less = refl
sign_bit (suc zero) less = refl
sign_bit (suc (suc sign)) less = absurd (omega (arith, less))

pub bit_taken : (bit : ℕ) (old new : Cursor) → Takes (SpellsNumber 1 bit) old new → Takes (SpellsBool (eqb bit 1)) old new
bit_taken bit old new taken = (taken.0, taken.1.spelled ∙ sign_bit bit taken.1.range, taken.2)

pub integer_taken : (sign : Bool) (magnitude : ℕ) (value : ℤ) (old mid new : Cursor) → value ≡ cond sign (negsuc magnitude) (pos magnitude) → Takes (SpellsBool sign) old mid → Takes (SpellsUnsigned magnitude) mid new → Takes (SpellsInteger value) old new
integer_taken sign magnitude value old mid new value_is a b = (
  a.0 ++ b.0,
  subst (λ (l : List Bool). SpellsInteger value (l ++ b.0)) (sym a.1)
      (subst (λ (v : ℤ). SpellsInteger v (sign ∷ b.0)) (sym value_is) (integer_of sign magnitude b.0 b.1)),
  passed_both old mid new a.0 b.0 a.2 b.2,
)
