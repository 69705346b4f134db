-- A reader that gives what is spelled and refuses what is refused shows that a code is exact.
use Rattle.std.proofs.Common.{◌≡◌, ℕ, zero, suc, ◌+◌, ◌-◌, ◌*◌, ◌^◌, ◌<◌, ◌⊎◌, ℤ, pos, negsuc, Bool, true, false, cond, ltb, List, [], ◌∷◌, ◌++◌, length, take, drop, Result, Ok, Err, refl, sym, ap, subst, ◌∙◌, arith, inl, inr, append_assoc}
use Rattle.std.specs.Char.{IsScalar}
use lib.Utf8.{scalar}
use Rattle.std.proofs.lemmas.Bool.{cases_lt, cases_Bool, lt-ltb, le-ltb, cond-true, cond-false, both_ways}
use Rattle.std.proofs.lemmas.List.{length-append, append_cancel_right, length-take-le, take_at, drop_at, take-append-drop}
use Rattle.exi_spec.specs.declared.BitCause.{BitCause}
use Rattle.exi_spec.specs.declared.BitCause.TheVariants.{ShortInput, WiderInteger, BadChar}
use Rattle.exi_spec.specs.Bits.{number_bits, number_of}
use Rattle.exi_spec.specs.Items.{SpellsBool, SpellsNumber, SpellsUnsigned, SpellsInteger, SpellsChar, SpellsChars, Begins, RefusesBits, RefusesUnsigned, RefusesInteger, RefusesChar, RefusesChars}
use Rattle.exi_spec.specs.Plain.{octets_in, bytes_in}
use Rattle.exi_spec.specs.Laws.{IsExact, AtBit, SpellsNBytes, SpellsNChars}
use Rattle.exi_spec.proofs.BitLaws.{length-number_bits, number_of-number_bits, number_bits-number_of, number_of-lt, length-bits_of}
use Rattle.exi_spec.proofs.PlainLaws.{octets_in-spelled, octets_in-refused, front_octets, bytes_in-spelled, bytes_there}

pub record Reads {V R : Type 0} (Spells : V → List Bool → Type 0) (Refuses : List Bool → R → Type 0) (read : List Bool → Result (V × List Bool) R) : Type 0 where
  pub spelled : (v : V) (front rest : List Bool) → Spells v front → read (front ++ rest) ≡ Ok (v, rest)
  pub refused : (bits : List Bool) (r : R) → Refuses bits r → read bits ≡ Err r
  pub total : (bits : List Bool) → ((v : V) × Begins (Spells v) bits) ⊎ ((r : R) × Refuses bits r)

module _ {V R : Type 0} where
  abbrev ok : V × List Bool → Result (V × List Bool) R
  ok p = Ok p

  abbrev err : R → Result (V × List Bool) R
  err r = Err r

  ok_is : (p q : V × List Bool) → ok p ≡ ok q → p ≡ q
  ok_is p q e = cc

  err_is : (r s : R) → err r ≡ err s → r ≡ s
  err_is r s e = cc

  not_both : (p : V × List Bool) (r : R) → ok p ≡ err r → ⊥
  not_both p r e = cc

pub exact : {V R : Type 0} (Spells : V → List Bool → Type 0) (Refuses : List Bool → R → Type 0) (read : List Bool → Result (V × List Bool) R) → Reads Spells Refuses read → IsExact Spells Refuses
exact {V} {R} Spells Refuses read h =
    record {
      prefix = λ v w a b x y s t e.
          let same = ok_is (v, x) (w, y) (sym (h.spelled v a x s) ∙ ap read e ∙ h.spelled w b y t) in
          let rests : x ≡ y = ap (λ (p : V × List Bool). p.1) same in
          (append_cancel_right a b y (ap (λ (l : List Bool). a ++ l) (sym rests) ∙ e), ap (λ (p : V × List Bool). p.0) same);
      decided = h.total;
      apart = λ v bits r begins refuses.
          not_both (v, begins.1) r (sym (h.spelled v begins.0 begins.1 begins.2) ∙ ap read (sym begins.3) ∙ h.refused bits r refuses);
      one_refusal = λ bits r s p q. err_is r s (sym (h.refused bits r p) ∙ h.refused bits s q);
    }

-- ---- bits

abbrev bit_read : List Bool → Result (Bool × List Bool) BitCause
bit_read [] = Err ShortInput
bit_read (bit ∷ bits) = Ok (bit, bits)

bit_refused : (bits : List Bool) (r : BitCause) → RefusesBits 1 bits r → bit_read bits ≡ Err r
bit_refused [] ShortInput h = refl
bit_refused (bit ∷ bits) ShortInput h = absurd (omega (arith, h))
bit_refused bits WiderInteger h = absurd h
bit_refused bits BadChar h = absurd h

bit_total : (bits : List Bool) → ((v : Bool) × Begins (SpellsBool v) bits) ⊎ ((r : BitCause) × RefusesBits 1 bits r)
bit_total [] = inr (ShortInput, omega arith)
bit_total (bit ∷ bits) = inl (bit, (bit ∷ [], bits, refl, refl))

pub booleans_read : Reads SpellsBool (RefusesBits 1) bit_read
booleans_read = record { spelled = λ v front rest s. ap (λ (l : List Bool). bit_read (l ++ rest)) s; refused = bit_refused; total = bit_total }

-- ---- so many bits: numbers and bytes

abbrev n_read : {V : Type 0} → ℕ → (List Bool → V) → List Bool → Result (V × List Bool) BitCause
n_read n value bits = cond (ltb (length bits) n) (Err ShortInput) (Ok (value bits, drop n bits))

n_spelled : {V : Type 0} (n : ℕ) (value : List Bool → V) (v : V) (front rest : List Bool) → length front ≡ n → value (front ++ rest) ≡ v → n_read n value (front ++ rest) ≡ Ok (v, rest)
n_spelled {V} n value v front rest long is =
    let enough : ltb (length (front ++ rest)) n ≡ false = le-ltb _ _ (omega (arith, length-append front rest, long)) in
    cond-false (ltb (length (front ++ rest)) n) (Err ShortInput) (Ok (value (front ++ rest), drop n (front ++ rest))) enough
    ∙ ap (λ (w : V). Ok (w, drop n (front ++ rest))) is
    ∙ ap (λ (l : List Bool). Ok (v, l)) (drop_at front rest n long)

n_refused : {V : Type 0} (n : ℕ) (value : List Bool → V) (bits : List Bool) (r : BitCause) → RefusesBits n bits r → n_read n value bits ≡ Err r
n_refused n value bits ShortInput h = cond-true (ltb (length bits) n) (Err ShortInput) (Ok (value bits, drop n bits)) (lt-ltb _ _ h)
n_refused n value bits WiderInteger h = absurd h
n_refused n value bits BadChar h = absurd h

number_spelled : (n v : ℕ) (front rest : List Bool) → SpellsNumber n v front → n_read n (λ bits. number_of (take n bits)) (front ++ rest) ≡ Ok (v, rest)
number_spelled n v front rest s =
    let long : length front ≡ n = ap length s.spelled ∙ length-number_bits n v in
    n_spelled n (λ bits. number_of (take n bits)) v front rest long
    (ap number_of (take_at front rest n long ∙ s.spelled) ∙ number_of-number_bits n v s.range)

number_total : (n : ℕ) (bits : List Bool) → ((v : ℕ) × Begins (SpellsNumber n v) bits) ⊎ ((r : BitCause) × RefusesBits n bits r)
number_total n bits =
    elim (cases_lt (length bits) n) [
      | inl short ↦ inr (ShortInput, short)
      | inr enough ↦
          let front = take n bits in
          let long : length front ≡ n = length-take-le n bits enough in
          let spelled : front ≡ number_bits n (number_of front) = sym (number_bits-number_of front) ∙ ap (λ (k : ℕ). number_bits k (number_of front)) long in
          inl (number_of front, (front, drop n bits, record { range = subst (λ (k : ℕ). number_of front < 2 ^ k) long (number_of-lt front); spelled = spelled }, sym (take-append-drop n bits)))
    ]

pub numbers_read : (n : ℕ) → Reads (SpellsNumber n) (RefusesBits n) (n_read n (λ bits. number_of (take n bits)))
numbers_read n = record { spelled = number_spelled n; refused = n_refused n (λ bits. number_of (take n bits)); total = number_total n }

binary_spelled : (n : ℕ) (v : List ℕ) (front rest : List Bool) → SpellsNBytes n v front → n_read (8 * n) (λ bits. bytes_in n bits) (front ++ rest) ≡ Ok (v, rest)
binary_spelled n v front rest s =
    let long : length front ≡ 8 * n = omega (arith, ap length s.1.spelled, length-bits_of v, s.0) in
    n_spelled (8 * n) (λ bits. bytes_in n bits) v front rest long
    (ap (λ (k : ℕ). bytes_in k (front ++ rest)) (sym s.0) ∙ bytes_in-spelled v front rest s.1)

binary_total : (n : ℕ) (bits : List Bool) → ((v : List ℕ) × Begins (SpellsNBytes n v) bits) ⊎ ((r : BitCause) × RefusesBits (8 * n) bits r)
binary_total n bits =
    elim (cases_lt (length bits) (8 * n)) [
      | inl short ↦ inr (ShortInput, short)
      | inr enough ↦ inl (bytes_in n bits, (take (8 * n) bits, drop (8 * n) bits, bytes_there n bits enough, sym (take-append-drop (8 * n) bits)))
    ]

pub binaries_read : (n : ℕ) → Reads (SpellsNBytes n) (RefusesBits (8 * n)) (n_read (8 * n) (λ bits. bytes_in n bits))
binaries_read n = record { spelled = binary_spelled n; refused = n_refused (8 * n) (λ bits. bytes_in n bits); total = binary_total n }

-- ---- Unsigned Integers and Integers

unsigned_total : (bits : List Bool) → ((v : ℕ) × Begins (SpellsUnsigned v) bits) ⊎ ((r : BitCause) × RefusesUnsigned bits r)
unsigned_total bits = elim (front_octets 10 bits) [ inl f ↦ inl (f.0, (f.1, f.2, f.3, f.4)) | inr r ↦ inr r ]

pub unsigned_read : Reads SpellsUnsigned RefusesUnsigned (λ bits. octets_in 10 bits)
unsigned_read = record { spelled = λ v front rest s. octets_in-spelled 10 v front rest s; refused = λ bits r h. octets_in-refused 10 bits r h; total = unsigned_total }

abbrev signed : Bool → ℕ → ℤ
signed true n = negsuc n
signed false n = pos n

abbrev behind_sign : Bool → Result (ℕ × List Bool) BitCause → Result (ℤ × List Bool) (BitCause × ℕ)
behind_sign sign (Ok read) = Ok (signed sign read.0, read.1)
behind_sign sign (Err cause) = Err (cause, 1)

abbrev integer_read : List Bool → Result (ℤ × List Bool) (BitCause × ℕ)
integer_read [] = Err (ShortInput, 0)
integer_read (sign ∷ bits) = behind_sign sign (octets_in 10 bits)

integer_spelled : (v : ℤ) (front rest : List Bool) → SpellsInteger v front → integer_read (front ++ rest) ≡ Ok (v, rest)
integer_spelled v [] rest s = absurd s
integer_spelled (pos n) (sign ∷ bits) rest s =
    ap (λ (r : Result (ℕ × List Bool) BitCause). behind_sign sign r) (octets_in-spelled 10 n bits rest s.1)
    ∙ ap (λ (b : Bool). Ok (signed b n, rest)) s.0
integer_spelled (negsuc n) (sign ∷ bits) rest s =
    ap (λ (r : Result (ℕ × List Bool) BitCause). behind_sign sign r) (octets_in-spelled 10 n bits rest s.1)
    ∙ ap (λ (b : Bool). Ok (signed b n, rest)) s.0

short_only : (r : BitCause) → RefusesBits 1 [] r → r ≡ ShortInput
short_only ShortInput h = refl
short_only WiderInteger h = absurd h
short_only BadChar h = absurd h

integer_refused : (bits : List Bool) (r : BitCause × ℕ) → AtBit RefusesInteger bits r → integer_read bits ≡ Err r
integer_refused [] r h = ap (λ (c : BitCause). Err (c, 0)) (sym (short_only r.0 h.0)) ∙ ap (λ (k : ℕ). Err (r.0, k)) (sym h.1)
integer_refused (sign ∷ bits) r h =
    ap (λ (x : Result (ℕ × List Bool) BitCause). behind_sign sign x) (octets_in-refused 10 bits r.0 h.0) ∙ ap (λ (k : ℕ). Err (r.0, k)) (sym h.1)

signed_spells : (sign : Bool) (n : ℕ) (bits : List Bool) → SpellsUnsigned n bits → SpellsInteger (signed sign n) (sign ∷ bits)
signed_spells true n bits s = (refl, s)
signed_spells false n bits s = (refl, s)

integer_total : (bits : List Bool) → ((v : ℤ) × Begins (SpellsInteger v) bits) ⊎ ((r : BitCause × ℕ) × AtBit RefusesInteger bits r)
integer_total [] = inr ((ShortInput, 0), (omega arith, refl))
integer_total (sign ∷ bits) =
    elim (front_octets 10 bits) [
      | inl f ↦ inl (signed sign f.0, (sign ∷ f.1, f.2, signed_spells sign f.0 f.1 f.3, ap (λ (l : List Bool). sign ∷ l) f.4))
      | inr r ↦ inr ((r.0, 1), (r.1, refl))
    ]

pub integers_read : Reads SpellsInteger (AtBit RefusesInteger) integer_read
integers_read = record { spelled = integer_spelled; refused = integer_refused; total = integer_total }

-- ---- code points

abbrev char_of : Result (ℕ × List Bool) BitCause → Result (ℕ × List Bool) BitCause
char_of (Ok read) = cond (scalar read.0) (Ok read) (Err BadChar)
char_of (Err cause) = Err cause

abbrev char_read : List Bool → Result (ℕ × List Bool) BitCause
char_read bits = char_of (octets_in 10 bits)

char_spelled : (v : ℕ) (front rest : List Bool) → SpellsChar v front → char_read (front ++ rest) ≡ Ok (v, rest)
char_spelled v front rest s =
    ap (λ (r : Result (ℕ × List Bool) BitCause). char_of r) (octets_in-spelled 10 v front rest s.spelled)
    ∙ cond-true (scalar v) (Ok (v, rest)) (Err BadChar) s.scalar

no_scalar : (c : ℕ) → (IsScalar c → ⊥) → scalar c ≡ false
no_scalar c not_it = elim (cases_Bool (scalar c)) [ inl it_is ↦ absurd (not_it it_is) | inr n ↦ n ]

char_refused : (bits : List Bool) (r : BitCause) → RefusesChar bits r → char_read bits ≡ Err r
char_refused bits ShortInput h = ap (λ (r : Result (ℕ × List Bool) BitCause). char_of r) (octets_in-refused 10 bits ShortInput h)
char_refused bits WiderInteger h = ap (λ (r : Result (ℕ × List Bool) BitCause). char_of r) (octets_in-refused 10 bits WiderInteger h)
char_refused bits BadChar h =
    let bad = h.2 in
    ap (λ (r : Result (ℕ × List Bool) BitCause). char_of r) (ap (λ (l : List Bool). octets_in 10 l) h.3 ∙ octets_in-spelled 10 bad.0 h.0 h.1 bad.2)
    ∙ cond-false (scalar bad.0) (Ok (bad.0, h.1)) (Err BadChar) (no_scalar bad.0 bad.1)

refused_char : (bits : List Bool) (r : BitCause) → RefusesUnsigned bits r → RefusesChar bits r
refused_char bits ShortInput h = h
refused_char bits WiderInteger h = h
refused_char bits BadChar h = absurd h

pub char_total : (bits : List Bool) → ((v : ℕ) × Begins (SpellsChar v) bits) ⊎ ((r : BitCause) × RefusesChar bits r)
char_total bits =
    elim (front_octets 10 bits) [
      | inl f ↦ elim (cases_Bool (scalar f.0)) [
        | inl it_is ↦ inl (f.0, (f.1, f.2, record { scalar = it_is; spelled = f.3 }, f.4))
        | inr it_isnt ↦ inr (BadChar, (f.1, f.2, (f.0, (λ it_is. both_ways (scalar f.0) it_isnt it_is), f.3), f.4))
      ]
      | inr r ↦ inr (r.0, refused_char bits r.0 r.1)
    ]

pub characters_read : Reads SpellsChar RefusesChar char_read
characters_read = record { spelled = char_spelled; refused = char_refused; total = char_total }

-- ---- code points, one behind the others

abbrev behind_char : ℕ → ℕ → Result (List ℕ × List Bool) (BitCause × ℕ) → Result (List ℕ × List Bool) (BitCause × ℕ)
behind_char char passed (Ok read) = Ok (char ∷ read.0, read.1)
behind_char char passed (Err refusal) = Err (refusal.0, passed + refusal.1)

abbrev then_chars : ℕ → (List Bool → Result (List ℕ × List Bool) (BitCause × ℕ)) → Result (ℕ × List Bool) BitCause → Result (List ℕ × List Bool) (BitCause × ℕ)
then_chars long more (Ok read) = behind_char read.0 (long - length read.1) (more read.1)
then_chars long more (Err cause) = Err (cause, 0)

pub chars_read : ℕ → List Bool → Result (List ℕ × List Bool) (BitCause × ℕ)
chars_read zero bits = Ok ([], bits)
chars_read (suc n) bits = then_chars (length bits) (λ rest. chars_read n rest) (char_read bits)

abbrev Chars : Type 0
Chars = Result (List ℕ × List Bool) (BitCause × ℕ)

first_read : (n char : ℕ) (first rest : List Bool) → SpellsChar char first → chars_read (suc n) (first ++ rest) ≡ behind_char char (length first) (chars_read n rest)
unfolding chars_read
first_read n char first rest s =
    let passed : length (first ++ rest) - length rest ≡ length first = omega (arith, length-append first rest) in
    ap (λ (r : Result (ℕ × List Bool) BitCause). then_chars (length (first ++ rest)) (λ (l : List Bool). chars_read n l) r) (char_spelled char first rest s)
    ∙ ap (λ (k : ℕ). behind_char char k (chars_read n rest)) passed

chars_spelled : (n : ℕ) (v : List ℕ) (front rest : List Bool) → SpellsNChars n v front → chars_read n (front ++ rest) ≡ Ok (v, rest)
unfolding chars_read
chars_spelled zero [] front rest s = ap (λ (l : List Bool). Ok ([], l ++ rest)) s.1
chars_spelled (suc n) [] front rest s = absurd (omega (arith, s.0))
chars_spelled zero (char ∷ chars) front rest s = absurd (omega (arith, s.0))
chars_spelled (suc n) (char ∷ chars) front rest s =
    let t = s.1 in
    ap (λ (l : List Bool). chars_read (suc n) l) (ap (λ (l : List Bool). l ++ rest) t.4 ∙ append_assoc t.0 t.1 rest)
    ∙ first_read n char t.0 (t.1 ++ rest) t.2
    ∙ ap (λ (r : Chars). behind_char char (length t.0) r) (chars_spelled n chars t.1 rest (omega (arith, s.0), t.3))

refused_behind : (n at : ℕ) (chars : List ℕ) (front rest : List Bool) (cause : BitCause) → length chars < n → SpellsChars chars front → RefusesChar rest cause → at ≡ length front → chars_read n (front ++ rest) ≡ Err (cause, at)
unfolding chars_read
refused_behind zero at chars front rest cause fewer s r place = absurd (omega (arith, fewer))
refused_behind (suc n) at [] front rest cause fewer s r place =
    let none : at ≡ 0 = place ∙ ap length s in
    ap (λ (l : List Bool). chars_read (suc n) (l ++ rest)) s
    ∙ ap (λ (x : Result (ℕ × List Bool) BitCause). then_chars (length rest) (λ (l : List Bool). chars_read n l) x) (char_refused rest cause r)
    ∙ ap (λ (k : ℕ). Err (cause, k)) (sym none)
refused_behind (suc n) at (char ∷ chars) front rest cause fewer s r place =
    let long : length front ≡ length s.0 + length s.1 = ap length s.4 ∙ length-append s.0 s.1 in
    ap (λ (l : List Bool). chars_read (suc n) l) (ap (λ (l : List Bool). l ++ rest) s.4 ∙ append_assoc s.0 s.1 rest)
    ∙ first_read n char s.0 (s.1 ++ rest) s.2
    ∙ ap (λ (x : Chars). behind_char char (length s.0) x) (refused_behind n (length s.1) chars s.1 rest cause (omega (arith, fewer)) s.3 r refl)
    ∙ ap (λ (k : ℕ). Err (cause, k)) (sym (place ∙ long))

chars_refused : (n : ℕ) (bits : List Bool) (r : BitCause × ℕ) → AtBit (RefusesChars n) bits r → chars_read n bits ≡ Err r
chars_refused n bits r h = ap (λ (l : List Bool). chars_read n l) h.there ∙ refused_behind n r.1 h.chars h.front h.rest r.0 h.fewer h.spelled h.refused h.place

chars_total : (n : ℕ) (bits : List Bool) → ((v : List ℕ) × Begins (SpellsNChars n v) bits) ⊎ ((r : BitCause × ℕ) × AtBit (RefusesChars n) bits r)
chars_total zero bits = inl ([], ([], bits, (refl, refl), refl))
chars_total (suc n) bits =
    elim (char_total bits) [
      | inr r ↦ inr ((r.0, 0), record { chars = []; front = []; rest = bits; fewer = omega arith; spelled = refl; there = refl; refused = r.1; place = refl })
      | inl f ↦
          let b = f.1 in
          elim (chars_total n b.1) [
            | inl g ↦
                let d = g.1 in
                inl (f.0 ∷ g.0, (b.0 ++ d.0, d.1, (ap suc d.2.0, (b.0, d.0, b.2, d.2.1, refl)), b.3 ∙ ap (λ (l : List Bool). b.0 ++ l) d.3 ∙ sym (append_assoc b.0 d.0 d.1)))
            | inr r ↦
                let h = r.1 in
                inr (
                  (r.0.0, length b.0 + r.0.1),
                  record {
                    chars = f.0 ∷ h.chars;
                    front = b.0 ++ h.front;
                    rest = h.rest;
                    fewer = omega (arith, h.fewer);
                    spelled = (b.0, h.front, b.2, h.spelled, refl);
                    there = b.3 ∙ ap (λ (l : List Bool). b.0 ++ l) h.there ∙ sym (append_assoc b.0 h.front h.rest);
                    refused = h.refused;
                    place = omega (arith, h.place, length-append b.0 h.front);
                  },
                )
          ]
    ]

pub strings_read : (n : ℕ) → Reads (SpellsNChars n) (AtBit (RefusesChars n)) (chars_read n)
strings_read n = record { spelled = chars_spelled n; refused = chars_refused n; total = chars_total n }
