-- Bits behind those that are written.
use Rattle.std.proofs.Common.{◌≡◌, ◌≢◌, ℕ, zero, suc, ◌+◌, ◌-◌, ◌*◌, ◌/◌, ◌%◌, ◌^◌, ◌<◌, ◌≤◌, max, Bool, false, eqb, List, ◌++◌, length, get_or, take, set, refl, sym, ap, subst, ◌∙◌, arith, inl, inr, append_assoc, bit_or}
use Rattle.std.proofs.lemmas.Bool.{cases_lt, cases_eq}
use Rattle.std.proofs.lemmas.List.{length-append, length-set, get_or-set_same, get_or-set_other, get_or_past, ext_get_or, get_or-take, get_or_append_left, get_or-append_right, length-take-le}
use Rattle.std.proofs.lemmas.Nat.{pow_pos}
use Rattle.std.proofs.lemmas.Nat.Bits.{bit_at_or, bit_at_above, bit_at_cat_low, bit_at_cat_high, bit_at-zero, bit_at-lt}
use Rattle.std.specs.Int.{bit_at}
use Rattle.exi_spec.specs.Bits.{number_bits, bits_of}
use Rattle.exi_spec.proofs.BitLaws.{length-number_bits, length-bits_of, get_or-number_bits, get_or-bits_of}
use Rattle.exi_bits.specs.Written.{PadsZero, Extends}

-- the bit at a place, by its byte
bit_there : (bytes : List ℕ) (i : ℕ) → i < 8 * length bytes → get_or (bits_of bytes) i false ≡ eqb (bit_at (get_or bytes (i / 8) 0) (7 - i % 8)) 1
bit_there bytes i h =
    let place : 8 * (i / 8) + i % 8 ≡ i = omega arith in
    ap (λ (k : ℕ). get_or (bits_of bytes) k false) (sym place) ∙ get_or-bits_of bytes (i / 8) (i % 8) false (omega arith) (omega arith)

bit_past : (bytes : List ℕ) (i : ℕ) → 8 * length bytes ≤ i → get_or (bits_of bytes) i false ≡ false
bit_past bytes i h = get_or_past (bits_of bytes) i false (omega (arith, length-bits_of bytes))

-- other bytes keep their bits
bit_elsewhere : (bytes : List ℕ) (k v i : ℕ) → i / 8 ≢ k → get_or (bits_of (set bytes k v)) i false ≡ get_or (bits_of bytes) i false
bit_elsewhere bytes k v i other =
    elim (cases_lt i (8 * length bytes)) [
      | inl h ↦
          bit_there (set bytes k v) i (omega (arith, length-set bytes k v, h))
          ∙ ap (λ (b : ℕ). eqb (bit_at b (7 - i % 8)) 1) (get_or-set_other bytes k (i / 8) v 0 other)
          ∙ sym (bit_there bytes i h)
      | inr h ↦ bit_past (set bytes k v) i (omega (arith, length-set bytes k v, h)) ∙ sym (bit_past bytes i h)
    ]

bit_here : (bytes : List ℕ) (k v i : ℕ) → k < length bytes → i / 8 ≡ k → get_or (bits_of (set bytes k v)) i false ≡ eqb (bit_at v (7 - i % 8)) 1
bit_here bytes k v i within same =
    bit_there (set bytes k v) i (omega (arith, length-set bytes k v))
    ∙ ap (λ (b : ℕ). eqb (bit_at b (7 - i % 8)) 1) (ap (λ (m : ℕ). get_or (set bytes k v) m 0) same ∙ get_or-set_same bytes k v 0 within)

not_one : (d : ℕ) → d < 2 → eqb d 1 ≡ false → d ≡ 0
not_one zero h e = refl
not_one (suc zero) h e = absurd cc
not_one (suc (suc d)) h e = absurd (omega (arith, h))

-- the byte that a bit is put into: what it was, or 0 where it is begun
pub record IsBegun (bytes : List ℕ) (at before : ℕ) : Type 0 where
  pub fresh : at % 8 ≡ 0 → before ≡ 0
  pub kept : at % 8 ≢ 0 → before ≡ get_or bytes (at / 8) 0

-- behind the bits that are written it is 0
before_zero : (bytes : List ℕ) (at before i : ℕ) → at < 8 * length bytes → PadsZero bytes at → IsBegun bytes at before → at ≤ i → i / 8 ≡ at / 8 → bit_at before (7 - i % 8) ≡ 0
before_zero bytes at before i h clean b le same =
    elim (cases_eq (at % 8) 0) [
      | inl z ↦ ap (λ (n : ℕ). bit_at n (7 - i % 8)) (b.fresh z) ∙ bit_at-zero (7 - i % 8)
      | inr nz ↦
          let pad : get_or (bits_of bytes) i false ≡ false = clean i le (omega arith) in
          let there : eqb (bit_at (get_or bytes (i / 8) 0) (7 - i % 8)) 1 ≡ false = sym (bit_there bytes i (omega arith)) ∙ pad in
          ap (λ (n : ℕ). bit_at n (7 - i % 8)) (b.kept nz ∙ ap (λ (k : ℕ). get_or bytes k 0) (sym same)) ∙ not_one _ (bit_at-lt _ _) there
    ]

-- where a number of n bits goes into a byte: behind what is written, and in front of `behind` others
pub record IsPart (bytes : List ℕ) (at n value behind : ℕ) : Type 0 where
  pub some : 0 < n
  pub sum : at % 8 + n + behind ≡ 8
  pub range : value < 2 ^ n
  pub within : at < 8 * length bytes
  pub clean : PadsZero bytes at

shifted_bit : (value behind j : ℕ) → behind ≤ j → bit_at (value * 2 ^ behind) j ≡ bit_at value (j - behind)
shifted_bit value behind j h =
    ap (λ (n : ℕ). bit_at n j) (let e : value * 2 ^ behind ≡ value * 2 ^ behind + 0 = omega arith in e) ∙ bit_at_cat_high value behind 0 j (pow_pos behind) h

shifted_below : (value behind j : ℕ) → j < behind → bit_at (value * 2 ^ behind) j ≡ 0
shifted_below value behind j h =
    ap (λ (n : ℕ). bit_at n j) (let e : value * 2 ^ behind ≡ value * 2 ^ behind + 0 = omega arith in e) ∙ bit_at_cat_low value behind 0 j h ∙ bit_at-zero j

shifted_above : (value n behind j : ℕ) → value < 2 ^ n → n + behind ≤ j → bit_at (value * 2 ^ behind) j ≡ 0
shifted_above value n behind j range h =
    shifted_bit value behind j (omega arith) ∙ bit_at_above value n (j - behind) range (omega arith)

abbrev pushed_bytes : List ℕ → ℕ → ℕ → ℕ → ℕ → List ℕ
pushed_bytes bytes at before value behind = set bytes (at / 8) (bit_or before (value * 2 ^ behind))

-- bits before the new ones stay
bit_before : (bytes : List ℕ) (at n value behind before i : ℕ) → IsPart bytes at n value behind → IsBegun bytes at before → i < at → get_or (bits_of (pushed_bytes bytes at before value behind)) i false ≡ get_or (bits_of bytes) i false
bit_before bytes at n value behind before i p b less =
    let part = value * 2 ^ behind in
    let sum = p.sum in
    let within = p.within in
    elim (cases_eq (i / 8) (at / 8)) [
      | inl same ↦
          let nz : at % 8 ≢ 0 = omega arith in
          let above : n + behind ≤ 7 - i % 8 = omega arith in
          let byte : before ≡ get_or bytes (i / 8) 0 = b.kept nz ∙ ap (λ (k : ℕ). get_or bytes k 0) (sym same) in
          let merged : bit_at (bit_or before part) (7 - i % 8) ≡ bit_at (get_or bytes (i / 8) 0) (7 - i % 8) =
          bit_at_or before part (7 - i % 8)
          ∙ ap (λ (d : ℕ). max (bit_at before (7 - i % 8)) d) (shifted_above value n behind (7 - i % 8) p.range above)
          ∙ (let e : max (bit_at before (7 - i % 8)) 0 ≡ bit_at before (7 - i % 8) = omega arith in e)
          ∙ ap (λ (m : ℕ). bit_at m (7 - i % 8)) byte in
          bit_here bytes (at / 8) (bit_or before part) i (omega arith) same
          ∙ ap (λ (d : ℕ). eqb d 1) merged
          ∙ sym (bit_there bytes i (omega arith))
      | inr other ↦ bit_elsewhere bytes (at / 8) (bit_or before part) i other
    ]

-- from the place on the byte has the bits of the part
bit_of_part : (bytes : List ℕ) (at n value behind before i : ℕ) → IsPart bytes at n value behind → IsBegun bytes at before → at ≤ i → i / 8 ≡ at / 8 → get_or (bits_of (pushed_bytes bytes at before value behind)) i false ≡ eqb (bit_at (value * 2 ^ behind) (7 - i % 8)) 1
bit_of_part bytes at n value behind before i p b le same =
    let part = value * 2 ^ behind in
    let within = p.within in
    let merged : bit_at (bit_or before part) (7 - i % 8) ≡ bit_at part (7 - i % 8) =
    bit_at_or before part (7 - i % 8)
    ∙ ap (λ (d : ℕ). max d (bit_at part (7 - i % 8))) (before_zero bytes at before i p.within p.clean b le same)
    ∙ (let e : max 0 (bit_at part (7 - i % 8)) ≡ bit_at part (7 - i % 8) = omega arith in e) in
    bit_here bytes (at / 8) (bit_or before part) i (omega arith) same ∙ ap (λ (d : ℕ). eqb d 1) merged

bit_new : (bytes : List ℕ) (at n value behind before j : ℕ) → IsPart bytes at n value behind → IsBegun bytes at before → j < n → get_or (bits_of (pushed_bytes bytes at before value behind)) (at + j) false ≡ get_or (number_bits n value) j false
bit_new bytes at n value behind before j p b less =
    let sum = p.sum in
    let same : (at + j) / 8 ≡ at / 8 = omega arith in
    let up : behind ≤ 7 - (at + j) % 8 = omega arith in
    let place : 7 - (at + j) % 8 - behind ≡ n - 1 - j = omega arith in
    bit_of_part bytes at n value behind before (at + j) p b (omega arith) same
    ∙ ap (λ (d : ℕ). eqb d 1) (shifted_bit value behind (7 - (at + j) % 8) up ∙ ap (λ (k : ℕ). bit_at value k) place)
    ∙ sym (get_or-number_bits n value j false less)

bit_behind : (bytes : List ℕ) (at n value behind before i : ℕ) → IsPart bytes at n value behind → IsBegun bytes at before → at + n ≤ i → i < 8 * ((at + n + 7) / 8) → get_or (bits_of (pushed_bytes bytes at before value behind)) i false ≡ false
bit_behind bytes at n value behind before i p b more within =
    let sum = p.sum in
    let some = p.some in
    let same : i / 8 ≡ at / 8 = omega arith in
    let low : 7 - i % 8 < behind = omega arith in
    bit_of_part bytes at n value behind before i p b (omega arith) same
    ∙ ap (λ (d : ℕ). eqb d 1) (shifted_below value behind (7 - i % 8) low)

-- a part is written
pub part_pushed : (bytes : List ℕ) (at n value behind before : ℕ) → IsPart bytes at n value behind → IsBegun bytes at before → Extends bytes (pushed_bytes bytes at before value behind) at n (number_bits n value)
part_pushed bytes at n value behind before p b =
    let new = bits_of (pushed_bytes bytes at before value behind) in
    let old = bits_of bytes in
    let sum = p.sum in
    let within = p.within in
    let long = length-number_bits n value in
    let long_old : length (take at old) ≡ at = length-take-le at old (omega (arith, length-bits_of bytes)) in
    let long_new : length (take (at + n) new) ≡ at + n =
    length-take-le (at + n) new (omega (arith, length-bits_of (pushed_bytes bytes at before value behind), length-set bytes (at / 8) (bit_or before (value * 2 ^ behind)))) in
    record {
      long = long;
      wrote = ext_get_or false (take (at + n) new) (take at old ++ number_bits n value) (omega (arith, long_new, long_old, long, length-append (take at old) (number_bits n value)))
          (λ i lt. elim (cases_lt i at) [
            | inl less ↦
                get_or-take (at + n) new i false (omega arith)
                ∙ bit_before bytes at n value behind before i p b less
                ∙ sym (get_or-take at old i false less)
                ∙ sym (get_or_append_left (take at old) (number_bits n value) false i (omega (arith, long_old)))
            | inr le ↦
                let j = i - at in
                let here : i ≡ at + j = omega arith in
                get_or-take (at + n) new i false (omega (arith, long_new, lt))
                ∙ ap (λ (k : ℕ). get_or new k false) here
                ∙ bit_new bytes at n value behind before j p b (omega (arith, long_new, lt))
                ∙ sym (get_or-append_right (take at old) (number_bits n value) at i false long_old le)
          ]);
      clean = λ k le lt. bit_behind bytes at n value behind before k p b le lt;
    }

-- one after the other
pub extended : (a b c : List ℕ) (at n m : ℕ) (xs ys : List Bool) → Extends a b at n xs → Extends b c (at + n) m ys → Extends a c at (n + m) (xs ++ ys)
extended a b c at n m xs ys p q =
    let sum : at + n + m ≡ at + (n + m) = omega arith in
    record {
      long = length-append xs ys ∙ (let e : length xs + length ys ≡ n + m = omega (arith, p.long, q.long) in e);
      wrote =
          ap (λ (k : ℕ). take k (bits_of c)) (sym sum)
          ∙ q.wrote
          ∙ ap (λ (l : List Bool). l ++ ys) p.wrote
          ∙ append_assoc (take at (bits_of a)) xs ys;
      clean = subst (λ (k : ℕ). PadsZero c k) sum q.clean;
    }
