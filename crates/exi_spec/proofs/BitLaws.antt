-- Laws of the bits of numbers and bytes.
use Rattle.std.proofs.Common.{◌≡◌, ℕ, zero, suc, ◌+◌, ◌-◌, ◌*◌, ◌/◌, ◌%◌, ◌^◌, ◌<◌, Bool, true, false, cond, eqb, List, [], ◌∷◌, ◌++◌, length, get_or, refl, sym, ap, subst, ◌∙◌, arith, length-append}
use Rattle.std.proofs.Math.Nat.{pow-suc}
use Rattle.std.proofs.lemmas.List.{get_or_append_left, get_or-append-add}
use Rattle.std.proofs.lemmas.Nat.{mod-pow-add, shr_high}
use Rattle.std.proofs.lemmas.Nat.Bits.{bit_at_cat_low}
use Rattle.exi_spec.specs.Bits.{number_bits, number_of, bits_of}
use Rattle.exi_spec.specs.Items.{octet}

pub length-number_bits : (n v : ℕ) → length (number_bits n v) ≡ n
unfolding number_bits
length-number_bits zero v = refl
length-number_bits (suc n) v = ap suc (length-number_bits n v)

-- higher bits don't count
pub number_bits-high : (n a v : ℕ) → number_bits n (a * 2 ^ n + v) ≡ number_bits n v
unfolding number_bits
number_bits-high zero a v = refl
number_bits-high (suc n) a v =
    let head : (a * 2 ^ suc n + v) / 2 ^ n % 2 ≡ v / 2 ^ n % 2 = bit_at_cat_low a (suc n) v n (omega arith) in
    let same : a * 2 ^ suc n + v ≡ (a * 2) * 2 ^ n + v = rw (pow-suc 2 n) (omega arith) in
    let tail : number_bits n (a * 2 ^ suc n + v) ≡ number_bits n v =
    ap (λ (w : ℕ). number_bits n w) same ∙ number_bits-high n (a * 2) v in
    ap (λ (w : ℕ). eqb w 1 ∷ number_bits n (a * 2 ^ suc n + v)) head ∙ ap (λ (w : List Bool). eqb (v / 2 ^ n % 2) 1 ∷ w) tail

weight-at : (d p : ℕ) → d < 2 → (cond (eqb d 1) p 0) ≡ d * p
weight-at zero p h = omega arith
weight-at (suc zero) p h = omega arith
weight-at (suc (suc d)) p h = absurd (omega arith)

-- the bits of a number stand for it, but for the higher ones
pub number_of-number_bits_mod : (n v : ℕ) → number_of (number_bits n v) ≡ v % 2 ^ n
unfolding number_bits number_of
number_of-number_bits_mod zero v = omega arith
number_of-number_bits_mod (suc n) v =
    let split : v % 2 ^ (1 + n) ≡ (v / 2 ^ n % 2) * 2 ^ n + v % 2 ^ n = mod-pow-add v 1 n in
    let one : 1 + n ≡ suc n = omega arith in
    let high : (cond (eqb (v / 2 ^ n % 2) 1) (2 ^ length (number_bits n v)) 0) ≡ (v / 2 ^ n % 2) * 2 ^ n =
    rw (length-number_bits n v) (weight-at (v / 2 ^ n % 2) (2 ^ n) (omega arith)) in
    ap (λ (w : ℕ). w + number_of (number_bits n v)) high
    ∙ ap (λ (w : ℕ). (v / 2 ^ n % 2) * 2 ^ n + w) (number_of-number_bits_mod n v)
    ∙ sym (subst (λ (m : ℕ). v % 2 ^ m ≡ (v / 2 ^ n % 2) * 2 ^ n + v % 2 ^ n) one split)

pub number_of-number_bits : (n v : ℕ) → v < 2 ^ n → number_of (number_bits n v) ≡ v
number_of-number_bits n v h = number_of-number_bits_mod n v ∙ grind arith

pub number_of-lt : (bits : List Bool) → number_of bits < 2 ^ length bits
unfolding number_of
number_of-lt [] = omega arith
number_of-lt (true ∷ bits) = rw (pow-suc 2 (length bits)) (omega (arith, number_of-lt bits))
number_of-lt (false ∷ bits) = rw (pow-suc 2 (length bits)) (omega (arith, number_of-lt bits))

-- bits are those of the number that they stand for
pub number_bits-number_of : (bits : List Bool) → number_bits (length bits) (number_of bits) ≡ bits
unfolding number_bits number_of
number_bits-number_of [] = refl
number_bits-number_of (true ∷ bits) =
    let n = length bits in
    let one : 2 ^ n + number_of bits ≡ 1 * 2 ^ n + number_of bits = omega arith in
    let high : (2 ^ n + number_of bits) / 2 ^ n ≡ 1 = ap (λ (w : ℕ). w / 2 ^ n) one ∙ shr_high 1 n (number_of bits) (number_of-lt bits) in
    let head : eqb ((2 ^ n + number_of bits) / 2 ^ n % 2) 1 ≡ true = ap (λ (w : ℕ). eqb (w % 2) 1) high in
    let tail : number_bits n (2 ^ n + number_of bits) ≡ bits =
    ap (λ (w : ℕ). number_bits n w) one ∙ number_bits-high n 1 (number_of bits) ∙ number_bits-number_of bits in
    ap (λ (w : Bool). w ∷ number_bits n (2 ^ n + number_of bits)) head ∙ ap (λ (w : List Bool). true ∷ w) tail
number_bits-number_of (false ∷ bits) =
    let n = length bits in
    let none : 0 + number_of bits ≡ 0 * 2 ^ n + number_of bits = omega arith in
    let high : (0 + number_of bits) / 2 ^ n ≡ 0 = ap (λ (w : ℕ). w / 2 ^ n) none ∙ shr_high 0 n (number_of bits) (number_of-lt bits) in
    let head : eqb ((0 + number_of bits) / 2 ^ n % 2) 1 ≡ false = ap (λ (w : ℕ). eqb (w % 2) 1) high in
    let tail : number_bits n (0 + number_of bits) ≡ bits =
    ap (λ (w : ℕ). number_bits n w) none ∙ number_bits-high n 0 (number_of bits) ∙ number_bits-number_of bits in
    ap (λ (w : Bool). w ∷ number_bits n (0 + number_of bits)) head ∙ ap (λ (w : List Bool). false ∷ w) tail

-- one more bit behind
pub number_of-push : (bits : List Bool) (bit : Bool) → number_of (bits ++ bit ∷ []) ≡ 2 * number_of bits + cond bit 1 0
unfolding number_of
number_of-push [] true = refl
number_of-push [] false = refl
number_of-push (true ∷ bits) bit =
    let long : 2 ^ length (bits ++ bit ∷ []) ≡ 2 ^ length bits * 2 = rw (length-append, ← pow-suc 2 (length bits)) (ap (λ (n : ℕ). 2 ^ n) (omega arith)) in
    omega (arith, long, number_of-push bits bit)
number_of-push (false ∷ bits) bit = omega (arith, number_of-push bits bit)

pub length-bits_of : (bytes : List ℕ) → length (bits_of bytes) ≡ 8 * length bytes
unfolding bits_of
length-bits_of [] = refl
length-bits_of (byte ∷ bytes) = omega (arith, length-append (number_bits 8 byte) (bits_of bytes), length-number_bits 8 byte, length-bits_of bytes)

pub get_or-number_bits : (n v j : ℕ) (d : Bool) → j < n → get_or (number_bits n v) j d ≡ eqb (v / 2 ^ (n - 1 - j) % 2) 1
unfolding number_bits
get_or-number_bits zero v j d h = absurd (omega arith)
get_or-number_bits (suc n) v zero d h = ap (λ (k : ℕ). eqb (v / 2 ^ k % 2) 1) (omega arith)
get_or-number_bits (suc n) v (suc j) d h =
    get_or-number_bits n v j d (omega arith) ∙ ap (λ (k : ℕ). eqb (v / 2 ^ k % 2) 1) (omega arith)

-- the bit at a place, in the byte there
pub get_or-bits_of : (bytes : List ℕ) (i j : ℕ) (d : Bool) → j < 8 → i < length bytes → get_or (bits_of bytes) (8 * i + j) d ≡ eqb (get_or bytes i 0 / 2 ^ (7 - j) % 2) 1
unfolding bits_of
get_or-bits_of [] i j d h l = absurd (omega arith)
get_or-bits_of (byte ∷ bytes) zero j d h l =
    ap (λ (k : ℕ). get_or (number_bits 8 byte ++ bits_of bytes) k d) (omega arith)
    ∙ get_or_append_left (number_bits 8 byte) (bits_of bytes) d j (omega (arith, length-number_bits 8 byte))
    ∙ get_or-number_bits 8 byte j d h
get_or-bits_of (byte ∷ bytes) (suc i) j d h l =
    ap (λ (k : ℕ). get_or (number_bits 8 byte ++ bits_of bytes) k d) (omega (arith, length-number_bits 8 byte))
    ∙ get_or-append-add (number_bits 8 byte) (bits_of bytes) (8 * i + j) d
    ∙ get_or-bits_of bytes i j d h (omega arith)

-- an octet by its high bit
pub low_octet : (byte : ℕ) → byte < 128 → number_bits 8 byte ≡ octet false byte
unfolding number_bits
low_octet byte h = ap (λ (b : Bool). b ∷ number_bits 7 byte) (let e : byte / 128 ≡ 0 = omega arith in ap (λ (w : ℕ). eqb (w % 2) 1) e)

pub high_octet : (group : ℕ) → group < 128 → number_bits 8 (group + 128) ≡ octet true group
unfolding number_bits
high_octet group h =
    let e : (group + 128) / 128 ≡ 1 = omega arith in
    let same : group + 128 ≡ 1 * 2 ^ 7 + group = omega arith in
    ap (λ (w : ℕ). eqb (w % 2) 1 ∷ number_bits 7 (group + 128)) e
    ∙ ap (λ (w : List Bool). true ∷ w) (ap (λ (w : ℕ). number_bits 7 w) same ∙ number_bits-high 7 1 group)
