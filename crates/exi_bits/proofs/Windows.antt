-- Numbers in whole octets, and what their bits are.
use Rattle.std.proofs.Common.{◌≡◌, ◌≢◌, ℕ, zero, suc, ◌+◌, ◌-◌, ◌*◌, ◌/◌, ◌%◌, ◌^◌, ◌<◌, ◌≤◌, Bool, eqb, List, [], ◌∷◌, ◌++◌, length, get_or, take, drop, sym, ap, subst, ◌∙◌, arith, zero-add, append_assoc, bit_or}
use Rattle.std.proofs.Math.Nat.{mul_comm, mul-mod_left, pow-le-pow_right}
use Rattle.std.proofs.lemmas.List.{length-take-le, length-drop, take-append-drop, take-take, take_at, drop_at, drop-drop, drop-take, drop_more}
use Rattle.std.proofs.lemmas.Nat.{shr-shr, shr_split, shr_high, shr_below, shl-shr, mod-pow-add, or_shifted, pow-add, pow_pos, mod_below, mul-add-lt, shl_whole}
use Rattle.exi_spec.specs.Bits.{number_bits, bits_of}
use Rattle.exi_spec.proofs.BitLaws.{length-number_bits, length-bits_of, number_bits-high}
use Rattle.exi_bits.proofs.Penned.{bits_of-append, bits_of-one, bits_of-take}

-- ---- parts of a number

pub number_bits-add : (a b v : ℕ) → number_bits (a + b) v ≡ number_bits a (v / 2 ^ b) ++ number_bits b v
unfolding number_bits
number_bits-add zero b v = ap (λ (k : ℕ). number_bits k v) (zero-add b)
number_bits-add (suc a) b v =
    let one : suc a + b ≡ suc (a + b) = omega arith in
    let head : v / 2 ^ (a + b) ≡ v / 2 ^ b / 2 ^ a = ap (λ (k : ℕ). v / 2 ^ k) (let e : a + b ≡ b + a = omega arith in e) ∙ sym (shr-shr v b a) in
    ap (λ (k : ℕ). number_bits k v) one
    ∙ ap (λ (w : ℕ). eqb (w % 2) 1 ∷ number_bits (a + b) v) head
    ∙ ap (λ (l : List Bool). eqb (v / 2 ^ b / 2 ^ a % 2) 1 ∷ l) (number_bits-add a b v)

-- higher bits don't count
pub number_bits-mod : (n v : ℕ) → number_bits n (v % 2 ^ n) ≡ number_bits n v
number_bits-mod n v = sym (number_bits-high n (v / 2 ^ n) (v % 2 ^ n)) ∙ ap (λ (w : ℕ). number_bits n w) (shr_split v n)

-- a number in front of another one
pub number_bits-join : (a b high low : ℕ) → low < 2 ^ b → number_bits (a + b) (high * 2 ^ b + low) ≡ number_bits a high ++ number_bits b low
number_bits-join a b high low h =
    number_bits-add a b (high * 2 ^ b + low)
    ∙ ap (λ (w : ℕ). number_bits a w ++ number_bits b (high * 2 ^ b + low)) (shr_high high b low h)
    ∙ ap (λ (l : List Bool). number_bits a high ++ l) (number_bits-high b high low)

-- ---- a window of octets

bits_of-drop : (k : ℕ) (bytes : List ℕ) → k ≤ length bytes → bits_of (drop k bytes) ≡ drop (8 * k) (bits_of bytes)
bits_of-drop k bytes h =
    let long : length (bits_of (take k bytes)) ≡ 8 * k = omega (arith, length-bits_of (take k bytes), length-take-le k bytes h) in
    sym (ap (λ (l : List ℕ). drop (8 * k) (bits_of l)) (sym (take-append-drop k bytes))
    ∙ ap (λ (l : List Bool). drop (8 * k) l) (bits_of-append (take k bytes) (drop k bytes))
    ∙ drop_at (bits_of (take k bytes)) (bits_of (drop k bytes)) (8 * k) long)

-- the number of `count` octets from `first` on
pub record IsWindow (bytes : List ℕ) (first count window : ℕ) : Type 0 where
  pub within : first + count ≤ length bytes
  pub spelled : number_bits (8 * count) window ≡ bits_of (take count (drop first bytes))

-- of a window's bits those behind `before` others and in front of `behind`
inner : (before n behind window : ℕ) → take n (drop before (number_bits (before + (n + behind)) window)) ≡ number_bits n (window / 2 ^ behind)
inner before n behind window =
    ap (λ (l : List Bool). take n (drop before l)) (number_bits-add before (n + behind) window)
    ∙ ap (λ (l : List Bool). take n l) (drop_at (number_bits before (window / 2 ^ (n + behind))) (number_bits (n + behind) window) before (length-number_bits before (window / 2 ^ (n + behind))))
    ∙ ap (λ (l : List Bool). take n l) (number_bits-add n behind window)
    ∙ take_at (number_bits n (window / 2 ^ behind)) (number_bits behind window) n (length-number_bits n (window / 2 ^ behind))

pub window_there : (bytes : List ℕ) (first count window bit n behind : ℕ) → IsWindow bytes first count window → 8 * first ≤ bit → bit + n + behind ≡ 8 * (first + count) → drop bit (bits_of bytes) ≡ number_bits n (window / 2 ^ behind) ++ drop (bit + n) (bits_of bytes)
window_there bytes first count window bit n behind w from to =
    let all = bits_of bytes in
    let before = bit - 8 * first in
    let sum : before + (n + behind) ≡ 8 * count = omega arith in
    let place : 8 * first + before ≡ bit = omega arith in
    let octets : bits_of (take count (drop first bytes)) ≡ take (8 * count) (drop (8 * first) all) =
    bits_of-take count (drop first bytes) (omega (arith, length-drop first bytes, w.within))
    ∙ ap (λ (l : List Bool). take (8 * count) l) (bits_of-drop first bytes (omega (arith, w.within))) in
    let window_is : number_bits (before + (n + behind)) window ≡ take (before + (n + behind)) (drop (8 * first) all) =
    ap (λ (k : ℕ). number_bits k window) sum ∙ w.spelled ∙ octets ∙ ap (λ (k : ℕ). take k (drop (8 * first) all)) (sym sum) in
    let behind_it : drop before (take (before + (n + behind)) (drop (8 * first) all)) ≡ take (n + behind) (drop bit all) =
    drop-take before (n + behind) (drop (8 * first) all)
    ∙ ap (λ (l : List Bool). take (n + behind) l) (drop-drop before (8 * first) all ∙ ap (λ (k : ℕ). drop k all) place) in
    let front : number_bits n (window / 2 ^ behind) ≡ take n (drop bit all) =
    sym (inner before n behind window)
    ∙ ap (λ (l : List Bool). take n (drop before l)) window_is
    ∙ ap (λ (l : List Bool). take n l) behind_it
    ∙ take-take n (n + behind) (drop bit all) (omega arith) in
    sym (ap (λ (l : List Bool). l ++ drop (bit + n) all) front
    ∙ ap (λ (l : List Bool). take n (drop bit all) ++ l) (sym (drop-drop n bit all))
    ∙ take-append-drop n (drop bit all))

-- ---- one byte

-- the byte at a bit
abbrev byte_at : List ℕ → ℕ → ℕ
byte_at bytes bit = get_or bytes (bit / 8) 0

one_byte : (bytes : List ℕ) (bit : ℕ) → bit < 8 * length bytes → IsWindow bytes (bit / 8) 1 (byte_at bytes bit)
one_byte bytes bit h =
    let one : take 1 (drop (bit / 8) bytes) ≡ byte_at bytes bit ∷ [] = ap (λ (l : List ℕ). take 1 l) (drop_more bytes (bit / 8) 0 (omega arith)) in
    record { within = omega arith; spelled = sym (ap bits_of one ∙ bits_of-one (byte_at bytes bit)) }

pub part_there : (bytes : List ℕ) (bit n behind : ℕ) → bit % 8 + n + behind ≡ 8 → bit < 8 * length bytes → drop bit (bits_of bytes) ≡ number_bits n (get_or bytes (bit / 8) 0 / 2 ^ behind % 2 ^ n) ++ drop (bit + n) (bits_of bytes)
part_there bytes bit n behind sum h =
    window_there bytes (bit / 8) 1 (byte_at bytes bit) bit n behind (one_byte bytes bit h) (omega arith) (omega arith)
    ∙ ap (λ (l : List Bool). l ++ drop (bit + n) (bits_of bytes)) (sym (number_bits-mod n (byte_at bytes bit / 2 ^ behind)))

-- ---- a number, part by part

-- so many bits are read
pub record ReadParts (bits : List Bool) (bit read value : ℕ) : Type 0 where
  pub range : value < 2 ^ read
  pub there : drop bit bits ≡ number_bits read value ++ drop (bit + read) bits

pub nothing_read : (bits : List Bool) (bit : ℕ) → ReadParts bits bit 0 0
unfolding number_bits
nothing_read bits bit = record { range = omega arith; there = ap (λ (k : ℕ). drop k bits) (let e : bit ≡ bit + 0 = omega arith in e) }

one_part_read : (bits : List Bool) (bit read value part more : ℕ) → ReadParts bits bit read value → more < 2 ^ part → drop (bit + read) bits ≡ number_bits part more ++ drop (bit + read + part) bits → ReadParts bits bit (read + part) (value * 2 ^ part + more)
one_part_read bits bit read value part more p range there =
    let power : 2 ^ (read + part) ≡ 2 ^ part * 2 ^ read = pow-add 2 read part ∙ mul_comm (2 ^ read) (2 ^ part) in
    let below : value * 2 ^ part + more < 2 ^ part * 2 ^ read = mul-add-lt value (2 ^ part) more (2 ^ read) p.range range in
    let on : bit + read + part ≡ bit + (read + part) = omega arith in
    record {
      range = omega (arith, power, below);
      there =
          p.there
          ∙ ap (λ (l : List Bool). number_bits read value ++ l) (there ∙ ap (λ (k : ℕ). number_bits part more ++ drop k bits) on)
          ∙ sym (append_assoc (number_bits read value) (number_bits part more) (drop (bit + (read + part)) bits))
          ∙ ap (λ (l : List Bool). l ++ drop (bit + (read + part)) bits) (sym (number_bits-join read part value more range));
    }

pub part_fits : (bits : List Bool) (bit read value part more : ℕ) → ReadParts bits bit read value → more < 2 ^ part → read + part ≤ 32 → value * 2 ^ part % 2 ^ 32 + more < 2 ^ 32
part_fits bits bit read value part more p range fits =
    let power : 2 ^ (read + part) ≡ 2 ^ part * 2 ^ read = pow-add 2 read part ∙ mul_comm (2 ^ read) (2 ^ part) in
    let below : value * 2 ^ part + more < 2 ^ part * 2 ^ read = mul-add-lt value (2 ^ part) more (2 ^ read) p.range range in
    let within : 2 ^ (read + part) ≤ 2 ^ 32 = pow-le-pow_right {n = 2} (omega arith) {i = read + part} {j = 32} fits in
    omega (arith, power, below, within, shl_whole value read part 32 p.range fits)

pub shifted_part : (bits : List Bool) (bit read value part more : ℕ) → ReadParts bits bit read value → more < 2 ^ part → read + part ≤ 32 → drop (bit + read) bits ≡ number_bits part more ++ drop (bit + read + part) bits → ReadParts bits bit (read + part) (value * 2 ^ part % 2 ^ 32 + more)
shifted_part bits bit read value part more p range fits there =
    subst (λ (v : ℕ). ReadParts bits bit (read + part) (v + more)) (sym (shl_whole value read part 32 p.range fits))
    (one_part_read bits bit read value part more p range there)

-- two parts
pub both_parts : (bits : List Bool) (bit n first rest high low : ℕ) → first + rest ≡ n → n ≤ 32 → high < 2 ^ first → drop bit bits ≡ number_bits first high ++ drop (bit + first) bits →
    low < 2 ^ rest → drop (bit + first) bits ≡ number_bits rest low ++ drop (bit + first + rest) bits → ReadParts bits bit n (high * 2 ^ rest % 2 ^ 32 + low)
both_parts bits bit n first rest high low whole fits high_range high_there low_range low_there =
    subst (λ (k : ℕ). ReadParts bits bit k (high * 2 ^ rest % 2 ^ 32 + low)) whole
    (shifted_part bits bit first high rest low (record { range = high_range; there = high_there }) low_range (let e : first + rest ≤ 32 = omega (arith, whole, fits) in e) low_there)

-- ---- an octet

pub whole_there : (bytes : List ℕ) (bit : ℕ) → bit % 8 ≡ 0 → bit + 8 ≤ 8 * length bytes → drop bit (bits_of bytes) ≡ number_bits 8 (get_or bytes (bit / 8) 0) ++ drop (bit + 8) (bits_of bytes)
whole_there bytes bit whole within =
    let same : byte_at bytes bit / 2 ^ 0 ≡ byte_at bytes bit = omega arith in
    window_there bytes (bit / 8) 1 (byte_at bytes bit) bit 8 0 (one_byte bytes bit (omega arith)) (omega arith) (omega arith)
    ∙ ap (λ (v : ℕ). number_bits 8 v ++ drop (bit + 8) (bits_of bytes)) same

-- the low bits of one octet in front of the high ones of the next
merged : (a b s r : ℕ) → s + r ≡ 8 → b < 256 → bit_or (a * 2 ^ s % 2 ^ 8) (b / 2 ^ r) ≡ a * 2 ^ s % 2 ^ 8 + b / 2 ^ r
merged a b s r sum range =
    let high : a * 2 ^ s % 2 ^ 8 ≡ (a % 2 ^ r) * 2 ^ s =
    ap (λ (k : ℕ). a * 2 ^ s % 2 ^ k) (let e : 8 ≡ r + s = omega arith in e)
    ∙ mod-pow-add (a * 2 ^ s) r s
    ∙ ap (λ (w : ℕ). (w % 2 ^ r) * 2 ^ s + a * 2 ^ s % 2 ^ s) (shl-shr a s)
    ∙ ap (λ (w : ℕ). (a % 2 ^ r) * 2 ^ s + w) (mul-mod_left a (2 ^ s))
    ∙ (let e : (a % 2 ^ r) * 2 ^ s + 0 ≡ (a % 2 ^ r) * 2 ^ s = omega arith in e) in
    let low : b / 2 ^ r < 2 ^ s = shr_below b s r (subst (λ (k : ℕ). b < 2 ^ k) (sym sum) range) in
    ap (λ (w : ℕ). bit_or w (b / 2 ^ r)) high
    ∙ or_shifted (a % 2 ^ r) s (b / 2 ^ r) low
    ∙ ap (λ (w : ℕ). w + b / 2 ^ r) (sym high)

shifted : (a b s r : ℕ) → s + r ≡ 8 → (a * 2 ^ 8 + b) / 2 ^ r ≡ a * 2 ^ s + b / 2 ^ r
shifted a b s r sum =
    let power : 2 ^ 8 ≡ 2 ^ s * 2 ^ r = ap (λ (k : ℕ). 2 ^ k) (sym sum) ∙ pow-add 2 s r in
    let split : b / 2 ^ r * 2 ^ r + b % 2 ^ r ≡ b = shr_split b r in
    let parts : a * 2 ^ 8 + b ≡ (a * 2 ^ s + b / 2 ^ r) * 2 ^ r + b % 2 ^ r =
    ap (λ (w : ℕ). a * w + b) power ∙ ap (λ (w : ℕ). a * (2 ^ s * 2 ^ r) + w) (sym split) ∙ grind arith in
    ap (λ (w : ℕ). w / 2 ^ r) parts ∙ shr_high (a * 2 ^ s + b / 2 ^ r) r (b % 2 ^ r) (mod_below b (2 ^ r) (pow_pos r))

pub two_there : (bytes : List ℕ) (bit : ℕ) → bit % 8 ≢ 0 → bit + 8 ≤ 8 * length bytes → get_or bytes (bit / 8 + 1) 0 < 256 → drop bit (bits_of bytes) ≡ number_bits 8 (bit_or (get_or bytes (bit / 8) 0 * 2 ^ (bit % 8) % 2 ^ 8) (get_or bytes (bit / 8 + 1) 0 / 2 ^ (8 - bit % 8))) ++ drop (bit + 8) (bits_of bytes)
two_there bytes bit broken within range =
    let k = bit / 8 in
    let s = bit % 8 in
    let r = 8 - bit % 8 in
    let a = get_or bytes k 0 in
    let b = get_or bytes (k + 1) 0 in
    let sum : s + r ≡ 8 = omega arith in
    let two : take 2 (drop k bytes) ≡ a ∷ b ∷ [] =
    ap (λ (l : List ℕ). take 2 l) (drop_more bytes k 0 (omega arith))
    ∙ ap (λ (l : List ℕ). a ∷ take 1 l) (drop_more bytes (k + 1) 0 (omega arith)) in
    let pair : bits_of (a ∷ b ∷ []) ≡ number_bits 8 a ++ number_bits 8 b =
    bits_of-append (a ∷ []) (b ∷ []) ∙ ap (λ (l : List Bool). l ++ bits_of (b ∷ [])) (bits_of-one a) ∙ ap (λ (l : List Bool). number_bits 8 a ++ l) (bits_of-one b) in
    let w : IsWindow bytes k 2 (a * 2 ^ 8 + b) = record {
      within = omega arith;
      spelled = number_bits-join 8 8 a b range ∙ sym pair ∙ ap bits_of (sym two);
    } in
    let octet : number_bits 8 ((a * 2 ^ 8 + b) / 2 ^ r) ≡ number_bits 8 (bit_or (a * 2 ^ s % 2 ^ 8) (b / 2 ^ r)) =
    ap (λ (v : ℕ). number_bits 8 v) (shifted a b s r sum)
    ∙ ap (λ (v : ℕ). number_bits 8 (v + b / 2 ^ r)) (sym (shr_split (a * 2 ^ s) 8))
    ∙ ap (λ (v : ℕ). number_bits 8 v) (let e : a * 2 ^ s / 2 ^ 8 * 2 ^ 8 + a * 2 ^ s % 2 ^ 8 + b / 2 ^ r ≡ a * 2 ^ s / 2 ^ 8 * 2 ^ 8 + (a * 2 ^ s % 2 ^ 8 + b / 2 ^ r) = omega arith in e)
    ∙ number_bits-high 8 (a * 2 ^ s / 2 ^ 8) (a * 2 ^ s % 2 ^ 8 + b / 2 ^ r)
    ∙ ap (λ (v : ℕ). number_bits 8 v) (sym (merged a b s r sum range)) in
    window_there bytes k 2 (a * 2 ^ 8 + b) bit 8 r w (omega arith) (omega arith)
    ∙ ap (λ (l : List Bool). l ++ drop (bit + 8) (bits_of bytes)) octet
