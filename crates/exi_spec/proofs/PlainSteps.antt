-- The octets at the front of bits, by their number.
use Rattle.std.proofs.Common.{◌≡◌, ℕ, suc, ◌+◌, ◌-◌, ◌*◌, ◌^◌, ◌<◌, ◌≤◌, Bool, true, false, cond, List, ◌++◌, length, get_or, take, drop, refl, sym, ap, subst, ◌∙◌, arith, inl, inr}
use Rattle.std.proofs.lemmas.List.{length-take-le, take-append-drop, take_more}
use Rattle.exi_spec.specs.declared.BitCause.{BitCause}
use Rattle.exi_spec.specs.declared.BitCause.TheVariants.{WiderInteger}
use Rattle.exi_spec.specs.Bits.{number_bits, number_of}
use Rattle.exi_spec.specs.Items.{octet, SpellsOctets, RefusesOctets, IsWideInOctets}
use Rattle.exi_spec.proofs.BitLaws.{number_bits-number_of, number_of-lt, number_of-push, low_octet, high_octet}
use Rattle.exi_spec.proofs.OctetLaws.{only_octet, more_octets, none_allowed, wide_octets, refused_later}
use Rattle.exi_spec.proofs.PlainLaws.{take-split}
use mir.Val.{bool_byte}

bool_byte-is : (b : Bool) → bool_byte b ≡ cond b 1 0
bool_byte-is true = refl
bool_byte-is false = refl

pub bool_byte-le : (b : Bool) → bool_byte b ≤ 1
bool_byte-le true = omega arith
bool_byte-le false = omega arith

pub number_more : (bits : List Bool) (i value digit : ℕ) → i < length bits → digit ≡ bool_byte (get_or bits i false) → value ≡ number_of (take i bits) → 2 * value + digit ≡ number_of (take (i + 1) bits)
number_more bits i value digit less one v =
    ap (λ (n : ℕ). 2 * value + n) (one ∙ bool_byte-is (get_or bits i false))
    ∙ ap (λ (n : ℕ). 2 * n + cond (get_or bits i false) 1 0) v
    ∙ sym (number_of-push (take i bits) (get_or bits i false))
    ∙ ap number_of (sym (take_more bits i false less))

pub number_small : (bits : List Bool) → length bits ≡ 8 → number_of bits < 256
number_small bits long = subst (λ (n : ℕ). number_of bits < 2 ^ n) long (number_of-lt bits)

front_bits : (bits : List Bool) (v : ℕ) → 8 ≤ length bits → v ≡ number_of (take 8 bits) → take 8 bits ≡ number_bits 8 v
front_bits bits v long is =
    sym (number_bits-number_of (take 8 bits))
    ∙ ap (λ (n : ℕ). number_bits n (number_of (take 8 bits))) (length-take-le 8 bits long)
    ∙ ap (λ (n : ℕ). number_bits 8 n) (sym is)

pub first_low : (most v : ℕ) (bits : List Bool) → 0 < most → 8 ≤ length bits → v ≡ number_of (take 8 bits) → v < 128 → SpellsOctets most v (take 8 bits)
first_low most v bits m long is low =
    subst (λ (l : List Bool). SpellsOctets most v l) (sym (front_bits bits v long is ∙ low_octet v low)) (only_octet most v m low)

high_front : (bits : List Bool) (v : ℕ) → 8 ≤ length bits → v ≡ number_of (take 8 bits) → 128 ≤ v → take 8 bits ≡ octet true (v - 128)
high_front bits v long is high =
    let range : v < 256 = rw is (number_small (take 8 bits) (length-take-le 8 bits long)) in
    let back : v ≡ (v - 128) + 128 = omega arith in
    front_bits bits v long is ∙ ap (λ (n : ℕ). number_bits 8 n) back ∙ high_octet (v - 128) (omega arith)

small_group : (bits : List Bool) (v : ℕ) → 8 ≤ length bits → v ≡ number_of (take 8 bits) → v - 128 < 128
small_group bits v long is = omega (arith, is, number_small (take 8 bits) (length-take-le 8 bits long))

whole : (bits : List Bool) (v : ℕ) → 8 ≤ length bits → v ≡ number_of (take 8 bits) → 128 ≤ v → bits ≡ octet true (v - 128) ++ drop 8 bits
whole bits v long is high = sym (take-append-drop 8 bits) ∙ ap (λ (l : List Bool). l ++ drop 8 bits) (high_front bits v long is high)

pub last_high : (most v : ℕ) (bits : List Bool) → most ≡ 1 → 8 ≤ length bits → v ≡ number_of (take 8 bits) → 128 ≤ v → RefusesOctets most bits WiderInteger
last_high most v bits one long is high =
    let past : RefusesOctets 0 (drop 8 bits) WiderInteger = inl (none_allowed (drop 8 bits)) in
    let later : RefusesOctets 1 (octet true (v - 128) ++ drop 8 bits) WiderInteger = refused_later 0 (v - 128) (drop 8 bits) WiderInteger (small_group bits v long is) past in
    subst (λ (k : ℕ). RefusesOctets k bits WiderInteger) (sym one)
    (subst (λ (l : List Bool). RefusesOctets 1 l WiderInteger) (sym (whole bits v long is high)) later)

pub later_refused : (most v : ℕ) (bits : List Bool) (cause : BitCause) → 0 < most → 8 ≤ length bits → v ≡ number_of (take 8 bits) → 128 ≤ v → RefusesOctets (most - 1) (drop 8 bits) cause → RefusesOctets most bits cause
later_refused most v bits cause m long is high r =
    let most_is : suc (most - 1) ≡ most = omega arith in
    subst (λ (k : ℕ). RefusesOctets k bits cause) most_is
    (subst (λ (l : List Bool). RefusesOctets (suc (most - 1)) l cause) (sym (whole bits v long is high))
    (refused_later (most - 1) (v - 128) (drop 8 bits) cause (small_group bits v long is) r))

pub wide_high : (most v high used : ℕ) (bits : List Bool) → 0 < most → 8 ≤ length bits → v ≡ number_of (take 8 bits) → 128 ≤ v → 2 ^ 57 ≤ high → SpellsOctets (most - 1) high (take used (drop 8 bits)) → RefusesOctets most bits WiderInteger
wide_high most v high used bits m long is big wide s =
    let most_is : suc (most - 1) ≡ most = omega arith in
    let rest = drop used (drop 8 bits) in
    let there : octet true (v - 128) ++ (take used (drop 8 bits) ++ rest) ≡ bits =
    ap (λ (l : List Bool). octet true (v - 128) ++ l) (take-append-drop used (drop 8 bits)) ∙ sym (whole bits v long is big) in
    inr (subst (λ (k : ℕ). IsWideInOctets k bits) most_is
    (subst (λ (l : List Bool). IsWideInOctets (suc (most - 1)) l) there
    (wide_octets (most - 1) (v - 128) high (take used (drop 8 bits)) rest (small_group bits v long is) (omega (arith, wide)) s)))

take-add : (n : ℕ) (bits : List Bool) → take (n + 8) bits ≡ take 8 bits ++ take n (drop 8 bits)
take-add n bits = ap (λ (k : ℕ). take k bits) (let e : n + 8 ≡ 8 + n = omega arith in e) ∙ take-split 8 n bits

pub first_high : (most v high used : ℕ) (bits : List Bool) → 0 < most → 8 ≤ length bits → v ≡ number_of (take 8 bits) → 128 ≤ v → high < 2 ^ 57 → SpellsOctets (most - 1) high (take used (drop 8 bits)) → SpellsOctets most (v - 128 + 128 * high) (take (used + 8) bits)
first_high most v high used bits m long is big fits s =
    let most_is : suc (most - 1) ≡ most = omega arith in
    let group = small_group bits v long is in
    let front : octet true (v - 128) ++ take used (drop 8 bits) ≡ take (used + 8) bits =
    ap (λ (l : List Bool). l ++ take used (drop 8 bits)) (sym (high_front bits v long is big)) ∙ sym (take-add used bits) in
    subst (λ (k : ℕ). SpellsOctets k (v - 128 + 128 * high) (take (used + 8) bits)) most_is
    (subst (λ (l : List Bool). SpellsOctets (suc (most - 1)) (v - 128 + 128 * high) l) front
    (more_octets (most - 1) (v - 128) high (take used (drop 8 bits)) group (omega (arith, group, fits)) s))
