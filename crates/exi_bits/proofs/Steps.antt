-- Facts that several proofs here cite.
use Rattle.std.proofs.Common.{◌≡◌, ℕ, ◌+◌, ◌-◌, ◌*◌, ◌^◌, ◌<◌, ◌≤◌, Bool, true, false, List, [], ◌∷◌, ◌++◌, length, drop, refl, sym, ap, subst, ◌∙◌, arith, inl, inr, append_assoc, suc}
use Rattle.std.proofs.lemmas.List.{length-append, length-drop, append-nil, length_push}
use Rattle.exi_spec.specs.declared.BitCause.{BitCause}
use Rattle.exi_spec.specs.declared.BitCause.TheVariants.{ShortInput, WiderInteger}
use Rattle.exi_spec.specs.Bits.{number_bits}
use Rattle.exi_spec.specs.Items.{octet, SpellsOctets, RefusesOctets, PassesOctets, IsWideInOctets, SpellsChar, SpellsChars}
use Rattle.exi_spec.proofs.BitLaws.{length-number_bits, low_octet, high_octet}
use Rattle.exi_spec.proofs.OctetLaws.{only_octet, more_octets, short_octet, none_allowed, wide_octets, refused_later}
use Rattle.exi_bits.specs.Reading.{ItemAt}

-- ---- octets of an Unsigned Integer, from an octet that was read

pub item_first : (most v place : ℕ) (bits : List Bool) → 0 < most → v < 128 → drop place bits ≡ number_bits 8 v ++ drop (place + 8) bits → ItemAt (SpellsOctets most v) bits place 8
item_first most v place bits m low there =
    (octet false v, only_octet most v m low, record { long = ap suc (length-number_bits 7 v); there = there ∙ ap (λ (l : List Bool). l ++ drop (place + 8) bits) (low_octet v low) })

-- the octet says that more follow
followed_there : (v place : ℕ) (bits : List Bool) → 128 ≤ v → v < 256 → drop place bits ≡ number_bits 8 v ++ drop (place + 8) bits → drop place bits ≡ octet true (v - 128) ++ drop (place + 8) bits
followed_there v place bits high range there =
    let back : v ≡ (v - 128) + 128 = omega arith in
    there
    ∙ ap (λ (w : ℕ). number_bits 8 w ++ drop (place + 8) bits) back
    ∙ ap (λ (l : List Bool). l ++ drop (place + 8) bits) (high_octet (v - 128) (omega arith))

pub item_more : (most v high place n : ℕ) (bits : List Bool) → 0 < most → 128 ≤ v → v < 256 → high < 2 ^ 57 → drop place bits ≡ number_bits 8 v ++ drop (place + 8) bits → ItemAt (SpellsOctets (most - 1) high) bits (place + 8) n → ItemAt (SpellsOctets most ((v - 128) + 128 * high)) bits place (n + 8)
item_more most v high place n bits m big range fits there item =
    let front = item.0 in
    let group_fits : v - 128 < 128 = omega arith in
    let spelled : SpellsOctets (suc (most - 1)) ((v - 128) + 128 * high) (octet true (v - 128) ++ front) = more_octets (most - 1) (v - 128) high front group_fits (omega arith) item.1 in
    let most_is : suc (most - 1) ≡ most = omega arith in
    let on : place + 8 + n ≡ place + (n + 8) = omega arith in
    let long : length (octet true (v - 128) ++ front) ≡ n + 8 = omega (arith, length-append (octet true (v - 128)) front, length-number_bits 7 (v - 128), item.2.long) in (
      octet true (v - 128) ++ front,
      subst (λ (k : ℕ). SpellsOctets k ((v - 128) + 128 * high) (octet true (v - 128) ++ front)) most_is spelled,
      record {
        long = long;
        there =
            followed_there v place bits big range there
            ∙ ap (λ (l : List Bool). octet true (v - 128) ++ l) (item.2.there ∙ ap (λ (k : ℕ). front ++ drop k bits) on)
            ∙ sym (append_assoc (octet true (v - 128)) front (drop (place + (n + 8)) bits));
      },
    )

pub refused_more : (most v place : ℕ) (bits : List Bool) (cause : BitCause) → 0 < most → 128 ≤ v → v < 256 → drop place bits ≡ number_bits 8 v ++ drop (place + 8) bits → RefusesOctets (most - 1) (drop (place + 8) bits) cause → RefusesOctets most (drop place bits) cause
refused_more most v place bits cause m big range there r =
    let group_fits : v - 128 < 128 = omega arith in
    let most_is : suc (most - 1) ≡ most = omega arith in
    let later : RefusesOctets (suc (most - 1)) (octet true (v - 128) ++ drop (place + 8) bits) cause = refused_later (most - 1) (v - 128) (drop (place + 8) bits) cause group_fits r in
    subst (λ (k : ℕ). RefusesOctets k (drop place bits) cause) most_is
    (subst (λ (l : List Bool). RefusesOctets (suc (most - 1)) l cause) (sym (followed_there v place bits big range there)) later)

pub refused_last : (most v place : ℕ) (bits : List Bool) → most ≡ 1 → 128 ≤ v → v < 256 → drop place bits ≡ number_bits 8 v ++ drop (place + 8) bits → RefusesOctets most (drop place bits) WiderInteger
refused_last most v place bits one big range there =
    let zero_is : 0 ≡ most - 1 = omega arith in
    let past : PassesOctets (most - 1) (drop (place + 8) bits) = subst (λ (k : ℕ). PassesOctets k (drop (place + 8) bits)) zero_is (none_allowed (drop (place + 8) bits)) in
    refused_more most v place bits WiderInteger (omega arith) big range there (inl past)

pub refused_wide : (most v high place n : ℕ) (bits : List Bool) → 0 < most → 128 ≤ v → v < 256 → 2 ^ 57 ≤ high → drop place bits ≡ number_bits 8 v ++ drop (place + 8) bits → ItemAt (SpellsOctets (most - 1) high) bits (place + 8) n → RefusesOctets most (drop place bits) WiderInteger
refused_wide most v high place n bits m big range wide there item =
    let group_fits : v - 128 < 128 = omega arith in
    let most_is : suc (most - 1) ≡ most = omega arith in
    let found : IsWideInOctets (suc (most - 1)) (octet true (v - 128) ++ (item.0 ++ drop (place + 8 + n) bits)) =
    wide_octets (most - 1) (v - 128) high item.0 (drop (place + 8 + n) bits) group_fits (omega arith) item.1 in
    let there_is : octet true (v - 128) ++ (item.0 ++ drop (place + 8 + n) bits) ≡ drop place bits =
    ap (λ (l : List Bool). octet true (v - 128) ++ l) (sym item.2.there) ∙ sym (followed_there v place bits big range there) in
    inr (subst (λ (k : ℕ). IsWideInOctets k (drop place bits)) most_is (subst (λ (l : List Bool). IsWideInOctets (suc (most - 1)) l) there_is found))

pub refused_short : (most place : ℕ) (bits : List Bool) → 0 < most → length bits < place + 8 → RefusesOctets most (drop place bits) ShortInput
refused_short most place bits m short = short_octet most (drop place bits) m (omega (arith, length-drop place bits))

-- ---- code points, one behind the others

push_char : (chars : List ℕ) (char : ℕ) (front last : List Bool) → SpellsChars chars front → SpellsChar char last → SpellsChars (chars ++ char ∷ []) (front ++ last)
push_char [] char front last s one = (last, [], one, refl, ap (λ (l : List Bool). l ++ last) s ∙ sym (append-nil last))
push_char (first ∷ chars) char front last s one =
    (s.0, s.1 ++ last, s.2, push_char chars char s.1 last s.3 one, ap (λ (l : List Bool). l ++ last) s.4 ∙ append_assoc s.0 s.1 last)

-- so many code points stand at a bit, and take so many bits
abbrev pub CharsAt : List Bool → ℕ → ℕ → ℕ → Type 0
CharsAt bits bit n found = (chars : List ℕ) × (length chars ≡ n) × ItemAt (SpellsChars chars) bits bit found

pub chars_more : (bits : List Bool) (bit n found char more : ℕ) → CharsAt bits bit n found → ItemAt (SpellsChar char) bits (bit + found) more → CharsAt bits bit (n + 1) (found + more)
chars_more bits bit n found char more c one =
    let item = c.2 in
    let front = item.0 in
    let on : bit + found + more ≡ bit + (found + more) = omega arith in
    let there : drop bit bits ≡ (front ++ one.0) ++ drop (bit + (found + more)) bits =
    item.2.there
    ∙ ap (λ (l : List Bool). front ++ l) (one.2.there ∙ ap (λ (k : ℕ). one.0 ++ drop k bits) on)
    ∙ sym (append_assoc front one.0 (drop (bit + (found + more)) bits)) in (
      c.0 ++ char ∷ [],
      length_push c.0 char ∙ ap (λ (k : ℕ). k + 1) c.1,
      (
        front ++ one.0,
        push_char c.0 char front one.0 item.1 one.1,
        record { long = length-append front one.0 ∙ (let e : length front + length one.0 ≡ found + more = omega (arith, item.2.long, one.2.long) in e); there = there },
      ),
    )
