-- What a pen has written.
use Rattle.std.proofs.Common.{◌≡◌, ℕ, ◌+◌, ◌-◌, ◌*◌, ◌/◌, ◌<◌, ◌≤◌, Bool, false, List, [], ◌∷◌, ◌++◌, length, get_or, take, drop, replicate, refl, sym, ap, subst, ◌∙◌, arith, append_assoc}
use Rattle.std.proofs.lemmas.List.{length-take-le, length-drop, length-replicate, take-append-drop, append-nil, ext_get_or, get_or-take, get_or-drop, get_or-replicate, take_more, take_at, take-take}
use Rattle.exi_spec.specs.Bits.{number_bits, bits_of}
use Rattle.exi_spec.proofs.BitLaws.{length-bits_of}
use Rattle.exi_bits.specs.declared.pen.BitPen.{BitPen}
use Rattle.exi_bits.specs.Pens.{written_bits}
use Rattle.exi_bits.specs.Written.{PadsZero, Extends, HoldsBits}
use Rattle.exi_bits.proofs.Pushed.{extended}
use Rattle.exi_bits.proofs.Shortest.{put_none}

pub length-written : (pen : BitPen) → length (written_bits pen) ≡ pen.bits
length-written pen = length-take-le pen.bits (bits_of pen.room.now) (omega (arith, pen.within, length-bits_of pen.room.now))

-- ---- whole bytes

pub bits_of-append : (xs ys : List ℕ) → bits_of (xs ++ ys) ≡ bits_of xs ++ bits_of ys
unfolding bits_of
bits_of-append [] ys = refl
bits_of-append (x ∷ xs) ys =
    ap (λ (l : List Bool). number_bits 8 x ++ l) (bits_of-append xs ys) ∙ sym (append_assoc (number_bits 8 x) (bits_of xs) (bits_of ys))

pub bits_of-one : (x : ℕ) → bits_of (x ∷ []) ≡ number_bits 8 x
unfolding bits_of
bits_of-one x = append-nil (number_bits 8 x)

pub bits_of-take : (k : ℕ) (bytes : List ℕ) → k ≤ length bytes → bits_of (take k bytes) ≡ take (8 * k) (bits_of bytes)
bits_of-take k bytes h =
    let long : length (bits_of (take k bytes)) ≡ 8 * k = omega (arith, length-bits_of (take k bytes), length-take-le k bytes h) in
    sym (ap (λ (l : List ℕ). take (8 * k) (bits_of l)) (sym (take-append-drop k bytes))
    ∙ ap (λ (l : List Bool). take (8 * k) l) (bits_of-append (take k bytes) (drop k bytes))
    ∙ take_at (bits_of (take k bytes)) (bits_of (drop k bytes)) (8 * k) long)

-- the bytes begun so far hold what is written
holds_begun : (room : List ℕ) (at : ℕ) → at ≤ 8 * length room → PadsZero room at → HoldsBits (take ((at + 7) / 8) room) (take at (bits_of room))
holds_begun room at h clean =
    let k = (at + 7) / 8 in
    let all = bits_of room in
    let pad = 8 * k - at in
    let within : k ≤ length room = omega arith in
    let front : take at (take (8 * k) all) ≡ take at all = take-take at (8 * k) all (omega arith) in
    let long : length (take (8 * k) all) ≡ 8 * k = length-take-le (8 * k) all (omega (arith, length-bits_of room)) in
    let long_tail : length (drop at (take (8 * k) all)) ≡ pad = omega (arith, length-drop at (take (8 * k) all), long) in
    let tail : drop at (take (8 * k) all) ≡ replicate pad false =
    ext_get_or false (drop at (take (8 * k) all)) (replicate pad false) (long_tail ∙ sym (length-replicate pad false))
    (λ i less.
    get_or-drop at (take (8 * k) all) i false
    ∙ get_or-take (8 * k) all (at + i) false (omega (arith, long_tail))
    ∙ clean (at + i) (omega arith) (omega (arith, long_tail))
    ∙ sym (get_or-replicate pad i false false (omega (arith, long_tail)))) in
    record {
      pad = pad;
      short = omega arith;
      there =
          bits_of-take k room within
          ∙ sym (take-append-drop at (take (8 * k) all))
          ∙ ap (λ (l : List Bool). l ++ drop at (take (8 * k) all)) front
          ∙ ap (λ (l : List Bool). take at all ++ l) tail;
    }

-- ---- bytes, one behind the others

pub put_byte : (a b c bytes : List ℕ) (at i : ℕ) → Extends a b at (8 * i) (bits_of (take i bytes)) → i < length bytes → Extends b c (at + 8 * i) 8 (number_bits 8 (get_or bytes i 0)) → Extends a c at (8 * (i + 1)) (bits_of (take (i + 1) bytes))
put_byte a b c bytes at i p less q =
    let byte = get_or bytes i 0 in
    let front : bits_of (take i bytes) ++ number_bits 8 byte ≡ bits_of (take (i + 1) bytes) =
    ap (λ (l : List Bool). bits_of (take i bytes) ++ l) (sym (bits_of-one byte))
    ∙ sym (bits_of-append (take i bytes) (byte ∷ []))
    ∙ ap bits_of (sym (take_more bytes i 0 less)) in
    let eight : 8 * i + 8 ≡ 8 * (i + 1) = omega arith in
    subst (λ (k : ℕ). Extends a c at k (bits_of (take (i + 1) bytes))) eight
    (subst (λ (l : List Bool). Extends a c at (8 * i + 8) l) front (extended a b c at (8 * i) 8 (bits_of (take i bytes)) (number_bits 8 byte) p q))

pub put_no_bytes : (room : List ℕ) (at : ℕ) → PadsZero room at → Extends room room at 0 (bits_of [])
unfolding bits_of
put_no_bytes room at clean = put_none room at clean

pub holds_bits : (room : List ℕ) (at n : ℕ) → n ≡ (at + 7) / 8 → at ≤ 8 * length room → PadsZero room at → HoldsBits (take n room) (take at (bits_of room))
holds_bits room at n e h clean = subst (λ (k : ℕ). HoldsBits (take k room) (take at (bits_of room))) (sym e) (holds_begun room at h clean)
