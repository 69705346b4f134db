-- A proper front of a frame is right as far as it goes, and not whole.
use Rattle.std.proofs.Common.{◌≡◌, ℕ, ◌+◌, ◌<◌, ◌≤◌, List, [], ◌∷◌, length, drop, Some, None, Ok, refl, ap, sym, ◌∙◌, arith}
use Rattle.std.proofs.lemmas.Bool.Decides.{nat_tests}
use Rattle.std.proofs.lemmas.List.{append-nil, length-append}
use Rattle.byteorder.specs.Endian.{big_number}
use Rattle.byteorder.specs.Numbers.{big_from-append}
use Rattle.v2gtp_frames.specs.Frames.{frame, IsPayload}
use Rattle.v2gtp_frames.specs.Reading.{whole_at}
use Rattle.v2gtp_frames.proofs.Fronts.{chain}
use Rattle.v2gtp_frames.proofs.Again.{again}
use Rattle.v2gtp_frames.proofs.Growing.{WholeAt, whole_fits, number_stays}
use Rattle.pair_deeds.specs.Fronts.{PiecesAreAwaited}

chain_awaits : (len v t n m : ℕ) → (2 ≤ len → v ≡ 510) → (4 ≤ len → t ≡ 32769) → (8 ≤ len → n ≡ m) → m ≤ 65536 → len < 8 + m → chain len v t n ≡ Ok None
unfolding chain
chain_awaits len v t n m a b c d e = grind (arith, nat_tests)

awaits : (unread : List ℕ) (m : ℕ) → (2 ≤ length unread → big_number 2 unread ≡ 510) → (4 ≤ length unread → big_number 2 (drop 2 unread) ≡ 32769)
    → (8 ≤ length unread → big_number 4 (drop 4 unread) ≡ m) → m ≤ 65536 → length unread < 8 + m → whole_at unread ≡ Ok None
unfolding whole_at chain
awaits unread m a b c d e = chain_awaits (length unread) (big_number 2 unread) (big_number 2 (drop 2 unread)) (big_number 4 (drop 4 unread)) m a b c d e

some_way : (way : List ℕ) → (way ≡ [] → ⊥) → 1 ≤ length way
some_way [] n = absurd (n refl)
some_way (x ∷ way) n = omega arith

pub whole_frame : (payload : List ℕ) → IsPayload payload → whole_at (frame payload) ≡ Ok (Some (length payload))
whole_frame payload short = ap whole_at (sym (append-nil (frame payload))) ∙ again payload [] short

length_frame : (p : List ℕ) → length (frame p) ≡ 8 + length p
length_frame p = omega arith

pub pieces_are_awaited : PiecesAreAwaited
pieces_are_awaited payload unread way short e n =
    let w : WholeAt (frame payload) (length payload) = whole_fits (frame payload) (length payload) (whole_frame payload short) in
    let size : length (frame payload) ≡ length unread + length way = ap (λ (x : List ℕ). length x) e ∙ length-append unread way in
    let whole : length (frame payload) ≡ 8 + length payload = length_frame payload in
    let some : 1 ≤ length way = some_way way n in
    awaits unread (length payload)
    (λ h. sym (big_from-append 2 unread way h) ∙ ap (λ (x : List ℕ). big_number 2 x) (sym e) ∙ w.version)
    (λ h. sym (number_stays 2 2 unread way h) ∙ ap (λ (x : List ℕ). big_number 2 (drop 2 x)) (sym e) ∙ w.kind)
    (λ h. sym (number_stays 4 4 unread way h) ∙ ap (λ (x : List ℕ). big_number 4 (drop 4 x)) (sym e) ∙ w.count)
    short (omega (arith, size, whole, some))
