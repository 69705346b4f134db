-- A frame is read again, whatever comes behind it, and what is read of bytes is a frame.
use Rattle.std.proofs.Common.{◌≡◌, ℕ, ◌+◌, ◌*◌, ◌/◌, ◌%◌, ◌<◌, ◌∙◌, sym, ap, refl, take, drop, List, [], ◌∷◌, ◌++◌, length, Some, Ok, append_assoc, arith}
use Rattle.std.specs.Prelude.{All}
use Rattle.std.proofs.lemmas.List.{length-append, take_at, drop-drop, drop_at, length-take-le, take-append-drop}
use Rattle.byteorder.specs.Endian.{big_bytes, big_number}
use Rattle.byteorder.specs.Numbers.{big_number-reads_back}
use Rattle.v2gtp_frames.specs.Frames.{frame, IsPayload}
use Rattle.v2gtp_frames.specs.Header.{header}
use Rattle.v2gtp_frames.specs.Reading.{whole_at, payload_at, behind_front}
use Rattle.v2gtp_frames.proofs.Growing.{WholeAt, whole_fits, fits_whole}

-- a frame, and what stands behind it
pub again : (p more : List ℕ) → IsPayload p → whole_at (frame p ++ more) ≡ Ok (Some (length p))
again p more short = fits_whole (frame p ++ more) (length p) (record {
  fits = omega (arith, length-append p more);
  short = short;
  version = refl;
  kind = refl;
  count = big_number-reads_back 4 (length p) (p ++ more) (omega arith);
})

pub payload_again : (p more : List ℕ) → payload_at (length p) (frame p ++ more) ≡ p
payload_again p more = take_at p more (length p) refl

pub behind_again : (p more : List ℕ) → drop (8 + length p) (frame p ++ more) ≡ more
behind_again p more = sym (drop-drop (length p) 8 (frame p ++ more)) ∙ drop_at p more (length p) refl

pub behind_frame : (p more : List ℕ) → IsPayload p → behind_front (frame p ++ more) ≡ more
behind_frame p more short = rw (again p more short) (behind_again p more)

-- the bytes of a number of four bytes
pub four : (a b c d n : ℕ) → a < 256 → b < 256 → c < 256 → d < 256 → big_number 4 (a ∷ b ∷ c ∷ d ∷ []) ≡ n → big_bytes 4 n ≡ a ∷ b ∷ c ∷ d ∷ []
four a b c d n ha hb hc hd e =
    let e3 : n / 16777216 % 256 ≡ a = omega arith in
    let e2 : n / 65536 % 256 ≡ b = omega arith in
    let e1 : n / 256 % 256 ≡ c = omega arith in
    let e0 : n % 256 ≡ d = omega arith in
    rw (e3, e2, e1, e0) refl

-- the front of eight bytes that are the header of a payload of n bytes
front : (a b c d e f g h n : ℕ) (rest : List ℕ) → All (λ x. x < 256) (a ∷ b ∷ c ∷ d ∷ e ∷ f ∷ g ∷ h ∷ rest) → WholeAt (a ∷ b ∷ c ∷ d ∷ e ∷ f ∷ g ∷ h ∷ rest) n
    → a ∷ b ∷ c ∷ d ∷ e ∷ f ∷ g ∷ h ∷ rest ≡ header 0x8001 n ++ rest
front a b c d e f g h n rest bytes w =
    let xs : List ℕ = a ∷ b ∷ c ∷ d ∷ e ∷ f ∷ g ∷ h ∷ rest in
    let ha : a < 256 = bytes 0 0 (omega arith) in
    let hb : b < 256 = bytes 1 0 (omega arith) in
    let hc : c < 256 = bytes 2 0 (omega arith) in
    let hd : d < 256 = bytes 3 0 (omega arith) in
    let he : e < 256 = bytes 4 0 (omega arith) in
    let hf : f < 256 = bytes 5 0 (omega arith) in
    let hg : g < 256 = bytes 6 0 (omega arith) in
    let hh : h < 256 = bytes 7 0 (omega arith) in
    let version : a * 256 + b ≡ 510 = omega (arith, w.version) in
    let kind : c * 256 + d ≡ 32769 = omega (arith, w.kind) in
    let ea : a ≡ 1 = omega (arith, version, ha, hb) in
    let eb : b ≡ 254 = omega (arith, version, ha, hb) in
    let ec : c ≡ 128 = omega (arith, kind, hc, hd) in
    let ed : d ≡ 1 = omega (arith, kind, hc, hd) in
    let count : e ∷ f ∷ g ∷ h ∷ [] ≡ big_bytes 4 n = sym (four e f g h n he hf hg hh w.count) in
    rw (ea, eb, ec, ed) (ap (λ (ys : List ℕ). 1 ∷ 254 ∷ 128 ∷ 1 ∷ (ys ++ rest)) count)

pub is_frame : (bytes : List ℕ) (n : ℕ) → All (λ x. x < 256) bytes → whole_at bytes ≡ Ok (Some n) → bytes ≡ frame (payload_at n bytes) ++ drop (8 + n) bytes
is_frame (a ∷ b ∷ c ∷ d ∷ e ∷ f ∷ g ∷ h ∷ rest) n all whole =
    let w = whole_fits (a ∷ b ∷ c ∷ d ∷ e ∷ f ∷ g ∷ h ∷ rest) n whole in
    let len : length (take n rest) ≡ n = length-take-le n rest (omega (arith, w.fits)) in
    let left : drop (8 + n) (a ∷ b ∷ c ∷ d ∷ e ∷ f ∷ g ∷ h ∷ rest) ≡ drop n rest = sym (drop-drop n 8 (a ∷ b ∷ c ∷ d ∷ e ∷ f ∷ g ∷ h ∷ rest)) in
    front a b c d e f g h n rest all w
    ∙ ap (λ (k : ℕ). header 0x8001 k ++ rest) (sym len)
    ∙ ap (λ (ys : List ℕ). header 0x8001 (length (take n rest)) ++ ys) (sym (take-append-drop n rest))
    ∙ sym (append_assoc (header 0x8001 (length (take n rest))) (take n rest) (drop n rest))
    ∙ ap (λ (ys : List ℕ). frame (take n rest) ++ ys) (sym left)
is_frame (a ∷ b ∷ c ∷ d ∷ e ∷ f ∷ g ∷ []) n all whole = absurd (omega (arith, (whole_fits (a ∷ b ∷ c ∷ d ∷ e ∷ f ∷ g ∷ []) n whole).fits))
is_frame (a ∷ b ∷ c ∷ d ∷ e ∷ f ∷ []) n all whole = absurd (omega (arith, (whole_fits (a ∷ b ∷ c ∷ d ∷ e ∷ f ∷ []) n whole).fits))
is_frame (a ∷ b ∷ c ∷ d ∷ e ∷ []) n all whole = absurd (omega (arith, (whole_fits (a ∷ b ∷ c ∷ d ∷ e ∷ []) n whole).fits))
is_frame (a ∷ b ∷ c ∷ d ∷ []) n all whole = absurd (omega (arith, (whole_fits (a ∷ b ∷ c ∷ d ∷ []) n whole).fits))
is_frame (a ∷ b ∷ c ∷ []) n all whole = absurd (omega (arith, (whole_fits (a ∷ b ∷ c ∷ []) n whole).fits))
is_frame (a ∷ b ∷ []) n all whole = absurd (omega (arith, (whole_fits (a ∷ b ∷ []) n whole).fits))
is_frame (a ∷ []) n all whole = absurd (omega (arith, (whole_fits (a ∷ []) n whole).fits))
is_frame [] n all whole = absurd (omega (arith, (whole_fits [] n whole).fits))
