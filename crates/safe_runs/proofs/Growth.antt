-- A stream that goes on keeps its whole frames.
use Rattle.std.proofs.Common.{◌≡◌, ◌≤◌, ℕ, zero, suc, ◌+◌, List, ◌++◌, length, drop, take, Some, Ok, refl, sym, ap, ◌∙◌, arith}
use Rattle.std.proofs.lemmas.List.{drop-append-le, take-append-le, length-drop}
use Rattle.v2gtp_frames.specs.Reading.{whole_at, payload_at, behind_front, behind_frames}
use Rattle.v2gtp_frames.proofs.Growing.{whole_fits, whole_stays}
use Rattle.post_spec.specs.Words.{IsPayloadAt}

-- the n first frames of the stream are whole
abbrev pub AreWhole : ℕ → List ℕ → Type 0
AreWhole zero bytes = Unit {0}
AreWhole (suc n) bytes = AreWhole n bytes × ((len : ℕ) × (whole_at (behind_frames n bytes) ≡ Ok (Some len)))

front_more : (bytes more : List ℕ) (len : ℕ) → whole_at bytes ≡ Ok (Some len) → behind_front (bytes ++ more) ≡ behind_front bytes ++ more
front_more bytes more len h =
    let w = whole_fits bytes len h in
    let long = whole_stays bytes more len h in
    rw (long, h) (drop-append-le (8 + len) bytes more w.fits)

pub record Grown (n : ℕ) (s more : List ℕ) : Type 0 where
  pub whole : AreWhole n (s ++ more)
  pub behind : behind_frames n (s ++ more) ≡ behind_frames n s ++ more

pub grown : (n : ℕ) (s more : List ℕ) → AreWhole n s → Grown n s more
grown zero s more w = record { whole = tt; behind = refl }
grown (suc n) s more w =
    let g = grown n s more w.0 in
    let len = w.1.0 in
    let here : whole_at (behind_frames n (s ++ more)) ≡ Ok (Some len) = rw g.behind (whole_stays (behind_frames n s) more len w.1.1) in
    record {
      whole = (g.whole, (len, here));
      behind = ap behind_front g.behind ∙ front_more (behind_frames n s) more len w.1.1;
    }

payload_more : (bytes more : List ℕ) (len : ℕ) → 8 + len ≤ length bytes → payload_at len (bytes ++ more) ≡ payload_at len bytes
payload_more bytes more len h =
    ap (take len) (drop-append-le 8 bytes more (omega (arith, h))) ∙ take-append-le len (drop 8 bytes) more (omega (arith, h, length-drop 8 bytes))

-- a payload stays at its place
pub payload_stays : (n : ℕ) (s more payload : List ℕ) → AreWhole n s → IsPayloadAt s n payload → IsPayloadAt (s ++ more) n payload
payload_stays n s more payload w p =
    let g = grown n s more w in
    let f = whole_fits (behind_frames n s) p.count p.whole in
    record {
      count = p.count;
      whole = rw g.behind (whole_stays (behind_frames n s) more p.count p.whole);
      payload_is = p.payload_is ∙ sym (ap (payload_at p.count) g.behind ∙ payload_more (behind_frames n s) more p.count f.fits);
    }
