-- Where no whole frame stands at the front: the rest of a stream and its fault.
use Rattle.std.proofs.Common.{◌≡◌, ◌≢◌, ℕ, ◌+◌, ◌<◌, ◌≤◌, ◌∙◌, sym, ap, refl, drop, List, ◌++◌, length, Option, Some, None, Result, Ok, Err, arith}
use Rattle.std.proofs.lemmas.Bool.Decides.{nat_tests}
use Rattle.std.specs.Prelude.{All}
use Rattle.std.proofs.lemmas.List.{length-append, length-take-le, length-drop}
use Rattle.byteorder.specs.Endian.{big_number}
use Rattle.byteorder.specs.Numbers.{big_from-append}
use Rattle.v2gtp_frames.specs.declared.FrameFault.{FrameFault}
use Rattle.v2gtp_frames.specs.declared.FrameFault.TheVariants.{BadVersion, BadType, LongPayload}
use Rattle.v2gtp_frames.specs.Frames.{IsRest, IsFault, IsRight}
use Rattle.v2gtp_frames.specs.Reading.{whole_at, payload_at}
use Rattle.v2gtp_frames.proofs.Fronts.{chain}
use Rattle.v2gtp_frames.proofs.Growing.{number_stays, whole_fits}
use Rattle.v2gtp_frames.proofs.Again.{again, is_frame}

-- the first wrong whole field, over variables for the length and the fields
abbrev WrongField : (len v t n : ℕ) → FrameFault → Type 0
WrongField len v t n (BadVersion x) = (2 ≤ len) × (x ≡ v) × (x ≢ 510)
WrongField len v t n (BadType x) = (4 ≤ len) × (v ≡ 510) × (x ≡ t) × (x ≢ 32769)
WrongField len v t n (LongPayload x) = (8 ≤ len) × (v ≡ 510) × (t ≡ 32769) × (x ≡ n) × (65536 < x)

chain_wrong : (len v t n : ℕ) (f : FrameFault) → chain len v t n ≡ Err f → WrongField len v t n f
unfolding chain
chain_wrong len v t n (BadVersion x) h = (grind (arith, nat_tests), grind (arith, nat_tests), grind (arith, nat_tests))
chain_wrong len v t n (BadType x) h = (grind (arith, nat_tests), grind (arith, nat_tests), grind (arith, nat_tests), grind (arith, nat_tests))
chain_wrong len v t n (LongPayload x) h = (grind (arith, nat_tests), grind (arith, nat_tests), grind (arith, nat_tests), grind (arith, nat_tests), grind (arith, nat_tests))

wrong_chain : (len v t n : ℕ) (f : FrameFault) → WrongField len v t n f → chain len v t n ≡ Err f
unfolding chain
wrong_chain len v t n (BadVersion x) h = grind (arith, nat_tests)
wrong_chain len v t n (BadType x) h = grind (arith, nat_tests)
wrong_chain len v t n (LongPayload x) h = grind (arith, nat_tests)

pub fault_is : (bytes : List ℕ) (f : FrameFault) → whole_at bytes ≡ Err f → IsFault bytes f
unfolding whole_at chain
fault_is bytes (BadVersion x) h = chain_wrong (length bytes) (big_number 2 bytes) (big_number 2 (drop 2 bytes)) (big_number 4 (drop 4 bytes)) (BadVersion x) h
fault_is bytes (BadType x) h = chain_wrong (length bytes) (big_number 2 bytes) (big_number 2 (drop 2 bytes)) (big_number 4 (drop 4 bytes)) (BadType x) h
fault_is bytes (LongPayload x) h = chain_wrong (length bytes) (big_number 2 bytes) (big_number 2 (drop 2 bytes)) (big_number 4 (drop 4 bytes)) (LongPayload x) h

pub is_fault : (bytes : List ℕ) (f : FrameFault) → IsFault bytes f → whole_at bytes ≡ Err f
unfolding whole_at chain
is_fault bytes (BadVersion x) h = wrong_chain (length bytes) (big_number 2 bytes) (big_number 2 (drop 2 bytes)) (big_number 4 (drop 4 bytes)) (BadVersion x) h
is_fault bytes (BadType x) h = wrong_chain (length bytes) (big_number 2 bytes) (big_number 2 (drop 2 bytes)) (big_number 4 (drop 4 bytes)) (BadType x) h
is_fault bytes (LongPayload x) h = wrong_chain (length bytes) (big_number 2 bytes) (big_number 2 (drop 2 bytes)) (big_number 4 (drop 4 bytes)) (LongPayload x) h

-- a fault stays, whatever comes behind it
pub fault_stays : (bytes more : List ℕ) (f : FrameFault) → IsFault bytes f → IsFault (bytes ++ more) f
fault_stays bytes more (BadVersion x) h = (omega (arith, h.0, length-append bytes more), h.1 ∙ sym (big_from-append 2 bytes more h.0), h.2)
fault_stays bytes more (BadType x) h =
    (omega (arith, h.0, length-append bytes more), big_from-append 2 bytes more (omega (arith, h.0)) ∙ h.1, h.2 ∙ sym (number_stays 2 2 bytes more h.0), h.3)
fault_stays bytes more (LongPayload x) h = (
  omega (arith, h.0, length-append bytes more),
  big_from-append 2 bytes more (omega (arith, h.0)) ∙ h.1,
  number_stays 2 2 bytes more (omega (arith, h.0)) ∙ h.2,
  h.3 ∙ sym (number_stays 4 4 bytes more h.0),
  h.4,
)

abbrev found : ℕ → Result (Option ℕ) FrameFault
found n = Ok (Some n)

abbrev waits : Result (Option ℕ) FrameFault
waits = Ok None

abbrev wrong : FrameFault → Result (Option ℕ) FrameFault
wrong f = Err f

-- where nothing is whole, each field is right, and no frame is
pub none_right : (bytes : List ℕ) → whole_at bytes ≡ Ok None → IsRight bytes
none_right bytes h f fault = let p : waits ≡ wrong f = sym h ∙ is_fault bytes f fault in absurd cc

pub none_rest : (bytes : List ℕ) → whole_at bytes ≡ Ok None → IsRest bytes
none_rest bytes h payload more short e =
    let p : waits ≡ found (length payload) = sym h ∙ ap (λ (xs : List ℕ). whole_at xs) e ∙ again payload more short in absurd cc

pub fault_rest : (bytes : List ℕ) (f : FrameFault) → IsFault bytes f → IsRest bytes
fault_rest bytes f fault payload more short e =
    let p : wrong f ≡ found (length payload) = sym (is_fault bytes f fault) ∙ ap (λ (xs : List ℕ). whole_at xs) e ∙ again payload more short in absurd cc

waits_by : (bytes : List ℕ) (r : Result (Option ℕ) FrameFault) → All (λ x. x < 256) bytes → IsRest bytes → IsRight bytes → whole_at bytes ≡ r → whole_at bytes ≡ Ok None
waits_by bytes (Ok None) all rest right h = h
waits_by bytes (Ok (Some n)) all rest right h =
    let w = whole_fits bytes n h in
    let len : length (payload_at n bytes) ≡ n = length-take-le n (drop 8 bytes) (omega (arith, w.fits, length-drop 8 bytes)) in
    absurd (rest (payload_at n bytes) (drop (8 + n) bytes) (omega (arith, w.short, len)) (is_frame bytes n all h))
waits_by bytes (Err f) all rest right h = absurd (right f (fault_is bytes f h))

pub rest_waits : (bytes : List ℕ) → All (λ x. x < 256) bytes → IsRest bytes × IsRight bytes → whole_at bytes ≡ Ok None
rest_waits bytes all h = waits_by bytes (whole_at bytes) all h.0 h.1 refl
