-- The payloads of a stream that begins with a frame are that one's and those behind it.
use Rattle.std.proofs.Common.{◌≡◌, ℕ, zero, suc, ◌+◌, ◌<◌, ◌∙◌, sym, ap, subst, refl, drop, Bool, true, false, List, [], ◌∷◌, ◌++◌, length, Option, Some, None, Result, Ok, Err, append_assoc, arith}
use Rattle.std.specs.Prelude.{nat_eq}
use Rattle.std.specs.List.{flat_map}
use Rattle.std.specs.Cmp.Lexicographic.{pointwise, bytes_decides}
use Rattle.std.proofs.lemmas.List.{length-drop, length-take-le}
use Rattle.std.proofs.lemmas.List.Elements.{All-nil, All-cons, All-head, All-tail}
use Rattle.v2gtp_frames.specs.declared.FrameFault.{FrameFault}
use Rattle.v2gtp_frames.specs.Frames.{frame, IsPayload, IsRest, Frames}
use Rattle.v2gtp_frames.specs.Reading.{whole_at, payload_at}
use Rattle.v2gtp_frames.proofs.Again.{again, payload_again, behind_again}
use Rattle.v2gtp_frames.proofs.Ends.{fault_is, is_fault, none_right, none_rest, fault_rest}
use Rattle.v2gtp_frames.proofs.Growing.{whole_fits}
use Rattle.post_spec.specs.Words.{HeardWord, Fault, EndsSo}

abbrev found : ℕ → Result (Option ℕ) FrameFault
found n = Ok (Some n)

same_front : (a b x y : List ℕ) → IsPayload a → IsPayload b → frame a ++ x ≡ frame b ++ y → (a ≡ b) × (x ≡ y)
same_front a b x y ha hb e =
    let lengths : found (length a) ≡ found (length b) = sym (again a x ha) ∙ ap (λ (s : List ℕ). whole_at s) e ∙ again b y hb in
    let n : length a ≡ length b = cc in
    let one : a ≡ b = sym (payload_again a x) ∙ ap (λ (s : List ℕ). payload_at (length a) s) e ∙ ap (λ (k : ℕ). payload_at k (frame b ++ y)) n ∙ payload_again b y in
    let rest : x ≡ y = sym (behind_again a x) ∙ ap (λ (s : List ℕ). drop (8 + length a) s) e ∙ ap (λ (k : ℕ). drop (8 + k) (frame b ++ y)) n ∙ behind_again b y in
    (one, rest)

-- the frame at the front, and what stands behind it
pub record Behind (p x : List ℕ) (payloads : List (List ℕ)) (rest : List ℕ) : Type 0 where
  pub later : List (List ℕ)
  pub payloads_are : payloads ≡ p ∷ later
  pub frames : Frames x later rest

pub front_taken : (p x rest : List ℕ) (payloads : List (List ℕ)) → IsPayload p → Frames (frame p ++ x) payloads rest → Behind p x payloads rest
front_taken p x rest [] short f = absurd (f.longest p x short (sym f.whole))
front_taken p x rest (q ∷ ps) short f =
    let s = same_front p q x (flat_map frame ps ++ rest) short (All-head IsPayload q ps f.each) (f.whole ∙ append_assoc (frame q) (flat_map frame ps) rest) in
    record {
      later = ps;
      payloads_are = ap (λ (y : List ℕ). y ∷ ps) (sym s.0);
      frames = record { whole = s.1; each = All-tail IsPayload q ps f.each; longest = f.longest };
    }

pub with_front : (p x rest : List ℕ) (payloads : List (List ℕ)) → IsPayload p → Frames x payloads rest → Frames (frame p ++ x) (p ∷ payloads) rest
with_front p x rest payloads short f = record {
  whole = ap (λ (s : List ℕ). frame p ++ s) f.whole ∙ sym (append_assoc (frame p) (flat_map frame payloads) rest);
  each = All-cons IsPayload p payloads short f.each;
  longest = f.longest;
}

-- where none is whole, all is rest
pub no_frames : (bytes rest : List ℕ) (payloads : List (List ℕ)) → IsRest bytes → Frames bytes payloads rest → (payloads ≡ []) × (rest ≡ bytes)
no_frames bytes rest [] none f = (refl, sym f.whole)
no_frames bytes rest (p ∷ ps) none f = absurd (none p (flat_map frame ps ++ rest) (All-head IsPayload p ps f.each) (f.whole ∙ append_assoc (frame p) (flat_map frame ps) rest))

pub rest_alone : (bytes : List ℕ) → IsRest bytes → Frames bytes [] bytes
rest_alone bytes none = record { whole = refl; each = All-nil IsPayload; longest = none }

-- Each stream has its frames, and the rest its fault or none.

pub record Cut (bytes : List ℕ) : Type 0 where
  pub payloads : List (List ℕ)
  pub rest : List ℕ
  pub frames : Frames bytes payloads rest
  pub behind : List HeardWord
  pub ends : EndsSo rest behind

ends_by : (bytes : List ℕ) (r : Result (Option ℕ) FrameFault) → whole_at bytes ≡ r → (behind : List HeardWord) × EndsSo bytes behind
ends_by bytes (Ok None) e = ([], none_right bytes e)
ends_by bytes (Ok (Some n)) e = ([], λ fault is. absurd (let x : found n ≡ Err fault = sym e ∙ is_fault bytes fault is in cc))
ends_by bytes (Err fault) e = (Fault fault ∷ [], fault_is bytes fault e)

rest_cut : (bytes : List ℕ) → IsRest bytes → Cut bytes
rest_cut bytes none =
    let e = ends_by bytes (whole_at bytes) refl in
    record { payloads = []; rest = bytes; frames = rest_alone bytes none; behind = e.0; ends = e.1 }

front_cut : (p x : List ℕ) → IsPayload p → Cut x → Cut (frame p ++ x)
front_cut p x short k = record { payloads = p ∷ k.payloads; rest = k.rest; frames = with_front p x k.rest k.payloads short k.frames; behind = k.behind; ends = k.ends }

-- a length at the front that no frame has
other_rest : (bytes : List ℕ) (n : ℕ) → whole_at bytes ≡ Ok (Some n) → (bytes ≡ frame (payload_at n bytes) ++ drop (8 + n) bytes → ⊥) → IsRest bytes
other_rest bytes n w other payload more short e =
    let lengths : found n ≡ found (length payload) = sym w ∙ ap (λ (s : List ℕ). whole_at s) e ∙ again payload more short in
    let k : n ≡ length payload = cc in
    let p : payload_at n bytes ≡ payload = ap (λ (i : ℕ). payload_at i bytes) k ∙ ap (λ (s : List ℕ). payload_at (length payload) s) e ∙ payload_again payload more in
    let x : drop (8 + n) bytes ≡ more = ap (λ (i : ℕ). drop (8 + i) bytes) k ∙ ap (λ (s : List ℕ). drop (8 + length payload) s) e ∙ behind_again payload more in
    other (e ∙ ap (λ (s : List ℕ). frame s ++ more) (sym p) ∙ ap (λ (s : List ℕ). frame (payload_at n bytes) ++ s) (sym x))

cut_whole : (n : ℕ) (bytes : List ℕ) (b : Bool) → pointwise nat_eq bytes (frame (payload_at n bytes) ++ drop (8 + n) bytes) ≡ b → whole_at bytes ≡ Ok (Some n) → Cut (drop (8 + n) bytes) → Cut bytes
cut_whole n bytes true e w k =
    let fits = whole_fits bytes n w in
    let size : length (payload_at n bytes) ≡ n = length-take-le n (drop 8 bytes) (omega (arith, fits.fits, length-drop 8 bytes)) in
    let one : bytes ≡ frame (payload_at n bytes) ++ drop (8 + n) bytes = (bytes_decides bytes (frame (payload_at n bytes) ++ drop (8 + n) bytes)).0 e in
    subst Cut (sym one) (front_cut (payload_at n bytes) (drop (8 + n) bytes) (omega (arith, size, fits.short)) k)
cut_whole n bytes false e w k =
    rest_cut bytes (other_rest bytes n w (λ one. absurd (let x : true ≡ false = sym ((bytes_decides bytes (frame (payload_at n bytes) ++ drop (8 + n) bytes)).1 one) ∙ e in cc)))

cut_by : (fuel : ℕ) (bytes : List ℕ) (r : Result (Option ℕ) FrameFault) → whole_at bytes ≡ r → length bytes < suc fuel → ((x : List ℕ) → length x < fuel → Cut x) → Cut bytes
cut_by fuel bytes (Ok None) e h next = rest_cut bytes (none_rest bytes e)
cut_by fuel bytes (Ok (Some n)) e h next =
    let fits = whole_fits bytes n e in
    cut_whole n bytes (pointwise nat_eq bytes (frame (payload_at n bytes) ++ drop (8 + n) bytes)) refl e (next (drop (8 + n) bytes) (omega (arith, h, fits.fits, length-drop (8 + n) bytes)))
cut_by fuel bytes (Err fault) e h next = rest_cut bytes (fault_rest bytes fault (fault_is bytes fault e))

cut : (fuel : ℕ) (bytes : List ℕ) → length bytes < fuel → Cut bytes
cut zero bytes h = absurd (omega (arith, h))
cut (suc fuel) bytes h = cut_by fuel bytes (whole_at bytes) refl h (cut fuel)

pub cut_of : (bytes : List ℕ) → Cut bytes
cut_of bytes = cut (suc (length bytes)) bytes (omega arith)
