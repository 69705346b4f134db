-- A hexadecimal text spells one payload, and is refused at one place.
use Rattle.std.proofs.Common.{◌≡◌, ℕ, List, Option, Some, Result, Ok, sym, subst, ◌∙◌, inl, inr}
use Rattle.std.specs.Str.{chars}
use Rattle.exi_documents.specs.declared.refusal.RefusalCause.{RefusalCause}
use Rattle.iso_message.specs.Documents.{IsIsoRefused}
use Rattle.hex.specs.Hex.{decode_of}
use Rattle.hex_payloads.specs.HexText.{hex_fault, IsHexOf}
use Rattle.charging_files.proofs.Told.{none_is_some}
use Rattle.payload_commands.specs.Refusals.{IsRefusedAt}

abbrev pub OneRefusal : Type 0
OneRefusal = (payload : List ℕ) (why other : RefusalCause) (bit place : ℕ) → IsIsoRefused payload why bit → IsIsoRefused payload other place → (why ≡ other) × (bit ≡ place)

pub same_ok : {X E : Type 0} (x y : X) (r : Result X E) → r ≡ Ok x → r ≡ Ok y → x ≡ y
same_ok x y r p q = cc

same_some : {X : Type 0} (x y : X) (o : Option X) → o ≡ Some x → o ≡ Some y → x ≡ y
same_some x y o p q = cc

pub same_payload : (hex a b : List ℕ) → IsHexOf hex a → IsHexOf hex b → a ≡ b
same_payload hex a b p q = same_ok a b (decode_of hex) p.spelled q.spelled

pub no_place : (hex payload : List ℕ) (place : ℕ) → IsHexOf hex payload → hex_fault (chars hex) ≡ Some place → ⊥
no_place hex payload place p h = none_is_some place (sym p.right ∙ h)

pub one_place : OneRefusal → (hex : List ℕ) (a b : ℕ) → IsRefusedAt hex a → IsRefusedAt hex b → a ≡ b
one_place law hex a b (inl p) (inl q) = same_some a b (hex_fault (chars hex)) p q
one_place law hex a b (inl p) (inr q) = absurd (no_place hex q.0 a q.2 p)
one_place law hex a b (inr p) (inl q) = absurd (no_place hex p.0 b p.2 q)
one_place law hex a b (inr p) (inr q) =
    let same : p.0 ≡ q.0 = same_payload hex p.0 q.0 p.2 q.2 in
    (law q.0 p.1 q.1 a b (subst (λ (payload : List ℕ). IsIsoRefused payload p.1 a) same p.3) q.3).1
