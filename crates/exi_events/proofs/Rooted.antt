-- Document numbers that name a root, and the front of a document that is written.
use Rattle.std.proofs.Common.{◌≡◌, ℕ, ◌^◌, ◌<◌, nat_lt, nat_le, not, ◌&&◌, Bool, true, false, List, ◌++◌, length, Some, slice_get, inl, inr, refl, sym, ap, subst, ◌∙◌}
use Rattle.std.specs.Prelude.{◌==◌, ◌↔◌, ◌⊎◌, IsTrue}
use Rattle.std.specs.List.{list_all}
use Rattle.std.proofs.lemmas.Bool.{ltb-true}
use Rattle.exi_spec.specs.Bits.{number_bits}
use Rattle.exi_spec.proofs.BitLaws.{length-number_bits}
use Rattle.exi_bits.specs.Pens.{Writes, Needs}
use Rattle.exi_bits.specs.declared.pen.BitPen.{BitPen}
use Rattle.exi_schema.specs.declared.places.Root.{Root}
use Rattle.exi_schema.specs.declared.places.Root.TheVariants.{Kind, Unknown, NoSuch}
use Rattle.exi_schema.specs.Schemas.{PlainSchema, are_kinds, are_roots, are_words, are_values, is_root, is_within}
use Rattle.exi_schema.specs.declared.tables.RootOf.{RootOf}
use Rattle.exi_schema.specs.Steps.{IsRoot}
use Rattle.exi_schema.proofs.Conditions.{and-l, and-r, all_get}
use Rattle.exi_writing.specs.Documents.{header}
use Rattle.exi_writing.specs.Writing.{Puts, Lacks}
use Rattle.exi_writing.proofs.Pens.{writes_both, needs_more, needs_behind, had_room}
use Rattle.document_laws.proofs.Fits.{root_coded}
use Rattle.exi_events.specs.Front.{SpellsFront}

root_is : (s : PlainSchema) (i : ℕ) (root : RootOf) → slice_get s.roots i ≡ Some root → is_root s.root_bits (length s.names) s.kinds root ≡ true
root_is s i root h =
    let texts : List (List ℕ) = s.names in
    let two = and-l _ (are_words texts) (and-l _ (are_values s.kinds s.values) s.fits) in
    let rooted = and-r (are_kinds (length texts) s.kinds) (are_roots s.root_bits (length texts) s.kinds s.roots) two in
    let three = and-l _ _ (and-l _ _ rooted) in
    all_get (is_root s.root_bits (length texts) s.kinds) s.roots i root
    (and-r (nat_le 1 (length s.roots) && nat_le s.root_bits 32) (list_all (is_root s.root_bits (length texts) s.kinds) s.roots) three) h

pub root_range : (s : PlainSchema) (number name kind : ℕ) → IsRoot s.roots s.root_bits number (Kind name kind) → number < 2 ^ s.root_bits
root_range s number name kind h =
    let n = length s.names in
    let is = root_is s h.0 (record { number = number; name = name; kind = kind }) h.1 in
    let two = and-l _ (nat_lt name n) (and-l _ (nat_lt kind (length s.kinds)) (and-l _ (is_within s.kinds 16 kind) is)) in
    ltb-true number (2 ^ s.root_bits) (and-l (nat_lt number (2 ^ s.root_bits)) (not (s.root_bits == 2 && number == 3)) two)

pub root_there : (s : PlainSchema) (number : ℕ) (root : Root) → IsRoot s.roots s.root_bits number root → ((name : ℕ) × (kind : ℕ) × IsRoot s.roots s.root_bits number (Kind name kind)) → (name : ℕ) × (kind : ℕ) × (root ≡ Kind name kind)
root_there s number (Kind name kind) is h = (name, kind, refl)
root_there s number Unknown is h = absurd (is.0 h.2.0 (record { number = number; name = h.0; kind = h.1 }) h.2.1 refl)
root_there s number NoSuch is h = absurd (root_coded s number h.0 h.1 h.2 is)

pub not_kind : (s : PlainSchema) (number : ℕ) (root : Root) → IsRoot s.roots s.root_bits number root → ((name kind : ℕ) → root ≡ Kind name kind → ⊥) → ((name : ℕ) × (kind : ℕ) × IsRoot s.roots s.root_bits number (Kind name kind)) → ⊥
not_kind s number root is other h = let there = root_there s number root is h in other there.0 there.1 there.2

false_is : false ≡ true → ⊥
false_is e = absurd cc

other_is : (name kind : ℕ) (root : Root) → (root ≡ Unknown) ⊎ (root ≡ NoSuch) → root ≡ Kind name kind → ⊥
other_is name kind root (inl a) b = absurd cc
other_is name kind root (inr a) b = absurd cc

pub names_none : (s : PlainSchema) (number : ℕ) (root : Root) → IsRoot s.roots s.root_bits number root → (root ≡ Unknown) ⊎ (root ≡ NoSuch) → (IsTrue false ↔ ((name : ℕ) × (kind : ℕ) × IsRoot s.roots s.root_bits number (Kind name kind)))
names_none s number root is other = (λ e. absurd (false_is e), λ h. absurd (not_kind s number root is (λ name kind same. other_is name kind root other same) h))

-- ---- the front of a document

pub front_put : (s : PlainSchema) (old mid new : BitPen) (number : ℕ) → number < 2 ^ s.root_bits → Writes old mid (number_bits 8 128) → Writes mid new (number_bits s.root_bits number) → Puts (SpellsFront s number) old new
front_put s old mid new number range one two =
    (header ++ number_bits s.root_bits number, (number_bits s.root_bits number, record { range = range; spelled = refl }, refl), writes_both old mid new header (number_bits s.root_bits number) one two)

pub header_lacks : (s : PlainSchema) (pen : BitPen) (number : ℕ) → number < 2 ^ s.root_bits → Needs pen 8 → Lacks (SpellsFront s number) pen
header_lacks s pen number range needs =
    let long : length header ≡ 8 = length-number_bits 8 128 in (
      header ++ number_bits s.root_bits number,
      (number_bits s.root_bits number, record { range = range; spelled = refl }, refl),
      needs_more pen header (number_bits s.root_bits number) (subst (λ (n : ℕ). Needs pen n) (sym long) needs),
    )

pub number_lacks : (s : PlainSchema) (old mid : BitPen) (number : ℕ) → number < 2 ^ s.root_bits → Writes old mid (number_bits 8 128) → Needs mid s.root_bits → Lacks (SpellsFront s number) old
number_lacks s old mid number range one needs =
    let long = length-number_bits s.root_bits number in (
      header ++ number_bits s.root_bits number,
      (number_bits s.root_bits number, record { range = range; spelled = refl }, refl),
      needs_behind old mid header (number_bits s.root_bits number) one (subst (λ (n : ℕ). Needs mid n) (sym long) needs),
    )

pub front_fits : (s : PlainSchema) (old new : BitPen) (number : ℕ) → Puts (SpellsFront s number) old new → Lacks (SpellsFront s number) old → ⊥
front_fits s old new number p q =
    let same : p.0 ≡ q.0 = p.1.2 ∙ ap (λ (l : List Bool). header ++ l) (p.1.1.spelled ∙ sym q.1.1.spelled) ∙ sym q.1.2 in
    had_room old new p.0 p.2 (subst (λ (l : List Bool). Needs old (length l)) (sym same) q.2)
