-- No element of a root stands deeper than 16.
use Rattle.std.proofs.Common.{◌≡◌, ℕ, zero, suc, ◌<◌, ◌≤◌, true, not, ◌&&◌, nat_lt, nat_le, List, [], ◌∷◌, length, Some, slice_get, refl, arith}
use Rattle.std.proofs.lemmas.Bool.{leb-true}
use Rattle.document_laws.proofs.Fits.{root_name}
use Rattle.value_text.specs.ValueText.{IsName}
use Rattle.std.specs.List.{list_all}
use Rattle.std.specs.Prelude.{◌==◌, ◌^◌}
use Rattle.exi_schema.specs.Schemas.{PlainSchema, is_root, is_within, are_roots, are_kinds, are_words, are_values}
use Rattle.exi_schema.specs.declared.tables.RootOf.{RootOf}
use Rattle.exi_schema.proofs.Conditions.{and-l, and-r, all_get}

roots_of : (s : PlainSchema) → are_roots s.root_bits (length s.names) s.kinds s.roots ≡ true
roots_of s =
    let texts : List (List ℕ) = s.names in
    let two = and-l _ (are_words texts) (and-l _ (are_values s.kinds s.values) s.fits) in
    and-r (are_kinds (length texts) s.kinds) (are_roots s.root_bits (length texts) s.kinds s.roots) two

root_is : (s : PlainSchema) (i : ℕ) (root : RootOf) → slice_get s.roots i ≡ Some root → is_root s.root_bits (length s.names) s.kinds root ≡ true
root_is s i root h =
    let texts : List (List ℕ) = s.names in
    let three = and-l _ _ (and-l _ _ (roots_of s)) in
    all_get (is_root s.root_bits (length texts) s.kinds) s.roots i root
    (and-r (nat_le 1 (length s.roots) && nat_le s.root_bits 32) (list_all (is_root s.root_bits (length texts) s.kinds) s.roots) three) h

pub root_deep : (s : PlainSchema) (i : ℕ) (root : RootOf) → slice_get s.roots i ≡ Some root → is_within s.kinds 16 root.kind ≡ true
root_deep s i root h =
    let n = length s.names in
    and-r (nat_lt root.number (2 ^ s.root_bits) && not (s.root_bits == 2 && root.number == 3) && nat_lt root.name n && nat_lt root.kind (length s.kinds)) (is_within s.kinds 16 root.kind) (root_is s i root h)

pub roots_there : (s : PlainSchema) → 1 ≤ length s.roots
roots_there s =
    let texts : List (List ℕ) = s.names in
    leb-true 1 (length s.roots) (and-l (nat_le 1 (length s.roots)) (nat_le s.root_bits 32) (and-l _ (list_all (is_root s.root_bits (length texts) s.kinds) s.roots) (and-l _ _ (and-l _ _ (roots_of s)))))

name_in : (texts : List (List ℕ)) (i : ℕ) → i < length texts → (word : List ℕ) × (slice_get texts i ≡ Some word)
name_in [] i low = absurd (omega (arith, low))
name_in (text ∷ texts) zero low = (text, refl)
name_in (text ∷ texts) (suc i) low = name_in texts i (omega (arith, low))

pub root_word : (s : PlainSchema) (i : ℕ) (root : RootOf) → slice_get s.roots i ≡ Some root → (word : List ℕ) × IsName s root.name word
root_word s i root at = name_in s.names root.name (root_name s root.number root.name root.kind (i, at))
