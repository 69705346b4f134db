-- The first root with a document number is the element that the number names.
use Rattle.std.proofs.Common.{◌≡◌, ℕ, zero, suc, Bool, true, false, if◌then◌else◌, List, [], ◌∷◌, Some, refl, ap, ◌∙◌, inl, inr, eqb-true, nat_lt, nat_le, not, ◌&&◌, ◌^◌, length}
use Rattle.std.proofs.lemmas.Bool.{ltb-true}
use Rattle.std.specs.List.{list_all}
use Rattle.exi_schema.specs.Plain.{PlainKind}
use Rattle.exi_schema.specs.Schemas.{PlainSchema, is_root, is_within, are_roots, are_kinds, are_words, are_values}
use Rattle.exi_schema.proofs.Conditions.{and-l, and-r}
use Rattle.std.proofs.lemmas.Bool.Decides.{eqb_tells}
use Rattle.std.specs.Prelude.{slice_get, ◌==◌}
use Rattle.exi_schema.specs.declared.tables.RootOf.{RootOf}
use Rattle.exi_schema.specs.declared.places.Root.{Root}
use Rattle.exi_schema.specs.declared.places.Root.TheVariants.{Kind, Unknown, NoSuch}
use Rattle.exi_schema.specs.Counts.{root_numbered}
use Rattle.exi_schema.specs.Steps.{IsRoot, IsRootOf}

pub later : (root : RootOf) (roots : List RootOf) (number : ℕ) → (root.number ≡ number → ⊥) →
    ((i : ℕ) (r : RootOf) → slice_get roots i ≡ Some r → r.number ≡ number → ⊥) →
    (i : ℕ) (r : RootOf) → slice_get (root ∷ roots) i ≡ Some r → r.number ≡ number → ⊥
later root roots number other none zero r is same = let s : Some root ≡ Some r = is in let e : root ≡ r = cc in other (ap (λ x. x.number) e ∙ same)
later root roots number other none (suc i) r is same = none i r is same

pub behind_first : (root : RootOf) (roots : List RootOf) (bits number : ℕ) (r : Root) → (root.number ≡ number → ⊥) → IsRoot roots bits number r → IsRoot (root ∷ roots) bits number r
behind_first root roots bits number (Kind name kind) other is = (suc is.0, is.1)
behind_first root roots bits number Unknown other is = (later root roots number other is.0, is.1)
behind_first root roots bits number NoSuch other is = is

pub not_numbered : (a b : ℕ) → (a == b) ≡ false → a ≡ b → ⊥
not_numbered a b is same =
    elim (eqb_tells a b) [ inl told ↦ let wrong : (a == b) ≡ true = told.0 in absurd cc | inr told ↦ told.1 same ]

pub numbered_by : (b : Bool) (root : RootOf) (roots : List RootOf) (bits number : ℕ) → (root.number == number) ≡ b →
    IsRoot roots bits number (root_numbered roots number) → IsRoot (root ∷ roots) bits number (if b then Kind root.name root.kind else root_numbered roots number)
numbered_by true root roots bits number is more =
    let e : root.number ≡ number = eqb-true root.number number is in (0, ap (λ n. Some (record { number = n; name = root.name; kind = root.kind })) e)
numbered_by false root roots bits number is more = behind_first root roots bits number (root_numbered roots number) (not_numbered root.number number is) more

pub is_numbered : (roots : List RootOf) (bits number : ℕ) → (((bits ≡ 2) × (number ≡ 3)) → ⊥) → IsRoot roots bits number (root_numbered roots number)
is_numbered [] bits number coded = (λ i root is same. let wrong = is in absurd cc, coded)
is_numbered (root ∷ roots) bits number coded = numbered_by (root.number == number) root roots bits number refl (is_numbered roots bits number coded)

-- ---- the roots of a schema are its own

pub numbered_fits_by : (b : Bool) (kinds : List PlainKind) (names bits : ℕ) (root : RootOf) (roots : List RootOf) (number : ℕ) → is_root bits names kinds root ≡ true →
    IsRootOf kinds names (root_numbered roots number) → IsRootOf kinds names (if b then Kind root.name root.kind else root_numbered roots number)
numbered_fits_by true kinds names bits root roots number is more =
    let four = and-l _ (is_within kinds 16 root.kind) is in
    let three = and-l _ (nat_lt root.kind (length kinds)) four in (
      ltb-true root.name names (and-r (nat_lt root.number (2 ^ bits) && not (bits == 2 && root.number == 3)) (nat_lt root.name names) three),
      ltb-true root.kind (length kinds) (and-r (nat_lt root.number (2 ^ bits) && not (bits == 2 && root.number == 3) && nat_lt root.name names) (nat_lt root.kind (length kinds)) four),
      and-r (nat_lt root.number (2 ^ bits) && not (bits == 2 && root.number == 3) && nat_lt root.name names && nat_lt root.kind (length kinds)) (is_within kinds 16 root.kind) is,
    )
numbered_fits_by false kinds names bits root roots number is more = more

pub numbered_fits : (kinds : List PlainKind) (names bits : ℕ) (roots : List RootOf) (number : ℕ) → list_all (is_root bits names kinds) roots ≡ true → IsRootOf kinds names (root_numbered roots number)
numbered_fits kinds names bits [] number all = tt
numbered_fits kinds names bits (root ∷ roots) number all =
    numbered_fits_by (root.number == number) kinds names bits root roots number (and-l (is_root bits names kinds root) (list_all (is_root bits names kinds) roots) all)
    (numbered_fits kinds names bits roots number (and-r (is_root bits names kinds root) (list_all (is_root bits names kinds) roots) all))

pub root_fits : (s : PlainSchema) (number : ℕ) → IsRootOf s.kinds (length s.names) (root_numbered s.roots number)
root_fits s number =
    let two = and-l _ (are_words s.names) (and-l _ (are_values s.kinds s.values) s.fits) in
    let rooted = and-r (are_kinds (length s.names) s.kinds) (are_roots s.root_bits (length s.names) s.kinds s.roots) two in
    let three = and-l _ _ (and-l _ _ rooted) in
    numbered_fits s.kinds (length s.names) s.root_bits s.roots number
    (and-r (nat_le 1 (length s.roots) && nat_le s.root_bits 32) (list_all (is_root s.root_bits (length s.names) s.kinds) s.roots) three)
