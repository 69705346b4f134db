-- What the conditions on a schema say of its steps and roots.
use Rattle.std.proofs.Common.{◌≡◌, ◌≢◌, ℕ, zero, suc, ◌<◌, ◌⊎◌, Bool, true, false, not, ◌&&◌, nat_lt, nat_le, List, [], ◌∷◌, length, map, Option, Some, None, slice_get, refl, sym, ap, subst, ◌∙◌, inl, inr}
use Rattle.std.proofs.lemmas.Bool.{ltb-true}
use Rattle.std.proofs.lemmas.Bool.Decides.{eqb_tells}
use Rattle.std.specs.List.{list_any, list_all}
use Rattle.std.specs.Prelude.{◌==◌, ◌^◌, ◌||◌}
use Rattle.exi_schema.specs.Schemas.{PlainSchema, is_root, is_within, are_roots, are_kinds, are_words, are_values, are_distinct}
use Rattle.exi_schema.specs.Plain.{PlainKind, valued, containing}
use Rattle.exi_schema.specs.declared.tables.RootOf.{RootOf}
use Rattle.exi_schema.specs.declared.places.Place.{Place}
use Rattle.exi_schema.specs.declared.places.Root.{Root}
use Rattle.exi_schema.specs.declared.places.Root.TheVariants.{Kind, NoSuch}
use Rattle.exi_schema.specs.declared.places.Step.{Step}
use Rattle.exi_schema.specs.Counts.{root_numbered}
use Rattle.exi_schema.specs.Offers.{simple_step, complex_steps, offers_of, offers, IsPlaceOf, IsPlace}
use Rattle.exi_schema.specs.Steps.{IsStep, IsRoot}
use Rattle.exi_schema.proofs.Conditions.{and-l, and-r, all_get, complex_in}
use Rattle.exi_schema.proofs.Fitting.{each_complex, each_get, simple_fits}
use Rattle.exi_schema.proofs.Roots.{is_numbered}
use Rattle.document_laws.proofs.Offered.{only_code}

-- ---- steps

fits_by : (o : Option PlainKind) (s : PlainSchema) (here : Place) (code : ℕ) (step : Step) → slice_get s.kinds here.kind ≡ o → IsPlaceOf here o → slice_get (offers_of here o) code ≡ Some step →
    IsStep s.kinds (length s.names) here.kind step
fits_by None s here code step is at h = absurd at
fits_by (Some (valued d)) s here code step is at h =
    let e = (only_code (simple_step here) step code h).0 in
    subst (λ (x : Step). IsStep s.kinds (length s.names) here.kind x) (sym e) (simple_fits s.kinds (length s.names) here d is at)
fits_by (Some (containing attributes particles)) s here code step is at h =
    each_get s.kinds (length s.names) here.kind (complex_steps here attributes particles) code step
    (each_complex s.kinds (length s.names) here attributes particles is at (complex_in s here.kind attributes particles is)) (sym h)

-- a step that is offered at a place of the schema is the schema's
pub step_fits : (s : PlainSchema) (here : Place) (code : ℕ) (step : Step) → IsPlace s.kinds here → slice_get (offers s.kinds here) code ≡ Some step → IsStep s.kinds (length s.names) here.kind step
step_fits s here code step at h = fits_by (slice_get s.kinds here.kind) s here code step refl at h

-- ---- numbers that differ

pub not_any : (n : ℕ) (ns : List ℕ) (i m : ℕ) → not (list_any (λ k. k == n) ns) ≡ true → slice_get ns i ≡ Some m → m ≡ n → ⊥
not_any n [] i m other h e = let wrong : None ≡ Some m = h in cc
not_any n (x ∷ ns) zero m other h e =
    let is : Some x ≡ Some m = h in
    let same : x ≡ n = (let first : x ≡ m = cc in first) ∙ e in
    by_test (x == n) (eqb_tells x n) other same
  where
    by_test : (b : Bool) → ((b ≡ true) × (x ≡ n)) ⊎ ((b ≡ false) × (x ≢ n)) → not (b || list_any (λ k. k == n) ns) ≡ true → x ≡ n → ⊥
    by_test true tells wrong same = let w : false ≡ true = wrong in cc
    by_test false (inl tells) wrong same = let w : false ≡ true = tells.0 in cc
    by_test false (inr tells) wrong same = tells.1 same
not_any n (x ∷ ns) (suc i) m other h e = not_any n ns i m (rest (x == n) other) h e
  where
    rest : (b : Bool) → not (b || list_any (λ k. k == n) ns) ≡ true → not (list_any (λ k. k == n) ns) ≡ true
    rest true wrong = let w : false ≡ true = wrong in absurd cc
    rest false is = is

get_map : {X : Type 0} (f : X → ℕ) (xs : List X) (i : ℕ) (x : X) → slice_get xs i ≡ Some x → slice_get (map f xs) i ≡ Some (f x)
get_map f [] i x h = let wrong : None ≡ Some x = h in absurd cc
get_map f (y ∷ xs) zero x h = let is : Some y ≡ Some x = h in let e : y ≡ x = cc in ap (λ z. Some (f z)) e
get_map f (y ∷ xs) (suc i) x h = get_map f xs i x h

-- elements whose numbers differ are one where their numbers are
pub one_numbered : {X : Type 0} (f : X → ℕ) (xs : List X) (i j : ℕ) (x y : X) → are_distinct (map f xs) ≡ true → slice_get xs i ≡ Some x → slice_get xs j ≡ Some y → f x ≡ f y → (x ≡ y) × (i ≡ j)
one_numbered f [] i j x y apart p q e = let wrong : None ≡ Some x = p in absurd cc
one_numbered f (z ∷ xs) zero zero x y apart p q e = let a : Some z ≡ Some x = p in let b : Some z ≡ Some y = q in (cc, refl)
one_numbered f (z ∷ xs) zero (suc j) x y apart p q e =
    let a : Some z ≡ Some x = p in
    let first : z ≡ x = cc in
    absurd (not_any (f z) (map f xs) j (f y) (and-l _ (are_distinct (map f xs)) apart) (get_map f xs j y q) (sym e ∙ ap f (sym first)))
one_numbered f (z ∷ xs) (suc i) zero x y apart p q e =
    let b : Some z ≡ Some y = q in
    let first : z ≡ y = cc in
    absurd (not_any (f z) (map f xs) i (f x) (and-l _ (are_distinct (map f xs)) apart) (get_map f xs i x p) (e ∙ ap f (sym first)))
one_numbered f (z ∷ xs) (suc i) (suc j) x y apart p q e =
    let more = one_numbered f xs i j x y (and-r (not (list_any (λ k. k == f z) (map f xs))) (are_distinct (map f xs)) apart) p q e in
    (more.0, ap suc more.1)

-- ---- roots

roots_of : (s : PlainSchema) → are_roots s.root_bits (length s.names) s.kinds s.roots ≡ true
roots_of s =
    let texts : List (List ℕ) = s.names in
    let two = and-l _ (are_words texts) (and-l _ (are_values s.kinds s.values) s.fits) in
    and-r (are_kinds (length texts) s.kinds) (are_roots s.root_bits (length texts) s.kinds s.roots) two

pub distinct_numbers : (s : PlainSchema) → are_distinct (map (λ root. root.number) s.roots) ≡ true
distinct_numbers s =
    let texts : List (List ℕ) = s.names in
    and-r (nat_le 1 (length s.roots) && nat_le s.root_bits 32 && list_all (is_root s.root_bits (length texts) s.kinds) s.roots) (are_distinct (map (λ root. root.number) s.roots))
    (and-l _ (are_distinct (map (λ root. root.name) s.roots)) (roots_of s))

pub distinct_names : (s : PlainSchema) → are_distinct (map (λ root. root.name) s.roots) ≡ true
distinct_names s =
    let texts : List (List ℕ) = s.names in
    and-r (nat_le 1 (length s.roots) && nat_le s.root_bits 32 && list_all (is_root s.root_bits (length texts) s.kinds) s.roots && are_distinct (map (λ root. root.number) s.roots))
    (are_distinct (map (λ root. root.name) s.roots)) (roots_of s)

root_is : (s : PlainSchema) (i : ℕ) (root : RootOf) → slice_get s.roots i ≡ Some root → is_root s.root_bits (length s.names) s.kinds root ≡ true
root_is s i root h =
    let texts : List (List ℕ) = s.names in
    let three = and-l _ _ (and-l _ _ (roots_of s)) in
    all_get (is_root s.root_bits (length texts) s.kinds) s.roots i root
    (and-r (nat_le 1 (length s.roots) && nat_le s.root_bits 32) (list_all (is_root s.root_bits (length texts) s.kinds) s.roots) three) h

-- the kind of a root is the schema's
pub root_kind : (s : PlainSchema) (number name kind : ℕ) → IsRoot s.roots s.root_bits number (Kind name kind) → kind < length s.kinds
root_kind s number name kind h =
    let n = length s.names in
    let four = and-l _ (is_within s.kinds 16 kind) (root_is s h.0 (record { number = number; name = name; kind = kind }) h.1) in
    ltb-true kind (length s.kinds) (and-r (nat_lt number (2 ^ s.root_bits) && not (s.root_bits == 2 && number == 3) && nat_lt name n) (nat_lt kind (length s.kinds)) four)

-- and its name
pub root_name : (s : PlainSchema) (number name kind : ℕ) → IsRoot s.roots s.root_bits number (Kind name kind) → name < length s.names
root_name s number name kind h =
    let n = length s.names in
    let three = and-l _ (nat_lt kind (length s.kinds)) (and-l _ (is_within s.kinds 16 kind) (root_is s h.0 (record { number = number; name = name; kind = kind }) h.1)) in
    ltb-true name n (and-r (nat_lt number (2 ^ s.root_bits) && not (s.root_bits == 2 && number == 3)) (nat_lt name n) three)

tested : (n m : ℕ) → n ≡ m → (n == m) ≡ true
tested n m e = elim (eqb_tells n m) [ inl tells ↦ tells.0 | inr tells ↦ absurd (tells.1 e) ]

-- no root has the number that is no code
pub root_coded : (s : PlainSchema) (number name kind : ℕ) → IsRoot s.roots s.root_bits number (Kind name kind) → ((s.root_bits ≡ 2) × (number ≡ 3)) → ⊥
root_coded s number name kind h no_code =
    let n = length s.names in
    let is = root_is s h.0 (record { number = number; name = name; kind = kind }) h.1 in
    let two = and-l _ (nat_lt name n) (and-l _ (nat_lt kind (length s.kinds)) (and-l _ (is_within s.kinds 16 kind) is)) in
    let coded : not (s.root_bits == 2 && number == 3) ≡ true = and-r (nat_lt number (2 ^ s.root_bits)) _ two in
    let wrong : not (true && true) ≡ true =
    subst (λ (b : Bool). not (true && b) ≡ true) (tested number 3 no_code.1) (subst (λ (b : Bool). not (b && number == 3) ≡ true) (tested s.root_bits 2 no_code.0) coded) in
    let w : false ≡ true = wrong in cc

-- a document number names one root
pub one_root : (s : PlainSchema) (number name kind other odd : ℕ) → IsRoot s.roots s.root_bits number (Kind name kind) → IsRoot s.roots s.root_bits number (Kind other odd) → (name ≡ other) × (kind ≡ odd)
one_root s number name kind other odd p q =
    let same = (one_numbered (λ (root : RootOf). root.number) s.roots p.0 q.0 (record { number = number; name = name; kind = kind }) (record { number = number; name = other; kind = odd }) (distinct_numbers s) p.1 q.1 refl).0 in
    (ap (λ (root : RootOf). root.name) same, ap (λ (root : RootOf). root.kind) same)

coded_or_not : (bits number : ℕ) → ((bits ≡ 2) × (number ≡ 3)) ⊎ (((bits ≡ 2) × (number ≡ 3)) → ⊥)
coded_or_not bits number =
    elim (eqb_tells bits 2) [
      | inl two ↦ elim (eqb_tells number 3) [ inl three ↦ inl (two.1, three.1) | inr other ↦ inr (λ h. other.1 h.1) ]
      | inr other ↦ inr (λ h. other.1 h.0)
    ]

-- each number names something
pub some_root : (s : PlainSchema) (number : ℕ) → (root : Root) × IsRoot s.roots s.root_bits number root
some_root s number =
    elim (coded_or_not s.root_bits number) [
      | inl none ↦ (NoSuch, none)
      | inr coded ↦ (root_numbered s.roots number, is_numbered s.roots s.root_bits number coded)
    ]
