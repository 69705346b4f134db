-- What the order of attributes and of the members of a group means.
use Rattle.std.proofs.Common.{◌≡◌, ℕ, zero, suc, ◌<◌, ◌&&◌, ◌||◌, Bool, true, false, not, List, [], ◌∷◌, map, Some, refl, ap, subst, ◌∙◌, arith, slice_get, inl, inr}
use Rattle.std.specs.List.{list_all}
use Rattle.exi_schema.specs.declared.tables.AttributeOf.{AttributeOf}
use Rattle.exi_schema.specs.declared.tables.Member.{Member}
use Rattle.exi_schema.specs.Plain.{PlainKind, containing, PlainParticle}
use Rattle.exi_schema.specs.Schemas.{PlainSchema}
use Rattle.exi_schema.proofs.Conditions.{and-l, and-r, all_get}
use Rattle.exi_documents.specs.Trees.{Value, Trees, none, simple, complex, Tree, alone}
use Rattle.kind_laws.specs.Kinds.{Values, AreChosen, HaveValues, AreElements, member_of, IsHeld}
use Rattle.kind_laws.specs.Order.{is_before, are_ascending, text_of, is_group, is_ordered_particle, is_ordered_kind, is_ordered, AttributesAscend, GroupsAscend}
use Rattle.kind_laws.proofs.Lists.{none_of, one_of, get_map}

both_true : (a b : Bool) → a ≡ true → b ≡ true → (a && b) ≡ true
both_true a b p q = ap (λ (x : Bool). x && b) p ∙ q

-- ---- attributes that are chosen

module _ (f : AttributeOf → List ℕ) where
  chosen_pass : (test : List ℕ → Bool) (declared chosen : List AttributeOf) → AreChosen declared chosen → list_all test (map f declared) ≡ true → list_all test (map f chosen) ≡ true
  chosen_pass test [] chosen h all = ap (λ (l : List AttributeOf). list_all test (map f l)) h
  chosen_pass test (a ∷ declared) chosen (inl h) all = chosen_pass test declared chosen h.1 (and-r (test (f a)) (list_all test (map f declared)) all)
  chosen_pass test (a ∷ declared) chosen (inr h) all =
      ap (λ (l : List AttributeOf). list_all test (map f l)) h.1
      ∙ both_true (test (f a)) (list_all test (map f h.0)) (and-l (test (f a)) (list_all test (map f declared)) all) (chosen_pass test declared h.0 h.2 (and-r (test (f a)) (list_all test (map f declared)) all))

  chosen_ascend : (declared chosen : List AttributeOf) → AreChosen declared chosen → are_ascending (map f declared) ≡ true → are_ascending (map f chosen) ≡ true
  chosen_ascend [] chosen h all = ap (λ (l : List AttributeOf). are_ascending (map f l)) h
  chosen_ascend (a ∷ declared) chosen (inl h) all = chosen_ascend declared chosen h.1 (and-r (list_all (is_before (f a)) (map f declared)) (are_ascending (map f declared)) all)
  chosen_ascend (a ∷ declared) chosen (inr h) all =
      ap (λ (l : List AttributeOf). are_ascending (map f l)) h.1
      ∙ both_true (list_all (is_before (f a)) (map f h.0)) (are_ascending (map f h.0))
      (chosen_pass (is_before (f a)) declared h.0 h.2 (and-l (list_all (is_before (f a)) (map f declared)) (are_ascending (map f declared)) all))
      (chosen_ascend declared h.0 h.2 (and-r (list_all (is_before (f a)) (map f declared)) (are_ascending (map f declared)) all))

same_names : (V : Values) (kinds : List PlainKind) (names : List (List ℕ)) (chosen : List AttributeOf) (values : List (ℕ × Value)) → HaveValues V kinds chosen values → map (λ a. text_of names a.0) values ≡ map (λ a. text_of names a.name) chosen
same_names V kinds names [] values h = ap (λ (l : List (ℕ × Value)). map (λ a. text_of names a.0) l) h
same_names V kinds names (a ∷ chosen) [] h = absurd h
same_names V kinds names (a ∷ chosen) (v ∷ values) h =
    ap (λ (n : ℕ). text_of names n ∷ map (λ b. text_of names b.0) values) h.0
    ∙ ap (λ (l : List (List ℕ)). text_of names a.name ∷ l) (same_names V kinds names chosen values h.2)

module _ (V : Values) (s : PlainSchema) (ordered : is_ordered s ≡ true) where
  kind_ordered : (k : ℕ) (declared : List AttributeOf) (particles : List PlainParticle) → slice_get s.kinds k ≡ Some (containing declared particles) → is_ordered_kind s.names (containing declared particles) ≡ true
  kind_ordered k declared particles is = all_get (is_ordered_kind s.names) s.kinds k (containing declared particles) ordered is

  elements_ascend : (members : List Member) (trees : Trees) → AreElements V s.kinds members trees → AttributesAscend s.names trees
  elements_ascend members none are = tt
  elements_ascend members (simple name value more) are = elements_ascend are.1 more are.5
  elements_ascend members (complex name attributes children more) are =
      let own = and-l (are_ascending (map (λ a. text_of s.names a.name) are.4)) (list_all (is_ordered_particle s.names) are.5) (kind_ordered are.0.kind are.4 are.5 are.7) in
      let held = are.8 in (
        ap are_ascending (same_names V s.kinds s.names held.chosen attributes held.have_values) ∙ chosen_ascend (λ a. text_of s.names a.name) are.4 held.chosen held.are_chosen own,
        elements_ascend are.6 children are.10,
        elements_ascend are.1 more are.11,
      )

  pub tree_ascends : (tree : Tree) → IsHeld V s tree → AttributesAscend s.names (alone tree)
  tree_ascends tree held = elements_ascend (member_of held.root ∷ []) (alone tree) held.elements

-- ---- members of a group

pairs_ascend : {X : Type 0} (f : X → List ℕ) (xs : List X) (i j : ℕ) (x y : X) → are_ascending (map f xs) ≡ true → i < j → slice_get xs i ≡ Some x → slice_get xs j ≡ Some y → is_before (f x) (f y) ≡ true
pairs_ascend f [] i j x y all less p q = absurd (none_of x p)
pairs_ascend f (z ∷ xs) i zero x y all less p q = absurd (omega (arith, less))
pairs_ascend f (z ∷ xs) zero (suc j) x y all less p q =
    let first : z ≡ x = one_of (Some z) z x refl p in
    let there = all_get (is_before (f z)) (map f xs) j (f y) (and-l (list_all (is_before (f z)) (map f xs)) (are_ascending (map f xs)) all) (get_map f xs j y q) in
    subst (λ w. is_before (f w) (f y) ≡ true) first there
pairs_ascend f (z ∷ xs) (suc i) (suc j) x y all less p q =
    pairs_ascend f xs i j x y (and-r (list_all (is_before (f z)) (map f xs)) (are_ascending (map f xs)) all) (omega (arith, less)) p q

group_by : (b : Bool) (test : Bool) → b ≡ true → (not b || test) ≡ true → test ≡ true
group_by true test is h = h
group_by false test is h = let wrong : false ≡ true = is in absurd cc

pub groups_ascend : (s : PlainSchema) → is_ordered s ≡ true → GroupsAscend s
groups_ascend s ordered k i declared particles particle is at group m n member other less p q =
    let own = all_get (is_ordered_kind s.names) s.kinds k (containing declared particles) ordered is in
    let one = all_get (is_ordered_particle s.names) particles i particle (and-r (are_ascending (map (λ a. text_of s.names a.name) declared)) (list_all (is_ordered_particle s.names) particles) own) at in
    pairs_ascend (λ m. text_of s.names m.name) particle.members m n member other (group_by (is_group particle) _ group one) less p q
