-- A tree has one text: at each place one attribute and one element of a name is offered, and a value of a kind has one text.
use Rattle.std.proofs.Common.{◌≡◌, ℕ, zero, suc, true, not, List, [], ◌∷◌, ◌++◌, codes, Some, None, refl, sym, ap, ap₂, subst, ◌∙◌}
use Rattle.std.specs.List.{list_any}
use Rattle.std.specs.Prelude.{◌==◌, slice_get}
use Rattle.exi_schema.specs.declared.places.Place.{Place}
use Rattle.exi_schema.specs.declared.places.Root.TheVariants.{Kind}
use Rattle.exi_schema.specs.declared.places.Step.{Step}
use Rattle.exi_schema.specs.declared.places.Step.TheVariants as step
use Rattle.exi_schema.specs.Schemas.{PlainSchema, element_names, are_distinct}
use Rattle.exi_schema.specs.declared.tables.RootOf.{RootOf}
use Rattle.exi_schema.specs.Offers.{offers, IsPlace}
use Rattle.exi_schema.specs.Steps.{IsRoot}
use Rattle.exi_schema.proofs.Conditions.{and-l, and-r}
use Rattle.exi_schema.proofs.Fitting.{first_place}
use Rattle.exi_documents.specs.Documents.{element, first, name_of}
use Rattle.exi_documents.specs.Trees.{Value, Truth, Ordinal, Number, Bytes, Text, Trees, none, simple, complex, Tree, Simple, Complex}
use Rattle.document_laws.proofs.Fits.{not_any, step_fits, one_numbered, distinct_names, root_kind}
use Rattle.document_laws.proofs.Names.{offers_once}
use Rattle.tree_text.specs.TreeText.{IsValueText, IsName, IsNamedText, IsOffered, AreAttributeTexts, AreTreeTexts, IsRootText, IsTreeText, braced}
use Rattle.tree_text.proofs.Attributes.{one_attribute}

-- ---- one element of a name

name_in : (steps : List Step) (j n k : ℕ) (p : Place) → slice_get steps j ≡ Some (element n k p) → (i : ℕ) × (slice_get (element_names steps) i ≡ Some n)
name_in [] j n k p h = let wrong : None ≡ Some (element n k p) = h in absurd cc
name_in (step.Element m l q standing past_limit ∷ steps) zero n k p h =
    let same : Some (step.Element m l q standing past_limit) ≡ Some (element n k p) = h in let is : m ≡ n = cc in (0, ap (λ (x : ℕ). Some x) is)
name_in (step.Element m l q standing past_limit ∷ steps) (suc j) n k p h = let found = name_in steps j n k p h in (suc found.0, found.1)
name_in (other ∷ steps) zero n k p h = let same : Some other ≡ Some (element n k p) = h in absurd cc
name_in (other ∷ steps) (suc j) n k p h = name_in steps j n k p h

named_again : (steps : List Step) (m n k j : ℕ) (p : Place) → are_distinct (m ∷ element_names steps) ≡ true → m ≡ n → slice_get steps j ≡ Some (element n k p) → ⊥
named_again steps m n k j p apart is h =
    let found = name_in steps j n k p h in
    not_any m (element_names steps) found.0 n (and-l _ (are_distinct (element_names steps)) apart) found.1 (sym is)

one_named : (steps : List Step) (i j n k l : ℕ) (p q : Place) → are_distinct (element_names steps) ≡ true → slice_get steps i ≡ Some (element n k p) → slice_get steps j ≡ Some (element n l q) → (k ≡ l) × (p ≡ q)
one_named [] i j n k l p q apart a b = let wrong : None ≡ Some (element n k p) = a in absurd cc
one_named (x ∷ steps) zero zero n k l p q apart a b =
    let one : Some x ≡ Some (element n k p) = a in let other : Some x ≡ Some (element n l q) = b in (cc, cc)
one_named (step.Element m o r standing past_limit ∷ steps) zero (suc j) n k l p q apart a b =
    let same : Some (step.Element m o r standing past_limit) ≡ Some (element n k p) = a in let is : m ≡ n = cc in absurd (named_again steps m n l j q apart is b)
one_named (other ∷ steps) zero (suc j) n k l p q apart a b = let same : Some other ≡ Some (element n k p) = a in absurd cc
one_named (step.Element m o r standing past_limit ∷ steps) (suc i) zero n k l p q apart a b =
    let same : Some (step.Element m o r standing past_limit) ≡ Some (element n l q) = b in let is : m ≡ n = cc in absurd (named_again steps m n k i p apart is a)
one_named (other ∷ steps) (suc i) zero n k l p q apart a b = let same : Some other ≡ Some (element n l q) = b in absurd cc
one_named (step.Element m o r standing past_limit ∷ steps) (suc i) (suc j) n k l p q apart a b =
    one_named steps i j n k l p q (and-r (not (list_any (λ x. x == m) (element_names steps))) (are_distinct (element_names steps)) apart) a b
one_named (other ∷ steps) (suc i) (suc j) n k l p q apart a b = one_named steps i j n k l p q apart a b

one_element : (s : PlainSchema) (here : Place) (n k l : ℕ) (p q : Place) → IsPlace s.kinds here → IsOffered s here (element n k p) → IsOffered s here (element n l q) → (k ≡ l) × (p ≡ q)
one_element s here n k l p q at a b = one_named (offers s.kinds here) a.0 b.0 n k l p q (offers_once s here at).elements a.1 b.1

-- ---- one text of a name and of a value

one_found : {X : Type 0} (xs : List X) (i : ℕ) (x y : X) → slice_get xs i ≡ Some x → slice_get xs i ≡ Some y → x ≡ y
one_found {X} xs i x y a b = let same : Some x ≡ Some y = sym a ∙ b in cc

one_value : (s : PlainSchema) (kind : ℕ) (v : Value) (a b : List ℕ) → IsValueText s kind v a → IsValueText s kind v b → a ≡ b
one_value s kind (Truth truth) a b p q = p ∙ sym q
one_value s kind (Ordinal ordinal) a b p q = one_found _ ordinal a b p q
one_value s kind (Number n) a b p q = p ∙ sym q
one_value s kind (Bytes bytes) a b p q = p ∙ sym q
one_value s kind (Text chars) a b p q = p ∙ sym q

one_name : (s : PlainSchema) (name : ℕ) (a b : List ℕ) → IsName s name a → IsName s name b → a ≡ b
one_name s name a b p q = one_found s.names name a b p q

one_named_text : (s : PlainSchema) (name kind other : ℕ) (v : Value) (a b : List ℕ) → kind ≡ other → IsNamedText s name kind v a → IsNamedText s name other v b → a ≡ b
one_named_text s name kind other v a b same p q =
    p.4 ∙ ap₂ (λ (word said : List ℕ). word ++ codes "=" ++ said) (one_name s name p.0 q.0 p.2 q.2) (one_value s other v p.1 q.1 (subst (λ (k : ℕ). IsValueText s k v p.1) same p.3) q.3) ∙ sym q.4

-- ---- one text of each attribute and element

one_attributes : (s : PlainSchema) (here other there odd : Place) (attributes : List (ℕ × Value)) (a b : List (List ℕ)) → IsPlace s.kinds here → here ≡ other →
    AreAttributeTexts s here attributes a there → AreAttributeTexts s other attributes b odd → (a ≡ b) × (there ≡ odd) × IsPlace s.kinds there
one_attributes s here other there odd [] a b at same p q = (p.0 ∙ sym q.0, p.1 ∙ same ∙ sym q.1, subst (λ (x : Place). IsPlace s.kinds x) (sym p.1) at)
one_attributes s here other there odd (attribute ∷ attributes) a b at same p q =
    let offered : IsOffered s here (step.Attribute attribute.0 q.0 q.1) = subst (λ (x : Place). IsOffered s x (step.Attribute attribute.0 q.0 q.1)) (sym same) q.4 in
    let one = one_attribute s here attribute.0 p.0 q.0 p.1 q.1 at p.4 offered in
    let fits = step_fits s here p.4.0 (step.Attribute attribute.0 p.0 p.1) at p.4.1 in
    let more = one_attributes s p.1 q.1 there odd attributes p.3 q.3 fits.3 one.1 p.6 q.6 in
    let first_text = one_named_text s attribute.0 p.0 q.0 attribute.1 p.2 q.2 one.0 p.5 q.5 in
    (p.7 ∙ ap₂ (λ (text : List ℕ) (rest : List (List ℕ)). (codes "@" ++ text) ∷ rest) first_text more.0 ∙ sym q.7, more.1, more.2)

one_trees : (s : PlainSchema) (here other : Place) (trees : Trees) (a b : List (List ℕ)) → IsPlace s.kinds here → here ≡ other → AreTreeTexts s here trees a → AreTreeTexts s other trees b → a ≡ b
one_trees s here other none a b at same p q = p ∙ sym q
one_trees s here other (simple name value more) a b at same p q =
    let offered : IsOffered s here (element name q.0 q.1) = subst (λ (x : Place). IsOffered s x (element name q.0 q.1)) (sym same) q.4 in
    let one = one_element s here name p.0 q.0 p.1 q.1 at p.4 offered in
    let fits = step_fits s here p.4.0 (element name p.0 p.1) at p.4.1 in
    let rest = one_trees s p.1 q.1 more p.3 q.3 fits.2 one.1 p.6 q.6 in
    p.7 ∙ ap₂ (λ (text : List ℕ) (texts : List (List ℕ)). text ∷ texts) (one_named_text s name p.0 q.0 value p.2 q.2 one.0 p.5 q.5) rest ∙ sym q.7
one_trees s here other (complex name attributes children more) a b at same p q =
    let offered : IsOffered s here (element name q.0 q.1) = subst (λ (x : Place). IsOffered s x (element name q.0 q.1)) (sym same) q.7 in
    let one = one_element s here name p.0 q.0 p.1 q.1 at p.7 offered in
    let fits = step_fits s here p.7.0 (element name p.0 p.1) at p.7.1 in
    let front = one_attributes s (first p.0) (first q.0) p.2 q.2 attributes p.4 q.4 (first_place s p.0 fits.1) (ap first one.0) p.9 q.9 in
    let inside = one_trees s p.2 q.2 children p.5 q.5 front.2 front.1 p.10 q.10 in
    let rest = one_trees s p.1 q.1 more p.6 q.6 fits.2 one.1 p.11 q.11 in
    p.12 ∙ ap₂ (λ (text : List ℕ) (texts : List (List ℕ)). text ∷ texts) (ap₂ (λ (word : List ℕ) (parts : List (List ℕ)). braced word parts) (one_name s name p.3 q.3 p.8 q.8) (ap₂ (λ (xs ys : List (List ℕ)). xs ++ ys) front.0 inside)) rest ∙ sym q.12

-- ---- one text of a root

-- roots of one name are of one kind
one_kind : (s : PlainSchema) (n m name k l : ℕ) → IsRoot s.roots s.root_bits n (Kind name k) → IsRoot s.roots s.root_bits m (Kind name l) → k ≡ l
one_kind s n m name k l p q =
    let a : RootOf = record { number = n; name = name; kind = k } in
    let b : RootOf = record { number = m; name = name; kind = l } in
    ap (λ (root : RootOf). root.kind) (one_numbered (λ (root : RootOf). root.name) s.roots p.0 q.0 a b (distinct_names s) p.1 q.1 refl).0

one_root_text : (s : PlainSchema) (kind other : ℕ) (tree : Tree) (a b : List ℕ) → kind ≡ other → IsPlace s.kinds (first kind) → IsRootText s kind tree a → IsRootText s other tree b → a ≡ b
one_root_text s kind other (Simple name value) a b same at p q = one_named_text s name kind other value a b same p q
one_root_text s kind other (Complex name attributes children) a b same at p q =
    let front = one_attributes s (first kind) (first other) p.0 q.0 attributes p.2 q.2 at (ap first same) p.5 q.5 in
    let inside = one_trees s p.0 q.0 children p.3 q.3 front.2 front.1 p.6 q.6 in
    p.7 ∙ ap₂ (λ (word : List ℕ) (parts : List (List ℕ)). braced word parts) (one_name s name p.1 q.1 p.4 q.4) (ap₂ (λ (xs ys : List (List ℕ)). xs ++ ys) front.0 inside) ∙ sym q.7

pub one_tree_text : (s : PlainSchema) (tree : Tree) (a b : List ℕ) → IsTreeText s tree a → IsTreeText s tree b → a ≡ b
one_tree_text s tree a b p q =
    one_root_text s p.kind q.kind tree a b (one_kind s p.number q.number (name_of tree) p.kind q.kind p.named q.named) (first_place s p.kind (root_kind s p.number (name_of tree) p.kind p.named)) p.written q.written
