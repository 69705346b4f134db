-- One attribute of a name is offered at a place.
use Rattle.std.proofs.Common.{◌≡◌, ℕ, zero, suc, ◌<◌, ◌≤◌, true, not, List, [], ◌∷◌, ◌++◌, length, codes, Some, None, Result, Ok, Err, OnOk, refl, sym, ap, subst, ◌∙◌, append_assoc, arith}
use Rattle.std.proofs.lemmas.Option.{slice_get_within}
use Rattle.std.specs.List.{list_any}
use Rattle.std.specs.Prelude.{◌==◌, slice_get}
use Rattle.exi_schema.specs.declared.places.Place.{Place}
use Rattle.exi_schema.specs.declared.places.Step.{Step}
use Rattle.exi_schema.specs.declared.places.Step.TheVariants.{Attribute}
use Rattle.exi_schema.specs.Schemas.{PlainSchema, attribute_names, are_distinct}
use Rattle.exi_schema.specs.Offers.{offers, IsPlace}
use Rattle.exi_schema.proofs.Conditions.{and-l, and-r}
use Rattle.document_laws.proofs.Fits.{not_any}
use Rattle.document_laws.proofs.Names.{offers_once}
use Rattle.exi_documents.specs.Trees.{Value}
use Rattle.tree_text.specs.TreeText.{IsValueText, IsName, IsOffered}
use Rattle.tree_text.specs.EventText.{gap, AddsAttribute}
use Rattle.tree_text.specs.declared.print.TextEnd.{TextEnd}

name_in : (steps : List Step) (j n k : ℕ) (p : Place) → slice_get steps j ≡ Some (Attribute n k p) → (i : ℕ) × (slice_get (attribute_names steps) i ≡ Some n)
name_in [] j n k p h = let wrong : None ≡ Some (Attribute n k p) = h in absurd cc
name_in (Attribute m l q ∷ steps) zero n k p h =
    let same : Some (Attribute m l q) ≡ Some (Attribute n k p) = h in let is : m ≡ n = cc in (0, ap (λ (x : ℕ). Some x) is)
name_in (Attribute m l q ∷ steps) (suc j) n k p h = let found = name_in steps j n k p h in (suc found.0, found.1)
name_in (other ∷ steps) zero n k p h = let same : Some other ≡ Some (Attribute n k p) = h in absurd cc
name_in (other ∷ steps) (suc j) n k p h = name_in steps j n k p h

-- a name that stands first stands nowhere else
named_again : (steps : List Step) (m l j n k : ℕ) (q p : Place) → are_distinct (attribute_names (Attribute m l q ∷ steps)) ≡ true → m ≡ n → slice_get steps j ≡ Some (Attribute n k p) → ⊥
named_again steps m l j n k q p apart is h =
    let found = name_in steps j n k p h in
    not_any m (attribute_names steps) found.0 n (and-l _ (are_distinct (attribute_names steps)) apart) found.1 (sym is)

one_named : (steps : List Step) (i j n k l : ℕ) (p q : Place) → are_distinct (attribute_names steps) ≡ true → slice_get steps i ≡ Some (Attribute n k p) → slice_get steps j ≡ Some (Attribute n l q) → (k ≡ l) × (p ≡ q)
one_named [] i j n k l p q apart a b = let wrong : None ≡ Some (Attribute n k p) = a in absurd cc
one_named (step ∷ steps) zero zero n k l p q apart a b =
    let one : Some step ≡ Some (Attribute n k p) = a in let other : Some step ≡ Some (Attribute n l q) = b in (cc, cc)
one_named (Attribute m o r ∷ steps) zero (suc j) n k l p q apart a b =
    let same : Some (Attribute m o r) ≡ Some (Attribute n k p) = a in let is : m ≡ n = cc in absurd (named_again steps m o j n l r q apart is b)
one_named (other ∷ steps) zero (suc j) n k l p q apart a b = let same : Some other ≡ Some (Attribute n k p) = a in absurd cc
one_named (Attribute m o r ∷ steps) (suc i) zero n k l p q apart a b =
    let same : Some (Attribute m o r) ≡ Some (Attribute n l q) = b in let is : m ≡ n = cc in absurd (named_again steps m o i n k r p apart is a)
one_named (other ∷ steps) (suc i) zero n k l p q apart a b = let same : Some other ≡ Some (Attribute n l q) = b in absurd cc
one_named (Attribute m o r ∷ steps) (suc i) (suc j) n k l p q apart a b =
    one_named steps i j n k l p q (and-r (not (list_any (λ x. x == m) (attribute_names steps))) (are_distinct (attribute_names steps)) apart) a b
one_named (other ∷ steps) (suc i) (suc j) n k l p q apart a b = one_named steps i j n k l p q apart a b

pub one_attribute : (s : PlainSchema) (here : Place) (n k l : ℕ) (p q : Place) → IsPlace s.kinds here → IsOffered s here (Attribute n k p) → IsOffered s here (Attribute n l q) → (k ≡ l) × (p ≡ q)
one_attribute s here n k l p q at a b = one_named (offers s.kinds here) a.0 b.0 n k l p q (offers_once s here at).attributes a.1 b.1

pub found_offered : (s : PlainSchema) (here next : Place) (other name kind code : ℕ) → Some (Attribute other kind next) ≡ slice_get (offers s.kinds here) code → other ≡ name → IsOffered s here (Attribute name kind next)
found_offered s here next other name kind code found is = (code, sym found ∙ ap (λ (n : ℕ). Some (Attribute n kind next)) is)

pub offered_below : (s : PlainSchema) (here next : Place) (name kind count : ℕ) → ((i : ℕ) (k : ℕ) (p : Place) → i < count → slice_get (offers s.kinds here) i ≡ Some (Attribute name k p) → ⊥) →
    length (offers s.kinds here) ≤ count → IsOffered s here (Attribute name kind next) → ⊥
offered_below s here next name kind count none all h =
    none h.0 kind next (omega (arith, all, slice_get_within (offers s.kinds here) h.0 (Attribute name kind next) h.1)) h.1

-- ---- an attribute put behind a text

pub on_ok : {T E : Type 0} (r : Result T E) (P Q : Type 0) → (P → Q) → OnOk r P → OnOk r Q
on_ok (Ok x) P Q f h = f h
on_ok (Err e) P Q f h = h

-- the value has a text of the kind that was found
pub value_has_text : (s : PlainSchema) (end : TextEnd) (here : Place) (name kind : ℕ) (value : Value) → ((k : ℕ) (next : Place) → IsOffered s here (Attribute name k next) → k ≡ kind) →
    ((added : List ℕ) × AddsAttribute s end here name value added) → (said : List ℕ) × IsValueText s kind value said
value_has_text s end here name kind value one h =
    let a = h.1 in (a.4.1, subst (λ (k : ℕ). IsValueText s k value a.4.1) (one a.0 a.1 a.3) a.4.3)

pub attribute_put : (s : PlainSchema) (end : TextEnd) (here next : Place) (name kind : ℕ) (value : Value) (sep old one two three new : List ℕ) → IsOffered s here (Attribute name kind next) →
    sep ≡ gap end → one ≡ old ++ sep → two ≡ one ++ codes "@" → ((word : List ℕ) × IsName s name word × (three ≡ two ++ word)) →
    ((said : List ℕ) × IsValueText s kind value said × (new ≡ three ++ codes "=" ++ said)) → (added : List ℕ) × AddsAttribute s end here name value added × (new ≡ old ++ added)
attribute_put s end here next name kind value sep old one two three new offered sep_is first second w v =
    let word = w.0 in
    let part = word ++ codes "=" ++ v.0 in
    let joined : new ≡ old ++ (gap end ++ codes "@" ++ part) =
    v.2 ∙ ap (λ (l : List ℕ). l ++ codes "=" ++ v.0) (w.2 ∙ ap (λ (l : List ℕ). l ++ word) (second ∙ ap (λ (l : List ℕ). l ++ codes "@") (first ∙ ap (λ (l : List ℕ). old ++ l) sep_is)))
    ∙ simp append_assoc in
    (gap end ++ codes "@" ++ part, (kind, next, part, offered, (word, v.0, w.1, v.1, refl), refl), joined)
