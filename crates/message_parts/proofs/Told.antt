-- The events of a tree, the newest first and those to come.
use Rattle.std.proofs.Common.{◌≡◌, ℕ, List, [], ◌∷◌, ◌++◌, reverse, refl, sym, ap, ◌∙◌, append_assoc}
use Rattle.std.proofs.lemmas.List.{reverse-append}
use Rattle.exi_events.specs.Trees.{Value, Trees, none, simple, complex, Tree, Event, Document, Start, Attribute, Content, EndElement, attribute_events, events_of, document_events}
use Rattle.exi_events.proofs.Apart.{documents_apart}
use Rattle.message_parts.specs.Contents.{Inside, Of, Holding, root_of, told_attributes, told_trees, told_inside, attributes_onto, trees_onto, one_onto}

-- ---- the newest first

turned : (x : Event) (xs told : List Event) → reverse (x ∷ xs) ++ told ≡ reverse xs ++ (x ∷ told)
turned x xs told = ap (λ (l : List Event). l ++ told) (reverse-append (x ∷ []) xs) ∙ append_assoc (reverse xs) (x ∷ []) told

turned_both : (xs ys told : List Event) → reverse (xs ++ ys) ++ told ≡ reverse ys ++ (reverse xs ++ told)
turned_both xs ys told = ap (λ (l : List Event). l ++ told) (reverse-append xs ys) ∙ append_assoc (reverse ys) (reverse xs) told

attributes_turned : (these : List (ℕ × Value)) (told : List Event) → told_attributes these told ≡ reverse (attribute_events these) ++ told
attributes_turned [] told = refl
attributes_turned (a ∷ these) told = attributes_turned these (Attribute a.0 a.1 ∷ told) ∙ sym (turned (Attribute a.0 a.1) (attribute_events these) told)

trees_turned : (t : Trees) (told : List Event) → told_trees t told ≡ reverse (events_of t) ++ told
trees_turned none told = refl
trees_turned (simple name v more) told =
    trees_turned more (EndElement ∷ Content v ∷ Start name ∷ told)
    ∙ sym (turned (Start name) (Content v ∷ EndElement ∷ events_of more) told ∙ turned (Content v) (EndElement ∷ events_of more) (Start name ∷ told) ∙ turned EndElement (events_of more) (Content v ∷ Start name ∷ told))
trees_turned (complex name these children more) told =
    let a = attribute_events these in
    let c = events_of children in
    let m = events_of more in
    trees_turned more (EndElement ∷ told_trees children (told_attributes these (Start name ∷ told)))
    ∙ ap (λ (l : List Event). reverse m ++ (EndElement ∷ l)) (trees_turned children (told_attributes these (Start name ∷ told)) ∙ ap (λ (l : List Event). reverse c ++ l) (attributes_turned these (Start name ∷ told)))
    ∙ sym (
    turned_both (Start name ∷ (a ++ c)) (EndElement ∷ m) told
    ∙ turned EndElement m (reverse (Start name ∷ (a ++ c)) ++ told)
    ∙ ap (λ (l : List Event). reverse m ++ (EndElement ∷ l)) (turned (Start name) (a ++ c) told ∙ turned_both a c (Start name ∷ told))
    )

root_turned : (name number : ℕ) (inside : Inside) → EndElement ∷ told_inside inside (Start name ∷ Document number ∷ []) ≡ reverse (document_events number (root_of name inside))
root_turned name number (Of v) = refl
root_turned name number (Holding these children) =
    trees_turned (complex name these children none) (Document number ∷ []) ∙ sym (reverse-append (Document number ∷ []) (events_of (complex name these children none)))

unturned : (xs : List Event) → reverse (reverse xs) ≡ xs
unturned [] = refl
unturned (x ∷ xs) = ap reverse (reverse-append (x ∷ []) xs) ∙ reverse-append (reverse xs) (x ∷ []) ∙ ap (λ (l : List Event). x ∷ l) (unturned xs)

-- the events of a root tell one tree
pub root_is : (name number other : ℕ) (inside : Inside) (tree : Tree) → EndElement ∷ told_inside inside (Start name ∷ Document number ∷ []) ≡ reverse (document_events other tree) → tree ≡ root_of name inside
root_is name number other inside tree told =
    let turned : reverse (document_events other tree) ≡ reverse (document_events number (root_of name inside)) = sym told ∙ root_turned name number inside in
    (documents_apart other number tree (root_of name inside) (sym (unturned (document_events other tree)) ∙ ap reverse turned ∙ unturned (document_events number (root_of name inside)))).1

-- ---- those to come

attributes_ahead : (these : List (ℕ × Value)) (rest : List Event) → attributes_onto these rest ≡ attribute_events these ++ rest
attributes_ahead [] rest = refl
attributes_ahead (a ∷ these) rest = ap (λ (l : List Event). Attribute a.0 a.1 ∷ l) (attributes_ahead these rest)

trees_ahead : (t : Trees) (rest : List Event) → trees_onto t rest ≡ events_of t ++ rest
trees_ahead none rest = refl
trees_ahead (simple name v more) rest = ap (λ (l : List Event). Start name ∷ Content v ∷ EndElement ∷ l) (trees_ahead more rest)
trees_ahead (complex name these children more) rest =
    let a = attribute_events these in
    let c = events_of children in
    let m = events_of more in
    ap (λ (l : List Event). Start name ∷ l) (
    ap (λ (l : List Event). attributes_onto these (trees_onto children (EndElement ∷ l))) (trees_ahead more rest)
    ∙ ap (λ (l : List Event). attributes_onto these l) (trees_ahead children (EndElement ∷ (m ++ rest)))
    ∙ attributes_ahead these (c ++ (EndElement ∷ (m ++ rest)))
    ∙ sym (append_assoc (a ++ c) (EndElement ∷ m) rest ∙ append_assoc a c (EndElement ∷ (m ++ rest)))
    )

pub root_ahead : (name number : ℕ) (inside : Inside) → Document number ∷ one_onto name inside [] ≡ document_events number (root_of name inside)
root_ahead name number (Of v) = refl
root_ahead name number (Holding these children) =
    ap (λ (l : List Event). Document number ∷ l) (trees_ahead (complex name these children none) [] ∙ append_nil_of (events_of (complex name these children none)))
  where
    append_nil_of : (l : List Event) → l ++ [] ≡ l
    append_nil_of [] = refl
    append_nil_of (x ∷ l) = ap (λ (r : List Event). x ∷ r) (append_nil_of l)
