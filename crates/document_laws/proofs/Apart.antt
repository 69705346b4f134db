-- The events of a tree are those of no other.
use Rattle.std.proofs.Common.{◌≡◌, ℕ, List, [], ◌∷◌, ◌++◌, refl, sym, ap, ap₂, ◌∙◌, append_assoc}
use Rattle.exi_documents.specs.Trees.{Value, Trees, none, simple, complex, Tree, Simple, Complex, alone, Event, Document, Start, Attribute, Content, EndElement, attribute_events, events_of, document_events}

abbrev Events : Type 0
Events = List Event

heads : (e f : Event) (x y : Events) → e ∷ x ≡ f ∷ y → (e ≡ f) × (x ≡ y)
heads e f x y h = (let one : e ≡ f = cc in one, let two : x ≡ y = cc in two)

-- what begins with children or an end begins with no attribute
no_attribute : (c : Trees) (name : ℕ) (value : Value) (p q : Events) → events_of c ++ (EndElement ∷ p) ≡ Attribute name value ∷ q → ⊥
no_attribute none name value p q h = cc
no_attribute (simple n v more) name value p q h = cc
no_attribute (complex n attributes children more) name value p q h = cc

-- and with no value
no_content : (c : Trees) (value : Value) (p q : Events) → events_of c ++ (EndElement ∷ p) ≡ Content value ∷ q → ⊥
no_content none value p q h = cc
no_content (simple n v more) value p q h = cc
no_content (complex n attributes children more) value p q h = cc

no_content_in : (attributes : List (ℕ × Value)) (c : Trees) (value : Value) (p q : Events) → attribute_events attributes ++ (events_of c ++ (EndElement ∷ p)) ≡ Content value ∷ q → ⊥
no_content_in [] c value p q h = no_content c value p q h
no_content_in (attribute ∷ attributes) c value p q h = cc

attributes_apart : (xs ys : List (ℕ × Value)) (c d : Trees) (p q : Events) → attribute_events xs ++ (events_of c ++ (EndElement ∷ p)) ≡ attribute_events ys ++ (events_of d ++ (EndElement ∷ q)) →
    (xs ≡ ys) × (events_of c ++ (EndElement ∷ p) ≡ events_of d ++ (EndElement ∷ q))
attributes_apart [] [] c d p q h = (refl, h)
attributes_apart [] (b ∷ ys) c d p q h = absurd (no_attribute c b.0 b.1 p (attribute_events ys ++ (events_of d ++ (EndElement ∷ q))) h)
attributes_apart (a ∷ xs) [] c d p q h = absurd (no_attribute d a.0 a.1 q (attribute_events xs ++ (events_of c ++ (EndElement ∷ p))) (sym h))
attributes_apart (a ∷ xs) (b ∷ ys) c d p q h =
    let both = heads (Attribute a.0 a.1) (Attribute b.0 b.1) (attribute_events xs ++ (events_of c ++ (EndElement ∷ p))) (attribute_events ys ++ (events_of d ++ (EndElement ∷ q))) h in
    let more = attributes_apart xs ys c d p q both.1 in
    let name : a.0 ≡ b.0 = (let e = both.0 in cc) in
    let value : a.1 ≡ b.1 = (let e = both.0 in cc) in
    let same : a ≡ b = ap₂ (λ (n : ℕ) (v : Value). (n, v)) name value in
    (ap₂ (λ (x : ℕ × Value) (l : List (ℕ × Value)). x ∷ l) same more.0, more.1)

-- a complex element's events, from its attributes on
grouped : (a c m : Events) (p : Events) → ((a ++ c) ++ (EndElement ∷ m)) ++ p ≡ a ++ (c ++ (EndElement ∷ (m ++ p)))
grouped a c m p = append_assoc (a ++ c) (EndElement ∷ m) p ∙ append_assoc a c (EndElement ∷ (m ++ p))

trees_apart : (t u : Trees) (p q : Events) → events_of t ++ (EndElement ∷ p) ≡ events_of u ++ (EndElement ∷ q) → (t ≡ u) × (p ≡ q)
trees_apart none none p q h = (refl, (heads EndElement EndElement p q h).1)
trees_apart none (simple m w more) p q h = let wrong = h in absurd cc
trees_apart none (complex m ys d more) p q h = let wrong = h in absurd cc
trees_apart (simple n v more) none p q h = let wrong = h in absurd cc
trees_apart (complex n xs c more) none p q h = let wrong = h in absurd cc
trees_apart (simple n v more) (simple m w others) p q h =
    let x = events_of more ++ (EndElement ∷ p) in
    let y = events_of others ++ (EndElement ∷ q) in
    let one = heads (Start n) (Start m) (Content v ∷ EndElement ∷ x) (Content w ∷ EndElement ∷ y) h in
    let two = heads (Content v) (Content w) (EndElement ∷ x) (EndElement ∷ y) one.1 in
    let three = heads EndElement EndElement x y two.1 in
    let later = trees_apart more others p q three.1 in
    let name : n ≡ m = (let e = one.0 in cc) in
    let value : v ≡ w = (let e = two.0 in cc) in
    (ap₂ (λ (k : ℕ) (z : Value). simple k z more) name value ∙ ap (λ (z : Trees). simple m w z) later.0, later.1)
trees_apart (simple n v more) (complex m ys d others) p q h =
    let x = events_of more ++ (EndElement ∷ p) in
    let one = heads (Start n) (Start m) (Content v ∷ EndElement ∷ x) (((attribute_events ys ++ events_of d) ++ (EndElement ∷ events_of others)) ++ (EndElement ∷ q)) h in
    absurd (no_content_in ys d v (events_of others ++ (EndElement ∷ q)) (EndElement ∷ x) (sym (one.1 ∙ grouped (attribute_events ys) (events_of d) (events_of others) (EndElement ∷ q))))
trees_apart (complex n xs c more) (simple m w others) p q h =
    let y = events_of others ++ (EndElement ∷ q) in
    let one = heads (Start n) (Start m) (((attribute_events xs ++ events_of c) ++ (EndElement ∷ events_of more)) ++ (EndElement ∷ p)) (Content w ∷ EndElement ∷ y) h in
    absurd (no_content_in xs c w (events_of more ++ (EndElement ∷ p)) (EndElement ∷ y) (sym (grouped (attribute_events xs) (events_of c) (events_of more) (EndElement ∷ p)) ∙ one.1))
trees_apart (complex n xs c more) (complex m ys d others) p q h =
    let x = events_of more ++ (EndElement ∷ p) in
    let y = events_of others ++ (EndElement ∷ q) in
    let one = heads (Start n) (Start m) (((attribute_events xs ++ events_of c) ++ (EndElement ∷ events_of more)) ++ (EndElement ∷ p)) (((attribute_events ys ++ events_of d) ++ (EndElement ∷ events_of others)) ++ (EndElement ∷ q)) h in
    let whole : attribute_events xs ++ (events_of c ++ (EndElement ∷ x)) ≡ attribute_events ys ++ (events_of d ++ (EndElement ∷ y)) =
    sym (grouped (attribute_events xs) (events_of c) (events_of more) (EndElement ∷ p)) ∙ one.1 ∙ grouped (attribute_events ys) (events_of d) (events_of others) (EndElement ∷ q) in
    let front = attributes_apart xs ys c d x y whole in
    let inside = trees_apart c d x y front.1 in
    let later = trees_apart more others p q inside.1 in
    let name : n ≡ m = (let e = one.0 in cc) in (
      ap₂ (λ (k : ℕ) (l : List (ℕ × Value)). complex k l c more) name front.0 ∙ ap₂ (λ (i z : Trees). complex m ys i z) inside.0 later.0,
      later.1,
    )

alone_apart : (t u : Tree) → alone t ≡ alone u → t ≡ u
alone_apart (Simple n v) (Simple m w) h =
    let name : n ≡ m = (let e : simple n v none ≡ simple m w none = h in cc) in
    let value : v ≡ w = (let e : simple n v none ≡ simple m w none = h in cc) in
    ap₂ (λ (k : ℕ) (z : Value). Simple k z) name value
alone_apart (Simple n v) (Complex m ys d) h = let wrong : simple n v none ≡ complex m ys d none = h in absurd cc
alone_apart (Complex n xs c) (Simple m w) h = let wrong : complex n xs c none ≡ simple m w none = h in absurd cc
alone_apart (Complex n xs c) (Complex m ys d) h =
    let e : complex n xs c none ≡ complex m ys d none = h in
    let name : n ≡ m = cc in
    let attributes : xs ≡ ys = cc in
    let children : c ≡ d = cc in
    ap₂ (λ (k : ℕ) (l : List (ℕ × Value)). Complex k l c) name attributes ∙ ap (λ (z : Trees). Complex m ys z) children

-- the events of a document are those of no other
pub documents_apart : (n m : ℕ) (t u : Tree) → document_events n t ≡ document_events m u → (n ≡ m) × (t ≡ u)
documents_apart n m t u h =
    let both = heads (Document n) (Document m) (events_of (alone t)) (events_of (alone u)) h in
    let number : n ≡ m = (let e = both.0 in cc) in
    let trees = trees_apart (alone t) (alone u) [] [] (ap (λ (l : Events). l ++ (EndElement ∷ [])) both.1) in
    (number, alone_apart t u trees.0)
