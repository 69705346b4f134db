-- What is read of what was written is what the table says it is.
use Rattle.std.proofs.Common.{◌≡◌, ℕ, ◌==◌, ◌&&◌, ◌||◌, not, Bool, true, false, List, [], ◌∷◌, map, Option, Some, None, ◌⊎◌, inl, inr, refl, ◌∙◌, ap, ap₂}
use Rattle.std.specs.Option.{option_map}
use Rattle.exi_schema.proofs.Conditions.{and-l, and-r}
use Rattle.exi_documents.specs.Trees.{Value, Trees}
use Rattle.tree_words.specs.Contents.{Inside, Of, Holding, element, perhaps_trees, each_trees}
use Rattle.tree_words.proofs.Distinct.{same_number, number_is}
use Rattle.tree_words.specs.Attributes.{value_or, attribute_named}
use Rattle.tree_words.specs.Named.{Children, kept, named, head}
use Rattle.word_tables.specs.Tables.{Leaf, flag, ordinal, natural, integer, bytes, text, Sort, inside, rows, attribute_rows, Table, simple, holding, attributed, meaning, nothing, once, perhaps, each, either, always, no_attributes, attribute_row, first_or, picked, placed, of_either, Place, leaf_in, or_empty, value_or_empty, read, value_of, written, back, names, has, is_apart}

-- ---- the rows of a name

element_named : (name own : ℕ) (i : Inside) (more : Trees) → named name (element own i more) ≡ kept (own == name) i (named name more)
element_named name own (Of value) more = refl
element_named name own (Holding attributes trees) more = refl

-- behind elements of another name
kept_other : (b : Bool) (i : Inside) (more : List Inside) → b ≡ false → kept b i more ≡ more
kept_other false i more h = refl
kept_other true i more h = cc

kept_own : (b : Bool) (i : Inside) (more : List Inside) → b ≡ true → kept b i more ≡ i ∷ more
kept_own true i more h = refl
kept_own false i more h = cc

one_other : (name own : ℕ) (i : Inside) (more : Trees) → (own == name) ≡ false → named name (element own i more) ≡ named name more
one_other name own i more h = element_named name own i more ∙ kept_other (own == name) i (named name more) h

perhaps_other : (name own : ℕ) (o : Option Inside) (more : Trees) → (own == name) ≡ false → named name (perhaps_trees own o more) ≡ named name more
perhaps_other name own None more h = refl
perhaps_other name own (Some i) more h = one_other name own i more h

each_other : (name own : ℕ) (is : List Inside) (more : Trees) → (own == name) ≡ false → named name (each_trees own is more) ≡ named name more
each_other name own [] more h = refl
each_other name own (i ∷ is) more h = one_other name own i (each_trees own is more) h ∙ each_other name own is more h

abbrev listed : Option Inside → List Inside
listed None = []
listed (Some i) = i ∷ []

one_own : (name : ℕ) (i : Inside) (more : Trees) → named name more ≡ [] → named name (element name i more) ≡ i ∷ []
one_own name i more h = element_named name name i more ∙ kept_own (name == name) i (named name more) (same_number name) ∙ ap (λ is. i ∷ is) h

perhaps_own : (name : ℕ) (o : Option Inside) (more : Trees) → named name more ≡ [] → named name (perhaps_trees name o more) ≡ listed o
perhaps_own name None more h = h
perhaps_own name (Some i) more h = one_own name i more h

each_own : (name : ℕ) (is : List Inside) (more : Trees) → named name more ≡ [] → named name (each_trees name is more) ≡ is
each_own name [] more h = h
each_own name (i ∷ is) more h =
    element_named name name i (each_trees name is more) ∙ kept_own (name == name) i (named name (each_trees name is more)) (same_number name)
    ∙ ap (λ js. i ∷ js) (each_own name is more h)

-- ---- a table writes no element of another name

abbrev Absent : (s : Sort) → Place s → List ℕ → Type 0
Absent inside place own = Unit {0}
Absent rows trees own = (name : ℕ) → has own name ≡ false → named name trees ≡ []
Absent attribute_rows given own = Unit {0}

or-l : (a b : Bool) → (a || b) ≡ false → a ≡ false
or-l true b h = cc
or-l false b h = refl

or-r : (a b : Bool) → (a || b) ≡ false → b ≡ false
or-r true b h = absurd cc
or-r false b h = h

either_other : {X Y : Type 0} (name own other : ℕ) (f : X → Inside) (g : Y → Inside) (c : X ⊎ Y) (more : Trees) → (own == name) ≡ false → (other == name) ≡ false
    → named name (placed (picked own f other g c) more) ≡ named name more
either_other name own other f g (inl x) more h k = one_other name own (f x) more h
either_other name own other f g (inr y) more h k = one_other name other (g y) more k

absent : {s : Sort} {X : Type 0} (t : Table s X) (x : X) → Absent s (written t x) (names t)
absent (simple leaf kind) x = tt
absent (holding t) x = tt
absent (attributed given t) x = tt
absent (meaning {s} of from t) y = absent t (from y)
absent nothing x = λ name h. refl
absent (once own t others) x = λ name h.
    one_other name own (written t x.0) (written others x.1) (or-l (own == name) (has (names others) name) h)
    ∙ absent others x.1 name (or-r (own == name) (has (names others) name) h)
absent (perhaps own t others) x = λ name h.
    perhaps_other name own (option_map (λ y. written t y) x.0) (written others x.1) (or-l (own == name) (has (names others) name) h)
    ∙ absent others x.1 name (or-r (own == name) (has (names others) name) h)
absent (each own least most t others) x = λ name h.
    each_other name own (map (λ y. written t y) x.0) (written others x.1) (or-l (own == name) (has (names others) name) h)
    ∙ absent others x.1 name (or-r (own == name) (has (names others) name) h)
absent (either own t other u others) x = λ name h.
    let second = or-r (own == name) (other == name || has (names others) name) h in
    either_other name own other (λ y. written t y) (λ y. written u y) x.0 (written others x.1) (or-l (own == name) (other == name || has (names others) name) h)
    (or-l (other == name) (has (names others) name) second)
    ∙ absent others x.1 name (or-r (other == name) (has (names others) name) second)
absent (always own t value others) x = λ name h.
    one_other name own (written t value) (written others x) (or-l (own == name) (has (names others) name) h)
    ∙ absent others x name (or-r (own == name) (has (names others) name) h)
absent no_attributes x = tt
absent (attribute_row own leaf kind others) x = tt

-- ---- the attribute of a name

own_value : (b : Bool) (value : Value) (more : Option Value) → b ≡ true → value_or b value more ≡ Some value
own_value true value more h = refl
own_value false value more h = cc

other_value : (b : Bool) (value : Value) (more : Option Value) → b ≡ false → value_or b value more ≡ more
other_value false value more h = refl
other_value true value more h = cc

-- ---- what is read of children and attributes that are, of each name of a table, those that it writes

abbrev Agrees : List ℕ → Children → Trees → Type 0
Agrees own seen whole = (name : ℕ) → has own name ≡ true → seen name ≡ named name whole

abbrev AgreeOn : List ℕ → List (ℕ × Value) → List (ℕ × Value) → Type 0
AgreeOn own seen whole = (name : ℕ) → has own name ≡ true → attribute_named name seen ≡ attribute_named name whole

abbrev Reads : (s : Sort) {X : Type 0} → Table s X → X → Type 0
Reads inside t x = read t (written t x) ≡ back t x
Reads rows t x = (seen : Children) → Agrees (names t) seen (written t x) → read t seen ≡ back t x
Reads attribute_rows t x = (seen : List (ℕ × Value)) → AgreeOn (names t) seen (written t x) → read t seen ≡ back t x

first_of : (name : ℕ) (own : List ℕ) (seen : Children) (whole : Trees) → Agrees (name ∷ own) seen whole → seen name ≡ named name whole
first_of name own seen whole agrees = agrees name (ap (λ b. b || has own name) (same_number name))

or_right : (a b : Bool) → b ≡ true → (a || b) ≡ true
or_right true b h = refl
or_right false b h = h

is_not : (b : Bool) → not b ≡ true → b ≡ false
is_not false h = refl
is_not true h = absurd cc

not_named : (b : Bool) (name n : ℕ) (own : List ℕ) → (name == n) ≡ b → has own n ≡ true → has own name ≡ false → b ≡ false
not_named false name n own e h g = refl
not_named true name n own e h g = let same : has own name ≡ has own n = ap (has own) (number_is name n e) in absurd cc

later : (name : ℕ) (own : List ℕ) (seen : Children) (whole rest : Trees) → not (has own name) ≡ true
    → ((n : ℕ) → (name == n) ≡ false → named n whole ≡ named n rest) → Agrees (name ∷ own) seen whole → Agrees own seen rest
later name own seen whole rest apart others agrees = λ n h.
    agrees n (or_right (name == n) (has own n) h)
    ∙ others n (not_named (name == n) name n own refl h (is_not (has own name) apart))

leaf_back : {X : Type 0} (leaf : Leaf X) (x : X) → leaf_in leaf (Of (value_of leaf x)) ≡ x
leaf_back flag x = refl
leaf_back ordinal x = refl
leaf_back natural x = refl
leaf_back integer x = refl
leaf_back bytes x = refl
leaf_back text x = refl

meant : (s : Sort) {X Y : Type 0} (of : X → Y) (from : Y → X) (t : Table s X) (y : Y) → Reads s t (from y) → Reads s (meaning of from t) y
meant inside of from t y reads = ap of reads
meant rows of from t y reads = λ seen agrees. ap of (reads seen agrees)
meant attribute_rows of from t y reads = λ seen agrees. ap of (reads seen agrees)

if_back : {X : Type 0} (t : Table inside X) → ((x : X) → Reads inside t x) → (o : Option X)
    → option_map (λ own. read t own) (head (listed (option_map (λ y. written t y) o))) ≡ option_map (λ y. back t y) o
if_back t reads None = refl
if_back t reads (Some x) = ap (λ y. Some y) (reads x)

each_back : {X : Type 0} (t : Table inside X) → ((x : X) → Reads inside t x) → (xs : List X)
    → map (λ own. read t own) (map (λ y. written t y) xs) ≡ map (λ y. back t y) xs
each_back t reads [] = refl
each_back t reads (x ∷ xs) = ap₂ (λ y ys. y ∷ ys) (reads x) (each_back t reads xs)

-- the parts of the test of a row
apart-1 : (a b c : Bool) → (a && b && c) ≡ true → a ≡ true
apart-1 a b c h = and-l a b (and-l (a && b) c h)

apart-2 : (a b c : Bool) → (a && b && c) ≡ true → b ≡ true
apart-2 a b c h = and-r a b (and-l (a && b) c h)

apart-3 : (a b c : Bool) → (a && b && c) ≡ true → c ≡ true
apart-3 a b c h = and-r (a && b) c h

paired : {X Y : Type 0} {a b : X} {c d : Y} → a ≡ b → c ≡ d → ◌≡◌ {A = X × Y} (a, c) (b, d)
paired p q = ap₂ (λ x y. (x, y)) p q

-- of two elements the one that was written is found, and the first isn't where the second was
either_back : {X Y : Type 0} (name other : ℕ) (t : Table inside X) (u : Table inside Y) (own : List ℕ) (c : X ⊎ Y) (seen : Children) (rest : Trees)
    → ((x : X) → Reads inside t x) → ((y : Y) → Reads inside u y)
    → Agrees (name ∷ other ∷ own) seen (placed (picked name (λ y. written t y) other (λ y. written u y) c) rest)
    → not (has (other ∷ own) name) ≡ true → not (has own other) ≡ true → ((n : ℕ) → has own n ≡ false → named n rest ≡ [])
    → first_or (λ i. read t i) (read u (or_empty (head (seen other)))) (head (seen name)) ≡ of_either (λ y. back t y) (λ y. back u y) c
either_back name other t u own (inl x) seen rest ts us agrees apart later gone =
    let here = is_not (has (other ∷ own) name) apart in
    let found : seen name ≡ written t x ∷ [] =
    first_of name (other ∷ own) seen (element name (written t x) rest) agrees
    ∙ one_own name (written t x) rest (gone name (or-r (other == name) (has own name) here)) in
    ap (λ is. first_or (λ i. read t i) (read u (or_empty (head (seen other)))) (head is)) found ∙ ap inl (ts x)
either_back name other t u own (inr y) seen rest ts us agrees apart later gone =
    let here = is_not (has (other ∷ own) name) apart in
    let none : seen name ≡ [] =
    first_of name (other ∷ own) seen (element other (written u y) rest) agrees
    ∙ one_other name other (written u y) rest (or-l (other == name) (has own name) here) ∙ gone name (or-r (other == name) (has own name) here) in
    let found : seen other ≡ written u y ∷ [] =
    agrees other (or_right (name == other) (other == other || has own other) (ap (λ b. b || has own other) (same_number other)))
    ∙ one_own other (written u y) rest (gone other (is_not (has own other) later)) in
    ap (λ is. first_or (λ i. read t i) (read u (or_empty (head (seen other)))) (head is)) none
    ∙ ap (λ is. inr (read u (or_empty (head is)))) found ∙ ap inr (us y)

reads : {s : Sort} {X : Type 0} (t : Table s X) → is_apart t ≡ true → (x : X) → Reads s t x
reads (simple leaf kind) h x = leaf_back leaf x
reads (holding t) h x = reads t h x (λ name. named name (written t x)) (λ name own. refl)
reads (attributed given t) h x =
    paired (reads given (and-l (is_apart given) (is_apart t) h) x.0 (written given x.0) (λ name own. refl))
    (reads t (and-r (is_apart given) (is_apart t) h) x.1 (λ name. named name (written t x.1)) (λ name own. refl))
reads (meaning {s} of from t) h y = meant s of from t y (reads t h (from y))
reads nothing h x = λ seen agrees. refl
reads (once name t others) h x = λ seen agrees.
    let rest = written others x.1 in
    let apart = apart-2 (is_apart t) (not (has (names others) name)) (is_apart others) h in
    let found : seen name ≡ written t x.0 ∷ [] =
    first_of name (names others) seen (element name (written t x.0) rest) agrees
    ∙ one_own name (written t x.0) rest (absent others x.1 name (is_not (has (names others) name) apart)) in
    paired (ap (λ is. read t (or_empty (head is))) found ∙ reads t (apart-1 (is_apart t) (not (has (names others) name)) (is_apart others) h) x.0)
    (reads others (apart-3 (is_apart t) (not (has (names others) name)) (is_apart others) h) x.1 seen
    (later name (names others) seen (element name (written t x.0) rest) rest apart (λ n e. one_other n name (written t x.0) rest e) agrees))
reads (perhaps name t others) h x = λ seen agrees.
    let rest = written others x.1 in
    let own = option_map (λ y. written t y) x.0 in
    let apart = apart-2 (is_apart t) (not (has (names others) name)) (is_apart others) h in
    let found : seen name ≡ listed own =
    first_of name (names others) seen (perhaps_trees name own rest) agrees
    ∙ perhaps_own name own rest (absent others x.1 name (is_not (has (names others) name) apart)) in
    paired (ap (λ is. option_map (λ i. read t i) (head is)) found
    ∙ if_back t (λ y. reads t (apart-1 (is_apart t) (not (has (names others) name)) (is_apart others) h) y) x.0)
    (reads others (apart-3 (is_apart t) (not (has (names others) name)) (is_apart others) h) x.1 seen
    (later name (names others) seen (perhaps_trees name own rest) rest apart (λ n e. perhaps_other n name own rest e) agrees))
reads (each name least most t others) h x = λ seen agrees.
    let rest = written others x.1 in
    let own = map (λ y. written t y) x.0 in
    let apart = apart-2 (is_apart t) (not (has (names others) name)) (is_apart others) h in
    let found : seen name ≡ own =
    first_of name (names others) seen (each_trees name own rest) agrees
    ∙ each_own name own rest (absent others x.1 name (is_not (has (names others) name) apart)) in
    paired (ap (λ is. map (λ i. read t i) is) found
    ∙ each_back t (λ y. reads t (apart-1 (is_apart t) (not (has (names others) name)) (is_apart others) h) y) x.0)
    (reads others (apart-3 (is_apart t) (not (has (names others) name)) (is_apart others) h) x.1 seen
    (later name (names others) seen (each_trees name own rest) rest apart (λ n e. each_other n name own rest e) agrees))
reads (either name t other u others) h x = λ seen agrees.
    let rest = written others x.1 in
    let first = not (has (other ∷ names others) name) in
    let second = not (has (names others) other) in
    let front = and-l (is_apart t && is_apart u && (first && second)) (is_apart others) h in
    let both = and-r (is_apart t && is_apart u) (first && second) front in
    let tables = and-l (is_apart t && is_apart u) (first && second) front in
    paired (either_back name other t u (names others) x.0 seen rest (λ y. reads t (and-l (is_apart t) (is_apart u) tables) y)
    (λ y. reads u (and-r (is_apart t) (is_apart u) tables) y) agrees (and-l first second both) (and-r first second both) (absent others x.1))
    (reads others (and-r (is_apart t && is_apart u && (first && second)) (is_apart others) h) x.1 seen
    (λ n e. agrees n (or_right (name == n) (other == n || has (names others) n) (or_right (other == n) (has (names others) n) e))
    ∙ either_other n name other (λ y. written t y) (λ y. written u y) x.0 rest
    (not_named (name == n) name n (names others) refl e (or-r (other == name) (has (names others) name) (is_not (has (other ∷ names others) name) (and-l first second both))))
    (not_named (other == n) other n (names others) refl e (is_not (has (names others) other) (and-r first second both)))))
reads (always name t value others) h x = λ seen agrees.
    let rest = written others x in
    reads others (and-r (not (has (names others) name)) (is_apart others) h) x seen
    (later name (names others) seen (element name (written t value) rest) rest
    (and-l (not (has (names others) name)) (is_apart others) h) (λ n e. one_other n name (written t value) rest e) agrees)
reads no_attributes h x = λ seen agrees. refl
reads (attribute_row name leaf kind others) h x = λ seen agrees.
    let apart = and-l (not (has (names others) name)) (is_apart others) h in
    let value = value_of leaf x.0 in
    let rest = written others x.1 in
    let found : attribute_named name seen ≡ Some value =
    agrees name (ap (λ b. b || has (names others) name) (same_number name)) ∙ own_value (name == name) value (attribute_named name rest) (same_number name) in
    paired (ap (λ o. leaf_in leaf (value_or_empty o)) found ∙ leaf_back leaf x.0)
    (reads others (and-r (not (has (names others) name)) (is_apart others) h) x.1 seen
    (λ n e. agrees n (or_right (name == n) (has (names others) n) e)
    ∙ other_value (name == n) value (attribute_named n rest) (not_named (name == n) name n (names others) refl e (is_not (has (names others) name) apart))))

-- what is read of the rows that were written
pub rows_back : {X : Type 0} (t : Table rows X) → is_apart t ≡ true → (x : X) → read t (λ name. named name (written t x)) ≡ back t x
rows_back t h x = reads t h x (λ name. named name (written t x)) (λ name own. refl)

pub inside_back : {X : Type 0} (t : Table inside X) → is_apart t ≡ true → (x : X) → read t (written t x) ≡ back t x
inside_back t h x = reads t h x
