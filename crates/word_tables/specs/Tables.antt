-- Own: how a value stands in an element, as a table. What is read of an element and what is written for a value are both said by it.
use Rattle.std.specs.Prelude.{ℕ, ◌==◌, ◌&&◌, ◌||◌, not, ℤ, pos, Bool, true, false, List, [], ◌∷◌, map, Option, Some, None, ◌⊎◌}
use Rattle.std.proofs.Common.{inl, inr}
use Rattle.std.specs.Option.{option_map}
use Rattle.exi_documents.specs.Trees.{Value, Truth, Ordinal, Number, Bytes, Text, Trees, none}
use Rattle.tree_words.specs.Contents.{Inside, Of, Holding, element, perhaps_trees, each_trees}
use Rattle.tree_words.specs.Leaves.{truth_in, ordinal_in, number_in, natural_in, bytes_in, text_in}
use Rattle.tree_words.specs.Attributes.{given_in, attribute_named}
use Rattle.tree_words.specs.Named.{Children, children, head}

-- the value of an element of a simple kind
pub data Leaf : Type 0 → Type 1 where
  flag : Leaf Bool
  ordinal : Leaf ℕ
  natural : Leaf ℕ
  integer : Leaf ℤ
  bytes : Leaf (List ℕ)
  text : Leaf (List ℕ)

-- what is inside of an element, or its children, or its attributes, a row for each name
pub data Sort : Type 0 where
  inside : Sort
  rows : Sort
  attribute_rows : Sort

-- where a value X stands. Inside of an element: as the value of a simple kind, in its children, or in its attributes and its children.
-- Among children: nowhere; in those of a name and in others behind them, where that name is there once, perhaps, or from so many to so
-- many times, or where one of two names is there; or in others alone, behind one that is always written alike and says nothing. Among
-- attributes: nowhere, or in that of a name, which is always there, and in others behind it. Anywhere: as what some other value means, and
-- the value that is written for it
pub data Table : Sort → Type 0 → Type 1 where
  simple : {X : Type 0} → Leaf X → ℕ → Table inside X
  holding : {X : Type 0} → Table rows X → Table inside X
  attributed : {X Y : Type 0} → Table attribute_rows X → Table rows Y → Table inside (X × Y)
  meaning : {s : Sort} {X Y : Type 0} → (X → Y) → (Y → X) → Table s X → Table s Y
  nothing : Table rows (Unit {0})
  once : {X Y : Type 0} → ℕ → Table inside X → Table rows Y → Table rows (X × Y)
  perhaps : {X Y : Type 0} → ℕ → Table inside X → Table rows Y → Table rows (Option X × Y)
  each : {X Y : Type 0} → ℕ → ℕ → ℕ → Table inside X → Table rows Y → Table rows (List X × Y)
  either : {X Y Z : Type 0} → ℕ → Table inside X → ℕ → Table inside Y → Table rows Z → Table rows ((X ⊎ Y) × Z)
  always : {X Y : Type 0} → ℕ → Table inside X → X → Table rows Y → Table rows Y
  no_attributes : Table attribute_rows (Unit {0})
  attribute_row : {X Y : Type 0} → ℕ → Leaf X → ℕ → Table attribute_rows Y → Table attribute_rows (X × Y)

abbrev pub Place : Sort → Type 0
Place inside = Inside
Place rows = Trees
Place attribute_rows = List (ℕ × Value)

-- ---- what is read

abbrev pub leaf_in : {X : Type 0} → Leaf X → Inside → X
leaf_in flag own = truth_in own
leaf_in ordinal own = ordinal_in own
leaf_in natural own = natural_in own
leaf_in integer own = number_in own
leaf_in bytes own = bytes_in own
leaf_in text own = text_in own

-- an element that isn't there counts as an empty one
abbrev pub or_empty : Option Inside → Inside
or_empty None = Holding [] none
or_empty (Some own) = own

-- and so does an attribute
abbrev pub value_or_empty : Option Value → Inside
value_or_empty None = Holding [] none
value_or_empty (Some value) = Of value

-- the first of two, if it is there
abbrev pub first_or : {X Y : Type 0} → (Inside → X) → Y → Option Inside → X ⊎ Y
first_or f y None = inr y
first_or f y (Some own) = inl (f own)

-- what an element contains, or what its children of each name do, or its attributes
abbrev pub Seen : Sort → Type 0
Seen inside = Inside
Seen rows = Children
Seen attribute_rows = List (ℕ × Value)

abbrev pub read : {s : Sort} {X : Type 0} → Table s X → Seen s → X
read (simple leaf kind) own = leaf_in leaf own
read (holding table) own = read table (children own)
read (attributed given table) own = (read given (given_in own), read table (children own))
read (meaning of from table) seen = of (read table seen)
read nothing own = tt
read (once name table others) own = (read table (or_empty (head (own name))), read others own)
read (perhaps name table others) own = (option_map (λ i. read table i) (head (own name)), read others own)
read (each name least most table others) own = (map (λ i. read table i) (own name), read others own)
read (either name table other second others) own =
    (first_or (λ i. read table i) (read second (or_empty (head (own other)))) (head (own name)), read others own)
read (always name table value others) own = read others own
read no_attributes own = tt
read (attribute_row name leaf kind others) own = (leaf_in leaf (value_or_empty (attribute_named name own)), read others own)

-- ---- what is written

abbrev pub value_of : {X : Type 0} → Leaf X → X → Value
value_of flag x = Truth x
value_of ordinal x = Ordinal x
value_of natural x = Number (pos x)
value_of integer x = Number x
value_of bytes x = Bytes x
value_of text x = Text x

-- of two elements the one that is there, with its name
abbrev pub picked : {X Y : Type 0} → ℕ → (X → Inside) → ℕ → (Y → Inside) → X ⊎ Y → ℕ × Inside
picked name f other g (inl x) = (name, f x)
picked name f other g (inr y) = (other, g y)

abbrev pub placed : ℕ × Inside → Trees → Trees
placed one more = element one.0 one.1 more

abbrev pub written : {s : Sort} {X : Type 0} → Table s X → X → Place s
written (simple leaf kind) x = Of (value_of leaf x)
written (holding table) x = Holding [] (written table x)
written (attributed given table) x = Holding (written given x.0) (written table x.1)
written (meaning of from table) y = written table (from y)
written nothing x = none
written (once name table others) x = element name (written table x.0) (written others x.1)
written (perhaps name table others) x = perhaps_trees name (option_map (λ y. written table y) x.0) (written others x.1)
written (each name least most table others) x = each_trees name (map (λ y. written table y) x.0) (written others x.1)
written (either name table other second others) x =
    placed (picked name (λ y. written table y) other (λ y. written second y) x.0) (written others x.1)
written (always name table value others) x = element name (written table value) (written others x)
written no_attributes x = []
written (attribute_row name leaf kind others) x = (name, value_of leaf x.0) ∷ written others x.1

-- ---- what is read of what was written: the value itself, but for what its meanings drop

abbrev pub of_either : {X Y : Type 0} → (X → X) → (Y → Y) → X ⊎ Y → X ⊎ Y
of_either f g (inl x) = inl (f x)
of_either f g (inr y) = inr (g y)

abbrev pub back : {s : Sort} {X : Type 0} → Table s X → X → X
back (simple leaf kind) x = x
back (holding table) x = back table x
back (attributed given table) x = (back given x.0, back table x.1)
back (meaning of from table) y = of (back table (from y))
back nothing x = x
back (once name table others) x = (back table x.0, back others x.1)
back (perhaps name table others) x = (option_map (λ y. back table y) x.0, back others x.1)
back (each name least most table others) x = (map (λ y. back table y) x.0, back others x.1)
back (either name table other second others) x = (of_either (λ y. back table y) (λ y. back second y) x.0, back others x.1)
back (always name table value others) x = back others x
back no_attributes x = x
back (attribute_row name leaf kind others) x = (x.0, back others x.1)

-- ---- a test: of the rows of an element no two have one name, and of its attributes neither

abbrev pub names : {s : Sort} {X : Type 0} → Table s X → List ℕ
names (simple leaf kind) = []
names (holding table) = []
names (attributed given table) = []
names (meaning of from table) = names table
names nothing = []
names (once name table others) = name ∷ names others
names (perhaps name table others) = name ∷ names others
names (each name least most table others) = name ∷ names others
names (either name table other second others) = name ∷ other ∷ names others
names (always name table value others) = name ∷ names others
names no_attributes = []
names (attribute_row name leaf kind others) = name ∷ names others

abbrev pub has : List ℕ → ℕ → Bool
has [] name = false
has (own ∷ more) name = own == name || has more name

abbrev pub is_apart : {s : Sort} {X : Type 0} → Table s X → Bool
is_apart (simple leaf kind) = true
is_apart (holding table) = is_apart table
is_apart (attributed given table) = is_apart given && is_apart table
is_apart (meaning of from table) = is_apart table
is_apart nothing = true
is_apart (once name table others) = is_apart table && not (has (names others) name) && is_apart others
is_apart (perhaps name table others) = is_apart table && not (has (names others) name) && is_apart others
is_apart (each name least most table others) = is_apart table && not (has (names others) name) && is_apart others
is_apart (either name table other second others) =
    is_apart table && is_apart second && (not (has (other ∷ names others) name) && not (has (names others) other)) && is_apart others
is_apart (always name table value others) = not (has (names others) name) && is_apart others
is_apart no_attributes = true
is_apart (attribute_row name leaf kind others) = not (has (names others) name) && is_apart others

infixr 4 ◌▷◌
-- a row in front of others
abbrev pub ◌▷◌ : {X Y : Type 0} → (Table rows X → Table rows Y) → Table rows X → Table rows Y
row ▷ others = row others
