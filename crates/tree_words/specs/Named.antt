-- Own: what stands where in a tree, by the names of its elements.
use Rattle.std.specs.Prelude.{ℕ, ◌==◌, Bool, true, false, List, [], ◌∷◌, Option, Some, None}
use Rattle.exi_documents.specs.Trees.{Trees, none, simple, complex, Tree, Simple, Complex}
use Rattle.message_parts.specs.Contents.{Inside, Of, Holding}

-- what the children of an element contain: of each name all of that name, in order
abbrev pub Children : Type 0
Children = ℕ → List Inside

-- one more, if it has the name
abbrev pub kept : Bool → Inside → List Inside → List Inside
kept true inside more = inside ∷ more
kept false inside more = more

-- what those of this name contain
abbrev pub named : ℕ → Trees → List Inside
named name none = []
named name (simple own value more) = kept (own == name) (Of value) (named name more)
named name (complex own attributes children more) = kept (own == name) (Holding attributes children) (named name more)

-- the first element: its name, and what it contains
abbrev pub first : Trees → Option (ℕ × Inside)
first none = None
first (simple name value more) = Some (name, Of value)
first (complex name attributes children more) = Some (name, Holding attributes children)

-- the children, of which a value has none
abbrev pub trees_in : Inside → Trees
trees_in (Of value) = none
trees_in (Holding attributes children) = children

abbrev pub children : Inside → Children
children inside = λ name. named name (trees_in inside)

-- the children of the root
abbrev pub root_children : Tree → Children
root_children (Simple name value) = λ own. []
root_children (Complex name attributes children) = λ own. named own children

-- the first of these
abbrev pub head : List Inside → Option Inside
head [] = None
head (inside ∷ more) = Some inside

-- the children of the first of these
abbrev pub within : List Inside → Children
within [] = λ name. []
within (inside ∷ more) = children inside

-- the first child of the first of these
abbrev pub first_in : List Inside → Option (ℕ × Inside)
first_in [] = None
first_in (inside ∷ more) = first (trees_in inside)
