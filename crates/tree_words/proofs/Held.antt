-- What the parts of an element say of its children, name by name.
use Rattle.std.proofs.Common.{◌≡◌, ℕ, ◌==◌, Bool, true, false, List, [], ◌∷◌, ◌++◌, Option, Some, None, refl, ◌∙◌, ap}
use mathlib.Core.Path.{fun_ext}
use Rattle.exi_documents.specs.Trees.{Trees}
use Rattle.message_parts.specs.Contents.{Inside, Of, Holding, Given, Part, one, perhaps, each, perhaps_one, element, perhaps_trees, each_trees, choice_trees, trees_of, holding, holding_with}
use Rattle.tree_words.specs.Named.{Children, kept, named, first, children}

abbrev pub kept_if : Bool → Option Inside → List Inside → List Inside
kept_if false inside more = more
kept_if true None more = more
kept_if true (Some inside) more = inside ∷ more

abbrev pub kept_each : Bool → List Inside → List Inside → List Inside
kept_each false insides more = more
kept_each true insides more = insides ++ more

abbrev pub kept_choice : ℕ → Option (ℕ × Inside) → List Inside → List Inside
kept_choice name None more = more
kept_choice name (Some choice) more = kept (choice.0 == name) choice.1 more

-- of these parts those of a name
abbrev pub held : List Part → Children
held [] name = []
held (one own inside ∷ parts) name = kept (own == name) inside (held parts name)
held (perhaps own inside ∷ parts) name = kept_if (own == name) inside (held parts name)
held (each own insides ∷ parts) name = kept_each (own == name) insides (held parts name)
held (perhaps_one choice ∷ parts) name = kept_choice name choice (held parts name)

-- ---- one after the other

element_named : (name own : ℕ) (inside : Inside) (more : Trees)
    → named name (element own inside more) ≡ kept (own == name) inside (named name more)
element_named name own (Of value) more = refl
element_named name own (Holding attributes trees) more = refl

kept_none : (is : Bool) (more : List Inside) → more ≡ kept_if is None more
kept_none true more = refl
kept_none false more = refl

kept_some : (is : Bool) (inside : Inside) (more : List Inside) → kept is inside more ≡ kept_if is (Some inside) more
kept_some true inside more = refl
kept_some false inside more = refl

perhaps_named : (name own : ℕ) (inside : Option Inside) (more : Trees)
    → named name (perhaps_trees own inside more) ≡ kept_if (own == name) inside (named name more)
perhaps_named name own None more = kept_none (own == name) (named name more)
perhaps_named name own (Some inside) more = element_named name own inside more ∙ kept_some (own == name) inside (named name more)

kept_no_more : (is : Bool) (more : List Inside) → more ≡ kept_each is [] more
kept_no_more true more = refl
kept_no_more false more = refl

kept_one_more : (is : Bool) (inside : Inside) (insides more : List Inside)
    → kept is inside (kept_each is insides more) ≡ kept_each is (inside ∷ insides) more
kept_one_more true inside insides more = refl
kept_one_more false inside insides more = refl

each_named : (name own : ℕ) (insides : List Inside) (more : Trees)
    → named name (each_trees own insides more) ≡ kept_each (own == name) insides (named name more)
each_named name own [] more = kept_no_more (own == name) (named name more)
each_named name own (inside ∷ insides) more =
    element_named name own inside (each_trees own insides more)
    ∙ ap (kept (own == name) inside) (each_named name own insides more)
    ∙ kept_one_more (own == name) inside insides (named name more)

choice_named : (name : ℕ) (choice : Option (ℕ × Inside)) (more : Trees)
    → named name (choice_trees choice more) ≡ kept_choice name choice (named name more)
choice_named name None more = refl
choice_named name (Some choice) more = element_named name choice.0 choice.1 more

parts_named : (name : ℕ) (parts : List Part) → named name (trees_of parts) ≡ held parts name
parts_named name [] = refl
parts_named name (one own inside ∷ parts) =
    element_named name own inside (trees_of parts) ∙ ap (kept (own == name) inside) (parts_named name parts)
parts_named name (perhaps own inside ∷ parts) =
    perhaps_named name own inside (trees_of parts) ∙ ap (kept_if (own == name) inside) (parts_named name parts)
parts_named name (each own insides ∷ parts) =
    each_named name own insides (trees_of parts) ∙ ap (kept_each (own == name) insides) (parts_named name parts)
parts_named name (perhaps_one choice ∷ parts) =
    choice_named name choice (trees_of parts) ∙ ap (kept_choice name choice) (parts_named name parts)

-- the children of an element of these parts
abbrev pub of_parts : List Part → Children
of_parts parts = children (holding parts)

-- they are what the parts say
pub children_held : (attributes : List Given) (parts : List Part) → children (holding_with attributes parts) ≡ held parts
children_held attributes parts = fun_ext (λ name. parts_named name parts)

-- the first of them is that of this name
pub first_is : (own : ℕ) (inside : Inside) (more : Trees) → first (element own inside more) ≡ Some (own, inside)
first_is own (Of value) more = refl
first_is own (Holding attributes trees) more = refl

-- a function of the children
pub by_parts : {X : Type 0} (f : Children → X) (parts : List Part) → f (of_parts parts) ≡ f (held parts)
by_parts f parts = ap f (children_held [] parts)
