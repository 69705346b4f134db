-- The weight of an element is the sum of those of its parts.
use Rattle.std.proofs.Common.{◌≡◌, ℕ, ◌+◌, ◌*◌, ◌≤◌, List, [], ◌∷◌, length, map, Option, Some, None, refl, arith}
use Rattle.exi_documents.specs.Trees.{Trees}
use Rattle.message_parts.specs.Contents.{Inside, Of, Holding, Given, given, perhaps_given, Part, one, perhaps, each, perhaps_one, mapped, element, root_of, attributes_of, each_trees, trees_of, holding_with}
use Rattle.document_sizes.specs.Sizes.{attributes_weight, trees_weight, tree_weight, inside_weight, given_weight, element_weight, perhaps_weight, each_weight, parts_weight}

module _ (w : ℕ) where
  attributes_sum : (gs : List Given) → attributes_weight w (attributes_of gs) ≡ given_weight w gs
  attributes_sum [] = refl
  attributes_sum (given name value ∷ gs) = omega (arith, attributes_sum gs)
  attributes_sum (perhaps_given name None ∷ gs) = omega (arith, attributes_sum gs)
  attributes_sum (perhaps_given name (Some value) ∷ gs) = omega (arith, attributes_sum gs)

  element_sum : (name : ℕ) (inside : Inside) (more : Trees) → trees_weight w (element name inside more) ≡ element_weight w inside + trees_weight w more
  element_sum name (Of value) more = omega arith
  element_sum name (Holding attributes children) more = omega arith

  each_sum : (name : ℕ) (insides : List Inside) (more : Trees) → trees_weight w (each_trees name insides more) ≡ each_weight w insides + trees_weight w more
  each_sum name [] more = omega arith
  each_sum name (inside ∷ insides) more = omega (arith, element_sum name inside (each_trees name insides more), each_sum name insides more)

  trees_sum : (parts : List Part) → trees_weight w (trees_of parts) ≡ parts_weight w parts
  trees_sum [] = refl
  trees_sum (one name inside ∷ parts) = omega (arith, element_sum name inside (trees_of parts), trees_sum parts)
  trees_sum (perhaps name None ∷ parts) = omega (arith, trees_sum parts)
  trees_sum (perhaps name (Some inside) ∷ parts) = omega (arith, element_sum name inside (trees_of parts), trees_sum parts)
  trees_sum (each name insides ∷ parts) = omega (arith, each_sum name insides (trees_of parts), trees_sum parts)
  trees_sum (perhaps_one None ∷ parts) = omega (arith, trees_sum parts)
  trees_sum (perhaps_one (Some chosen) ∷ parts) = omega (arith, element_sum chosen.0 chosen.1 (trees_of parts), trees_sum parts)

  pub holding_sum : (gs : List Given) (parts : List Part) → inside_weight w (holding_with gs parts) ≡ given_weight w gs + parts_weight w parts
  holding_sum gs parts = omega (arith, attributes_sum gs, trees_sum parts)

  pub plain_sum : (parts : List Part) → inside_weight w (holding_with [] parts) ≡ parts_weight w parts
  plain_sum parts = omega (arith, trees_sum parts)

  pub root_sum : (name : ℕ) (inside : Inside) → tree_weight w (root_of name inside) ≡ inside_weight w inside
  root_sum name (Of value) = refl
  root_sum name (Holding attributes children) = refl

  -- ---- bounds of parts whose count isn't fixed

  pub mapped_small : {X : Type 0} (f : X → Inside) (most : ℕ) (o : Option X) → ((x : X) → inside_weight w (f x) ≤ most) → perhaps_weight w (mapped f o) ≤ w + most
  mapped_small f most None each_of_them = omega arith
  mapped_small f most (Some x) each_of_them = omega (arith, each_of_them x)

  pub each_small : {X : Type 0} (f : X → Inside) (most : ℕ) (xs : List X) → ((x : X) → inside_weight w (f x) ≤ most) → each_weight w (map f xs) ≤ length xs * (w + most)
  each_small f most [] each_of_them = omega arith
  each_small f most (x ∷ xs) each_of_them =
      let more : each_weight w (map f xs) ≤ length xs * (w + most) = each_small f most xs each_of_them in
      grind (arith, more, each_of_them x)
