-- What is read of a list of elements of one name, and what holds of each of several.
use Rattle.std.proofs.Common.{◌≡◌, ◌⊎◌, inl, inr, true, List, [], ◌∷◌, ◌++◌, map, refl, ap}
use Rattle.std.specs.List.{flat_map}
use Rattle.message_parts.specs.Contents.{Inside}
use Rattle.tree_words.proofs.Held.{kept_each}

pub joins_each : {X Y : Type 0} (read : Inside → List Y) (inside : X → Inside) (xs : List X)
    → flat_map read (kept_each true (map inside xs) []) ≡ flat_map (λ x. read (inside x)) xs
joins_each read inside [] = refl
joins_each read inside (x ∷ xs) = ap (λ (ys : List _). read (inside x) ++ ys) (joins_each read inside xs)

infixr 2 ◌or◌
pub ◌or◌ : {A B P : Type 0} → (A → P) → (B → P) → A ⊎ B → P
◌or◌ f g (inl a) = f a
◌or◌ f g (inr b) = g b
