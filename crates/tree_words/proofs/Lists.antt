-- What is read of each child of a name, where the parts have a list of them, or one that may be absent.
use Rattle.std.proofs.Common.{◌≡◌, suc, true, List, [], ◌∷◌, length, map, Option, Some, None, refl, ap, ap₂}
use Rattle.std.specs.Option.{option_map}
use Rattle.message_parts.specs.Contents.{Inside, mapped}
use Rattle.tree_words.specs.Named.{head}
use Rattle.tree_words.proofs.Held.{kept_if, kept_each}

infixl 5 ◌⊛◌
-- equal functions of equal values
pub ◌⊛◌ : {X Y : Type 0} {f g : X → Y} {x y : X} → f ≡ g → x ≡ y → f x ≡ g y
◌⊛◌ f_is x_is = ap₂ (λ f x. f x) f_is x_is

pub reads_if : {X Y : Type 0} (read : Inside → Y) (inside : X → Inside) (meant : X → Y) → ((x : X) → read (inside x) ≡ meant x)
    → (o : Option X) → option_map read (head (kept_if true (mapped inside o) [])) ≡ option_map meant o
reads_if read inside meant same None = refl
reads_if read inside meant same (Some x) = ap (λ y. Some y) (same x)

pub reads_each : {X Y : Type 0} (read : Inside → Y) (inside : X → Inside) (meant : X → Y) → ((x : X) → read (inside x) ≡ meant x)
    → (xs : List X) → map read (kept_each true (map inside xs) []) ≡ map meant xs
reads_each read inside meant same [] = refl
reads_each read inside meant same (x ∷ xs) = ap₂ (λ y ys. y ∷ ys) (same x) (reads_each read inside meant same xs)

pub counts_each : {X : Type 0} (inside : X → Inside) (xs : List X) → length (kept_each true (map inside xs) []) ≡ length xs
counts_each inside [] = refl
counts_each inside (x ∷ xs) = ap suc (counts_each inside xs)

-- ---- where it is read as itself

pub same_each : {X : Type 0} (read : Inside → X) (inside : X → Inside) → ((x : X) → read (inside x) ≡ x)
    → (xs : List X) → map read (kept_each true (map inside xs) []) ≡ xs
same_each read inside same [] = refl
same_each read inside same (x ∷ xs) = ap₂ (λ y ys. y ∷ ys) (same x) (same_each read inside same xs)
