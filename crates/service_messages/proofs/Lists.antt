-- Lists that are made one after another.
use Rattle.std.proofs.Common.{◌≡◌, ℕ, ◌+◌, ◌<◌, false, List, [], ◌∷◌, ◌++◌, length, map, take, get_or, sym, ap, ◌∙◌}
use Rattle.std.proofs.lemmas.List.{map_more}
use Rattle.service_spec.specs.declared.Value.TheVariants.{Truth}
use Rattle.service_spec.specs.declared.Parameter.{Parameter}

-- what stands where a list has no parameter
abbrev pub blank : Parameter
blank = record { name = record { ref_ptr = (0, 0); now = [] }; value = Truth false }

pub made_more : {X Y : Type 0} (f : X → Y) (ys : List Y) (y : Y) (xs : List X) (i : ℕ) (x d : X) → i < length xs → x ≡ get_or xs i d
    → ys ≡ map f (take i xs) → y ≡ f x → ys ++ y ∷ [] ≡ map f (take (i + 1) xs)
made_more {X} {Y} f ys y xs i x d lt is so_far made =
    ap (λ (l : List Y). l ++ y ∷ []) so_far ∙ ap (λ (z : Y). map f (take i xs) ++ z ∷ []) (made ∙ ap f is) ∙ sym (map_more f xs i d lt)
