-- Lists of tables that are read one after another.
use Rattle.std.proofs.Common.{◌≡◌, ℕ, ◌+◌, ◌<◌, ◌≤◌, Bool, true, false, cond, List, [], ◌∷◌, ◌++◌, length, map, take, drop, get_or, Option, Some, None, refl, sym, ap, ◌∙◌}
use Rattle.std.specs.List.{find}
use Rattle.std.specs.Option.{option_or}
use Rattle.std.proofs.lemmas.List.{map-append, map_more, drop_more, drop_all}

-- what is said of one more
pub said_more : {A B C D : Type 0} (f : A → D) (g : C → D) (h : B → C) (ys : List A) (y : A) (xs : List B) (i : ℕ) (x : B) → i < length xs → x ≡ get_or xs i x
    → map f ys ≡ map g (map h (take i xs)) → f y ≡ g (h x) → map f (ys ++ y ∷ []) ≡ map g (map h (take (i + 1) xs))
said_more {A} {B} {C} {D} f g h ys y xs i x lt is so_far said =
    map-append f ys (y ∷ []) ∙ ap (λ (l : List D). l ++ f y ∷ []) so_far ∙ ap (λ (d : D). map g (map h (take i xs)) ++ d ∷ []) said
    ∙ sym (ap (map g) (map_more h xs i x lt ∙ ap (λ (b : B). map h (take i xs) ++ h b ∷ []) (sym is)) ∙ map-append g (map h (take i xs)) (h x ∷ []))

-- ---- the first that passes a test

regrouped : {C : Type 0} (kept : Option C) (b : Bool) (c : C) (rest : Option C)
    → option_or kept (cond b (Some c) rest) ≡ option_or (option_or kept (cond b (Some c) None)) rest
regrouped (Some k) b c rest = refl
regrouped None true c rest = refl
regrouped None false c rest = refl

-- it is there, or else behind
pub first_step : {A B C : Type 0} (p : C → Bool) (g : B → C) (h : A → B) (xs : List A) (i : ℕ) (x : A) (kept more all : Option C) → i < length xs → x ≡ get_or xs i x
    → all ≡ option_or kept (find p (map g (map h (drop i xs)))) → more ≡ option_or kept (cond (p (g (h x))) (Some (g (h x))) None)
    → all ≡ option_or more (find p (map g (map h (drop (i + 1) xs))))
first_step {A} {B} {C} p g h xs i x kept more all lt is so_far next =
    let here : find p (map g (map h (drop i xs))) ≡ cond (p (g (h x))) (Some (g (h x))) (find p (map g (map h (drop (i + 1) xs)))) =
    ap (λ (l : List A). find p (map g (map h l))) (drop_more xs i x lt ∙ ap (λ (y : A). y ∷ drop (i + 1) xs) (sym is)) in
    so_far ∙ ap (option_or kept) here ∙ regrouped kept (p (g (h x))) (g (h x)) (find p (map g (map h (drop (i + 1) xs))))
    ∙ ap (λ (o : Option C). option_or o (find p (map g (map h (drop (i + 1) xs))))) (sym next)

or_none : {C : Type 0} (kept : Option C) → option_or kept None ≡ kept
or_none None = refl
or_none (Some k) = refl

pub first_end : {A B C : Type 0} (p : C → Bool) (g : B → C) (h : A → B) (xs : List A) (i : ℕ) (kept all : Option C) → length xs ≤ i
    → all ≡ option_or kept (find p (map g (map h (drop i xs)))) → kept ≡ all
first_end {A} p g h xs i kept all le so_far =
    sym (so_far ∙ ap (λ (l : List A). option_or kept (find p (map g (map h l)))) (drop_all i xs le) ∙ or_none kept)
