-- Items of lists, by their places.
use Rattle.std.proofs.Common.{◌≡◌, ℕ, zero, suc, ◌+◌, List, [], ◌∷◌, ◌++◌, drop, map, Option, Some, None, refl, sym, ap, ◌∙◌, slice_get, ◌⊎◌, inl, inr}
use Rattle.std.proofs.lemmas.List.{drop-drop}

pub one_of : {X : Type 0} (o : Option X) (x y : X) → o ≡ Some x → o ≡ Some y → x ≡ y
one_of {X} o x y p q = let e : Some x ≡ Some y = sym p ∙ q in cc

pub none_of : {X : Type 0} (x : X) → None ≡ Some x → ⊥
none_of {X} x p = cc

-- an item of a list is one of it with more behind
pub get_front : {X : Type 0} (xs ys : List X) (i : ℕ) (x : X) → slice_get xs i ≡ Some x → slice_get (xs ++ ys) i ≡ Some x
get_front [] ys i x h = absurd (none_of x h)
get_front (z ∷ xs) ys zero x h = h
get_front (z ∷ xs) ys (suc i) x h = get_front xs ys i x h

-- and with more in front
pub get_back : {X : Type 0} (xs ys : List X) (i : ℕ) (x : X) → slice_get ys i ≡ Some x → (k : ℕ) × (slice_get (xs ++ ys) k ≡ Some x)
get_back [] ys i x h = (i, h)
get_back (z ∷ xs) ys i x h = let there = get_back xs ys i x h in (suc there.0, there.1)

pub get_map : {X Y : Type 0} (f : X → Y) (xs : List X) (i : ℕ) (x : X) → slice_get xs i ≡ Some x → slice_get (map f xs) i ≡ Some (f x)
get_map f [] i x h = absurd (none_of x h)
get_map f (z ∷ xs) zero x h = let same : z ≡ x = one_of (Some z) z x refl h in ap (λ y. Some (f y)) same
get_map f (z ∷ xs) (suc i) x h = get_map f xs i x h

-- an item of two lists is one of either
pub get_either : {X : Type 0} (xs ys : List X) (i : ℕ) (x : X) → slice_get (xs ++ ys) i ≡ Some x → ((k : ℕ) × (slice_get xs k ≡ Some x)) ⊎ ((k : ℕ) × (slice_get ys k ≡ Some x))
get_either [] ys i x h = inr (i, h)
get_either (z ∷ xs) ys zero x h = inl (0, h)
get_either (z ∷ xs) ys (suc i) x h =
    elim (get_either xs ys i x h) [ inl p ↦ inl (suc p.0, p.1) | inr p ↦ inr p ]

pub get_unmap : {X Y : Type 0} (f : X → Y) (xs : List X) (i : ℕ) (y : Y) → slice_get (map f xs) i ≡ Some y → (x : X) × (k : ℕ) × (slice_get xs k ≡ Some x) × (f x ≡ y)
get_unmap f [] i y h = absurd (none_of y h)
get_unmap f (z ∷ xs) zero y h = (z, 0, refl, one_of (Some (f z)) (f z) y refl h)
get_unmap f (z ∷ xs) (suc i) y h = let there = get_unmap f xs i y h in (there.0, suc there.1, there.2, there.3)

pub drop_more : {X : Type 0} (m n : ℕ) (xs : List X) → drop n (drop m xs) ≡ drop (m + n) xs
drop_more m n xs = drop-drop n m xs

pub no_items : {X : Type 0} (xs ys : List X) → [] ≡ xs ++ ys → (xs ≡ []) × (ys ≡ [])
no_items [] ys h = (refl, sym h)
no_items (x ∷ xs) ys h = absurd (cc)

pub nil_cons : {X : Type 0} (x : X) (xs : List X) → [] ≡ x ∷ xs → ⊥
nil_cons {X} x xs h = cc

pub same_head : {X : Type 0} (x y : X) (xs ys : List X) → x ∷ xs ≡ y ∷ ys → x ≡ y
same_head {X} x y xs ys h = cc

pub same_tail : {X : Type 0} (x y : X) (xs ys : List X) → x ∷ xs ≡ y ∷ ys → xs ≡ ys
same_tail {X} x y xs ys h = cc
