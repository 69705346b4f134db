-- Places in lists.
use Rattle.std.proofs.Common.{◌≡◌, ◌<◌, ◌≤◌, ℕ, zero, suc, ◌+◌, List, [], ◌∷◌, length, map, take, drop, get_or, refl, sym, ap, ◌∙◌, arith}
use Rattle.std.specs.List.{sum_by}
use Rattle.std.proofs.lemmas.List.{get_or_default, get_or-take, get_or-drop, length-take-le, length-drop}
use Rattle.std.proofs.lemmas.List.Sums.{sum_by-cons}
use Rattle.trace_audit.specs.Seats.{IsAt}

pub at_once : {A : Type 0} (xs : List A) (i : ℕ) (x y : A) → IsAt xs i x → IsAt xs i y → x ≡ y
at_once xs i x y h k = h.1 ∙ get_or_default xs i x y h.0 ∙ sym k.1

pub at_read : {A : Type 0} (xs : List A) (i : ℕ) (x d : A) → IsAt xs i x → get_or xs i d ≡ x
at_read xs i x d h = get_or_default xs i d x h.0 ∙ sym h.1

pub at_given : {A : Type 0} (xs : List A) (i : ℕ) (d : A) → i < length xs → IsAt xs i (get_or xs i d)
at_given xs i d less = (less, get_or_default xs i d (get_or xs i d) less)

pub at_later : {A : Type 0} (y : A) (xs : List A) (i : ℕ) (x : A) → IsAt xs i x → IsAt (y ∷ xs) (suc i) x
at_later y xs i x h = (let l : length (y ∷ xs) ≡ suc (length xs) = refl in let p = h.0 in omega (arith, l, p), h.1)

pub at_back : {A : Type 0} (y : A) (xs : List A) (i : ℕ) (x : A) → IsAt (y ∷ xs) (suc i) x → IsAt xs i x
at_back y xs i x h = (let l : length (y ∷ xs) ≡ suc (length xs) = refl in let p = h.0 in omega (arith, l, p), h.1)

pub at_of : {A : Type 0} (xs : List A) (i : ℕ) → i < length xs → (x : A) × IsAt xs i x
at_of [] i less = absurd (omega arith)
at_of (x ∷ xs) zero less = (x, (less, refl))
at_of (x ∷ xs) (suc i) less =
    let l : length (x ∷ xs) ≡ suc (length xs) = refl in
    let r = at_of xs i (omega (arith, less, l)) in
    (r.0, (less, r.1.1))

pub at_take : {A : Type 0} (n : ℕ) (xs : List A) (i : ℕ) (x : A) → n ≤ length xs → IsAt (take n xs) i x → IsAt xs i x
at_take n xs i x few h =
    let long = length-take-le n xs few in
    let p = h.0 in
    (omega (arith, p, long, few), h.1 ∙ get_or-take n xs i x (omega (arith, p, long)))

pub at_drop : {A : Type 0} (n : ℕ) (xs : List A) (i : ℕ) (x : A) → IsAt (drop n xs) i x → IsAt xs (n + i) x
at_drop n xs i x h =
    let long = length-drop n xs in
    let p = h.0 in
    (omega (arith, p, long), h.1 ∙ get_or-drop n xs i x)

-- ---- two lists, place by place

abbrev pub Agree : {A B C : Type 0} → (A → C) → (B → C) → List A → List B → Type 0
Agree {A = A} {B = B} f g xs ys = (i : ℕ) (x : A) (y : B) → IsAt xs i x → IsAt ys i y → f x ≡ g y

agree_later : {A B C : Type 0} (f : A → C) (g : B → C) (x : A) (y : B) (xs : List A) (ys : List B) → Agree f g (x ∷ xs) (y ∷ ys) → Agree f g xs ys
agree_later f g x y xs ys each i a b h k = each (suc i) a b (at_later x xs i a h) (at_later y ys i b k)

agree_first : {A B C : Type 0} (f : A → C) (g : B → C) (x : A) (y : B) (xs : List A) (ys : List B) → Agree f g (x ∷ xs) (y ∷ ys) → f x ≡ g y
agree_first f g x y xs ys each = each 0 x y (omega arith, refl) (omega arith, refl)

pub same_maps : {A B C : Type 0} (f : A → C) (g : B → C) (xs : List A) (ys : List B) → length xs ≡ length ys → Agree f g xs ys → map f xs ≡ map g ys
same_maps f g [] [] l each = refl
same_maps f g [] (y ∷ ys) l each = absurd (omega arith)
same_maps f g (x ∷ xs) [] l each = absurd (omega arith)
same_maps {C = C} f g (x ∷ xs) (y ∷ ys) l each =
    ap (λ (z : C). z ∷ map f xs) (agree_first f g x y xs ys each)
    ∙ ap (λ (zs : List C). g y ∷ zs) (same_maps f g xs ys (omega arith) (agree_later f g x y xs ys each))

pub same_sums : {A B : Type 0} (f : A → ℕ) (g : B → ℕ) (xs : List A) (ys : List B) → length xs ≡ length ys → Agree f g xs ys → sum_by f xs ≡ sum_by g ys
same_sums f g [] [] l each = refl
same_sums f g [] (y ∷ ys) l each = absurd (omega arith)
same_sums f g (x ∷ xs) [] l each = absurd (omega arith)
same_sums f g (x ∷ xs) (y ∷ ys) l each =
    let rest = same_sums f g xs ys (omega arith) (agree_later f g x y xs ys each) in
    let first = agree_first f g x y xs ys each in
    omega (arith, rest, first, sum_by-cons f x xs, sum_by-cons g y ys)

pub agree_take : {A B C : Type 0} (f : A → C) (g : B → C) (n : ℕ) (xs : List A) (ys : List B) → n ≤ length xs → n ≤ length ys → Agree f g xs ys → Agree f g (take n xs) (take n ys)
agree_take f g n xs ys few less each i x y h k = each i x y (at_take n xs i x few h) (at_take n ys i y less k)

pub agree_drop : {A B C : Type 0} (f : A → C) (g : B → C) (n : ℕ) (xs : List A) (ys : List B) → Agree f g xs ys → Agree f g (drop n xs) (drop n ys)
agree_drop f g n xs ys each i x y h k = each (n + i) x y (at_drop n xs i x h) (at_drop n ys i y k)

pub at_least : {A : Type 0} (f : A → ℕ) (xs : List A) (i : ℕ) (x : A) → IsAt xs i x → f x ≤ sum_by f xs
at_least f [] i x h = absurd (let p = h.0 in omega (arith, p))
at_least f (y ∷ xs) zero x h = let e : f x ≡ f y = ap f h.1 in omega (arith, e, sum_by-cons f y xs)
at_least f (y ∷ xs) (suc i) x h = let r = at_least f xs i x (at_back y xs i x h) in omega (arith, r, sum_by-cons f y xs)
