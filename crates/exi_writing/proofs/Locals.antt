-- The local partition of a name, met entry by entry.
use Rattle.std.proofs.Common.{◌≡◌, ℕ, zero, suc, ◌+◌, ◌<◌, ◌≤◌, List, [], ◌∷◌, length, drop, get_or, cond, Bool, Some, refl, sym, ap, subst, ◌∙◌, arith, add-one, eq-eqb}
use Rattle.std.specs.Prelude.{slice_get}
use Rattle.std.proofs.lemmas.Bool.{ne_eqb}
use Rattle.std.proofs.Math.Seq.{drop-cons}
use Rattle.exi_bits.specs.declared.span.SpanAt.{SpanAt}
use Rattle.exi_reading.specs.Table.{local_of}

local_own : (name : ℕ) (entry : ℕ × SpanAt) (entries : List (ℕ × SpanAt)) → entry.0 ≡ name → local_of name (entry ∷ entries) ≡ entry.1 ∷ local_of name entries
local_own name entry entries is = ap (λ (b : Bool). cond b (entry.1 ∷ local_of name entries) (local_of name entries)) (eq-eqb entry.0 name is)

local_other : (name : ℕ) (entry : ℕ × SpanAt) (entries : List (ℕ × SpanAt)) → (entry.0 ≡ name → ⊥) → local_of name (entry ∷ entries) ≡ local_of name entries
local_other name entry entries not = ap (λ (b : Bool). cond b (entry.1 ∷ local_of name entries) (local_of name entries)) (ne_eqb entry.0 name not)

-- the first of what is left behind n items is item n
first_left : (xs : List SpanAt) (n : ℕ) (x : SpanAt) (rest : List SpanAt) → x ∷ rest ≡ drop n xs → Some x ≡ slice_get xs n
first_left [] zero x rest is = absurd cc
first_left [] (suc n) x rest is = absurd cc
first_left (y ∷ ys) zero x rest is = cc
first_left (y ∷ ys) (suc n) x rest is = first_left ys n x rest is

rest_left : (xs : List SpanAt) (n : ℕ) (x : SpanAt) (rest : List SpanAt) → x ∷ rest ≡ drop n xs → rest ≡ drop (suc n) xs
rest_left [] zero x rest is = absurd cc
rest_left [] (suc n) x rest is = absurd cc
rest_left (y ∷ ys) zero x rest is = cc
rest_left (y ∷ ys) (suc n) x rest is = rest_left ys n x rest is

none_left : (xs : List SpanAt) (n : ℕ) → [] ≡ drop n xs → length xs ≤ n
none_left [] n is = omega arith
none_left (y ∷ ys) zero is = absurd cc
none_left (y ∷ ys) (suc n) is = let h = none_left ys n is in omega arith

-- the entries, lent as `items`: so many of them are passed, and so many of the local partition
abbrev pub Passed : ℕ → List (ℕ × SpanAt) → ℕ → ℕ → Type 0
Passed name entries i n = local_of name (drop i entries) ≡ drop n (local_of name entries)

own_left : (name : ℕ) (entries : List (ℕ × SpanAt)) (i n : ℕ) (d : ℕ × SpanAt) → i < length entries → (get_or entries i d).0 ≡ name → Passed name entries i n → (get_or entries i d).1 ∷ local_of name (drop (suc i) entries) ≡ drop n (local_of name entries)
own_left name entries i n d less is left =
    sym (local_own name (get_or entries i d) (drop (suc i) entries) is) ∙ ap (local_of name) (sym (drop-cons entries i d less)) ∙ left

-- an entry of the name is the next of its local partition
pub next_local : (name : ℕ) (items entries : List (ℕ × SpanAt)) (i n : ℕ) (d : ℕ × SpanAt) → items ≡ entries → i < length items → (get_or items i d).0 ≡ name → Passed name entries i n → Some (get_or items i d).1 ≡ slice_get (local_of name entries) n
next_local name items entries i n d same =
    subst (λ (l : List (ℕ × SpanAt)). i < length l → (get_or l i d).0 ≡ name → Passed name entries i n → Some (get_or l i d).1 ≡ slice_get (local_of name entries) n) (sym same)
    (λ less is left. first_left (local_of name entries) n (get_or entries i d).1 (local_of name (drop (suc i) entries)) (own_left name entries i n d less is left))

pub behind_local : (name : ℕ) (items entries : List (ℕ × SpanAt)) (i n : ℕ) (d : ℕ × SpanAt) → items ≡ entries → i < length items → (get_or items i d).0 ≡ name → Passed name entries i n → Passed name entries (i + 1) (n + 1)
behind_local name items entries i n d same =
    subst (λ (l : List (ℕ × SpanAt)). i < length l → (get_or l i d).0 ≡ name → Passed name entries i n → Passed name entries (i + 1) (n + 1)) (sym same)
    (λ less is left. rw (add-one i, add-one n) (rest_left (local_of name entries) n (get_or entries i d).1 (local_of name (drop (suc i) entries)) (own_left name entries i n d less is left)))

-- an entry of another name is none of it
pub passes_other : (name : ℕ) (items entries : List (ℕ × SpanAt)) (i n : ℕ) (d : ℕ × SpanAt) → items ≡ entries → i < length items → ((get_or items i d).0 ≡ name → ⊥) → Passed name entries i n → Passed name entries (i + 1) n
passes_other name items entries i n d same =
    subst (λ (l : List (ℕ × SpanAt)). i < length l → ((get_or l i d).0 ≡ name → ⊥) → Passed name entries i n → Passed name entries (i + 1) n) (sym same)
    (λ less not left. rw (add-one i) (sym (local_other name (get_or entries i d) (drop (suc i) entries) not) ∙ ap (local_of name) (sym (drop-cons entries i d less)) ∙ left))

drop_past : (entries : List (ℕ × SpanAt)) (i : ℕ) → length entries ≤ i → drop i entries ≡ []
drop_past [] zero more = refl
drop_past [] (suc i) more = refl
drop_past (e ∷ es) zero more = absurd (omega (arith, more))
drop_past (e ∷ es) (suc i) more = drop_past es i (omega (arith, more))

-- behind the last entry all of it is passed
pub passed_locals : (name : ℕ) (items entries : List (ℕ × SpanAt)) (i n : ℕ) → items ≡ entries → length items ≤ i → Passed name entries i n → length (local_of name entries) ≤ n
passed_locals name items entries i n same more left =
    none_left (local_of name entries) n (sym (ap (local_of name) (drop_past entries i (subst (λ (l : List (ℕ × SpanAt)). length l ≤ i) same more))) ∙ left)
