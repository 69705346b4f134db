-- How a table grows by an item, and is read; and how a list of steps grows.
use Rattle.std.proofs.Common.{◌≡◌, ℕ, zero, suc, ◌+◌, ◌<◌, List, [], ◌∷◌, ◌++◌, length, take, get_or, Some, ap, subst, sym, arith, length-append, add-one}
use Rattle.std.specs.Prelude.{slice_get}
use Rattle.std.proofs.lemmas.Option.{slice_get_read}
use Rattle.exi_tables.specs.Filled.{IsTable}

pub each_push : {X : Type 0} (P : ℕ → X → Type 0) (xs : List X) (x : X) → ((i : ℕ) (y : X) → slice_get xs i ≡ Some y → P i y) → P (length xs) x →
    (i : ℕ) (y : X) → slice_get (xs ++ x ∷ []) i ≡ Some y → P i y
each_push {X} P [] x all last zero y is = let same : Some x ≡ Some y = is in let e : x ≡ y = cc in let Q : X → Type 0 = λ z. P 0 z in subst Q e last
each_push P [] x all last (suc i) y is = absurd cc
each_push P (z ∷ zs) x all last zero y is = all zero y is
each_push P (z ∷ zs) x all last (suc i) y is = each_push (λ k. P (suc k)) zs x (λ k. all (suc k)) last i y is

pub table_push : {X : Type 0} (n : ℕ) (P : ℕ → X → Type 0) (xs : List X) (x : X) → IsTable n P xs → P n x → IsTable (n + 1) P (xs ++ x ∷ [])
table_push {X} n P xs x is last =
    let whole : length xs ≡ n = is.whole in
    let long : length (xs ++ x ∷ []) ≡ length xs + 1 = length-append xs (x ∷ []) in
    let Q : ℕ → Type 0 = λ k. P k x in
    record {
      whole = omega (arith, whole, long);
      each = each_push P xs x is.each (subst Q (sym whole) last);
    }

pub table_at : {X : Type 0} (n : ℕ) (P : ℕ → X → Type 0) (xs : List X) (i : ℕ) (x : X) → IsTable n P xs → i < n → x ≡ get_or xs i x → P i x
table_at n P xs i x is less at = is.each i x (slice_get_read xs n i x (sym is.whole) less at)

take_next' : {X : Type 0} (xs : List X) (i : ℕ) (x : X) → Some x ≡ slice_get xs i → take i xs ++ x ∷ [] ≡ take (suc i) xs
take_next' [] i x is = absurd cc
take_next' (y ∷ ys) zero x is = let same : Some x ≡ Some y = is in let e : x ≡ y = cc in ap (λ z. z ∷ []) e
take_next' (y ∷ ys) (suc i) x is = ap (λ l. y ∷ l) (take_next' ys i x is)

pub take_next : {X : Type 0} (xs : List X) (i : ℕ) (x : X) → Some x ≡ slice_get xs i → take i xs ++ x ∷ [] ≡ take (i + 1) xs
take_next xs i x is = rw add-one (take_next' xs i x is)

pub table_grows : {X : Type 0} (n : ℕ) (P : ℕ → X → Type 0) (old new : List X) (x : X) → IsTable n P old → P n x → new ≡ old ++ x ∷ [] → IsTable (n + 1) P new
table_grows {X} n P old new x is last grown = let Q : List X → Type 0 = λ xs. IsTable (n + 1) P xs in subst Q (sym grown) (table_push n P old x is last)
