-- Bytes that are written piece by piece.
use Rattle.std.proofs.Common.{ℕ, List, ◌++◌, Option, Some, None, Result, Ok, Err, OnErr, sym, ap, ◌∙◌, append_assoc}
use Rattle.charge_world.specs.Outside.{Appends, AppendsSome}

-- one piece and then one more
pub appends_more : (before then after : Option (List ℕ)) (p q : List ℕ) → Appends before then p → Appends then after q → Appends before after (p ++ q)
appends_more before then None p q h k = tt
appends_more before None (Some new) p q h k = absurd k
appends_more None (Some mid) (Some new) p q h k = absurd h
appends_more (Some old) (Some mid) (Some new) p q h k = k ∙ ap (λ (xs : List ℕ). xs ++ q) h ∙ append_assoc old p q

-- one piece and then a front of another
pub appends_front : (before then after : Option (List ℕ)) (p q : List ℕ) → Appends before then p → AppendsSome then after q → AppendsSome before after (p ++ q)
appends_front before then None p q h k = tt
appends_front before None (Some new) p q h k = absurd k
appends_front None (Some mid) (Some new) p q h k = absurd h
appends_front (Some old) (Some mid) (Some new) p q h (front, rest, split, now) = (
  p ++ front,
  rest,
  ap (λ (xs : List ℕ). p ++ xs) split ∙ sym (append_assoc p front rest),
  now ∙ ap (λ (xs : List ℕ). xs ++ front) h ∙ append_assoc old p front,
)

-- a front of what comes first
pub appends_first : (before after : Option (List ℕ)) (p q : List ℕ) → AppendsSome before after p → AppendsSome before after (p ++ q)
appends_first before None p q h = tt
appends_first None (Some new) p q h = absurd h
appends_first (Some old) (Some new) p q (front, rest, split, now) =
    (front, rest ++ q, ap (λ (xs : List ℕ). xs ++ q) split ∙ append_assoc front rest q, now)

-- where a call failed
pub on_err : {T E : Type 0} (r : Result T E) (P : Type 0) → P → OnErr r P
on_err (Ok x) P h = tt
on_err (Err e) P h = h

pub on_err_weaker : {T E : Type 0} (r : Result T E) (P Q : Type 0) → (P → Q) → OnErr r P → OnErr r Q
on_err_weaker (Ok x) P Q f h = tt
on_err_weaker (Err e) P Q f h = f h
