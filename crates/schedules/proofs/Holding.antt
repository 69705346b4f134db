-- What steps hold at a second.
use Rattle.std.proofs.Common.{◌≡◌, ℕ, zero, suc, ◌+◌, ◌-◌, ◌*◌, ◌<◌, ◌≤◌, leb, cond, true, false, List, [], ◌∷◌, ◌++◌, refl, sym, ap, ◌∙◌, arith, inl, inr}
use Rattle.std.proofs.lemmas.Bool.{cases_lt, le-leb, lt-leb, cond-true, cond-false}
use Rattle.schedules.specs.declared.power.Step.{Step}
use Rattle.schedules.specs.Steps.{held, watts_at, next, Begins, RiseWithin}

-- a step that has begun hides what was held before it
pub held_begun : (s : Step) (steps : List Step) (before t : ℕ) → s.start ≤ t → held before (s ∷ steps) t ≡ held s.watts steps t
held_begun s steps before t h = ap (λ b. held (cond b s.watts before) steps t) (le-leb s.start t h)

-- one that hasn't begun tells nothing
pub held_waiting : (s : Step) (steps : List Step) (before t : ℕ) → t < s.start → held before (s ∷ steps) t ≡ held before steps t
held_waiting s steps before t h = ap (λ b. held (cond b s.watts before) steps t) (lt-leb s.start t h)

-- before the first start
pub held_before : (steps : List Step) (low end before t : ℕ) → RiseWithin low end steps → t < low → held before steps t ≡ before
held_before [] low end before t rise h = refl
held_before (s ∷ steps) low end before t rise h =
    held_waiting s steps before t (omega (arith, rise.0)) ∙ held_before steps (s.start + 1) end before t rise.2 (omega (arith, rise.0))

-- rising steps rise from their first start on
pub rise_next : (steps : List Step) (low end : ℕ) → RiseWithin low end steps → RiseWithin (next end steps) end steps
rise_next [] low end rise = tt
rise_next (s ∷ steps) low end rise = (omega arith, rise.1, rise.2)

pub next_after : (steps : List Step) (low end : ℕ) → RiseWithin low end steps → low ≤ end → low ≤ next end steps
next_after [] low end rise h = h
next_after (s ∷ steps) low end rise h = rise.0

pub next_within : (steps : List Step) (low end : ℕ) → RiseWithin low end steps → next end steps ≤ end
next_within [] low end rise = omega arith
next_within (s ∷ steps) low end rise = omega (arith, rise.1)

-- until the next start
pub held_until : (steps : List Step) (low end before t : ℕ) → RiseWithin low end steps → t < next end steps → held before steps t ≡ before
held_until steps low end before t rise h = held_before steps (next end steps) end before t (rise_next steps low end rise) h

-- from the next start on
pub held_from : (steps : List Step) (end one other t : ℕ) → next end steps ≤ t → t < end → held one steps t ≡ held other steps t
held_from [] end one other t h below = absurd (omega arith)
held_from (s ∷ steps) end one other t h below = held_begun s steps one t h ∙ sym (held_begun s steps other t h)

-- the first step, until the second
pub held_first : (s : Step) (steps : List Step) (low end before t : ℕ) → RiseWithin low end (s ∷ steps) → s.start ≤ t → t < next end steps → held before (s ∷ steps) t ≡ s.watts
held_first s steps low end before t rise begun h = held_begun s steps before t begun ∙ held_until steps (s.start + 1) end s.watts t rise.2 h

-- one list behind another
pub held_append : (xs ys : List Step) (before t : ℕ) → held before (xs ++ ys) t ≡ held (held before xs t) ys t
held_append [] ys before t = refl
held_append (x ∷ xs) ys before t = held_append xs ys (cond (leb x.start t) x.watts before) t

-- all have begun by the last start
pub rise_lower : (steps : List Step) (low lower end : ℕ) → lower ≤ low → RiseWithin low end steps → RiseWithin lower end steps
rise_lower [] low lower end h rise = tt
rise_lower (s ∷ steps) low lower end h rise = (omega (arith, rise.0), rise.1, rise.2)
