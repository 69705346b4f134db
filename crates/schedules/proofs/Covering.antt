-- What steps that cover limits hold.
use Rattle.std.proofs.Common.{◌≡◌, ℕ, ◌+◌, ◌<◌, ◌≤◌, min, List, [], ◌∷◌, ◌++◌, sym, ap, ◌∙◌, subst, inl, inr, arith}
use Rattle.std.proofs.lemmas.Bool.{cases_lt}
use Rattle.schedules.specs.declared.power.Step.{Step}
use Rattle.schedules.specs.Steps.{held, next, RiseWithin}
use Rattle.schedules.proofs.Holding.{held_begun, held_waiting, held_before, held_until, held_from, held_first, held_append, rise_lower, next_after, next_within}
use Rattle.schedules.specs.Plans.{least, Covers}

-- the steps hold no more than the limits from second a to the departure
abbrev pub Below : ℕ → ℕ → List Step → List Step → Type 0
Below departure a steps limits = (t : ℕ) → a ≤ t → t < departure → held 0 steps t ≤ held 0 limits t

module _ (departure : ℕ) where
  pub next_covers : (limits steps : List Step) → Covers limits steps → next departure steps ≡ next departure limits
  next_covers limits [] h = sym (ap (next departure) h)
  next_covers limits (s ∷ steps) h = h.4 ∙ sym (ap (next departure) h.3)

  pub rise_behind : (xs ys : List Step) (low : ℕ) → RiseWithin low departure (xs ++ ys) → RiseWithin low departure ys
  rise_behind [] ys low rise = rise
  rise_behind (x ∷ xs) ys low rise = rise_lower ys (x.start + 1) low departure (omega (arith, rise.0)) (rise_behind xs ys (x.start + 1) rise.2)

  -- what stands behind a step starts later
  pub after_first : (x : Step) (xs ys : List Step) (low : ℕ) → RiseWithin low departure (x ∷ (xs ++ ys)) → x.start < next departure ys
  after_first x xs ys low rise = omega (arith, rise.1, next_after ys (x.start + 1) departure (rise_behind xs ys (x.start + 1) rise.2) (omega (arith, rise.1)))

  -- from where the second list starts it alone counts
  pub held_back : (xs ys : List Step) (one other t : ℕ) → next departure ys ≤ t → t < departure → held one (xs ++ ys) t ≡ held other ys t
  held_back xs ys one other t h below = held_append xs ys one t ∙ held_from ys departure (held one xs t) other t h below

  -- one step in the middle
  pub held_at : (front : List Step) (l : Step) (back : List Step) (low before t : ℕ) → RiseWithin low departure (front ++ l ∷ back) →
      l.start ≤ t → t < next departure back → held before (front ++ l ∷ back) t ≡ l.watts
  held_at front l back low before t rise begun h =
      held_append front (l ∷ back) before t ∙ held_first l back low departure (held before front t) t (rise_behind front (l ∷ back) low rise) begun h

  least_grows : (steps : List Step) (v w : ℕ) → v ≤ w → least v steps ≤ least w steps
  least_grows [] v w h = h
  least_grows (s ∷ steps) v w h = least_grows steps (min v s.watts) (min w s.watts) (omega arith)

  -- the least is held at no second
  least_below : (steps : List Step) (w t : ℕ) → least w steps ≤ held w steps t
  least_below [] w t = omega arith
  least_below (s ∷ steps) w t =
      elim (cases_lt t s.start) [
        | inl lt ↦ omega (arith, held_waiting s steps w t lt, least_grows steps (min w s.watts) w (omega arith), least_below steps w t)
        | inr ge ↦ omega (arith, held_begun s steps w t ge, least_grows steps (min w s.watts) s.watts (omega arith), least_below steps s.watts t)
      ]

  -- what is held nowhere below `w` has a least of at least `w`
  least_above : (part rest : List Step) (w v low : ℕ) → RiseWithin low departure (part ++ rest) → w ≤ v →
      ((before t : ℕ) → next departure (part ++ rest) ≤ t → t < next departure rest → w ≤ held before (part ++ rest) t) → w ≤ least v part
  least_above [] rest w v low rise h at = h
  least_above (l ∷ ls) rest w v low rise h at =
      let later : l.start < next departure rest = after_first l ls rest low rise in
      let here : w ≤ l.watts =
      omega (
        arith,
        at 0 l.start (omega arith) later,
        held_begun l (ls ++ rest) 0 l.start (omega arith),
        held_before (ls ++ rest) (l.start + 1) departure l.watts l.start rise.2 (omega arith),
      ) in
      least_above ls rest w (min v l.watts) (l.start + 1) rise.2 (omega arith)
      (λ before t begun below.
      let first : l.start ≤ t = omega (arith, next_after (ls ++ rest) (l.start + 1) departure rise.2 (omega (arith, rise.1))) in
      omega (
        arith,
        at 0 t first below,
        held_begun l (ls ++ rest) 0 t first,
        held_from (ls ++ rest) departure l.watts before t begun (omega (arith, next_within rest (l.start + 1) departure (rise_behind ls rest (l.start + 1) rise.2))),
      ))

  -- a step that is below each of the limits that it reaches over
  pub under : (first : Step) (part rest : List Step) (w low : ℕ) → RiseWithin low departure (first ∷ (part ++ rest)) →
      ((t : ℕ) → first.start ≤ t → t < next departure rest → w ≤ held 0 (first ∷ (part ++ rest)) t) → w ≤ least first.watts part
  under first part rest w low rise at =
      let later : first.start < next departure rest = after_first first part rest low rise in
      let end : next departure rest ≤ departure = next_within rest (first.start + 1) departure (rise_behind part rest (first.start + 1) rise.2) in
      least_above part rest w first.watts (first.start + 1) rise.2
      (omega (
        arith,
        at first.start (omega arith) later,
        held_begun first (part ++ rest) 0 first.start (omega arith),
        held_before (part ++ rest) (first.start + 1) departure first.watts first.start rise.2 (omega arith),
      ))
      (λ before t begun below.
      let h : first.start ≤ t = omega (arith, next_after (part ++ rest) (first.start + 1) departure rise.2 (omega (arith, rise.1))) in
      omega (arith, at t h below, held_begun first (part ++ rest) 0 t h, held_from (part ++ rest) departure first.watts before t begun (omega arith)))

  -- covering steps rise as the limits do
  pub rise_covers : (limits steps : List Step) (low : ℕ) → RiseWithin low departure limits → Covers limits steps → RiseWithin low departure steps
  rise_covers limits [] low rise h = tt
  rise_covers limits (s ∷ steps) low rise h =
      let along : RiseWithin low departure (h.0 ∷ (h.1 ++ h.2)) = subst (RiseWithin low departure) h.3 rise in
      let inner : RiseWithin (h.0.start + 1) departure h.2 = rise_behind h.1 h.2 (h.0.start + 1) along.2 in
      let e : h.0.start + 1 ≡ s.start + 1 = ap (λ n. n + 1) (sym h.4) in
      (omega (arith, along.0, h.4), omega (arith, along.1, h.4), subst (λ n. RiseWithin n departure steps) e (rise_covers h.2 steps (h.0.start + 1) inner h.6))

  -- they are within the limits
  pub covers_below : (limits steps : List Step) (low : ℕ) → RiseWithin low departure limits → Covers limits steps → Below departure (next departure limits) steps limits
  covers_below limits [] low rise h t begun below = absurd (omega (arith, ap (next departure) h))
  covers_below limits (s ∷ steps) low rise h t begun below =
      let along : RiseWithin low departure (h.0 ∷ (h.1 ++ h.2)) = subst (RiseWithin low departure) h.3 rise in
      let here : RiseWithin low departure (s ∷ steps) = rise_covers limits (s ∷ steps) low rise h in
      let first : h.0.start ≤ t = omega (arith, ap (next departure) h.3) in
      let same : next departure steps ≡ next departure h.2 = next_covers h.2 steps h.6 in
      let whole : held 0 limits t ≡ held h.0.watts (h.1 ++ h.2) t = ap (λ l. held 0 l t) h.3 ∙ held_begun h.0 (h.1 ++ h.2) 0 t first in
      elim (cases_lt t (next departure h.2)) [
        | inl lt ↦
            let mine : held 0 (s ∷ steps) t ≡ s.watts = held_first s steps low departure 0 t here (omega (arith, h.4)) (omega arith) in
            let theirs : held h.0.watts (h.1 ++ h.2) t ≡ held h.0.watts h.1 t =
            held_append h.1 h.2 h.0.watts t ∙ held_until h.2 (h.0.start + 1) departure (held h.0.watts h.1 t) t (rise_behind h.1 h.2 (h.0.start + 1) along.2) lt in
            omega (arith, mine, whole, theirs, h.5, least_below h.1 h.0.watts t)
        | inr ge ↦
            let mine : held 0 (s ∷ steps) t ≡ held 0 steps t =
            held_begun s steps 0 t (omega (arith, h.4)) ∙ held_from steps departure s.watts 0 t (omega arith) below in
            let theirs : held h.0.watts (h.1 ++ h.2) t ≡ held 0 h.2 t = held_back h.1 h.2 h.0.watts 0 t ge below in
            omega (arith, mine, whole, theirs, covers_below h.2 steps (h.0.start + 1) (rise_behind h.1 h.2 (h.0.start + 1) along.2) h.6 t ge below)
      ]
