-- Steps within limits that start where limits do: with the same starts they cover the limits, and no energy is lost.
use Rattle.std.proofs.Common.{◌≡◌, ℕ, ◌+◌, ◌-◌, ◌<◌, ◌≤◌, List, [], ◌∷◌, ◌++◌, refl, sym, ap, ◌∙◌, subst, inl, inr, arith}
use Rattle.std.proofs.lemmas.Bool.{cases_order}
use Rattle.std.proofs.lemmas.List.{append-nil}
use Rattle.std.proofs.lemmas.Nat.{mul-le}
use Rattle.schedules.specs.declared.power.Step.{Step}
use Rattle.schedules.specs.Steps.{next, RiseWithin, starts}
use Rattle.schedules.specs.Profiles.{Starts}
use Rattle.schedules.proofs.Holding.{held_begun, held_first}
use Rattle.schedules.specs.Plans.{least, Covers, plan_energy}
use Rattle.schedules.proofs.Covering.{Below, after_first, next_covers}
use Rattle.schedules.proofs.Moving.{step_of, Parted, over, held_rest, rise_rest}

-- each step starts where a limit does
abbrev pub AllStart : List Step → List Step → Type 0
AllStart limits [] = Unit {0}
AllStart limits (s ∷ steps) = Starts limits s.start × AllStart limits steps

-- steps that cover the limits, with the starts of the others, and no less energy
pub record Matched (departure : ℕ) (limits other : List Step) : Type 0 where
  pub steps : List Step
  pub covers : Covers limits steps
  pub same : starts steps ≡ starts other
  pub much : plan_energy departure other ≤ plan_energy departure steps

module _ (departure : ℕ) where
  starts_above : (limits : List Step) (low t : ℕ) → RiseWithin low departure limits → Starts limits t → low ≤ t
  starts_above [] low t rise h = absurd h
  starts_above (l ∷ ls) low t rise (inl here) = omega (arith, rise.0, here)
  starts_above (l ∷ ls) low t rise (inr there) = omega (arith, rise.0, starts_above ls (l.start + 1) t rise.2 there)

  -- a start behind the first one parts the limits
  parted_at : (limits : List Step) (low t : ℕ) → RiseWithin low departure limits → Starts limits t → next departure limits < t → t < departure → Parted departure t limits
  parted_at [] low t rise h before below = absurd h
  parted_at (l ∷ ls) low t rise (inl here) before below = absurd (omega (arith, here))
  parted_at (l ∷ []) low t rise (inr there) before below = absurd there
  parted_at (l ∷ k ∷ ks) low t rise (inr there) before below =
      elim (cases_order k.start t) [
        | inl eq ↦ record { first = l; part = []; rest = k ∷ ks; whole = refl; joint = eq }
        | inr (inl lt) ↦
            let p : Parted departure t (k ∷ ks) = parted_at (k ∷ ks) (l.start + 1) t rise.2 there lt below in
            record { first = l; part = p.first ∷ p.part; rest = p.rest; whole = ap (λ xs. l ∷ xs) p.whole; joint = p.joint }
        | inr (inr gt) ↦ absurd (omega (arith, starts_above (k ∷ ks) k.start t (omega arith, rise.2.1, rise.2.2) there))
      ]

  starts_behind : (xs ys : List Step) (low t : ℕ) → RiseWithin low departure (xs ++ ys) → Starts (xs ++ ys) t → next departure ys ≤ t → Starts ys t
  starts_behind [] ys low t rise h behind = h
  starts_behind (x ∷ xs) ys low t rise (inl here) behind = absurd (omega (arith, here, after_first departure x xs ys low rise))
  starts_behind (x ∷ xs) ys low t rise (inr there) behind = starts_behind xs ys (x.start + 1) t rise.2 there behind

  all_behind : (xs ys steps : List Step) (low from : ℕ) → RiseWithin low departure (xs ++ ys) → RiseWithin from departure steps → next departure ys ≤ from →
      AllStart (xs ++ ys) steps → AllStart ys steps
  all_behind xs ys [] low from rise climbs behind all = tt
  all_behind xs ys (s ∷ steps) low from rise climbs behind all =
      (starts_behind xs ys low s.start rise all.0 (omega (arith, climbs.0)), all_behind xs ys steps low (s.start + 1) rise climbs.2 (omega (arith, climbs.0)) all.1)

  joined_same : (limits : List Step) (s : Step) (tail : List Step) (p : Step) (part rest : List Step) → limits ≡ p ∷ (part ++ rest) →
      p.start ≡ s.start → next departure rest ≡ next departure tail → s.watts ≤ least p.watts part → Matched departure rest tail →
      Matched departure limits (s ∷ tail)
  joined_same limits s tail p part rest whole start joint low r =
      let same : next departure r.steps ≡ next departure tail = next_covers departure rest r.steps r.covers ∙ joint in
      let long : ℕ = next departure tail - s.start in
      record {
        steps = step_of p.start (least p.watts part) ∷ r.steps;
        covers = (p, part, rest, whole, refl, refl, r.covers);
        same = ap (λ a. a ∷ starts r.steps) start ∙ ap (λ xs. s.start ∷ xs) r.same;
        much = rw (same, start) (omega (arith, r.much, mul-le s.watts long (least p.watts part) long low (omega arith)));
      }

  pub matched : (limits : List Step) (s : Step) (steps : List Step) (low : ℕ) → RiseWithin low departure limits → RiseWithin low departure (s ∷ steps) →
      next departure limits ≡ s.start → Below departure s.start (s ∷ steps) limits → AllStart limits steps → Matched departure limits (s ∷ steps)
  matched [] s [] low rise climbs start below all = absurd (omega (arith, climbs.1))
  matched (l ∷ ls) s [] low rise climbs start below all =
      let whole : l ∷ ls ≡ l ∷ (ls ++ []) = ap (λ xs. l ∷ xs) (sym (append-nil ls)) in
      joined_same (l ∷ ls) s [] l ls [] whole start refl
      (over departure (l ∷ ls) l ls [] s.watts low whole rise (λ t begun lasts.
      omega (arith, below t (omega arith) lasts, held_first s [] low departure 0 t climbs (omega arith) lasts)))
      (record { steps = []; covers = refl; same = refl; much = omega arith })
  matched limits s (u ∷ rest) low rise climbs start below all =
      let p : Parted departure u.start limits = parted_at limits low u.start rise all.0 (omega (arith, climbs.2.0)) climbs.2.1 in
      let first : p.first.start ≡ s.start = sym (ap (next departure) p.whole) ∙ start in
      joined_same limits s (u ∷ rest) p.first p.part p.rest p.whole first p.joint
      (over departure limits p.first p.part p.rest s.watts low p.whole rise (λ t begun lasts.
      omega (
        arith,
        below t (omega (arith, first)) (omega (arith, p.joint, climbs.2.1)),
        held_first s (u ∷ rest) low departure 0 t climbs (omega (arith, first)) (omega (arith, p.joint)),
      )))
      (matched p.rest u rest low (rise_rest departure limits p.first p.part p.rest low p.whole rise)
      (omega (arith, climbs.0, climbs.2.0), climbs.2.1, climbs.2.2) p.joint
      (λ t begun k. omega (
        arith,
        held_begun u rest 0 t begun,
        held_begun s (u ∷ rest) 0 t (omega (arith, climbs.2.0)),
        held_begun u rest s.watts t begun,
        below t (omega (arith, climbs.2.0)) k,
        held_rest departure limits p.first p.part p.rest t p.whole (omega (arith, p.joint)) k,
      ))
      (all_behind (p.first ∷ p.part) p.rest rest low (u.start + 1) (subst (RiseWithin low departure) p.whole rise) climbs.2.2 (omega (arith, p.joint))
      (subst (λ xs. AllStart xs rest) p.whole all.1)))
