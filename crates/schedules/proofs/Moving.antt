-- The starts of a profile may be moved to those of the limits: nothing is lost, and no step is added.
use Rattle.std.proofs.Common.{◌≡◌, ℕ, zero, suc, ◌+◌, ◌-◌, ◌*◌, ◌<◌, ◌≤◌, ◌⊎◌, List, [], ◌∷◌, ◌++◌, length, refl, sym, ap, ◌∙◌, subst, inl, inr, arith}
use Rattle.std.proofs.lemmas.Bool.{cases_lt, cases_order}
use Rattle.std.proofs.lemmas.List.{append-nil, append_assoc}
use Rattle.std.proofs.lemmas.Nat.{mul-le}
use Rattle.schedules.specs.declared.power.Step.{Step}
use Rattle.schedules.specs.Steps.{held, next, RiseWithin}
use Rattle.schedules.proofs.Holding.{held_begun, held_until, held_from, held_first, next_after, next_within, rise_lower}
use Rattle.schedules.specs.Plans.{least, Covers, plan_energy}
use Rattle.schedules.proofs.Areas.{later, earlier, kept_up, begun_before}
use Rattle.schedules.proofs.Covering.{Below, under, rise_behind, after_first, held_back, held_at, next_covers}

abbrev pub step_of : ℕ → ℕ → Step
step_of start watts = record { start = start; watts = watts }

-- limits that part at a second: behind a part of them, at which the rest starts
pub record Parted (departure at : ℕ) (limits : List Step) : Type 0 where
  pub first : Step
  pub part : List Step
  pub rest : List Step
  pub whole : limits ≡ first ∷ (part ++ rest)
  pub joint : next departure rest ≡ at

-- a second strictly inside of one of the limits
pub record Inside (departure at : ℕ) (limits : List Step) : Type 0 where
  pub front : List Step
  pub limit : Step
  pub back : List Step
  pub whole : limits ≡ front ++ limit ∷ back
  pub begun : limit.start < at
  pub lasts : at < next departure back

-- steps that cover the limits, are no more, and have no less energy
pub record Raised (departure : ℕ) (limits : List Step) (count sum : ℕ) : Type 0 where
  pub steps : List Step
  pub covers : Covers limits steps
  pub few : length steps ≤ count
  pub much : sum ≤ plan_energy departure steps

module _ (departure : ℕ) where
  parted_behind : (l : Step) (ls : List Step) (at : ℕ) → Parted departure at ls → Parted departure at (l ∷ ls)
  parted_behind l ls at p = record { first = l; part = p.first ∷ p.part; rest = p.rest; whole = ap (λ xs. l ∷ xs) p.whole; joint = p.joint }

  inside_behind : (l : Step) (ls : List Step) (at : ℕ) → Inside departure at ls → Inside departure at (l ∷ ls)
  inside_behind l ls at p =
      record { front = l ∷ p.front; limit = p.limit; back = p.back; whole = ap (λ xs. l ∷ xs) p.whole; begun = p.begun; lasts = p.lasts }

  -- a second behind the first start is a later start, or inside of a limit
  cut : (limits : List Step) (at : ℕ) → next departure limits < at → at < departure → Parted departure at limits ⊎ Inside departure at limits
  cut [] at h below = absurd (omega arith)
  cut (l ∷ ls) at h below =
      elim (cases_order at (next departure ls)) [
        | inl eq ↦ inl (record { first = l; part = []; rest = ls; whole = refl; joint = sym eq })
        | inr (inl lt) ↦ inr (record { front = []; limit = l; back = ls; whole = refl; begun = h; lasts = lt })
        | inr (inr gt) ↦ elim (cut ls at gt below) [ inl p ↦ inl (parted_behind l ls at p) | inr p ↦ inr (inside_behind l ls at p) ]
      ]

  -- one step over a part, and those that were raised over the rest
  pub joined : (limits : List Step) (p : Step) (part rest : List Step) (count watts sum a b : ℕ) → limits ≡ p ∷ (part ++ rest) →
      p.start ≡ a → next departure rest ≡ b → watts ≤ least p.watts part → Raised departure rest count sum →
      Raised departure limits (suc count) (watts * (b - a) + sum)
  joined limits p part rest count watts sum a b whole start joint low r =
      let same : next departure r.steps ≡ b = next_covers departure rest r.steps r.covers ∙ joint in
      record {
        steps = step_of p.start (least p.watts part) ∷ r.steps;
        covers = (p, part, rest, whole, refl, refl, r.covers);
        few = omega (arith, r.few);
        much = rw (same, start) (omega (arith, r.much, mul-le watts (b - a) (least p.watts part) (b - a) low (omega arith)));
      }

  -- the same where only the sum is known to be no more
  pub enough : (limits : List Step) (count more sum most : ℕ) → count ≤ more → sum ≤ most → Raised departure limits count most → Raised departure limits more sum
  enough limits count more sum most h k r = record { steps = r.steps; covers = r.covers; few = omega (arith, r.few); much = omega (arith, r.much) }

  pub opened : (front : List Step) (limit : Step) (back : List Step) →
      (first : Step) × (part : List Step) × (front ++ limit ∷ back ≡ first ∷ (part ++ back))
  opened [] limit back = (limit, [], refl)
  opened (f ∷ fs) limit back = (f, fs ++ limit ∷ [], ap (λ xs. f ∷ xs) (sym (append_assoc fs (limit ∷ []) back)))

  -- the same, with the limit in the rest
  opened_before : (front : List Step) (limit : Step) (back : List Step) → next departure (front ++ limit ∷ back) < limit.start →
      (first : Step) × (part : List Step) × (front ++ limit ∷ back ≡ first ∷ (part ++ limit ∷ back))
  opened_before [] limit back h = absurd (omega arith)
  opened_before (f ∷ fs) limit back h = (f, fs, refl)

  first_before : (front : List Step) (limit : Step) (back : List Step) (low : ℕ) → RiseWithin low departure (front ++ limit ∷ back) →
      next departure (front ++ limit ∷ back) ≤ limit.start
  first_before [] limit back low rise = omega arith
  first_before (f ∷ fs) limit back low rise = omega (arith, after_first departure f fs (limit ∷ back) low rise)

  pub rise_from : (steps : List Step) (low from : ℕ) → from ≤ next departure steps → RiseWithin low departure steps → RiseWithin from departure steps
  rise_from [] low from h rise = tt
  rise_from (s ∷ steps) low from h rise = (h, rise.1, rise.2)

  -- a step below each of the limits that it reaches over
  pub over : (limits : List Step) (p : Step) (part rest : List Step) (w low : ℕ) → limits ≡ p ∷ (part ++ rest) → RiseWithin low departure limits →
      ((t : ℕ) → p.start ≤ t → t < next departure rest → w ≤ held 0 limits t) → w ≤ least p.watts part
  over limits p part rest w low whole rise at =
      under departure p part rest w low (subst (RiseWithin low departure) whole rise)
      (λ t begun lasts. subst (λ xs. w ≤ held 0 xs t) whole (at t begun lasts))

  pub held_rest : (limits : List Step) (p : Step) (part rest : List Step) (t : ℕ) → limits ≡ p ∷ (part ++ rest) → next departure rest ≤ t → t < departure →
      held 0 limits t ≡ held 0 rest t
  held_rest limits p part rest t whole begun below = ap (λ xs. held 0 xs t) whole ∙ held_back departure (p ∷ part) rest 0 0 t begun below

  pub rise_rest : (limits : List Step) (p : Step) (part rest : List Step) (low : ℕ) → limits ≡ p ∷ (part ++ rest) → RiseWithin low departure limits →
      RiseWithin low departure rest
  rise_rest limits p part rest low whole rise = rise_behind departure (p ∷ part) rest low (subst (RiseWithin low departure) whole rise)

-- steps of at most n behind their first can be raised
abbrev Raises : ℕ → ℕ → Type 0
Raises departure n =
    (limits : List Step) (s : Step) (steps : List Step) (low : ℕ) → length steps ≤ n → RiseWithin low departure limits →
    RiseWithin low departure (s ∷ steps) → next departure limits ≡ s.start → Below departure s.start (s ∷ steps) limits →
    Raised departure limits (suc (length steps)) (plan_energy departure (s ∷ steps))

-- the last step
alone : (departure : ℕ) (limits : List Step) (s : Step) (low : ℕ) → RiseWithin low departure limits → RiseWithin low departure (s ∷ []) →
    next departure limits ≡ s.start → Below departure s.start (s ∷ []) limits → Raised departure limits 1 (s.watts * (departure - s.start) + 0)
alone departure [] s low rise climbs start below = absurd (omega (arith, climbs.1))
alone departure (l ∷ ls) s low rise climbs start below =
    let whole : l ∷ ls ≡ l ∷ (ls ++ []) = ap (λ xs. l ∷ xs) (sym (append-nil ls)) in
    joined departure (l ∷ ls) l ls [] 0 s.watts 0 s.start departure whole start refl
    (over departure (l ∷ ls) l ls [] s.watts low whole rise (λ t begun lasts.
    omega (arith, below t (omega arith) lasts, held_first s [] low departure 0 t climbs (omega arith) lasts)))
    (record { steps = []; covers = refl; few = omega arith; much = omega arith })

module _ (departure n : ℕ) (ih : Raises departure n) (limits : List Step) (s u : Step) (rest : List Step) (low : ℕ) (few : length rest ≤ n)
    (rise : RiseWithin low departure limits) (climbs : RiseWithin low departure (s ∷ u ∷ rest)) (start : next departure limits ≡ s.start)
    (below : Below departure s.start (s ∷ u ∷ rest) limits) where
  second : s.start < u.start
  second = omega (arith, climbs.2.0)

  third : u.start < next departure rest
  third = omega (arith, next_after rest (u.start + 1) departure climbs.2.2 (omega (arith, climbs.2.1)))

  third_within : next departure rest ≤ departure
  third_within = next_within rest (u.start + 1) departure climbs.2.2

  early : (t : ℕ) → s.start ≤ t → t < u.start → s.watts ≤ held 0 limits t
  early t begun h =
      omega (arith, climbs.2.1, held_first s (u ∷ rest) low departure 0 t climbs begun h, below t begun (omega (arith, climbs.2.1)))

  late : (t : ℕ) → u.start ≤ t → held 0 (s ∷ u ∷ rest) t ≡ held u.watts rest t
  late t h = held_begun s (u ∷ rest) 0 t (omega (arith, second)) ∙ held_begun u rest s.watts t h

  late_below : (t : ℕ) → u.start ≤ t → t < departure → held u.watts rest t ≤ held 0 limits t
  late_below t h k = omega (arith, late t h, below t (omega (arith, second)) k)

  middle : u.watts ≤ held 0 limits u.start
  middle = omega (arith, late_below u.start (omega arith) climbs.2.1, held_until rest (u.start + 1) departure u.watts u.start climbs.2.2 third)

  -- the second step starts where a limit does
  on_mark : Parted departure u.start limits → Raised departure limits (suc (suc (length rest))) (plan_energy departure (s ∷ u ∷ rest))
  on_mark p =
      let first : p.first.start ≡ s.start = sym (ap (next departure) p.whole) ∙ start in
      joined departure limits p.first p.part p.rest (suc (length rest)) s.watts (plan_energy departure (u ∷ rest)) s.start u.start p.whole first p.joint
      (over departure limits p.first p.part p.rest s.watts low p.whole rise (λ t begun lasts. early t (omega (arith, first)) (omega (arith, p.joint))))
      (ih p.rest u rest low few (rise_rest departure limits p.first p.part p.rest low p.whole rise)
      (omega (arith, climbs.0, climbs.2.0), climbs.2.1, climbs.2.2) p.joint
      (λ t begun k. omega (
        arith,
        held_begun u rest 0 t begun,
        late_below t begun k,
        held_rest departure limits p.first p.part p.rest t p.whole (omega (arith, p.joint)) k,
      )))

  along : (q : Inside departure u.start limits) → RiseWithin low departure (q.front ++ q.limit ∷ q.back)
  along q = subst (RiseWithin low departure) q.whole rise

  level : (q : Inside departure u.start limits) (t : ℕ) → q.limit.start ≤ t → t < next departure q.back → held 0 limits t ≡ q.limit.watts
  level q t begun h = ap (λ xs. held 0 xs t) q.whole ∙ held_at departure q.front q.limit q.back low 0 t (along q) begun h

  limit_begun : (q : Inside departure u.start limits) → s.start ≤ q.limit.start
  limit_begun q = omega (arith, first_before departure q.front q.limit q.back low (along q), ap (next departure) q.whole, start)

  first_low : (q : Inside departure u.start limits) → s.watts ≤ q.limit.watts
  first_low q = omega (arith, early q.limit.start (limit_begun q) q.begun, level q q.limit.start (omega arith) (omega (arith, q.begun, q.lasts)))

  second_low : (q : Inside departure u.start limits) → u.watts ≤ q.limit.watts
  second_low q = omega (arith, middle, level q u.start (omega (arith, q.begun)) q.lasts)

  -- the second step moves to the next mark
  moved_on : (q : Inside departure u.start limits) → u.watts ≤ s.watts → next departure q.back < next departure rest →
      Raised departure limits (suc (suc (length rest))) (plan_energy departure (s ∷ u ∷ rest))
  moved_on q less before =
      let o : (first : Step) × (part : List Step) × (q.front ++ q.limit ∷ q.back ≡ first ∷ (part ++ q.back)) = opened departure q.front q.limit q.back in
      let whole : limits ≡ o.0 ∷ (o.1 ++ q.back) = q.whole ∙ o.2 in
      let first : o.0.start ≡ s.start = sym (ap (next departure) whole) ∙ start in
      let mark : ℕ = next departure q.back in
      enough departure limits (suc (suc (length rest))) (suc (suc (length rest))) (plan_energy departure (s ∷ u ∷ rest))
      (s.watts * (mark - s.start) + (u.watts * (next departure rest - mark) + plan_energy departure rest)) (omega arith)
      (omega (arith, later s.start u.start mark (next departure rest) s.watts u.watts (omega (arith, second)) (omega (arith, q.lasts)) (omega (arith, before)) less))
      (joined departure limits o.0 o.1 q.back (suc (length rest)) s.watts (u.watts * (next departure rest - mark) + plan_energy departure rest) s.start mark
      whole first refl
      (over departure limits o.0 o.1 q.back s.watts low whole rise (λ t begun lasts.
      elim (cases_lt t u.start) [
        | inl lt ↦ early t (omega (arith, first)) lt
        | inr ge ↦ omega (arith, first_low q, level q t (omega (arith, q.begun)) lasts)
      ]))
      (ih q.back (step_of mark u.watts) rest low few (rise_rest departure limits o.0 o.1 q.back low whole rise)
      (omega (arith, climbs.0, second, q.lasts), omega (arith, before, third_within), rise_from departure rest (u.start + 1) (mark + 1) (omega (arith, before)) climbs.2.2)
      refl
      (λ t begun k. omega (
        arith,
        held_begun (step_of mark u.watts) rest 0 t begun,
        late_below t (omega (arith, q.lasts)) k,
        held_rest departure limits o.0 o.1 q.back t whole begun k,
      ))))

  -- the second step ends by the next mark: the first one goes on in its place
  left_out : (q : Inside departure u.start limits) → u.watts ≤ s.watts → next departure rest ≤ next departure q.back →
      Raised departure limits (suc (suc (length rest))) (plan_energy departure (s ∷ u ∷ rest))
  left_out q less behind =
      let longer : RiseWithin low departure (s ∷ rest) = (climbs.0, climbs.1, rise_lower rest (u.start + 1) (s.start + 1) departure (omega (arith, second)) climbs.2.2) in
      enough departure limits (suc (length rest)) (suc (suc (length rest))) (plan_energy departure (s ∷ u ∷ rest)) (plan_energy departure (s ∷ rest)) (omega arith)
      (omega (arith, kept_up s.start u.start (next departure rest) s.watts u.watts (omega (arith, second)) (omega (arith, third)) less))
      (ih limits s rest low few rise longer start
      (λ t begun k.
      elim (cases_lt t (next departure rest)) [
        | inl lt ↦ elim (cases_lt t u.start) [
          | inl lt' ↦ omega (arith, held_first s rest low departure 0 t longer begun lt, early t begun lt')
          | inr ge' ↦ omega (arith, held_first s rest low departure 0 t longer begun lt, first_low q, level q t (omega (arith, q.begun)) (omega (arith, behind)))
        ]
        | inr ge ↦ omega (arith, held_begun s rest 0 t begun, held_from rest departure s.watts u.watts t ge k, late_below t (omega (arith, third)) k)
      ]))

  -- the second step moves back to the mark before it
  moved_back : (q : Inside departure u.start limits) → s.watts ≤ u.watts → s.start < q.limit.start →
      Raised departure limits (suc (suc (length rest))) (plan_energy departure (s ∷ u ∷ rest))
  moved_back q more behind =
      let o : (first : Step) × (part : List Step) × (q.front ++ q.limit ∷ q.back ≡ first ∷ (part ++ q.limit ∷ q.back)) =
      opened_before departure q.front q.limit q.back (omega (arith, ap (next departure) q.whole, start, behind)) in
      let whole : limits ≡ o.0 ∷ (o.1 ++ q.limit ∷ q.back) = q.whole ∙ o.2 in
      let first : o.0.start ≡ s.start = sym (ap (next departure) whole) ∙ start in
      let mark : ℕ = q.limit.start in
      let moved : RiseWithin low departure (step_of mark u.watts ∷ rest) =
      (omega (arith, climbs.0, behind), omega (arith, q.begun, climbs.2.1), rise_lower rest (u.start + 1) (mark + 1) departure (omega (arith, q.begun)) climbs.2.2) in
      enough departure limits (suc (suc (length rest))) (suc (suc (length rest))) (plan_energy departure (s ∷ u ∷ rest))
      (s.watts * (mark - s.start) + (u.watts * (next departure rest - mark) + plan_energy departure rest)) (omega arith)
      (omega (arith, earlier s.start u.start mark (next departure rest) s.watts u.watts (omega (arith, behind)) (omega (arith, q.begun)) (omega (arith, third)) more))
      (joined departure limits o.0 o.1 (q.limit ∷ q.back) (suc (length rest)) s.watts (u.watts * (next departure rest - mark) + plan_energy departure rest) s.start mark
      whole first refl
      (over departure limits o.0 o.1 (q.limit ∷ q.back) s.watts low whole rise (λ t begun lasts. early t (omega (arith, first)) (omega (arith, q.begun))))
      (ih (q.limit ∷ q.back) (step_of mark u.watts) rest low few (rise_rest departure limits o.0 o.1 (q.limit ∷ q.back) low whole rise) moved refl
      (λ t begun k.
      elim (cases_lt t u.start) [
        | inl lt ↦ omega (
          arith,
          held_first (step_of mark u.watts) rest low departure 0 t moved begun (omega (arith, third)),
          second_low q,
          level q t begun (omega (arith, q.lasts)),
          held_rest departure limits o.0 o.1 (q.limit ∷ q.back) t whole begun k,
        )
        | inr ge ↦ omega (arith, held_begun (step_of mark u.watts) rest 0 t begun, late_below t ge k, held_rest departure limits o.0 o.1 (q.limit ∷ q.back) t whole begun k)
      ])))

  -- the first step began at that mark: the second one takes its place
  taken_over : (q : Inside departure u.start limits) → s.watts ≤ u.watts → q.limit.start ≤ s.start →
      Raised departure limits (suc (suc (length rest))) (plan_energy departure (s ∷ u ∷ rest))
  taken_over q more here =
      let longer : RiseWithin low departure (step_of s.start u.watts ∷ rest) =
      (climbs.0, climbs.1, rise_lower rest (u.start + 1) (s.start + 1) departure (omega (arith, second)) climbs.2.2) in
      enough departure limits (suc (length rest)) (suc (suc (length rest))) (plan_energy departure (s ∷ u ∷ rest)) (plan_energy departure (step_of s.start u.watts ∷ rest)) (omega arith)
      (omega (arith, begun_before s.start u.start (next departure rest) s.watts u.watts (omega (arith, second)) (omega (arith, third)) more))
      (ih limits (step_of s.start u.watts) rest low few rise longer start
      (λ t begun k.
      elim (cases_lt t u.start) [
        | inl lt ↦ omega (
          arith,
          held_first (step_of s.start u.watts) rest low departure 0 t longer begun (omega (arith, third)),
          second_low q,
          level q t (omega (arith, here)) (omega (arith, q.lasts)),
        )
        | inr ge ↦ omega (arith, held_begun (step_of s.start u.watts) rest 0 t begun, late_below t ge k)
      ]))

  raised_more : Raised departure limits (suc (suc (length rest))) (plan_energy departure (s ∷ u ∷ rest))
  raised_more =
      elim (cut departure limits u.start (omega (arith, start, second)) climbs.2.1) [
        | inl p ↦ on_mark p
        | inr q ↦ elim (cases_lt s.watts u.watts) [
          | inl more ↦ elim (cases_lt s.start q.limit.start) [
            | inl behind ↦ moved_back q (omega (arith, more)) behind
            | inr here ↦ taken_over q (omega (arith, more)) here
          ]
          | inr less ↦ elim (cases_lt (next departure q.back) (next departure rest)) [
            | inl before ↦ moved_on q less before
            | inr behind ↦ left_out q less behind
          ]
        ]
      ]

-- The starts of steps within limits may be moved to those of the limits, so that the steps cover them: no step is added, and no
-- energy is lost.
pub raised : (departure n : ℕ) → Raises departure n
raised departure n limits s [] low few rise climbs start below = alone departure limits s low rise climbs start below
raised departure zero limits s (u ∷ rest) low few rise climbs start below = absurd (omega (arith, few))
raised departure (suc n) limits s (u ∷ rest) low few rise climbs start below =
    raised_more departure n (raised departure n) limits s u rest low (omega (arith, few)) rise climbs start below
