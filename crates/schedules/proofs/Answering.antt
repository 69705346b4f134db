-- The best cover of a schedule's limits is the best answer to the schedule.
use Rattle.std.proofs.Common.{◌≡◌, ℕ, suc, ◌+◌, ◌<◌, ◌≤◌, List, [], ◌∷◌, ◌++◌, length, refl, sym, ap, ◌∙◌, subst, inl, inr, arith}
use Rattle.std.proofs.lemmas.Bool.{cases_lt}
use Rattle.schedules.specs.declared.power.Step.{Step}
use Rattle.schedules.specs.declared.power.Schedule.{Schedule}
use Rattle.schedules.specs.Steps.{energy, next, Begins, RiseWithin, starts}
use Rattle.schedules.specs.Profiles.{IsWithin, IsAllowed, Starts, IsMarked, IsLess, IsBetter, IsBest}
use Rattle.schedules.proofs.Holding.{held_begun, held_from, held_first, next_within, rise_lower}
use Rattle.schedules.specs.Plans.{Covers, plan_energy, IsAtLeast, IsPlan, IsBestOf}
use Rattle.schedules.specs.Limits.{AreLimits}
use Rattle.schedules.proofs.Covering.{Below, rise_covers, covers_below, after_first, next_covers}
use Rattle.schedules.proofs.Moving.{Raised, raised, over, held_rest, rise_rest}
use Rattle.schedules.proofs.Marked.{AllStart, Matched, matched}
use Rattle.schedules.proofs.Choosing.{not_after_less}
use Rattle.schedules.proofs.Energies.{energy_is}

length_starts : (steps : List Step) → length (starts steps) ≡ length steps
length_starts [] = refl
length_starts (s ∷ steps) = ap suc (length_starts steps)

next_starts : (departure : ℕ) (one other : List Step) → starts one ≡ starts other → next departure one ≡ next departure other
next_starts departure [] [] h = refl
next_starts departure [] (o ∷ os) h = absurd (cc)
next_starts departure (s ∷ ss) [] h = absurd (cc)
next_starts departure (s ∷ ss) (o ∷ os) h = cc

starts_append : (xs ys : List Step) (t : ℕ) → Starts ys t → Starts (xs ++ ys) t
starts_append [] ys t h = h
starts_append (x ∷ xs) ys t h = inr (starts_append xs ys t h)

module _ (departure : ℕ) where
  -- covering steps start where limits do
  covers_start : (limits steps whole : List Step) → Covers limits steps → ((t : ℕ) → Starts limits t → Starts whole t) → AllStart whole steps
  covers_start limits [] whole h inside = tt
  covers_start limits (s ∷ steps) whole h inside =
      let in' : (t : ℕ) → Starts (h.0 ∷ (h.1 ++ h.2)) t → Starts whole t = λ t k. inside t (subst (λ xs. Starts xs t) (sym h.3) k) in
      (in' s.start (inl (sym h.4)), covers_start h.2 steps whole h.6 (λ t k. in' t (inr (starts_append h.1 h.2 t k))))

  -- no steps within the limits that have the starts of covering ones hold more
  covers_full : (limits steps other : List Step) (low : ℕ) → RiseWithin low departure limits → RiseWithin low departure other → Covers limits steps →
      starts other ≡ starts steps → Below departure (next departure limits) other limits → Below departure (next departure limits) other steps
  covers_full limits [] [] low rise climbs h same below t begun k = omega arith
  covers_full limits [] (o ∷ os) low rise climbs h same below t begun k = absurd (cc)
  covers_full limits (s ∷ steps) [] low rise climbs h same below t begun k = absurd (cc)
  covers_full limits (s ∷ steps) (o ∷ os) low rise climbs h same below t begun k =
      let start : o.start ≡ s.start = cc in
      let tails : starts os ≡ starts steps = cc in
      let joint : next departure os ≡ next departure h.2 = next_starts departure os steps tails ∙ next_covers departure h.2 steps h.6 in
      let mine : next departure steps ≡ next departure h.2 = next_covers departure h.2 steps h.6 in
      let first : next departure limits ≡ h.0.start = ap (next departure) h.3 in
      let left : RiseWithin low departure h.2 = rise_rest departure limits h.0 h.1 h.2 low h.3 rise in
      let rest_within : next departure h.2 ≤ departure = next_within h.2 low departure left in
      let begun_rest : h.0.start < next departure h.2 = after_first departure h.0 h.1 h.2 low (subst (RiseWithin low departure) h.3 rise) in
      elim (cases_lt t (next departure h.2)) [
        | inl lt ↦
            omega (
              arith,
              held_first o os low departure 0 t climbs (omega (arith, h.4)) (omega arith),
              held_first s steps low departure 0 t (rise_covers departure limits (s ∷ steps) low rise h) (omega (arith, h.4)) (omega arith),
              h.5,
              over departure limits h.0 h.1 h.2 o.watts low h.3 rise (λ u late lasts.
                  omega (arith, below u (omega arith) (omega (arith, lasts, rest_within)), held_first o os low departure 0 u climbs (omega (arith, h.4)) (omega arith))),
            )
        | inr ge ↦
            omega (
              arith,
              held_begun o os 0 t (omega (arith, h.4)),
              held_from os departure o.watts 0 t (omega arith) k,
              held_begun s steps 0 t (omega (arith, h.4)),
              held_from steps departure s.watts 0 t (omega arith) k,
              covers_full h.2 steps os low (rise_rest departure limits h.0 h.1 h.2 low h.3 rise) (rise_lower os (o.start + 1) low departure (omega (arith, climbs.0)) climbs.2) h.6 tails
                  (λ u late l. omega (
                    arith,
                    below u (omega (arith, begun_rest)) l,
                    held_begun o os 0 u (omega (arith, h.4, begun_rest)),
                    held_from os departure o.watts 0 u (omega arith) l,
                    held_rest departure limits h.0 h.1 h.2 u h.3 late l,
                  ))
                  t ge k,
            )
      ]

next_begins : (departure t : ℕ) (steps : List Step) → Begins t steps → next departure steps ≡ t
next_begins departure t [] h = absurd h
next_begins departure t (s ∷ steps) h = h

begins_next : (departure t : ℕ) (steps : List Step) → next departure steps ≡ t → t < departure → Begins t steps
begins_next departure t [] h below = absurd (omega arith)
begins_next departure t (s ∷ steps) h below = h

module _ (schedule : Schedule) (cap departure : ℕ) (limits : List Step) (a : AreLimits schedule cap departure limits) where
  marked_steps : (steps : List Step) → AllStart limits steps → IsMarked schedule steps
  marked_steps [] h = tt
  marked_steps (s ∷ steps) h = (a.marked s.start h.0, marked_steps steps h.1)

  started_steps : (steps : List Step) (low : ℕ) → RiseWithin low departure steps → IsMarked schedule steps → AllStart limits steps
  started_steps [] low rise h = tt
  started_steps (s ∷ steps) low rise h = (a.marks s.start rise.1 h.0, started_steps steps (s.start + 1) rise.2 h.1)

  within_limits : (other : List Step) → IsWithin schedule cap departure other → Below departure 0 other limits
  within_limits other h t begun below = omega (arith, h t below, a.power t below)

  some : 0 < departure
  some = elim_limits limits a.begins a.rise where
    elim_limits : (ls : List Step) → Begins 0 ls → RiseWithin 0 departure ls → 0 < departure
    elim_limits [] h rise = absurd h
    elim_limits (l ∷ ls) h rise = omega (arith, rise.1)

  starts_at : (o : Step) → o.start ≡ 0 → next departure limits ≡ o.start
  starts_at o h = next_begins departure 0 limits a.begins ∙ sym h

  module _ (sum : ℕ) (steps : List Step) (plan : IsPlan departure limits sum steps) (best : IsBestOf departure 24 limits steps) where
    climbs : RiseWithin 0 departure steps
    climbs = rise_covers departure limits steps 0 a.rise plan.covers

    measured : energy steps departure ≡ plan_energy departure steps
    measured = energy_is steps departure climbs

    at_most : (other : List Step) → IsAtLeast departure steps other → plan_energy departure other ≤ plan_energy departure steps
    at_most other (inl h) = omega arith
    at_most other (inr h) = omega (arith, h.0)

    most : (other : List Step) → IsAllowed schedule cap departure other → energy other departure ≤ energy steps departure
    most [] h = absurd h.profile.begins
    most (o ∷ os) h =
        let r : Raised departure limits (suc (length os)) (plan_energy departure (o ∷ os)) =
        raised departure (length os) limits o os 0 (omega arith) a.rise h.profile.rise (starts_at o h.profile.begins)
        (λ t begun below. within_limits (o ∷ os) h.within t (omega arith) below) in
        omega (arith, r.much, at_most r.steps (best.best r.steps r.covers (omega (arith, r.few, h.profile.few))), measured, energy_is (o ∷ os) departure h.profile.rise)

    no_better : (other m : List Step) → length m ≡ length other → starts m ≡ starts other → energy other departure ≤ plan_energy departure m →
        IsAtLeast departure steps m → IsBetter departure other steps → ⊥
    no_better other m long same much (inl h) (inl k) = omega (arith, measured)
    no_better other m long same much (inl h) (inr k) = omega (arith, measured, k.0)
    no_better other m long same much (inr h) (inl k) = omega (arith, measured, h.0)
    no_better other m long same much (inr h) (inr k) =
        elim h.1 [
          | inl fewer ↦ elim k.1 [ inl fewer' ↦ omega (arith, long) | inr tie' ↦ omega (arith, long, tie'.0) ]
          | inr tie ↦ elim k.1 [
            | inl fewer' ↦ omega (arith, long, tie.0)
            | inr tie' ↦ not_after_less (starts steps) (starts m) tie.1 (subst (λ xs. IsLess xs (starts steps)) (sym same) tie'.1)
          ]
        ]

    unbeaten : (other : List Step) → IsAllowed schedule cap departure other → IsMarked schedule other → IsBetter departure other steps → ⊥
    unbeaten [] h marked better = h.profile.begins
    unbeaten (o ∷ os) h marked better =
        let all : AllStart limits (o ∷ os) = started_steps (o ∷ os) 0 h.profile.rise marked in
        let m : Matched departure limits (o ∷ os) =
        matched departure limits o os 0 a.rise h.profile.rise (starts_at o h.profile.begins)
        (λ t begun below. within_limits (o ∷ os) h.within t (omega arith) below) all.1 in
        let long : length m.steps ≡ length (o ∷ os) = sym (length_starts m.steps) ∙ ap length m.same ∙ length_starts (o ∷ os) in
        no_better (o ∷ os) m.steps long m.same (omega (arith, m.much, energy_is (o ∷ os) departure h.profile.rise))
        (best.best m.steps m.covers (omega (arith, long, h.profile.few))) better

    pub answered : IsBest schedule cap departure steps
    answered = record {
      allowed = record {
        profile = record {
          begins = begins_next departure 0 steps (next_covers departure limits steps plan.covers ∙ next_begins departure 0 limits a.begins) some;
          rise = climbs;
          few = best.few;
        };
        within = λ t below. omega (
          arith,
          a.power t below,
          covers_below departure limits steps 0 a.rise plan.covers t (omega (arith, next_begins departure 0 limits a.begins)) below,
        );
      };
      marked = marked_steps steps (covers_start departure limits steps limits plan.covers (λ t h. h));
      full = λ other h same t below.
          covers_full departure limits steps other 0 a.rise h.profile.rise plan.covers same (λ u begun k. within_limits other h.within u (omega arith) k)
          t (omega (arith, next_begins departure 0 limits a.begins)) below;
      most = most;
      best = unbeaten;
    }

    pub measures : sum ≡ energy steps departure
    measures = plan.energy ∙ sym measured
