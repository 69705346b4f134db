-- Steps that change the power and hold the same are the same.
use Rattle.std.proofs.Common.{◌≡◌, ℕ, zero, suc, ◌+◌, ◌<◌, ◌≤◌, List, [], ◌∷◌, refl, sym, ap, ◌∙◌, arith, inl, inr}
use Rattle.std.proofs.lemmas.Bool.{cases_order}
use Rattle.schedules.specs.declared.power.Step.{Step}
use Rattle.schedules.specs.Steps.{held, watts_at, Begins, RiseWithin, ChangesFrom, NeighboursDiffer}
use Rattle.schedules.specs.Offers.{IsOffer}
use Rattle.schedules.proofs.Holding.{held_first, held_before, held_begun}

-- a step that starts where the other list still holds `before` changes nothing
idle : (s : Step) (steps other : List Step) (low end before : ℕ) → RiseWithin low end (s ∷ steps) → RiseWithin (s.start + 1) end other →
    held before (s ∷ steps) s.start ≡ held before other s.start → s.watts ≡ before
idle s steps other low end before rise later same =
    sym (held_begun s steps before s.start (omega arith) ∙ held_before steps (s.start + 1) end s.watts s.start rise.2 (omega arith))
    ∙ same ∙ held_before other (s.start + 1) end before s.start later (omega arith)

later_still : (s : Step) (steps : List Step) (low end t : ℕ) → RiseWithin low end (s ∷ steps) → t < s.start → RiseWithin (t + 1) end (s ∷ steps)
later_still s steps low end t rise h = (omega arith, rise.1, rise.2)

abbrev step_of : ℕ → ℕ → Step
step_of start watts = record { start = start; watts = watts }

same_step : (s t : Step) → s.start ≡ t.start → s.watts ≡ t.watts → s ≡ t
same_step s t start watts = ap (λ a. step_of a s.watts) start ∙ ap (λ w. step_of t.start w) watts

same_steps : (one other : List Step) (low end before : ℕ) → RiseWithin low end one → RiseWithin low end other → ChangesFrom before one → ChangesFrom before other →
    ((t : ℕ) → low ≤ t → t < end → held before one t ≡ held before other t) → one ≡ other
same_steps [] [] low end before r q c d same = refl
same_steps [] (t ∷ ts) low end before r q c d same = absurd (d.0 (idle t ts [] low end before q tt (sym (same t.start q.0 q.1))))
same_steps (s ∷ ss) [] low end before r q c d same = absurd (c.0 (idle s ss [] low end before r tt (same s.start r.0 r.1)))
same_steps (s ∷ ss) (t ∷ ts) low end before r q c d same =
    elim (cases_order s.start t.start) [
      | inr (inl lt) ↦ absurd (c.0 (idle s ss (t ∷ ts) low end before r (later_still t ts low end s.start q lt) (same s.start r.0 r.1)))
      | inr (inr gt) ↦ absurd (d.0 (idle t ts (s ∷ ss) low end before q (later_still s ss low end t.start r gt) (sym (same t.start q.0 q.1))))
      | inl eq ↦
          let at : (u : ℕ) → s.start ≤ u → u < end → held s.watts ss u ≡ held t.watts ts u =
          λ u h below. sym (held_begun s ss before u h) ∙ same u (omega (arith, r.0)) below ∙ held_begun t ts before u (omega arith) in
          let watts : s.watts ≡ t.watts =
          sym (held_before ss (s.start + 1) end s.watts s.start r.2 (omega arith)) ∙ at s.start (omega arith) r.1
          ∙ held_before ts (t.start + 1) end t.watts s.start q.2 (omega arith) in
          let rest : ss ≡ ts =
          same_steps ss ts (s.start + 1) end s.watts r.2 (rw eq q.2) c.1 (rw watts d.1)
          (λ u h below. at u (omega arith) below ∙ ap (λ w. held w ts u) (sym watts)) in
          let step : s ≡ t = same_step s t eq watts in
          cc
    ]

-- offers of one calendar at a moment
pub same_offers : (calendar : List Step) (moment : ℕ) (one other : List Step) → IsOffer calendar moment one → IsOffer calendar moment other → one ≡ other
same_offers calendar moment [] other p q = absurd p.begins
same_offers calendar moment (s ∷ ss) [] p q = absurd q.begins
same_offers calendar moment (s ∷ ss) (t ∷ ts) p q =
    let at : (u : ℕ) → u < 86400 → held s.watts ss u ≡ held t.watts ts u =
    λ u below. sym (held_begun s ss 0 u (omega (arith, p.begins))) ∙ p.power u below ∙ sym (q.power u below) ∙ held_begun t ts 0 u (omega (arith, q.begins)) in
    let watts : s.watts ≡ t.watts =
    sym (held_before ss (s.start + 1) 86400 s.watts 0 p.rise.2 (omega arith)) ∙ at 0 (omega arith)
    ∙ held_before ts (t.start + 1) 86400 t.watts 0 q.rise.2 (omega arith) in
    let eq : s.start ≡ t.start = p.begins ∙ sym q.begins in
    let rest : ss ≡ ts =
    same_steps ss ts (s.start + 1) 86400 s.watts p.rise.2 (rw eq q.rise.2) p.changes (rw watts q.changes)
    (λ u h below. at u below ∙ ap (λ w. held w ts u) (sym watts)) in
    let step : s ≡ t = same_step s t eq watts in
    cc
