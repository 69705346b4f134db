-- The bounds of an allowed profile's steps.
use Rattle.std.proofs.Common.{◌≡◌, ℕ, ◌+◌, ◌<◌, ◌≤◌, min, nat_lt, cond, List, [], ◌∷◌, length, ◌∙◌, arith}
use Rattle.std.specs.List.{AllByRecursion}
use Rattle.schedules.specs.declared.power.Step.{Step}
use Rattle.schedules.specs.declared.power.Schedule.{Schedule}
use Rattle.schedules.specs.Steps.{held, watts_at, Begins, RiseWithin}
use Rattle.schedules.specs.Profiles.{IsBest}
use Rattle.schedules.proofs.Holding.{held_before, held_begun}
use Rattle.schedules.specs.Bounds.{IsBounded, AreBounded}

-- a step's watts hold at its start
pub own_watts : (s : Step) (steps : List Step) (low end before : ℕ) → RiseWithin low end (s ∷ steps) → held before (s ∷ steps) s.start ≡ s.watts
own_watts s steps low end before rise =
    held_begun s steps before s.start (omega arith) ∙ held_before steps (s.start + 1) end s.watts s.start rise.2 (omega arith)

each_bounded : (steps : List Step) (cap departure low before : ℕ) → RiseWithin low departure steps
    → ((t : ℕ) → low ≤ t → t < departure → held before steps t ≤ cap) → AllByRecursion (IsBounded cap departure) steps
each_bounded [] cap departure low before rise within = tt
each_bounded (s ∷ steps) cap departure low before rise within =
    let here = within s.start rise.0 rise.1 in
    let own = own_watts s steps low departure before rise in
    let rest : (t : ℕ) → s.start + 1 ≤ t → t < departure → held s.watts steps t ≤ cap =
    λ t least below.
    let whole = within t (omega (arith, rise.0, least)) below in
    let same = held_begun s steps before t (omega (arith, least)) in
    omega (arith, whole, same) in
    ((rise.1, omega (arith, here, own)), each_bounded steps cap departure (s.start + 1) s.watts rise.2 rest)

has_one : (steps : List Step) (t : ℕ) → Begins t steps → 1 ≤ length steps
has_one [] t begins = absurd begins
has_one (s ∷ steps) t begins = omega arith

capped : (n cap m : ℕ) → n ≤ min cap m → n ≤ cap
capped n cap m h = omega (arith, h)

pub bounded : (schedule : Schedule) (cap departure : ℕ) (steps : List Step) → IsBest schedule cap departure steps → AreBounded cap departure steps
bounded schedule cap departure steps best = record {
  some = has_one steps 0 best.allowed.profile.begins;
  few = best.allowed.profile.few;
  each =
      each_bounded steps cap departure 0 0 best.allowed.profile.rise
      (λ t least below. capped (watts_at steps t) cap (cond (nat_lt t schedule.end) (watts_at schedule.entries.items t) 0) (best.allowed.within t below));
}
