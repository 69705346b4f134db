-- Own: the bounds of a charging profile's steps.
use Rattle.std.specs.Prelude.{ℕ, ◌<◌, ◌≤◌, List, length}
use Rattle.std.specs.List.{AllByRecursion}
use Rattle.schedules.specs.declared.power.Step.{Step}

-- it starts before the departure, and takes no more than the cap
abbrev pub IsBounded : ℕ → ℕ → Step → Type 0
IsBounded cap departure s = (s.start < departure) × (s.watts ≤ cap)

-- there is a step, and there are no more than a profile may have
pub record AreBounded (cap departure : ℕ) (steps : List Step) : Type 0 where
  pub some : 1 ≤ length steps
  pub few : length steps ≤ 24
  pub each : AllByRecursion (IsBounded cap departure) steps
