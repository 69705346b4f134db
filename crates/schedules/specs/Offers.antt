-- Own: the schedule that a station offers at a moment of a day, from its calendar. Seconds and watts.
use Rattle.std.specs.Prelude.{◌≡◌, ℕ, ◌+◌, ◌%◌, ◌<◌, ◌≤◌, List, length}
use Rattle.schedules.specs.declared.power.Step.{Step}
use Rattle.schedules.specs.Steps.{watts_at, Begins, RiseWithin, NeighboursDiffer}

-- the power of a station through each day
pub record IsCalendar (steps : List Step) : Type 0 where
  pub begins : Begins 0 steps
  pub rise : RiseWithin 0 86400 steps
  pub few : length steps ≤ 24

-- The steps of the day that begins at the moment: at each of its seconds they have the power of the calendar at that second of
-- the day, and each changes it.
pub record IsOffer (calendar : List Step) (moment : ℕ) (steps : List Step) : Type 0 where
  pub begins : Begins 0 steps
  pub rise : RiseWithin 0 86400 steps
  pub changes : NeighboursDiffer steps
  pub power : (t : ℕ) → t < 86400 → watts_at steps t ≡ watts_at calendar ((moment + t) % 86400)
