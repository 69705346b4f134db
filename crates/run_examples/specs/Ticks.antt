-- Own: what a wire that only ticks shows.
use Rattle.std.specs.Prelude.{ℕ, Option}
use Rattle.charge_world.specs.declared.ports.Ports.{Ports}

-- what it was started with, how many posts that were, and how many hearings it gave
pub record Ticks : Type 0 where
  pub started : Option Ports
  pub posts : ℕ
  pub hearings : ℕ
