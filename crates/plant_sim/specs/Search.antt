-- Own: how far the search for the first event has come.
use Rattle.std.specs.Prelude.{◌≡◌, ℕ, ◌<◌, ◌≤◌, ◌⊎◌, List, Option, Some, None}
use Rattle.plant_sim.specs.Charger.{IsToCome}

-- of the first n places this one comes first
pub record IsFirstBelow (moments : List (Option ℕ)) (n place moment : ℕ) : Type 0 where
  pub below : place < n
  pub to_come : IsToCome moments place moment
  pub first : (other later : ℕ) → other < n → IsToCome moments other later → (moment < later) ⊎ ((moment ≡ later) × (place ≤ other))

-- what was found among the first n places: the first to come, or that none comes
abbrev pub FoundBelow : List (Option ℕ) → ℕ → Option (ℕ × ℕ) → Type 0
FoundBelow moments n None = (place moment : ℕ) → place < n → IsToCome moments place moment → ⊥
FoundBelow moments n (Some found) = IsFirstBelow moments n found.0 found.1
