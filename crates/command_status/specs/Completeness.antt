-- Own: how a command ends where no call on the outside failed.
use Rattle.std.specs.Prelude.{◌≡◌, ◌⊎◌, ℕ, List, [], ◌∷◌}
use Rattle.command_status.specs.declared.status.Status.{Status}
use Rattle.command_status.specs.declared.status.Status.TheVariants as status

-- none of these counts of faults, before and behind a command, rose
abbrev pub NoneRose : List (ℕ × ℕ) → Type 0
NoneRose [] = Unit {0}
NoneRose (count ∷ counts) = (count.1 ≡ count.0) × NoneRose counts

-- the status is one of these
abbrev pub IsOneOf : List Status → Status → Type 0
IsOneOf [] s = ⊥
IsOneOf (x ∷ xs) s = (s ≡ x) ⊎ IsOneOf xs s

-- where no call failed, the job was done, memory ran out, or what the command was given decided on one of these
abbrev pub Completes : List (ℕ × ℕ) → List Status → Status → Type 0
Completes counts decided s = NoneRose counts → IsOneOf (status.Done ∷ status.NoMemory ∷ decided) s
