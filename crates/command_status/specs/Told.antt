-- Own: what is told of a file and of a sink before and behind a command, and what a sink holds of its lines.
use Rattle.std.specs.Prelude.{◌≡◌, ◌<◌, ◌⊎◌, ℕ, List, Option, IsSome, IsSomeAnd}
use Rattle.charge_world.specs.Outside.{Appends, AppendsSome}
use Rattle.command_status.specs.declared.status.Status.{Status}
use Rattle.command_status.specs.declared.status.Status.TheVariants as status
use Rattle.command_status.specs.FaultLines.{Tells}

-- the text of a file, and what is left of it; the source's count of faults went from n to m
pub record FileTold : Type 0 where
  pub text : Option (List ℕ)
  pub left : Option (List ℕ)
  pub n : ℕ
  pub m : ℕ

abbrev pub file_told : Option (List ℕ) → Option (List ℕ) → ℕ → ℕ → FileTold
file_told text left n m = record { text = text; left = left; n = n; m = m }

-- a source that tells at each moment what is left of the file that it reads
abbrev pub TellsAlways : {S : Type 0} → (S → Option (List ℕ)) → Type 0
TellsAlways {S} left = (s : S) → IsSome (left s)

-- where that is so, the text of a file is told, and this holds of it
abbrev pub OfText : Type 0 → Option (List ℕ) → (List ℕ → Type 0) → Type 0
OfText tells text P = tells → IsSomeAnd text P

-- what a sink took, and its count of faults
pub record SinkTold : Type 0 where
  pub taken : Option (List ℕ)
  pub faults : ℕ

abbrev pub sink_told : Option (List ℕ) → ℕ → SinkTold
sink_told taken faults = record { taken = taken; faults = faults }

-- the line of a fault was told
abbrev pub TellsLine : List ℕ → SinkTold → SinkTold → Type 0
TellsLine line before after = Tells before.taken after.taken before.faults after.faults line

-- the lines were written whole, and no write failed
abbrev pub Writes : List ℕ → SinkTold → SinkTold → Type 0
Writes lines before after = Appends before.taken after.taken lines × (after.faults ≡ before.faults)

-- a front of them was, and the count of faults rose
abbrev pub WritesFront : List ℕ → SinkTold → SinkTold → Type 0
WritesFront lines before after = (before.faults < after.faults) × AppendsSome before.taken after.taken lines

-- the lines were printed, at this status, or couldn't be, and then a front of them was
abbrev pub PrintsAs : Status → List ℕ → Status → SinkTold → SinkTold → Type 0
PrintsAs wanted lines s before after = ((s ≡ wanted) × Writes lines before after) ⊎ ((s ≡ status.SinkFault) × WritesFront lines before after)

abbrev pub Prints : List ℕ → Status → SinkTold → SinkTold → Type 0
Prints lines s before after = PrintsAs status.Done lines s before after
