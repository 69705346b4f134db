-- Own: the line that is printed, `lines N` and a line feed; and what a call leaves of a sink.
use Rattle.std.specs.Prelude.{◌≡◌, ℕ, ◌<◌, List, ◌++◌, Option, codes, decimal}
use Rattle.charge_world.specs.Outside.{Appends, AppendsSome}
use Rattle.command_status.specs.FaultLines.{Tells}

unfoldable pub lines_line : ℕ → List ℕ
lines_line lines = codes "lines " ++ decimal lines ++ codes "\n"

-- what a sink tells before and behind a call: the bytes that it took, and its count of faults
pub record SinkChange : Type 0 where
  pub before : Option (List ℕ)
  pub after : Option (List ℕ)
  pub n : ℕ
  pub m : ℕ

abbrev pub sink_change : Option (List ℕ) → Option (List ℕ) → ℕ → ℕ → SinkChange
sink_change before after n m = record { before = before; after = after; n = n; m = m }

-- nothing was written
pub record IsUntouched (k : SinkChange) : Type 0 where
  pub same : k.after ≡ k.before
  pub faults : k.m ≡ k.n

-- the text was written
pub record IsWhole (k : SinkChange) (text : List ℕ) : Type 0 where
  pub appends : Appends k.before k.after text
  pub faults : k.m ≡ k.n

-- a write failed, and a front of the text was written
pub record IsCutOff (k : SinkChange) (text : List ℕ) : Type 0 where
  pub front : AppendsSome k.before k.after text
  pub risen : k.n < k.m

-- the line of a fault was told
abbrev pub TellsLine : List ℕ → SinkChange → Type 0
TellsLine line k = Tells k.before k.after k.n k.m line
