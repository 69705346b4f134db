-- Own: what a command leaves on the output that prints one line, which is one of these.
use Rattle.std.specs.Prelude.{◌≡◌, ℕ, List}
use Rattle.command_status.specs.declared.status.Status.{Status}
use Rattle.command_status.specs.declared.status.Status.TheVariants as status
use Rattle.command_status.specs.Told.{SinkTold, Writes, WritesFront}

-- such a line was printed so
pub record PrintsOne (IsLine P : List ℕ → Type 0) : Type 0 where
  pub line : List ℕ
  pub is : IsLine line
  pub printed : P line

-- by the status. Of a line that couldn't be written a front was
abbrev pub Printed : (List ℕ → Type 0) → Status → SinkTold → SinkTold → Type 0
Printed IsLine status.Done before after = PrintsOne IsLine (λ line. Writes line before after)
Printed IsLine status.SinkFault before after = PrintsOne IsLine (λ line. WritesFront line before after)
Printed IsLine status.NoMemory before after = (after.taken ≡ before.taken) × (after.faults ≡ before.faults)
Printed IsLine _ before after = ⊥
