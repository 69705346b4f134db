-- Own: the trace in a file of at most 268,435,456 bytes (256 MiB).
use Rattle.std.specs.Prelude.{◌≡◌, ◌⊎◌, ◌==◌, ℕ, ◌+◌, ◌<◌, ◌≤◌, List, length, take, reverse}
use Rattle.std.specs.List.{count_by}
use Rattle.charge_world.specs.declared.entry.Entry.{Entry}
use Rattle.trace_reading.specs.Readings.{Tells, IsFirstBad}

abbrev pub longest_text : ℕ
longest_text = 268435456

-- the text tells these entries, the oldest first
pub record IsRecorded (posts : ℕ) (text : List ℕ) (trace : List Entry) : Type 0 where
  pub within : length text ≤ longest_text
  pub tells : Tells posts text (reverse trace)

-- the line in which the limit is passed
pub record IsOverLimit (text : List ℕ) (number : ℕ) : Type 0 where
  pub over : longest_text < length text
  pub line : number ≡ count_by (λ byte. byte == 10) (take longest_text text) + 1

pub record IsBadWithin (posts : ℕ) (text : List ℕ) (number : ℕ) : Type 0 where
  pub within : length text ≤ longest_text
  pub bad : IsFirstBad posts text number

-- the line at which a text is refused
abbrev pub IsRefusedAt : ℕ → List ℕ → ℕ → Type 0
IsRefusedAt posts text number = IsOverLimit text number ⊎ IsBadWithin posts text number
