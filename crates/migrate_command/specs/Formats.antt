-- Own: a trace of format 1 in a file of at most 268,435,456 bytes (256 MiB), and the line at which any other text is refused.
use Rattle.std.specs.Prelude.{◌≡◌, ◌≢◌, ◌⊎◌, ℕ, ◌+◌, ◌≤◌, List, ◌++◌, length, reverse}
use Rattle.charge_world.specs.declared.entry.Entry.{Entry}
use Rattle.trace_text.specs.Pasts.{first_line_1, trace_text, trace_text_1}
use Rattle.trace_reading.specs.declared.format.Format.TheVariants.{Plain}
use Rattle.trace_reading.specs.Readings.{IsGood, IsBadBehind}
use Rattle.trace_files.specs.Recordings.{longest_text, IsOverLimit}

-- posts are numbered from 1 to 8
abbrev pub posts : ℕ
posts = 8

-- the text of these entries, the oldest first, in format 1
pub record IsPlainTrace (text : List ℕ) (entries : List Entry) : Type 0 where
  pub within : length text ≤ longest_text
  pub good : IsGood Plain posts (reverse entries)
  pub whole : text ≡ trace_text_1 (reverse entries)

-- their text in format 2
abbrev pub numbered_text : List Entry → List ℕ
numbered_text entries = trace_text (reverse entries)

-- the first line is another than that of format 1
pub record IsOtherFirst (text : List ℕ) (number : ℕ) : Type 0 where
  pub other : (more : List ℕ) → text ≢ first_line_1 ++ more
  pub count : number ≡ 1

-- behind the lines of a past more follows that doesn't begin with the line of an entry
pub record IsOtherLater (text : List ℕ) (number : ℕ) : Type 0 where
  pub past : List Entry
  pub behind : IsBadBehind posts Plain text past
  pub count : number ≡ length past + 2

pub record IsOtherWithin (text : List ℕ) (number : ℕ) : Type 0 where
  pub within : length text ≤ longest_text
  pub other : IsOtherFirst text number ⊎ IsOtherLater text number

-- the line at which a text is refused: the one in which it passes the limit, or the first that is outside format 1
abbrev pub IsRefusedAt : List ℕ → ℕ → Type 0
IsRefusedAt text number = IsOverLimit text number ⊎ IsOtherWithin text number
