-- Own: the past that a trace tells, and the first line of a text that is outside the grammar.
use Rattle.std.specs.Prelude.{◌≡◌, ◌≢◌, ◌⊎◌, ℕ, ◌+◌, List, [], ◌∷◌, ◌++◌, length}
use Rattle.std.specs.List.{AllByRecursion}
use Rattle.charge_world.specs.declared.entry.Entry.{Entry}
use Rattle.charge_world.specs.declared.entry.Entry.TheVariants as entry
use Rattle.charge_world.specs.Outside.{IsPost, IsOfPosts}
use Rattle.trace_text.specs.Pasts.{first_line_1, first_line_2, line_after, numbered_after, trace_text, trace_text_1, IsTrace, IsTrace1}
use Rattle.trace_reading.specs.declared.format.Format.{Format}
use Rattle.trace_reading.specs.declared.format.Format.TheVariants.{Plain, Numbered}

-- the first line, the line of an entry behind a past, and the text of a past
abbrev pub first_line_in : Format → List ℕ
first_line_in Plain = first_line_1
first_line_in Numbered = first_line_2

abbrev pub line_in : Format → List Entry → Entry → List ℕ
line_in Plain past e = line_after past e
line_in Numbered past e = numbered_after past e

abbrev pub text_in : Format → List Entry → List ℕ
text_in Plain past = trace_text_1 past
text_in Numbered past = trace_text past

-- an entry that names no post above these
abbrev pub IsOf : ℕ → Entry → Type 0
IsOf posts (entry.Heard heard bytes) = IsOfPosts posts heard.what
IsOf posts entry.Lost = Unit {0}
IsOf posts (entry.Sent post bytes taken) = IsPost posts post
IsOf posts (entry.Answered post bytes taken) = IsPost posts post
IsOf posts (entry.Drove post order taken) = IsPost posts post
IsOf posts (entry.Dialed port taken) = Unit {0}
IsOf posts (entry.Ended post cause) = IsPost posts post

-- the pasts, newest entry first, that have a text
abbrev pub IsTraceIn : Format → List Entry → Type 0
IsTraceIn Plain past = IsTrace1 past
IsTraceIn Numbered past = IsTrace past

pub record IsGood (format : Format) (posts : ℕ) (past : List Entry) : Type 0 where
  pub trace : IsTraceIn format past
  pub all_of : AllByRecursion (IsOf posts) past

-- the text is that of the past, in one format
pub record Tells (posts : ℕ) (text : List ℕ) (past : List Entry) : Type 0 where
  pub format : Format
  pub good : IsGood format posts past
  pub whole : text ≡ text_in format past

-- behind the text of this past more follows that doesn't begin with the line of an entry
pub record IsBadBehind (posts : ℕ) (format : Format) (text : List ℕ) (past : List Entry) : Type 0 where
  pub good : IsGood format posts past
  pub rest : List ℕ
  pub some : rest ≢ []
  pub front : text ≡ text_in format past ++ rest
  pub bad : (e : Entry) (more : List ℕ) → IsGood format posts (e ∷ past) → rest ≢ line_in format past e ++ more

pub record IsBadLater (posts : ℕ) (text : List ℕ) (number : ℕ) : Type 0 where
  pub format : Format
  pub past : List Entry
  pub behind : IsBadBehind posts format text past
  pub count : number ≡ length past + 2

-- lines are counted from 1, and the first names the format
pub record IsBadFirst (text : List ℕ) (number : ℕ) : Type 0 where
  pub bad : (format : Format) (more : List ℕ) → text ≢ first_line_in format ++ more
  pub count : number ≡ 1

abbrev pub IsFirstBad : ℕ → List ℕ → ℕ → Type 0
IsFirstBad posts text number = IsBadFirst text number ⊎ IsBadLater posts text number
