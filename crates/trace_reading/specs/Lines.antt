-- Own: one line of a trace behind others.
use Rattle.std.specs.Prelude.{◌≡◌, ◌≢◌, ℕ, ◌+◌, ◌<◌, true, false, if◌then◌else◌, nat_le, List, [], ◌∷◌, ◌++◌, length}
use Rattle.std.specs.List.{list_all, list_any}
use Rattle.charge_world.specs.declared.entry.Entry.{Entry}
use Rattle.trace_text.specs.TraceText.{line_of, numbered_line_of, IsLine, IsLine1}
use Rattle.trace_text.specs.Pasts.{is_hearing, is_last_hearing, hearing_number, lines_by, line_after, numbered_after}
use Rattle.trace_reading.specs.declared.format.Format.{Format}
use Rattle.trace_reading.specs.declared.format.Format.TheVariants.{Plain, Numbered}
use Rattle.trace_reading.specs.declared.standing.Standing.{Standing}
use Rattle.trace_reading.specs.Readings.{IsOf, IsGood, line_in}

-- the lines of a past, without the first one
abbrev pub lines_in : Format → List Entry → List ℕ
lines_in Plain past = lines_by line_after past
lines_in Numbered past = lines_by numbered_after past

-- the hearings up to an entry behind so many
abbrev pub hearings_with : ℕ → Entry → ℕ
hearings_with hearings e = (if is_hearing e then 1 else 0) + hearings

-- the line of an entry behind so many hearings, and the entries that have one
abbrev pub line_behind : Format → ℕ → Entry → List ℕ
line_behind Plain hearings e = line_of e
line_behind Numbered hearings e = numbered_line_of (hearings_with hearings e) e

abbrev pub IsLineIn : Format → Entry → Type 0
IsLineIn Plain e = IsLine1 e
IsLineIn Numbered e = IsLine e

-- an entry that may come next
pub record IsNext (s : Standing) (e : Entry) : Type 0 where
  pub line : IsLineIn s.format e
  pub posts : IsOf s.posts e
  pub hears : is_hearing e ≡ true → s.is_over ≡ false

-- how a past stands
pub record Stands (format : Format) (posts : ℕ) (past : List Entry) (s : Standing) : Type 0 where
  pub format_is : s.format ≡ format
  pub posts_are : s.posts ≡ posts
  pub hearings_are : s.hearings ≡ hearing_number past
  pub over : s.is_over ≡ list_any is_last_hearing past

-- the first line of a text with its line feed, and what is behind it; the whole text where it has none
pub record IsCut (text line rest : List ℕ) : Type 0 where
  pub whole : text ≡ line ++ rest
  pub shorter : 0 < length text → length rest < length text
  pub first : (front more : List ℕ) → list_all (λ b. nat_le 32 b) front ≡ true → text ≡ front ++ 10 ∷ more → (line ≡ front ++ 10 ∷ []) × (rest ≡ more)

-- the lines of a past are read, and what is left of the text
pub record IsReadTo (format : Format) (posts : ℕ) (lines : List ℕ) (past : List Entry) (rest : List ℕ) : Type 0 where
  pub good : IsGood format posts past
  pub whole : lines ≡ lines_in format past ++ rest

pub record IsReading (format : Format) (posts : ℕ) (lines : List ℕ) (past : List Entry) (s : Standing) (rest : List ℕ) : Type 0 where
  pub read : IsReadTo format posts lines past rest
  pub stands : Stands format posts past s

-- the line behind those of so many entries is bad
pub record IsBadAt (format : Format) (posts : ℕ) (lines : List ℕ) (number : ℕ) : Type 0 where
  pub past : List Entry
  pub rest : List ℕ
  pub read : IsReadTo format posts lines past rest
  pub some : rest ≢ []
  pub bad : (e : Entry) (more : List ℕ) → IsGood format posts (e ∷ past) → rest ≢ line_in format past e ++ more
  pub count : number ≡ length past + 2
