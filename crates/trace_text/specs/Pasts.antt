-- Own: the whole text of a past, whose newest entry stands first: a first line that names the format, and then one line
-- for each entry, the oldest first.
use Rattle.std.specs.Prelude.{◌≡◌, ℕ, ◌^◌, ◌<◌, Bool, true, false, List, [], ◌∷◌, ◌++◌, codes, ◌+◌, if◌then◌else◌}
use Rattle.std.specs.List.{AllByRecursion, list_any}
use Rattle.charge_world.specs.declared.entry.Entry.{Entry}
use Rattle.charge_world.specs.declared.entry.Entry.TheVariants as entry
use Rattle.charge_world.specs.declared.heard.What.{What}
use Rattle.charge_world.specs.declared.heard.What.TheVariants.{Over}
use Rattle.trace_text.specs.TraceText.{line_of, numbered_line_of, IsLine, IsLine1}

-- a hearing is something heard, or that nothing was
abbrev pub is_hearing : Entry → Bool
is_hearing (entry.Heard heard bytes) = true
is_hearing entry.Lost = true
is_hearing _ = false

-- the number of an entry's hearing: how many there are up to it, so 0 for a call before every hearing
abbrev pub hearing_number : List Entry → ℕ
hearing_number [] = 0
hearing_number (e ∷ past) = (if is_hearing e then 1 else 0) + hearing_number past

-- the lines of a past, each of which depends on what was before
abbrev pub lines_by : (List Entry → Entry → List ℕ) → List Entry → List ℕ
lines_by line [] = []
lines_by line (e ∷ past) = lines_by line past ++ line past e

abbrev pub line_after : List Entry → Entry → List ℕ
line_after past e = line_of e

abbrev pub numbered_after : List Entry → Entry → List ℕ
numbered_after past e = numbered_line_of (hearing_number (e ∷ past)) e

-- the text in format 1 and in format 2
abbrev pub first_line_1 : List ℕ
first_line_1 = codes "v2g-trace 1\n"

abbrev pub first_line_2 : List ℕ
first_line_2 = codes "v2g-trace 2\n"

abbrev pub trace_text_1 : List Entry → List ℕ
trace_text_1 past = first_line_1 ++ lines_by line_after past

abbrev pub trace_text : List Entry → List ℕ
trace_text past = first_line_2 ++ lines_by numbered_after past

-- ---- the pasts that have a text

-- nothing is heard behind these
abbrev pub is_last_what : What → Bool
is_last_what Over = true
is_last_what _ = false

abbrev pub is_last_hearing : Entry → Bool
is_last_hearing (entry.Heard heard bytes) = is_last_what heard.what
is_last_hearing entry.Lost = true
is_last_hearing _ = false

abbrev pub HearsToTheLast : List Entry → Type 0
HearsToTheLast [] = Unit {0}
HearsToTheLast (e ∷ past) = (is_hearing e ≡ true → list_any is_last_hearing past ≡ false) × HearsToTheLast past

-- in format 1 and in format 2
abbrev pub IsTrace1 : List Entry → Type 0
IsTrace1 past = AllByRecursion IsLine1 past × HearsToTheLast past

abbrev pub IsTrace : List Entry → Type 0
IsTrace past = AllByRecursion IsLine past × HearsToTheLast past × (hearing_number past < 2 ^ 64)
