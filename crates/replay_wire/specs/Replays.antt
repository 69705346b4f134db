-- Own: what a replay of a trace hears, and which of its calls fail. The entries of a trace stand here with the oldest first, those of a
-- past with the newest first.
use Rattle.std.specs.Prelude.{◌≡◌, ℕ, Bool, true, if◌then◌else◌, List, [], ◌∷◌, drop}
use Rattle.std.specs.List.{AllByRecursion}
use Rattle.charge_world.specs.declared.entry.Entry.{Entry}
use Rattle.charge_world.specs.declared.entry.Entry.TheVariants as entry
use Rattle.charge_world.specs.declared.heard.What.TheVariants.{Over}
use Rattle.charge_world.specs.Outside.{IsOfPosts}
use Rattle.trace_text.specs.TraceText.{HasBytes, taken_of}
use Rattle.trace_text.specs.Pasts.{is_hearing}

-- from the next hearing on
abbrev pub from_hearing : List Entry → List Entry
from_hearing [] = []
from_hearing (e ∷ left) = if is_hearing e then e ∷ left else from_hearing left

-- a call uses up the next line, where that is no hearing
abbrev pub behind_call : List Entry → List Entry
behind_call [] = []
behind_call (e ∷ left) = if is_hearing e then e ∷ left else left

-- what is left of a trace behind a past; before the first hearing nothing is left but hearings
abbrev pub left_behind : List Entry → List Entry → List Entry
left_behind trace [] = from_hearing trace
left_behind trace (e ∷ past) = if is_hearing e then drop 1 (from_hearing (left_behind trace past)) else behind_call (left_behind trace past)

-- the moment of the last thing heard, or this one where nothing was
abbrev pub last_moment : ℕ → List Entry → ℕ
last_moment at [] = at
last_moment at (entry.Heard heard bytes ∷ trace) = last_moment heard.at trace
last_moment at (entry.Lost ∷ trace) = last_moment at trace
last_moment at (entry.Sent post bytes taken ∷ trace) = last_moment at trace
last_moment at (entry.Answered post bytes taken ∷ trace) = last_moment at trace
last_moment at (entry.Drove post order taken ∷ trace) = last_moment at trace
last_moment at (entry.Dialed port taken ∷ trace) = last_moment at trace
last_moment at (entry.Ended post cause ∷ trace) = last_moment at trace

-- the next hearing is the trace's, and Over at its last moment where it has none more
abbrev pub hearing_of : List Entry → List Entry → Entry
hearing_of trace [] = entry.Heard (record { at = last_moment 0 trace; what = Over }) []
hearing_of trace (e ∷ left) = e

-- a call fails exactly where the next line begins with `failed`; where that is a hearing, or none is left, it is taken
abbrev pub outcome_of : List Entry → Bool
outcome_of [] = true
outcome_of (e ∷ left) = taken_of e

-- an entry that comes where so much is left of the trace
abbrev pub Follows : List Entry → List Entry → Entry → Type 0
Follows trace left (entry.Heard heard bytes) = entry.Heard heard bytes ≡ hearing_of trace (from_hearing left)
Follows trace left entry.Lost = entry.Lost ≡ hearing_of trace (from_hearing left)
Follows trace left (entry.Sent post bytes taken) = taken ≡ outcome_of left
Follows trace left (entry.Answered post bytes taken) = taken ≡ outcome_of left
Follows trace left (entry.Drove post order taken) = taken ≡ outcome_of left
Follows trace left (entry.Dialed port taken) = taken ≡ outcome_of left
Follows trace left (entry.Ended post cause) = Unit {0}

-- the past is heard off the trace, and its calls fail by the trace's marks
abbrev pub IsReplayOf : List Entry → List Entry → Type 0
IsReplayOf trace [] = Unit {0}
IsReplayOf trace (e ∷ past) = Follows trace (left_behind trace past) e × IsReplayOf trace past

-- what was heard can be heard again at so many posts
abbrev pub CanBeHeard : ℕ → Entry → Type 0
CanBeHeard posts (entry.Heard heard bytes) = IsOfPosts posts heard.what × HasBytes heard.what bytes
CanBeHeard posts entry.Lost = Unit {0}
CanBeHeard posts (entry.Sent post bytes taken) = Unit {0}
CanBeHeard posts (entry.Answered post bytes taken) = Unit {0}
CanBeHeard posts (entry.Drove post order taken) = Unit {0}
CanBeHeard posts (entry.Dialed port taken) = Unit {0}
CanBeHeard posts (entry.Ended post cause) = Unit {0}

abbrev pub AllCanBeHeard : ℕ → List Entry → Type 0
AllCanBeHeard posts trace = AllByRecursion (CanBeHeard posts) trace
