-- Own: the past that a fake wire keeps.
use Rattle.std.specs.Prelude.{ℕ, ◌+◌, ◌≤◌, Bool, List, length, take, drop, map, Option, Some, None, reverse, if◌then◌else◌}
use Rattle.std.specs.List.{AllByRecursion}
use Rattle.charge_world.specs.declared.entry.Entry.{Entry}
use Rattle.charge_world.specs.declared.entry.Entry.TheVariants as entry
use Rattle.charge_world.specs.declared.log.Note.{Note}
use Rattle.charge_world.specs.declared.log.Note.TheVariants as note
use Rattle.charge_world.specs.declared.log.Kept.{Kept}

-- the entry of a note with these bytes
abbrev pub entry_with : Note → List ℕ → Entry
entry_with (note.Heard heard) bytes = entry.Heard heard bytes
entry_with note.Lost bytes = entry.Lost
entry_with (note.Sent post taken) bytes = entry.Sent post bytes taken
entry_with (note.Answered post taken) bytes = entry.Answered post bytes taken
entry_with (note.Drove post order taken) bytes = entry.Drove post order taken
entry_with (note.Dialed port taken) bytes = entry.Dialed port taken
entry_with (note.Ended post cause) bytes = entry.Ended post cause

abbrev pub entry_of : List ℕ → Kept → Entry
entry_of bytes k = entry_with k.note (take k.len (drop k.from bytes))

-- the newest entry first; none once the room was used up
abbrev pub past_of : Bool → List ℕ → List Kept → Option (List Entry)
past_of full bytes kept = if full then None else Some (reverse (map (entry_of bytes) kept))

-- the bytes of each entry are there
abbrev pub AllFit : List ℕ → List Kept → Type 0
AllFit bytes kept = AllByRecursion (λ k. k.from + k.len ≤ length bytes) kept
