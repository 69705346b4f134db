-- Own: what a wire in memory does with its script.
use Rattle.std.specs.Prelude.{false, ◌≡◌, ◌⊎◌, ◌↔◌, ℕ, ◌+◌, ◌≤◌, List, [], ◌∷◌, ◌++◌, length, slice_index_or, Option, Some, None, IsSome, if◌then◌else◌}
use Rattle.charge_world.specs.declared.heard.Heard.{Heard}
use Rattle.charge_world.specs.declared.heard.What.TheVariants as what
use Rattle.charge_world.specs.declared.memory_wire.Scripted.{Scripted}
use Rattle.charge_world.specs.declared.memory_wire.MemoryWire.{MemoryWire}
use Rattle.charge_world.specs.declared.memory_sink.MemorySink.{MemorySink}
use Rattle.charge_world.specs.declared.memory_source.MemorySource.{MemorySource}
use Rattle.charge_world.specs.declared.memory_source.NamedFile.{NamedFile}
use Rattle.charge_world.specs.Fakes.{HasRoom, Spends}
use Rattle.charge_world.specs.Scripting.{FitsAt, NoneFits, moment_of}

-- as it is made
pub record IsUnused (script : List Scripted) (failing : List ℕ) (entries bytes : ℕ) (w : MemoryWire) : Type 0 where
  pub script_is : w.script.items ≡ script
  pub at : w.at ≡ 0
  pub started : w.started ≡ None
  pub failing_are : w.outages.failing ≡ failing
  pub calls : w.outages.calls ≡ 0
  pub log : w.log ≡ record { past = Some []; entries = entries; bytes = bytes }
  pub untils : w.untils ≡ record { items = []; left = entries }

-- nothing but the place in the script
pub record Untouched (old new : MemoryWire) : Type 0 where
  pub script : new.script ≡ old.script
  pub log : new.log ≡ old.log
  pub untils : new.untils ≡ old.untils
  pub outages : new.outages ≡ old.outages
  pub posts : new.posts ≡ old.posts
  pub started : new.started ≡ old.started

-- the past stays told exactly where one `until` more has room; it is then the newest, and that room is spent
pub record KeepsUntil (until : ℕ) (old new : MemoryWire) : Type 0 where
  pub told : IsSome new.log.past ↔ (IsSome old.log.past × (1 ≤ old.untils.left))
  pub log : IsSome new.log.past → new.log ≡ old.log
  pub items : IsSome new.log.past → new.untils.items ≡ old.untils.items ++ until ∷ []
  pub left : IsSome new.log.past → new.untils.left + 1 ≡ old.untils.left
  pub script : new.script ≡ old.script
  pub at : new.at ≡ old.at
  pub outages : new.outages ≡ old.outages
  pub posts : new.posts ≡ old.posts
  pub started : new.started ≡ old.started

-- one entry with so many bytes is noted, and no `until`
pub record Notes (old new : MemoryWire) (n : ℕ) : Type 0 where
  pub log : Spends old.log new.log n
  pub untils : new.untils ≡ old.untils

-- the same with one `until` more: the past stays told exactly where both have room
pub record NotesHearing (old new : MemoryWire) (n : ℕ) : Type 0 where
  pub told : IsSome new.log.past ↔ (HasRoom old.log n × (1 ≤ old.untils.left))
  pub entries : IsSome new.log.past → new.log.entries + 1 ≡ old.log.entries
  pub bytes : IsSome new.log.past → new.log.bytes + n ≡ old.log.bytes
  pub untils : IsSome new.log.past → new.untils.left + 1 ≡ old.untils.left

-- the first event that fits is given, and is used up; Over at the last moment where there is none, or the room was used up
pub record Gives (old : MemoryWire) (heard : Heard) (new : MemoryWire) : Type 0 where
  pub place : ℕ
  pub fits : FitsAt old.posts old.script.items old.at place
  pub heard_is : (d : Scripted) → heard ≡ (slice_index_or old.script.items place d).heard
  pub at : new.at ≡ place + 1

pub record GivesOver (old : MemoryWire) (heard : Heard) (new : MemoryWire) : Type 0 where
  pub over : heard.what ≡ what.Over
  pub moment : heard.at ≡ moment_of old.script.items
  pub why : (old.log.past ≡ None) ⊎ NoneFits old.posts old.script.items old.at (length old.script.items)
  pub at : new.at ≡ old.at

abbrev pub IsGiven : MemoryWire → Heard → MemoryWire → Type 0
IsGiven old heard new = Gives old heard new ⊎ GivesOver old heard new

-- a sink as it is made
pub record IsEmptySink (failing : List ℕ) (room : ℕ) (s : MemorySink) : Type 0 where
  pub bytes : s.bytes ≡ record { items = []; left = room }
  pub open_still : s.full ≡ false
  pub failing_are : s.outages.failing ≡ failing
  pub calls : s.outages.calls ≡ 0

-- the bytes taken so far, none once they aren't told any more
abbrev pub bytes_told : MemorySink → Option (List ℕ)
bytes_told s = if s.full then None else Some s.bytes.items

-- the bytes stay told exactly where so many more have room, and that room is spent
pub record SpendsBytes (old new : MemorySink) (n : ℕ) : Type 0 where
  pub told : (new.full ≡ false) ↔ ((old.full ≡ false) × (n ≤ old.bytes.left))
  pub left : new.full ≡ false → new.bytes.left + n ≡ old.bytes.left

-- a source as it is made
pub record IsUnread (files : List NamedFile) (failing : List ℕ) (s : MemorySource) : Type 0 where
  pub files_are : s.files.items ≡ files
  pub none_begun : s.current ≡ length files
  pub at : s.at ≡ 0
  pub failing_are : s.outages.failing ≡ failing
  pub calls : s.outages.calls ≡ 0
