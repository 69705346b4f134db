-- Own: the values that are read from words.
use Rattle.std.specs.Prelude.{◌≡◌, Bool, List, ◌<◌, ◌≤◌, ◌^◌, ℕ, length}
use Rattle.hex.specs.Hex.{IsBytes}
use Rattle.charge_world.specs.declared.entry.Entry.{Entry}
use Rattle.charge_world.specs.declared.entry.Entry.TheVariants as entry
use Rattle.charge_world.specs.declared.heard.What.{What}
use Rattle.trace_text.specs.TraceText.{HasBytes, IsWhatOfTypes, InBounds, IsOfTypes, IsLine}

-- entries
abbrev pub IsRead : Entry → Type 0
IsRead e = InBounds e × IsOfTypes e

-- with the number of a hearing
abbrev pub IsNumbered : ℕ × Entry → Type 0
IsNumbered x = (x.0 < 2 ^ 64) × IsLine x.1

-- calls that were taken, or weren't
abbrev pub HasOutcome : Bool → Entry → Type 0
HasOutcome outcome (entry.Sent post bytes taken) = taken ≡ outcome
HasOutcome outcome (entry.Answered post bytes taken) = taken ≡ outcome
HasOutcome outcome (entry.Drove post order taken) = taken ≡ outcome
HasOutcome outcome (entry.Dialed port taken) = taken ≡ outcome
HasOutcome outcome _ = ⊥

abbrev pub IsCall : Bool → Entry → Type 0
IsCall outcome e = HasOutcome outcome e × IsRead e

-- bytes that went out; that were heard on a connection; that were heard as a datagram
abbrev pub AreSent : List ℕ → Type 0
AreSent bytes = (1 ≤ length bytes) × IsBytes bytes

abbrev pub AreHeard : List ℕ → Type 0
AreHeard bytes = (1 ≤ length bytes) × (length bytes ≤ 4096) × IsBytes bytes

abbrev pub IsDatagram : List ℕ → Type 0
IsDatagram bytes = (length bytes ≤ 4096) × IsBytes bytes

-- what is heard, with its bytes
abbrev pub IsHeard : What × List ℕ → Type 0
IsHeard w = HasBytes w.0 w.1 × IsWhatOfTypes w.0 × IsBytes w.1
