-- Own: an item of which the spelling that is written is known, and a pen.
use Rattle.std.specs.Prelude.{◌≡◌, ℕ, ◌+◌, ◌*◌, ◌<◌, Bool, List, [], length}
use Rattle.exi_bits.specs.Pens.{written_bits, Writes, Needs}
use Rattle.exi_bits.specs.declared.pen.BitPen.{BitPen}
use Rattle.exi_bits.specs.declared.pen.Full.{Full}
use Rattle.exi_schema.specs.declared.tables.Datatype.{Datatype}
use Rattle.exi_reading.specs.Trees.{Value}
use Rattle.exi_reading.specs.Values.{WritesValue}

-- the pen has written a spelling behind the others
abbrev pub Puts : (List Bool → Type 0) → BitPen → BitPen → Type 0
Puts Spells old new = (bits : List Bool) × Spells bits × Writes old new bits

-- the room is too small for the spelling
abbrev pub Lacks : (List Bool → Type 0) → BitPen → Type 0
Lacks Spells pen = (bits : List Bool) × Spells bits × Needs pen (length bits)

-- so many bits spell it
abbrev pub HasLength : (List Bool → Type 0) → ℕ → Type 0
HasLength Spells n = (bits : List Bool) × Spells bits × (n ≡ length bits)

-- what was written and the spelling have so many bits together
abbrev pub NeedsInAll : (List Bool → Type 0) → BitPen → Full → Type 0
NeedsInAll Spells pen full = (bits : List Bool) × Spells bits × (full.bits ≡ length (written_bits pen) + length bits)

-- the pen has written some bits behind the others, or none
abbrev pub WritesMore : BitPen → BitPen → Type 0
WritesMore old new = (bits : List Bool) × Writes old new bits

-- more bits than the room has
abbrev pub PassesRoom : BitPen → Full → Type 0
PassesRoom pen full = 8 * length pen.room.now < full.bits

-- a value that is no text, as it is written
abbrev pub WritesPlain : Datatype → Value → List Bool → Type 0
WritesPlain datatype value bits = WritesValue datatype [] 0 value bits []
