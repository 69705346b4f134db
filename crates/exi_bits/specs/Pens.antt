-- Own: what a pen has written.
use Rattle.std.specs.Prelude.{◌≡◌, ℕ, ◌+◌, ◌*◌, ◌<◌, Bool, List, ◌++◌, length, take}
use Rattle.exi_spec.specs.Bits.{bits_of}
use Rattle.exi_bits.specs.declared.pen.BitPen.{BitPen}

-- the bits that are written
abbrev pub written_bits : BitPen → List Bool
written_bits pen = take pen.bits (bits_of pen.room.now)

-- the pen has written these bits behind the others, into the same room
pub record Writes (old new : BitPen) (bits : List Bool) : Type 0 where
  pub written : written_bits new ≡ written_bits old ++ bits
  pub room : length new.room.now ≡ length old.room.now
  pub lent : new.room.ghost_name ≡ old.room.ghost_name

-- n bits more are more than the room has
abbrev pub Needs : BitPen → ℕ → Type 0
Needs pen n = 8 * length pen.room.now < length (written_bits pen) + n

-- nothing is changed
pub record SamePen (old new : BitPen) : Type 0 where
  pub room : new.room.now ≡ old.room.now
  pub written : written_bits new ≡ written_bits old
  pub lent : new.room.ghost_name ≡ old.room.ghost_name
