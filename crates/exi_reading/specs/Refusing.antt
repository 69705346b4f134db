-- Own: a refusal of the bits from a cursor's place on.
use Rattle.std.specs.Prelude.{◌≡◌, ℕ, ◌+◌, Bool, List}
use Rattle.exi_bits.specs.Reading.{Cursor, ahead}
use Rattle.exi_values.specs.Refusal.{Refusal}
use Rattle.exi_values.specs.RefusalCause.{RefusalCause}

-- at some of them
abbrev pub Refused : (List Bool → RefusalCause → ℕ → Type 0) → Cursor → Refusal → Type 0
Refused Refuses cursor refusal =
    (at : ℕ) × Refuses (ahead cursor) refusal.cause at × (refusal.bit ≡ cursor.place + at)
