-- Own: where the hexadecimal text of a payload is refused.
use Rattle.std.specs.Prelude.{◌≡◌, ◌⊎◌, ℕ, List, Some}
use Rattle.std.specs.Str.{chars}
use Rattle.hex_payloads.specs.HexText.{hex_fault, IsHexOf}
use Rattle.exi_documents.specs.declared.refusal.RefusalCause.{RefusalCause}
use Rattle.iso_message.specs.Documents.{IsIsoRefused}

-- the text at a character, or its payload at a bit
abbrev pub IsRefusedAt : List ℕ → ℕ → Type 0
IsRefusedAt hex place =
    (hex_fault (chars hex) ≡ Some place) ⊎ ((payload : List ℕ) × (why : RefusalCause) × IsHexOf hex payload × IsIsoRefused payload why place)
