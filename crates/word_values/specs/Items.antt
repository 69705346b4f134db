-- ISO 15118-2:2014, 8.5.2 (sessionIDType, evccIDType, EVSEID): texts and bytes as a word keeps them. A word has room for as many as a
-- message may have; that more of them count as none is own.
use Rattle.std.specs.Prelude.{ℕ, nat_le, List, [], length, encode_utf8_all, if◌then◌else◌}
use Rattle.exi_bits.specs.Lent.{items_of}
use Rattle.message_parts.specs.declared.texts.Binary.{Binary}
use Rattle.message_parts.specs.declared.texts.Text.{Text}
use Rattle.message_parts.specs.Texts.{chars_of}

-- at most n items
abbrev pub fitting : ℕ → List ℕ → List ℕ
fitting n items = if nat_le (length items) n then items else []

-- the bytes of a Binary
abbrev pub bytes_of : ℕ → Binary → List ℕ
bytes_of n binary = fitting n (items_of binary.span)

-- an EVSEID in UTF-8, of at most 37 code points
abbrev pub evse_bytes : List ℕ → List ℕ
evse_bytes points = encode_utf8_all (fitting 37 points)

abbrev pub evse_text_of : Text → List ℕ
evse_text_of text = evse_bytes (chars_of text)
