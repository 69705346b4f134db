-- Own: what a text is, wherever it lies.
use Rattle.std.specs.Prelude.{ℕ, List}
use Rattle.std.specs.Str.{chars}
use Rattle.exi_bits.specs.Lent.{items_of}
use Rattle.exi_events.specs.Trees.{Value, Text as TreeText}
use Rattle.message_parts.specs.declared.texts.Text.{Text}
use Rattle.message_parts.specs.declared.texts.Text.TheVariants as text

-- its code points
abbrev pub chars_of : Text → List ℕ
chars_of (text.Lent lent) = items_of lent.span
chars_of (text.Written written) = chars written.now

abbrev pub text_value : Text → Value
text_value text = TreeText (chars_of text)
