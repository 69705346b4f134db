-- Own: a text that is written, wherever it lies.
use Rattle.std.specs.Prelude.{◌≡◌, ℕ, true, List}
use Rattle.std.specs.Str.{chars}
use Rattle.exi_bits.specs.Lent.{items_of}
use Rattle.exi_writing.specs.declared.source.TextSource.{TextSource}
use Rattle.exi_writing.specs.declared.source.TextSource.TheVariants.{Lent, Written}

-- its code points
abbrev pub chars_of : TextSource → List ℕ
chars_of (Lent span) = items_of span.now
chars_of (Written text) = chars text.now

-- what is lent is a text
abbrev pub IsText : TextSource → Type 0
IsText (Lent span) = span.now.is_text ≡ true
IsText (Written text) = Unit {0}
