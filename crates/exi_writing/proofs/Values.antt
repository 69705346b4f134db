-- What is a value of a String datatype: a text of few enough code points.
use Rattle.std.proofs.Common.{◌≡◌, ℕ, ◌≤◌, Bool, true, false, ◌&&◌, List, [], ◌∷◌, length, refl, sym, ap, subst, arith, IsUtf8, chars}
use Rattle.std.specs.List.{AllByRecursion}
use Rattle.std.specs.Char.{IsScalar}
use Rattle.std.proofs.lemmas.Str.{scalars-chars, encodes-chars, length-le-encodes}
use Rattle.std.proofs.Math.Utf8.{scalar, scalars}
use Rattle.exi_spec.specs.Items.{SpellsChars}
use Rattle.exi_bits.specs.Lent.{Span, IsSpan, SpellsItems, items_of}
use Rattle.exi_bits.proofs.Spans.{items_of-held}
use Rattle.exi_schema.specs.declared.tables.Datatype.TheVariants.{Text as TextType}
use Rattle.exi_reading.specs.Trees.{Text}
use Rattle.exi_reading.specs.Values.{IsValue}

both : (a b : Bool) → (a && b) ≡ true → (a ≡ true) × (b ≡ true)
both true b h = (refl, h)
both false b h = absurd cc

all_scalar : (cs : List ℕ) → scalars cs ≡ true → AllByRecursion (λ char. IsScalar char) cs
all_scalar [] h = tt
all_scalar (c ∷ cs) h = let parts = both (scalar c) (scalars cs) h in (parts.0, all_scalar cs parts.1)

pub few_chars : (text : List ℕ) → IsUtf8 text → length (chars text) ≤ length text
few_chars text u = omega (arith, ap length (encodes-chars text u), length-le-encodes (chars text))

pub written_text : (text : List ℕ) (most : ℕ) → IsUtf8 text → length (chars text) ≤ most → IsValue (TextType most) (Text (chars text))
written_text text most u few = (few, all_scalar (chars text) (scalars-chars text u))

spelled_scalar : (chars : List ℕ) (bits : List Bool) → SpellsChars chars bits → AllByRecursion (λ char. IsScalar char) chars
spelled_scalar [] bits s = tt
spelled_scalar (char ∷ others) bits s = (s.2.scalar, spelled_scalar others s.1 s.3)

pub lent_text : (span : Span) (most : ℕ) → span.is_text ≡ true → IsSpan span → length (items_of span) ≤ most → IsValue (TextType most) (Text (items_of span))
lent_text span most kind s few =
    let spelled : SpellsChars s.0 s.1.spelled.0 = subst (λ (k : Bool). SpellsItems k s.0 s.1.spelled.0) kind s.1.spelled.2 in
    (few, subst (λ (items : List ℕ). AllByRecursion (λ char. IsScalar char) items) (sym (items_of-held span s.0 s.1)) (spelled_scalar s.0 s.1.spelled.0 spelled))
