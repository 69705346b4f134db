-- A value by its datatype, from the item that was written.
use Rattle.std.proofs.Common.{◌≡◌, ℕ, ℤ, pos, Bool, List, [], ◌∷◌, ◌++◌, length, refl, sym, ap, subst, ◌∙◌, Result, Ok, Err, ◌↔◌}
use Rattle.std.specs.Result.{IsErr, OnOk, OnErr}
use Rattle.std.proofs.lemmas.Bool.{false≢true}
use Rattle.exi_spec.specs.Bits.{bits_of}
use Rattle.exi_spec.specs.Items.{shortest_unsigned}
use Rattle.exi_bits.specs.Pens.{written_bits, Writes}
use Rattle.exi_bits.specs.declared.pen.BitPen.{BitPen}
use Rattle.exi_bits.specs.declared.span.SpanAt.{SpanAt}
use Rattle.exi_schema.specs.declared.tables.Datatype.{Datatype}
use Rattle.exi_schema.specs.declared.tables.Datatype.TheVariants.{Bool as BoolType, Named, Bounded, Unsigned, Signed, Binary, Text as TextType}
use Rattle.exi_reading.specs.Trees.{Value as TreeValue, Truth, Ordinal, Number, Bytes, Text}
use Rattle.exi_reading.specs.Values.{Entries, IsValue, SpellsBounded, WritesValue}
use Rattle.exi_reading.specs.Meaning.{AreTexts, texts_in, value_of}
use Rattle.exi_reading.specs.Value.{Value}
use Rattle.exi_writing.specs.Writing.{Puts, Lacks, WritesPlain}
use Rattle.exi_writing.specs.Entering.{WritesTextInto}
use Rattle.exi_writing.proofs.Pens.{had_room}
use Rattle.exi_writing.proofs.Strings.{texts_kept}
use Rattle.exi_writing.proofs.OneWriting.{one_writing}

-- bounds and a value as they are passed
pub plain_bounded : (datatype : Datatype) (least low v z : ℤ) (count : ℕ) (bits : List Bool) → datatype ≡ Bounded least count → low ≡ least → z ≡ v → SpellsBounded low count z bits → WritesPlain datatype (Number v) bits
plain_bounded datatype least low v z count bits is low_is z_is s =
    subst (λ (d : Datatype). WritesPlain d (Number v) bits) (sym is)
    (subst (λ (a : ℤ). SpellsBounded a count v bits) low_is (subst (λ (a : ℤ). SpellsBounded low count a bits) z_is s), refl)

pub puts_too : (P Q : List Bool → Type 0) (old new : BitPen) → ((bits : List Bool) → P bits → Q bits) → Puts P old new → Puts Q old new
puts_too P Q old new more p = (p.0, more p.0 p.1, p.2)

pub lacks_too : (P Q : List Bool → Type 0) (pen : BitPen) → ((bits : List Bool) → P bits → Q bits) → Lacks P pen → Lacks Q pen
lacks_too P Q pen more p = (p.0, more p.0 p.1, p.2)

-- ---- each kind of value

pub truth_written : (datatype : Datatype) (entries : Entries) (name : ℕ) (truth : Bool) (bits : List Bool) → IsValue datatype (Truth truth) → bits ≡ truth ∷ [] → WritesValue datatype entries name (Truth truth) bits entries
truth_written BoolType entries name truth bits value is = (is, refl)
truth_written _ entries name truth bits value is = absurd value

pub ordinal_written : (datatype : Datatype) (entries : Entries) (name ordinal : ℕ) (bits : List Bool) → WritesPlain datatype (Ordinal ordinal) bits → WritesValue datatype entries name (Ordinal ordinal) bits entries
ordinal_written (Named count) entries name ordinal bits p = (p.0, refl)
ordinal_written _ entries name ordinal bits p = absurd p

integer_written : (datatype : Datatype) (entries : Entries) (name : ℕ) (v : ℤ) (bits : List Bool) → WritesPlain datatype (Number v) bits → WritesValue datatype entries name (Number v) bits entries
integer_written (Bounded least count) entries name v bits p = (p.0, refl)
integer_written (Unsigned most) entries name (pos n) bits p = (p.0, p.1, refl)
integer_written (Signed least most) entries name v bits p = (p.0, p.1, p.2, refl)
integer_written _ entries name v bits p = absurd p

pub number_written : (datatype : Datatype) (entries : Entries) (name : ℕ) (z v : ℤ) (bits : List Bool) → z ≡ v → WritesPlain datatype (Number z) bits → WritesValue datatype entries name (Number v) bits entries
number_written datatype entries name z v bits is p =
    integer_written datatype entries name v bits (subst (λ (a : ℤ). WritesPlain datatype (Number a) bits) is p)

pub bytes_written : (datatype : Datatype) (entries : Entries) (name : ℕ) (bytes : List ℕ) (bits : List Bool) → IsValue datatype (Bytes bytes) → bits ≡ shortest_unsigned (length bytes) ++ bits_of bytes → WritesValue datatype entries name (Bytes bytes) bits entries
bytes_written (Binary most) entries name bytes bits value is = (value, is, refl)
bytes_written _ entries name bytes bits value is = absurd value

pub text_written : (datatype : Datatype) (entries after : Entries) (name : ℕ) (chars : List ℕ) (bits : List Bool) → IsValue datatype (Text chars) → WritesTextInto entries name chars bits after → WritesValue datatype entries name (Text chars) bits after
text_written (TextType most) entries after name chars bits value p = (value, p.0, p.1)
text_written _ entries after name chars bits value p = absurd value

-- ---- the value that was given

-- with the entries before and behind it
pub value_puts : (datatype : Datatype) (given v : Value) (entries : List (ℕ × SpanAt)) (name : ℕ) (old new : BitPen) (P : List Bool → Type 0) → given ≡ v → AreTexts (written_bits old) entries → ((bits : List Bool) → P bits → WritesValue datatype (texts_in (written_bits old) entries) name (value_of v) bits (texts_in (written_bits old) entries)) → Puts P old new → Puts (λ bits. WritesValue datatype (texts_in (written_bits old) entries) name (value_of given) bits (texts_in (written_bits new) entries)) old new
value_puts datatype given v entries name old new P is all more p =
    let held = texts_in (written_bits old) entries in (
      p.0,
      subst (λ (w : Value). WritesValue datatype held name (value_of w) p.0 (texts_in (written_bits new) entries)) (sym is)
          (subst (λ (after : Entries). WritesValue datatype held name (value_of v) p.0 after) (sym (texts_kept old new p.0 entries p.2 all)) (more p.0 p.1)),
      p.2,
    )

pub text_puts : (datatype : Datatype) (given v : Value) (entries after : List (ℕ × SpanAt)) (name : ℕ) (chars : List ℕ) (old new : BitPen) → given ≡ v → value_of v ≡ Text chars → IsValue datatype (value_of given) → Puts (λ bits. WritesTextInto (texts_in (written_bits old) entries) name chars bits (texts_in (written_bits new) after)) old new → Puts (λ bits. WritesValue datatype (texts_in (written_bits old) entries) name (value_of given) bits (texts_in (written_bits new) after)) old new
text_puts datatype given v entries after name chars old new is text value p =
    let same : value_of given ≡ Text chars = ap value_of is ∙ text in (
      p.0,
      subst (λ (w : TreeValue). WritesValue datatype (texts_in (written_bits old) entries) name w p.0 (texts_in (written_bits new) after)) (sym same)
          (text_written datatype _ _ name chars p.0 (subst (λ (w : TreeValue). IsValue datatype w) same value) p.1),
      p.2,
    )

-- what can be written has no room exactly where an error comes
pub full_exactly : {T E : Type 0} (r : Result T E) (datatype : Datatype) (entries : Entries) (name : ℕ) (w v : TreeValue) (old new : BitPen) (P : List Bool → Type 0) → w ≡ v → ((bits : List Bool) → P bits → (after : Entries) × WritesValue datatype entries name v bits after) → OnOk r (Puts P old new) → OnErr r (Lacks P old) → (IsErr r ↔ Lacks (λ bits. (after : Entries) × WritesValue datatype entries name w bits after) old)
full_exactly (Ok x) datatype entries name w v old new P is more ok err = (
  (λ e. absurd (false≢true e)),
  (λ l.
      let mine = more ok.0 ok.1 in
      let theirs = subst (λ (z : TreeValue). WritesValue datatype entries name z l.0 l.1.0) is l.1.1 in
      let same : ok.0 ≡ l.0 = one_writing datatype entries name v ok.0 l.0 mine.0 l.1.0 mine.1 theirs in
      absurd (had_room old new l.0 (subst (λ (bits : List Bool). Writes old new bits) same ok.2) l.2)),
)
full_exactly (Err x) datatype entries name w v old new P is more ok err = (
  (λ _. (err.0, (let mine = more err.0 err.1 in (mine.0, subst (λ (z : TreeValue). WritesValue datatype entries name z err.0 mine.0) (sym is) mine.1)), err.2)),
  (λ _. refl),
)
