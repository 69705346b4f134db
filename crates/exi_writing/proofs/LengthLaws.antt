-- How many bits a value needs.
use Rattle.std.proofs.Common.{◌≡◌, ℕ, ℤ, ◌+◌, ◌*◌, ◌<◌, ◌≤◌, Bool, List, [], ◌∷◌, ◌++◌, length, refl, sym, ap, subst, ◌∙◌, arith, inr}
use Rattle.std.proofs.lemmas.List.{length-append}
use Rattle.exi_spec.specs.Bits.{number_bits, bits_of}
use Rattle.exi_spec.specs.Items.{shortest_unsigned, shortest_chars}
use Rattle.exi_spec.proofs.BitLaws.{length-number_bits, length-bits_of}
use Rattle.exi_schema.specs.declared.tables.Datatype.{Datatype}
use Rattle.exi_schema.specs.declared.tables.Datatype.TheVariants.{Named, Bounded}
use Rattle.exi_reading.specs.Table.{Table, global_of, local_of}
use Rattle.exi_reading.specs.Texts.{IsIndexWidth, IsFirstAt, IsAbsent, entered}
use Rattle.exi_reading.specs.Trees.{Value, Truth, Ordinal, Number, Bytes, Text}
use Rattle.exi_reading.specs.Values.{Entries, most_entries, IsValue, SpellsCode, WritesValue}
use Rattle.exi_bits.specs.Lent.{Span, items_of}
use Rattle.exi_bits.specs.Pens.{written_bits}
use Rattle.exi_bits.specs.declared.pen.BitPen.{BitPen}
use Rattle.exi_bits.specs.declared.pen.Full.{Full}
use Rattle.exi_bits.specs.declared.span.SpanAt.{SpanAt}
use Rattle.exi_reading.specs.Meaning.{AreTexts, texts_in, value_of}
use Rattle.exi_reading.specs.Value.{Value as Given}
use Rattle.exi_reading.specs.Value.TheVariants as value
use Rattle.exi_writing.specs.Writing.{HasLength, Lacks, NeedsInAll, PassesRoom, WritesMore, WritesPlain}
use Rattle.exi_writing.specs.Entering.{HasEntryFor, SpellsHitAt, WritesTextInto}
use Rattle.exi_writing.proofs.Strings.{keeps_local, keeps_global, entered_few, spelled_out, length-texts_in, texts_kept}
use Rattle.exi_writing.proofs.OneWriting.{one_writing}
use Rattle.exi_writing.proofs.Whole.{truth_written, ordinal_written, number_written, bytes_written, text_written}

pub code_long : (count code width : ℕ) → code < count → IsIndexWidth count width → HasLength (SpellsCode count code) width
code_long count code width below is_width =
    (number_bits width code, record { below = below; width = width; is_width = is_width; spelled = refl }, sym (length-number_bits width code))

pub hit_long : (announced count index first width n : ℕ) → index < count → IsIndexWidth count width → first ≡ length (shortest_unsigned announced) → n ≡ first + width → HasLength (SpellsHitAt announced count index) n
hit_long announced count index first width n below is_width first_is is =
    let code = code_long count index width below is_width in
    (shortest_unsigned announced ++ code.0, (code.0, code.1, refl), omega (arith, is, first_is, code.2, length-append (shortest_unsigned announced) code.0))

pub ordinal_long : (datatype : Datatype) (count ordinal width : ℕ) → datatype ≡ Named count → IsValue datatype (Ordinal ordinal) → IsIndexWidth count width → HasLength (WritesPlain datatype (Ordinal ordinal)) width
ordinal_long datatype count ordinal width is value is_width =
    let code = code_long count ordinal width (subst (λ (d : Datatype). IsValue d (Ordinal ordinal)) is value) is_width in
    (code.0, subst (λ (d : Datatype). WritesPlain d (Ordinal ordinal) code.0) (sym is) (code.1, refl), code.2)

bounded_long : (least v : ℤ) (count width : ℕ) → IsValue (Bounded least count) (Number v) → IsIndexWidth count width → HasLength (WritesPlain (Bounded least count) (Number v)) width
bounded_long least v count width value is_width =
    let code = code_long count value.0 width value.1 is_width in
    (code.0, ((value.0, value.2, code.1), refl), code.2)

pub number_bounded : (datatype : Datatype) (least v : ℤ) (count width : ℕ) → datatype ≡ Bounded least count → IsValue datatype (Number v) → IsIndexWidth count width → HasLength (WritesPlain datatype (Number v)) width
number_bounded datatype least v count width is =
    subst (λ (d : Datatype). IsValue d (Number v) → IsIndexWidth count width → HasLength (WritesPlain d (Number v)) width) (sym is) (bounded_long least v count width)

-- ---- texts

local_long : (entries : Entries) (name count index n : ℕ) (text : List ℕ) → count ≡ length (local_of name entries) → length entries ≤ most_entries → IsFirstAt (local_of name entries) text index → HasLength (SpellsHitAt 0 count index) n → HasLength (λ bits. (after : Entries) × WritesTextInto entries name text bits after) n
local_long entries name count index n text long few first p = (p.0, (entries, keeps_local entries name count index text p.0 long few first p.1), p.2)

global_long : (entries : Entries) (name count index n : ℕ) (text : List ℕ) → count ≡ length (global_of entries) → length entries ≤ most_entries → IsAbsent (local_of name entries) text → IsFirstAt (global_of entries) text index → HasLength (SpellsHitAt 1 count index) n → HasLength (λ bits. (after : Entries) × WritesTextInto entries name text bits after) n
global_long entries name count index n text long few absent first p = (p.0, (entries, keeps_global entries name count index text p.0 long few absent first p.1), p.2)

spelled_long : (entries : Entries) (name front rest n : ℕ) (text : List ℕ) → length entries ≤ most_entries → HasEntryFor entries name (Text text) → IsAbsent (local_of name entries) text → IsAbsent (global_of entries) text → front ≡ length (shortest_unsigned (length text + 2)) → rest ≡ length (shortest_chars text) → n ≡ front + rest → HasLength (λ bits. (after : Entries) × WritesTextInto entries name text bits after) n
spelled_long entries name front rest n text few room local global front_is rest_is is = (
  spelled_out text,
  (entered entries name text, (inr (inr (local, global, refl, refl)), entered_few entries name text few room local global)),
  omega (arith, is, front_is, rest_is, length-append (shortest_unsigned (length text + 2)) (shortest_chars text)),
)

held_few : (bits : List Bool) (entries : List (ℕ × SpanAt)) → length entries ≤ most_entries → length (texts_in bits entries) ≤ most_entries
held_few bits entries few = omega (arith, few, length-texts_in bits entries)

pub local_bits : (bits : List Bool) (entries : List (ℕ × SpanAt)) (name count index n : ℕ) (text : List ℕ) → count ≡ length (local_of name (texts_in bits entries)) → length entries ≤ most_entries → IsFirstAt (local_of name (texts_in bits entries)) text index → HasLength (SpellsHitAt 0 count index) n → HasLength (λ b. (after : Entries) × WritesTextInto (texts_in bits entries) name text b after) n
local_bits bits entries name count index n text long few = local_long (texts_in bits entries) name count index n text long (held_few bits entries few)

pub global_bits : (bits : List Bool) (entries : List (ℕ × SpanAt)) (name count index n : ℕ) (text : List ℕ) → count ≡ length (global_of (texts_in bits entries)) → length entries ≤ most_entries → IsAbsent (local_of name (texts_in bits entries)) text → IsFirstAt (global_of (texts_in bits entries)) text index → HasLength (SpellsHitAt 1 count index) n → HasLength (λ b. (after : Entries) × WritesTextInto (texts_in bits entries) name text b after) n
global_bits bits entries name count index n text long few = global_long (texts_in bits entries) name count index n text long (held_few bits entries few)

pub spelled_bits : (bits : List Bool) (entries : List (ℕ × SpanAt)) (name front rest n : ℕ) (text : List ℕ) → length entries ≤ most_entries → HasEntryFor (texts_in bits entries) name (Text text) → IsAbsent (local_of name (texts_in bits entries)) text → IsAbsent (global_of (texts_in bits entries)) text → front ≡ length (shortest_unsigned (length text + 2)) → rest ≡ length (shortest_chars text) → n ≡ front + rest → HasLength (λ b. (after : Entries) × WritesTextInto (texts_in bits entries) name text b after) n
spelled_bits bits entries name front rest n text few = spelled_long (texts_in bits entries) name front rest n text (held_few bits entries few)

-- ---- values

truth_long : (datatype : Datatype) (entries : Entries) (name : ℕ) (truth : Bool) → IsValue datatype (Truth truth) → HasLength (λ b. (after : Entries) × WritesValue datatype entries name (Truth truth) b after) 1
truth_long datatype entries name truth value = (truth ∷ [], (entries, truth_written datatype entries name truth (truth ∷ []) value refl), refl)

bytes_long : (datatype : Datatype) (entries : Entries) (name front n : ℕ) (bytes : List ℕ) → IsValue datatype (Bytes bytes) → front ≡ length (shortest_unsigned (length bytes)) → n ≡ front + 8 * length bytes → HasLength (λ b. (after : Entries) × WritesValue datatype entries name (Bytes bytes) b after) n
bytes_long datatype entries name front n bytes value front_is is =
    let all = shortest_unsigned (length bytes) ++ bits_of bytes in (
      all,
      (entries, bytes_written datatype entries name bytes all value refl),
      omega (arith, is, front_is, length-append (shortest_unsigned (length bytes)) (bits_of bytes), length-bits_of bytes),
    )

-- the value that was given
pub truth_bits : (datatype : Datatype) (entries : Entries) (name : ℕ) (truth : Bool) (given : Given) → given ≡ value.Bool truth → IsValue datatype (value_of given) → HasLength (λ b. (after : Entries) × WritesValue datatype entries name (value_of given) b after) 1
truth_bits datatype entries name truth given is =
    subst (λ (v : Given). IsValue datatype (value_of v) → HasLength (λ b. (after : Entries) × WritesValue datatype entries name (value_of v) b after) 1) (sym is) (truth_long datatype entries name truth)

pub ordinal_bits : (datatype : Datatype) (entries : Entries) (name ordinal n : ℕ) (given : Given) → given ≡ value.Ordinal ordinal → HasLength (WritesPlain datatype (Ordinal ordinal)) n → HasLength (λ b. (after : Entries) × WritesValue datatype entries name (value_of given) b after) n
ordinal_bits datatype entries name ordinal n given is p =
    subst (λ (v : Given). HasLength (λ b. (after : Entries) × WritesValue datatype entries name (value_of v) b after) n) (sym is)
    (p.0, (entries, ordinal_written datatype entries name ordinal p.0 p.1), p.2)

pub number_bits_of : (datatype : Datatype) (entries : Entries) (name n : ℕ) (z v : ℤ) (given : Given) → given ≡ value.Number v → z ≡ v → HasLength (WritesPlain datatype (Number z)) n → HasLength (λ b. (after : Entries) × WritesValue datatype entries name (value_of given) b after) n
number_bits_of datatype entries name n z v given is same p =
    subst (λ (g : Given). HasLength (λ b. (after : Entries) × WritesValue datatype entries name (value_of g) b after) n) (sym is)
    (p.0, (entries, number_written datatype entries name z v p.0 same p.1), p.2)

pub bytes_bits : (datatype : Datatype) (entries : Entries) (name front n : ℕ) (span : Span) (given : Given) → given ≡ value.Binary span → IsValue datatype (value_of given) → front ≡ length (shortest_unsigned (length (items_of span))) → n ≡ front + 8 * length (items_of span) → HasLength (λ b. (after : Entries) × WritesValue datatype entries name (value_of given) b after) n
bytes_bits datatype entries name front n span given is value front_is n_is =
    subst (λ (g : Given). IsValue datatype (value_of g) → HasLength (λ b. (after : Entries) × WritesValue datatype entries name (value_of g) b after) n) (sym is)
    (λ v. bytes_long datatype entries name front n (items_of span) v front_is n_is) value

pub text_bits : (datatype : Datatype) (entries : Entries) (name n : ℕ) (chars : List ℕ) (given : Given) → value_of given ≡ Text chars → IsValue datatype (value_of given) → HasLength (λ b. (after : Entries) × WritesTextInto entries name chars b after) n → HasLength (λ b. (after : Entries) × WritesValue datatype entries name (value_of given) b after) n
text_bits datatype entries name n chars given is value p =
    subst (λ (v : Value). IsValue datatype v → HasLength (λ b. (after : Entries) × WritesValue datatype entries name v b after) n) (sym is)
    (λ own. (p.0, (p.1.0, text_written datatype entries p.1.0 name chars p.0 own p.1.1), p.2)) value

pub same_long : (P : List Bool → Type 0) (n m : ℕ) → m ≡ n → HasLength P n → HasLength P m
same_long P n m is p = (p.0, p.1, is ∙ p.2)

-- ---- in all

-- a text that had room has it still
pub room_kept : (old new : BitPen) (before after : Table SpanAt) (name : ℕ) (v : Value) → AreTexts (written_bits old) before.entries → WritesMore old new → after ≡ before → HasEntryFor (texts_in (written_bits old) before.entries) name v → HasEntryFor (texts_in (written_bits new) after.entries) name v
room_kept old new before after name v all more same room =
    subst (λ (t : Table SpanAt). HasEntryFor (texts_in (written_bits new) t.entries) name v) (sym same)
    (subst (λ (held : Entries). HasEntryFor held name v) (sym (texts_kept old new more.0 before.entries more.1 all)) room)

-- behind what was there before the value's front
pub needed_in_all : (datatype : Datatype) (before after : Table SpanAt) (name n : ℕ) (v : Value) (old new : BitPen) (full : Full) → AreTexts (written_bits old) before.entries → WritesMore old new → after ≡ before → full.bits ≡ length (written_bits old) + n → HasLength (λ b. (left : Entries) × WritesValue datatype (texts_in (written_bits new) after.entries) name v b left) n → NeedsInAll (λ b. (left : Entries) × WritesValue datatype (texts_in (written_bits old) before.entries) name v b left) old full
needed_in_all datatype before after name n v old new full all more same is p =
    let here = subst (λ (t : Table SpanAt). HasLength (λ b. (left : Entries) × WritesValue datatype (texts_in (written_bits new) t.entries) name v b left) n) same p in
    let there = subst (λ (held : Entries). HasLength (λ b. (left : Entries) × WritesValue datatype held name v b left) n) (texts_kept old new more.0 before.entries more.1 all) here in
    (there.0, there.1, is ∙ ap (λ (m : ℕ). length (written_bits old) + m) there.2)

-- what has no room is more than the room has
pub needs_past : (datatype : Datatype) (entries : Entries) (name : ℕ) (v : Value) (pen : BitPen) (full : Full) → Lacks (λ b. (after : Entries) × WritesValue datatype entries name v b after) pen → NeedsInAll (λ b. (after : Entries) × WritesValue datatype entries name v b after) pen full → PassesRoom pen full
needs_past datatype entries name v pen full lacks needs =
    let same : lacks.0 ≡ needs.0 = one_writing datatype entries name v lacks.0 needs.0 lacks.1.0 needs.1.0 lacks.1.1 needs.1.1 in
    omega (arith, lacks.2, needs.2, ap length same)
