-- Which values may be written: those of the datatype, where the table has an entry for a text.
use Rattle.std.proofs.Common.{◌≡◌, ℕ, zero, suc, pos, ◌+◌, ◌<◌, ◌≤◌, Bool, List, [], ◌∷◌, ◌++◌, length, Option, Some, None, refl, sym, ap, subst, ◌∙◌, inl, inr, arith, length-append, IsTrue, ◌↔◌, Result, Ok, Err}
use Rattle.std.specs.Prelude.{◌⊎◌, ◌≢◌, slice_get}
use Rattle.std.proofs.lemmas.Bool.Decides.{eqb_tells}
use Rattle.exi_spec.specs.Bits.{number_bits, bits_of}
use Rattle.exi_spec.specs.Items.{shortest_unsigned, shortest_integer, shortest_chars}
use Rattle.exi_schema.specs.declared.tables.Datatype.{Datatype}
use Rattle.exi_schema.specs.declared.tables.Datatype.TheVariants.{Bool as BoolType, Named, Bounded, Unsigned, Signed, Binary, Text as TextType}
use Rattle.exi_writing.specs.Table.{global_of, local_of}
use Rattle.exi_writing.specs.Texts.{IsFirstAt, IsAbsent, WritesText, entered}
use Rattle.exi_writing.specs.Trees.{Value, Truth, Ordinal, Number, Bytes, Text}
use Rattle.exi_writing.specs.Values.{Entries, most_entries, IsValue, WritesValue}
use Rattle.exi_writing.specs.Entering.{HasEntryFor}
use Rattle.exi_schema.specs.Plain.{PlainKind}
use Rattle.exi_schema.specs.Steps.{simple_at}
use Rattle.exi_writing.specs.Value.{Value as ShapedValue}
use Rattle.exi_writing.specs.Meaning.{value_of}
use Rattle.exi_writing.specs.Event.{Event}
use Rattle.exi_writing.specs.Event.TheVariants as event
use Rattle.exi_bits.specs.declared.pen.BitPen.{BitPen}
use Rattle.exi_writing.specs.Writing.{Puts, Lacks}
use Rattle.std.specs.Result.{OnOk}
use Rattle.exi_events.specs.Writer.{MayWrite, WritesValueOf, value_in}
use Rattle.document_laws.proofs.IndexWidths.{index_width}

-- ---- what is written is a value, and a text had room

entry_fits : (entries after : Entries) (name : ℕ) (text : List ℕ) (bits : List Bool) → WritesText entries name text bits after → length after ≤ most_entries → HasEntryFor entries name (Text text)
entry_fits entries after name [] bits w few = tt
entry_fits entries after name (char ∷ chars) bits (inl h) few = λ local global. absurd (local h.0.1.0 h.0.1.2.found)
entry_fits entries after name (char ∷ chars) bits (inr (inl h)) few = λ local global. absurd (global h.1.1.0 h.1.1.2.found)
entry_fits entries after name (char ∷ chars) bits (inr (inr h)) few = λ local global.
    omega (arith, few, ap length h.3, length-append entries ((name, char ∷ chars) ∷ []))

pub value_fits : (d : Datatype) (entries after : Entries) (name : ℕ) (v : Value) (bits : List Bool) → WritesValue d entries name v bits after → IsValue d v × HasEntryFor entries name v
value_fits BoolType entries after name (Truth truth) bits h = (tt, tt)
value_fits (Named count) entries after name (Ordinal ordinal) bits h = (h.0.below, tt)
value_fits (Bounded least count) entries after name (Number v) bits h = ((h.0.0, h.0.2.below, h.0.1), tt)
value_fits (Unsigned most) entries after name (Number (pos n)) bits h = (h.0, tt)
value_fits (Signed least most) entries after name (Number v) bits h = ((h.0, h.1), tt)
value_fits (Binary most) entries after name (Bytes bytes) bits h = (h.0, tt)
value_fits (TextType most) entries after name (Text chars) bits h = (h.0, entry_fits entries after name chars bits h.1 h.2)
value_fits _ entries after name _ bits h = absurd h

-- ---- a value that fits is written by some bits

same_or_not : (a b : List ℕ) → (a ≡ b) ⊎ (a ≡ b → ⊥)
same_or_not [] [] = inl refl
same_or_not [] (y ∷ ys) = inr (λ e. absurd cc)
same_or_not (x ∷ xs) [] = inr (λ e. absurd cc)
same_or_not (x ∷ xs) (y ∷ ys) =
    elim (eqb_tells x y) [
      | inl first ↦ elim (same_or_not xs ys) [
        | inl others ↦ let one : x ≡ y = first.1 in inl cc
        | inr other ↦ inr (λ e. other (let tail : xs ≡ ys = cc in tail))
      ]
      | inr other ↦ inr (λ e. other.1 (let head : x ≡ y = cc in head))
    ]

none_before : (t : List ℕ) (ts : List (List ℕ)) (text : List ℕ) (i : ℕ) → (t ≡ text → ⊥) → ((k : ℕ) → k < i → slice_get ts k ≢ Some text) → (k : ℕ) → k < suc i → slice_get (t ∷ ts) k ≢ Some text
none_before t ts text i other before zero less = λ found. other (let same : Some t ≡ Some text = found in let e : t ≡ text = cc in e)
none_before t ts text i other before (suc k) less = before k (omega (arith, less))

absent_too : (t : List ℕ) (ts : List (List ℕ)) (text : List ℕ) → (t ≡ text → ⊥) → IsAbsent ts text → IsAbsent (t ∷ ts) text
absent_too t ts text other absent zero = λ found. other (let same : Some t ≡ Some text = found in let e : t ≡ text = cc in e)
absent_too t ts text other absent (suc k) = absent k

find_first : (partition : List (List ℕ)) (text : List ℕ) → ((i : ℕ) × IsFirstAt partition text i) ⊎ IsAbsent partition text
find_first [] text = inr (λ k found. let wrong : None ≡ Some text = found in absurd cc)
find_first (t ∷ ts) text =
    elim (same_or_not t text) [
      | inl is ↦ inl (0, record { found = ap (λ (l : List ℕ). Some l) is; first = λ k less. absurd (omega (arith, less)) })
      | inr other ↦ elim (find_first ts text) [
        | inl h ↦ inl (suc h.0, record { found = h.1.found; first = none_before t ts text h.0 other h.1.first })
        | inr absent ↦ inr (absent_too t ts text other absent)
      ]
    ]

entered_few : (entries : Entries) (name : ℕ) (text : List ℕ) → length entries ≤ most_entries → HasEntryFor entries name (Text text) → IsAbsent (local_of name entries) text → IsAbsent (global_of entries) text → length (entered entries name text) ≤ most_entries
entered_few entries name [] few room local global = few
entered_few entries name (char ∷ chars) few room local global =
    let more = room local global in omega (arith, length-append entries ((name, char ∷ chars) ∷ []), more)

text_writes : (entries : Entries) (name : ℕ) (text : List ℕ) → length entries ≤ most_entries → HasEntryFor entries name (Text text) → (bits : List Bool) × (after : Entries) × WritesText entries name text bits after × (length after ≤ most_entries)
text_writes entries name text few room =
    elim (find_first (local_of name entries) text) [
      | inl h ↦
          let width = index_width (length (local_of name entries)) in
          let rest = number_bits width.0 h.0 in
          (shortest_unsigned 0 ++ rest, entries, inl ((rest, (h.0, width.0, h.1, width.1, refl), refl), refl), few)
      | inr local ↦ elim (find_first (global_of entries) text) [
        | inl h ↦
            let width = index_width (length (global_of entries)) in
            let rest = number_bits width.0 h.0 in
            (shortest_unsigned 1 ++ rest, entries, inr (inl (local, (rest, (h.0, width.0, h.1, width.1, refl), refl), refl)), few)
        | inr global ↦ (
          shortest_unsigned (length text + 2) ++ shortest_chars text,
          entered entries name text,
          inr (inr (local, global, refl, refl)),
          entered_few entries name text few room local global,
        )
      ]
    ]

pub value_writes : (d : Datatype) (entries : Entries) (name : ℕ) (v : Value) → length entries ≤ most_entries → IsValue d v → HasEntryFor entries name v → (bits : List Bool) × (after : Entries) × WritesValue d entries name v bits after
value_writes BoolType entries name (Truth truth) few is room = (truth ∷ [], entries, (refl, refl))
value_writes (Named count) entries name (Ordinal ordinal) few is room =
    let width = index_width count in
    (number_bits width.0 ordinal, entries, (record { below = is; width = width.0; is_width = width.1; spelled = refl }, refl))
value_writes (Bounded least count) entries name (Number v) few is room =
    let width = index_width count in
    (number_bits width.0 is.0, entries, ((is.0, is.2, record { below = is.1; width = width.0; is_width = width.1; spelled = refl }), refl))
value_writes (Unsigned most) entries name (Number (pos n)) few is room = (shortest_unsigned n, entries, (is, refl, refl))
value_writes (Signed least most) entries name (Number v) few is room = (shortest_integer v, entries, (is.0, is.1, refl, refl))
value_writes (Binary most) entries name (Bytes bytes) few is room = (shortest_unsigned (length bytes) ++ bits_of bytes, entries, (is, refl, refl))
value_writes (TextType most) entries name (Text chars) few is room =
    let w = text_writes entries name chars few room in (w.0, w.1, (is, w.2, w.3))
value_writes _ entries name _ few is room = absurd is

-- ---- a value of a simple kind

pub may_write : (kinds : List PlainKind) (kind : ℕ) (entries : Entries) (name : ℕ) (v : Value) (d : Datatype) → Some d ≡ simple_at kinds kind → length entries ≤ most_entries → IsValue d v → HasEntryFor entries name v → MayWrite kinds kind entries name v
may_write kinds kind entries name v d is few value room = let w = value_writes d entries name v few value room in (w.0, w.1, (d, sym is, w.2))

one_of : {X : Type 0} (o : Option X) (x y : X) → o ≡ Some x → o ≡ Some y → x ≡ y
one_of {X} o x y p q = let e : Some x ≡ Some y = sym p ∙ q in cc

pub may_fit : (kinds : List PlainKind) (kind : ℕ) (entries : Entries) (name : ℕ) (v : Value) (d : Datatype) → Some d ≡ simple_at kinds kind → MayWrite kinds kind entries name v → IsValue d v × HasEntryFor entries name v
may_fit kinds kind entries name v d is w =
    let same : w.2.0 ≡ d = one_of (simple_at kinds kind) w.2.0 d w.2.1 (sym is) in
    subst (λ (e : Datatype). IsValue e v × HasEntryFor entries name v) same (value_fits w.2.0 entries w.1 name v w.0 w.2.2)

some_is : (v w : ShapedValue) → Some v ≡ Some w → v ≡ w
some_is v w e = cc

-- of the value of an event
pub value_decides : (kinds : List PlainKind) (kind : ℕ) (entries : Entries) (name : ℕ) (o : Option ShapedValue) (given v : ShapedValue) (d : Datatype) (b : Bool) → Some d ≡ simple_at kinds kind → length entries ≤ most_entries →
    o ≡ Some given → o ≡ Some v → IsValue d (value_of given) → (IsTrue b ↔ HasEntryFor entries name (value_of given)) → (IsTrue b ↔ MayWrite kinds kind entries name (value_of v))
value_decides kinds kind entries name o given v d b is few given_is v_is value room =
    let same : given ≡ v = some_is given v (sym given_is ∙ v_is) in
    subst (λ (w : ShapedValue). IsTrue b ↔ MayWrite kinds kind entries name (value_of w)) same
    ((λ t. may_write kinds kind entries name (value_of given) d is few value (room.0 t)), (λ w. room.1 (may_fit kinds kind entries name (value_of given) d is w).1))

pub in_event : (e : Event) (v : ShapedValue) → ((n : ℕ) × (e ≡ event.Attribute n v)) ⊎ (e ≡ event.Value v) → value_in e ≡ Some v
in_event e v (inl h) = ap value_in h.1
in_event e v (inr h) = ap value_in h

-- ---- a value that is put

pub given_is : (o : Option ShapedValue) (given v : ShapedValue) → o ≡ Some given → o ≡ Some v → given ≡ v
given_is o given v a b = some_is given v (sym a ∙ b)

pub writes_of : (kinds : List PlainKind) (kind : ℕ) (entries after : Entries) (name : ℕ) (given v : ShapedValue) (d : Datatype) (bits : List Bool) → Some d ≡ simple_at kinds kind → given ≡ v → WritesValue d entries name (value_of given) bits after → WritesValueOf kinds kind entries name (value_of v) after bits
writes_of kinds kind entries after name given v d bits is same w = (d, sym is, subst (λ (x : ShapedValue). WritesValue d entries name (value_of x) bits after) same w)

pub of_writes : (kinds : List PlainKind) (kind : ℕ) (entries after : Entries) (name : ℕ) (given v : ShapedValue) (d : Datatype) (bits : List Bool) → Some d ≡ simple_at kinds kind → given ≡ v → WritesValueOf kinds kind entries name (value_of v) after bits → WritesValue d entries name (value_of given) bits after
of_writes kinds kind entries after name given v d bits is same w =
    let e : w.0 ≡ d = one_of (simple_at kinds kind) w.0 d w.1 (sym is) in
    subst (λ (x : ShapedValue). WritesValue d entries name (value_of x) bits after) (sym same) (subst (λ (k : Datatype). WritesValue k entries name (value_of v) bits after) e w.2)

pub value_put : {R E : Type 0} (r : Result R E) (kinds : List PlainKind) (kind : ℕ) (entries after : Entries) (name : ℕ) (given v : ShapedValue) (d : Datatype) (old new : BitPen) → Some d ≡ simple_at kinds kind → given ≡ v →
    OnOk r (Puts (λ bits. WritesValue d entries name (value_of given) bits after) old new) → OnOk r (Puts (λ bits. WritesValueOf kinds kind entries name (value_of v) after bits) old new)
value_put (Ok x) kinds kind entries after name given v d old new is same p = (p.0, writes_of kinds kind entries after name given v d p.0 is same p.1, p.2)
value_put (Err e) kinds kind entries after name given v d old new is same p = tt

pub value_full : (P : Type 0) (kinds : List PlainKind) (kind : ℕ) (entries : Entries) (name : ℕ) (given v : ShapedValue) (d : Datatype) (pen : BitPen) → Some d ≡ simple_at kinds kind → given ≡ v →
    (P ↔ Lacks (λ bits. (after : Entries) × WritesValue d entries name (value_of given) bits after) pen) → (P ↔ Lacks (λ bits. (after : Entries) × WritesValueOf kinds kind entries name (value_of v) after bits) pen)
value_full P kinds kind entries name given v d pen is same f = (
  (λ p. let l = f.0 p in (l.0, (l.1.0, writes_of kinds kind entries l.1.0 name given v d l.0 is same l.1.1), l.2)),
  (λ l. f.1 (l.0, (l.1.0, of_writes kinds kind entries l.1.0 name given v d l.0 is same l.1.1), l.2)),
)

-- what was asked of a value that may be put
pub given_fits : (kinds : List PlainKind) (kind : ℕ) (entries : Entries) (name : ℕ) (o : Option ShapedValue) (given : ShapedValue) (d : Datatype) → Some d ≡ simple_at kinds kind → o ≡ Some given →
    ((v : ShapedValue) × (o ≡ Some v) × MayWrite kinds kind entries name (value_of v)) → IsValue d (value_of given) × HasEntryFor entries name (value_of given)
given_fits kinds kind entries name o given d is given_in h =
    let same : h.0 ≡ given = given_is o h.0 given h.1 given_in in
    subst (λ (x : ShapedValue). IsValue d (value_of x) × HasEntryFor entries name (value_of x)) same (may_fit kinds kind entries name (value_of h.0) d is h.2)
