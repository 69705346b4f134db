-- W3C EXI 1.0 (Second Edition) 7.1, Built-in EXI Datatype Representations, and 7.2, Enumerations: the values of a datatype, what bits
-- spell one, which spelling is written, and which bits spell none. The string table stands before and behind a value.
use Rattle.std.specs.Prelude.{◌≡◌, ℕ, zero, suc, ℤ, pos, ◌+◌, ◌*◌, ◌<◌, ◌≤◌, ◌+ℤ◌, ◌≤ℤ◌, ◌⊎◌, Bool, List, [], ◌∷◌, ◌++◌, length, Some, None, slice_get}
use Rattle.std.specs.List.{AllByRecursion}
use Rattle.std.specs.Char.{IsScalar}
use Rattle.exi_strings.specs.Bits.{number_bits, bits_of}
use Rattle.exi_strings.specs.Items.{SpellsNumber, SpellsUnsigned, SpellsInteger, SpellsBytes, Begins, RefusesBits, RefusesUnsigned, RefusesInteger, RefusesChars, shortest_unsigned, shortest_integer}
use Rattle.exi_strings.specs.BitCause.{BitCause}
use Rattle.exi_strings.specs.BitCause.TheVariants as bit
use Rattle.exi_schema.specs.declared.tables.Datatype.{Datatype}
use Rattle.exi_schema.specs.declared.tables.Datatype.TheVariants.{Bool as BoolType, Named, Bounded, Unsigned, Signed, Binary, Text as TextType}
use Rattle.exi_strings.specs.Table.{global_of, local_of}
use Rattle.exi_strings.specs.Texts.{IsIndexWidth, Announces, SpellsText, WritesText}
use Rattle.exi_documents.specs.Trees.{Value, Truth, Ordinal, Number, Bytes, Text}
use Rattle.exi_documents.specs.declared.TheConstants.{MOST_ENTRIES}
use Rattle.exi_documents.specs.declared.refusal.RefusalCause.{RefusalCause}
use Rattle.exi_documents.specs.declared.refusal.RefusalCause.TheVariants.{ShortInput, WiderInteger, BadChar, NoSuchIndex, NoSuchValue, TooLong, OutOfRange, TableFull}

-- the string table's entries, each with its name
abbrev pub Entries : Type 0
Entries = List (ℕ × List ℕ)

-- how many texts a document enters at most (own)
abbrev pub most_entries : ℕ
most_entries = MOST_ENTRIES

-- ---- the values of a datatype

abbrev pub IsValue : Datatype → Value → Type 0
IsValue BoolType (Truth truth) = Unit {0}
IsValue (Named count) (Ordinal ordinal) = ordinal < count
IsValue (Bounded least count) (Number v) = (k : ℕ) × (k < count) × (v ≡ least +ℤ pos k)
IsValue (Unsigned most) (Number (pos n)) = n ≤ most
IsValue (Signed least most) (Number v) = (least ≤ℤ v) × (v ≤ℤ most)
IsValue (Binary most) (Bytes bytes) = (length bytes ≤ most) × AllByRecursion (λ byte. byte < 256) bytes
IsValue (TextType most) (Text chars) = (length chars ≤ most) × AllByRecursion (λ char. IsScalar char) chars
IsValue _ _ = ⊥

-- ---- spellings

-- one of `count` codes, in the least number of bits in which so many codes differ
pub record SpellsCode (count code : ℕ) (bits : List Bool) : Type 0 where
  pub below : code < count
  pub width : ℕ
  pub is_width : IsIndexWidth count width
  pub spelled : bits ≡ number_bits width code

-- of `count` integers from `least` on the one that stands so far above it
abbrev pub SpellsBounded : ℤ → ℕ → ℤ → List Bool → Type 0
SpellsBounded least count v bits = (k : ℕ) × (v ≡ least +ℤ pos k) × SpellsCode count k bits

-- a spelling of a value by bits, with the entries before and behind it
abbrev pub SpellsValue : Datatype → Entries → ℕ → Value → List Bool → Entries → Type 0
SpellsValue BoolType entries name (Truth truth) bits after = (bits ≡ truth ∷ []) × (after ≡ entries)
SpellsValue (Named count) entries name (Ordinal ordinal) bits after = SpellsCode count ordinal bits × (after ≡ entries)
SpellsValue (Bounded least count) entries name (Number v) bits after = SpellsBounded least count v bits × (after ≡ entries)
SpellsValue (Unsigned most) entries name (Number (pos n)) bits after = (n ≤ most) × SpellsUnsigned n bits × (after ≡ entries)
SpellsValue (Signed least most) entries name (Number v) bits after =
    (least ≤ℤ v) × (v ≤ℤ most) × SpellsInteger v bits × (after ≡ entries)
SpellsValue (Binary most) entries name (Bytes bytes) bits after =
    (length bytes ≤ most) × Announces (length bytes) (SpellsBytes bytes) bits × (after ≡ entries)
SpellsValue (TextType most) entries name (Text chars) bits after =
    SpellsText most entries name chars bits after × (length after ≤ most_entries)
SpellsValue _ entries name _ bits after = ⊥

-- the spelling that is written (own): the shortest, and a hit in the string table before the text itself
abbrev pub WritesValue : Datatype → Entries → ℕ → Value → List Bool → Entries → Type 0
WritesValue BoolType entries name (Truth truth) bits after = (bits ≡ truth ∷ []) × (after ≡ entries)
WritesValue (Named count) entries name (Ordinal ordinal) bits after = SpellsCode count ordinal bits × (after ≡ entries)
WritesValue (Bounded least count) entries name (Number v) bits after = SpellsBounded least count v bits × (after ≡ entries)
WritesValue (Unsigned most) entries name (Number (pos n)) bits after =
    (n ≤ most) × (bits ≡ shortest_unsigned n) × (after ≡ entries)
WritesValue (Signed least most) entries name (Number v) bits after =
    (least ≤ℤ v) × (v ≤ℤ most) × (bits ≡ shortest_integer v) × (after ≡ entries)
WritesValue (Binary most) entries name (Bytes bytes) bits after =
    IsValue (Binary most) (Bytes bytes) × (bits ≡ shortest_unsigned (length bytes) ++ bits_of bytes) × (after ≡ entries)
WritesValue (TextType most) entries name (Text chars) bits after =
    IsValue (TextType most) (Text chars) × WritesText entries name chars bits after × (length after ≤ most_entries)
WritesValue _ entries name _ bits after = ⊥

-- ---- refusals (own): of the bits from a value on, why and at which of them

abbrev pub cause_of : BitCause → RefusalCause
cause_of bit.ShortInput = ShortInput
cause_of bit.WiderInteger = WiderInteger
cause_of bit.BadChar = BadChar

-- an item can't be taken
abbrev pub RefusesItem : (List Bool → BitCause → Type 0) → List Bool → RefusalCause → Type 0
RefusesItem Refuses bits cause = (why : BitCause) × Refuses bits why × (cause ≡ cause_of why)

-- a code in the least bits for `count` of them
pub record RefusesCode (count : ℕ) (bits : List Bool) (cause : RefusalCause) : Type 0 where
  pub width : ℕ
  pub is_width : IsIndexWidth count width
  pub refused :
      RefusesItem (RefusesBits width) bits cause
      ⊎ ((code : ℕ) × (count ≤ code) × Begins (SpellsNumber width code) bits × (cause ≡ NoSuchValue))

-- the Unsigned Integer is there and too large
abbrev pub Exceeds : ℕ → List Bool → Type 0
Exceeds most bits = (n : ℕ) × (most < n) × Begins (SpellsUnsigned n) bits

-- the Integer is there and outside its range
abbrev pub IsOutside : ℤ → ℤ → List Bool → Type 0
IsOutside least most bits = (v : ℤ) × ((least ≤ℤ v) → (v ≤ℤ most) → ⊥) × Begins (SpellsInteger v) bits

-- what an Unsigned Integer announces can't be taken: behind it, at some of the bits from it on
abbrev pub RefusesBehind : (ℕ → List Bool → RefusalCause → ℕ → Type 0) → List Bool → RefusalCause → ℕ → Type 0
RefusesBehind Refuses bits cause at =
    (n : ℕ) × (front : List Bool) × (rest : List Bool) × (behind : ℕ)
    × SpellsUnsigned n front × (bits ≡ front ++ rest) × Refuses n rest cause behind × (at ≡ length front + behind)

abbrev pub RefusesBinary : ℕ → ℕ → List Bool → RefusalCause → ℕ → Type 0
RefusesBinary most n bits cause at = (n ≤ most) × RefusesItem (RefusesBits (8 * n)) bits cause × (at ≡ 0)

-- an index that stands in no partition of so many entries, or at a text that is too long
pub record RefusesIndex (most : ℕ) (partition : List (List ℕ)) (bits : List Bool) (cause : RefusalCause) : Type 0 where
  pub width : ℕ
  pub is_width : IsIndexWidth (length partition) width
  pub refused :
      RefusesItem (RefusesBits width) bits cause
      ⊎ ((index : ℕ) × Begins (SpellsNumber width index) bits
      × (((slice_get partition index ≡ None) × (cause ≡ NoSuchIndex))
      ⊎ ((text : List ℕ) × (slice_get partition index ≡ Some text) × (most < length text) × (cause ≡ TooLong))))

-- a text of n code points has no room in the table
abbrev pub Overfills : Entries → ℕ → Type 0
Overfills entries n = (0 < n) × (most_entries ≤ length entries)

-- behind a number: an index of either partition, or the code points of a text that may be there
abbrev pub RefusesAnnounced : ℕ → Entries → ℕ → ℕ → List Bool → RefusalCause → ℕ → Type 0
RefusesAnnounced most entries name zero bits cause at = RefusesIndex most (local_of name entries) bits cause × (at ≡ 0)
RefusesAnnounced most entries name (suc zero) bits cause at = RefusesIndex most (global_of entries) bits cause × (at ≡ 0)
RefusesAnnounced most entries name (suc (suc n)) bits cause at =
    (n ≤ most) × (Overfills entries n → ⊥) × (why : BitCause) × RefusesChars n bits why at × (cause ≡ cause_of why)

-- a text's length is too great, or the table is full
abbrev pub RefusesLength : ℕ → Entries → List Bool → RefusalCause → Type 0
RefusesLength most entries bits cause =
    (n : ℕ) × Begins (SpellsUnsigned (n + 2)) bits
    × (((most < n) × (cause ≡ TooLong)) ⊎ ((n ≤ most) × Overfills entries n × (cause ≡ TableFull)))

abbrev pub RefusesValue : Datatype → Entries → ℕ → List Bool → RefusalCause → ℕ → Type 0
RefusesValue BoolType entries name bits cause at = RefusesItem (RefusesBits 1) bits cause × (at ≡ 0)
RefusesValue (Named count) entries name bits cause at = RefusesCode count bits cause × (at ≡ 0)
RefusesValue (Bounded least count) entries name bits cause at = RefusesCode count bits cause × (at ≡ 0)
RefusesValue (Unsigned most) entries name bits cause at =
    (RefusesItem RefusesUnsigned bits cause ⊎ (Exceeds most bits × (cause ≡ OutOfRange))) × (at ≡ 0)
RefusesValue (Signed least most) entries name bits cause at =
    ((why : BitCause) × RefusesInteger bits why at × (cause ≡ cause_of why))
    ⊎ (IsOutside least most bits × (cause ≡ OutOfRange) × (at ≡ 0))
RefusesValue (Binary most) entries name bits cause at =
    ((RefusesItem RefusesUnsigned bits cause ⊎ (Exceeds most bits × (cause ≡ TooLong))) × (at ≡ 0))
    ⊎ RefusesBehind (RefusesBinary most) bits cause at
RefusesValue (TextType most) entries name bits cause at =
    ((RefusesItem RefusesUnsigned bits cause ⊎ RefusesLength most entries bits cause) × (at ≡ 0))
    ⊎ RefusesBehind (RefusesAnnounced most entries name) bits cause at
