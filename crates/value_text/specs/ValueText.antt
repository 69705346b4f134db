-- Own: the text of a value, in UTF-8, and the form that the values of a datatype have.
use Rattle.std.specs.Prelude.{◌≡◌, ℕ, ℤ, ◌<◌, ◌^◌, unsigned_abs, Bool, true, false, ◌==◌, nat_lt, if◌then◌else◌, List, ◌++◌, map, codes, encode_utf8, Some, slice_get}
use Rattle.std.specs.Char.{IsScalar}
use Rattle.std.specs.Fmt.{digits, signed_decimal}
use Rattle.std.specs.List.{flat_map, AllByRecursion}
use Rattle.hex.specs.Hex.{encode_lower}
use Rattle.exi_schema.specs.Schemas.{PlainSchema}
use Rattle.exi_schema.specs.declared.tables.Datatype.{Datatype}
use Rattle.exi_schema.specs.declared.tables.Datatype.TheVariants.{Bool as BoolType, Named, Bounded, Unsigned, Signed, Binary, Text as TextType}
use Rattle.exi_schema.specs.Steps.{texts_at}
use Rattle.exi_documents.specs.Trees.{Value, Truth, Ordinal, Number, Bytes, Text}

-- ---- values

-- a character between quotes: a quote and a backslash stand behind a backslash, and one below U+0020 is its number in hexadecimal
abbrev pub character_text : ℕ → List ℕ
character_text c =
    if c == 34 then codes "\\\""
    else if c == 92 then codes "\\\\"
    else if nat_lt c 32 then codes "\\u{" ++ digits 16 false c ++ codes "}"
    else encode_utf8 c

abbrev pub quoted : List ℕ → List ℕ
quoted chars = codes "\"" ++ flat_map character_text chars ++ codes "\""

abbrev pub truth_text : Bool → List ℕ
truth_text true = codes "true"
truth_text false = codes "false"

-- the texts of the values of an enumeration
abbrev pub value_names : PlainSchema → ℕ → List (List ℕ)
value_names s kind = texts_at s.values kind

-- a value of a kind. Of an enumeration it is the name that the schema has for the ordinal
abbrev pub IsValueText : PlainSchema → ℕ → Value → List ℕ → Type 0
IsValueText s kind (Truth truth) text = text ≡ truth_text truth
IsValueText s kind (Ordinal ordinal) text = slice_get (value_names s kind) ordinal ≡ Some text
IsValueText s kind (Number v) text = text ≡ signed_decimal v
IsValueText s kind (Bytes bytes) text = text ≡ encode_lower bytes
IsValueText s kind (Text chars) text = text ≡ quoted chars

-- ---- names

abbrev pub IsName : PlainSchema → ℕ → List ℕ → Type 0
IsName s name text = slice_get s.names name ≡ Some text

-- a value of a kind behind its name
abbrev pub IsNamedText : PlainSchema → ℕ → ℕ → Value → List ℕ → Type 0
IsNamedText s name kind value text =
    (word : List ℕ) × (said : List ℕ) × IsName s name word × IsValueText s kind value said × (text ≡ word ++ codes "=" ++ said)

-- ---- the form of a datatype, whatever its range and its greatest length

-- at most 20 digits
abbrev pub IsShort : ℤ → Type 0
IsShort v = unsigned_abs v < 10 ^ 20

abbrev pub IsOfForm : Datatype → Value → Type 0
IsOfForm BoolType (Truth truth) = Unit {0}
IsOfForm (Named count) (Ordinal ordinal) = Unit {0}
IsOfForm (Bounded least count) (Number v) = IsShort v
IsOfForm (Unsigned most) (Number v) = IsShort v
IsOfForm (Signed least most) (Number v) = IsShort v
IsOfForm (Binary most) (Bytes bytes) = AllByRecursion (λ byte. byte < 256) bytes
IsOfForm (TextType most) (Text chars) = AllByRecursion (λ char. IsScalar char) chars
IsOfForm _ _ = ⊥

-- a value of the form of its kind's datatype, and its text
abbrev pub IsFormed : PlainSchema → ℕ → Datatype → Value → List ℕ → Type 0
IsFormed s kind datatype value text = IsOfForm datatype value × IsValueText s kind value text
