-- Own: the texts of each form of a value, and what stands next in a text.
use Rattle.std.specs.Prelude.{◌≡◌, ℕ, ℤ, ◌<◌, ◌||◌, ◌⊎◌, Bool, false, List, ◌++◌, codes, length, take, ◌≤◌, MatchOption, Option, Some, None, slice_get, encode_utf8}
use Rattle.std.specs.Char.{IsScalar, is_ascii_digit}
use Rattle.std.specs.Fmt.{decimal, digits, signed_decimal}
use Rattle.std.specs.Int.{is_in_range}
use Rattle.std.specs.List.{AllByRecursion}
use Rattle.std.specs.Str.{IsAscii}
use Rattle.hex.specs.Hex.{encode_lower}
use Rattle.value_text.specs.ValueText.{IsShort, truth_text, character_text, quoted}

abbrev pub IsNumberText : List ℕ → Type 0
IsNumberText text = (v : ℤ) × IsShort v × (text ≡ signed_decimal v)

abbrev pub IsTruthText : List ℕ → Type 0
IsTruthText text = (truth : Bool) × (text ≡ truth_text truth)

abbrev pub IsBytesText : List ℕ → Type 0
IsBytesText text = (bytes : List ℕ) × AllByRecursion (λ byte. byte < 256) bytes × (text ≡ encode_lower bytes)

abbrev pub IsQuotedText : List ℕ → Type 0
IsQuotedText text = (chars : List ℕ) × AllByRecursion (λ char. IsScalar char) chars × (text ≡ quoted chars)

-- behind a backslash: a quote, a backslash, or the number of a character below U+0020
abbrev pub IsNumbered : ℕ → List ℕ → Type 0
IsNumbered c text = (c < 32) × (text ≡ digits 16 false c ++ codes "}")

abbrev pub IsBraced : ℕ → List ℕ → Type 0
IsBraced c text = (number : List ℕ) × IsNumbered c number × (text ≡ codes "{" ++ number)

abbrev pub IsEscaped : ℕ → List ℕ → Type 0
IsEscaped c text =
    ((c ≡ 34) × (text ≡ codes "\"")) ⊎ (((c ≡ 92) × (text ≡ codes "\\")) ⊎ ((braced : List ℕ) × IsBraced c braced × (text ≡ codes "u" ++ braced)))

abbrev pub IsNumberedText : List ℕ → Type 0
IsNumberedText text = (c : ℕ) × IsNumbered c text

abbrev pub IsBracedText : List ℕ → Type 0
IsBracedText text = (c : ℕ) × IsBraced c text

abbrev pub IsEscapedText : List ℕ → Type 0
IsEscapedText text = (c : ℕ) × IsEscaped c text

-- between quotes: the closing quote, or a character
abbrev pub IsPieceText : List ℕ → Type 0
IsPieceText text = (text ≡ codes "\"") ⊎ ((c : ℕ) × IsScalar c × (text ≡ character_text c))

abbrev pub IsPiece : Option ℕ → List ℕ → Type 0
IsPiece None text = text ≡ codes "\""
IsPiece (Some c) text = IsScalar c × (text ≡ character_text c)

-- one of some words
abbrev pub IsOneOf : List (List ℕ) → List ℕ → Type 0
IsOneOf words text = (i : ℕ) × (slice_get words i ≡ Some text)

-- ---- what stands next

-- a text begins with no character that passes the test
abbrev pub NoneNext : (ℕ → Bool) → List ℕ → Type 0
NoneNext test text = (c : ℕ) (more : List ℕ) → text ≡ encode_utf8 c ++ more → test c ≡ false

abbrev pub is_lower_digit : ℕ → Bool
is_lower_digit c = is_ascii_digit c || is_in_range 97 102 c

-- behind a number's digits there is another only where there are 20
abbrev pub EndsDigits : ℕ → List ℕ → Type 0
EndsDigits number rest = length (decimal number) < 20 → NoneNext is_ascii_digit rest

-- ---- words

-- two texts begin with the same so many bytes
abbrev pub AgreesTo : List ℕ → List ℕ → ℕ → Type 0
AgreesTo text word count = (count ≤ length text) × (count ≤ length word) × (take count text ≡ take count word)

-- and with no more
abbrev pub AgreesMost : List ℕ → List ℕ → ℕ → Type 0
AgreesMost text word count = AgreesTo text word count × ((more : ℕ) → AgreesTo text word more → more ≤ count)

-- so many bytes of a text begin one of the first n words, and no more do; and which of the words they are, if one is
pub record IsBest (words : List (List ℕ)) (n : ℕ) (text : List ℕ) (count : ℕ) (whole : Option ℕ) : Type 0 where
  pub within : count ≤ length text
  pub begins : (count ≡ 0) ⊎ ((i : ℕ) × (word : List ℕ) × (slice_get words i ≡ Some word) × AgreesTo text word count)
  pub most : (i : ℕ) (word : List ℕ) (more : ℕ) → i < n → slice_get words i ≡ Some word → AgreesTo text word more → more ≤ count
  pub is : MatchOption whole ((i : ℕ) → i < n → slice_get words i ≡ Some (take count text) → ⊥) (λ i. slice_get words i ≡ Some (take count text))

-- texts in ASCII
abbrev pub AreAscii : List (List ℕ) → Type 0
AreAscii words = (i : ℕ) (word : List ℕ) → slice_get words i ≡ Some word → IsAscii word

-- of a name and the character behind it
abbrev pub awaited_text : List ℕ → ℕ → List ℕ
awaited_text name end = name ++ encode_utf8 end
