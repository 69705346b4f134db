-- Own: the words of a line, which stand there with one space between each two.
use Rattle.std.specs.Prelude.{◌≡◌, ◌≢◌, ℕ, ◌==◌, ◌&&◌, ◌||◌, nat_le, nat_lt, Bool, true, List, [], ◌∷◌, ◌++◌, ◌+◌, ◌≤◌, ◌↔◌, length, take, drop, map, decimal, Option, Some, None, Result, IsOk, IfOk, IfErr, OnErr, MatchResult}
use Rattle.std.specs.Borrow.{Bor}
use Rattle.std.specs.Int.{w64, to_be_bytes}
use Rattle.std.specs.List.{join_with_byte, slice_split, flat_map, list_all, AllByRecursion}
use Rattle.hex.specs.Hex.{encode_lower, IsBytes}
use Rattle.text_tokens.specs.declared.line.Full.{Full}
use Rattle.text_tokens.specs.declared.line.Word.{Word}
use Rattle.text_tokens.specs.declared.line.Word.TheVariants.{Plain, Number, Bytes, Identifier}
use Rattle.text_tokens.specs.declared.words.Refused.{Refused}
use Rattle.text_tokens.specs.declared.words.Refused.TheVariants as refused

-- reading answers the value that is spelled so, of those in a kind, or that there is none
abbrev pub Reads : {W X : Type 0} → (X → W) → (X → Type 0) → W → Result X Refused → Type 0
Reads {W} {X} spell IsIn words result =
    MatchResult result (λ x. IsIn x × (words ≡ spell x)) (λ r. (r ≡ refused.Bad) × ((x : X) → IsIn x → words ≢ spell x))

-- likewise, but where memory runs out, nothing is said
abbrev pub Gives : {W X : Type 0} → (X → W) → (X → Type 0) → W → Result X Refused → Type 0
Gives {W} {X} spell IsIn words result =
    MatchResult result (λ x. IsIn x × (words ≡ spell x)) (λ r. r ≡ refused.Bad → (x : X) → IsIn x → words ≢ spell x)

-- words with one space between each two
abbrev pub spaced : List (List ℕ) → List ℕ
spaced words = join_with_byte 32 words

-- a line is ended by a line feed
abbrev pub line_text : List (List ℕ) → List ℕ
line_text words = spaced words ++ 10 ∷ []

-- words with a space behind each
abbrev pub spaced_out : List (List ℕ) → List ℕ
spaced_out words = flat_map (λ word. word ++ 32 ∷ []) words

-- a word has no space and no line feed, and none of the characters below them
abbrev pub stands_out : ℕ → Bool
stands_out byte = nat_lt 32 byte

abbrev pub IsWord : List ℕ → Type 0
IsWord word = list_all stands_out word ≡ true

abbrev pub AreWords : List (List ℕ) → Type 0
AreWords words = AllByRecursion IsWord words

-- a digit of lower-case hexadecimal
abbrev pub is_lower_digit : ℕ → Bool
is_lower_digit c = (nat_le 48 c && nat_le c 57) || (nat_le 97 c && nat_le c 102)

-- a word spells bytes in lower-case hexadecimal
abbrev pub IsHex : List ℕ → Type 0
IsHex word = (bytes : List ℕ) × IsBytes bytes × (word ≡ encode_lower bytes)

-- an identifier has sixteen digits, those of its eight bytes, the highest first
abbrev pub identifier_text : ℕ → List ℕ
identifier_text n = encode_lower (to_be_bytes w64 n)

abbrev pub text_of : Word → List ℕ
text_of (Plain text) = text.now
text_of (Number n) = decimal n
text_of (Bytes bytes) = encode_lower bytes.now
text_of (Identifier n) = identifier_text n

abbrev pub texts_of : List Word → List (List ℕ)
texts_of words = map text_of words

-- the words of what is left of a text, if anything is
abbrev pub words_left : Option (Bor (List ℕ)) → List (List ℕ)
words_left None = []
words_left (Some text) = slice_split (λ byte. byte == 32) text.now

-- the text takes the place from `at` to `end`, where the room reaches so far; a room that doesn't keeps its length
pub record Puts (old : List ℕ) (at : ℕ) (new : List ℕ) (end : ℕ) (text : List ℕ) : Type 0 where
  pub same : length new ≡ length old
  pub count : end ≡ at + length text
  pub room : end ≤ length old → new ≡ take at old ++ text ++ drop end old

-- a text is written at the front of a room; one that is too small stays as it was, and what it needs is told
pub record Writes (text old new : List ℕ) (result : Result ℕ Full) : Type 0 where
  pub fits : IsOk result ↔ (length text ≤ length old)
  pub count : IfOk result (λ n. n ≡ length text)
  pub written : IfOk result (λ n. new ≡ text ++ drop n old)
  pub needed : IfErr result (λ full. full.bytes ≡ length text)
  pub unchanged : OnErr result (new ≡ old)
