-- Own: how what is wanted is written.
use Rattle.std.specs.Prelude.{◌≡◌, ℕ, suc, ◌≤◌, true, false, ℤ, pos, negsuc, IsTrue, List, [], ◌∷◌, ◌++◌, length, codes}
use Rattle.std.specs.Int.{w32}
use Rattle.std.specs.Int.RustNames.{FitsSigned}
use Rattle.std.specs.List.{All, AllZip, join_with_byte}
use Rattle.std.specs.Str.Parse.{IsNumeral, digits_value}
use Rattle.service_spec.specs.declared.Value.{Value}
use Rattle.service_spec.specs.declared.Value.TheVariants.{Truth, Number, Text}
use Rattle.service_spec.specs.declared.Parameter.{Parameter}
use Rattle.service_spec.specs.Texts.{is_a_name, is_a_text}

-- 1 to 20 decimal digits, the first of which may be 0
abbrev pub IsDigits : List ℕ → Type 0
IsDigits digits = IsNumeral 10 digits × (length digits ≤ 20)

-- of this value
abbrev pub HasDigits : ℕ → List ℕ → Type 0
HasDigits number digits = IsDigits digits × (digits_value 10 digits ≡ number)

-- after a `-` exactly where the number is negative
abbrev pub HasNumber : ℤ → List ℕ → Type 0
HasNumber (pos number) text = HasDigits number text
HasNumber (negsuc less) [] = ⊥
HasNumber (negsuc less) (sign ∷ digits) = (sign ≡ 45) × HasDigits (suc less) digits

-- a value is spelled by this text: a truth by its name, a text in double quotes
abbrev pub Spells : Value → List ℕ → Type 0
Spells (Truth true) text = text ≡ codes "true"
Spells (Truth false) text = text ≡ codes "false"
Spells (Number number) text = HasNumber number text
Spells (Text inside) text = text ≡ 34 ∷ inside.now ++ 34 ∷ []

-- a number of 32 bits, or a text that a parameter may have
abbrev pub IsValue : Value → Type 0
IsValue (Truth truth) = Unit {0}
IsValue (Number number) = FitsSigned w32 number
IsValue (Text text) = IsTrue (is_a_text text.now)

-- a pair by its name, `=` and its value
pub record SpellsPair (pair : Parameter) (text : List ℕ) : Type 0 where
  pub behind : List ℕ
  pub parts : text ≡ pair.name.now ++ 61 ∷ behind
  pub value : Spells pair.value behind

pub record IsPair (pair : Parameter) : Type 0 where
  pub name : IsTrue (is_a_name pair.name.now)
  pub value : IsValue pair.value

-- a word is 1 to 16 pieces with `;` between each two, and spells a pair by each
pub record IsWant (word : List ℕ) (pairs : List Parameter) : Type 0 where
  pub some : 1 ≤ length pairs
  pub few : length pairs ≤ 16
  pub each : All IsPair pairs
  pub pieces : List (List ℕ)
  pub spelled : AllZip SpellsPair pairs pieces
  pub text : word ≡ join_with_byte 59 pieces
