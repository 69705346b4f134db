-- Own: fronts of a text. A language is one of texts in UTF-8, a front is a list of characters.
use Rattle.std.specs.Prelude.{◌≡◌, ℕ, ◌≤◌, List, ◌++◌, length}
use Rattle.std.specs.Str.{encode_utf8_all}

-- a text of the language begins so
abbrev pub Begins : (List ℕ → Type 0) → List ℕ → Type 0
Begins L front = (rest : List ℕ) × L (encode_utf8_all front ++ rest)

-- of a text the longest front that begins one of the language
pub record IsLongest (L : List ℕ → Type 0) (text front : List ℕ) : Type 0 where
  pub rest : List ℕ
  pub stands : text ≡ encode_utf8_all front ++ rest
  pub begins : Begins L front
  pub longest : (longer more : List ℕ) → text ≡ encode_utf8_all longer ++ more → Begins L longer → length longer ≤ length front
