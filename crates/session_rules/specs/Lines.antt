-- Own: rules that are lists of lines, of which the first that applies decides.
use Rattle.std.specs.Prelude.{Bool, true, not, ◌&&◌, if◌then◌else◌, List, [], ◌∷◌}

pub record Line (A : Type 0) : Type 0 where
  pub applies : Bool
  pub gives : A

abbrev pub line : {A : Type 0} → Bool → A → Line A
line applies gives = record { applies = applies; gives = gives }

-- what the first line that applies gives; where none does, this
abbrev pub first_line : {A : Type 0} → List (Line A) → A → A
first_line [] otherwise = otherwise
first_line (l ∷ lines) otherwise = if l.applies then l.gives else first_line lines otherwise

-- no line applies
abbrev pub none_applies : {A : Type 0} → List (Line A) → Bool
none_applies [] = true
none_applies (l ∷ lines) = not l.applies && none_applies lines
