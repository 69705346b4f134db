-- Own: what is read of a file.
use Rattle.std.specs.Prelude.{◌≡◌, ◌↔◌, ℕ, ◌<◌, ◌≤◌, List, [], ◌++◌, length, Option, IfSome, IsSomeAnd}

-- of a source that tells its bytes to the last call: the text of the file is told, and this holds of it
abbrev pub Told : Option (List ℕ) → Option (List ℕ) → (List ℕ → Type 0) → Type 0
Told left text P = IfSome left (λ _. IsSomeAnd text P)

-- the text begins with these bytes, and they are the whole of it where they are fewer than there was room for
pub record IsBeginning (text bytes : List ℕ) (room : ℕ) : Type 0 where
  pub rest : List ℕ
  pub split : text ≡ bytes ++ rest
  pub whole : length bytes < room → rest ≡ []

-- of a fault of files: the source's count of faults, which went from n to m, rose exactly where the fault is that one couldn't be read
pub record CountsFault {E : Type 0} (unread : E) (n m : ℕ) (fault : E) : Type 0 where
  pub later : n ≤ m
  pub risen : (fault ≡ unread) ↔ (n < m)
