-- W3C EXI 1.0 (Second Edition) 7.3.3, Partitions Optimized for Frequent use of String Literals: the global
-- value partition has the values of all elements and attributes, a local one those of one name.
use Rattle.std.specs.Prelude.{ℕ, ◌==◌, if◌then◌else◌, List, [], ◌∷◌, refl}
use Rattle.std.specs.Coded.{Coded, code_by, coded×, coded_ℕ, coded_list}

-- the entries in the order in which they came, each with its name, and how many there may be
pub record Table (T : Type 0) : Type 0 where
  pub entries : List (ℕ × T)
  pub cap : ℕ

-- the global partition
abbrev pub global_of : {T : Type 0} → List (ℕ × T) → List T
global_of [] = []
global_of (entry ∷ entries) = entry.1 ∷ global_of entries

-- the local partition of a name
abbrev pub local_of : {T : Type 0} → ℕ → List (ℕ × T) → List T
local_of name [] = []
local_of name (entry ∷ entries) = if entry.0 == name then entry.1 ∷ local_of name entries else local_of name entries

-- a table is stored as its entries and its cap
abbrev pub table_code : {T : Type 0} → Coded T → Coded (Table T)
table_code {T} code =
    code_by (List (ℕ × T) × ℕ) (coded× (coded_list (coded× coded_ℕ code)) coded_ℕ) (λ t. (t.entries, t.cap)) (λ p. record { entries = p.0; cap = p.1 }) (λ _. refl)
