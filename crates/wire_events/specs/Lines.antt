-- Own: lines that are read byte by byte.
use Rattle.std.specs.Prelude.{ℕ, List, [], ◌∷◌, ◌++◌, ◌==◌, if◌then◌else◌, take}

-- the first five bytes of the line that isn't ended yet, behind a byte more
abbrev pub read_so_far : List ℕ → ℕ → List ℕ
read_so_far line byte = if byte == 10 then [] else take 5 (line ++ byte ∷ [])
