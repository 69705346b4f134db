-- Own: files in memory.
use Rattle.std.specs.Prelude.{ℕ, zero, suc, List, [], ◌∷◌, if◌then◌else◌}
use Rattle.std.specs.Str.{bytes_eq}
use Rattle.charge_world.specs.declared.memory_source.NamedFile.{NamedFile}

-- the bytes of the first file of that name; a name that isn't there has none
abbrev pub bytes_named : List NamedFile → List ℕ → List ℕ
bytes_named [] name = []
bytes_named (file ∷ files) name = if bytes_eq file.name name then file.bytes else bytes_named files name

-- the bytes of the file at a place, none past the last
abbrev pub at_place : List NamedFile → ℕ → List ℕ
at_place [] n = []
at_place (file ∷ files) zero = file.bytes
at_place (file ∷ files) (suc n) = at_place files n
