-- Own: how many places an element of a kind has: by the attributes passed, by the particles passed, and at each particle by the
-- copies passed.
use Rattle.std.specs.Prelude.{ℕ, ◌+◌, List, [], ◌∷◌, length, drop, Option, Some, None}
use Rattle.exi_schema.specs.Plain.{PlainKind, valued, containing, PlainParticle}

abbrev pub attribute_places : PlainKind → ℕ
attribute_places (valued datatype) = 1
attribute_places (containing attributes particles) = length attributes + 1

abbrev pub particle_places : PlainKind → ℕ
particle_places (valued datatype) = 2
particle_places (containing attributes particles) = length particles + 1

-- before the last copy that a maximum allows, or else at each number of copies up to the profile limit
abbrev pub copies_within : ℕ → Option ℕ → ℕ
copies_within profile None = profile + 1
copies_within profile (Some most) = most

-- at the first of these particles, or behind the last
abbrev pub copies_before : List PlainParticle → ℕ
copies_before [] = 1
copies_before (particle ∷ particles) = copies_within particle.profile particle.most

abbrev pub copy_places : PlainKind → ℕ → ℕ
copy_places (valued datatype) at = 1
copy_places (containing attributes particles) at = copies_before (drop at particles)
