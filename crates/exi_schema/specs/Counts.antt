-- Own: helpers of the walks over a kind's parts and over the roots.
use Rattle.std.specs.Prelude.{ℕ, ◌==◌, ◌+◌, nat_lt, if◌then◌else◌, List, [], ◌∷◌, length}
use Rattle.exi_schema.specs.Plain.{PlainParticle}
use Rattle.exi_schema.specs.declared.tables.RootOf.{RootOf}
use Rattle.exi_schema.specs.declared.places.Root.{Root}
use Rattle.exi_schema.specs.declared.places.Root.TheVariants.{Kind, Unknown}

-- how many elements, with the end, are offered where so many copies of the first particle are passed
abbrev pub element_total : ℕ → List PlainParticle → ℕ
element_total copies [] = 1
element_total copies (particle ∷ particles) =
    length particle.members + (if nat_lt copies particle.least then 0 else element_total 0 particles)

-- the first root with a document number
abbrev pub root_numbered : List RootOf → ℕ → Root
root_numbered [] number = Unknown
root_numbered (root ∷ roots) number = if root.number == number then Kind root.name root.kind else root_numbered roots number
