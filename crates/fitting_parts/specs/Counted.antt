-- Own: how many texts an element of a kind holds at most, as a number that is computed of a written schema.
use Rattle.std.specs.Prelude.{ℕ, zero, suc, ◌+◌, ◌*◌, max, nat_le, ◌&&◌, Bool, List, [], ◌∷◌, Option, Some, None, slice_get}
use Rattle.std.specs.List.{list_all}
use Rattle.exi_schema.specs.declared.tables.AttributeOf.{AttributeOf}
use Rattle.exi_schema.specs.declared.tables.Datatype.{Datatype}
use Rattle.exi_schema.specs.declared.tables.Datatype.TheVariants.{Text as TextType}
use Rattle.exi_schema.specs.declared.tables.Member.{Member}
use Rattle.exi_schema.specs.Plain.{PlainKind, valued, containing, PlainParticle}
use Rattle.exi_schema.specs.Schemas.{PlainSchema, is_within}
use Rattle.exi_documents.specs.Values.{most_entries}

abbrev pub texts_of_datatype : Datatype → ℕ
texts_of_datatype (TextType most) = 1
texts_of_datatype _ = 0

-- at most one for each attribute; the greatest number of any member for each copy of a particle that is accepted
abbrev pub most_of_members : (ℕ → ℕ) → List Member → ℕ
most_of_members f [] = 0
most_of_members f (member ∷ members) = max (f member.kind) (most_of_members f members)

abbrev pub most_of_particles : (ℕ → ℕ) → List PlainParticle → ℕ
most_of_particles f [] = 0
most_of_particles f (particle ∷ particles) = particle.profile * most_of_members f particle.members + most_of_particles f particles

abbrev pub attribute_count : List AttributeOf → ℕ
attribute_count [] = 0
attribute_count (attribute ∷ attributes) = 1 + attribute_count attributes

abbrev pub most_of_kind : (ℕ → ℕ) → Option PlainKind → ℕ
most_of_kind f None = 0
most_of_kind f (Some (valued datatype)) = texts_of_datatype datatype
most_of_kind f (Some (containing attributes particles)) = attribute_count attributes + most_of_particles f particles

-- of elements so deep
abbrev pub most_texts : ℕ → List PlainKind → ℕ → ℕ
most_texts zero kinds kind = 0
most_texts (suc deep) kinds kind = most_of_kind (most_texts deep kinds) (slice_get kinds kind)

-- the element of each root has no more than a document may enter; none stands deeper than 16
abbrev pub has_few_texts : PlainSchema → Bool
has_few_texts s =
    list_all (λ root. is_within s.kinds 16 root.kind && nat_le (most_texts 16 s.kinds root.kind) most_entries) s.roots
