-- W3C EXI 1.0 (Second Edition) 8.5.4.1, Schema-informed Element and Type Grammars: attributes stand in order of their local names, and so
-- do the members of a substitution group. As a test, so that it is computed of a written schema.
use Rattle.std.specs.Prelude.{◌≡◌, ℕ, ◌<◌, ◌==◌, ◌&&◌, ◌||◌, nat_lt, not, Bool, true, false, List, [], ◌∷◌, map, Option, Some, None, slice_get}
use Rattle.std.specs.List.{list_any, list_all}
use Rattle.exi_schema.specs.declared.tables.AttributeOf.{AttributeOf}
use Rattle.exi_schema.specs.declared.tables.Member.{Member}
use Rattle.exi_schema.specs.declared.tables.MemberStanding.{MemberStanding}
use Rattle.exi_schema.specs.declared.tables.MemberStanding.TheVariants.{Taken, Abstract, OutOfProfile}
use Rattle.exi_schema.specs.Plain.{PlainKind, valued, containing, PlainParticle}
use Rattle.exi_schema.specs.Schemas.{PlainSchema}
use Rattle.exi_documents.specs.Trees.{Trees, none, simple, complex}

-- lexicographically, by code points
abbrev pub is_before : List ℕ → List ℕ → Bool
is_before [] [] = false
is_before [] (d ∷ ds) = true
is_before (c ∷ cs) [] = false
is_before (c ∷ cs) (d ∷ ds) = nat_lt c d || (c == d && is_before cs ds)

-- each text is before all behind it
abbrev pub are_ascending : List (List ℕ) → Bool
are_ascending [] = true
are_ascending (text ∷ texts) = list_all (is_before text) texts && are_ascending texts

-- the text of a name, by its number
abbrev pub text_or_none : Option (List ℕ) → List ℕ
text_or_none None = []
text_or_none (Some text) = text

abbrev pub text_of : List (List ℕ) → ℕ → List ℕ
text_of names name = text_or_none (slice_get names name)

-- a substitution group has an abstract head
abbrev pub is_abstract : MemberStanding → Bool
is_abstract Taken = false
is_abstract Abstract = true
is_abstract OutOfProfile = false

abbrev pub is_group : PlainParticle → Bool
is_group particle = list_any (λ member. is_abstract member.standing) particle.members

abbrev pub is_ordered_particle : List (List ℕ) → PlainParticle → Bool
is_ordered_particle names particle = not (is_group particle) || are_ascending (map (λ member. text_of names member.name) particle.members)

abbrev pub is_ordered_kind : List (List ℕ) → PlainKind → Bool
is_ordered_kind names (valued datatype) = true
is_ordered_kind names (containing attributes particles) =
    are_ascending (map (λ attribute. text_of names attribute.name) attributes) && list_all (is_ordered_particle names) particles

abbrev pub is_ordered : PlainSchema → Bool
is_ordered s = list_all (is_ordered_kind s.names) s.kinds

-- ---- what it means

-- the attributes of each element stand in order of name
abbrev pub AttributesAscend : List (List ℕ) → Trees → Type 0
AttributesAscend names none = Unit {0}
AttributesAscend names (simple name value more) = AttributesAscend names more
AttributesAscend names (complex name attributes children more) =
    (are_ascending (map (λ attribute. text_of names attribute.0) attributes) ≡ true) × AttributesAscend names children × AttributesAscend names more

-- of two members of a group the one of the lower name comes first
abbrev pub MembersAscend : List (List ℕ) → List Member → Type 0
MembersAscend names members =
    (i j : ℕ) (member other : Member) → i < j → slice_get members i ≡ Some member → slice_get members j ≡ Some other →
    is_before (text_of names member.name) (text_of names other.name) ≡ true

abbrev pub GroupsAscend : PlainSchema → Type 0
GroupsAscend s =
    (kind at : ℕ) (attributes : List AttributeOf) (particles : List PlainParticle) (particle : PlainParticle) →
    slice_get s.kinds kind ≡ Some (containing attributes particles) → slice_get particles at ≡ Some particle →
    is_group particle ≡ true → MembersAscend s.names particle.members
