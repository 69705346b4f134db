-- Own: what is declared at a particle or an attribute of an element, and tests of it that are computed.
use Rattle.std.specs.Prelude.{ℕ, nat_lt, nat_le, not, ◌==◌, ◌&&◌, if◌then◌else◌, Bool, true, false, List, [], ◌∷◌, length, Option, Some, None, slice_get, ◌+◌}
use Rattle.std.specs.List.{list_any}
use Rattle.exi_schema.specs.Offers.{leaves_room}
use Rattle.exi_schema.specs.Schemas.{is_taken}
use Rattle.exi_schema.specs.declared.tables.AttributeOf.{AttributeOf}
use Rattle.exi_schema.specs.declared.tables.Datatype.{Datatype}
use Rattle.exi_schema.specs.declared.tables.Member.{Member}
use Rattle.exi_schema.specs.declared.tables.RootOf.{RootOf}
use Rattle.exi_schema.specs.Plain.{PlainKind, PlainParticle}
use Rattle.exi_schema.specs.Steps.{simple_at}

-- ---- particles, as they are written down

-- ---- what may stand at a particle

-- the names and kinds of the members in the profile
abbrev pub alternatives : List Member → List (ℕ × ℕ)
alternatives [] = []
alternatives (m ∷ members) = if is_taken m.standing then (m.name, m.kind) ∷ alternatives members else alternatives members

abbrev pub names_among : List (ℕ × ℕ) → List ℕ
names_among [] = []
names_among (a ∷ more) = a.0 ∷ names_among more

abbrev pub kind_among : List (ℕ × ℕ) → ℕ → Option ℕ
kind_among [] name = None
kind_among (a ∷ more) name = if a.0 == name then Some a.1 else kind_among more name

abbrev pub alternatives_of : Option PlainParticle → List (ℕ × ℕ)
alternatives_of None = []
alternatives_of (Some p) = alternatives p.members

abbrev pub alternatives_at : List PlainParticle → ℕ → List (ℕ × ℕ)
alternatives_at declared at = alternatives_of (slice_get declared at)

-- the first of them, which mostly is the only one
abbrev pub first_name : List (ℕ × ℕ) → ℕ
first_name [] = 0
first_name (a ∷ more) = a.0

abbrev pub first_kind : List (ℕ × ℕ) → ℕ
first_kind [] = 0
first_kind (a ∷ more) = a.1

abbrev pub name_at : List PlainParticle → ℕ → ℕ
name_at declared at = first_name (alternatives_at declared at)

abbrev pub kind_at : List PlainParticle → ℕ → ℕ
kind_at declared at = first_kind (alternatives_at declared at)

-- ---- how often

abbrev pub is_sole : List (ℕ × ℕ) → Bool
is_sole [] = false
is_sole (a ∷ []) = true
is_sole (a ∷ b ∷ more) = false

abbrev pub is_none : List (ℕ × ℕ) → Bool
is_none [] = true
is_none (a ∷ more) = false

-- once, or at most once
abbrev pub is_required : Option PlainParticle → Bool
is_required None = false
is_required (Some p) = nat_lt 0 p.least && not (leaves_room p.most 1)

abbrev pub is_single : Option PlainParticle → Bool
is_single None = false
is_single (Some p) = not (leaves_room p.most 1)

-- a number of copies that the maximum leaves room for
abbrev pub has_room_for : ℕ → Option ℕ → Bool
has_room_for n None = true
has_room_for n (Some most) = nat_le n most

-- so many are accepted: as many as there may be, or as a profile's limit says
abbrev pub accepts : ℕ → Option PlainParticle → Bool
accepts n None = false
accepts n (Some p) = (p.profile == n) && has_room_for n p.most

-- one element has to be there; it may be there; n of them may
abbrev pub is_once_at : List PlainParticle → ℕ → Bool
is_once_at declared at = is_required (slice_get declared at) && is_sole (alternatives_at declared at)

abbrev pub is_optional_at : List PlainParticle → ℕ → Bool
is_optional_at declared at = is_single (slice_get declared at) && is_sole (alternatives_at declared at)

abbrev pub is_repeated_at : List PlainParticle → ℕ → ℕ → Bool
is_repeated_at declared at n = accepts n (slice_get declared at) && is_sole (alternatives_at declared at)

-- nothing of the profile stands there
abbrev pub is_left_out : Option PlainParticle → Bool
is_left_out None = false
is_left_out (Some p) = is_none (alternatives p.members)

-- ---- attributes

-- one that has to be there, and one that may be there
abbrev pub must : ℕ → ℕ → AttributeOf
must name kind = record { name = name; kind = kind; required = true }

abbrev pub may : ℕ → ℕ → AttributeOf
may name kind = record { name = name; kind = kind; required = false }

abbrev pub attribute_name : Option AttributeOf → ℕ
attribute_name None = 0
attribute_name (Some a) = a.name

abbrev pub attribute_kind : Option AttributeOf → ℕ
attribute_kind None = 0
attribute_kind (Some a) = a.kind

abbrev pub attribute_at : List AttributeOf → ℕ → ℕ
attribute_at attributes at = attribute_name (slice_get attributes at)

abbrev pub is_must : Option AttributeOf → Bool
is_must None = false
is_must (Some a) = a.required

abbrev pub is_may : Option AttributeOf → Bool
is_may None = false
is_may (Some a) = not a.required

-- the last attribute, which may be there
abbrev pub is_last_may : List AttributeOf → ℕ → Bool
is_last_may attributes at = is_may (slice_get attributes at) && (length attributes == at + 1)

-- ---- datatypes

abbrev pub takes_of : (Datatype → Bool) → Option Datatype → Bool
takes_of takes None = false
takes_of takes (Some d) = takes d

abbrev pub takes_kind : (Datatype → Bool) → List PlainKind → ℕ → Bool
takes_kind takes ks kind = takes_of takes (simple_at ks kind)

abbrev pub takes_at : (Datatype → Bool) → List PlainKind → List PlainParticle → ℕ → Bool
takes_at takes ks declared at = takes_kind takes ks (kind_at declared at)

abbrev pub takes_attribute : (Datatype → Bool) → List PlainKind → List AttributeOf → ℕ → Bool
takes_attribute takes ks attributes at = takes_kind takes ks (attribute_kind (slice_get attributes at))

-- ---- the child that has started

abbrev pub is_child_among : List ℕ → Option ℕ → Bool
is_child_among names None = false
is_child_among names (Some name) = list_any (λ n. n == name) names

-- ---- roots

abbrev pub is_kind : ℕ → Option ℕ → Bool
is_kind kind None = false
is_kind kind (Some other) = other == kind

-- each root of a schema is one of these
abbrev pub are_among : List (ℕ × ℕ) → List RootOf → Bool
are_among members [] = true
are_among members (root ∷ roots) = is_kind root.kind (kind_among members root.name) && are_among members roots
