-- Own: the names that may follow in a text, each with the character behind it.
use Rattle.std.specs.Prelude.{◌≡◌, ℕ, List, Some, slice_get}
use Rattle.std.specs.List.{AllByRecursion}
use Rattle.exi_schema.specs.Schemas.{PlainSchema}
use Rattle.exi_schema.specs.declared.tables.AttributeOf.{AttributeOf}
use Rattle.exi_schema.specs.declared.tables.Member.{Member}
use Rattle.exi_schema.specs.Plain.{PlainParticle}
use Rattle.exi_schema.specs.declared.tables.RootOf.{RootOf}
use Rattle.value_text.specs.declared.awaited.Awaited.{Awaited}
use Rattle.dialect_text.specs.Dialect.{element_named, mark}

-- the name of a root with its mark
abbrev pub awaited_root : PlainSchema → RootOf → Awaited
awaited_root s root = record { name = root.name; end = mark s root.kind }

abbrev pub awaited_attribute : AttributeOf → Awaited
awaited_attribute attribute = record { name = attribute.name; end = 61 }

-- the name of an element of these particles with its mark
abbrev pub IsAwaitedElement : PlainSchema → List PlainParticle → Awaited → Type 0
IsAwaitedElement s particles awaited =
    (kind : ℕ) × (element_named particles awaited.name ≡ Some kind) × (awaited.end ≡ mark s kind)

-- each that these members name is among them
abbrev pub HasMembers : PlainSchema → List PlainParticle → List Member → List Awaited → Type 0
HasMembers s particles members awaited =
    AllByRecursion (λ member. element_named particles member.name ≡ Some member.kind
    → (i : ℕ) × (slice_get awaited i ≡ Some (record { name = member.name; end = mark s member.kind }))) members

abbrev pub HasElements : PlainSchema → List PlainParticle → List Awaited → Type 0
HasElements s particles awaited =
    (name kind : ℕ) → element_named particles name ≡ Some kind → (i : ℕ) × (slice_get awaited i ≡ Some (record { name = name; end = mark s kind }))
