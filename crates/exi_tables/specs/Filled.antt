-- Own: what compiled rows hold: for each place of a schema its offers and the width of its codes (W3C EXI 1.0, Second Edition, 8.5.4
-- and 6.2).
use Rattle.std.specs.Prelude.{◌≡◌, ℕ, List, length, slice_get, Some, IfSome, min, Vec}
use Rattle.std.specs.declared.alloc.Global.{Global}
use Rattle.exi_schema.specs.Plain.{PlainKind}
use Rattle.exi_schema.specs.declared.places.Place.{Place}
use Rattle.exi_schema.specs.Schemas.{PlainSchema}
use Rattle.exi_schema.specs.Offers.{offers, IsWidth}
use Rattle.exi_schema.specs.declared.places.OptionalSequence.{OptionalSequence}
use Rattle.exi_schema.specs.Sequences.{TellsSequence, KeepsSequence, IsOptionalSequence}
use Rattle.exi_schema.specs.Steps.{simple_at}
use Rattle.exi_tables.specs.declared.filling.KindTable.{KindTable}
use Rattle.exi_tables.specs.declared.filling.Row.{Row}
use Rattle.exi_tables.specs.Counts.{attribute_places, particle_places, copy_places}

-- the row of a place
pub record IsRow (s : PlainSchema) (place : Place) (row : Row) : Type 0 where
  pub steps : row.steps.items ≡ offers s.kinds place
  pub width : IsWidth (length (offers s.kinds place)) row.width

-- a list of so many items, each being right for its number
pub record IsTable {X : Type 0} (count : ℕ) (IsRight : ℕ → X → Type 0) (items : List X) : Type 0 where
  pub whole : length items ≡ count
  pub each : (i : ℕ) (item : X) → slice_get items i ≡ Some item → IsRight i item

-- the rows of the places of a declaration that differ from `here` in the copies
abbrev pub HoldsCopies : PlainSchema → PlainKind → Place → List Row → Type 0
HoldsCopies s declaration here rows =
    IsTable (copy_places declaration here.particle) (λ copies row. IsRow s (record here { copies = copies }) row) rows

-- those that differ in the particle too
abbrev pub HoldsParticles : PlainSchema → PlainKind → Place → List (Vec Row Global) → Type 0
HoldsParticles s declaration here tables =
    IsTable (particle_places declaration) (λ particle rows. HoldsCopies s declaration (record here { particle = particle }) rows.items) tables

-- those that differ in the attributes too
abbrev pub HoldsAttributes : PlainSchema → PlainKind → Place → List (Vec (Vec Row Global) Global) → Type 0
HoldsAttributes s declaration here tables =
    IsTable (attribute_places declaration) (λ attributes rows. HoldsParticles s declaration (record here { attributes = attributes }) rows.items) tables

-- the table of a kind: its datatype, if it is simple, its children, if it is a sequence of at most eight values or one of three of which
-- the second may be absent, and the rows of its places
pub record IsKindTable (s : PlainSchema) (kind : ℕ) (table : KindTable) : Type 0 where
  pub datatype : table.datatype ≡ simple_at s.kinds kind
  pub sequence : TellsSequence s.kinds (record { kind = kind; particle = 0; copies = 0; attributes = 0 }) table.sequence.items
  pub whole : KeepsSequence s.kinds (record { kind = kind; particle = 0; copies = 0; attributes = 0 }) table.sequence.items
  pub optional : IfSome table.optional (IsOptionalSequence s.kinds (record { kind = kind; particle = 0; copies = 0; attributes = 0 }))
  pub each_optional :
      (all : OptionalSequence) → IsOptionalSequence s.kinds (record { kind = kind; particle = 0; copies = 0; attributes = 0 }) all →
      table.optional ≡ Some all
  pub rows :
      (declaration : PlainKind) → slice_get s.kinds kind ≡ Some declaration →
      HoldsAttributes s declaration (record { kind = kind; particle = 0; copies = 0; attributes = 0 }) table.by_attributes.items

-- a kind's number has 16 bits
abbrev pub HoldsKinds : PlainSchema → List KindTable → Type 0
HoldsKinds s tables = IsTable (min (length s.kinds) 65536) (IsKindTable s) tables
