-- What is read at each step on the way to the row of a place.
use Rattle.std.proofs.Common.{◌≡◌, ℕ, ◌<◌, List, length, get_or, Vec, arith, min}
use Rattle.std.specs.declared.alloc.Global.{Global}
use Rattle.exi_schema.specs.Schemas.{PlainSchema}
use Rattle.exi_schema.specs.Plain.{PlainKind}
use Rattle.exi_schema.specs.declared.places.Place.{Place}
use Rattle.exi_schema.specs.Offers.{IsPlace}
use Rattle.exi_schema.proofs.Conditions.{place_within}
use Rattle.exi_tables.specs.declared.filling.KindTable.{KindTable}
use Rattle.exi_tables.specs.declared.filling.Row.{Row}
use Rattle.exi_tables.specs.Filled.{IsRow, HoldsCopies, HoldsParticles, HoldsAttributes, IsKindTable, HoldsKinds}
use Rattle.exi_tables.proofs.Counted.{IsCounted, place_counted}
use Rattle.exi_tables.proofs.Offered.{declaration_at}
use Rattle.exi_tables.proofs.Tables.{table_at}

-- the table of a kind
pub table_of : (s : PlainSchema) (kind : ℕ) (tables : List KindTable) (table : KindTable) → kind < length s.kinds → kind < 65536 → HoldsKinds s tables →
    table ≡ get_or tables kind table → IsKindTable s kind table
table_of s kind tables table within short holds found =
    let low : kind < min (length s.kinds) 65536 = omega (arith, within, short) in table_at _ _ tables kind table holds low found

-- the declaration of a place, and the tables of its particles
pub record IsAtParticles (s : PlainSchema) (place : Place) (tables : List (Vec Row Global)) : Type 0 where
  pub declaration : PlainKind
  pub counted : IsCounted declaration place
  pub holds : HoldsParticles s declaration (record { kind = place.kind; particle = 0; copies = 0; attributes = place.attributes }) tables

-- the declaration of a place, and the rows of its particle
pub record IsAtCopies (s : PlainSchema) (place : Place) (rows : List Row) : Type 0 where
  pub declaration : PlainKind
  pub counted : IsCounted declaration place
  pub holds : HoldsCopies s declaration (record { kind = place.kind; particle = place.particle; copies = 0; attributes = place.attributes }) rows

-- the next number is within what was read
pub attributes_there : (s : PlainSchema) (place : Place) (tables : List KindTable) (table : KindTable) → IsPlace s.kinds place → place.kind < 65536 → HoldsKinds s tables →
    table ≡ get_or tables place.kind table → place.attributes < length table.by_attributes.items
attributes_there s place tables table at short holds first =
    let found = declaration_at s.kinds place at in
    let counted : IsCounted found.0 place = place_counted place found.0 found.2 in
    let holds_all : HoldsAttributes s found.0 (record { kind = place.kind; particle = 0; copies = 0; attributes = 0 }) table.by_attributes.items =
    (table_of s place.kind tables table (place_within s.kinds place place.kind at) short holds first).rows found.0 found.1 in
    omega (arith, holds_all.whole, counted.attributes)

pub at_particles : (s : PlainSchema) (place : Place) (tables : List KindTable) (table : KindTable) (ys : Vec (Vec Row Global) Global) →
    IsPlace s.kinds place → place.kind < 65536 → HoldsKinds s tables →
    table ≡ get_or tables place.kind table → ys ≡ get_or table.by_attributes.items place.attributes ys → IsAtParticles s place ys.items
at_particles s place tables table ys at short holds first second =
    let found = declaration_at s.kinds place at in
    let counted : IsCounted found.0 place = place_counted place found.0 found.2 in
    let by_attributes : HoldsAttributes s found.0 (record { kind = place.kind; particle = 0; copies = 0; attributes = 0 }) table.by_attributes.items =
    (table_of s place.kind tables table (place_within s.kinds place place.kind at) short holds first).rows found.0 found.1 in
    record { declaration = found.0; counted = counted; holds = table_at _ _ table.by_attributes.items place.attributes ys by_attributes counted.attributes second }

pub at_copies : (s : PlainSchema) (place : Place) (tables : List (Vec Row Global)) (rows : Vec Row Global) → IsAtParticles s place tables →
    rows ≡ get_or tables place.particle rows → IsAtCopies s place rows.items
at_copies s place tables rows at is =
    record { declaration = at.declaration; counted = at.counted; holds = table_at _ _ tables place.particle rows at.holds at.counted.particle is }

pub at_row : (s : PlainSchema) (place : Place) (rows : List Row) (row : Row) → IsAtCopies s place rows → row ≡ get_or rows place.copies row → IsRow s place row
at_row s place rows row at is = table_at _ _ rows place.copies row at.holds at.counted.copies is

pub particle_there : (s : PlainSchema) (place : Place) (tables : List (Vec Row Global)) → IsAtParticles s place tables → place.particle < length tables
particle_there s place tables at = omega (arith, at.holds.whole, at.counted.particle)

pub copies_there : (s : PlainSchema) (place : Place) (rows : List Row) → IsAtCopies s place rows → place.copies < length rows
copies_there s place rows at = omega (arith, at.holds.whole, at.counted.copies)
