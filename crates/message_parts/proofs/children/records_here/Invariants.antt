use Rattle.std.proofs.Common.{◌≡◌, ◌≤◌, ℕ, Some, List, length, map, take, slice_get, true}
use Rattle.exi_events.specs.Trees.{Event}
use Rattle.exi_schema.specs.declared.tables.AttributeOf.{AttributeOf}
use Rattle.exi_schema.specs.Plain.{PlainParticle, containing}
use Rattle.message_parts.specs.Contents.{holding_with, told_each}
use Rattle.message_parts.specs.Particles.{name_at, kind_at, is_repeated_at}
use Rattle.message_parts.specs.Reading.{Frame, seen_of, IsOpen, Reads}
use Rattle.message_parts.proofs.Repeated.{Repeats}
use Rattle.message_parts.proofs.children.records_here.Given as goal

abbrev pub invariant-loop : goal.invariant-loop
invariant-loop g l =
    record {
      ready : IsOpen g.P.Places.schema l.descent;
      table : l.descent.reader.table.ghost_name ≡ l.initial.descent.reader.table.ghost_name;
      places : l.descent.reader.places.now ≡ l.initial.descent.reader.places.now;
      payload : l.descent.reader.reader.bits ≡ l.initial.descent.reader.reader.bits;
      counted : l.count ≡ l.counter;
      within : l.count ≤ length l.list.items;
      read : (F : Frame) (attributes : List AttributeOf) (declared : List PlainParticle) (at : ℕ) (told : List Event) → Reads g.T.PutRecord.kinds F attributes declared at told (seen_of g.P.Places.schema l.initial.descent)
          → is_repeated_at declared at g.row.N ≡ true → l.name ≡ name_at declared at → slice_get g.T.PutRecord.kinds (kind_at declared at) ≡ Some (containing g.T.PutRecord.attributes g.T.PutRecord.particles)
          → Repeats g.T.PutRecord.kinds F attributes declared at g.row.N l.counter (told_each l.name (map (λ x. holding_with (g.T.PutRecord.given x) (g.T.PutRecord.parts x)) (take l.count l.list.items)) told) (seen_of g.P.Places.schema l.descent);
    }
