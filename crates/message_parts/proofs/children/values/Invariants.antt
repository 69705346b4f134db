use Rattle.std.proofs.Common.{◌≡◌, ℕ, List, length, map, true}
use Rattle.exi_events.specs.Trees.{Event}
use Rattle.exi_schema.specs.declared.tables.AttributeOf.{AttributeOf}
use Rattle.exi_schema.specs.Plain.{PlainKind, PlainParticle}
use Rattle.message_parts.specs.Contents.{Of, told_each}
use Rattle.message_parts.specs.Particles.{name_at, is_repeated_at, takes_at}
use Rattle.message_parts.specs.Reading.{Frame, seen_of, IsOpen, Reads}
use Rattle.message_parts.proofs.Repeated.{Repeats}
use Rattle.message_parts.proofs.children.values.Given as goal

abbrev pub invariant-loop : goal.invariant-loop
invariant-loop g l =
    record {
      ready : IsOpen g.P.Places.schema l.descent;
      table : l.descent.reader.table.ghost_name ≡ l.initial.descent.reader.table.ghost_name;
      places : l.descent.reader.places.now ≡ l.initial.descent.reader.places.now;
      payload : l.descent.reader.reader.bits ≡ l.initial.descent.reader.reader.bits;
      counted : length l.items.items ≡ l.counter;
      read : (ks : List PlainKind) (F : Frame) (attributes : List AttributeOf) (declared : List PlainParticle) (at : ℕ) (told : List Event) → Reads ks F attributes declared at told (seen_of g.P.Places.schema l.initial.descent)
          → is_repeated_at declared at g.row.N ≡ true → l.name ≡ name_at declared at → takes_at g.T.Simple.takes ks declared at ≡ true
          → Repeats ks F attributes declared at g.row.N l.counter (told_each l.name (map (λ x. Of (g.T.Simple.value x)) l.items.items) told) (seen_of g.P.Places.schema l.descent);
    }
