use Rattle.std.proofs.Common.{◌≡◌, length}
use Rattle.exi_schema.specs.Told.{schema_of}
use Rattle.exi_tables.proofs.Sequenced.{LeadsTo}
use Rattle.exi_tables.proofs.sequences.sequence_of_kind.Given as goal

abbrev pub invariant-loop : goal.invariant-loop
invariant-loop l =
    record {
      leads : LeadsTo (schema_of l.schema).kinds (record { kind = l.kind; particle = 0; copies = 0; attributes = 0 }) l.children.items l.place;
      counted : length l.children.items ≡ l.counter;
    }
