use Rattle.std.proofs.Common.{List, map, drop}
use Rattle.exi_events.specs.Trees.{Event}
use Rattle.exi_events.specs.Writer.{IsReadyToPut, KeepsLent}
use Rattle.message_parts.specs.Contents.{holding_with, each_onto}
use Rattle.message_parts.specs.Writing.{Target, Writes, put_of}
use Rattle.message_parts.proofs.writer.put_records.Given as goal

abbrev pub invariant-loop-value : goal.invariant-loop-value
invariant-loop-value g l =
    record {
      ready : IsReadyToPut l.writer;
      lent : KeepsLent l.initial.writer l.writer;
      write : (F : Target) (rest : List Event) → Writes F (each_onto l.name (map (λ x. holding_with (g.T.PutRecord.given x) (g.T.PutRecord.parts x)) l.value-items) rest) (put_of l.initial.writer)
          → Writes F (each_onto l.name (map (λ x. holding_with (g.T.PutRecord.given x) (g.T.PutRecord.parts x)) (drop l.value-index l.value-items)) rest) (put_of l.writer);
    }
