use Rattle.std.proofs.Common.{rules, map, subst, sym, arith}
use Rattle.std.proofs.lemmas.List.{drop_all}
use Rattle.message_parts.specs.Contents.{Of, each_onto}
use Rattle.message_parts.specs.Writing.{Writes, put_of}
use Rattle.message_parts.proofs.Putting.{drop_next}
use Rattle.message_parts.proofs.writer.put_values.Goals as goal

pub loop-value-init : goal.loop-value-init
loop-value-init g c = record { ready = c.requires.ready; lent = search rules; write = λ F rest h. h }

pub loop-value-preserved : goal.loop-value-preserved
loop-value-preserved g c =
    let i = c.loop-value.invariant in
    record {
      ready = c.put_value.ensures.ready;
      lent = search rules;
      write = λ F rest h. c.put_value.ensures.write F _
          (subst (λ xs. Writes F (each_onto c.args.name (map (λ x. Of (g.T.Simple.value x)) xs) rest) (put_of c.loop-value.writer))
          (drop_next c.as_slice-value-items.result.now c.loop-value.value-index c.value-item.result c.loop-value-test.true c.value-item.is) (i.write F rest h));
    }

pub returns-clause-write : goal.returns-clause-write
returns-clause-write g c = λ F rest h.
    subst (λ xs. Writes F (each_onto c.args.name (map (λ x. Of (g.T.Simple.value x)) xs) rest) (put_of c.loop-value.writer))
    (drop_all c.loop-value.value-index c.as_slice-value-items.result.now (omega arith))
    (c.loop-value.invariant.write F rest (subst (λ xs. Writes F (each_onto c.args.name (map (λ x. Of (g.T.Simple.value x)) xs) rest) (put_of c.args.writer.now)) (sym c.as_slice-value-items.ensures.value) h))
