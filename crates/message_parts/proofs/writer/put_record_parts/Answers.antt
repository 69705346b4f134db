use Rattle.std.proofs.Common.{subst, ap, ◌∙◌, ◌∷◌, List}
use Rattle.exi_events.specs.Trees.{Event, EndElement}
use Rattle.message_parts.specs.Contents.{given_onto, trees_of, trees_onto}
use Rattle.message_parts.specs.Writing.{Writes, put_of}
use Rattle.message_parts.proofs.Putting.{given_onto_is, parts_onto_is}
use Rattle.message_parts.proofs.writer.put_record_parts.Goals as goal

pub returns-clause-write : goal.returns-clause-write
returns-clause-write g c = λ F rest h.
    let given = g.T.PutRecord.given c.args.value.now in
    let parts = g.T.PutRecord.parts c.args.value.now in
    let one = c.put_start.ensures.write F _ h in
    let same = given_onto_is given (trees_onto (trees_of parts) (EndElement ∷ rest)) ∙ ap (λ (es : List Event). given_onto given es) (parts_onto_is parts (EndElement ∷ rest)) in
    let two = c.write.ensures.write F (EndElement ∷ rest) (subst (λ (es : List Event). Writes F es (put_of c.put_start.new.writer)) same one) in
    c.put_end.ensures.write F _ two
