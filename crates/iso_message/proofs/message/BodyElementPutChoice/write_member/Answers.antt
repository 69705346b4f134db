use Rattle.std.proofs.Common.{subst}
use Rattle.message_parts.specs.Contents.{one_onto}
use Rattle.message_parts.specs.Writing.{Writes, put_of}
use Rattle.iso_message.specs.Message.{body_element_name, body_element_inside}
use Rattle.iso_message.proofs.message.BodyElementPutChoice.write_member.Goals as goal

pub returns-in-Brief-clause-write : goal.returns-in-Brief-clause-write
returns-in-Brief-clause-write g c = λ F rest h.
    c.write_member.ensures.write F rest (subst (λ o. Writes F (one_onto (body_element_name o) (body_element_inside o) rest) (put_of c.args.writer.now)) c.in-Brief.is h)

pub returns-in-ChargeParameterDiscoveryRes-clause-write : goal.returns-in-ChargeParameterDiscoveryRes-clause-write
returns-in-ChargeParameterDiscoveryRes-clause-write g c = λ F rest h.
    c.put_record.ensures.write F rest (subst (λ o. Writes F (one_onto (body_element_name o) (body_element_inside o) rest) (put_of c.args.writer.now)) c.in-ChargeParameterDiscoveryRes.is h)

pub returns-in-ServiceDetailRes-clause-write : goal.returns-in-ServiceDetailRes-clause-write
returns-in-ServiceDetailRes-clause-write g c = λ F rest h.
    c.put_record-in-ServiceDetailRes.ensures.write F rest (subst (λ o. Writes F (one_onto (body_element_name o) (body_element_inside o) rest) (put_of c.args.writer.now)) c.in-ServiceDetailRes.is h)

pub returns-in-ServiceDiscoveryRes-clause-write : goal.returns-in-ServiceDiscoveryRes-clause-write
returns-in-ServiceDiscoveryRes-clause-write g c = λ F rest h.
    c.put_record-in-ServiceDiscoveryRes.ensures.write F rest (subst (λ o. Writes F (one_onto (body_element_name o) (body_element_inside o) rest) (put_of c.args.writer.now)) c.in-ServiceDiscoveryRes.is h)
