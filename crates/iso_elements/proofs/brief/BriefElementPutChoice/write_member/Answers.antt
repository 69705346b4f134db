use Rattle.std.proofs.Common.{subst}
use Rattle.message_parts.specs.Contents.{one_onto}
use Rattle.message_parts.specs.Writing.{Writes, put_of}
use Rattle.iso_elements.specs.Brief.{brief_element_name, brief_element_inside}
use Rattle.iso_elements.proofs.brief.BriefElementPutChoice.write_member.Goals as goal

pub returns-in-AuthorizationReq-clause-write : goal.returns-in-AuthorizationReq-clause-write
returns-in-AuthorizationReq-clause-write g c = λ F rest h.
    c.put_record.ensures.write F rest (subst (λ o. Writes F (one_onto (brief_element_name o) (brief_element_inside o) rest) (put_of c.args.writer.now)) c.in-AuthorizationReq.is h)

pub returns-in-AuthorizationRes-clause-write : goal.returns-in-AuthorizationRes-clause-write
returns-in-AuthorizationRes-clause-write g c = λ F rest h.
    c.put_record-in-AuthorizationRes.ensures.write F rest (subst (λ o. Writes F (one_onto (brief_element_name o) (brief_element_inside o) rest) (put_of c.args.writer.now)) c.in-AuthorizationRes.is h)

pub returns-in-CableCheckReq-clause-write : goal.returns-in-CableCheckReq-clause-write
returns-in-CableCheckReq-clause-write g c = λ F rest h.
    c.put_record-in-CableCheckReq.ensures.write F rest (subst (λ o. Writes F (one_onto (brief_element_name o) (brief_element_inside o) rest) (put_of c.args.writer.now)) c.in-CableCheckReq.is h)

pub returns-in-CableCheckRes-clause-write : goal.returns-in-CableCheckRes-clause-write
returns-in-CableCheckRes-clause-write g c = λ F rest h.
    c.put_record-in-CableCheckRes.ensures.write F rest (subst (λ o. Writes F (one_onto (brief_element_name o) (brief_element_inside o) rest) (put_of c.args.writer.now)) c.in-CableCheckRes.is h)

pub returns-in-ChargeParameterDiscoveryReq-clause-write : goal.returns-in-ChargeParameterDiscoveryReq-clause-write
returns-in-ChargeParameterDiscoveryReq-clause-write g c = λ F rest h.
    c.put_record-in-ChargeParameterDiscoveryReq.ensures.write F rest (subst (λ o. Writes F (one_onto (brief_element_name o) (brief_element_inside o) rest) (put_of c.args.writer.now)) c.in-ChargeParameterDiscoveryReq.is h)

pub returns-in-ChargingStatusReq-clause-write : goal.returns-in-ChargingStatusReq-clause-write
returns-in-ChargingStatusReq-clause-write g c = λ F rest h.
    c.put_record-in-ChargingStatusReq.ensures.write F rest (subst (λ o. Writes F (one_onto (brief_element_name o) (brief_element_inside o) rest) (put_of c.args.writer.now)) c.in-ChargingStatusReq.is h)

pub returns-in-ChargingStatusRes-clause-write : goal.returns-in-ChargingStatusRes-clause-write
returns-in-ChargingStatusRes-clause-write g c = λ F rest h.
    c.put_record-in-ChargingStatusRes.ensures.write F rest (subst (λ o. Writes F (one_onto (brief_element_name o) (brief_element_inside o) rest) (put_of c.args.writer.now)) c.in-ChargingStatusRes.is h)

pub returns-in-CurrentDemandReq-clause-write : goal.returns-in-CurrentDemandReq-clause-write
returns-in-CurrentDemandReq-clause-write g c = λ F rest h.
    c.put_record-in-CurrentDemandReq.ensures.write F rest (subst (λ o. Writes F (one_onto (brief_element_name o) (brief_element_inside o) rest) (put_of c.args.writer.now)) c.in-CurrentDemandReq.is h)

pub returns-in-CurrentDemandRes-clause-write : goal.returns-in-CurrentDemandRes-clause-write
returns-in-CurrentDemandRes-clause-write g c = λ F rest h.
    c.put_record-in-CurrentDemandRes.ensures.write F rest (subst (λ o. Writes F (one_onto (brief_element_name o) (brief_element_inside o) rest) (put_of c.args.writer.now)) c.in-CurrentDemandRes.is h)

pub returns-in-PaymentServiceSelectionReq-clause-write : goal.returns-in-PaymentServiceSelectionReq-clause-write
returns-in-PaymentServiceSelectionReq-clause-write g c = λ F rest h.
    c.put_record-in-PaymentServiceSelectionReq.ensures.write F rest (subst (λ o. Writes F (one_onto (brief_element_name o) (brief_element_inside o) rest) (put_of c.args.writer.now)) c.in-PaymentServiceSelectionReq.is h)

pub returns-in-PaymentServiceSelectionRes-clause-write : goal.returns-in-PaymentServiceSelectionRes-clause-write
returns-in-PaymentServiceSelectionRes-clause-write g c = λ F rest h.
    c.put_record-in-PaymentServiceSelectionRes.ensures.write F rest (subst (λ o. Writes F (one_onto (brief_element_name o) (brief_element_inside o) rest) (put_of c.args.writer.now)) c.in-PaymentServiceSelectionRes.is h)

pub returns-in-PowerDeliveryReq-clause-write : goal.returns-in-PowerDeliveryReq-clause-write
returns-in-PowerDeliveryReq-clause-write g c = λ F rest h.
    c.put_record-in-PowerDeliveryReq.ensures.write F rest (subst (λ o. Writes F (one_onto (brief_element_name o) (brief_element_inside o) rest) (put_of c.args.writer.now)) c.in-PowerDeliveryReq.is h)

pub returns-in-PowerDeliveryRes-clause-write : goal.returns-in-PowerDeliveryRes-clause-write
returns-in-PowerDeliveryRes-clause-write g c = λ F rest h.
    c.put_record-in-PowerDeliveryRes.ensures.write F rest (subst (λ o. Writes F (one_onto (brief_element_name o) (brief_element_inside o) rest) (put_of c.args.writer.now)) c.in-PowerDeliveryRes.is h)

pub returns-in-PreChargeReq-clause-write : goal.returns-in-PreChargeReq-clause-write
returns-in-PreChargeReq-clause-write g c = λ F rest h.
    c.put_record-in-PreChargeReq.ensures.write F rest (subst (λ o. Writes F (one_onto (brief_element_name o) (brief_element_inside o) rest) (put_of c.args.writer.now)) c.in-PreChargeReq.is h)

pub returns-in-PreChargeRes-clause-write : goal.returns-in-PreChargeRes-clause-write
returns-in-PreChargeRes-clause-write g c = λ F rest h.
    c.put_record-in-PreChargeRes.ensures.write F rest (subst (λ o. Writes F (one_onto (brief_element_name o) (brief_element_inside o) rest) (put_of c.args.writer.now)) c.in-PreChargeRes.is h)

pub returns-in-ServiceDetailReq-clause-write : goal.returns-in-ServiceDetailReq-clause-write
returns-in-ServiceDetailReq-clause-write g c = λ F rest h.
    c.put_record-in-ServiceDetailReq.ensures.write F rest (subst (λ o. Writes F (one_onto (brief_element_name o) (brief_element_inside o) rest) (put_of c.args.writer.now)) c.in-ServiceDetailReq.is h)

pub returns-in-ServiceDiscoveryReq-clause-write : goal.returns-in-ServiceDiscoveryReq-clause-write
returns-in-ServiceDiscoveryReq-clause-write g c = λ F rest h.
    c.put_record-in-ServiceDiscoveryReq.ensures.write F rest (subst (λ o. Writes F (one_onto (brief_element_name o) (brief_element_inside o) rest) (put_of c.args.writer.now)) c.in-ServiceDiscoveryReq.is h)

pub returns-in-SessionSetupReq-clause-write : goal.returns-in-SessionSetupReq-clause-write
returns-in-SessionSetupReq-clause-write g c = λ F rest h.
    c.put_record-in-SessionSetupReq.ensures.write F rest (subst (λ o. Writes F (one_onto (brief_element_name o) (brief_element_inside o) rest) (put_of c.args.writer.now)) c.in-SessionSetupReq.is h)

pub returns-in-SessionSetupRes-clause-write : goal.returns-in-SessionSetupRes-clause-write
returns-in-SessionSetupRes-clause-write g c = λ F rest h.
    c.put_record-in-SessionSetupRes.ensures.write F rest (subst (λ o. Writes F (one_onto (brief_element_name o) (brief_element_inside o) rest) (put_of c.args.writer.now)) c.in-SessionSetupRes.is h)

pub returns-in-SessionStopReq-clause-write : goal.returns-in-SessionStopReq-clause-write
returns-in-SessionStopReq-clause-write g c = λ F rest h.
    c.put_record-in-SessionStopReq.ensures.write F rest (subst (λ o. Writes F (one_onto (brief_element_name o) (brief_element_inside o) rest) (put_of c.args.writer.now)) c.in-SessionStopReq.is h)

pub returns-in-SessionStopRes-clause-write : goal.returns-in-SessionStopRes-clause-write
returns-in-SessionStopRes-clause-write g c = λ F rest h.
    c.put_record-in-SessionStopRes.ensures.write F rest (subst (λ o. Writes F (one_onto (brief_element_name o) (brief_element_inside o) rest) (put_of c.args.writer.now)) c.in-SessionStopRes.is h)

pub returns-in-WeldingDetectionReq-clause-write : goal.returns-in-WeldingDetectionReq-clause-write
returns-in-WeldingDetectionReq-clause-write g c = λ F rest h.
    c.put_record-in-WeldingDetectionReq.ensures.write F rest (subst (λ o. Writes F (one_onto (brief_element_name o) (brief_element_inside o) rest) (put_of c.args.writer.now)) c.in-WeldingDetectionReq.is h)

pub returns-in-WeldingDetectionRes-clause-write : goal.returns-in-WeldingDetectionRes-clause-write
returns-in-WeldingDetectionRes-clause-write g c = λ F rest h.
    c.put_record-in-WeldingDetectionRes.ensures.write F rest (subst (λ o. Writes F (one_onto (brief_element_name o) (brief_element_inside o) rest) (put_of c.args.writer.now)) c.in-WeldingDetectionRes.is h)
