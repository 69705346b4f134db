use Rattle.std.proofs.Common.{subst}
use Rattle.message_parts.specs.Contents.{one_onto}
use Rattle.message_parts.specs.Writing.{Writes, put_of}
use Rattle.din_message.specs.Message.{body_element_name, body_element_inside}
use Rattle.din_message.proofs.message.BodyElementPutChoice.write_member.Goals as goal

pub returns-in-CableCheckReq-clause-write : goal.returns-in-CableCheckReq-clause-write
returns-in-CableCheckReq-clause-write g c = λ F rest h.
    c.put_record.ensures.write F rest (subst (λ o. Writes F (one_onto (body_element_name o) (body_element_inside o) rest) (put_of c.args.writer.now)) c.in-CableCheckReq.is h)

pub returns-in-CableCheckRes-clause-write : goal.returns-in-CableCheckRes-clause-write
returns-in-CableCheckRes-clause-write g c = λ F rest h.
    c.put_record-in-CableCheckRes.ensures.write F rest (subst (λ o. Writes F (one_onto (body_element_name o) (body_element_inside o) rest) (put_of c.args.writer.now)) c.in-CableCheckRes.is h)

pub returns-in-ChargeParameterDiscoveryReq-clause-write : goal.returns-in-ChargeParameterDiscoveryReq-clause-write
returns-in-ChargeParameterDiscoveryReq-clause-write g c = λ F rest h.
    c.put_record-in-ChargeParameterDiscoveryReq.ensures.write F rest (subst (λ o. Writes F (one_onto (body_element_name o) (body_element_inside o) rest) (put_of c.args.writer.now)) c.in-ChargeParameterDiscoveryReq.is h)

pub returns-in-ChargeParameterDiscoveryRes-clause-write : goal.returns-in-ChargeParameterDiscoveryRes-clause-write
returns-in-ChargeParameterDiscoveryRes-clause-write g c = λ F rest h.
    c.put_record-in-ChargeParameterDiscoveryRes.ensures.write F rest (subst (λ o. Writes F (one_onto (body_element_name o) (body_element_inside o) rest) (put_of c.args.writer.now)) c.in-ChargeParameterDiscoveryRes.is h)

pub returns-in-ContractAuthenticationReq-clause-write : goal.returns-in-ContractAuthenticationReq-clause-write
returns-in-ContractAuthenticationReq-clause-write g c = λ F rest h.
    c.put_record-in-ContractAuthenticationReq.ensures.write F rest (subst (λ o. Writes F (one_onto (body_element_name o) (body_element_inside o) rest) (put_of c.args.writer.now)) c.in-ContractAuthenticationReq.is h)

pub returns-in-ContractAuthenticationRes-clause-write : goal.returns-in-ContractAuthenticationRes-clause-write
returns-in-ContractAuthenticationRes-clause-write g c = λ F rest h.
    c.put_record-in-ContractAuthenticationRes.ensures.write F rest (subst (λ o. Writes F (one_onto (body_element_name o) (body_element_inside o) rest) (put_of c.args.writer.now)) c.in-ContractAuthenticationRes.is h)

pub returns-in-CurrentDemandReq-clause-write : goal.returns-in-CurrentDemandReq-clause-write
returns-in-CurrentDemandReq-clause-write g c = λ F rest h.
    c.put_record-in-CurrentDemandReq.ensures.write F rest (subst (λ o. Writes F (one_onto (body_element_name o) (body_element_inside o) rest) (put_of c.args.writer.now)) c.in-CurrentDemandReq.is h)

pub returns-in-CurrentDemandRes-clause-write : goal.returns-in-CurrentDemandRes-clause-write
returns-in-CurrentDemandRes-clause-write g c = λ F rest h.
    c.put_record-in-CurrentDemandRes.ensures.write F rest (subst (λ o. Writes F (one_onto (body_element_name o) (body_element_inside o) rest) (put_of c.args.writer.now)) c.in-CurrentDemandRes.is h)

pub returns-in-PowerDeliveryReq-clause-write : goal.returns-in-PowerDeliveryReq-clause-write
returns-in-PowerDeliveryReq-clause-write g c = λ F rest h.
    c.put_record-in-PowerDeliveryReq.ensures.write F rest (subst (λ o. Writes F (one_onto (body_element_name o) (body_element_inside o) rest) (put_of c.args.writer.now)) c.in-PowerDeliveryReq.is h)

pub returns-in-PowerDeliveryRes-clause-write : goal.returns-in-PowerDeliveryRes-clause-write
returns-in-PowerDeliveryRes-clause-write g c = λ F rest h.
    c.put_record-in-PowerDeliveryRes.ensures.write F rest (subst (λ o. Writes F (one_onto (body_element_name o) (body_element_inside o) rest) (put_of c.args.writer.now)) c.in-PowerDeliveryRes.is h)

pub returns-in-PreChargeReq-clause-write : goal.returns-in-PreChargeReq-clause-write
returns-in-PreChargeReq-clause-write g c = λ F rest h.
    c.put_record-in-PreChargeReq.ensures.write F rest (subst (λ o. Writes F (one_onto (body_element_name o) (body_element_inside o) rest) (put_of c.args.writer.now)) c.in-PreChargeReq.is h)

pub returns-in-PreChargeRes-clause-write : goal.returns-in-PreChargeRes-clause-write
returns-in-PreChargeRes-clause-write g c = λ F rest h.
    c.put_record-in-PreChargeRes.ensures.write F rest (subst (λ o. Writes F (one_onto (body_element_name o) (body_element_inside o) rest) (put_of c.args.writer.now)) c.in-PreChargeRes.is h)

pub returns-in-ServiceDiscoveryReq-clause-write : goal.returns-in-ServiceDiscoveryReq-clause-write
returns-in-ServiceDiscoveryReq-clause-write g c = λ F rest h.
    c.put_record-in-ServiceDiscoveryReq.ensures.write F rest (subst (λ o. Writes F (one_onto (body_element_name o) (body_element_inside o) rest) (put_of c.args.writer.now)) c.in-ServiceDiscoveryReq.is h)

pub returns-in-ServiceDiscoveryRes-clause-write : goal.returns-in-ServiceDiscoveryRes-clause-write
returns-in-ServiceDiscoveryRes-clause-write g c = λ F rest h.
    c.put_record-in-ServiceDiscoveryRes.ensures.write F rest (subst (λ o. Writes F (one_onto (body_element_name o) (body_element_inside o) rest) (put_of c.args.writer.now)) c.in-ServiceDiscoveryRes.is h)

pub returns-in-ServicePaymentSelectionReq-clause-write : goal.returns-in-ServicePaymentSelectionReq-clause-write
returns-in-ServicePaymentSelectionReq-clause-write g c = λ F rest h.
    c.put_record-in-ServicePaymentSelectionReq.ensures.write F rest (subst (λ o. Writes F (one_onto (body_element_name o) (body_element_inside o) rest) (put_of c.args.writer.now)) c.in-ServicePaymentSelectionReq.is h)

pub returns-in-ServicePaymentSelectionRes-clause-write : goal.returns-in-ServicePaymentSelectionRes-clause-write
returns-in-ServicePaymentSelectionRes-clause-write g c = λ F rest h.
    c.put_record-in-ServicePaymentSelectionRes.ensures.write F rest (subst (λ o. Writes F (one_onto (body_element_name o) (body_element_inside o) rest) (put_of c.args.writer.now)) c.in-ServicePaymentSelectionRes.is h)

pub returns-in-SessionSetupReq-clause-write : goal.returns-in-SessionSetupReq-clause-write
returns-in-SessionSetupReq-clause-write g c = λ F rest h.
    c.put_record-in-SessionSetupReq.ensures.write F rest (subst (λ o. Writes F (one_onto (body_element_name o) (body_element_inside o) rest) (put_of c.args.writer.now)) c.in-SessionSetupReq.is h)

pub returns-in-SessionSetupRes-clause-write : goal.returns-in-SessionSetupRes-clause-write
returns-in-SessionSetupRes-clause-write g c = λ F rest h.
    c.put_record-in-SessionSetupRes.ensures.write F rest (subst (λ o. Writes F (one_onto (body_element_name o) (body_element_inside o) rest) (put_of c.args.writer.now)) c.in-SessionSetupRes.is h)

pub returns-in-SessionStopReq-clause-write : goal.returns-in-SessionStopReq-clause-write
returns-in-SessionStopReq-clause-write g c = λ F rest h.
    c.put_record-in-SessionStopReq.ensures.write F rest (subst (λ o. Writes F (one_onto (body_element_name o) (body_element_inside o) rest) (put_of c.args.writer.now)) c.in-SessionStopReq.is h)

pub returns-in-SessionStopRes-clause-write : goal.returns-in-SessionStopRes-clause-write
returns-in-SessionStopRes-clause-write g c = λ F rest h.
    c.put_record-in-SessionStopRes.ensures.write F rest (subst (λ o. Writes F (one_onto (body_element_name o) (body_element_inside o) rest) (put_of c.args.writer.now)) c.in-SessionStopRes.is h)

pub returns-in-WeldingDetectionReq-clause-write : goal.returns-in-WeldingDetectionReq-clause-write
returns-in-WeldingDetectionReq-clause-write g c = λ F rest h.
    c.put_record-in-WeldingDetectionReq.ensures.write F rest (subst (λ o. Writes F (one_onto (body_element_name o) (body_element_inside o) rest) (put_of c.args.writer.now)) c.in-WeldingDetectionReq.is h)

pub returns-in-WeldingDetectionRes-clause-write : goal.returns-in-WeldingDetectionRes-clause-write
returns-in-WeldingDetectionRes-clause-write g c = λ F rest h.
    c.put_record-in-WeldingDetectionRes.ensures.write F rest (subst (λ o. Writes F (one_onto (body_element_name o) (body_element_inside o) rest) (put_of c.args.writer.now)) c.in-WeldingDetectionRes.is h)
