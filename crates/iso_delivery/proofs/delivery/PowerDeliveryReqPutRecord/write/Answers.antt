use Rattle.iso_delivery.proofs.delivery.PowerDeliveryReqPutRecord.write.Goals as goal

pub returns-clause-write : goal.returns-clause-write
returns-clause-write g c = λ F rest h.
    c.put_optional_choice.ensures.write F _ (c.put_optional.ensures.write F _ (c.put_value-2.ensures.write F _ (
    c.put_value.ensures.write F _ h)))
