use Rattle.iso_delivery.proofs.delivery.ChargingStatusResPutRecord.write.Goals as goal

pub returns-clause-write : goal.returns-clause-write
returns-clause-write g c = λ F rest h.
    c.put_record.ensures.write F _ (c.put_optional_value.ensures.write F _ (c.put_optional-2.ensures.write F _ (
    c.put_optional.ensures.write F _ (c.put_value-3.ensures.write F _ (c.put_value-2.ensures.write F _ (
    c.put_value.ensures.write F _ h))))))
