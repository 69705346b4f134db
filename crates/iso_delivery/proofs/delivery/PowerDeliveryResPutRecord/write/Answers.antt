use Rattle.iso_delivery.proofs.delivery.PowerDeliveryResPutRecord.write.Goals as goal

pub returns-clause-write : goal.returns-clause-write
returns-clause-write g c = λ F rest h.
    c.put_choice.ensures.write F _ (c.put_value.ensures.write F _ h)
