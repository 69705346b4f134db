use Rattle.parts_examples.proofs.meter.MeterPutRecord.write.Goals as goal

pub returns-clause-write : goal.returns-clause-write
returns-clause-write g c = λ F rest h.
    c.put_optional_value.ensures.write F _ (c.put_value-9.ensures.write F _ (c.put_value-8.ensures.write F _ (
    c.put_value-7.ensures.write F _ (c.put_value-6.ensures.write F _ (c.put_value-5.ensures.write F _ (
    c.put_value-4.ensures.write F _ (c.put_value-3.ensures.write F _ (c.put_value-2.ensures.write F _ (
    c.put_value.ensures.write F _ h)))))))))
