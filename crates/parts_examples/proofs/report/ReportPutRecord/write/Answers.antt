use Rattle.parts_examples.proofs.report.ReportPutRecord.write.Goals as goal

pub returns-clause-write : goal.returns-clause-write
returns-clause-write g c = λ F rest h.
    c.put_record-2.ensures.write F _ (c.put_records.ensures.write F _ (c.put_optional_choice.ensures.write F _ (
    c.put_choice-2.ensures.write F _ (c.put_choice.ensures.write F _ (c.put_optional_value.ensures.write F _ (
    c.put_record.ensures.write F _ (c.put_value-3.ensures.write F _ (c.put_value-2.ensures.write F _ (
    c.put_value.ensures.write F _ (c.put_optional_attribute.ensures.write F _ (
    c.put_attribute.ensures.write F _ h)))))))))))
