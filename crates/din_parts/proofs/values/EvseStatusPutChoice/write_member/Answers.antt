use Rattle.std.proofs.Common.{◌≡◌, refl}
use Rattle.din_parts.specs.declared.values.DcEvseStatus.{DcEvseStatus}
use Rattle.din_parts.specs.declared.values.EvseStatus.{EvseStatus}
use Rattle.din_parts.specs.declared.values.EvseStatus.TheVariants as evse_status
use Rattle.din_parts.proofs.values.EvseStatusPutChoice.write_member.Goals as goal

only : (o : EvseStatus) → (x : DcEvseStatus) × (o ≡ evse_status.Dc x)
only (evse_status.Dc x) = (x, refl)

pub returns-clause-write : goal.returns-clause-write
returns-clause-write g c = λ F rest h.
    let e = (only c.args.self.now).1 in
    c.put_record.ensures.write F rest (rw e (rw e at h))
