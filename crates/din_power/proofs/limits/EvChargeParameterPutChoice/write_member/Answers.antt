use Rattle.std.proofs.Common.{◌≡◌, refl}
use Rattle.din_power.specs.declared.limits.DcEvChargeParameter.{DcEvChargeParameter}
use Rattle.din_power.specs.declared.limits.EvChargeParameter.{EvChargeParameter}
use Rattle.din_power.specs.declared.limits.EvChargeParameter.TheVariants as ev_charge_parameter
use Rattle.din_power.proofs.limits.EvChargeParameterPutChoice.write_member.Goals as goal

only : (o : EvChargeParameter) → (x : DcEvChargeParameter) × (o ≡ ev_charge_parameter.Dc x)
only (ev_charge_parameter.Dc x) = (x, refl)

pub returns-clause-write : goal.returns-clause-write
returns-clause-write g c = λ F rest h.
    let e = (only c.args.self.now).1 in
    c.put_record.ensures.write F rest (rw e (rw e at h))
