use Rattle.std.proofs.Common.{◌≡◌, refl}
use Rattle.din_power.specs.declared.limits.DcEvseChargeParameter.{DcEvseChargeParameter}
use Rattle.din_power.specs.declared.limits.EvseChargeParameter.{EvseChargeParameter}
use Rattle.din_power.specs.declared.limits.EvseChargeParameter.TheVariants as evse_charge_parameter
use Rattle.din_power.proofs.limits.EvseChargeParameterPutChoice.write_member.Goals as goal

only : (o : EvseChargeParameter) → (x : DcEvseChargeParameter) × (o ≡ evse_charge_parameter.Dc x)
only (evse_charge_parameter.Dc x) = (x, refl)

pub returns-clause-write : goal.returns-clause-write
returns-clause-write g c = λ F rest h.
    let e = (only c.args.self.now).1 in
    c.put_record.ensures.write F rest (rw e (rw e at h))
