use Rattle.std.proofs.Common.{◌≡◌, refl}
use Rattle.iso_delivery.specs.declared.delivery.DcEvPowerDeliveryParameter.{DcEvPowerDeliveryParameter}
use Rattle.iso_delivery.specs.declared.delivery.EvPowerDeliveryParameter.{EvPowerDeliveryParameter}
use Rattle.iso_delivery.specs.declared.delivery.EvPowerDeliveryParameter.TheVariants as ev_power_delivery_parameter
use Rattle.iso_delivery.proofs.delivery.EvPowerDeliveryParameterPutChoice.write_member.Goals as goal

only : (o : EvPowerDeliveryParameter) → (x : DcEvPowerDeliveryParameter) × (o ≡ ev_power_delivery_parameter.Dc x)
only (ev_power_delivery_parameter.Dc x) = (x, refl)

pub returns-clause-write : goal.returns-clause-write
returns-clause-write g c = λ F rest h.
    let e = (only c.args.self.now).1 in
    c.put_record.ensures.write F rest (rw e (rw e at h))
