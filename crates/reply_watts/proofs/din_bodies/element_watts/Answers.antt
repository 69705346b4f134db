use Rattle.std.proofs.Common.{Some, sym, subst, refl}
use Rattle.din_message.specs.declared.message.BodyElement.{BodyElement}
use Rattle.din_message.specs.declared.message.BodyElement.TheVariants as e
use Rattle.audit_watts.specs.Values.{no_watts}
use Rattle.reply_watts.proofs.Elements.{◌or◌}
use Rattle.reply_watts.proofs.DinBodies.{BodySpells, quiet_body}
use Rattle.reply_watts.proofs.din_bodies.element_watts.Goals as goal

pub returns-in-ChargeParameterDiscoveryRes : goal.returns-in-ChargeParameterDiscoveryRes
returns-in-ChargeParameterDiscoveryRes c plan own =
    subst (λ (e : BodyElement). BodySpells own plan c.args.spoken c.args.told e (Some c.parameters.result)) (sym c.in-ChargeParameterDiscoveryRes.is)
    (_, (tt, refl), c.parameters.ensures plan)

pub returns-in-CurrentDemandRes : goal.returns-in-CurrentDemandRes
returns-in-CurrentDemandRes c plan own =
    subst (λ (e : BodyElement). BodySpells own plan c.args.spoken c.args.told e (Some c.demand.result)) (sym c.in-CurrentDemandRes.is)
    (_, (tt, refl), c.demand.ensures plan)

pub returns-in-SessionSetupRes : goal.returns-in-SessionSetupRes
returns-in-SessionSetupRes c plan own = (
  no_watts,
  (quiet_body own c.args.element.now (λ x. e.SessionSetupRes x) (λ x. (tt, refl))
      or quiet_body own c.args.element.now (λ x. e.ServiceDiscoveryRes x) (λ x. (tt, refl))
      or quiet_body own c.args.element.now (λ x. e.ServicePaymentSelectionRes x) (λ x. (tt, refl))
      or quiet_body own c.args.element.now (λ x. e.ContractAuthenticationRes x) (λ x. (tt, refl))
      or quiet_body own c.args.element.now (λ x. e.CableCheckRes x) (λ x. (tt, refl))
      or quiet_body own c.args.element.now (λ x. e.PreChargeRes x) (λ x. (tt, refl))
      or quiet_body own c.args.element.now (λ x. e.PowerDeliveryRes x) (λ x. (tt, refl))
      or quiet_body own c.args.element.now (λ x. e.WeldingDetectionRes x) (λ x. (tt, refl))
      or quiet_body own c.args.element.now (λ x. e.SessionStopRes x) (λ x. (tt, refl))) c.in-SessionSetupRes.is,
  c.new.ensures plan c.args.spoken c.args.told,
)
