use Rattle.std.proofs.Common.{Some, sym, subst, refl}
use Rattle.iso_elements.specs.declared.brief.BriefElement.{BriefElement}
use Rattle.iso_elements.specs.declared.brief.BriefElement.TheVariants as e
use Rattle.audit_watts.specs.Values.{no_watts}
use Rattle.reply_watts.proofs.Elements.{◌or◌}
use Rattle.reply_watts.proofs.IsoBodies.{BriefSpells, quiet_brief}
use Rattle.reply_watts.proofs.iso_bodies.brief_watts.Goals as goal

pub returns-in-CurrentDemandRes : goal.returns-in-CurrentDemandRes
returns-in-CurrentDemandRes c own =
    subst (λ (e : BriefElement). BriefSpells own c.args.plan.now c.args.spoken c.args.told e (Some c.demand.result)) (sym c.in-CurrentDemandRes.is)
    (_, (tt, refl), c.demand.ensures c.args.plan.now)

pub returns-in-ChargingStatusRes : goal.returns-in-ChargingStatusRes
returns-in-ChargingStatusRes c own =
    subst (λ (e : BriefElement). BriefSpells own c.args.plan.now c.args.spoken c.args.told e (Some c.status.result)) (sym c.in-ChargingStatusRes.is)
    (_, (tt, refl), c.status.ensures)

pub returns-in-SessionSetupRes : goal.returns-in-SessionSetupRes
returns-in-SessionSetupRes c own = (
  no_watts,
  (quiet_brief own c.args.element.now (λ x. e.SessionSetupRes x) (λ x. (tt, refl))
      or quiet_brief own c.args.element.now (λ x. e.PaymentServiceSelectionRes x) (λ x. (tt, refl))
      or quiet_brief own c.args.element.now (λ x. e.AuthorizationRes x) (λ x. (tt, refl))
      or quiet_brief own c.args.element.now (λ x. e.CableCheckRes x) (λ x. (tt, refl))
      or quiet_brief own c.args.element.now (λ x. e.PreChargeRes x) (λ x. (tt, refl))
      or quiet_brief own c.args.element.now (λ x. e.PowerDeliveryRes x) (λ x. (tt, refl))
      or quiet_brief own c.args.element.now (λ x. e.WeldingDetectionRes x) (λ x. (tt, refl))
      or quiet_brief own c.args.element.now (λ x. e.SessionStopRes x) (λ x. (tt, refl))) c.in-SessionSetupRes.is,
  c.new.ensures c.args.plan.now c.args.spoken c.args.told,
)
