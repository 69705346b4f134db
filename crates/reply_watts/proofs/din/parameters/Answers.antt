use Rattle.std.proofs.Common.{Option, subst}
use Rattle.std.specs.Option.{option_map}
use Rattle.din_parts.specs.declared.values.PhysicalValue.{PhysicalValue}
use Rattle.audit_watts.specs.Values.{AreOf}
use Rattle.reply_watts.specs.Values.{power_alone}
use Rattle.reply_watts.proofs.DinTrees.{value_written, with_schedules, without_schedules}
use Rattle.reply_watts.proofs.din.parameters.Goals as goal

pub returns-in-Some : goal.returns-in-Some
returns-in-Some c plan =
    with_schedules plan c.args.spoken c.args.told c.args.reply.now c.in-Some.schedules c.limit-values.result c.with_schedules.result c.in-Some.is
    (subst (λ (o : Option PhysicalValue). AreOf plan c.args.spoken c.args.told (power_alone (option_map value_written o)) c.limit-values.result) c.power_of.ensures
    (c.limit-values.ensures plan))
    c.with_schedules.ensures

pub returns-in-None : goal.returns-in-None
returns-in-None c plan =
    without_schedules plan c.args.spoken c.args.told c.args.reply.now c.limit-values.result c.in-None.is
    (subst (λ (o : Option PhysicalValue). AreOf plan c.args.spoken c.args.told (power_alone (option_map value_written o)) c.limit-values.result) c.power_of.ensures
    (c.limit-values.ensures plan))
