use Rattle.std.proofs.Common.{IsUtf8, rules}
use Rattle.service_messages.proofs.Holding.{parameter_held}
use Rattle.service_messages.proofs.values.parameter_of.Goals as goal

pub value_of-requires : goal.value_of-requires
value_of-requires c = c.requires.value

pub returns-clause-held : goal.returns-clause-held
returns-clause-held c =
    let utf8 : IsUtf8 c.args.pair.name.now = search rules in
    parameter_held c.args.pair.name c.value_of.result utf8 c.requires.name c.value_of.ensures.held
