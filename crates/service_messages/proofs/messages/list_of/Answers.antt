use Rattle.std.proofs.Common.{◌≡◌, ◌<◌, ◌∙◌, length, ap, arith, rules}
use Rattle.std.proofs.lemmas.List.{length-map}
use Rattle.service_messages.specs.Messages.{set_of}
use Rattle.service_messages.proofs.Holding.{list_held, list_is}
use Rattle.service_messages.proofs.messages.list_of.Goals as goal

pub returns-clause-list : goal.returns-clause-list
returns-clause-list c =
    let some : 0 < length c.args.sets.now = search rules in
    list_is c.args.sets.now _ some c.sets_of.ensures.sets

pub returns-clause-held : goal.returns-clause-held
returns-clause-held c =
    let some : 0 < length c.args.sets.now = search rules in
    let count : length c.sets_of.result.items ≡ length c.args.sets.now = ap length c.sets_of.ensures.sets ∙ length-map c.args.sets.now set_of in
    list_held _ (omega (arith, count, some)) (omega (arith, count, c.requires.few)) c.sets_of.ensures.held
