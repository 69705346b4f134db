use Rattle.std.proofs.Common.{map}
use Rattle.service_spec.specs.Services.{said_of}
use Rattle.service_messages.specs.Offers.{sets_in}
use Rattle.service_messages.proofs.Choices.{chosen}
use Rattle.service_messages.proofs.picking.pick.Goals as goal

pub returns-in-Some : goal.returns-in-Some
returns-in-Some c =
    chosen c.args.message.now (map said_of c.args.want.now.pairs.items) (sets_in c.in-Some.reply.now.service_parameter_list) c.choice_of.result
    c.in-Some.ensures (rw c.as_slice.ensures.value at c.choice_of.ensures)

pub returns-in-None : goal.returns-in-None
returns-in-None c = λ sets offered. absurd (c.in-None.ensures sets offered)
