use Rattle.reply_watts.proofs.IsoBodies.{message_spells, no_element}
use Rattle.reply_watts.proofs.iso_bodies.iso_watts.Goals as goal

pub returns-in-Some : goal.returns-in-Some
returns-in-Some c =
    message_spells c.args.plan.now c.args.spoken c.args.told c.args.message.now c.in-Some.element c.element_watts.result c.in-Some.is c.element_watts.ensures

pub returns-in-None : goal.returns-in-None
returns-in-None c = no_element c.args.plan.now c.args.spoken c.args.told c.args.message.now c.in-None.is
