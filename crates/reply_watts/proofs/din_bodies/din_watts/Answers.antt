use Rattle.reply_watts.proofs.DinBodies.{message_spells, no_element}
use Rattle.reply_watts.proofs.din_bodies.din_watts.Goals as goal

pub returns-in-Some : goal.returns-in-Some
returns-in-Some c plan =
    message_spells plan c.args.spoken c.args.told c.args.message.now c.in-Some.element c.element_watts.result c.in-Some.is (c.element_watts.ensures plan)

pub returns-in-None : goal.returns-in-None
returns-in-None c plan = no_element plan c.args.spoken c.args.told c.args.message.now c.in-None.is
