use Rattle.exi_events.proofs.Rooted.{names_none}
use Rattle.exi_events.proofs.offer.names_root.Goals as goal

pub returns-in-Unknown : goal.returns-in-Unknown
returns-in-Unknown g c = names_none (g.P.Places.schema c.args.places.now) c.args.number c.root.result c.root.ensures.named c.in-Unknown.is
