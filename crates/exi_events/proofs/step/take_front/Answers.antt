use Rattle.exi_events.proofs.Front.{roots_took, roots_refused}
use Rattle.exi_events.proofs.step.take_front.Goals as goal

pub returns-clause-ok : goal.returns-clause-ok
returns-clause-ok g c = roots_took (g.P.Places.schema c.args.places.now) _ _ _ _ c.in_ok-take_header.ensures.ok c.take_root.ensures.ok

pub returns-clause-refused : goal.returns-clause-refused
returns-clause-refused g c = roots_refused (g.P.Places.schema c.args.places.now) _ _ _ c.in_ok-take_header.ensures.ok c.take_root.ensures.refused c.take_root.ensures.at
