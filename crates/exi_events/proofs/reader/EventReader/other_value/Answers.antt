use Rattle.std.proofs.Common.{ap}
use Rattle.exi_events.proofs.Valued.{told_on}
use Rattle.exi_events.proofs.reader.EventReader.other_value.Goals as goal

pub returns-clause-lent : goal.returns-clause-lent
returns-clause-lent g c = c.value_in.ensures _ c.in_ok-event.ensures.lent

pub returns-clause-told : goal.returns-clause-told
returns-clause-told g c events has = told_on (g.P.Places.schema c.args.self.now.places.now) (g.P.Places.schema c.step.new.self.places.now) _ _ _ _ _ (ap g.P.Places.schema c.in_ok-event.ensures.places) c.in_ok-event.ensures.next events has
