use Rattle.std.proofs.Common.{ap}
use Rattle.exi_events.proofs.Told.{told_more, told_all}
use Rattle.exi_events.proofs.reader.EventReader.next.Goals as goal

pub returns-in-Ok-clause-told : goal.returns-in-Ok-clause-told
returns-in-Ok-clause-told g c events has told is = told_more (g.P.Places.schema c.args.self.now.places.now) (g.P.Places.schema c.step.new.self.places.now) _ _ _ _ _ (ap g.P.Places.schema c.step.ensures.places) c.in-Ok.ensures.next events has told is

pub returns-in-Ok-clause-document : goal.returns-in-Ok-clause-document
returns-in-Ok-clause-document g c payload events bits has is = told_all (g.P.Places.schema c.args.self.now.places.now) _ _ _ _ _ c.in-Ok.ensures.next payload events bits has is
