use Rattle.exi_events.proofs.Sequences.{begun, not_begun}
use Rattle.exi_events.proofs.reader.EventReader.begun_kind.Goals as goal

pub returns-clause-begun : goal.returns-clause-begun
returns-clause-begun g c = begun c.args.self.now.elements c.in_ok-top.top c.first.result c.ne.result c.in_ok-top.ensures c.first.ensures.first c.ne.ensures c.if-ne.false

pub returns-then-ne-clause-none : goal.returns-then-ne-clause-none
returns-then-ne-clause-none g c none name kind above at =
    not_begun c.args.self.now.elements c.in_ok-top.top c.first.result c.ne.result c.in_ok-top.ensures c.first.ensures.first c.ne.ensures c.args.self.now.phase name kind above c.if-ne.true c.in-Inside.is at
