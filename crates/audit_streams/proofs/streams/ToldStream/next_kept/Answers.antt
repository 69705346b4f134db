use Rattle.audit_streams.specs.Streams.{kept_in}
use Rattle.audit_streams.proofs.Past.{some_of}
use Rattle.audit_streams.proofs.Told.{kept_next, next_of}
use Rattle.audit_streams.proofs.streams.ToldStream.next_kept.Goals as goal

pub returns-then-self : goal.returns-then-self
returns-then-self g c offers past h =
    let own = some_of (kept_in c.args.self.now) c.requires in
    next_of _ offers past c.args.self.now own.0 c.behind.result g.met.R.ToldReader.determined g.met.R.ToldReader.judges_first g.met.R.ToldReader.judges_later c.behind.ensures.bytes h own.1 c.if-self.true c.behind.ensures.value

pub returns-else-self : goal.returns-else-self
returns-else-self g c offers past h =
    let own = some_of (kept_in c.args.self.now) c.requires in
    kept_next _ offers past c.args.self.now own.0 g.met.R.ToldReader.judges_first g.met.R.ToldReader.judges_later h own.1 c.if-self.false
