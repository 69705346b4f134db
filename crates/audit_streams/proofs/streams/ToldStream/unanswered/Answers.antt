use Rattle.audit_streams.proofs.Told.{first_of}
use Rattle.audit_streams.proofs.streams.ToldStream.unanswered.Goals as goal

pub returns-then-not-self-clause-told : goal.returns-then-not-self-clause-told
returns-then-not-self-clause-told g c offers past h = first_of _ offers past c.args.self.now g.met.R.ToldReader.judges_first g.met.R.ToldReader.judges_later h
