use Rattle.std.proofs.Common.{sym, ◌∙◌}
use Rattle.audit_streams.specs.Streams.{kept_in}
use Rattle.audit_streams.proofs.Past.{none_of}
use Rattle.audit_streams.proofs.Told.{none_next}
use Rattle.audit_streams.proofs.streams.ToldStream.next.Goals as goal

pub returns-then-has_kept : goal.returns-then-has_kept
returns-then-has_kept g c = c.next_kept.ensures

pub returns-else-has_kept : goal.returns-else-has_kept
returns-else-has_kept g c offers past h =
    none_next _ offers past c.args.self.now g.met.R.ToldReader.judges_first g.met.R.ToldReader.judges_later h (none_of (kept_in c.args.self.now) (sym c.has_kept.ensures ∙ c.if-has_kept.false))
