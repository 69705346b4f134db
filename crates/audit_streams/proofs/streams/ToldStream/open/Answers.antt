use Rattle.std.proofs.Common.{refl, subst, ◌<◌, ℕ, List}
use Rattle.std.specs.Prelude.{All}
use Rattle.audit_streams.proofs.Past.{opened_ready, still_ready}
use Rattle.audit_streams.proofs.streams.ToldStream.open.Goals as goal

pub returns-then-self : goal.returns-then-self
returns-then-self g c offers past h even none =
    opened_ready _ offers past c.args.self.now _ h c.if-self.true refl refl refl (c.clear.ensures.kept offers) c.clear.ensures.none c.clear.ensures.bare

pub returns-else-self : goal.returns-else-self
returns-else-self g c offers past h even none =
    still_ready _ offers past c.args.self.now g.met.R.ToldReader.determined g.met.R.ToldReader.judges_first g.met.R.ToldReader.judges_later
    (subst (λ (bytes : List ℕ). All (λ byte. byte < 256) bytes) c.bytes.ensures c.are_bytes.ensures) c.if-self.false h even none
