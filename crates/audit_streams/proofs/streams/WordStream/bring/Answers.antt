use Rattle.std.proofs.Common.{◌∙◌, ◌++◌, sym}
use Rattle.audit_streams.proofs.Past.{none_of, looked_some}
use Rattle.audit_streams.proofs.Taken.{kept_fed}
use Rattle.audit_streams.proofs.streams.WordStream.bring.Goals as goal

pub returns-then-is_some : goal.returns-then-is_some
returns-then-is_some g c before count k bare = (
  kept_fed _ c.args.offers.now before c.args.bytes.now count c.args.self.now c.feed.new.self c.skip.new.self k bare c.feed.ensures c.skip.ensures,
  looked_some c.skip.new.self.kept c.skip.new.self (sym c.is_some.ensures ∙ c.if-is_some.true),
)

pub returns : goal.returns
returns g c before count k bare =
    c.look.ensures (before ++ c.args.bytes.now) count
    (kept_fed _ c.args.offers.now before c.args.bytes.now count c.args.self.now c.feed.new.self c.skip.new.self k bare c.feed.ensures c.skip.ensures)
    (none_of c.skip.new.self.kept (sym c.is_some.ensures ∙ c.if-is_some.false))
