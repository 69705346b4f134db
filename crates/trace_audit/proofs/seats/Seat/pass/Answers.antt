use Rattle.std.proofs.Common.{Bool, ap, ◌∙◌}
use Rattle.audit_causes.specs.Values.{fails_or}
use Rattle.trace_audit.proofs.seats.Seat.pass.Goals as goal

pub returns : goal.returns
returns g c limit before behind past steps h even free shown = record {
  passes = c.behind-self.ensures.passes limit before behind past steps h.are even free shown;
  before_is = c.behind-self.ensures.before;
  starting_is = c.behind-self.ensures.starting past steps h.are;
  alone_is = c.alone_behind-self.ensures ∙ ap (λ (b : Bool). fails_or c.args.post c.args.entry.now b) h.alone_is;
}
