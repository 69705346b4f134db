use Rattle.std.proofs.Common.{sym, ◌∙◌}
use Rattle.audit_causes.proofs.Passing.{passes_told}
use Rattle.audit_causes.proofs.values.CauseValues.passes_cause.Goals as goal

pub returns : goal.returns
returns g c site plan earlier behind steps steps_later only only_later h h_later ends alone_is =
    let both = passes_told _ site plan earlier behind c.args.entry.now c.args.post steps steps_later c.args.self.now c.args.later.now c.args.last c.args.alone
    only only_later h h_later ends alone_is in
    let same = c.passes.ensures in
    (λ is. both.0 (sym same ∙ is), λ p. same ∙ both.1 p)
