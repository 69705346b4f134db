use Rattle.std.proofs.Common.{ℕ, ap, sym, ◌∙◌}
use Rattle.audit_rows.proofs.Told.{behind, not_zero, row_told}
use Rattle.audit_rows.proofs.judging.Judged.row_behind.Goals as goal

pub returns-then-self-eq0 : goal.returns-then-self-eq0
returns-then-self-eq0 c values plan request h good =
    sym (ap (λ (n : ℕ). behind c.args.row n) c.if-self-eq0.true) ∙ row_told c.args.row values plan request c.args.self.now h good

pub returns-else-self-eq0 : goal.returns-else-self-eq0
returns-else-self-eq0 c values plan request h good =
    c.row_of.ensures.value ∙ not_zero c.args.row c.args.self.now.next c.if-self-eq0.false ∙ row_told c.args.row values plan request c.args.self.now h good
