use Rattle.std.proofs.Common.{sym, ◌∙◌}
use Rattle.audit_rows.proofs.Behind.{next_accepted}
use Rattle.audit_rows.proofs.judging.judge_in.Goals as goal

-- the request is accepted
pub returns-in-Some : goal.returns-in-Some
returns-in-Some c = record {
  code = c.code_of-code.ensures.code;
  next = next_accepted c.args.row c.args.values.now c.args.plan.now c.args.request.now c.code_of-code.result c.is_ac.result c.is_finished.result
      c.lead_in-lead.result c.in-Some.lead c.behind-next.result c.is_ac.ensures c.is_finished.ensures c.lead_in-lead.ensures.led c.in-Some.is
      c.behind-next.ensures (sym c.is_accepted.ensures.value ∙ c.if-is_accepted.true);
}
