use Rattle.std.proofs.Common.{[], sym, subst, arith}
use Rattle.session_words.specs.declared.plan.SitePlan.{SitePlan}
use Rattle.faultless_pasts.specs.Faultless.{told_codecs}
use Rattle.trace_audit.specs.Auditing.{IsOpen}
use Rattle.trace_audit.proofs.auditor.Auditor.make.Goals as goal

pub returns-clause-taken : goal.returns-clause-taken
returns-clause-taken g c =
    let all = told_codecs g.R.Coded.negotiates g.R.Coded.reads g.R.Coded.encodes g.R.ToldCoded.responds g.R.ToldCoded.watts in
    record {
      line_is = omega arith;
      is = subst (λ (p : SitePlan). IsOpen all p [] c.in_ok-site.site) (sym c.copied.ensures) c.in_ok-site.ensures.open;
    }
