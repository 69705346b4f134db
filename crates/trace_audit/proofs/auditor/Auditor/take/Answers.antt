use Rattle.std.proofs.Common.{length, sym, ◌∙◌}
use Rattle.faultless_pasts.specs.Faultless.{told_codecs}
use Rattle.trace_audit.proofs.Deciding.{open_of, open_with, fault_of, fault_with, found_now, found_still, line_next}
use Rattle.trace_audit.proofs.auditor.Auditor.take.Goals as goal

pub returns-in-Some-clause-taken : goal.returns-in-Some-clause-taken
returns-in-Some-clause-taken g c past h =
    let all = told_codecs g.R.Coded.negotiates g.R.Coded.reads g.R.Coded.encodes g.R.ToldCoded.responds g.R.ToldCoded.watts in
    record {
      line_is = c.saturating_add-self.ensures ∙ line_next _ (length past) h.line_is;
      is = fault_with _ c.in-Some.field-0 _ _ c.in-Some.is (found_still all c.args.self.now.plan past c.args.entry.now _ _ _ (fault_of _ c.in-Some.field-0 _ _ c.in-Some.is h.is));
    }

pub returns-in-Some-before-clause-taken : goal.returns-in-Some-before-clause-taken
returns-in-Some-before-clause-taken g c past h =
    let all = told_codecs g.R.Coded.negotiates g.R.Coded.reads g.R.Coded.encodes g.R.ToldCoded.responds g.R.ToldCoded.watts in
    let so = open_of _ _ _ c.in-None.is h.is in
    record {
      line_is = c.saturating_add-self.ensures ∙ line_next _ (length past) h.line_is;
      is = found_now all c.args.self.now.plan past c.args.entry.now c.args.self.now.site.verdict c.args.self.now.site.seats.items _ c.in-Some-before.found so.passed.judged so.clean h.line_is (sym c.before-in-None.ensures ∙ c.in-Some-before.is);
    }

pub returns-in-None-before-clause-taken : goal.returns-in-None-before-clause-taken
returns-in-None-before-clause-taken g c past h =
    let so = open_of _ _ _ c.in-None.is h.is in
    record {
      line_is = c.saturating_add-self.ensures ∙ line_next _ (length past) h.line_is;
      is = open_with _ _ _ c.in-None.is (c.pass.ensures.open past so (sym c.before-in-None.ensures ∙ c.in-None-before.is));
    }
