use Rattle.std.proofs.Common.{List, subst}
use Rattle.charge_world.specs.declared.entry.Entry.{Entry}
use Rattle.faultless_pasts.specs.Faultless.{told_codecs}
use Rattle.audit_command.specs.Audits.{IsVerdict, IsOfPosts}
use Rattle.audit_command.proofs.Verdicts.{found_in}
use Rattle.audit_command.proofs.finding.fault_in.Goals as goal

pub returns-in-Ok-first_fault : goal.returns-in-Ok-first_fault
returns-in-Ok-first_fault g c =
    let all = told_codecs g.R.Coded.negotiates g.R.Coded.reads g.R.Coded.encodes g.R.ToldCoded.responds g.R.ToldCoded.watts in
    let plan = c.in-Ok.recording.plan in
    let fault = c.in-Ok-first_fault.fault in
    let same = c.as_slice-entries.ensures.value in
    found_in all _ _ plan c.in-Ok.recording.entries.items fault c.in-Ok.ensures.read
    (subst (λ (e : List Entry). IsVerdict all plan e fault) same c.in-Ok-first_fault.ensures.verdict)
    (subst (λ (e : List Entry). IsOfPosts all plan e fault) same c.in-Ok-first_fault.ensures.post)
