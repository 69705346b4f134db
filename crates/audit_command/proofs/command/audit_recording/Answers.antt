use Rattle.std.proofs.Common.{◌+◌, List, length, ap, subst}
use Rattle.charge_world.specs.declared.entry.Entry.{Entry}
use Rattle.faultless_pasts.specs.Faultless.{told_codecs}
use Rattle.audit_command.specs.Audits.{IsVerdict}
use Rattle.audit_command.proofs.Verdicts.{audited}
use Rattle.audit_command.proofs.command.audit_recording.Goals as goal

pub returns-in-Ok : goal.returns-in-Ok
returns-in-Ok g c =
    let all = told_codecs g.R.Coded.negotiates g.R.Coded.reads g.R.Coded.encodes g.R.ToldCoded.responds g.R.ToldCoded.watts in
    let is = subst (λ (e : List Entry). IsVerdict all c.args.recording.plan e c.in-Ok.fault) c.as_slice-entries.ensures.value c.in-Ok.ensures.verdict in
    record {
      audited = audited all c.args.recording.plan c.args.recording.entries.items c.in-Ok.fault _ c.conclude.result _ _ is
          (ap (λ (e : List Entry). length e + 1) c.as_slice-entries.ensures.value) c.conclude.ensures;
    }
