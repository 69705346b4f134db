use Rattle.std.proofs.Common.{◌≡◌, [], take}
use Rattle.std.specs.Prelude.{reverse}
use Rattle.faultless_pasts.specs.Faultless.{told_codecs}
use Rattle.trace_audit.specs.Taken.{HasTaken}
use Rattle.audit_command.proofs.auditing.take_all.Given as goal

abbrev pub invariant-loop-entry : goal.invariant-loop-entry
invariant-loop-entry g l = record {
  plan : l.auditor.plan ≡ l.fn.auditor.plan;
  taken : HasTaken (told_codecs g.R.Coded.negotiates g.R.Coded.reads g.R.Coded.encodes g.R.ToldCoded.responds g.R.ToldCoded.watts) l.fn.auditor.plan [] l.fn.auditor.line l.fn.auditor.fault l.fn.auditor.site
      → HasTaken (told_codecs g.R.Coded.negotiates g.R.Coded.reads g.R.Coded.encodes g.R.ToldCoded.responds g.R.ToldCoded.watts) l.auditor.plan (reverse (take l.entry-index l.entries)) l.auditor.line l.auditor.fault l.auditor.site;
}
