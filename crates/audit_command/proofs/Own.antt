-- What an audit finds in a trace that a station wrote whole.
use Rattle.std.proofs.Common.{ℕ, List}
use Rattle.std.specs.Prelude.{reverse}
use Rattle.charge_world.specs.declared.entry.Entry.{Entry}
use Rattle.session_words.specs.declared.plan.SitePlan.{SitePlan}
use Rattle.station_spec.specs.Runs.{IsSiteRun}
use Rattle.told_pasts.specs.Faults.{Fails}
use Rattle.told_pasts.specs.Spelling.{ToldCodecs}
use Rattle.command_status.specs.declared.status.Status.{Status}
use Rattle.command_status.specs.Told.{SinkTold}
use Rattle.planned_traces.specs.Files.{FilesTold}
use Rattle.audit_command.specs.Leaving.{AuditLeaves}
use Rattle.audit_command.specs.Own.{PassesOwn}

pub passes_own : (c : ToldCodecs) (tells : Type 0) (s : Status) (files : FilesTold) (before after : SinkTold)
    → ((site : SitePlan) (past : List Entry) (line check : ℕ) → IsSiteRun c.words site past → Fails c site past line check → ⊥)
    → AuditLeaves c tells s files before after → PassesOwn c tells s files before after
passes_own c tells s files before after none h plan entries t read printed own =
    (h.decided t read).ok plan entries own.texts printed (λ line check. none plan (reverse entries) line check own.run)
