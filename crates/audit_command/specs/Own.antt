-- Own: what an audit finds in a trace that a station wrote whole.
use Rattle.std.specs.Prelude.{◌≡◌, ℕ, List, reverse}
use Rattle.charge_world.specs.declared.entry.Entry.{Entry}
use Rattle.session_words.specs.declared.plan.SitePlan.{SitePlan}
use Rattle.station_spec.specs.Runs.{IsSiteRun}
use Rattle.told_pasts.specs.Spelling.{ToldCodecs}
use Rattle.trace_files.specs.Recordings.{IsRecorded}
use Rattle.command_status.specs.declared.status.Status.{Status}
use Rattle.command_status.specs.declared.status.Status.TheVariants as status
use Rattle.command_status.specs.Told.{SinkTold, Writes}
use Rattle.planned_traces.specs.Files.{FilesTold, AreTexts, ComesWith}
use Rattle.audit_command.specs.Lines.{ok_line}
use Rattle.audit_command.specs.Audits.{lines_of}

-- the first file is a plan, and the second, of at most 256 MiB, tells a whole run of its posts, the oldest entry first
pub record IsOwnTrace (c : ToldCodecs) (files : FilesTold) (plan : SitePlan) (entries : List Entry) : Type 0 where
  pub run : IsSiteRun c.words plan (reverse entries)
  pub texts : AreTexts files plan (λ posts text. IsRecorded posts text entries)

-- where both files could be read and the line was written, no check fails of such a trace; but for want of memory
abbrev pub PassesOwn : ToldCodecs → Type 0 → Status → FilesTold → SinkTold → SinkTold → Type 0
PassesOwn c tells s files before after = (plan : SitePlan) (entries : List Entry) → tells → files.m ≡ files.n → after.faults ≡ before.faults
    → IsOwnTrace c files plan entries → ComesWith status.Done (Writes (ok_line (lines_of entries)) before after) s
