-- Own: what an audit finds in a trace, whoever wrote it, and what it leaves on the output. Entries stand with the oldest first.
use Rattle.std.specs.Prelude.{◌≡◌, ◌⊎◌, ℕ, ◌+◌, List, length, reverse, Option, MatchOption}
use Rattle.charge_world.specs.declared.entry.Entry.{Entry}
use Rattle.session_words.specs.declared.plan.SitePlan.{SitePlan}
use Rattle.told_pasts.specs.Faults.{IsFaultless, IsFirstFault}
use Rattle.told_pasts.specs.Safe.{IsSafe, IsWithin}
use Rattle.told_pasts.specs.Spelling.{ToldCodecs}
use Rattle.trace_audit.specs.Auditing.{IsOfPost}
use Rattle.trace_audit.specs.declared.auditor.Fault.{Fault}
use Rattle.command_status.specs.declared.status.Status.{Status}
use Rattle.command_status.specs.declared.status.Status.TheVariants as status
use Rattle.command_status.specs.Told.{SinkTold, Writes, WritesFront}
use Rattle.audit_command.specs.Lines.{ok_line, no_line}

-- no check fails: then the contactors were closed only as mandated and opened at the first cause, and the watts stayed within the limit
pub record IsPassed (c : ToldCodecs) (plan : SitePlan) (entries : List Entry) : Type 0 where
  pub faultless : IsFaultless c plan (reverse entries)
  pub safe : IsSafe c plan (reverse entries)
  pub within : IsWithin c plan (reverse entries)

-- this check fails at this line, and none before
abbrev pub IsFailed : ToldCodecs → SitePlan → List Entry → ℕ → ℕ → Type 0
IsFailed c plan entries line check = IsFirstFault c plan (reverse entries) line check

abbrev pub IsVerdict : ToldCodecs → SitePlan → List Entry → Option Fault → Type 0
IsVerdict c plan entries fault = MatchOption fault (IsPassed c plan entries) (λ f. IsFailed c plan entries f.line f.check)

-- and this is the first post for which it does
abbrev pub IsOfPosts : ToldCodecs → SitePlan → List Entry → Option Fault → Type 0
IsOfPosts c plan entries fault = MatchOption fault (Unit {0}) (λ f. IsOfPost c plan (reverse entries) f.line f.check f.post)

-- how many lines the trace has: the first, and one for each entry
abbrev pub lines_of : List Entry → ℕ
lines_of entries = length entries + 1

-- ---- what it leaves on the output

-- its line was printed
pub record PrintsOk (c : ToldCodecs) (plan : SitePlan) (entries : List Entry) (P : List ℕ → Type 0) : Type 0 where
  pub passed : IsPassed c plan entries
  pub line : P (ok_line (lines_of entries))

pub record PrintsNo (c : ToldCodecs) (plan : SitePlan) (entries : List Entry) (P : List ℕ → Type 0) : Type 0 where
  pub number : ℕ
  pub check : ℕ
  pub failed : IsFailed c plan entries number check
  pub line : P (no_line number check)

-- by the status. A line that couldn't be written is that of either verdict, and then a front of it was
abbrev pub Audited : ToldCodecs → SitePlan → List Entry → Status → SinkTold → SinkTold → Type 0
Audited c plan entries status.Done before after = PrintsOk c plan entries (λ line. Writes line before after)
Audited c plan entries status.AuditNo before after = PrintsNo c plan entries (λ line. Writes line before after)
Audited c plan entries status.SinkFault before after =
    PrintsOk c plan entries (λ line. WritesFront line before after) ⊎ PrintsNo c plan entries (λ line. WritesFront line before after)
Audited c plan entries status.NoMemory before after = (after.taken ≡ before.taken) × (after.faults ≡ before.faults)
Audited c plan entries _ before after = ⊥
