-- Own: what an auditor keeps of the entries that it took: the line of the newest, the first fault, once it is known, and the site before that.
use Rattle.std.specs.Prelude.{◌≡◌, ℕ, ◌+◌, List, length, Option, MatchOption}
use Rattle.charge_world.specs.declared.entry.Entry.{Entry}
use Rattle.session_words.specs.declared.plan.SitePlan.{SitePlan}
use Rattle.told_pasts.specs.Spelling.{ToldCodecs}
use Rattle.trace_audit.specs.declared.auditor.Fault.{Fault}
use Rattle.trace_audit.specs.declared.site.AuditedSite.{AuditedSite}
use Rattle.trace_audit.specs.Auditing.{capped, IsFound, IsOpen}

-- the newest entry first
pub record HasTaken (c : ToldCodecs) (plan : SitePlan) (past : List Entry) (line : ℕ) (fault : Option Fault) (site : AuditedSite) : Type 0 where
  pub line_is : line ≡ capped (length past + 1)
  pub is : MatchOption fault (IsOpen c plan past site) (λ f. IsFound c plan past f.line f.check f.post)
