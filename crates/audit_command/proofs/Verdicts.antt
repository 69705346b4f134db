-- What was found and printed.
use Rattle.std.proofs.Common.{◌≡◌, inl, inr, ℕ, List, Option, Some, None, refl, sym, subst, arith}
use Rattle.std.specs.Prelude.{reverse, MatchOption}
use Rattle.charge_world.specs.declared.entry.Entry.{Entry}
use Rattle.session_words.specs.declared.plan.SitePlan.{SitePlan}
use Rattle.told_pasts.specs.Faults.{IsEarlier, IsFaultless, IsFirstFault}
use Rattle.told_pasts.specs.Safe.{IsSafe, IsWithin}
use Rattle.told_pasts.specs.Spelling.{ToldCodecs}
use Rattle.trace_audit.specs.declared.auditor.Fault.{Fault}
use Rattle.command_status.specs.declared.status.Status.{Status}
use Rattle.command_status.specs.declared.status.Status.TheVariants as status
use Rattle.command_status.specs.Told.{SinkTold, Writes, WritesFront, PrintsAs}
use Rattle.audit_command.specs.Lines.{ok_line, no_line}
use Rattle.planned_traces.specs.Files.{FilesTold, AreFiles}
use Rattle.audit_command.specs.Leaving.{HasFoundIn}
use Rattle.audit_command.specs.Audits.{IsPassed, IsFailed, IsVerdict, IsOfPosts, lines_of, Audited}

ok : (c : ToldCodecs) (plan : SitePlan) (entries : List Entry) (lines : ℕ) (s : Status) (before after : SinkTold) → IsPassed c plan entries → lines ≡ lines_of entries
    → PrintsAs status.Done (ok_line lines) s before after → Audited c plan entries s before after
ok c plan entries lines s before after passed count (inl line) =
    subst (λ (s : Status). Audited c plan entries s before after) (sym line.0)
    (record { passed = passed; line = subst (λ (n : ℕ). Writes (ok_line n) before after) count line.1 })
ok c plan entries lines s before after passed count (inr line) =
    subst (λ (s : Status). Audited c plan entries s before after) (sym line.0)
    (inl (record { passed = passed; line = subst (λ (n : ℕ). WritesFront (ok_line n) before after) count line.1 }))

no : (c : ToldCodecs) (plan : SitePlan) (entries : List Entry) (number check : ℕ) (s : Status) (before after : SinkTold) → IsFailed c plan entries number check
    → PrintsAs status.AuditNo (no_line number check) s before after → Audited c plan entries s before after
no c plan entries number check s before after failed (inl line) =
    subst (λ (s : Status). Audited c plan entries s before after) (sym line.0) (record { number = number; check = check; failed = failed; line = line.1 })
no c plan entries number check s before after failed (inr line) =
    subst (λ (s : Status). Audited c plan entries s before after) (sym line.0) (inr (record { number = number; check = check; failed = failed; line = line.1 }))

-- the line of what was found was printed
pub audited : (c : ToldCodecs) (plan : SitePlan) (entries : List Entry) (fault : Option Fault) (lines : ℕ) (s : Status) (before after : SinkTold)
    → IsVerdict c plan entries fault → lines ≡ lines_of entries
    → MatchOption fault (PrintsAs status.Done (ok_line lines) s before after) (λ f. PrintsAs status.AuditNo (no_line f.line f.check) s before after)
    → Audited c plan entries s before after
audited c plan entries None lines s before after is count line = ok c plan entries lines s before after is count line
audited c plan entries (Some f) lines s before after is count line = no c plan entries f.line f.check s before after is line

-- what an auditor tells of a trace that it has taken whole
by_fault : (c : ToldCodecs) (plan : SitePlan) (entries : List Entry) (fault : Option Fault)
    → MatchOption fault (IsFaultless c plan (reverse entries)) (λ f. IsFirstFault c plan (reverse entries) f.line f.check)
    → (fault ≡ None → IsSafe c plan (reverse entries) × IsWithin c plan (reverse entries)) → IsVerdict c plan entries fault
by_fault c plan entries None is safe = let both = safe refl in record { faultless = is; safe = both.0; within = both.1 }
by_fault c plan entries (Some f) is safe = is

pub verdict : (c : ToldCodecs) (own plan : SitePlan) (entries : List Entry) (fault : Option Fault) → own ≡ plan
    → MatchOption fault (IsFaultless c own (reverse entries)) (λ f. IsFirstFault c own (reverse entries) f.line f.check)
    → (fault ≡ None → IsSafe c own (reverse entries) × IsWithin c own (reverse entries)) → IsVerdict c plan entries fault
verdict c own plan entries fault same is safe = subst (λ (p : SitePlan). IsVerdict c p entries fault) same (by_fault c own entries fault is safe)

pub of_posts : (c : ToldCodecs) (own plan : SitePlan) (entries : List Entry) (fault : Option Fault) → own ≡ plan → IsOfPosts c own entries fault → IsOfPosts c plan entries fault
of_posts c own plan entries fault same is = subst (λ (p : SitePlan). IsOfPosts c p entries fault) same is

pub found_in : (c : ToldCodecs) (tells : Type 0) (files : FilesTold) (plan : SitePlan) (entries : List Entry) (fault : Option Fault) → AreFiles tells files plan entries
    → IsVerdict c plan entries fault → IsOfPosts c plan entries fault → HasFoundIn c tells files fault
found_in c tells files plan entries None are is post = tt
found_in c tells files plan entries (Some f) are is post = record { plan = plan; entries = entries; files_are = are; failed = is; post = post }

-- ---- one first fault

both_least : (line check other_line other_check : ℕ) → IsEarlier line check other_line other_check → IsEarlier other_line other_check line check
    → (line ≡ other_line) × (check ≡ other_check)
both_least line check other_line other_check (inl a) (inl b) = absurd (omega (arith, a, b))
both_least line check other_line other_check (inl a) (inr b) = absurd (omega (arith, a, b.0))
both_least line check other_line other_check (inr a) (inl b) = absurd (omega (arith, a.0, b))
both_least line check other_line other_check (inr a) (inr b) = (a.0, omega (arith, a.1, b.1))

pub one_fault : (c : ToldCodecs) (plan : SitePlan) (entries : List Entry) (line check other_line other_check : ℕ) → IsFailed c plan entries line check
    → IsFailed c plan entries other_line other_check → (line ≡ other_line) × (check ≡ other_check)
one_fault c plan entries line check other_line other_check a b =
    both_least line check other_line other_check (a.first other_line other_check b.is) (b.first line check a.is)
