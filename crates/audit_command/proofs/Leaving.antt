-- What an audit leaves, by how it went.
use Rattle.std.proofs.Common.{◌≡◌, inl, inr, ◌↔◌, ℕ, ◌<◌, List, Option, Some, None, refl, sym, ap, ◌∙◌, subst, arith}
use Rattle.std.specs.Prelude.{IsSomeAnd}
use Rattle.charge_world.specs.declared.entry.Entry.{Entry}
use Rattle.session_words.specs.declared.plan.SitePlan.{SitePlan}
use Rattle.plan_keys.specs.declared.fault.PlanFault.{PlanFault}
use Rattle.plan_keys.specs.declared.fault.PlanFault.TheVariants as plan_fault
use Rattle.plan_files.specs.FileTexts.{CountsFault}
use Rattle.site_plan.specs.Plans.{site_told}
use Rattle.told_pasts.specs.Spelling.{ToldCodecs}
use Rattle.command_status.specs.declared.status.Status.{Status}
use Rattle.command_status.specs.declared.status.Status.TheVariants as status
use Rattle.command_status.specs.Told.{SinkTold}
use Rattle.charging_files.specs.FileLines.{key_of, IsRefusedBy, RefusesBy}
use Rattle.planned_traces.specs.declared.recording.FilesFault.{FilesFault}
use Rattle.planned_traces.specs.declared.recording.FilesFault.TheVariants.{Unread, Plan, Line, Memory}
use Rattle.planned_traces.specs.Files.{FilesTold, AreFiles, HasFault}
use Rattle.audit_command.specs.Lines.{Refuses}
use Rattle.audit_command.specs.Audits.{Audited}
use Rattle.audit_command.specs.Leaving.{LeavesBy, AuditLeaves}
use Rattle.audit_command.proofs.Decided.{decided, write_failed}

-- a status that isn't `SourceFault`, where no count rose
abbrev pub IsOther : Status → Type 0
IsOther status.SourceFault = ⊥
IsOther _ = Unit {0}

other : (s : Status) (n m : ℕ) → IsOther s → (n < m → ⊥) → (s ≡ status.SourceFault) ↔ (n < m)
other s n m is same = (λ unread. absurd (subst IsOther unread is), λ less. absurd (same less))

left : (c : ToldCodecs) (tells : Type 0) (s : Status) (files : FilesTold) (before after : SinkTold) → LeavesBy c tells s files before after
    → ((s ≡ status.SourceFault) ↔ (files.n < files.m)) → AuditLeaves c tells s files before after
left c tells s files before after h unread = record { leaves = h; unread = unread; decided = decided c tells s files before after h unread }

-- ---- files that were read

audit_leaves : (c : ToldCodecs) (tells : Type 0) (s : Status) (plan : SitePlan) (entries : List Entry) (files : FilesTold) (before after : SinkTold)
    → AreFiles tells files plan entries → Audited c plan entries s before after → LeavesBy c tells s files before after
audit_leaves c tells status.Done plan entries files before after are h = record { plan = plan; entries = entries; files_are = are; audited = h }
audit_leaves c tells status.AuditNo plan entries files before after are h = record { plan = plan; entries = entries; files_are = are; audited = h }
audit_leaves c tells status.SinkFault plan entries files before after are h = record { plan = plan; entries = entries; files_are = are; audited = h }
audit_leaves c tells status.NoMemory plan entries files before after are h = h
audit_leaves c tells _ plan entries files before after are h = absurd h

pub was_audited : (c : ToldCodecs) (tells : Type 0) (s : Status) (plan : SitePlan) (entries : List Entry) (files : FilesTold) (before after : SinkTold)
    → AreFiles tells files plan entries → files.m ≡ files.n → Audited c plan entries s before after → AuditLeaves c tells s files before after
was_audited c tells s plan entries files before after are same h =
    left c tells s files before after (audit_leaves c tells s plan entries files before after are h)
    (λ is. absurd (subst (λ (s : Status). Audited c plan entries s before after) is h), λ less. absurd (omega (arith, same, less)))

-- ---- files that are refused

no_key : (fault : PlanFault) (key : List ℕ) → key_of fault ≡ Some key → fault ≡ plan_fault.Memory → ⊥
no_key fault key is memory =
    let none : None ≡ Some key = ap key_of (sym memory) ∙ is in cc

refused_by : (fault : PlanFault) (key text : List ℕ) → key_of fault ≡ Some key → site_told text ≡ Some fault → IsRefusedBy site_told text key
refused_by fault key text is first = record { fault = fault; first_is = first; key_is = is }

some_weaker : (text : Option (List ℕ)) (P Q : List ℕ → Type 0) → ((t : List ℕ) → P t → Q t) → IsSomeAnd text P → IsSomeAnd text Q
some_weaker None P Q f h = absurd h
some_weaker (Some t) P Q f h = f t h

plan_leaves : (c : ToldCodecs) (tells : Type 0) (fault : PlanFault) (key : Option (List ℕ)) (s : Status) (files : FilesTold) (before after : SinkTold)
    → key_of fault ≡ key → HasFault tells files (Plan fault) → RefusesBy key s before after → LeavesBy c tells s files before after
plan_leaves c tells fault None s files before after is has h = subst (λ (s : Status). LeavesBy c tells s files before after) (sym h.0) (h.1, h.2)
plan_leaves c tells fault (Some key) s files before after is (inl memory) h = absurd (no_key fault key is memory)
plan_leaves c tells fault (Some key) s files before after is (inr first) h =
    subst (λ (s : Status). LeavesBy c tells s files before after) (sym h.0)
    (record { key = key; refused = λ t. some_weaker files.plan _ _ (λ text x. refused_by fault key text is x) (first t); line = h.1 })

refused_leaves : (c : ToldCodecs) (tells : Type 0) (fault : FilesFault) (s : Status) (files : FilesTold) (before after : SinkTold) → HasFault tells files fault
    → Refuses fault s before after → LeavesBy c tells s files before after
refused_leaves c tells Unread s files before after has h = subst (λ (s : Status). LeavesBy c tells s files before after) (sym h.0) h.1
refused_leaves c tells (Plan fault) s files before after has h = plan_leaves c tells fault (key_of fault) s files before after refl has h
refused_leaves c tells (Line number) s files before after has h =
    subst (λ (s : Status). LeavesBy c tells s files before after) (sym h.0) (record { number = number; refused = has; line = h.1 })
refused_leaves c tells Memory s files before after has h = subst (λ (s : Status). LeavesBy c tells s files before after) (sym h.0) (h.1, h.2)

other_plan : (key : Option (List ℕ)) (s : Status) (before after : SinkTold) → RefusesBy key s before after → IsOther s
other_plan None s before after h = subst IsOther (sym h.0) tt
other_plan (Some key) s before after h = subst IsOther (sym h.0) tt

read_plan : (fault : PlanFault) → Plan fault ≡ Unread → ⊥
read_plan fault is = cc

read_line : (number : ℕ) → Line number ≡ Unread → ⊥
read_line number is = cc

read_all : Memory ≡ Unread → ⊥
read_all is = cc

refused_read : (fault : FilesFault) (s : Status) (before after : SinkTold) (n m : ℕ) → CountsFault Unread n m fault → Refuses fault s before after
    → (s ≡ status.SourceFault) ↔ (n < m)
refused_read Unread s before after n m counts h = (λ is. counts.risen.0 refl, λ less. h.0)
refused_read (Plan fault) s before after n m counts h = other s n m (other_plan (key_of fault) s before after h) (λ less. read_plan fault (counts.risen.1 less))
refused_read (Line number) s before after n m counts h = other s n m (subst IsOther (sym h.0) tt) (λ less. read_line number (counts.risen.1 less))
refused_read Memory s before after n m counts h = other s n m (subst IsOther (sym h.0) tt) (λ less. read_all (counts.risen.1 less))

pub was_refused : (c : ToldCodecs) (tells : Type 0) (fault : FilesFault) (s : Status) (files : FilesTold) (before after : SinkTold) → HasFault tells files fault
    → CountsFault Unread files.n files.m fault → Refuses fault s before after → AuditLeaves c tells s files before after
was_refused c tells fault s files before after has counts h =
    left c tells s files before after (refused_leaves c tells fault s files before after has h) (refused_read fault s before after files.n files.m counts h)

-- ---- what each of them says

pub unprinted : (c : ToldCodecs) (tells : Type 0) (s : Status) (files : FilesTold) (before after : SinkTold) → AuditLeaves c tells s files before after → s ≡ status.NoMemory
    → (after.taken ≡ before.taken) × (after.faults ≡ before.faults)
unprinted c tells s files before after h is = subst (λ (s : Status). LeavesBy c tells s files before after) is h.leaves

pub sink_failed : (c : ToldCodecs) (tells : Type 0) (s : Status) (files : FilesTold) (before after : SinkTold) → AuditLeaves c tells s files before after → s ≡ status.SinkFault
    → before.faults < after.faults
sink_failed c tells s files before after h is =
    let was = subst (λ (s : Status). LeavesBy c tells s files before after) is h.leaves in
    write_failed c was.plan was.entries before after was.audited
