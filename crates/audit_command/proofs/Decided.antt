-- What the texts of the files decide.
use Rattle.std.proofs.Common.{◌≡◌, inl, inr, ◌↔◌, ℕ, ◌<◌, List, length, Some, refl, sym, ap, ◌∙◌, subst}
use Rattle.std.specs.Prelude.{reverse, IsSomeAnd}
use Rattle.charge_world.specs.declared.entry.Entry.{Entry}
use Rattle.session_words.specs.declared.plan.SitePlan.{SitePlan}
use Rattle.site_plan.specs.Plans.{IsSitePlanOf, site_told}
use Rattle.told_pasts.specs.Faults.{IsFaultless}
use Rattle.told_pasts.specs.Spelling.{ToldCodecs}
use Rattle.trace_files.specs.Recordings.{IsRecorded, IsRefusedAt}
use Rattle.trace_files.proofs.OneLine.{one_line, not_refused}
use Rattle.command_status.specs.declared.status.Status.{Status}
use Rattle.command_status.specs.declared.status.Status.TheVariants as status
use Rattle.command_status.specs.FaultLines.{plan_line, input_line}
use Rattle.command_status.specs.Told.{SinkTold, TellsLine, Writes}
use Rattle.charging_files.specs.FileLines.{key_of, IsRefusedBy}
use Rattle.planned_traces.specs.Files.{FilesTold, AreTexts, ComesWith}
use Rattle.planned_traces.proofs.Texts.{both_of, planned, other_plan, never}
use Rattle.planned_traces.proofs.OnePlan.{one_plan, one_trace}
use Rattle.audit_command.specs.Lines.{ok_line, no_line}
use Rattle.audit_command.specs.Audits.{Audited, IsFailed, lines_of}
use Rattle.audit_command.specs.Leaving.{LeavesBy, IsDecided}
use Rattle.audit_command.proofs.Verdicts.{one_fault}

-- ---- texts

same_some : {X : Type 0} (a b : X) → Some a ≡ Some b → a ≡ b
same_some a b h = cc

no_plan : (key text : List ℕ) (plan : SitePlan) → IsSitePlanOf text plan → IsRefusedBy site_told text key → ⊥
no_plan key text plan is r = planned r.fault plan text is r.first_is

same_key : (a b text : List ℕ) → IsRefusedBy site_told text a → IsRefusedBy site_told text b → a ≡ b
same_key a b text r s = same_some a b (sym r.key_is ∙ ap key_of (same_some r.fault s.fault (sym r.first_is ∙ s.first_is)) ∙ s.key_is)

abbrev Plans : FilesTold → SitePlan → Type 0
Plans files plan = IsSomeAnd files.plan (λ text. IsSitePlanOf text plan)

abbrev Tells : FilesTold → SitePlan → List Entry → Type 0
Tells files plan entries = AreTexts files plan (λ posts text. IsRecorded posts text entries)

same_plan : (files : FilesTold) (p q : SitePlan) → Plans files p → Plans files q → p ≡ q
same_plan files p q a b = both_of files.plan _ _ (p ≡ q) (λ text x y. one_plan text p q x y) a b

same_entries : (files : FilesTold) (p q : SitePlan) (es fs : List Entry) → Tells files p es → Tells files q fs → es ≡ fs
same_entries files p q es fs a b =
    both_of files.trace _ _ (es ≡ fs) (λ text x y. one_trace (length p.post.items) text es fs x y) a.1
    (other_plan files p q (λ posts text. IsRecorded posts text fs) a.0 b)

-- a trace is refused or isn't
read_or_refused : (files : FilesTold) (p q : SitePlan) (entries : List Entry) (number : ℕ) → Tells files p entries → AreTexts files q (λ posts text. IsRefusedAt posts text number) → ⊥
read_or_refused files p q entries number a b =
    both_of files.trace _ _ ⊥ (λ text x y. not_refused (length p.post.items) text entries number x y) a.1
    (other_plan files p q (λ posts text. IsRefusedAt posts text number) a.0 b)

one_number : (files : FilesTold) (p q : SitePlan) (m n : ℕ) → AreTexts files p (λ posts text. IsRefusedAt posts text m) → AreTexts files q (λ posts text. IsRefusedAt posts text n)
    → m ≡ n
one_number files p q m n a b =
    both_of files.trace _ _ (m ≡ n) (λ text x y. one_line (length p.post.items) text m n x y) a.1
    (other_plan files p q (λ posts text. IsRefusedAt posts text n) a.0 b)

plan_or_refused : (files : FilesTold) (plan : SitePlan) (key : List ℕ) → Plans files plan → IsSomeAnd files.plan (λ text. IsRefusedBy site_told text key) → ⊥
plan_or_refused files plan key a b = both_of files.plan _ _ ⊥ (λ text x y. no_plan key text plan x y) a b

-- ---- the decisions, by the status

plan_told : (c : ToldCodecs) (tells : Type 0) (s : Status) (files : FilesTold) (before after : SinkTold) → tells → LeavesBy c tells s files before after
    → (s ≡ status.SourceFault → ⊥) → (key : List ℕ) → IsSomeAnd files.plan (λ text. IsRefusedBy site_told text key)
    → ComesWith status.Plan (TellsLine (plan_line key) before after) s
plan_told c tells status.Done files before after t h read key first = absurd (plan_or_refused files h.plan key (h.files_are.plan_is t) first)
plan_told c tells status.AuditNo files before after t h read key first = absurd (plan_or_refused files h.plan key (h.files_are.plan_is t) first)
plan_told c tells status.SinkFault files before after t h read key first = absurd (plan_or_refused files h.plan key (h.files_are.plan_is t) first)
plan_told c tells status.Input files before after t h read key first = absurd (plan_or_refused files h.refused.plan key (h.refused.plan_is t) first)
plan_told c tells status.Plan files before after t h read key first =
    let same : h.key ≡ key = both_of files.plan _ _ (h.key ≡ key) (λ text a b. same_key h.key key text a b) (h.refused t) first in
    inl (refl, subst (λ (k : List ℕ). TellsLine (plan_line k) before after) same h.line)
plan_told c tells status.SourceFault files before after t h read key first = absurd (read refl)
plan_told c tells status.NoMemory files before after t h read key first = inr refl
plan_told c tells _ files before after t h read key first = absurd h

input_told : (c : ToldCodecs) (tells : Type 0) (s : Status) (files : FilesTold) (before after : SinkTold) → tells → LeavesBy c tells s files before after
    → (s ≡ status.SourceFault → ⊥) → (plan : SitePlan) (number : ℕ) → AreTexts files plan (λ posts text. IsRefusedAt posts text number)
    → ComesWith status.Input (TellsLine (input_line number) before after) s
input_told c tells status.Done files before after t h read plan number texts =
    absurd (read_or_refused files h.plan plan h.entries number (h.files_are.plan_is t, h.files_are.trace_is t) texts)
input_told c tells status.AuditNo files before after t h read plan number texts =
    absurd (read_or_refused files h.plan plan h.entries number (h.files_are.plan_is t, h.files_are.trace_is t) texts)
input_told c tells status.SinkFault files before after t h read plan number texts =
    absurd (read_or_refused files h.plan plan h.entries number (h.files_are.plan_is t, h.files_are.trace_is t) texts)
input_told c tells status.Input files before after t h read plan number texts =
    let r = h.refused in
    let same : h.number ≡ number = one_number files r.plan plan h.number number (r.plan_is t, r.refused t) texts in
    inl (refl, subst (λ (line : ℕ). TellsLine (input_line line) before after) same h.line)
input_told c tells status.Plan files before after t h read plan number texts = absurd (plan_or_refused files plan h.key texts.0 (h.refused t))
input_told c tells status.SourceFault files before after t h read plan number texts = absurd (read refl)
input_told c tells status.NoMemory files before after t h read plan number texts = inr refl
input_told c tells _ files before after t h read plan number texts = absurd h

-- a write failed where an audit ended by `SinkFault`
pub write_failed : (c : ToldCodecs) (plan : SitePlan) (entries : List Entry) (before after : SinkTold) → Audited c plan entries status.SinkFault before after → before.faults < after.faults
write_failed c plan entries before after (inl h) = h.line.0
write_failed c plan entries before after (inr h) = h.line.0

unrisen : (c : ToldCodecs) (plan : SitePlan) (entries : List Entry) (before after : SinkTold) → Audited c plan entries status.SinkFault before after → after.faults ≡ before.faults → ⊥
unrisen c plan entries before after h printed = never before.faults after.faults printed (write_failed c plan entries before after h)

-- what holds of one plan and of one trace holds of the others that the files are
failed_too : (c : ToldCodecs) (files : FilesTold) (p q : SitePlan) (es fs : List Entry) (line check : ℕ) → Tells files p es → Tells files q fs → IsFailed c p es line check
    → IsFailed c q fs line check
failed_too c files p q es fs line check a b h =
    subst (λ (plan : SitePlan). IsFailed c plan fs line check) (same_plan files p q a.0 b.0)
    (subst (λ (entries : List Entry). IsFailed c p entries line check) (same_entries files p q es fs a b) h)

faultless_too : (c : ToldCodecs) (files : FilesTold) (p q : SitePlan) (es fs : List Entry) → Tells files p es → Tells files q fs → IsFaultless c p (reverse es)
    → IsFaultless c q (reverse fs)
faultless_too c files p q es fs a b h =
    subst (λ (plan : SitePlan). IsFaultless c plan (reverse fs)) (same_plan files p q a.0 b.0)
    (subst (λ (entries : List Entry). IsFaultless c p (reverse entries)) (same_entries files p q es fs a b) h)

ok_told : (c : ToldCodecs) (tells : Type 0) (s : Status) (files : FilesTold) (before after : SinkTold) → tells → LeavesBy c tells s files before after
    → (s ≡ status.SourceFault → ⊥) → (plan : SitePlan) (entries : List Entry) → Tells files plan entries → after.faults ≡ before.faults → IsFaultless c plan (reverse entries)
    → ComesWith status.Done (Writes (ok_line (lines_of entries)) before after) s
ok_told c tells status.Done files before after t h read plan entries texts printed none =
    let same : h.entries ≡ entries = same_entries files h.plan plan h.entries entries (h.files_are.plan_is t, h.files_are.trace_is t) texts in
    inl (refl, subst (λ (es : List Entry). Writes (ok_line (lines_of es)) before after) same h.audited.line)
ok_told c tells status.AuditNo files before after t h read plan entries texts printed none =
    let failed = failed_too c files h.plan plan h.entries entries h.audited.number h.audited.check (h.files_are.plan_is t, h.files_are.trace_is t) texts h.audited.failed in
    absurd (none h.audited.number h.audited.check failed.is)
ok_told c tells status.SinkFault files before after t h read plan entries texts printed none = absurd (unrisen c h.plan h.entries before after h.audited printed)
ok_told c tells status.Input files before after t h read plan entries texts printed none =
    let r = h.refused in
    absurd (read_or_refused files plan r.plan entries h.number texts (r.plan_is t, r.refused t))
ok_told c tells status.Plan files before after t h read plan entries texts printed none = absurd (plan_or_refused files plan h.key texts.0 (h.refused t))
ok_told c tells status.SourceFault files before after t h read plan entries texts printed none = absurd (read refl)
ok_told c tells status.NoMemory files before after t h read plan entries texts printed none = inr refl
ok_told c tells _ files before after t h read plan entries texts printed none = absurd h

no_told : (c : ToldCodecs) (tells : Type 0) (s : Status) (files : FilesTold) (before after : SinkTold) → tells → LeavesBy c tells s files before after
    → (s ≡ status.SourceFault → ⊥) → (plan : SitePlan) (entries : List Entry) (line check : ℕ) → Tells files plan entries → after.faults ≡ before.faults
    → IsFailed c plan entries line check → ComesWith status.AuditNo (Writes (no_line line check) before after) s
no_told c tells status.Done files before after t h read plan entries line check texts printed failed =
    let none = faultless_too c files h.plan plan h.entries entries (h.files_are.plan_is t, h.files_are.trace_is t) texts h.audited.passed.faultless in
    absurd (none line check failed.is)
no_told c tells status.AuditNo files before after t h read plan entries line check texts printed failed =
    let own = failed_too c files h.plan plan h.entries entries h.audited.number h.audited.check (h.files_are.plan_is t, h.files_are.trace_is t) texts h.audited.failed in
    let same = one_fault c plan entries h.audited.number h.audited.check line check own failed in
    inl (refl, subst (λ (n : ℕ). Writes (no_line line n) before after) same.1 (subst (λ (n : ℕ). Writes (no_line n h.audited.check) before after) same.0 h.audited.line))
no_told c tells status.SinkFault files before after t h read plan entries line check texts printed failed = absurd (unrisen c h.plan h.entries before after h.audited printed)
no_told c tells status.Input files before after t h read plan entries line check texts printed failed =
    let r = h.refused in
    absurd (read_or_refused files plan r.plan entries h.number texts (r.plan_is t, r.refused t))
no_told c tells status.Plan files before after t h read plan entries line check texts printed failed = absurd (plan_or_refused files plan h.key texts.0 (h.refused t))
no_told c tells status.SourceFault files before after t h read plan entries line check texts printed failed = absurd (read refl)
no_told c tells status.NoMemory files before after t h read plan entries line check texts printed failed = inr refl
no_told c tells _ files before after t h read plan entries line check texts printed failed = absurd h

pub decided : (c : ToldCodecs) (tells : Type 0) (s : Status) (files : FilesTold) (before after : SinkTold) → LeavesBy c tells s files before after
    → ((s ≡ status.SourceFault) ↔ (files.n < files.m)) → tells → files.m ≡ files.n → IsDecided c s files before after
decided c tells s files before after h unread t same =
    let read : s ≡ status.SourceFault → ⊥ = λ is. never files.n files.m same (unread.0 is) in
    record {
      plan = plan_told c tells s files before after t h read;
      input = input_told c tells s files before after t h read;
      ok = ok_told c tells s files before after t h read;
      no = no_told c tells s files before after t h read;
    }
