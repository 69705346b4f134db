-- What the texts of the files decide.
use Rattle.std.proofs.Common.{◌≡◌, ◌⊎◌, inl, inr, ◌↔◌, ℕ, ◌<◌, List, length, Some, refl, sym, ap, ◌∙◌, subst, arith}
use Rattle.std.specs.Prelude.{IsSomeAnd}
use Rattle.charge_world.specs.declared.entry.Entry.{Entry}
use Rattle.session_words.specs.declared.plan.SitePlan.{SitePlan}
use Rattle.post_spec.specs.Codecs.{Codecs}
use Rattle.plan_keys.specs.declared.fault.PlanFault.{PlanFault}
use Rattle.site_plan.specs.Plans.{site_told}
use Rattle.station_command.specs.Ended.{Ended}
use Rattle.station_command.specs.Ended.TheVariants as ended
use Rattle.trace_files.specs.Recordings.{IsRecorded, IsRefusedAt}
use Rattle.trace_files.proofs.OneLine.{one_line, not_refused}
use Rattle.command_status.specs.declared.status.Status.{Status}
use Rattle.command_status.specs.declared.status.Status.TheVariants as status
use Rattle.command_status.specs.FaultLines.{input_line}
use Rattle.command_status.specs.Told.{SinkTold, TellsLine}
use Rattle.station_command.specs.Refused.{key_of}
use Rattle.planned_traces.specs.Files.{FilesTold, AreTexts, ComesWith}
use Rattle.planned_traces.proofs.Texts.{both_of, planned, other_plan, never}
use Rattle.replay_command.specs.Lines.{Concludes}
use Rattle.replay_command.specs.Decided.{TellsKey, IsDecided}
use Rattle.replay_command.specs.Replays.{IsRun, LeavesBy, ReplayLeaves}

same_fault : (a b : PlanFault) → Some a ≡ Some b → a ≡ b
same_fault a b h = cc

-- ---- the three decisions, by the status

plan_told : (c : Codecs) (tells : Type 0) (s : Status) (files : FilesTold) (trace_before trace out_before out : SinkTold) → tells
    → LeavesBy c tells s files trace_before trace out_before out → (s ≡ status.SourceFault → ⊥)
    → (fault : PlanFault) → IsSomeAnd files.plan (λ text. site_told text ≡ Some fault) → ComesWith status.Plan (TellsKey fault out_before out) s
plan_told c tells status.Done files trace_before trace out_before out t h read fault first =
    absurd (both_of files.plan _ _ ⊥ (planned fault h.plan) (h.files_are.plan_is t) first)
plan_told c tells status.SinkFault files trace_before trace out_before out t h read fault first =
    absurd (both_of files.plan _ _ ⊥ (planned fault h.plan) (h.files_are.plan_is t) first)
plan_told c tells status.Input files trace_before trace out_before out t h read fault first =
    absurd (both_of files.plan _ _ ⊥ (planned fault h.1.refused.plan) (h.1.refused.plan_is t) first)
plan_told c tells status.Plan files trace_before trace out_before out t h read fault first =
    let same : h.1.fault ≡ fault =
    both_of files.plan _ _ (h.1.fault ≡ fault) (λ text a b. same_fault h.1.fault fault (sym a ∙ b)) (h.1.first t) first in
    inl (refl, (h.1.key, ap key_of (sym same) ∙ h.1.key_is, h.1.line))
plan_told c tells status.SourceFault files trace_before trace out_before out t h read fault first = absurd (read refl)
plan_told c tells status.NoMemory files trace_before trace out_before out t h read fault first = inr refl
plan_told c tells _ files trace_before trace out_before out t h read fault first = absurd h

input_told : (c : Codecs) (tells : Type 0) (s : Status) (files : FilesTold) (trace_before trace out_before out : SinkTold) → tells
    → LeavesBy c tells s files trace_before trace out_before out → (s ≡ status.SourceFault → ⊥)
    → (plan : SitePlan) (number : ℕ) → AreTexts files plan (λ posts text. IsRefusedAt posts text number) → ComesWith status.Input (TellsLine (input_line number) out_before out) s
input_told c tells status.Done files trace_before trace out_before out t h read plan number texts =
    absurd (both_of files.trace _ _ ⊥ (λ text a b. not_refused (length h.plan.post.items) text h.recorded number a b) (h.files_are.trace_is t)
    (other_plan files h.plan plan (λ posts text. IsRefusedAt posts text number) (h.files_are.plan_is t) texts))
input_told c tells status.SinkFault files trace_before trace out_before out t h read plan number texts =
    absurd (both_of files.trace _ _ ⊥ (λ text a b. not_refused (length h.plan.post.items) text h.recorded number a b) (h.files_are.trace_is t)
    (other_plan files h.plan plan (λ posts text. IsRefusedAt posts text number) (h.files_are.plan_is t) texts))
input_told c tells status.Input files trace_before trace out_before out t h read plan number texts =
    let r = h.1.refused in
    let same : h.1.number ≡ number =
    both_of files.trace _ _ (h.1.number ≡ number) (λ text a b. one_line (length r.plan.post.items) text h.1.number number a b) (r.refused t)
    (other_plan files r.plan plan (λ posts text. IsRefusedAt posts text number) (r.plan_is t) texts) in
    inl (refl, subst (λ (line : ℕ). TellsLine (input_line line) out_before out) same h.1.line)
input_told c tells status.Plan files trace_before trace out_before out t h read plan number texts =
    absurd (both_of files.plan _ _ ⊥ (planned h.1.fault plan) texts.0 (h.1.first t))
input_told c tells status.SourceFault files trace_before trace out_before out t h read plan number texts = absurd (read refl)
input_told c tells status.NoMemory files trace_before trace out_before out t h read plan number texts = inr refl
input_told c tells _ files trace_before trace out_before out t h read plan number texts = absurd h

-- a write failed where a replay ended by `SinkFault`
no_done : status.Done ≡ status.SinkFault → ⊥
no_done h = cc

line_failed : (how : Ended) (lines : ℕ) (before after : SinkTold) → Concludes how lines status.SinkFault before after → (how ≡ ended.TraceFault → ⊥) → before.faults < after.faults
line_failed ended.Over lines before after (inl h) whole = absurd (no_done (sym h.0))
line_failed ended.Over lines before after (inr h) whole = h.risen
line_failed ended.Lost lines before after (inl h) whole = absurd (no_done (sym h.0))
line_failed ended.Lost lines before after (inr h) whole = h.risen
line_failed ended.Turns lines before after (inl h) whole = absurd (no_done (sym h.0))
line_failed ended.Turns lines before after (inr h) whole = h.risen
line_failed ended.TraceFault lines before after h whole = absurd (whole refl)

write_failed : (c : Codecs) (plan : SitePlan) (recorded : List Entry) (trace_before trace out_before out : SinkTold) → IsRun c plan recorded status.SinkFault trace_before trace out_before out
    → trace.faults ≡ trace_before.faults → out.faults ≡ out_before.faults → ⊥
write_failed c plan recorded trace_before trace out_before out run traced printed =
    let whole : run.how ≡ ended.TraceFault → ⊥ = λ is. never trace_before.faults trace.faults traced (run.faults.risen.0 is) in
    never out_before.faults out.faults printed (line_failed run.how _ out_before out run.line whole)

done : (c : Codecs) (tells : Type 0) (s : Status) (files : FilesTold) (trace_before trace out_before out : SinkTold) → tells
    → LeavesBy c tells s files trace_before trace out_before out → (s ≡ status.SourceFault → ⊥)
    → (plan : SitePlan) (recorded : List Entry) → AreTexts files plan (λ posts text. IsRecorded posts text recorded)
    → trace.faults ≡ trace_before.faults → out.faults ≡ out_before.faults → (s ≡ status.Done) ⊎ (s ≡ status.NoMemory)
done c tells status.Done files trace_before trace out_before out t h read plan recorded texts traced printed = inl refl
done c tells status.SinkFault files trace_before trace out_before out t h read plan recorded texts traced printed =
    absurd (write_failed c h.plan h.recorded trace_before trace out_before out h.run traced printed)
done c tells status.Input files trace_before trace out_before out t h read plan recorded texts traced printed =
    let r = h.1.refused in
    absurd (both_of files.trace _ _ ⊥ (λ text a b. not_refused (length r.plan.post.items) text recorded h.1.number b a) (r.refused t)
    (other_plan files r.plan plan (λ posts text. IsRecorded posts text recorded) (r.plan_is t) texts))
done c tells status.Plan files trace_before trace out_before out t h read plan recorded texts traced printed =
    absurd (both_of files.plan _ _ ⊥ (planned h.1.fault plan) texts.0 (h.1.first t))
done c tells status.SourceFault files trace_before trace out_before out t h read plan recorded texts traced printed = absurd (read refl)
done c tells status.NoMemory files trace_before trace out_before out t h read plan recorded texts traced printed = inr refl
done c tells _ files trace_before trace out_before out t h read plan recorded texts traced printed = absurd h

pub decided : (c : Codecs) (tells : Type 0) (s : Status) (files : FilesTold) (trace_before trace out_before out : SinkTold)
    → LeavesBy c tells s files trace_before trace out_before out → ((s ≡ status.SourceFault) ↔ (files.n < files.m))
    → tells → files.m ≡ files.n → IsDecided s files trace_before trace out_before out
decided c tells s files trace_before trace out_before out h unread t same =
    let read : s ≡ status.SourceFault → ⊥ = λ is. never files.n files.m same (unread.0 is) in
    record {
      plan = plan_told c tells s files trace_before trace out_before out t h read;
      input = input_told c tells s files trace_before trace out_before out t h read;
      done = done c tells s files trace_before trace out_before out t h read;
    }

memory_is_no_source : status.NoMemory ≡ status.SourceFault → ⊥
memory_is_no_source h = cc

-- want of memory before a file was read
pub no_memory : (c : Codecs) (tells : Type 0) (files : FilesTold) (trace out : SinkTold) → files.m ≡ files.n → ReplayLeaves c tells status.NoMemory files trace trace out out
no_memory c tells files trace out same =
    let leaves : LeavesBy c tells status.NoMemory files trace trace out out = (refl, refl) in
    let unread : (status.NoMemory ≡ status.SourceFault) ↔ (files.n < files.m) =
    (λ is. absurd (memory_is_no_source is), λ less. absurd (never files.n files.m same less)) in
    record {
      leaves = leaves;
      unread = unread;
      decided = decided c tells status.NoMemory files trace trace out out leaves unread;
    }
