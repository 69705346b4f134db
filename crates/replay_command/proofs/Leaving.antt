-- What a replay leaves, by how it went.
use Rattle.std.proofs.Common.{◌≡◌, ◌⊎◌, inl, inr, ◌↔◌, ℕ, ◌+◌, ◌<◌, min, List, Option, Some, None, refl, sym, ap, ◌∙◌, subst, arith}
use Rattle.charge_world.specs.declared.entry.Entry.{Entry}
use Rattle.session_words.specs.declared.plan.SitePlan.{SitePlan}
use Rattle.post_spec.specs.Codecs.{Codecs}
use Rattle.plan_keys.specs.declared.fault.PlanFault.{PlanFault}
use Rattle.plan_keys.specs.declared.fault.PlanFault.TheVariants as plan_fault
use Rattle.station_command.specs.Ended.{Ended}
use Rattle.station_command.specs.Ended.TheVariants as ended
use Rattle.station_command.specs.Ending.{AreFaults}
use Rattle.replay_wire.specs.Standing.{counted}
use Rattle.site_replays.specs.Replayed.{IsReplayed}
use Rattle.command_status.specs.declared.status.Status.{Status}
use Rattle.command_status.specs.declared.status.Status.TheVariants as status
use Rattle.command_status.specs.Told.{SinkTold}
use Rattle.plan_files.specs.FileTexts.{CountsFault}
use Rattle.station_command.specs.Refused.{key_of}
use Rattle.planned_traces.specs.declared.recording.FilesFault.{FilesFault}
use Rattle.planned_traces.specs.declared.recording.FilesFault.TheVariants.{Unread, Plan, Line, Memory}
use Rattle.planned_traces.specs.Files.{FilesTold, AreFiles, HasFault}
use Rattle.replay_command.specs.Lines.{lines_of, Concludes, RefusesPlan, Refuses}
use Rattle.replay_command.specs.Replays.{IsRun, Ran, LeavesBy}

-- ---- a run

lines_counted : (past : List Entry) (entries : ℕ) → entries ≡ counted past → min (entries + 1) 18446744073709551615 ≡ lines_of past
lines_counted past entries is = omega (arith, is)

concluded : (how : Ended) (lines : ℕ) (s : Status) (before after : SinkTold) → Concludes how lines s before after → (s ≡ status.Done) ⊎ (s ≡ status.SinkFault)
concluded ended.Over lines s before after (inl h) = inl h.0
concluded ended.Over lines s before after (inr h) = inr h.status_is
concluded ended.Lost lines s before after (inl h) = inl h.0
concluded ended.Lost lines s before after (inr h) = inr h.status_is
concluded ended.Turns lines s before after (inl h) = inl h.0
concluded ended.Turns lines s before after (inr h) = inr h.status_is
concluded ended.TraceFault lines s before after h = inr h.0

by_status : (c : Codecs) (plan : SitePlan) (recorded : List Entry) (s : Status) (trace_before trace out_before out : SinkTold)
    → (s ≡ status.Done) ⊎ (s ≡ status.SinkFault) → IsRun c plan recorded s trace_before trace out_before out → Ran c plan recorded s trace_before trace out_before out
by_status c plan recorded s trace_before trace out_before out (inl is) run =
    subst (λ (s : Status). Ran c plan recorded s trace_before trace out_before out) (sym is)
    (subst (λ (s : Status). IsRun c plan recorded s trace_before trace out_before out) is run)
by_status c plan recorded s trace_before trace out_before out (inr is) run =
    subst (λ (s : Status). Ran c plan recorded s trace_before trace out_before out) (sym is)
    (subst (λ (s : Status). IsRun c plan recorded s trace_before trace out_before out) is run)

pub ran : (c : Codecs) (plan : SitePlan) (recorded : List Entry) (how : Ended) (entries : ℕ) (s : Status) (trace_before trace out_before out : SinkTold)
    → IsReplayed c plan recorded trace_before.taken trace.taken how entries → AreFaults trace_before.faults trace.faults how
    → Concludes how (min (entries + 1) 18446744073709551615) s out_before out → Ran c plan recorded s trace_before trace out_before out
ran c plan recorded how entries s trace_before trace out_before out r faults line =
    by_status c plan recorded s trace_before trace out_before out (concluded how _ s out_before out line)
    (record {
      how = how;
      entries = entries;
      replayed = r;
      faults = faults;
      line = subst (λ (lines : ℕ). Concludes how lines s out_before out) (lines_counted r.past entries r.count) line;
    })

-- of the files that were read
pub run_leaves : (c : Codecs) (tells : Type 0) (s : Status) (plan : SitePlan) (recorded : List Entry) (files : FilesTold) (trace_before trace out_before out : SinkTold)
    → AreFiles tells files plan recorded → Ran c plan recorded s trace_before trace out_before out → LeavesBy c tells s files trace_before trace out_before out
run_leaves c tells status.Done plan recorded files trace_before trace out_before out are run = record { plan = plan; recorded = recorded; files_are = are; run = run }
run_leaves c tells status.SinkFault plan recorded files trace_before trace out_before out are run = record { plan = plan; recorded = recorded; files_are = are; run = run }
run_leaves c tells status.NoMemory plan recorded files trace_before trace out_before out are run = run
run_leaves c tells _ plan recorded files trace_before trace out_before out are run = absurd run

pub run_read : (c : Codecs) (s : Status) (plan : SitePlan) (recorded : List Entry) (trace_before trace out_before out : SinkTold) (n m : ℕ) → m ≡ n
    → Ran c plan recorded s trace_before trace out_before out → (s ≡ status.SourceFault) ↔ (n < m)
run_read c s plan recorded trace_before trace out_before out n m same run =
    (λ is. absurd (subst (λ (s : Status). Ran c plan recorded s trace_before trace out_before out) is run), λ less. absurd (omega (arith, same, less)))

-- ---- files that are refused

no_key : (fault : PlanFault) (key : List ℕ) → key_of fault ≡ Some key → fault ≡ plan_fault.Memory → ⊥
no_key fault key is memory =
    let none : None ≡ Some key = ap key_of (sym memory) ∙ is in cc

plan_leaves : (c : Codecs) (tells : Type 0) (fault : PlanFault) (key : Option (List ℕ)) (s : Status) (files : FilesTold) (trace out_before out : SinkTold)
    → key_of fault ≡ key → HasFault tells files (Plan fault) → RefusesPlan key s out_before out → LeavesBy c tells s files trace trace out_before out
plan_leaves c tells fault None s files trace out_before out is has h =
    subst (λ (s : Status). LeavesBy c tells s files trace trace out_before out) (sym h.0) (refl, h.1)
plan_leaves c tells fault (Some key) s files trace out_before out is (inl memory) h = absurd (no_key fault key is memory)
plan_leaves c tells fault (Some key) s files trace out_before out is (inr first) h =
    subst (λ (s : Status). LeavesBy c tells s files trace trace out_before out) (sym h.0)
    (refl, record { fault = fault; key = key; first = first; key_is = is; line = h.1 })

pub refused_leaves : (c : Codecs) (tells : Type 0) (fault : FilesFault) (s : Status) (files : FilesTold) (trace out_before out : SinkTold)
    → HasFault tells files fault → Refuses fault s out_before out → LeavesBy c tells s files trace trace out_before out
refused_leaves c tells Unread s files trace out_before out has h =
    subst (λ (s : Status). LeavesBy c tells s files trace trace out_before out) (sym h.0) (refl, h.1)
refused_leaves c tells (Plan fault) s files trace out_before out has h =
    plan_leaves c tells fault (key_of fault) s files trace out_before out refl has h
refused_leaves c tells (Line number) s files trace out_before out has h =
    subst (λ (s : Status). LeavesBy c tells s files trace trace out_before out) (sym h.0)
    (refl, record { number = number; refused = has; line = h.1 })
refused_leaves c tells Memory s files trace out_before out has h =
    subst (λ (s : Status). LeavesBy c tells s files trace trace out_before out) (sym h.0) (refl, h.1)

-- a status that isn't `SourceFault`, where no count rose
abbrev pub IsOther : Status → Type 0
IsOther status.SourceFault = ⊥
IsOther _ = Unit {0}

other : (s : Status) (n m : ℕ) → IsOther s → (n < m → ⊥) → (s ≡ status.SourceFault) ↔ (n < m)
other s n m is same = (λ unread. absurd (subst IsOther unread is), λ less. absurd (same less))

other_plan : (key : Option (List ℕ)) (s : Status) (before after : SinkTold) → RefusesPlan key s before after → IsOther s
other_plan None s before after h = subst IsOther (sym h.0) tt
other_plan (Some key) s before after h = subst IsOther (sym h.0) tt

read_plan : (fault : PlanFault) → Plan fault ≡ Unread → ⊥
read_plan fault is = cc

read_line : (number : ℕ) → Line number ≡ Unread → ⊥
read_line number is = cc

read_all : Memory ≡ Unread → ⊥
read_all is = cc

pub refused_read : (fault : FilesFault) (s : Status) (before after : SinkTold) (n m : ℕ) → CountsFault Unread n m fault → Refuses fault s before after
    → (s ≡ status.SourceFault) ↔ (n < m)
refused_read Unread s before after n m counts h = (λ is. counts.risen.0 refl, λ less. h.0)
refused_read (Plan fault) s before after n m counts h =
    other s n m (other_plan (key_of fault) s before after h) (λ less. read_plan fault (counts.risen.1 less))
refused_read (Line number) s before after n m counts h = other s n m (subst IsOther (sym h.0) tt) (λ less. read_line number (counts.risen.1 less))
refused_read Memory s before after n m counts h = other s n m (subst IsOther (sym h.0) tt) (λ less. read_all (counts.risen.1 less))
