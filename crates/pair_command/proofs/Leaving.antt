-- What the command leaves, by how it went.
use Rattle.std.proofs.Common.{◌≡◌, inl, inr, ◌↔◌, ℕ, ◌<◌, List, Option, Some, None, refl, sym, ap, ◌∙◌, subst, arith}
use Rattle.std.specs.Prelude.{IsSomeAnd}
use Rattle.session_words.specs.declared.plan.CarPlan.{CarPlan}
use Rattle.session_words.specs.declared.plan.SitePlan.{SitePlan}
use Rattle.plan_keys.specs.declared.fault.PlanFault.{PlanFault}
use Rattle.plan_keys.specs.declared.fault.PlanFault.TheVariants as plan_fault
use Rattle.plan_files.specs.FileTexts.{CountsFault}
use Rattle.plan_files.specs.declared.plans.PlanFileFault.{PlanFileFault}
use Rattle.plan_files.specs.declared.plans.PlanFileFault.TheVariants.{Unread, Refused}
use Rattle.post_spec.specs.Codecs.{Codecs}
use Rattle.car_spec.specs.Codecs as car
use Rattle.command_status.specs.declared.status.Status.{Status}
use Rattle.command_status.specs.declared.status.Status.TheVariants as status
use Rattle.command_status.specs.Told.{SinkTold, Writes, WritesFront, PrintsAs}
use Rattle.charging_files.specs.FileLines.{key_of, IsRefusedBy, Refuses, RefusesBy}
use Rattle.pair_command.specs.Files.{PlansTold, ArePlans, HasFault, IsCarFault, IsRefusedAt}
use Rattle.pair_command.specs.Talking.{IsToldLine}
use Rattle.pair_command.specs.Printing.{Printed}
use Rattle.pair_command.specs.Leaving.{LeavesBy, TalkLeaves}
use Rattle.pair_command.proofs.Decided.{AreLawful, decided}

-- the line was printed
pub printed : (IsLine : List ℕ → Type 0) (line : List ℕ) (s : Status) (before after : SinkTold) → IsLine line → PrintsAs status.Done line s before after → Printed IsLine s before after
printed IsLine line s before after is (inl h) = subst (λ (s : Status). Printed IsLine s before after) (sym h.0) (record { line = line; is = is; printed = h.1 })
printed IsLine line s before after is (inr h) = subst (λ (s : Status). Printed IsLine s before after) (sym h.0) (record { line = line; is = is; printed = h.1 })

-- a status that isn't `SourceFault`, where no count rose
abbrev IsOther : Status → Type 0
IsOther status.SourceFault = ⊥
IsOther _ = Unit {0}

other : (s : Status) (n m : ℕ) → IsOther s → (n < m → ⊥) → (s ≡ status.SourceFault) ↔ (n < m)
other s n m is same = (λ unread. absurd (subst IsOther unread is), λ less. absurd (same less))

left : (c : Codecs) (cc : car.Codecs) → AreLawful c cc → (tells : Type 0) (seed : ℕ) (s : Status) (files : PlansTold) (before after : SinkTold)
    → LeavesBy c cc tells seed s files before after → (s ≡ status.SourceFault) ↔ (files.n < files.m) → TalkLeaves c cc tells seed s files before after
left c cc lawful tells seed s files before after h unread =
    record { leaves = h; unread = unread; decided = decided c cc lawful tells seed s files before after h unread }

-- ---- files that were read

talk_leaves : (c : Codecs) (cc : car.Codecs) (tells : Type 0) (seed : ℕ) (s : Status) (site : SitePlan) (plan : CarPlan) (files : PlansTold) (before after : SinkTold)
    → ArePlans tells files site plan → Printed (IsToldLine c cc site plan seed) s before after → LeavesBy c cc tells seed s files before after
talk_leaves c cc tells seed status.Done site plan files before after are h = record { site = site; plan = plan; plans_are = are; talked = h }
talk_leaves c cc tells seed status.SinkFault site plan files before after are h = record { site = site; plan = plan; plans_are = are; talked = h }
talk_leaves c cc tells seed status.NoMemory site plan files before after are h = h
talk_leaves c cc tells seed _ site plan files before after are h = absurd h

pub has_talked : (c : Codecs) (cc : car.Codecs) → AreLawful c cc → (tells : Type 0) (seed : ℕ) (s : Status) (site : SitePlan) (plan : CarPlan) (files : PlansTold) (before after : SinkTold)
    → ArePlans tells files site plan → files.m ≡ files.n → Printed (IsToldLine c cc site plan seed) s before after → TalkLeaves c cc tells seed s files before after
has_talked c cc lawful tells seed s site plan files before after are same h =
    left c cc lawful tells seed s files before after (talk_leaves c cc tells seed s site plan files before after are h)
    (λ is. absurd (subst (λ (s : Status). Printed (IsToldLine c cc site plan seed) s before after) is h), λ less. absurd (omega (arith, same, less)))

-- ---- files that are refused

no_key : (fault : PlanFault) (key : List ℕ) → key_of fault ≡ Some key → fault ≡ plan_fault.Memory → ⊥
no_key fault key is memory =
    let none : None ≡ Some key = ap key_of (sym memory) ∙ is in cc

refused_by : (first : List ℕ → Option PlanFault) (fault : PlanFault) (key text : List ℕ) → key_of fault ≡ Some key → first text ≡ Some fault → IsRefusedBy first text key
refused_by first fault key text is told = record { fault = fault; first_is = told; key_is = is }

some_weaker : (text : Option (List ℕ)) (P Q : List ℕ → Type 0) → ((t : List ℕ) → P t → Q t) → IsSomeAnd text P → IsSomeAnd text Q
some_weaker None P Q f h = absurd h
some_weaker (Some t) P Q f h = f t h

car_refused : (tells : Type 0) (files : PlansTold) (fault : PlanFault) (key : List ℕ) → key_of fault ≡ Some key → IsCarFault tells files fault → tells → IsRefusedAt files key
car_refused tells files fault key is h t =
    inr (record { site = h.site; site_is = h.site_is t; refused = some_weaker files.car _ _ (λ text x. refused_by _ fault key text is x) (h.first t) })

plan_leaves : (c : Codecs) (cc : car.Codecs) (tells : Type 0) (seed : ℕ) (fault : PlanFault) (key : Option (List ℕ)) (s : Status) (files : PlansTold) (before after : SinkTold)
    → key_of fault ≡ key → HasFault tells files (Refused fault) → RefusesBy key s before after → LeavesBy c cc tells seed s files before after
plan_leaves c cc tells seed fault None s files before after is has h = subst (λ (s : Status). LeavesBy c cc tells seed s files before after) (sym h.0) (h.1, h.2)
plan_leaves c cc tells seed fault (Some key) s files before after is (inl memory) h = absurd (no_key fault key is memory)
plan_leaves c cc tells seed fault (Some key) s files before after is (inr (inl first)) h =
    subst (λ (s : Status). LeavesBy c cc tells seed s files before after) (sym h.0)
    (record { key = key; refused = λ t. inl (some_weaker files.station _ _ (λ text x. refused_by _ fault key text is x) (first t)); line = h.1 })
plan_leaves c cc tells seed fault (Some key) s files before after is (inr (inr second)) h =
    subst (λ (s : Status). LeavesBy c cc tells seed s files before after) (sym h.0) (record { key = key; refused = car_refused tells files fault key is second; line = h.1 })

refused_leaves : (c : Codecs) (cc : car.Codecs) (tells : Type 0) (seed : ℕ) (fault : PlanFileFault) (s : Status) (files : PlansTold) (before after : SinkTold) → HasFault tells files fault
    → Refuses fault s before after → LeavesBy c cc tells seed s files before after
refused_leaves c cc tells seed Unread s files before after has h = subst (λ (s : Status). LeavesBy c cc tells seed s files before after) (sym h.0) h.1
refused_leaves c cc tells seed (Refused fault) s files before after has h = plan_leaves c cc tells seed fault (key_of fault) s files before after refl has h

other_plan : (key : Option (List ℕ)) (s : Status) (before after : SinkTold) → RefusesBy key s before after → IsOther s
other_plan None s before after h = subst IsOther (sym h.0) tt
other_plan (Some key) s before after h = subst IsOther (sym h.0) tt

read_plan : (fault : PlanFault) → Refused fault ≡ Unread → ⊥
read_plan fault is = cc

refused_read : (fault : PlanFileFault) (s : Status) (before after : SinkTold) (n m : ℕ) → CountsFault Unread n m fault → Refuses fault s before after
    → (s ≡ status.SourceFault) ↔ (n < m)
refused_read Unread s before after n m counts h = (λ is. counts.risen.0 refl, λ less. h.0)
refused_read (Refused fault) s before after n m counts h = other s n m (other_plan (key_of fault) s before after h) (λ less. read_plan fault (counts.risen.1 less))

pub was_refused : (c : Codecs) (cc : car.Codecs) → AreLawful c cc → (tells : Type 0) (seed : ℕ) (fault : PlanFileFault) (s : Status) (files : PlansTold) (before after : SinkTold)
    → HasFault tells files fault → CountsFault Unread files.n files.m fault → Refuses fault s before after → TalkLeaves c cc tells seed s files before after
was_refused c cc lawful tells seed fault s files before after has counts h =
    left c cc lawful tells seed s files before after (refused_leaves c cc tells seed fault s files before after has h) (refused_read fault s before after files.n files.m counts h)

-- memory ran out before anything was read
pub no_memory : (c : Codecs) (cc : car.Codecs) (tells : Type 0) (seed : ℕ) (files : PlansTold) (before after : SinkTold) → files.m ≡ files.n
    → (after.taken ≡ before.taken) × (after.faults ≡ before.faults) → TalkLeaves c cc tells seed status.NoMemory files before after
no_memory c cc tells seed files before after same h = record {
  leaves = h;
  unread = other status.NoMemory files.n files.m tt (λ less. omega (arith, same, less));
  decided = λ t read. record { plan = λ key first. inr refl; talked = λ site plan line are printed is. inr refl };
}

-- ---- what each of them says

pub unprinted : (c : Codecs) (cc : car.Codecs) (tells : Type 0) (seed : ℕ) (s : Status) (files : PlansTold) (before after : SinkTold) → TalkLeaves c cc tells seed s files before after
    → s ≡ status.NoMemory → (after.taken ≡ before.taken) × (after.faults ≡ before.faults)
unprinted c cc tells seed s files before after h is = subst (λ (s : Status). LeavesBy c cc tells seed s files before after) is h.leaves

pub sink_failed : (c : Codecs) (cc : car.Codecs) (tells : Type 0) (seed : ℕ) (s : Status) (files : PlansTold) (before after : SinkTold) → TalkLeaves c cc tells seed s files before after
    → s ≡ status.SinkFault → before.faults < after.faults
sink_failed c cc tells seed s files before after h is =
    let was = subst (λ (s : Status). LeavesBy c cc tells seed s files before after) is h.leaves in
    was.talked.printed.0
