-- No step takes too long, as far as the pre-charge doesn't: the early steps are done in time, and no other one has a deadline.
use Rattle.std.proofs.Common.{◌≡◌, ℕ, ◌+◌, ◌≤◌, List, [], ◌∷◌, Option, Some, None, refl, ap, sym, subst, ◌∙◌}
use Rattle.std.specs.List.{AllByRecursion}
use Rattle.session_words.specs.declared.plan.CarPlan.{CarPlan}
use Rattle.post_spec.specs.Codecs as post
use Rattle.post_spec.specs.Steps.{Event, Bytes, Clock}
use Rattle.car_rules.specs.declared.deadlines.CarDue.{CarDue}
use Rattle.car_rules.specs.declared.stage.CarPhase.{CarPhase}
use Rattle.car_rules.specs.declared.stage.CarPhase.TheVariants as phase
use Rattle.car_rules.specs.declared.stage.CarStage.{CarStage}
use Rattle.car_rules.specs.Deadlines.{step_due_in, step_due, hit}
use Rattle.car_spec.specs.Codecs as car
use Rattle.car_spec.specs.States as car_states
use Rattle.car_spec.specs.Hearing as car_hearing
use Rattle.pipe_spec.specs.Histories.{Happening, CarComes, ChargerTells, StationHears, CarHears, TimePasses, StationDoes, CarReads, CarDoes, CarGoes, NumberIsDrawn, moment, joined}
use Rattle.pipe_spec.specs.Turns.{Station, car_state}
use Rattle.pipe_spec.specs.Runs.{IsRun, IsWithin}
use Rattle.pipe_laws.specs.OneMessage.{IsShort}
use Rattle.pipe_laws.specs.PipePasts.{IsFirst}
use Rattle.matched_pairs.specs.Moves.{IsPair}
use Rattle.matched_pairs.specs.Steps.{step_deadline, IsStepInTime, KeepsSteps, AllKeepSteps}
use Rattle.matched_pairs.specs.Quick.{is_quick}
use Rattle.matched_pairs.proofs.Paces.{front}
use Rattle.matched_pairs.proofs.Quick.{quick_steps_are_kept}

-- the pre-charge doesn't take too long
abbrev pub PreChargesKeep : post.Codecs → car.Codecs → Station → CarPlan → Type 0
PreChargesKeep c cs st plan = (h : List Happening) (e : Happening) (session : car_states.Session) (stage : CarStage) → IsFirst c cs st plan (e ∷ h) → AllByRecursion (IsShort 65544) (e ∷ h) → AllKeepSteps (joined plan) h
    → (car_state (joined plan) h).session ≡ Some session → session.stage ≡ Some stage → stage.phase ≡ phase.PreCharging → KeepsSteps (joined plan) h e

-- ---- no deadline

-- a happening keeps the steps where each hearing does
keeps_by : (e : Happening) (plan : CarPlan) (h : List Happening) → ((event : Event) (at : ℕ) → car_hearing.session_heard event at None ≡ None → IsStepInTime (car_hearing.hearing at event (car_state plan h))) → KeepsSteps plan h e
keeps_by (CarHears bytes) plan h k = k (Bytes bytes) (moment h) refl
keeps_by TimePasses plan h k = k Clock (moment h + 10) refl
keeps_by (ChargerTells event) plan h k = tt
keeps_by (StationHears bytes) plan h k = tt
keeps_by (StationDoes reading act) plan h k = tt
keeps_by (CarReads w) plan h k = tt
keeps_by (CarDoes act) plan h k = tt
keeps_by (CarComes other) plan h k = tt
keeps_by CarGoes plan h k = tt
keeps_by NumberIsDrawn plan h k = tt

none_keeps : (e : Happening) (plan : CarPlan) (h : List Happening) → (car_state plan h).session ≡ None → KeepsSteps plan h e
none_keeps e plan h n = keeps_by e plan h
    (λ event at o. subst (λ (y : Option car_states.Session). hit (step_deadline (car_hearing.session_heard event at y) ∷ []) at ≡ None) (sym n)
    (subst (λ (y : Option car_states.Session). hit (step_deadline y ∷ []) at ≡ None) (sym o) refl))

-- a stage that has none
stage_keeps : (e : Happening) (plan : CarPlan) (h : List Happening) (y : car_states.Session) → (car_state plan h).session ≡ Some y → step_due y.stage y.moments.begun ≡ None → KeepsSteps plan h e
stage_keeps e plan h y is n = keeps_by e plan h
    (λ event at o. subst (λ (x : Option car_states.Session). hit (step_deadline (car_hearing.session_heard event at x) ∷ []) at ≡ None) (sym is) (ap (λ (d : Option CarDue). hit (d ∷ []) at) n))

-- ---- each step

phase_keeps : (ph : CarPhase) (c : post.Codecs) (cs : car.Codecs) (st : Station) (plan : CarPlan) (h : List Happening) (e : Happening) (y : car_states.Session) (stage : CarStage) → IsPair c cs st.post (joined plan) → 1 ≤ st.limit
    → IsFirst c cs st plan (e ∷ h) → AllByRecursion (IsShort 65544) (e ∷ h) → AllKeepSteps (joined plan) h → PreChargesKeep c cs st plan → (car_state (joined plan) h).session ≡ Some y → y.stage ≡ Some stage
    → stage.phase ≡ ph → KeepsSteps (joined plan) h e
phase_keeps phase.Authorizing c cs st plan h e y stage p some f l d pre is g i = quick_steps_are_kept c cs st plan h e y stage p some f l d is g (ap is_quick i)
phase_keeps phase.Asking c cs st plan h e y stage p some f l d pre is g i = quick_steps_are_kept c cs st plan h e y stage p some f l d is g (ap is_quick i)
phase_keeps phase.CableChecking c cs st plan h e y stage p some f l d pre is g i = quick_steps_are_kept c cs st plan h e y stage p some f l d is g (ap is_quick i)
phase_keeps phase.PreCharging c cs st plan h e y stage p some f l d pre is g i = pre h e y stage f l d is g i
phase_keeps other c cs st plan h e y stage p some f l d pre is g i =
    stage_keeps e (joined plan) h y is (ap (λ (o : Option CarStage). step_due o y.moments.begun) g ∙ ap (λ (q : CarPhase). step_due_in q y.moments.begun) i)

stage_of : (o : Option CarStage) (c : post.Codecs) (cs : car.Codecs) (st : Station) (plan : CarPlan) (h : List Happening) (e : Happening) (y : car_states.Session) → IsPair c cs st.post (joined plan) → 1 ≤ st.limit
    → IsFirst c cs st plan (e ∷ h) → AllByRecursion (IsShort 65544) (e ∷ h) → AllKeepSteps (joined plan) h → PreChargesKeep c cs st plan → (car_state (joined plan) h).session ≡ Some y → y.stage ≡ o → KeepsSteps (joined plan) h e
stage_of None c cs st plan h e y p some f l d pre is g = stage_keeps e (joined plan) h y is (ap (λ (o : Option CarStage). step_due o y.moments.begun) g)
stage_of (Some stage) c cs st plan h e y p some f l d pre is g = phase_keeps stage.phase c cs st plan h e y stage p some f l d pre is g refl

session_of : (o : Option car_states.Session) (c : post.Codecs) (cs : car.Codecs) (st : Station) (plan : CarPlan) (h : List Happening) (e : Happening) → IsPair c cs st.post (joined plan) → 1 ≤ st.limit
    → IsFirst c cs st plan (e ∷ h) → AllByRecursion (IsShort 65544) (e ∷ h) → AllKeepSteps (joined plan) h → PreChargesKeep c cs st plan → (car_state (joined plan) h).session ≡ o → KeepsSteps (joined plan) h e
session_of None c cs st plan h e p some f l d pre is = none_keeps e (joined plan) h is
session_of (Some y) c cs st plan h e p some f l d pre is = stage_of y.stage c cs st plan h e y p some f l d pre is refl

-- ---- all of them

all_in : (c : post.Codecs) (cs : car.Codecs) (st : Station) (plan : CarPlan) (session : List Happening) → IsPair c cs st.post (joined plan) → 1 ≤ st.limit → AllByRecursion IsWithin session → IsRun c cs st (front plan session)
    → AllByRecursion (IsShort 65544) (front plan session) → PreChargesKeep c cs st plan → AllKeepSteps (joined plan) (front plan session)
all_in c cs st plan [] p some w r l pre = (tt, tt)
all_in c cs st plan (e ∷ session) p some w r l pre =
    let before : AllKeepSteps (joined plan) (front plan session) = all_in c cs st plan session p some w.1 r.0 l.1 pre in (
      before,
      session_of (car_state (joined plan) (front plan session)).session c cs st plan (front plan session) e p some (record { session = e ∷ session; h_is = refl; within = w; run = r }) l before pre refl,
    )

pub all_steps_are_kept : (c : post.Codecs) (cs : car.Codecs) (st : Station) (plan : CarPlan) (h : List Happening) → IsPair c cs st.post (joined plan) → 1 ≤ st.limit → IsFirst c cs st plan h → AllByRecursion (IsShort 65544) h
    → PreChargesKeep c cs st plan → AllKeepSteps (joined plan) h
all_steps_are_kept c cs st plan h p some f l pre =
    subst (λ (x : List Happening). AllKeepSteps (joined plan) x) (sym f.h_is)
    (all_in c cs st plan f.session p some f.within (subst (λ (x : List Happening). IsRun c cs st x) f.h_is f.run) (subst (λ (x : List Happening). AllByRecursion (IsShort 65544) x) f.h_is l) pre)
