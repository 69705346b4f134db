-- What the texts of the files decide.
use Rattle.std.proofs.Common.{◌≡◌, inl, inr, ◌↔◌, ℕ, ◌<◌, List, Option, Some, None, refl, sym, ap, ◌∙◌, subst, arith}
use Rattle.std.specs.Prelude.{IsSomeAnd}
use Rattle.session_words.specs.declared.plan.CarPlan.{CarPlan}
use Rattle.session_words.specs.declared.plan.SitePlan.{SitePlan}
use Rattle.plan_keys.specs.declared.fault.PlanFault.{PlanFault}
use Rattle.plan_keys.specs.Faults.{told}
use Rattle.site_plan.specs.Plans.{IsCarPlanOf, IsSitePlanOf, car_fault, car_told, site_told}
use Rattle.post_spec.specs.Codecs.{Codecs}
use Rattle.post_spec.specs.Spelled.{AreDetermined}
use Rattle.car_spec.specs.Codecs as car
use Rattle.car_spec.specs.Spelled as car_spelled
use Rattle.pair_plans.specs.Lines.{talk_line}
use Rattle.pair_talk.specs.Counts.{exchanges, car_cause_number}
use Rattle.pipe_spec.specs.Histories.{Happening}
use Rattle.pipe_laws.proofs.Sessions.{pipe_runs_are_determined}
use Rattle.command_status.specs.declared.status.Status.{Status}
use Rattle.command_status.specs.declared.status.Status.TheVariants as status
use Rattle.command_status.specs.FaultLines.{plan_line}
use Rattle.command_status.specs.Told.{SinkTold, TellsLine, Writes}
use Rattle.charging_files.specs.FileLines.{key_of, IsRefusedBy}
use Rattle.planned_traces.specs.Files.{ComesWith}
use Rattle.planned_traces.proofs.Texts.{both_of, planned, never}
use Rattle.planned_traces.proofs.OnePlan.{one_plan}
use Rattle.pair_command.specs.Files.{PlansTold, ArePlans, ArePlanTexts, IsRefusedAt}
use Rattle.pair_command.specs.Talking.{IsTalkLine}
use Rattle.pair_command.specs.Leaving.{LeavesBy, IsDecided}
use Rattle.pair_command.proofs.OneCar.{one_car}

-- ---- texts

no_fault : (fault : PlanFault) → None ≡ Some fault → ⊥
no_fault fault h = cc

same_some : {X : Type 0} (a b : X) → Some a ≡ Some b → a ≡ b
same_some a b h = cc

-- a plan isn't refused
no_site : (key text : List ℕ) (site : SitePlan) → IsSitePlanOf text site → IsRefusedBy site_told text key → ⊥
no_site key text site is r = planned r.fault site text is r.first_is

no_car : (key text : List ℕ) (plan : CarPlan) → IsCarPlanOf text plan → IsRefusedBy car_told text key → ⊥
no_car key text plan is r = no_fault r.fault (sym is.2 ∙ sym (ap (told car_fault) is.1) ∙ r.first_is)

same_key : (first : List ℕ → Option PlanFault) (a b text : List ℕ) → IsRefusedBy first text a → IsRefusedBy first text b → a ≡ b
same_key first a b text r s = same_some a b (sym r.key_is ∙ ap key_of (same_some r.fault s.fault (sym r.first_is ∙ s.first_is)) ∙ s.key_is)

texts_of : (tells : Type 0) (files : PlansTold) (site : SitePlan) (plan : CarPlan) → tells → ArePlans tells files site plan → ArePlanTexts files site plan
texts_of tells files site plan t are = record { site_is = are.site_is t; plan_is = are.plan_is t }

plans_or_refused : (files : PlansTold) (site : SitePlan) (plan : CarPlan) (key : List ℕ) → ArePlanTexts files site plan → IsRefusedAt files key → ⊥
plans_or_refused files site plan key are (inl first) = both_of files.station _ _ ⊥ (λ text x y. no_site key text site x y) are.site_is first
plans_or_refused files site plan key are (inr h) = both_of files.car _ _ ⊥ (λ text x y. no_car key text plan x y) are.plan_is h.refused

one_key : (files : PlansTold) (a b : List ℕ) → IsRefusedAt files a → IsRefusedAt files b → a ≡ b
one_key files a b (inl h) (inl k) = both_of files.station _ _ (a ≡ b) (λ text x y. same_key site_told a b text x y) h k
one_key files a b (inl h) (inr k) = absurd (both_of files.station _ _ ⊥ (λ text x y. no_site a text k.site y x) h k.site_is)
one_key files a b (inr h) (inl k) = absurd (both_of files.station _ _ ⊥ (λ text x y. no_site b text h.site x y) h.site_is k)
one_key files a b (inr h) (inr k) = both_of files.car _ _ (a ≡ b) (λ text x y. same_key car_told a b text x y) h.refused k.refused

one_site : (files : PlansTold) (p q : SitePlan) → IsSomeAnd files.station (λ text. IsSitePlanOf text p) → IsSomeAnd files.station (λ text. IsSitePlanOf text q) → p ≡ q
one_site files p q a b = both_of files.station _ _ (p ≡ q) (λ text x y. one_plan text p q x y) a b

one_plan_of_car : (files : PlansTold) (p q : CarPlan) → IsSomeAnd files.car (λ text. IsCarPlanOf text p) → IsSomeAnd files.car (λ text. IsCarPlanOf text q) → p ≡ q
one_plan_of_car files p q a b = both_of files.car _ _ (p ≡ q) (λ text x y. one_car text p q x y) a b

-- ---- lines

-- codecs by which one run of the pipe is determined
pub record AreLawful (c : Codecs) (cc : car.Codecs) : Type 0 where
  pub of_station : AreDetermined c
  pub of_car : car_spelled.AreDetermined cc

one_line : (c : Codecs) (cc : car.Codecs) → AreLawful c cc → (site : SitePlan) (plan : CarPlan) (seed : ℕ) (a b : List ℕ) → IsTalkLine c cc site plan seed a
    → IsTalkLine c cc site plan seed b → a ≡ b
one_line c cc lawful site plan seed a b x y =
    let runs : x.history ≡ y.history = pipe_runs_are_determined c cc lawful.of_station lawful.of_car site plan seed x.history y.history x.run y.run in
    x.line_is ∙ ap (λ (h : List Happening). talk_line (exchanges h) (car_cause_number h)) runs ∙ sym y.line_is

-- the line of some plans is that of the others that the files are
line_too : (c : Codecs) (cc : car.Codecs) (files : PlansTold) (p q : SitePlan) (a b : CarPlan) (seed : ℕ) (line : List ℕ) → ArePlanTexts files p a → ArePlanTexts files q b
    → IsTalkLine c cc p a seed line → IsTalkLine c cc q b seed line
line_too c cc files p q a b seed line x y h =
    subst (λ (site : SitePlan). IsTalkLine c cc site b seed line) (one_site files p q x.site_is y.site_is)
    (subst (λ (plan : CarPlan). IsTalkLine c cc p plan seed line) (one_plan_of_car files a b x.plan_is y.plan_is) h)

-- ---- the decisions, by the status

plan_told : (c : Codecs) (cc : car.Codecs) (tells : Type 0) (seed : ℕ) (s : Status) (files : PlansTold) (before after : SinkTold) → tells → LeavesBy c cc tells seed s files before after
    → (s ≡ status.SourceFault → ⊥) → (key : List ℕ) → IsRefusedAt files key → ComesWith status.Plan (TellsLine (plan_line key) before after) s
plan_told c cc tells seed status.Done files before after t h read key first =
    absurd (plans_or_refused files h.site h.plan key (texts_of tells files h.site h.plan t h.plans_are) first)
plan_told c cc tells seed status.SinkFault files before after t h read key first =
    absurd (plans_or_refused files h.site h.plan key (texts_of tells files h.site h.plan t h.plans_are) first)
plan_told c cc tells seed status.Plan files before after t h read key first =
    inl (refl, subst (λ (k : List ℕ). TellsLine (plan_line k) before after) (one_key files h.key key (h.refused t) first) h.line)
plan_told c cc tells seed status.SourceFault files before after t h read key first = absurd (read refl)
plan_told c cc tells seed status.NoMemory files before after t h read key first = inr refl
plan_told c cc tells seed _ files before after t h read key first = absurd h

talk_told : (c : Codecs) (cc : car.Codecs) → AreLawful c cc → (tells : Type 0) (seed : ℕ) (s : Status) (files : PlansTold) (before after : SinkTold) → tells
    → LeavesBy c cc tells seed s files before after → (s ≡ status.SourceFault → ⊥) → (site : SitePlan) (plan : CarPlan) (line : List ℕ) → ArePlanTexts files site plan
    → after.faults ≡ before.faults → IsTalkLine c cc site plan seed line → ComesWith status.Done (Writes line before after) s
talk_told c cc lawful tells seed status.Done files before after t h read site plan line are printed is =
    let own = line_too c cc files h.site site h.plan plan seed h.talked.line (texts_of tells files h.site h.plan t h.plans_are) are h.talked.is.talk in
    inl (refl, subst (λ (l : List ℕ). Writes l before after) (one_line c cc lawful site plan seed h.talked.line line own is) h.talked.printed)
talk_told c cc lawful tells seed status.SinkFault files before after t h read site plan line are printed is =
    absurd (never before.faults after.faults printed h.talked.printed.0)
talk_told c cc lawful tells seed status.Plan files before after t h read site plan line are printed is =
    absurd (plans_or_refused files site plan h.key are (h.refused t))
talk_told c cc lawful tells seed status.SourceFault files before after t h read site plan line are printed is = absurd (read refl)
talk_told c cc lawful tells seed status.NoMemory files before after t h read site plan line are printed is = inr refl
talk_told c cc lawful tells seed _ files before after t h read site plan line are printed is = absurd h

pub decided : (c : Codecs) (cc : car.Codecs) → AreLawful c cc → (tells : Type 0) (seed : ℕ) (s : Status) (files : PlansTold) (before after : SinkTold)
    → LeavesBy c cc tells seed s files before after → (s ≡ status.SourceFault) ↔ (files.n < files.m) → tells → files.m ≡ files.n → IsDecided c cc seed s files before after
decided c cc lawful tells seed s files before after h unread t same =
    let read : s ≡ status.SourceFault → ⊥ = λ is. omega (arith, unread.0 is, same) in
    record { plan = plan_told c cc tells seed s files before after t h read; talked = talk_told c cc lawful tells seed s files before after t h read }
