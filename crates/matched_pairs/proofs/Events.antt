-- No event of the charger but what it measures is a cause.
use Rattle.std.proofs.Common.{◌≡◌, ℕ, zero, suc, Bool, true, false, not, ◌&&◌, Option, Some, None, refl, ap, sym, subst, ◌∙◌, ◌⊎◌, inl, inr}
use Rattle.std.specs.Prelude.{slice_get}
use Rattle.charge_world.specs.declared.heard.IsolationLevel.TheVariants as isolation
use Rattle.charge_world.specs.declared.heard.PilotState.TheVariants as pilot
use Rattle.charge_world.specs.declared.heard.PlantEvent.{PlantEvent}
use Rattle.charge_world.specs.declared.heard.PlantEvent.TheVariants as plant
use Rattle.contactor.specs.Standing.{is_against}
use Rattle.session_words.specs.declared.cause.EndCause.TheVariants as cause
use Rattle.session_words.specs.declared.phase.Standing.{Standing}
use Rattle.session_words.specs.declared.phase.Standing.TheVariants as standing
use Rattle.session_words.specs.declared.plan.PostPlan.{PostPlan}
use Rattle.session_rules.specs.Causes.{cause_if, needs_isolation, plant_cause}
use Rattle.session_rules.specs.Finishing.{is_valid}
use Rattle.plant_sim.specs.Charger.{Charger, moved, events, IsFirst, Comes}
use Rattle.station_spec.specs.States.{Session, State, nothing}
use Rattle.station_spec.specs.Deciding.{repeating, watch}
use Rattle.matched_pairs.specs.Contactors.{IsLinked}
use Rattle.matched_pairs.specs.Limits.{IsWithin}

some_event : (a b : PlantEvent) → Some a ≡ Some b → a ≡ b
some_event a b e = cc

none_event : (e : PlantEvent) → None ≡ Some e → ⊥
none_event e h = cc

not_due : (o : Option (Option ℕ)) (m : ℕ) → o ≡ Some (Some m) → o ≡ Some None → ⊥
not_due o m e f = cc

-- no order failed
pub never_failed : (now : Standing) (closed opened : Option (Option ℕ)) → IsLinked now closed opened → repeating now ≡ nothing
never_failed standing.Opened closed opened k = refl
never_failed standing.Closing closed opened k = refl
never_failed standing.Closed closed opened k = refl
never_failed standing.Opening closed opened k = refl
never_failed standing.MustOpen closed opened k = absurd k

-- feedback isn't against the order
closed_suits : (now : Standing) (closed opened : Option (Option ℕ)) (m : ℕ) → closed ≡ Some (Some m) → IsLinked now closed opened → is_against now true ≡ false
closed_suits standing.Opened closed opened m e k = absurd (not_due closed m e k.0)
closed_suits standing.Closing closed opened m e k = refl
closed_suits standing.Closed closed opened m e k = refl
closed_suits standing.Opening closed opened m e k = refl
closed_suits standing.MustOpen closed opened m e k = refl

open_suits : (now : Standing) (closed opened : Option (Option ℕ)) (m : ℕ) → opened ≡ Some (Some m) → IsLinked now closed opened → is_against now false ≡ false
open_suits standing.Opened closed opened m e k = refl
open_suits standing.Closing closed opened m e k = refl
open_suits standing.Closed closed opened m e k = absurd (not_due opened m e k.1)
open_suits standing.Opening closed opened m e k = refl
open_suits standing.MustOpen closed opened m e k = refl

abbrev pub IsNone : PostPlan → Session → State → PlantEvent → Type 0
IsNone plan x s event = plant_cause (watch plan x s) event ≡ None

same_event : (plan : PostPlan) (x : Session) (s : State) (own event : PlantEvent) → Some own ≡ Some event → IsNone plan x s own → IsNone plan x s event
same_event plan x s own event e n = subst (λ (v : PlantEvent). IsNone plan x s v) (some_event own event e) n

valid_suits : (b : Bool) → cause_if (b && false) cause.IsolationLost ≡ None
valid_suits true = refl
valid_suits false = refl

-- that the isolation is invalid is told to a post whose row doesn't need it
invalid_suits : (plan : PostPlan) (x : Session) (s : State) (old : Charger) (place m : ℕ) → place ≡ 1 → slice_get old.moments place ≡ Some (Some m)
    → (slice_get old.moments 1 ≡ Some None) ⊎ (needs_isolation x.stage.row ≡ false) → IsNone plan x s (plant.Isolation isolation.Invalid)
invalid_suits plan x s old place m e come (inl n) = absurd (not_due (slice_get old.moments 1) m (ap (λ (k : ℕ). slice_get old.moments k) (sym e) ∙ come) n)
invalid_suits plan x s old place m e come (inr n) = ap (λ (b : Bool). cause_if (b && not (is_valid (Some isolation.Invalid))) cause.IsolationLost) n

measured_suits : (plan : PostPlan) (x : Session) (s : State) (v i : ℕ) (event : PlantEvent) → Some (plant.Measured v i) ≡ Some event → IsWithin plan (Some x) event s → IsNone plan x s event
measured_suits plan x s v i event e w =
    same_event plan x s (plant.Measured v i) event e (subst (λ (z : PlantEvent). IsWithin plan (Some x) z s) (sym (some_event (plant.Measured v i) event e)) w)

by_place : (p place m v i : ℕ) (old : Charger) (event : PlantEvent) (plan : PostPlan) (x : Session) (s : State) → place ≡ p → slice_get old.moments place ≡ Some (Some m) → slice_get (events v i) p ≡ Some event
    → (slice_get old.moments 1 ≡ Some None) ⊎ (needs_isolation x.stage.row ≡ false) → IsLinked s.stood (slice_get old.moments 5) (slice_get old.moments 6) → IsWithin plan (Some x) event s → IsNone plan x s event
by_place zero place m v i old event plan x s e come at first k w = same_event plan x s (plant.Pilot pilot.C) event at refl
by_place (suc zero) place m v i old event plan x s e come at first k w =
    same_event plan x s (plant.Isolation isolation.Invalid) event at (invalid_suits plan x s old place m e come first)
by_place (suc (suc zero)) place m v i old event plan x s e come at first k w = same_event plan x s plant.Paid event at refl
by_place (suc (suc (suc zero))) place m v i old event plan x s e come at first k w = same_event plan x s (plant.Isolation isolation.Valid) event at (valid_suits (needs_isolation x.stage.row))
by_place (suc (suc (suc (suc zero)))) place m v i old event plan x s e come at first k w = measured_suits plan x s v i event at w
by_place (suc (suc (suc (suc (suc zero))))) place m v i old event plan x s e come at first k w =
    same_event plan x s (plant.Feedback true) event at
    (ap (λ (b : Bool). cause_if b cause.FeedbackWrong) (closed_suits s.stood (slice_get old.moments 5) (slice_get old.moments 6) m (ap (λ (n : ℕ). slice_get old.moments n) (sym e) ∙ come) k))
by_place (suc (suc (suc (suc (suc (suc zero)))))) place m v i old event plan x s e come at first k w =
    same_event plan x s (plant.Feedback false) event at
    (ap (λ (b : Bool). cause_if b cause.FeedbackWrong) (open_suits s.stood (slice_get old.moments 5) (slice_get old.moments 6) m (ap (λ (n : ℕ). slice_get old.moments n) (sym e) ∙ come) k))
by_place (suc (suc (suc (suc (suc (suc (suc zero))))))) place m v i old event plan x s e come at first k w = measured_suits plan x s 0 0 event at w
by_place (suc (suc (suc (suc (suc (suc (suc (suc n)))))))) place m v i old event plan x s e come at first k w = absurd (none_event event at)

pub no_cause : (old after : Charger) (at : ℕ) (event : PlantEvent) (plan : PostPlan) (x : Session) (s : State) → Comes old at event after
    → (slice_get old.moments 1 ≡ Some None) ⊎ (needs_isolation x.stage.row ≡ false) → IsLinked s.stood (slice_get old.moments 5) (slice_get old.moments 6) → IsWithin plan (Some x) event s → IsNone plan x s event
no_cause old after at event plan x s c first k w =
    let v = c.event in
    let f : IsFirst old.moments c.place c.moment = c.first in
    by_place c.place c.place c.moment (moved old) v.0 old event plan x s refl f.to_come v.2 first k w
