-- What a charger is to tell of a contactor, as it tells something and as it is ordered something.
use Rattle.std.proofs.Common.{◌≡◌, ℕ, zero, suc, ◌<◌, ◌≤◌, true, false, List, Option, Some, None, refl, ap, sym, subst, ◌∙◌, arith}
use Rattle.std.specs.Prelude.{slice_get, slice_set}
use Rattle.charge_world.specs.declared.heard.IsolationLevel.TheVariants as isolation
use Rattle.charge_world.specs.declared.heard.PilotState.TheVariants as pilot
use Rattle.charge_world.specs.declared.heard.PlantEvent.{PlantEvent}
use Rattle.charge_world.specs.declared.heard.PlantEvent.TheVariants as plant
use Rattle.charge_world.specs.declared.ports.Order.TheVariants as order
use Rattle.session_words.specs.declared.facts.Facts.{Facts}
use Rattle.session_words.specs.declared.phase.Standing.{Standing}
use Rattle.session_words.specs.declared.phase.Standing.TheVariants as standing
use Rattle.contactor.specs.Calls.{standing_heard}
use Rattle.plant_sim.specs.Charger.{Charger, later, ordered, moved, events, IsFirst, Comes}
use Rattle.post_spec.specs.Steps.{Act, Give, Send, Answer, End}
use Rattle.station_spec.specs.Hearing.{charger_facts}
use Rattle.pipe_spec.specs.Chargers.{behind_act}
use Rattle.pipe_spec.specs.Histories.{Happening, moment}
use Rattle.pipe_facts.specs.Calm.{LeavesContactorBy}
use Rattle.pipe_facts.proofs.Moments.{other_place, same_place, apart}
use Rattle.matched_pairs.specs.Contactors.{IsLinked}

some_event : (a b : PlantEvent) → Some a ≡ Some b → a ≡ b
some_event a b e = cc

none_event : (e : PlantEvent) → None ≡ Some e → ⊥
none_event e h = cc

pub linked_same : (now : Standing) (a b c d : Option (Option ℕ)) → c ≡ a → d ≡ b → IsLinked now a b → IsLinked now c d
linked_same now a b c d e f k = subst (λ (x : Option (Option ℕ)). IsLinked now c x) (sym f) (subst (λ (x : Option (Option ℕ)). IsLinked now x b) (sym e) k)

-- ---- the charger tells something

abbrev pub heard : Standing → PlantEvent → Standing
heard now (plant.Feedback closed) = standing_heard now closed
heard now (plant.Pilot state) = now
heard now (plant.Isolation level) = now
heard now (plant.Measured voltage current) = now
heard now plant.Paid = now
heard now plant.Emergency = now
heard now plant.StopAsked = now
heard now plant.RenewAsked = now

pub contactor_heard : (event : PlantEvent) (f : Facts) → (charger_facts event f).contactor ≡ heard f.contactor event
contactor_heard (plant.Feedback closed) f = refl
contactor_heard (plant.Pilot state) f = refl
contactor_heard (plant.Isolation level) f = refl
contactor_heard (plant.Measured voltage current) f = refl
contactor_heard plant.Paid f = refl
contactor_heard plant.Emergency f = refl
contactor_heard plant.StopAsked f = refl
contactor_heard plant.RenewAsked f = refl

not_due : (o : Option (Option ℕ)) (m : ℕ) → o ≡ Some (Some m) → o ≡ Some None → ⊥
not_due o m e f = cc

-- feedback of closed
closed_heard : (now : Standing) (before after opened opened_after : Option (Option ℕ)) (m : ℕ) → before ≡ Some (Some m) → after ≡ Some None → opened_after ≡ opened → IsLinked now before opened
    → IsLinked (standing_heard now true) after opened_after
closed_heard standing.Closing before after opened opened_after m e f g k = (f, g ∙ k)
closed_heard standing.Opened before after opened opened_after m e f g k = absurd (not_due before m e k.0)
closed_heard standing.Closed before after opened opened_after m e f g k = absurd (not_due before m e k.0)
closed_heard standing.Opening before after opened opened_after m e f g k = absurd (not_due before m e k)
closed_heard standing.MustOpen before after opened opened_after m e f g k = absurd k

-- feedback of open
opened_heard : (now : Standing) (closed closed_after before after : Option (Option ℕ)) (m : ℕ) → before ≡ Some (Some m) → after ≡ Some None → closed_after ≡ closed → IsLinked now closed before
    → IsLinked (standing_heard now false) closed_after after
opened_heard standing.Opening closed closed_after before after m e f g k = (g ∙ k, f)
opened_heard standing.Opened closed closed_after before after m e f g k = absurd (not_due before m e k.1)
opened_heard standing.Closed closed closed_after before after m e f g k = absurd (not_due before m e k.1)
opened_heard standing.Closing closed closed_after before after m e f g k = absurd (not_due before m e k)
opened_heard standing.MustOpen closed closed_after before after m e f g k = absurd k

elsewhere : (old after : Charger) (p k : ℕ) → after.moments ≡ slice_set old.moments p None → (p ≡ k → ⊥) → slice_get after.moments k ≡ slice_get old.moments k
elsewhere old after p k e n = ap (λ (ms : List (Option ℕ)). slice_get ms k) e ∙ other_place old.moments p k None n

here : (old after : Charger) (p k m : ℕ) → p ≡ k → after.moments ≡ slice_set old.moments p None → slice_get old.moments p ≡ Some (Some m) → slice_get after.moments k ≡ Some None
here old after p k m e moments h =
    ap (λ (n : ℕ). slice_get after.moments n) (sym e) ∙ ap (λ (ms : List (Option ℕ)). slice_get ms p) moments ∙ same_place old.moments p None (Some m) h

not_five : (p n : ℕ) → p ≡ n → n < 5 → p ≡ 5 → ⊥
not_five p n e l f = omega (arith, e, l, f)

not_six : (p n : ℕ) → p ≡ n → n < 6 → p ≡ 6 → ⊥
not_six p n e l f = omega (arith, e, l, f)

-- events of the other places
other_by : (old after : Charger) (p : ℕ) (own event : PlantEvent) (now : Standing) → Some own ≡ Some event → heard now own ≡ now → after.moments ≡ slice_set old.moments p None → (p ≡ 5 → ⊥) → (p ≡ 6 → ⊥)
    → IsLinked now (slice_get old.moments 5) (slice_get old.moments 6) → IsLinked (heard now event) (slice_get after.moments 5) (slice_get after.moments 6)
other_by old after p own event now e same moments five six k =
    subst (λ (x : PlantEvent). IsLinked (heard now x) (slice_get after.moments 5) (slice_get after.moments 6)) (some_event own event e)
    (subst (λ (x : Standing). IsLinked x (slice_get after.moments 5) (slice_get after.moments 6)) (sym same)
    (linked_same now (slice_get old.moments 5) (slice_get old.moments 6) (slice_get after.moments 5) (slice_get after.moments 6) (elsewhere old after p 5 moments five) (elsewhere old after p 6 moments six) k))

tells_by : (p place m v i : ℕ) (old after : Charger) (event : PlantEvent) (now : Standing) → place ≡ p → slice_get old.moments place ≡ Some (Some m) → after.moments ≡ slice_set old.moments place None
    → slice_get (events v i) p ≡ Some event → IsLinked now (slice_get old.moments 5) (slice_get old.moments 6) → IsLinked (heard now event) (slice_get after.moments 5) (slice_get after.moments 6)
tells_by zero place m v i old after event now e come moments at k =
    other_by old after place (plant.Pilot pilot.C) event now at refl moments (not_five place 0 e (omega arith)) (not_six place 0 e (omega arith)) k
tells_by (suc zero) place m v i old after event now e come moments at k =
    other_by old after place (plant.Isolation isolation.Invalid) event now at refl moments (not_five place 1 e (omega arith)) (not_six place 1 e (omega arith)) k
tells_by (suc (suc zero)) place m v i old after event now e come moments at k =
    other_by old after place plant.Paid event now at refl moments (not_five place 2 e (omega arith)) (not_six place 2 e (omega arith)) k
tells_by (suc (suc (suc zero))) place m v i old after event now e come moments at k =
    other_by old after place (plant.Isolation isolation.Valid) event now at refl moments (not_five place 3 e (omega arith)) (not_six place 3 e (omega arith)) k
tells_by (suc (suc (suc (suc zero)))) place m v i old after event now e come moments at k =
    other_by old after place (plant.Measured v i) event now at refl moments (not_five place 4 e (omega arith)) (not_six place 4 e (omega arith)) k
tells_by (suc (suc (suc (suc (suc zero))))) place m v i old after event now e come moments at k =
    subst (λ (x : PlantEvent). IsLinked (heard now x) (slice_get after.moments 5) (slice_get after.moments 6)) (some_event (plant.Feedback true) event at)
    (closed_heard now (slice_get old.moments 5) (slice_get after.moments 5) (slice_get old.moments 6) (slice_get after.moments 6) m (ap (λ (n : ℕ). slice_get old.moments n) (sym e) ∙ come)
    (here old after place 5 m e moments come) (elsewhere old after place 6 moments (not_six place 5 e (omega arith))) k)
tells_by (suc (suc (suc (suc (suc (suc zero)))))) place m v i old after event now e come moments at k =
    subst (λ (x : PlantEvent). IsLinked (heard now x) (slice_get after.moments 5) (slice_get after.moments 6)) (some_event (plant.Feedback false) event at)
    (opened_heard now (slice_get old.moments 5) (slice_get after.moments 5) (slice_get old.moments 6) (slice_get after.moments 6) m (ap (λ (n : ℕ). slice_get old.moments n) (sym e) ∙ come)
    (here old after place 6 m e moments come) (elsewhere old after place 5 moments (λ f. omega (arith, e, f))) k)
tells_by (suc (suc (suc (suc (suc (suc (suc zero))))))) place m v i old after event now e come moments at k =
    other_by old after place (plant.Measured 0 0) event now at refl moments (λ f. omega (arith, e, f)) (λ f. omega (arith, e, f)) k
tells_by (suc (suc (suc (suc (suc (suc (suc (suc n)))))))) place m v i old after event now e come moments at k = absurd (none_event event at)

pub tells : (old after : Charger) (at : ℕ) (event : PlantEvent) (now : Standing) → Comes old at event after → IsLinked now (slice_get old.moments 5) (slice_get old.moments 6)
    → IsLinked (heard now event) (slice_get after.moments 5) (slice_get after.moments 6)
tells old after at event now x k =
    let v = x.event in
    let f : IsFirst old.moments x.place x.moment = x.first in
    tells_by x.place x.place x.moment (moved old) v.0 old after event now refl f.to_come (ap (λ (c : Charger). c.moments) x.after) v.2 k

-- ---- the charger is ordered something

-- an order that isn't of the contactor leaves what is to come of it
pub left : (act : Act) (h : List Happening) (before after : Charger) (k : ℕ) → 5 ≤ k → LeavesContactorBy act → after ≡ behind_act act h before → slice_get after.moments k ≡ slice_get before.moments k
left (Give order.Open) h before after k l n e = absurd n
left (Give order.Close) h before after k l n e = absurd n
left (Give (order.Limits voltage current watts)) h before after k l n e =
    ap (λ (s : Charger). slice_get s.moments k) e ∙ other_place before.moments 4 k (later (moment h) 20) (apart 4 k (omega (arith, l)))
left (Send bytes) h before after k l n e = ap (λ (s : Charger). slice_get s.moments k) e
left (Answer bytes) h before after k l n e = ap (λ (s : Charger). slice_get s.moments k) e
left (End cause) h before after k l n e = ap (λ (s : Charger). slice_get s.moments k) e

pub closes : (before after : Charger) (at : ℕ) → after ≡ ordered before order.Close at → IsLinked standing.Opened (slice_get before.moments 5) (slice_get before.moments 6)
    → IsLinked standing.Closing (slice_get after.moments 5) (slice_get after.moments 6)
closes before after at e k = ap (λ (s : Charger). slice_get s.moments 6) e ∙ other_place before.moments 5 6 (later at 50) (apart 5 6 (omega arith)) ∙ k.1

pub nothing_closes : (now : Standing) (closed opened : Option (Option ℕ)) → (now ≡ standing.Closing → ⊥) → IsLinked now closed opened → closed ≡ Some None
nothing_closes standing.Opened closed opened n k = k.0
nothing_closes standing.Closed closed opened n k = k.0
nothing_closes standing.Opening closed opened n k = k
nothing_closes standing.Closing closed opened n k = absurd (n refl)
nothing_closes standing.MustOpen closed opened n k = absurd k

pub opens : (before after : Charger) (at : ℕ) (now : Standing) → after ≡ ordered before order.Open at → (now ≡ standing.Closing → ⊥) → IsLinked now (slice_get before.moments 5) (slice_get before.moments 6)
    → IsLinked standing.Opening (slice_get after.moments 5) (slice_get after.moments 6)
opens before after at now e n k =
    ap (λ (s : Charger). slice_get s.moments 5) e
    ∙ other_place (slice_set before.moments 6 (later at 50)) 7 5 (later at 50) (λ f. apart 5 7 (omega arith) (sym f))
    ∙ other_place before.moments 6 5 (later at 50) (λ f. apart 5 6 (omega arith) (sym f))
    ∙ nothing_closes now (slice_get before.moments 5) (slice_get before.moments 6) n k
