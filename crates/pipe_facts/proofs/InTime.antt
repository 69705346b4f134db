-- What is to come of a charger comes in time: in the first session, by the four places that a car's coming sets.
use Rattle.std.proofs.Common.{◌≡◌, ℕ, zero, suc, ◌+◌, ◌<◌, ◌≤◌, Bool, true, false, List, [], ◌∷◌, ◌++◌, Option, Some, None, is_some, refl, ap, sym, subst, ◌∙◌, ◌⊎◌, inl, inr, arith}
use Rattle.std.specs.List.{AllByRecursion}
use Rattle.std.specs.Prelude.{slice_get, slice_set}
use Rattle.charge_world.specs.declared.heard.IsolationLevel.TheVariants as isolation
use Rattle.charge_world.specs.declared.heard.PilotState.TheVariants as pilot
use Rattle.charge_world.specs.declared.heard.PlantEvent.{PlantEvent}
use Rattle.charge_world.specs.declared.heard.PlantEvent.TheVariants as plant
use Rattle.session_words.specs.declared.facts.Facts.{Facts}
use Rattle.session_words.specs.declared.plan.CarPlan.{CarPlan}
use Rattle.plant_sim.specs.Charger.{Charger, moved, events, idle, came, IsFirst, Comes, NoneReached}
use Rattle.post_spec.specs.Codecs.{Codecs}
use Rattle.post_spec.specs.Steps.{Act, Give, Send, Answer, End}
use Rattle.station_spec.specs.Hearing.{charger_facts}
use Rattle.car_spec.specs.Codecs as car
use Rattle.pipe_spec.specs.Histories.{Happening, CarComes, ChargerTells, StationHears, CarHears, TimePasses, StationDoes, CarReads, CarDoes, CarGoes, NumberIsDrawn, moment, station_ended_by, station_cause, station_has_ended}
use Rattle.pipe_spec.specs.Chargers.{behind_act, IsCharger}
use Rattle.pipe_spec.specs.Turns.{Station, station_state, Follows}
use Rattle.pipe_spec.specs.Runs.{IsRun, IsWithin}
use Rattle.pipe_laws.specs.PipePasts as first
use Rattle.pipe_laws.proofs.Once.{charger_once}
use Rattle.pipe_facts.specs.InTime.{is_told, CarIsReady, PaysInTime, IsValidInTime}
use Rattle.pipe_facts.proofs.Moments.{other_place, same_place, ordered_elsewhere}
use Rattle.pipe_facts.proofs.Facts.{PaidBehind, StayBehind, acts_stay}

false_true : false ≡ true → ⊥
false_true e = cc

some_event : (a b : PlantEvent) → Some a ≡ Some b → a ≡ b
some_event a b e = cc

none_event : (e : PlantEvent) → None ≡ Some e → ⊥
none_event e h = cc

-- an event is to come, at a moment that wasn't reached in the newest turn
record ToCome (s : Charger) (k m : ℕ) (told : Bool) (now : ℕ) : Type 0 where
  at : slice_get s.moments k ≡ Some (Some m)
  late : told ≡ true → now < m

record Known (s : Charger) (f : Facts) (free ended told : Bool) (now : ℕ) : Type 0 where
  ready : ToCome s 0 0 told now ⊎ (f.pilot ≡ pilot.C)
  first : (slice_get s.moments 1 ≡ Some (Some 0)) ⊎ (slice_get s.moments 1 ≡ Some None)
  paid : (free ≡ true) ⊎ ((ended ≡ true) ⊎ (ToCome s 2 100 told now ⊎ (f.paid ≡ true)))
  valid : ToCome s 3 300 told now ⊎ ((f.isolation ≡ Some isolation.Valid) × (slice_get s.moments 1 ≡ Some None))

-- ---- the charger tells something

-- another place is left
kept : (old after : Charger) (p k m now : ℕ) (told : Bool) → after.moments ≡ slice_set old.moments p None → (p ≡ k → ⊥) → ToCome old k m told now → ToCome after k m false now
kept old after p k m now told e n t = record {
  at = ap (λ (ms : List (Option ℕ)). slice_get ms k) e ∙ other_place old.moments p k None n ∙ t.at;
  late = λ i. absurd (false_true i);
}

elsewhere : (old after : Charger) (p k : ℕ) (v : Option ℕ) → after.moments ≡ slice_set old.moments p None → (p ≡ k → ⊥) → slice_get old.moments k ≡ Some v → slice_get after.moments k ≡ Some v
elsewhere old after p k v e n h = ap (λ (ms : List (Option ℕ)). slice_get ms k) e ∙ other_place old.moments p k None n ∙ h

ready_kept : (old after : Charger) (p now : ℕ) (f g : Facts) (told : Bool) → after.moments ≡ slice_set old.moments p None → (p ≡ 0 → ⊥) → g.pilot ≡ f.pilot → ToCome old 0 0 told now ⊎ (f.pilot ≡ pilot.C)
    → ToCome after 0 0 false now ⊎ (g.pilot ≡ pilot.C)
ready_kept old after p now f g told e n same (inl t) = inl (kept old after p 0 0 now told e n t)
ready_kept old after p now f g told e n same (inr h) = inr (same ∙ h)

first_kept : (old after : Charger) (p : ℕ) → after.moments ≡ slice_set old.moments p None → (p ≡ 1 → ⊥) → (slice_get old.moments 1 ≡ Some (Some 0)) ⊎ (slice_get old.moments 1 ≡ Some None)
    → (slice_get after.moments 1 ≡ Some (Some 0)) ⊎ (slice_get after.moments 1 ≡ Some None)
first_kept old after p e n (inl h) = inl (elsewhere old after p 1 (Some 0) e n h)
first_kept old after p e n (inr h) = inr (elsewhere old after p 1 None e n h)

paid_kept : (old after : Charger) (p now : ℕ) (f g : Facts) (free ended told : Bool) → after.moments ≡ slice_set old.moments p None → (p ≡ 2 → ⊥) → g.paid ≡ f.paid
    → (free ≡ true) ⊎ ((ended ≡ true) ⊎ (ToCome old 2 100 told now ⊎ (f.paid ≡ true))) → (free ≡ true) ⊎ ((ended ≡ true) ⊎ (ToCome after 2 100 false now ⊎ (g.paid ≡ true)))
paid_kept old after p now f g free ended told e n same (inl h) = inl h
paid_kept old after p now f g free ended told e n same (inr (inl h)) = inr (inl h)
paid_kept old after p now f g free ended told e n same (inr (inr (inl t))) = inr (inr (inl (kept old after p 2 100 now told e n t)))
paid_kept old after p now f g free ended told e n same (inr (inr (inr h))) = inr (inr (inr (same ∙ h)))

valid_kept : (old after : Charger) (p now : ℕ) (f g : Facts) (told : Bool) → after.moments ≡ slice_set old.moments p None → (p ≡ 3 → ⊥) → (p ≡ 1 → ⊥) → g.isolation ≡ f.isolation
    → ToCome old 3 300 told now ⊎ ((f.isolation ≡ Some isolation.Valid) × (slice_get old.moments 1 ≡ Some None))
    → ToCome after 3 300 false now ⊎ ((g.isolation ≡ Some isolation.Valid) × (slice_get after.moments 1 ≡ Some None))
valid_kept old after p now f g told e n o same (inl t) = inl (kept old after p 3 300 now told e n t)
valid_kept old after p now f g told e n o same (inr h) = inr (same ∙ h.0, elsewhere old after p 1 None e o h.1)

too_late : (place m : ℕ) → place ≡ 3 → (m < 0) ⊎ ((m ≡ 0) × (place ≤ 1)) → ⊥
too_late place m e (inl l) = omega (arith, l)
too_late place m e (inr l) = let p = l.1 in omega (arith, p, e)

-- the isolation that is still measured comes before the valid one
gone_first : (ms : List (Option ℕ)) (place m : ℕ) → place ≡ 3 → IsFirst ms place m → (slice_get ms 1 ≡ Some (Some 0)) ⊎ (slice_get ms 1 ≡ Some None) → slice_get ms 1 ≡ Some None
gone_first ms place m e i (inr h) = h
gone_first ms place m e i (inl h) = absurd (too_late place m e (i.first 1 0 h))

-- once it was told, the isolation that is measured isn't to come
some_none : (a b : Option ℕ) (m : ℕ) → a ≡ Some m → b ≡ None → Some a ≡ Some b → ⊥
some_none a b m x y e = cc

valid_measured : (old after : Charger) (place m now : ℕ) (f g : Facts) (told : Bool) → place ≡ 1 → IsFirst old.moments place m → after.moments ≡ slice_set old.moments place None
    → ToCome old 3 300 told now ⊎ ((f.isolation ≡ Some isolation.Valid) × (slice_get old.moments 1 ≡ Some None))
    → ToCome after 3 300 false now ⊎ ((g.isolation ≡ Some isolation.Valid) × (slice_get after.moments 1 ≡ Some None))
valid_measured old after place m now f g told e i moments (inl t) = inl (kept old after place 3 300 now told moments (λ x. omega (arith, x, e)) t)
valid_measured old after place m now f g told e i moments (inr h) =
    absurd (some_none (Some m) None m refl refl (sym i.to_come ∙ ap (λ (n : ℕ). slice_get old.moments n) e ∙ h.1))

gone_here : (old after : Charger) (place k m : ℕ) → place ≡ k → after.moments ≡ slice_set old.moments place None → slice_get old.moments place ≡ Some (Some m) → slice_get after.moments k ≡ Some None
gone_here old after place k m e moments h =
    ap (λ (n : ℕ). slice_get after.moments n) (sym e) ∙ ap (λ (ms : List (Option ℕ)). slice_get ms place) moments ∙ same_place old.moments place None (Some m) h

-- the events of the other places change nothing of this
record Quiet (f g : Facts) : Type 0 where
  pilot : g.pilot ≡ f.pilot
  isolation : g.isolation ≡ f.isolation
  paid : g.paid ≡ f.paid

quiet_event : (n v i : ℕ) (e : PlantEvent) (f : Facts) → slice_get (events v i) (suc (suc (suc (suc n)))) ≡ Some e → Quiet f (charger_facts e f)
quiet_event zero v i e f h = subst (λ (x : PlantEvent). Quiet f (charger_facts x f)) (some_event (plant.Measured v i) e h) (record { pilot = refl; isolation = refl; paid = refl })
quiet_event (suc zero) v i e f h = subst (λ (x : PlantEvent). Quiet f (charger_facts x f)) (some_event (plant.Feedback true) e h) (record { pilot = refl; isolation = refl; paid = refl })
quiet_event (suc (suc zero)) v i e f h = subst (λ (x : PlantEvent). Quiet f (charger_facts x f)) (some_event (plant.Feedback false) e h) (record { pilot = refl; isolation = refl; paid = refl })
quiet_event (suc (suc (suc zero))) v i e f h = subst (λ (x : PlantEvent). Quiet f (charger_facts x f)) (some_event (plant.Measured 0 0) e h) (record { pilot = refl; isolation = refl; paid = refl })
quiet_event (suc (suc (suc (suc n)))) v i e f h = absurd (none_event e h)

not_here : (place p k : ℕ) → place ≡ p → (p < k) ⊎ (k < p) → place ≡ k → ⊥
not_here place p k e (inl l) i = omega (arith, e, l, i)
not_here place p k e (inr l) i = omega (arith, e, l, i)

tells_by : (p : ℕ) (old after : Charger) (now : ℕ) (event : PlantEvent) (f : Facts) (free ended told : Bool) (x : Comes old now event after) → x.place ≡ p → after.moments ≡ slice_set old.moments x.place None
    → slice_get (events (moved old) x.event.0) p ≡ Some event → Known old f free ended told now → Known after (charger_facts event f) free ended false now
tells_by zero old after now event f free ended told x e moments here k =
    subst (λ (v : PlantEvent). Known after (charger_facts v f) free ended false now) (some_event (plant.Pilot pilot.C) event here) (record {
      ready = inr refl;
      first = first_kept old after x.place moments (not_here x.place 0 1 e (inl (omega arith))) k.first;
      paid = paid_kept old after x.place now f (charger_facts (plant.Pilot pilot.C) f) free ended told moments (not_here x.place 0 2 e (inl (omega arith))) refl k.paid;
      valid = valid_kept old after x.place now f (charger_facts (plant.Pilot pilot.C) f) told moments (not_here x.place 0 3 e (inl (omega arith))) (not_here x.place 0 1 e (inl (omega arith))) refl k.valid;
    })
tells_by (suc zero) old after now event f free ended told x e moments here k =
    subst (λ (v : PlantEvent). Known after (charger_facts v f) free ended false now) (some_event (plant.Isolation isolation.Invalid) event here) (record {
      ready = ready_kept old after x.place now f (charger_facts (plant.Isolation isolation.Invalid) f) told moments (not_here x.place 1 0 e (inr (omega arith))) refl k.ready;
      first = inr (gone_here old after x.place 1 x.moment e moments (let i = x.first in i.to_come));
      paid = paid_kept old after x.place now f (charger_facts (plant.Isolation isolation.Invalid) f) free ended told moments (not_here x.place 1 2 e (inl (omega arith))) refl k.paid;
      valid = valid_measured old after x.place x.moment now f (charger_facts (plant.Isolation isolation.Invalid) f) told e x.first moments k.valid;
    })
tells_by (suc (suc zero)) old after now event f free ended told x e moments here k =
    subst (λ (v : PlantEvent). Known after (charger_facts v f) free ended false now) (some_event plant.Paid event here) (record {
      ready = ready_kept old after x.place now f (charger_facts plant.Paid f) told moments (not_here x.place 2 0 e (inr (omega arith))) refl k.ready;
      first = first_kept old after x.place moments (not_here x.place 2 1 e (inr (omega arith))) k.first;
      paid = inr (inr (inr refl));
      valid = valid_kept old after x.place now f (charger_facts plant.Paid f) told moments (not_here x.place 2 3 e (inl (omega arith))) (not_here x.place 2 1 e (inr (omega arith))) refl k.valid;
    })
tells_by (suc (suc (suc zero))) old after now event f free ended told x e moments here k =
    subst (λ (v : PlantEvent). Known after (charger_facts v f) free ended false now) (some_event (plant.Isolation isolation.Valid) event here) (record {
      ready = ready_kept old after x.place now f (charger_facts (plant.Isolation isolation.Valid) f) told moments (not_here x.place 3 0 e (inr (omega arith))) refl k.ready;
      first = first_kept old after x.place moments (not_here x.place 3 1 e (inr (omega arith))) k.first;
      paid = paid_kept old after x.place now f (charger_facts (plant.Isolation isolation.Valid) f) free ended told moments (not_here x.place 3 2 e (inr (omega arith))) refl k.paid;
      valid = inr (refl, elsewhere old after x.place 1 None moments (not_here x.place 3 1 e (inr (omega arith))) (gone_first old.moments x.place x.moment e x.first k.first));
    })
tells_by (suc (suc (suc (suc n)))) old after now event f free ended told x e moments here k =
    let q : Quiet f (charger_facts event f) = quiet_event n (moved old) x.event.0 event f here in
    record {
      ready = ready_kept old after x.place now f (charger_facts event f) told moments (not_here x.place (suc (suc (suc (suc n)))) 0 e (inr (omega arith))) q.pilot k.ready;
      first = first_kept old after x.place moments (not_here x.place (suc (suc (suc (suc n)))) 1 e (inr (omega arith))) k.first;
      paid = paid_kept old after x.place now f (charger_facts event f) free ended told moments (not_here x.place (suc (suc (suc (suc n)))) 2 e (inr (omega arith))) q.paid k.paid;
      valid = valid_kept old after x.place now f (charger_facts event f) told moments (not_here x.place (suc (suc (suc (suc n)))) 3 e (inr (omega arith)))
          (not_here x.place (suc (suc (suc (suc n)))) 1 e (inr (omega arith))) q.isolation k.valid;
    }

tells : (old after : Charger) (now : ℕ) (event : PlantEvent) (f : Facts) (free ended told : Bool) → Comes old now event after → Known old f free ended told now → Known after (charger_facts event f) free ended false now
tells old after now event f free ended told x k = tells_by x.place old after now event f free ended told x refl (ap (λ (s : Charger). s.moments) x.after) x.event.2 k

-- ---- bytes are heard, time passes

heard_out : (s : Charger) (k m now : ℕ) (told : Bool) → NoneReached s.moments now → ToCome s k m told now → ToCome s k m true now
heard_out s k m now told n t = record { at = t.at; late = λ e. n k m t.at }

hears_ready : (s : Charger) (f : Facts) (told : Bool) (now : ℕ) → NoneReached s.moments now → ToCome s 0 0 told now ⊎ (f.pilot ≡ pilot.C) → ToCome s 0 0 true now ⊎ (f.pilot ≡ pilot.C)
hears_ready s f told now n (inl t) = inl (heard_out s 0 0 now told n t)
hears_ready s f told now n (inr h) = inr h

hears_paid : (s : Charger) (f : Facts) (free ended told : Bool) (now : ℕ) → NoneReached s.moments now → (free ≡ true) ⊎ ((ended ≡ true) ⊎ (ToCome s 2 100 told now ⊎ (f.paid ≡ true)))
    → (free ≡ true) ⊎ ((ended ≡ true) ⊎ (ToCome s 2 100 true now ⊎ (f.paid ≡ true)))
hears_paid s f free ended told now n (inl h) = inl h
hears_paid s f free ended told now n (inr (inl h)) = inr (inl h)
hears_paid s f free ended told now n (inr (inr (inl t))) = inr (inr (inl (heard_out s 2 100 now told n t)))
hears_paid s f free ended told now n (inr (inr (inr h))) = inr (inr (inr h))

hears_valid : (s : Charger) (f : Facts) (told : Bool) (now : ℕ) → NoneReached s.moments now
    → ToCome s 3 300 told now ⊎ ((f.isolation ≡ Some isolation.Valid) × (slice_get s.moments 1 ≡ Some None))
    → ToCome s 3 300 true now ⊎ ((f.isolation ≡ Some isolation.Valid) × (slice_get s.moments 1 ≡ Some None))
hears_valid s f told now n (inl t) = inl (heard_out s 3 300 now told n t)
hears_valid s f told now n (inr h) = inr h

hears : (s : Charger) (f : Facts) (free ended told : Bool) (now : ℕ) → NoneReached s.moments now → Known s f free ended told now → Known s f free ended true now
hears s f free ended told now n k = record {
  ready = hears_ready s f told now n k.ready;
  first = k.first;
  paid = hears_paid s f free ended told now n k.paid;
  valid = hears_valid s f told now n k.valid;
}

-- an event is to come, whatever the moment is
still : (s t : Charger) (k m now then : ℕ) (told : Bool) → slice_get t.moments k ≡ slice_get s.moments k → ToCome s k m told now → ToCome t k m false then
still s t k m now then told e c = record { at = e ∙ c.at; late = λ i. absurd (false_true i) }

passes_ready : (s : Charger) (f : Facts) (told : Bool) (now then : ℕ) → ToCome s 0 0 told now ⊎ (f.pilot ≡ pilot.C) → ToCome s 0 0 false then ⊎ (f.pilot ≡ pilot.C)
passes_ready s f told now then (inl t) = inl (still s s 0 0 now then told refl t)
passes_ready s f told now then (inr h) = inr h

passes_paid : (s : Charger) (f : Facts) (free ended told : Bool) (now then : ℕ) → (free ≡ true) ⊎ ((ended ≡ true) ⊎ (ToCome s 2 100 told now ⊎ (f.paid ≡ true)))
    → (free ≡ true) ⊎ ((ended ≡ true) ⊎ (ToCome s 2 100 false then ⊎ (f.paid ≡ true)))
passes_paid s f free ended told now then (inl h) = inl h
passes_paid s f free ended told now then (inr (inl h)) = inr (inl h)
passes_paid s f free ended told now then (inr (inr (inl t))) = inr (inr (inl (still s s 2 100 now then told refl t)))
passes_paid s f free ended told now then (inr (inr (inr h))) = inr (inr (inr h))

passes_valid : (s : Charger) (f : Facts) (told : Bool) (now then : ℕ) → ToCome s 3 300 told now ⊎ ((f.isolation ≡ Some isolation.Valid) × (slice_get s.moments 1 ≡ Some None))
    → ToCome s 3 300 false then ⊎ ((f.isolation ≡ Some isolation.Valid) × (slice_get s.moments 1 ≡ Some None))
passes_valid s f told now then (inl t) = inl (still s s 3 300 now then told refl t)
passes_valid s f told now then (inr h) = inr h

passes : (s : Charger) (f : Facts) (free ended told : Bool) (now then : ℕ) → Known s f free ended told now → Known s f free ended false then
passes s f free ended told now then k = record {
  ready = passes_ready s f told now then k.ready;
  first = k.first;
  paid = passes_paid s f free ended told now then k.paid;
  valid = passes_valid s f told now then k.valid;
}

-- ---- the station does something

-- it leaves the first four places
leaves : (act : Act) (h : List Happening) (before after : Charger) (k : ℕ) → k < 4 → after ≡ behind_act act h before → slice_get after.moments k ≡ slice_get before.moments k
leaves (Give order) h before after k l e = ap (λ (s : Charger). slice_get s.moments k) e ∙ ordered_elsewhere before order (moment h) k l
leaves (Send bytes) h before after k l e = ap (λ (s : Charger). slice_get s.moments k) e
leaves (Answer bytes) h before after k l e = ap (λ (s : Charger). slice_get s.moments k) e
leaves (End cause) h before after k l e = ap (λ (s : Charger). slice_get s.moments k) e

left_to_come : (before after : Charger) (k m now : ℕ) (told : Bool) → slice_get after.moments k ≡ slice_get before.moments k → ToCome before k m told now → ToCome after k m told now
left_to_come before after k m now told e t = record { at = e ∙ t.at; late = t.late }

does_ready : (before after : Charger) (f g : Facts) (told : Bool) (now : ℕ) → slice_get after.moments 0 ≡ slice_get before.moments 0 → g.pilot ≡ f.pilot → ToCome before 0 0 told now ⊎ (f.pilot ≡ pilot.C)
    → ToCome after 0 0 told now ⊎ (g.pilot ≡ pilot.C)
does_ready before after f g told now e same (inl t) = inl (left_to_come before after 0 0 now told e t)
does_ready before after f g told now e same (inr h) = inr (same ∙ h)

does_first : (before after : Charger) → slice_get after.moments 1 ≡ slice_get before.moments 1 → (slice_get before.moments 1 ≡ Some (Some 0)) ⊎ (slice_get before.moments 1 ≡ Some None)
    → (slice_get after.moments 1 ≡ Some (Some 0)) ⊎ (slice_get after.moments 1 ≡ Some None)
does_first before after e (inl h) = inl (e ∙ h)
does_first before after e (inr h) = inr (e ∙ h)

goes_on_paid : (before after : Charger) (f g : Facts) (free ended told : Bool) (now : ℕ) → slice_get after.moments 2 ≡ slice_get before.moments 2 → g.paid ≡ f.paid
    → (free ≡ true) ⊎ ((ended ≡ true) ⊎ (ToCome before 2 100 told now ⊎ (f.paid ≡ true))) → (free ≡ true) ⊎ ((ended ≡ true) ⊎ (ToCome after 2 100 told now ⊎ (g.paid ≡ true)))
goes_on_paid before after f g free ended told now e same (inl h) = inl h
goes_on_paid before after f g free ended told now e same (inr (inl h)) = inr (inl h)
goes_on_paid before after f g free ended told now e same (inr (inr (inl t))) = inr (inr (inl (left_to_come before after 2 100 now told e t)))
goes_on_paid before after f g free ended told now e same (inr (inr (inr h))) = inr (inr (inr (same ∙ h)))

does_paid : (act : Act) (before after : Charger) (f g : Facts) (free : Bool) (cause : Option ℕ) (told : Bool) (now : ℕ) → slice_get after.moments 2 ≡ slice_get before.moments 2 → PaidBehind act f.paid g.paid
    → (free ≡ true) ⊎ ((is_some cause ≡ true) ⊎ (ToCome before 2 100 told now ⊎ (f.paid ≡ true)))
    → (free ≡ true) ⊎ ((is_some (station_ended_by act cause) ≡ true) ⊎ (ToCome after 2 100 told now ⊎ (g.paid ≡ true)))
does_paid (End number) before after f g free cause told now e same k = inr (inl refl)
does_paid (Give order) before after f g free cause told now e same k = goes_on_paid before after f g free (is_some cause) told now e same k
does_paid (Send bytes) before after f g free cause told now e same k = goes_on_paid before after f g free (is_some cause) told now e same k
does_paid (Answer bytes) before after f g free cause told now e same k = goes_on_paid before after f g free (is_some cause) told now e same k

does_valid : (before after : Charger) (f g : Facts) (told : Bool) (now : ℕ) → slice_get after.moments 3 ≡ slice_get before.moments 3 → slice_get after.moments 1 ≡ slice_get before.moments 1
    → g.isolation ≡ f.isolation → ToCome before 3 300 told now ⊎ ((f.isolation ≡ Some isolation.Valid) × (slice_get before.moments 1 ≡ Some None))
    → ToCome after 3 300 told now ⊎ ((g.isolation ≡ Some isolation.Valid) × (slice_get after.moments 1 ≡ Some None))
does_valid before after f g told now e i same (inl t) = inl (left_to_come before after 3 300 now told e t)
does_valid before after f g told now e i same (inr h) = inr (same ∙ h.0, i ∙ h.1)

does : (act : Act) (h : List Happening) (before after : Charger) (f g : Facts) (free : Bool) (cause : Option ℕ) (told : Bool) (now : ℕ) → after ≡ behind_act act h before → StayBehind act f g
    → Known before f free (is_some cause) told now → Known after g free (is_some (station_ended_by act cause)) told now
does act h before after f g free cause told now e s k = record {
  ready = does_ready before after f g told now (leaves act h before after 0 (omega arith) e) s.pilot k.ready;
  first = does_first before after (leaves act h before after 1 (omega arith) e) k.first;
  paid = does_paid act before after f g free cause told now (leaves act h before after 2 (omega arith) e) s.paid k.paid;
  valid = does_valid before after f g told now (leaves act h before after 3 (omega arith) e) (leaves act h before after 1 (omega arith) e) s.isolation k.valid;
}

-- ---- all that may happen in the first session

Knows : Station → List Happening → Type 0
Knows st h = (s : Charger) → IsCharger st.post.free h s → Known s (station_state st h).facts st.post.free (station_has_ended h) (is_told h) (moment h)

base_known : (free : Bool) (f : Facts) → Known (came (idle free) 0) f free false false 0
base_known true f = record {
  ready = inl (record { at = refl; late = λ e. absurd (false_true e) });
  first = inl refl;
  paid = inl refl;
  valid = inl (record { at = refl; late = λ e. absurd (false_true e) });
}
base_known false f = record {
  ready = inl (record { at = refl; late = λ e. absurd (false_true e) });
  first = inl refl;
  paid = inr (inr (inl (record { at = refl; late = λ e. absurd (false_true e) })));
  valid = inl (record { at = refl; late = λ e. absurd (false_true e) });
}

base : (st : Station) (plan : CarPlan) → Knows st (CarComes plan ∷ [])
unfolding Knows
base st plan s x =
    let e : s ≡ came (idle st.post.free) 0 = x.2 ∙ ap (λ (z : Charger). came z 0) x.1 in
    subst (λ (z : Charger). Known z (station_state st (CarComes plan ∷ [])).facts st.post.free false false 0) (sym e) (base_known st.post.free (station_state st (CarComes plan ∷ [])).facts)

step : (c : Codecs) (cs : car.Codecs) (st : Station) (h : List Happening) (e : Happening) → IsWithin e → Follows c cs st h e → Knows st h → Knows st (e ∷ h)
unfolding Knows
step c cs st h (ChargerTells event) w f k s x =
    tells x.0 s (moment h) event (station_state st h).facts st.post.free (station_has_ended h) (is_told h) x.2 (k x.0 x.1)
step c cs st h (StationHears bytes) w f k s x =
    let t = f.turn in
    let same : f.charger ≡ s = charger_once st.post.free h f.charger s f.charger_is x in
    hears s (station_state st h).facts st.post.free (station_has_ended h) (is_told h) (moment h) (subst (λ (z : Charger). NoneReached z.moments (moment h)) same t.0) (k s x)
step c cs st h (CarHears bytes) w f k s x =
    let t = f.turn in
    let same : f.charger ≡ s = charger_once st.post.free h f.charger s f.charger_is x in
    hears s (station_state st h).facts st.post.free (station_has_ended h) (is_told h) (moment h) (subst (λ (z : Charger). NoneReached z.moments (moment h)) same t.0) (k s x)
step c cs st h TimePasses w f k s x = passes s (station_state st h).facts st.post.free (station_has_ended h) (is_told h) (moment h) (moment h + 10) (k s x)
step c cs st h (StationDoes reading act) w f k s x =
    does act h x.0 s (station_state st h).facts (station_state st (StationDoes reading act ∷ h)).facts st.post.free (station_cause h) (is_told h) (moment h) x.2
    (acts_stay st.post reading act (station_state st h)) (k x.0 x.1)
step c cs st h (CarReads v) w f k s x = k s x
step c cs st h (CarDoes act) w f k s x = k s x
step c cs st h (CarComes plan) w f k s x = absurd (false_true w)
step c cs st h CarGoes w f k s x = absurd (false_true w)
step c cs st h NumberIsDrawn w f k s x = absurd (false_true w)

knows_in : (c : Codecs) (cs : car.Codecs) (st : Station) (plan : CarPlan) (session : List Happening) → AllByRecursion IsWithin session → IsRun c cs st (session ++ CarComes plan ∷ [])
    → Knows st (session ++ CarComes plan ∷ [])
knows_in c cs st plan [] w r = base st plan
knows_in c cs st plan (e ∷ session) w r = step c cs st (session ++ CarComes plan ∷ []) e w.0 r.1 (knows_in c cs st plan session w.1 r.0)

knows : (c : Codecs) (cs : car.Codecs) (st : Station) (plan : CarPlan) (h : List Happening) → first.IsFirst c cs st plan h → Knows st h
knows c cs st plan h f =
    subst (Knows st) (sym f.h_is) (knows_in c cs st plan f.session f.within (subst (IsRun c cs st) f.h_is f.run))

-- there is a charger
charger_of : (c : Codecs) (cs : car.Codecs) (st : Station) (h : List Happening) → IsRun c cs st h → (s : Charger) × IsCharger st.post.free h s
charger_of c cs st [] r = (idle st.post.free, refl)
charger_of c cs st (CarComes plan ∷ h) r = let b = charger_of c cs st h r.0 in (came b.0 (moment h), (b.0, b.1, refl))
charger_of c cs st (ChargerTells event ∷ h) r = let f = r.1 in let t = f.turn in (t.0, (f.charger, f.charger_is, t.1))
charger_of c cs st (StationDoes reading act ∷ h) r = let b = charger_of c cs st h r.0 in (behind_act act h b.0, (b.0, b.1, refl))
charger_of c cs st (StationHears bytes ∷ h) r = charger_of c cs st h r.0
charger_of c cs st (CarHears bytes ∷ h) r = charger_of c cs st h r.0
charger_of c cs st (TimePasses ∷ h) r = charger_of c cs st h r.0
charger_of c cs st (CarReads v ∷ h) r = charger_of c cs st h r.0
charger_of c cs st (CarDoes act ∷ h) r = charger_of c cs st h r.0
charger_of c cs st (CarGoes ∷ h) r = charger_of c cs st h r.0
charger_of c cs st (NumberIsDrawn ∷ h) r = charger_of c cs st h r.0

-- ---- so in time

is_ready : (s : Charger) (f : Facts) (told : Bool) (now : ℕ) → told ≡ true → ToCome s 0 0 told now ⊎ (f.pilot ≡ pilot.C) → f.pilot ≡ pilot.C
is_ready s f told now e (inl t) = let l : now < 0 = t.late e in absurd (omega (arith, l))
is_ready s f told now e (inr h) = h

pub car_is_ready : (c : Codecs) (cs : car.Codecs) → CarIsReady c cs
unfolding Knows
car_is_ready c cs st plan h f told =
    let b = charger_of c cs st h f.run in
    let k : Known b.0 (station_state st h).facts st.post.free (station_has_ended h) (is_told h) (moment h) = knows c cs st plan h f b.0 b.1 in
    is_ready b.0 (station_state st h).facts (is_told h) (moment h) told k.ready

is_paid : (s : Charger) (f : Facts) (free ended told : Bool) (now : ℕ) → told ≡ true → ended ≡ false → 100 ≤ now → (free ≡ true) ⊎ ((ended ≡ true) ⊎ (ToCome s 2 100 told now ⊎ (f.paid ≡ true)))
    → (free ≡ true) ⊎ (f.paid ≡ true)
is_paid s f free ended told now e n l (inl h) = inl h
is_paid s f free ended told now e n l (inr (inl h)) = absurd (false_true (sym n ∙ h))
is_paid s f free ended told now e n l (inr (inr (inl t))) = let late : now < 100 = t.late e in absurd (omega (arith, late, l))
is_paid s f free ended told now e n l (inr (inr (inr h))) = inr h

pub pays_in_time : (c : Codecs) (cs : car.Codecs) → PaysInTime c cs
unfolding Knows
pays_in_time c cs st plan h f told lives late =
    let b = charger_of c cs st h f.run in
    let k : Known b.0 (station_state st h).facts st.post.free (station_has_ended h) (is_told h) (moment h) = knows c cs st plan h f b.0 b.1 in
    is_paid b.0 (station_state st h).facts st.post.free (station_has_ended h) (is_told h) (moment h) told lives late k.paid

is_valid : (s : Charger) (f : Facts) (told : Bool) (now : ℕ) → told ≡ true → 300 ≤ now → ToCome s 3 300 told now ⊎ ((f.isolation ≡ Some isolation.Valid) × (slice_get s.moments 1 ≡ Some None))
    → f.isolation ≡ Some isolation.Valid
is_valid s f told now e l (inl t) = let late : now < 300 = t.late e in absurd (omega (arith, late, l))
is_valid s f told now e l (inr h) = h.0

pub is_valid_in_time : (c : Codecs) (cs : car.Codecs) → IsValidInTime c cs
unfolding Knows
is_valid_in_time c cs st plan h f told late =
    let b = charger_of c cs st h f.run in
    let k : Known b.0 (station_state st h).facts st.post.free (station_has_ended h) (is_told h) (moment h) = knows c cs st plan h f b.0 b.1 in
    is_valid b.0 (station_state st h).facts (is_told h) (moment h) told late k.valid
