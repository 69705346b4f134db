-- All that a charger tells is calm, and what its station knows of it stays so.
use Rattle.std.proofs.Common.{◌≡◌, ℕ, zero, suc, Bool, true, false, List, [], ◌∷◌, Option, Some, None, refl, ap, sym, subst, ◌∙◌, ◌≤◌, ◌⊎◌, inl, inr, arith}
use Rattle.std.specs.List.{AllByRecursion}
use Rattle.std.specs.Prelude.{slice_get}
use Rattle.charge_world.specs.declared.heard.IsolationLevel.{IsolationLevel}
use Rattle.charge_world.specs.declared.heard.IsolationLevel.TheVariants as isolation
use Rattle.charge_world.specs.declared.heard.PilotState.{PilotState}
use Rattle.charge_world.specs.declared.heard.PilotState.TheVariants as pilot
use Rattle.charge_world.specs.declared.heard.PlantEvent.{PlantEvent}
use Rattle.charge_world.specs.declared.heard.PlantEvent.TheVariants as plant
use Rattle.charge_world.specs.declared.ports.Order.TheVariants as order
use Rattle.session_words.specs.declared.facts.Facts.{Facts}
use Rattle.session_words.specs.declared.phase.Standing.TheVariants as standing
use Rattle.plant_sim.specs.Charger.{Charger, later, moved, events, IsFirst, Comes}
use Rattle.post_spec.specs.Codecs.{Codecs}
use Rattle.post_spec.specs.Steps.{Act, Give, Send, Answer, End}
use Rattle.car_spec.specs.Codecs as car
use Rattle.conforming_runs.specs.Requests.{IsSound}
use Rattle.pipe_spec.specs.Histories.{Happening, CarComes, ChargerTells, StationHears, CarHears, TimePasses, StationDoes, CarReads, CarDoes, CarGoes, NumberIsDrawn, moment}
use Rattle.pipe_spec.specs.Chargers.{behind_act, IsCharger}
use Rattle.pipe_spec.specs.Turns.{Station, station_state, Follows}
use Rattle.pipe_spec.specs.Runs.{IsRun}
use Rattle.pipe_facts.specs.Calm.{IsCalm, TellsCalmly, ToldIsCalm, AreCalm, FactsAreCalm, LeavesContactorBy, LeavesContactor, StaysOpened}
use Rattle.pipe_facts.proofs.Moments.{other_place, stays_empty, came_elsewhere, apart}
use Rattle.pipe_facts.proofs.Facts.{StayBehind, acts_stay}

some_event : (a b : PlantEvent) → Some a ≡ Some b → a ≡ b
some_event a b e = cc

none_event : (e : PlantEvent) → None ≡ Some e → ⊥
none_event e h = cc

-- ---- what is told

pub event_is_calm : (place : ℕ) (voltage current : ℕ) (e : PlantEvent) → slice_get (events voltage current) place ≡ Some e → IsCalm e
event_is_calm zero v i e h = subst IsCalm (some_event (plant.Pilot pilot.C) e h) refl
event_is_calm (suc zero) v i e h = subst IsCalm (some_event (plant.Isolation isolation.Invalid) e h) (inl refl)
event_is_calm (suc (suc zero)) v i e h = subst IsCalm (some_event plant.Paid e h) tt
event_is_calm (suc (suc (suc zero))) v i e h = subst IsCalm (some_event (plant.Isolation isolation.Valid) e h) (inr refl)
event_is_calm (suc (suc (suc (suc zero)))) v i e h = subst IsCalm (some_event (plant.Measured v i) e h) tt
event_is_calm (suc (suc (suc (suc (suc zero))))) v i e h = subst IsCalm (some_event (plant.Feedback true) e h) tt
event_is_calm (suc (suc (suc (suc (suc (suc zero)))))) v i e h = subst IsCalm (some_event (plant.Feedback false) e h) tt
event_is_calm (suc (suc (suc (suc (suc (suc (suc zero))))))) v i e h = subst IsCalm (some_event (plant.Measured 0 0) e h) tt
event_is_calm (suc (suc (suc (suc (suc (suc (suc (suc n)))))))) v i e h = absurd (none_event e h)

comes_calm : (old : Charger) (now : ℕ) (e : PlantEvent) (after : Charger) → Comes old now e after → IsCalm e
comes_calm old now e after x = let v = x.event in event_is_calm x.place (moved old) v.0 e v.2

follows_calm : (c : Codecs) (cs : car.Codecs) (st : Station) (h : List Happening) (e : Happening) → Follows c cs st h e → TellsCalmly e
follows_calm c cs st h (ChargerTells event) f = let t = f.turn in comes_calm f.charger (moment h) event t.0 t.1
follows_calm c cs st h (CarComes plan) f = tt
follows_calm c cs st h (StationHears bytes) f = tt
follows_calm c cs st h (CarHears bytes) f = tt
follows_calm c cs st h TimePasses f = tt
follows_calm c cs st h (StationDoes reading act) f = tt
follows_calm c cs st h (CarReads w) f = tt
follows_calm c cs st h (CarDoes act) f = tt
follows_calm c cs st h CarGoes f = tt
follows_calm c cs st h NumberIsDrawn f = tt

pub told_is_calm : (c : Codecs) (cs : car.Codecs) → ToldIsCalm c cs
told_is_calm c cs st [] r = tt
told_is_calm c cs st (e ∷ h) r = (follows_calm c cs st h e r.1, told_is_calm c cs st h r.0)

-- ---- what is known

level_sound : (level : IsolationLevel) → (level ≡ isolation.Invalid) ⊎ (level ≡ isolation.Valid) → IsSound (Some level)
level_sound level (inl e) = subst (λ (l : IsolationLevel). IsSound (Some l)) (sym e) tt
level_sound level (inr e) = subst (λ (l : IsolationLevel). IsSound (Some l)) (sym e) tt

calm_tells : (st : Station) (h : List Happening) (event : PlantEvent) → IsCalm event → AreCalm (station_state st h).facts → AreCalm (station_state st (ChargerTells event ∷ h)).facts
calm_tells st h (plant.Pilot state) i f = record { pilot = inr i; isolation = f.isolation; stop = f.stop; renew = f.renew }
calm_tells st h (plant.Isolation level) i f = record { pilot = f.pilot; isolation = level_sound level i; stop = f.stop; renew = f.renew }
calm_tells st h (plant.Measured voltage current) i f = record { pilot = f.pilot; isolation = f.isolation; stop = f.stop; renew = f.renew }
calm_tells st h (plant.Feedback closed) i f = record { pilot = f.pilot; isolation = f.isolation; stop = f.stop; renew = f.renew }
calm_tells st h plant.Paid i f = record { pilot = f.pilot; isolation = f.isolation; stop = f.stop; renew = f.renew }
calm_tells st h plant.Emergency i f = absurd i
calm_tells st h plant.StopAsked i f = absurd i
calm_tells st h plant.RenewAsked i f = absurd i

calm_stays : (act : Act) (f g : Facts) → StayBehind act f g → AreCalm f → AreCalm g
calm_stays act f g s k = record {
  pilot = subst (λ (p : PilotState). (p ≡ pilot.A) ⊎ (p ≡ pilot.C)) (sym s.pilot) k.pilot;
  isolation = subst IsSound (sym s.isolation) k.isolation;
  stop = s.stop ∙ k.stop;
  renew = s.renew k.renew;
}

calm_step : (c : Codecs) (cs : car.Codecs) (st : Station) (h : List Happening) (e : Happening) → Follows c cs st h e → TellsCalmly e → AreCalm (station_state st h).facts
    → AreCalm (station_state st (e ∷ h)).facts
calm_step c cs st h (ChargerTells event) f i k = calm_tells st h event i k
calm_step c cs st h (CarComes plan) f i k = record { pilot = k.pilot; isolation = tt; stop = refl; renew = refl }
calm_step c cs st h (StationHears bytes) f i k = record { pilot = k.pilot; isolation = k.isolation; stop = k.stop; renew = k.renew }
calm_step c cs st h (CarHears bytes) f i k = k
calm_step c cs st h TimePasses f i k = record { pilot = k.pilot; isolation = k.isolation; stop = k.stop; renew = k.renew }
calm_step c cs st h (StationDoes reading act) f i k =
    calm_stays act (station_state st h).facts (station_state st (StationDoes reading act ∷ h)).facts (acts_stay st.post reading act (station_state st h)) k
calm_step c cs st h (CarReads w) f i k = k
calm_step c cs st h (CarDoes act) f i k = k
calm_step c cs st h CarGoes f i k = record { pilot = k.pilot; isolation = k.isolation; stop = k.stop; renew = k.renew }
calm_step c cs st h NumberIsDrawn f i k = k

pub facts_are_calm : (c : Codecs) (cs : car.Codecs) → FactsAreCalm c cs
facts_are_calm c cs st [] r = record { pilot = inl refl; isolation = tt; stop = refl; renew = refl }
facts_are_calm c cs st (e ∷ h) r = calm_step c cs st h e r.1 (follows_calm c cs st h e r.1) (facts_are_calm c cs st h r.0)

-- ---- the contactor

feedback_place : (place voltage current : ℕ) (closed : Bool) → slice_get (events voltage current) place ≡ Some (plant.Feedback closed) → (place ≡ 5) ⊎ (place ≡ 6)
feedback_place zero v i closed h = absurd (let e : plant.Pilot pilot.C ≡ plant.Feedback closed = some_event _ _ h in cc)
feedback_place (suc zero) v i closed h = absurd (let e : plant.Isolation isolation.Invalid ≡ plant.Feedback closed = some_event _ _ h in cc)
feedback_place (suc (suc zero)) v i closed h = absurd (let e : plant.Paid ≡ plant.Feedback closed = some_event _ _ h in cc)
feedback_place (suc (suc (suc zero))) v i closed h = absurd (let e : plant.Isolation isolation.Valid ≡ plant.Feedback closed = some_event _ _ h in cc)
feedback_place (suc (suc (suc (suc zero)))) v i closed h = absurd (let e : plant.Measured v i ≡ plant.Feedback closed = some_event _ _ h in cc)
feedback_place (suc (suc (suc (suc (suc zero))))) v i closed h = inl refl
feedback_place (suc (suc (suc (suc (suc (suc zero)))))) v i closed h = inr refl
feedback_place (suc (suc (suc (suc (suc (suc (suc zero))))))) v i closed h = absurd (let e : plant.Measured 0 0 ≡ plant.Feedback closed = some_event _ _ h in cc)
feedback_place (suc (suc (suc (suc (suc (suc (suc (suc n)))))))) v i closed h = absurd (none_event (plant.Feedback closed) h)

-- the contactor is open, and no feedback is to come
record Untouched (st : Station) (h : List Happening) : Type 0 where
  contactor : (station_state st h).facts.contactor ≡ standing.Opened
  no_close : (s : Charger) → IsCharger st.post.free h s → slice_get s.moments 5 ≡ Some None
  no_open : (s : Charger) → IsCharger st.post.free h s → slice_get s.moments 6 ≡ Some None

nothing_there : (ms : List (Option ℕ)) (k place m : ℕ) → slice_get ms k ≡ Some None → slice_get ms place ≡ Some (Some m) → place ≡ k → ⊥
nothing_there ms k place m e f i =
    let both : Some (Some m) ≡ Some None = sym f ∙ ap (λ (n : ℕ). slice_get ms n) i ∙ e in cc

no_feedback : (old : Charger) (now : ℕ) (closed : Bool) (after : Charger) → slice_get old.moments 5 ≡ Some None → slice_get old.moments 6 ≡ Some None
    → Comes old now (plant.Feedback closed) after → ⊥
no_feedback old now closed after a b x =
    let v = x.event in
    let f : IsFirst old.moments x.place x.moment = x.first in
    elim (feedback_place x.place (moved old) v.0 closed v.2) [
      | inl e ↦ nothing_there old.moments 5 x.place x.moment a f.to_come e
      | inr e ↦ nothing_there old.moments 6 x.place x.moment b f.to_come e
    ]

told_nothing : (old : Charger) (now : ℕ) (event : PlantEvent) (after : Charger) (k : ℕ) → Comes old now event after → slice_get old.moments k ≡ Some None → slice_get after.moments k ≡ Some None
told_nothing old now event after k x e =
    ap (λ (s : Charger). slice_get s.moments k) x.after ∙ stays_empty old.moments x.place k e

same_contactor : (st : Station) (h : List Happening) (event : PlantEvent) (old after : Charger) → slice_get old.moments 5 ≡ Some None → slice_get old.moments 6 ≡ Some None
    → Comes old (moment h) event after → (station_state st h).facts.contactor ≡ standing.Opened → (station_state st (ChargerTells event ∷ h)).facts.contactor ≡ standing.Opened
same_contactor st h (plant.Feedback closed) old after a b x e = absurd (no_feedback old (moment h) closed after a b x)
same_contactor st h (plant.Pilot state) old after a b x e = e
same_contactor st h (plant.Isolation level) old after a b x e = e
same_contactor st h (plant.Measured voltage current) old after a b x e = e
same_contactor st h plant.Paid old after a b x e = e
same_contactor st h plant.Emergency old after a b x e = e
same_contactor st h plant.StopAsked old after a b x e = e
same_contactor st h plant.RenewAsked old after a b x e = e

no_order : (act : Act) (h : List Happening) (before after : Charger) (k : ℕ) → 5 ≤ k → LeavesContactorBy act → after ≡ behind_act act h before → slice_get before.moments k ≡ Some None
    → slice_get after.moments k ≡ Some None
no_order (Give order.Open) h before after k l n i e = absurd n
no_order (Give order.Close) h before after k l n i e = absurd n
no_order (Give (order.Limits voltage current watts)) h before after k l n i e =
    ap (λ (s : Charger). slice_get s.moments k) i ∙ other_place before.moments 4 k (later (moment h) 20) (apart 4 k (omega (arith, l))) ∙ e
no_order (Send bytes) h before after k l n i e = ap (λ (s : Charger). slice_get s.moments k) i ∙ e
no_order (Answer bytes) h before after k l n i e = ap (λ (s : Charger). slice_get s.moments k) i ∙ e
no_order (End cause) h before after k l n i e = ap (λ (s : Charger). slice_get s.moments k) i ∙ e

untouched_step : (c : Codecs) (cs : car.Codecs) (st : Station) (h : List Happening) (e : Happening) → Follows c cs st h e → LeavesContactor e → Untouched st h → Untouched st (e ∷ h)
untouched_step c cs st h (CarComes plan) f l u = record {
  contactor = u.contactor;
  no_close = λ s x. ap (λ (z : Charger). slice_get z.moments 5) x.2 ∙ came_elsewhere x.0 (moment h) 5 (omega arith) ∙ u.no_close x.0 x.1;
  no_open = λ s x. ap (λ (z : Charger). slice_get z.moments 6) x.2 ∙ came_elsewhere x.0 (moment h) 6 (omega arith) ∙ u.no_open x.0 x.1;
}
untouched_step c cs st h (ChargerTells event) f l u =
    let t = f.turn in
    record {
      contactor = same_contactor st h event f.charger t.0 (u.no_close f.charger f.charger_is) (u.no_open f.charger f.charger_is) t.1 u.contactor;
      no_close = λ s x. told_nothing x.0 (moment h) event s 5 x.2 (u.no_close x.0 x.1);
      no_open = λ s x. told_nothing x.0 (moment h) event s 6 x.2 (u.no_open x.0 x.1);
    }
untouched_step c cs st h (StationHears bytes) f l u = record { contactor = u.contactor; no_close = u.no_close; no_open = u.no_open }
untouched_step c cs st h (CarHears bytes) f l u = record { contactor = u.contactor; no_close = u.no_close; no_open = u.no_open }
untouched_step c cs st h TimePasses f l u = record { contactor = u.contactor; no_close = u.no_close; no_open = u.no_open }
untouched_step c cs st h (StationDoes reading act) f l u =
    let k : StayBehind act (station_state st h).facts (station_state st (StationDoes reading act ∷ h)).facts = acts_stay st.post reading act (station_state st h) in
    record {
      contactor = k.contactor l ∙ u.contactor;
      no_close = λ s x. no_order act h x.0 s 5 (omega arith) l x.2 (u.no_close x.0 x.1);
      no_open = λ s x. no_order act h x.0 s 6 (omega arith) l x.2 (u.no_open x.0 x.1);
    }
untouched_step c cs st h (CarReads w) f l u = record { contactor = u.contactor; no_close = u.no_close; no_open = u.no_open }
untouched_step c cs st h (CarDoes act) f l u = record { contactor = u.contactor; no_close = u.no_close; no_open = u.no_open }
untouched_step c cs st h CarGoes f l u = record { contactor = u.contactor; no_close = u.no_close; no_open = u.no_open }
untouched_step c cs st h NumberIsDrawn f l u = record { contactor = u.contactor; no_close = u.no_close; no_open = u.no_open }

untouched : (c : Codecs) (cs : car.Codecs) (st : Station) (h : List Happening) → IsRun c cs st h → AllByRecursion LeavesContactor h → Untouched st h
untouched c cs st [] r l = record {
  contactor = refl;
  no_close = λ s x. ap (λ (z : Charger). slice_get z.moments 5) x;
  no_open = λ s x. ap (λ (z : Charger). slice_get z.moments 6) x;
}
untouched c cs st (e ∷ h) r l = untouched_step c cs st h e r.1 l.0 (untouched c cs st h r.0 l.1)

pub stays_opened : (c : Codecs) (cs : car.Codecs) → StaysOpened c cs
stays_opened c cs st h r l = let u : Untouched st h = untouched c cs st h r l in u.contactor
