-- What was ordered in the first session follows what both ends keep, so that both contactors are left open.
use Rattle.std.proofs.Common.{◌≡◌, ℕ, ◌+◌, true, false, if◌then◌else◌, List, [], ◌∷◌, ◌++◌, Option, Some, None, is_some, refl, ap, sym, subst}
use Rattle.std.specs.List.{AllByRecursion}
use Rattle.charge_world.specs.declared.ports.Order.{Order}
use Rattle.session_words.specs.declared.plan.CarPlan.{CarPlan}
use Rattle.post_spec.specs.Codecs as post
use Rattle.post_spec.specs.Steps.{Event, Bytes, Plant, Clock}
use Rattle.station_spec.specs.States as station
use Rattle.car_spec.specs.Codecs as car
use Rattle.car_spec.specs.Steps as car_steps_of
use Rattle.car_spec.specs.States.{Agenda}
use Rattle.car_spec.specs.Acting.{state}
use Rattle.car_spec.specs.Next as car_next
use Rattle.pipe_spec.specs.Histories.{Happening, CarComes, ChargerTells, StationHears, CarHears, TimePasses, StationDoes, CarReads, CarDoes, CarGoes, NumberIsDrawn, joined, moment, car_plan, car_cause, car_steps, to_station, to_car}
use Rattle.pipe_spec.specs.Counts.{station_order, car_order}
use Rattle.pipe_spec.specs.Turns.{Station, station_state, car_state, CarMayReadBy, CarMayDoBy, Follows}
use Rattle.pipe_spec.specs.Runs.{IsRun, IsWithin}
use Rattle.pipe_laws.specs.OneMessage.{IsShort}
use Rattle.matched_pairs.specs.Ends.{IsGone, HasEnded}
use Rattle.matched_pairs.specs.Moves.{IsPair}
use Rattle.matched_pairs.specs.Courses.{AllGoUndisturbed, GoesUndisturbed, GoesWell}
use Rattle.matched_pairs.specs.Stopping.{HasStopped}
use Rattle.matched_pairs.specs.Opening.{ContactorsAreOpened}
use Rattle.matched_pairs.proofs.CarReads.{cars_read}
use Rattle.matched_pairs.proofs.Courses.{true_false, plan_is, car_rests, sessions_go_well}
use Rattle.matched_pairs.proofs.Stopping.{sessions_stop}
use Rattle.matched_pairs.proofs.Stops.{was_open}
use Rattle.matched_pairs.proofs.PostsOpen as posts
use Rattle.matched_pairs.proofs.PostsOpen.{PostOpens}
use Rattle.matched_pairs.proofs.CarsOpen as cars
use Rattle.matched_pairs.proofs.CarsOpen.{CarOpens}

some_none : {A : Type 0} (a : A) → Some a ≡ None → ⊥
some_none a e = cc

pub record Opens (st : Station) (plan : CarPlan) (h : List Happening) : Type 0 where
  pub station : PostOpens (station_state st h) (station_order h)
  pub car : CarOpens (car_state plan h) (car_order h)

-- a car that has ended hears nothing
car_hears : (cause : Option ℕ) (plan : CarPlan) (steps : List car_steps_of.Step) (event : Event) (at : ℕ) (earlier : Option Order) → CarOpens (state plan (car_steps_of.Hears at event ∷ steps)) earlier
    → CarOpens (state plan steps) earlier → CarOpens (state plan (if is_some cause then steps else car_steps_of.Hears at event ∷ steps)) earlier
car_hears None plan steps event at earlier heard own = heard
car_hears (Some n) plan steps event at earlier heard own = own

step : (c : post.Codecs) (cs : car.Codecs) (st : Station) (plan : CarPlan) (h : List Happening) (e : Happening) → IsPair c cs st.post plan → car_plan h ≡ Some plan → GoesWell c cs st plan h → IsWithin e
    → Follows c cs st h e → IsShort 65544 e → GoesUndisturbed c cs st plan h e → Opens st plan h → Opens st plan (e ∷ h)
step c cs st plan h (StationDoes reading act) p same w i f l d k = record {
  station = posts.does w.words reading c cs st.post plan st.limit (station_state st h) (car_state plan h) (to_station h) (to_car h) act (station_order h) p w.phase (d w.words w.phase) l f k.station;
  car = k.car;
}
step c cs st plan h (CarReads word) p same w i f l d k =
    let reads : car_next.MayRead cs plan (car_state plan h) word = subst (λ (o : Option CarPlan). CarMayReadBy cs o h word) same f.1 in
    record {
      station = k.station;
      car = cars.reads w.words c cs st.post plan (station_state st h) (car_state plan h) (to_station h) (to_car h) word (car_order h) w.phase reads
          (cars_read c cs st.post plan w.words (station_state st h) (car_state plan h) (to_station h) (to_car h) word p w.phase f.0 reads) k.car;
    }
step c cs st plan h (CarDoes act) p same w i f l d k =
    let acts : car_next.MayAct cs plan (car_state plan h) act true = subst (λ (o : Option CarPlan). CarMayDoBy cs o h act) same f.1 in
    record {
      station = k.station;
      car = cars.does w.words c cs st.post plan (station_state st h) (car_state plan h) (to_station h) (to_car h) act (car_order h) w.phase acts k.car;
    }
step c cs st plan h (ChargerTells event) p same w i f l d k =
    let rest = f.rest in record { station = posts.hears st.post (station_state st h) (moment h) (Plant event) (station_order h) rest.station_rests k.station; car = k.car }
step c cs st plan h (StationHears bytes) p same w i f l d k =
    let rest = f.rest in record { station = posts.hears st.post (station_state st h) (moment h) (Bytes bytes) (station_order h) rest.station_rests k.station; car = k.car }
step c cs st plan h (CarHears bytes) p same w i f l d k =
    let rest = f.rest in
    record {
      station = k.station;
      car = car_hears (car_cause h) plan (car_steps h) (Bytes bytes) (moment h) (car_order h)
          (cars.hears plan (car_state plan h) (moment h) (Bytes bytes) (car_order h) tt (car_rests st h (car_plan h) plan same rest.car_rests) k.car) k.car;
    }
step c cs st plan h TimePasses p same w i f l d k =
    let rest = f.rest in
    record {
      station = posts.hears st.post (station_state st h) (moment h + 10) Clock (station_order h) rest.station_rests k.station;
      car = car_hears (car_cause h) plan (car_steps h) Clock (moment h + 10) (car_order h)
          (cars.hears plan (car_state plan h) (moment h + 10) Clock (car_order h) tt (car_rests st h (car_plan h) plan same rest.car_rests) k.car) k.car;
    }
step c cs st plan h (CarComes other) p same w i f l d k = absurd (true_false false i refl)
step c cs st plan h CarGoes p same w i f l d k = absurd (true_false false i refl)
step c cs st plan h NumberIsDrawn p same w i f l d k = absurd (true_false false i refl)

base : (st : Station) (plan : CarPlan) → Opens st (joined plan) (CarComes plan ∷ [])
base st plan = record {
  station = record {
    row = λ x e l. absurd (some_none x (sym e));
    ending = λ cause e. absurd (some_none cause (sym e));
    gone = λ g. absurd (some_none _ g.1);
  };
  car = record {
    stage = λ x e l. absurd (subst cars.IsBehindStop (sym (cars.stage_of _ x e)) l);
    ending = λ cause e. absurd (some_none cause (sym e));
    over = λ e. absurd (true_false true refl (sym e));
  };
}

opens : (c : post.Codecs) (cs : car.Codecs) (st : Station) (plan : CarPlan) (session : List Happening) → IsPair c cs st.post (joined plan) → AllByRecursion IsWithin session
    → IsRun c cs st (session ++ CarComes plan ∷ []) → AllByRecursion (IsShort 65544) (session ++ CarComes plan ∷ []) → AllGoUndisturbed c cs st (joined plan) (session ++ CarComes plan ∷ [])
    → Opens st (joined plan) (session ++ CarComes plan ∷ [])
opens c cs st plan [] p w r l d = base st plan
opens c cs st plan (e ∷ session) p w r l d =
    let well : GoesWell c cs st (joined plan) (session ++ CarComes plan ∷ []) =
    sessions_go_well c cs st plan (session ++ CarComes plan ∷ []) p (record { session = session; h_is = refl; within = w.1; run = r.0 }) l.1 d.0 in
    step c cs st (joined plan) (session ++ CarComes plan ∷ []) e p (plan_is session plan w.1) well w.0 r.1 l.0 d.1 (opens c cs st plan session p w.1 r.0 l.1 d.0)

pub contactors_are_opened : (c : post.Codecs) (cs : car.Codecs) → ContactorsAreOpened c cs
contactors_are_opened c cs st plan h p f l d turns car_turns =
    let s : HasStopped st (joined plan) h = sessions_stop c cs st plan h p f l d turns car_turns in
    let k : Opens st (joined plan) h =
    subst (λ (x : List Happening). Opens st (joined plan) x) (sym f.h_is)
    (opens c cs st plan f.session p f.within (subst (λ (x : List Happening). IsRun c cs st x) f.h_is f.run) (subst (λ (x : List Happening). AllByRecursion (IsShort 65544) x) f.h_is l)
    (subst (λ (x : List Happening). AllGoUndisturbed c cs st (joined plan) x) f.h_is d)) in
    let g : IsGone st.post (station_state st h) = s.station_ended in
    let e : HasEnded (joined plan) (car_state (joined plan) h) = s.car_ended in
    let post_opens : PostOpens (station_state st h) (station_order h) = k.station in
    let car_opens : CarOpens (car_state (joined plan) h) (car_order h) = k.car in
    record {
      station = was_open (station_state st h).agenda.order (station_order h) (ap (λ (a : station.Agenda). a.order) g.none) (post_opens.gone (g.session, g.arrived));
      car = was_open (car_state (joined plan) h).agenda.order (car_order h) (ap (λ (a : Agenda). a.order) e.none) (car_opens.over e.over);
    }
