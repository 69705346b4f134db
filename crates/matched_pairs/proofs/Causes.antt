-- Each end that has a cause has SessionStop's.
use Rattle.std.proofs.Common.{◌≡◌, ℕ, true, false, List, [], ◌∷◌, ◌++◌, Option, Some, None, is_some, refl, ap, sym, subst}
use Rattle.std.specs.List.{AllByRecursion}
use Rattle.session_words.specs.declared.plan.CarPlan.{CarPlan}
use Rattle.session_words.specs.declared.plan.PostPlan.{PostPlan}
use Rattle.post_spec.specs.Codecs as post
use Rattle.post_spec.specs.Steps.{Act, Give, Send, Answer, End}
use Rattle.station_spec.specs.States.{State}
use Rattle.car_spec.specs.Codecs as car
use Rattle.car_spec.specs.Steps as car_steps
use Rattle.car_spec.specs.Next as car_next
use Rattle.pipe_spec.specs.Histories.{Happening, CarComes, ChargerTells, StationHears, CarHears, TimePasses, StationDoes, CarReads, CarDoes, CarGoes, NumberIsDrawn, joined, car_plan, station_ended_by, station_cause, car_ended_by, car_cause, to_station, to_car}
use Rattle.pipe_spec.specs.Turns.{Station, station_state, car_state, CarMayDoBy, Follows}
use Rattle.pipe_spec.specs.Runs.{IsRun, IsWithin}
use Rattle.pipe_laws.specs.OneMessage.{IsShort}
use Rattle.matched_pairs.specs.Phases.{Words, NoneYet, Read}
use Rattle.matched_pairs.specs.Moves.{IsPair}
use Rattle.matched_pairs.specs.Acts.{IsOfPhase, IsOfCar}
use Rattle.matched_pairs.proofs.PostsDo.{posts_act}
use Rattle.matched_pairs.proofs.CarsDo.{cars_act}
use Rattle.matched_pairs.specs.Courses.{AllGoUndisturbed, GoesUndisturbed, GoesWell}
use Rattle.matched_pairs.specs.Stopping.{HasStopped}
use Rattle.matched_pairs.proofs.Courses.{true_false, plan_is, sessions_go_well}
use Rattle.matched_pairs.proofs.Stopping.{sessions_stop}
use Rattle.matched_pairs.specs.Causes.{IsStop, AreStops, CausesAreStops, SessionsEndByStop}
use Rattle.matched_pairs.proofs.Ends.{HasCause, gone_has_cause, HasCarCause, over_has_cause}

post_stop : (act : Act) (cause : Option ℕ) (post_plan : PostPlan) (plan : CarPlan) (words : Words) (s : State) → IsOfPhase post_plan plan words s act → IsStop cause → IsStop (station_ended_by act cause)
post_stop (Give o) cause post_plan plan words s i k = k
post_stop (Send bytes) cause post_plan plan words s i k = k
post_stop (Answer bytes) cause post_plan plan words s i k = k
post_stop (End number) cause post_plan plan NoneYet s i k = absurd i
post_stop (End number) cause post_plan plan (Read dialect xs) s i k = i.0

car_stop : (act : car_steps.Act) (cause : Option ℕ) → IsOfCar act → IsStop cause → IsStop (car_ended_by act cause)
car_stop (car_steps.Give o) cause i k = k
car_stop (car_steps.Say spoken bytes) cause i k = k
car_stop (car_steps.End number) cause i k = i
car_stop (car_steps.Seek datagram) cause i k = absurd i
car_stop (car_steps.Dial port) cause i k = absurd i

step : (c : post.Codecs) (cs : car.Codecs) (st : Station) (plan : CarPlan) (h : List Happening) (e : Happening) → IsPair c cs st.post plan → car_plan h ≡ Some plan → GoesWell c cs st plan h → IsWithin e
    → Follows c cs st h e → GoesUndisturbed c cs st plan h e → AreStops h → AreStops (e ∷ h)
step c cs st plan h (StationDoes reading act) p same w i f d k = record {
  station = post_stop act (station_cause h) st.post plan w.words (station_state st h)
      (posts_act c cs st.post plan st.limit w.words (station_state st h) (car_state plan h) (to_station h) (to_car h) reading act p w.phase (d w.words w.phase) f) k.station;
  car = k.car;
}
step c cs st plan h (CarDoes act) p same w i f d k =
    let acts : car_next.MayAct cs plan (car_state plan h) act true = subst (λ (o : Option CarPlan). CarMayDoBy cs o h act) same f.1 in
    record {
      station = k.station;
      car = car_stop act (car_cause h) (cars_act c cs st.post plan w.words (station_state st h) (car_state plan h) (to_station h) (to_car h) act p w.phase acts) k.car;
    }
step c cs st plan h (ChargerTells event) p same w i f d k = record { station = k.station; car = k.car }
step c cs st plan h (StationHears bytes) p same w i f d k = record { station = k.station; car = k.car }
step c cs st plan h (CarHears bytes) p same w i f d k = record { station = k.station; car = k.car }
step c cs st plan h TimePasses p same w i f d k = record { station = k.station; car = k.car }
step c cs st plan h (CarReads word) p same w i f d k = record { station = k.station; car = k.car }
step c cs st plan h (CarComes other) p same w i f d k = absurd (true_false false i refl)
step c cs st plan h CarGoes p same w i f d k = absurd (true_false false i refl)
step c cs st plan h NumberIsDrawn p same w i f d k = absurd (true_false false i refl)

stops : (c : post.Codecs) (cs : car.Codecs) (st : Station) (plan : CarPlan) (session : List Happening) → IsPair c cs st.post (joined plan) → AllByRecursion IsWithin session
    → IsRun c cs st (session ++ CarComes plan ∷ []) → AllByRecursion (IsShort 65544) (session ++ CarComes plan ∷ []) → AllGoUndisturbed c cs st (joined plan) (session ++ CarComes plan ∷ [])
    → AreStops (session ++ CarComes plan ∷ [])
stops c cs st plan [] p w r l d = record { station = tt; car = tt }
stops c cs st plan (e ∷ session) p w r l d =
    let well : GoesWell c cs st (joined plan) (session ++ CarComes plan ∷ []) =
    sessions_go_well c cs st plan (session ++ CarComes plan ∷ []) p (record { session = session; h_is = refl; within = w.1; run = r.0 }) l.1 d.0 in
    step c cs st (joined plan) (session ++ CarComes plan ∷ []) e p (plan_is session plan w.1) well w.0 r.1 d.1 (stops c cs st plan session p w.1 r.0 l.1 d.0)

pub causes_are_stops : (c : post.Codecs) (cs : car.Codecs) → CausesAreStops c cs
causes_are_stops c cs st plan h p f l d =
    subst AreStops (sym f.h_is)
    (stops c cs st plan f.session p f.within (subst (λ (x : List Happening). IsRun c cs st x) f.h_is f.run) (subst (λ (x : List Happening). AllByRecursion (IsShort 65544) x) f.h_is l)
    (subst (λ (x : List Happening). AllGoUndisturbed c cs st (joined plan) x) f.h_is d))

the_stop : (o : Option ℕ) → is_some o ≡ true → IsStop o → o ≡ Some 1
the_stop None e k = absurd (true_false true refl (sym e))
the_stop (Some number) e k = ap (λ (n : ℕ). Some n) k

pub sessions_end_by_stop : (c : post.Codecs) (cs : car.Codecs) → SessionsEndByStop c cs
sessions_end_by_stop c cs st plan h p f l d turns car_turns =
    let s : HasStopped st (joined plan) h = sessions_stop c cs st plan h p f l d turns car_turns in
    let k : AreStops h = causes_are_stops c cs st plan h p (record { session = f.session; h_is = f.h_is; within = f.within; run = f.run }) l d in
    let g = s.station_ended in
    let e = s.car_ended in
    let gone : is_some (station_cause h) ≡ true =
    subst (λ (x : List Happening). HasCause (station_state st x) (station_cause x)) (sym f.h_is) (gone_has_cause st plan f.session f.within) (g.session, g.arrived) in
    let over : is_some (car_cause h) ≡ true =
    subst (λ (x : List Happening). HasCarCause (car_state (joined plan) x) (car_cause x)) (sym f.h_is) (over_has_cause plan f.session f.within) e.over in
    record { stopped = s; station = the_stop (station_cause h) gone k.station; car = the_stop (car_cause h) over k.car }
