-- The charger tells something, or a piece of what is under way is heard.
use Rattle.std.proofs.Common.{◌≡◌, ℕ, List, [], ◌∷◌, length, drop, None, refl, subst}
use Rattle.charge_world.specs.declared.heard.PlantEvent.{PlantEvent}
use Rattle.session_words.specs.declared.plan.CarPlan.{CarPlan}
use Rattle.post_spec.specs.Codecs as post
use Rattle.post_spec.specs.Steps.{Event, Bytes}
use Rattle.station_spec.specs.States.{State}
use Rattle.station_spec.specs.Next.{IsQuiet}
use Rattle.car_spec.specs.Codecs as car
use Rattle.car_spec.specs.States as car_states
use Rattle.car_spec.specs.Hearing as car_hearing
use Rattle.pipe_spec.specs.Histories.{Happening, ChargerTells, StationHears, CarHears, moment, car_cause, car_steps, to_station, to_car}
use Rattle.pipe_spec.specs.Turns.{Station, station_state, car_state, BothRest, MayTurn}
use Rattle.matched_pairs.specs.Hearings.{IsUndisturbed}
use Rattle.matched_pairs.specs.Contactors.{Stands}
use Rattle.matched_pairs.specs.Paces.{IsSetUpAtOnce}
use Rattle.matched_pairs.proofs.Pacing.{PacedBy, IsPaced, timing_not, hears_paced}
use Rattle.matched_pairs.proofs.Since.{hears_since}
use Rattle.matched_pairs.proofs.Asked.{AskedIn, asked_on, tells_asked, hears_asked, car_hears_asked}
use Rattle.matched_pairs.proofs.Coming.{SetUpSince, IsComing, coming_heard, AgainIn, again_heard, car_hears_again}
use Rattle.matched_pairs.proofs.Setup.{hears_setup}
use Rattle.matched_pairs.proofs.Waits.{hears_waits, tells_waits}
use Rattle.matched_pairs.proofs.Held.{Holds, Known, car_heard, no_agenda}

pub tells : (c : post.Codecs) (cs : car.Codecs) (st : Station) (plan : CarPlan) (h : List Happening) (event : PlantEvent) → Known c cs st plan h → MayTurn st h (ChargerTells event)
    → IsUndisturbed st.post (station_state st (ChargerTells event ∷ h)) → Holds st plan h → Holds st plan (ChargerTells event ∷ h)
tells c cs st plan h event n f d k =
    let s : State = station_state st h in
    let stands : Stands st h = n.stands in
    let coming : IsComing (moment h) s.session (car_state plan h).session (to_car h) = k.coming in
    let rest : BothRest st h = f.rest in
    let quiet : IsQuiet st.post s = rest.station_rests in
    record {
      behind = hears_since s.arrived s.session s.clock (moment h) [] n.clock k.behind;
      asked = asked_on (moment h) (moment h) s (station_state st (ChargerTells event ∷ h)) (to_station h) (to_station h) (car_state plan h).session
          (λ at a. tells_asked event s (moment h) (to_station h) at stands.closing a) k.asked;
      again = again_heard (car_state plan h).session s.arrived s.session s.clock [] k.again;
      coming = record {
        under_way = λ w. coming_heard s.arrived s.session s.clock (moment h) [] (coming.under_way w);
        unread = λ u. coming_heard s.arrived s.session s.clock (moment h) [] (coming.unread u);
      };
      waits = tells_waits st.post s (moment h) event k.waits quiet.none d;
      paced = k.paced;
      set_up = k.set_up;
      few = k.few;
    }

pub hears : (c : post.Codecs) (cs : car.Codecs) (st : Station) (plan : CarPlan) (h : List Happening) (bytes : List ℕ) → Known c cs st plan h → MayTurn st h (StationHears bytes) → Holds st plan h
    → Holds st plan (StationHears bytes ∷ h)
hears c cs st plan h bytes n f k =
    let s : State = station_state st h in
    let stands : Stands st h = n.stands in
    let coming : IsComing (moment h) s.session (car_state plan h).session (to_car h) = k.coming in
    let rest : BothRest st h = f.rest in
    let quiet : IsQuiet st.post s = rest.station_rests in
    let t = f.turn in
    let piece = t.1 in
    record {
      behind = hears_since s.arrived s.session s.clock (moment h) bytes n.clock k.behind;
      asked = asked_on (moment h) (moment h) s (station_state st (StationHears bytes ∷ h)) (to_station h) (drop (length bytes) (to_station h)) (car_state plan h).session
          (λ at a. hears_asked bytes s (moment h) (to_station h) (drop (length bytes) (to_station h)) at piece.under_way stands.closing a) k.asked;
      again = again_heard (car_state plan h).session s.arrived s.session s.clock bytes k.again;
      coming = record {
        under_way = λ w. coming_heard s.arrived s.session s.clock (moment h) bytes (coming.under_way w);
        unread = λ u. coming_heard s.arrived s.session s.clock (moment h) bytes (coming.unread u);
      };
      waits = hears_waits st.post s (moment h) bytes k.waits quiet.none;
      paced = k.paced;
      set_up = k.set_up;
      few = k.few;
    }

pub heard_paced : (event : Event) (at : ℕ) (k : car_states.State) → car_hearing.session_heard event at None ≡ None → k.agenda ≡ car_states.nothing → IsPaced k → IsPaced (car_hearing.hearing at event k)
heard_paced event at k n e p = record { heard = timing_not; paced = hears_paced event at k.session n (subst (λ (a : car_states.Agenda). PacedBy a k.session) e p.paced) }

pub car_hears : (c : post.Codecs) (cs : car.Codecs) (st : Station) (plan : CarPlan) (h : List Happening) (bytes : List ℕ) → Known c cs st plan h → MayTurn st h (CarHears bytes) → Holds st plan h
    → Holds st plan (CarHears bytes ∷ h)
car_hears c cs st plan h bytes n f k =
    let s : State = station_state st h in
    let coming : IsComing (moment h) s.session (car_state plan h).session (to_car h) = k.coming in
    let t = f.turn in
    let piece = t.2 in
    let since : SetUpSince (moment h) s.session = coming.under_way piece.under_way in
    record {
      behind = k.behind;
      asked = car_heard (λ (x : car_states.State). AskedIn (moment h) s (to_station h) x.session) (car_cause h) plan (car_steps h) (Bytes bytes) (moment h)
          (car_hears_asked (Bytes bytes) (moment h) (moment h) s (to_station h) (car_state plan h).session refl k.asked) k.asked;
      again = car_heard (λ (x : car_states.State). AgainIn x.session s.session) (car_cause h) plan (car_steps h) (Bytes bytes) (moment h)
          (car_hears_again (Bytes bytes) (moment h) (car_state plan h).session s.session refl k.again) k.again;
      coming = record { under_way = λ w. since; unread = λ u. since };
      waits = k.waits;
      paced = car_heard (λ (x : car_states.State). IsPaced x) (car_cause h) plan (car_steps h) (Bytes bytes) (moment h)
          (heard_paced (Bytes bytes) (moment h) (car_state plan h) refl (no_agenda st plan h n.came f.rest) k.paced) k.paced;
      set_up = car_heard (λ (x : car_states.State). IsSetUpAtOnce (moment h) x.session) (car_cause h) plan (car_steps h) (Bytes bytes) (moment h)
          (hears_setup (Bytes bytes) (moment h) (moment h) (car_state plan h).session refl k.set_up) k.set_up;
      few = k.few;
    }
