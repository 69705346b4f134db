-- No end has a cause of its own, as far as no deadline is reached and no measured power is too much.
use Rattle.std.proofs.Common.{◌≡◌, ℕ, Bool, true, false, List, [], ◌∷◌, ◌++◌, Option, Some, None, refl, ap, sym, subst, ◌∙◌, ◌⊎◌, inl, inr}
use Rattle.std.specs.List.{AllByRecursion}
use Rattle.std.specs.Prelude.{slice_get}
use Rattle.charge_world.specs.declared.heard.PilotState.TheVariants as pilot
use Rattle.charge_world.specs.declared.heard.PlantEvent.{PlantEvent}
use Rattle.session_words.specs.declared.facts.Facts.{Facts}
use Rattle.session_words.specs.declared.phase.Phase.{Phase}
use Rattle.session_words.specs.declared.phase.Standing.TheVariants as standing
use Rattle.session_words.specs.declared.plan.CarPlan.{CarPlan}
use Rattle.session_words.specs.declared.plan.PostPlan.{PostPlan}
use Rattle.contactor.specs.Rights.{is_ready}
use Rattle.session_rules.specs.declared.stage.Stage.{Stage}
use Rattle.session_rules.specs.Causes.{needs_isolation}
use Rattle.conforming_runs.specs.Requests.{IsSound}
use Rattle.plant_sim.specs.Charger.{Charger, Comes}
use Rattle.post_spec.specs.Codecs as post
use Rattle.post_spec.specs.Steps.{Bytes, Plant, Clock, Act, Reading}
use Rattle.station_spec.specs.States.{Session, State, nothing}
use Rattle.station_spec.specs.Deciding.{repeating}
use Rattle.station_spec.specs.Next.{Acts}
use Rattle.station_spec.specs.Sharing.{Shows}
use Rattle.car_rules.specs.declared.stage.CarPhase.{CarPhase}
use Rattle.car_rules.specs.declared.stage.CarPhase.TheVariants as phase
use Rattle.car_spec.specs.Codecs as car
use Rattle.pipe_spec.specs.Chargers.{IsCharger}
use Rattle.pipe_spec.specs.Histories.{Happening, CarComes, ChargerTells, StationHears, CarHears, TimePasses, StationDoes, CarReads, CarDoes, CarGoes, NumberIsDrawn, moment, joined, token, to_station, to_car}
use Rattle.pipe_spec.specs.Turns.{Station, station_state, car_state, MayTurn, Follows}
use Rattle.pipe_spec.specs.Runs as runs
use Rattle.pipe_laws.specs.OneMessage.{IsShort}
use Rattle.pipe_facts.specs.Calm.{LeavesContactor, AreCalm}
use Rattle.pipe_facts.proofs.Calm.{facts_are_calm, stays_opened}
use Rattle.pair_words.specs.Exchanges.{Both}
use Rattle.pair_words.specs.Meeting.{Meets, Suits}
use Rattle.pair_words.specs.Laws.{both}
use Rattle.pair_words.proofs.Sessions.{they_meet}
use Rattle.matched_pairs.specs.Phases.{exchange, Words, NoneYet, Read}
use Rattle.matched_pairs.specs.Moves.{IsPair, IfRead, SuitsWords}
use Rattle.matched_pairs.specs.Hearings.{IsNoCause, IsUndisturbed}
use Rattle.matched_pairs.specs.Requests.{IsAsked}
use Rattle.matched_pairs.proofs.Requested.{posts_do}
use Rattle.matched_pairs.specs.Courses.{IsAt, AllGoUndisturbed, GoesUndisturbed}
use Rattle.matched_pairs.specs.Contactors.{is_late, IsLateIn, IsLate, Stands}
use Rattle.matched_pairs.proofs.Contactors.{tells_on, contactors_follow}
use Rattle.matched_pairs.proofs.Rows.{early_at_start}
use Rattle.matched_pairs.specs.Limits.{IsWithin, KeepsLimits, AllKeepLimits, SessionsAreUndisturbed}
use Rattle.matched_pairs.proofs.Beginning.{has_heard, IsNewIn, Begins, new_heard, new_reads, begins_in}
use Rattle.matched_pairs.proofs.Events.{never_failed, no_cause}

true_false : true ≡ false → ⊥
true_false e = cc

-- what is known before a happening
record Known (c : post.Codecs) (cs : car.Codecs) (st : Station) (plan : CarPlan) (h : List Happening) : Type 0 where
  pair : IsPair c cs st.post plan
  run : runs.IsRun c cs st h
  stands : Stands st h
  begins : Begins st h

-- ---- a request

suits_by : (ph : CarPhase) (facts later : Facts) (shown : ℕ) → is_ready facts.pilot ≡ true → IsSound facts.isolation → facts.renew ≡ false → (ph ≡ phase.Starting → facts.contactor ≡ standing.Opened)
    → Suits ph (exchange facts later shown)
suits_by phase.CableChecking facts later shown ready sound renew opened = (ready, sound)
suits_by phase.Starting facts later shown ready sound renew opened = (ready, opened refl)
suits_by phase.Charging facts later shown ready sound renew opened = renew
suits_by other facts later shown ready sound renew opened = tt

-- before PowerDelivery Start nothing was ordered of the contactor
opened_by : (c : post.Codecs) (cs : car.Codecs) (st : Station) (h : List Happening) (x : Session) → runs.IsRun c cs st h → (station_state st h).session ≡ Some x → is_late x.stage.row ≡ false
    → AllByRecursion LeavesContactor h ⊎ IsLate (station_state st h) → (station_state st h).facts.contactor ≡ standing.Opened
opened_by c cs st h x r e l (inl all) = stays_opened c cs st h r all
opened_by c cs st h x r e l (inr late) = absurd (true_false (sym (subst IsLateIn e late.row) ∙ l))

heard_by : (b : Bool) (c : post.Codecs) (st : Station) (h : List Happening) (r : Reading) (act : Act) → has_heard h ≡ b → Begins st h → Acts c st.post (Shows st.limit [] []) (station_state st h) (Some r) act true
    → has_heard h ≡ true
heard_by true c st h r act e k i = e
heard_by false c st h r act e k i = absurd (new_reads c st.post st.limit (station_state st h) r act (k.new e) i)

suits_asked : (c : post.Codecs) (cs : car.Codecs) (st : Station) (plan : CarPlan) (h : List Happening) (b : Both) (x : Session) (r : Reading) (act : Act) → Known c cs st plan h → Meets st.post b
    → (station_state st h).session ≡ Some x → x.stage ≡ b.post → Acts c st.post (Shows st.limit [] []) (station_state st h) (Some r) act true
    → (later : Facts) (shown : ℕ) → Suits b.car.phase (exchange (station_state st h).facts later shown)
suits_asked c cs st plan h b x r act n m e stage i later shown =
    let k : Begins st h = n.begins in
    let stands : Stands st h = n.stands in
    let calm : AreCalm (station_state st h).facts = facts_are_calm c cs st h n.run in
    let ready : (station_state st h).facts.pilot ≡ pilot.C = k.ready (heard_by (has_heard h) c st h r act refl k i) in
    suits_by b.car.phase (station_state st h).facts later shown (ap is_ready ready) calm.isolation calm.renew
    (λ start. opened_by c cs st h x n.run e (ap (λ (z : Stage). is_late z.row) stage ∙ early_at_start st.post b m start) stands.late)

suits : (words : Words) (reading : Option Reading) (c : post.Codecs) (cs : car.Codecs) (st : Station) (plan : CarPlan) (h : List Happening) (act : Act) → Known c cs st plan h → IsAt c cs st plan words h
    → Acts c st.post (Shows st.limit [] []) (station_state st h) reading act true → IfRead reading (SuitsWords st.post plan words (station_state st h).facts)
suits words None c cs st plan h act n p i = tt
suits NoneYet (Some r) c cs st plan h act n p i = tt
suits (Read dialect xs) (Some r) c cs st plan h act n p i =
    let pair : IsPair c cs st.post plan = n.pair in
    let a : IsAsked st.post plan dialect xs (station_state st h) (car_state plan h) (to_station h) (to_car h) =
    posts_do c cs st.post plan st.limit (Read dialect xs) (station_state st h) (car_state plan h) (to_station h) (to_car h) (Some r) act n.pair p i in
    suits_asked c cs st plan h (both st.post plan token dialect xs) a.session r act n (they_meet st.post plan token dialect xs pair.paired p.0) a.session_is a.stage_is i

-- ---- a hearing

no_row : (r : Phase) (own : Phase) → r ≡ own → needs_isolation own ≡ false → needs_isolation r ≡ false
no_row r own e f = ap needs_isolation e ∙ f

needs_none : (x : Session) → IsNewIn (Some x) → needs_isolation x.stage.row ≡ false
needs_none x n = ap needs_isolation n.0

not_invalid : (b : Bool) (st : Station) (h : List Happening) (event : PlantEvent) (s : Charger) (x : Session) → has_heard h ≡ b → Begins st h → IsCharger st.post.free h s
    → (station_state st (ChargerTells event ∷ h)).session ≡ Some x → (slice_get s.moments 1 ≡ Some None) ⊎ (needs_isolation x.stage.row ≡ false)
not_invalid true st h event s x e k i there = inl (k.measured e s i)
not_invalid false st h event s x e k i there =
    inr (needs_none x (subst IsNewIn there (new_heard (station_state st h).arrived (station_state st h).session (station_state st h).clock (k.new e))))

tells_by : (o : Option Session) (c : post.Codecs) (cs : car.Codecs) (st : Station) (plan : CarPlan) (h : List Happening) (event : PlantEvent) (old after : Charger) → Known c cs st plan h
    → IsCharger st.post.free h old → Comes old (moment h) event after → (station_state st (ChargerTells event ∷ h)).session ≡ o → IsWithin st.post o event (station_state st (ChargerTells event ∷ h))
    → IsNoCause st.post o (Plant event) (station_state st (ChargerTells event ∷ h))
tells_by None c cs st plan h event old after n i x there w = tt
tells_by (Some session) c cs st plan h event old after n i x there w =
    let stands : Stands st h = n.stands in
    no_cause old after (moment h) event st.post session (station_state st (ChargerTells event ∷ h)) x (not_invalid (has_heard h) st h event old session refl n.begins i there) (stands.linked old i) w

no_event : (o : Option Session) (plan : PostPlan) (bytes : List ℕ) (s : State) → IsNoCause plan o (Bytes bytes) s
no_event None plan bytes s = tt
no_event (Some x) plan bytes s = tt

no_tick : (o : Option Session) (plan : PostPlan) (s : State) → IsNoCause plan o Clock s
no_tick None plan s = tt
no_tick (Some x) plan s = tt

tells : (c : post.Codecs) (cs : car.Codecs) (st : Station) (plan : CarPlan) (h : List Happening) (event : PlantEvent) → Known c cs st plan h → MayTurn st h (ChargerTells event) → KeepsLimits st plan h (ChargerTells event)
    → IsUndisturbed st.post (station_state st (ChargerTells event ∷ h))
tells c cs st plan h event n f d =
    let t = f.turn in
    let after : Stands st (ChargerTells event ∷ h) = tells_on st h event n.stands in
    record {
      repeats = never_failed (station_state st (ChargerTells event ∷ h)).facts.contactor (slice_get t.0.moments 5) (slice_get t.0.moments 6) (after.linked t.0 (f.charger, f.charger_is, t.1));
      times = d.0;
      events = tells_by (station_state st (ChargerTells event ∷ h)).session c cs st plan h event f.charger t.0 n f.charger_is t.1 refl d.1;
    }

-- no order failed
repeats : (st : Station) (h : List Happening) (s : Charger) → Stands st h → IsCharger st.post.free h s → repeating (station_state st h).facts.contactor ≡ nothing
repeats st h s k i = never_failed (station_state st h).facts.contactor (slice_get s.moments 5) (slice_get s.moments 6) (k.linked s i)

goes : (c : post.Codecs) (cs : car.Codecs) (st : Station) (plan : CarPlan) (h : List Happening) (e : Happening) → Known c cs st plan h → Follows c cs st h e → KeepsLimits st plan h e → GoesUndisturbed c cs st plan h e
goes c cs st plan h (StationDoes reading act) n f d = λ words p. suits words reading c cs st plan h act n p f
goes c cs st plan h (ChargerTells event) n f d = tells c cs st plan h event n f d
goes c cs st plan h (StationHears bytes) n f d = record {
  repeats = repeats st h f.charger n.stands f.charger_is;
  times = d;
  events = no_event (station_state st (StationHears bytes ∷ h)).session st.post bytes (station_state st (StationHears bytes ∷ h));
}
goes c cs st plan h (CarHears bytes) n f d = d
goes c cs st plan h TimePasses n f d = (
  record {
    repeats = repeats st h f.charger n.stands f.charger_is;
    times = d.0;
    events = no_tick (station_state st (TimePasses ∷ h)).session st.post (station_state st (TimePasses ∷ h));
  },
  d.1,
)
goes c cs st plan h (CarReads word) n f d = tt
goes c cs st plan h (CarDoes act) n f d = tt
goes c cs st plan h (CarComes other) n f d = tt
goes c cs st plan h CarGoes n f d = tt
goes c cs st plan h NumberIsDrawn n f d = tt

-- ---- all that happens

goes_in : (c : post.Codecs) (cs : car.Codecs) (st : Station) (plan : CarPlan) (session : List Happening) → IsPair c cs st.post (joined plan) → AllByRecursion runs.IsWithin session
    → runs.IsRun c cs st (session ++ CarComes plan ∷ []) → AllByRecursion (IsShort 65544) (session ++ CarComes plan ∷ []) → AllKeepLimits st (joined plan) (session ++ CarComes plan ∷ [])
    → AllGoUndisturbed c cs st (joined plan) (session ++ CarComes plan ∷ [])
goes_in c cs st plan [] p w r l d = (tt, tt)
goes_in c cs st plan (e ∷ session) p w r l d =
    let before : AllGoUndisturbed c cs st (joined plan) (session ++ CarComes plan ∷ []) = goes_in c cs st plan session p w.1 r.0 l.1 d.0 in (
      before,
      goes c cs st (joined plan) (session ++ CarComes plan ∷ []) e (record {
        pair = p;
        run = r.0;
        stands = contactors_follow c cs st plan (session ++ CarComes plan ∷ []) p (record { session = session; h_is = refl; within = w.1; run = r.0 }) l.1 before;
        begins = begins_in c cs st plan session w.1 r.0;
      }) r.1 d.1,
    )

pub sessions_are_undisturbed : (c : post.Codecs) (cs : car.Codecs) → SessionsAreUndisturbed c cs
sessions_are_undisturbed c cs st plan h p f l d =
    subst (λ (x : List Happening). AllGoUndisturbed c cs st (joined plan) x) (sym f.h_is)
    (goes_in c cs st plan f.session p f.within (subst (λ (x : List Happening). runs.IsRun c cs st x) f.h_is f.run) (subst (λ (x : List Happening). AllByRecursion (IsShort 65544) x) f.h_is l)
    (subst (λ (x : List Happening). AllKeepLimits st (joined plan) x) f.h_is d))
