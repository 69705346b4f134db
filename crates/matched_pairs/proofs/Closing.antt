-- A contactor that closes is heard of in time.
use Rattle.std.proofs.Common.{◌≡◌, ℕ, ◌+◌, ◌≤◌, ◌<◌, ◌^◌, nat_lt, Bool, true, false, if◌then◌else◌, List, [], ◌∷◌, ◌++◌, Option, Some, None, refl, ap, sym, subst, ◌∙◌, arith}
use Rattle.std.proofs.lemmas.Bool.Decides.{nat_tests}
use Rattle.std.specs.List.{AllByRecursion}
use Rattle.std.specs.Option.{option_map}
use Rattle.std.specs.Prelude.{slice_get}
use Rattle.charge_world.specs.declared.heard.PlantEvent.{PlantEvent}
use Rattle.charge_world.specs.declared.heard.PlantEvent.TheVariants as plant
use Rattle.charge_world.specs.declared.ports.Order.TheVariants as order
use Rattle.session_words.specs.declared.phase.Phase.TheVariants as row
use Rattle.session_words.specs.declared.phase.Standing.TheVariants as standing
use Rattle.session_words.specs.declared.plan.CarPlan.{CarPlan}
use Rattle.session_words.specs.declared.plan.PostPlan.{PostPlan}
use Rattle.session_rules.specs.declared.stage.Stage.{Stage}
use Rattle.plant_sim.specs.Charger.{Charger, later, moved, events, Comes, NoneReached}
use Rattle.post_spec.specs.Codecs as post
use Rattle.post_spec.specs.Steps.{Act, Give, Send, Answer, End, Reading}
use Rattle.station_spec.specs.States.{Agenda, Session, State}
use Rattle.station_spec.specs.Deciding.{confirms}
use Rattle.station_spec.specs.Hearing.{session_opened, with_bytes}
use Rattle.station_spec.specs.Judging.{filled}
use Rattle.station_spec.specs.Acting.{since_order}
use Rattle.station_spec.specs.Next.{Acts}
use Rattle.station_spec.specs.Sharing.{Shows}
use Rattle.car_spec.specs.Codecs as car
use Rattle.pipe_spec.specs.Chargers.{IsCharger}
use Rattle.pipe_spec.specs.Histories.{Happening, CarComes, ChargerTells, StationHears, CarHears, TimePasses, StationDoes, CarReads, CarDoes, CarGoes, NumberIsDrawn, joined, moment, token, to_station, to_car}
use Rattle.pipe_spec.specs.Turns.{Station, station_state, car_state, MayTurn, Follows}
use Rattle.pipe_spec.specs.Runs.{IsRun, IsWithin}
use Rattle.pipe_laws.specs.OneMessage.{IsShort}
use Rattle.pipe_laws.proofs.Once.{charger_once}
use Rattle.pipe_facts.proofs.Facts.{StayBehind, acts_stay}
use Rattle.pipe_facts.proofs.Moments.{other_place, same_place}
use Rattle.pair_words.specs.Meeting.{Meets}
use Rattle.pair_words.specs.Laws.{both}
use Rattle.pair_words.proofs.Sessions.{they_meet}
use Rattle.matched_pairs.specs.Phases.{Words, NoneYet, Read}
use Rattle.matched_pairs.specs.Moves.{IsPair}
use Rattle.matched_pairs.proofs.Answers.{TakesWords, meets_takes}
use Rattle.matched_pairs.specs.Requests.{SaysOrEnds, IsOffered, IsAsked}
use Rattle.matched_pairs.proofs.Requested.{posts_do}
use Rattle.matched_pairs.specs.Courses.{IsAt, AllGoUndisturbed, GoesWell}
use Rattle.matched_pairs.proofs.Courses.{sessions_go_well}
use Rattle.matched_pairs.specs.Contactors.{IsClosing, Stands}
use Rattle.matched_pairs.proofs.Waiting.{no_reply}
use Rattle.matched_pairs.proofs.Places.{contactor_heard, nothing_closes}
use Rattle.matched_pairs.proofs.Contactors.{not_closing, still_closing, contactors_follow}
use Rattle.matched_pairs.specs.Clocks.{ShowMoment}
use Rattle.matched_pairs.proofs.Clocks.{clocks, filled_clock}
use Rattle.matched_pairs.specs.Closing.{IsHeardSoon, ClosesAreHeard}

true_false : true ≡ false → ⊥
true_false e = cc

some_none : {A : Type 0} (a : A) → Some a ≡ None → ⊥
some_none a e = cc

some_session : (a b : Session) → Some a ≡ Some b → a ≡ b
some_session a b e = cc

some_event : (a b : PlantEvent) → Some a ≡ Some b → a ≡ b
some_event a b e = cc

-- ---- while the contactor closes the post does nothing

says_not : (act : Act) (plan : PostPlan) (s : State) → SaysOrEnds plan s act → IsClosing s → ⊥
says_not (Send bytes) plan s i k = some_none i.0 (sym i.1 ∙ no_reply plan s k.none k.unheard)
says_not (End number) plan s i k = some_none i.0 (sym i.1 ∙ ap (λ (a : Agenda). a.ending) k.none)
says_not (Give o) plan s i k = i
says_not (Answer bytes) plan s i k = i

acts_not : (words : Words) (reading : Option Reading) (c : post.Codecs) (cs : car.Codecs) (st : Station) (plan : CarPlan) (h : List Happening) (act : Act) → IsPair c cs st.post plan → IsAt c cs st plan words h
    → Acts c st.post (Shows st.limit [] []) (station_state st h) reading act true → IsClosing (station_state st h) → ⊥
acts_not NoneYet reading c cs st plan h act p phase i k =
    let o : IsOffered (station_state st h) act = posts_do c cs st.post plan st.limit NoneYet (station_state st h) (car_state plan h) (to_station h) (to_car h) reading act p phase i in
    not_closing (station_state st h) o.session row.Connected o.session_is (ap (λ (x : Stage). x.row) o.stage_is) refl k
acts_not (Read dialect xs) None c cs st plan h act p phase i k =
    says_not act st.post (station_state st h) (posts_do c cs st.post plan st.limit (Read dialect xs) (station_state st h) (car_state plan h) (to_station h) (to_car h) None act p phase i) k
acts_not (Read dialect xs) (Some r) c cs st plan h act p phase i k =
    let a : IsAsked st.post plan dialect xs (station_state st h) (car_state plan h) (to_station h) (to_car h) =
    posts_do c cs st.post plan st.limit (Read dialect xs) (station_state st h) (car_state plan h) (to_station h) (to_car h) (Some r) act p phase i in
    let meets : Meets st.post (both st.post plan token dialect xs) = they_meet st.post plan token dialect xs p.paired phase.0 in
    let takes : TakesWords (both st.post plan token dialect xs).post.row = meets_takes st.post (both st.post plan token dialect xs) meets in
    not_closing (station_state st h) a.session (both st.post plan token dialect xs).post.row a.session_is (ap (λ (x : Stage). x.row) a.stage_is) takes.waits k

-- ---- its order to close

soon_enough : (now : ℕ) → now ≤ 18446744073709551500 → nat_lt (now + 50) (2 ^ 64) ≡ true
soon_enough now l = grind (arith, nat_tests)

comes_by : (b : Bool) (now : ℕ) → b ≡ true → (if b then Some (now + 50) else None) ≡ Some (now + 50)
comes_by true now e = refl
comes_by false now e = absurd (true_false (sym e))

since_is : (o : Option Session) (now : ℕ) (x : Session) → option_map (since_order now order.Close) o ≡ Some x → x.since ≡ now
since_is None now x e = absurd (some_none x (sym e))
since_is (Some y) now x e = ap (λ (z : Session). z.since) (sym (some_session (since_order now order.Close y) x e))

abbrev pub ClosesSoon : Station → List Happening → Type 0
ClosesSoon st h = moment h ≤ 18446744073709551500 → (station_state st h).facts.contactor ≡ standing.Closing → (s : Charger) → IsCharger st.post.free h s
    → IsHeardSoon (station_state st h) (slice_get s.moments 5) (moment h)

now_soon : (a b : ℕ) → a ≡ b → b ≤ a + 60
now_soon a b e = omega (arith, e)

orders : (st : Station) (h : List Happening) (reading : Option Reading) → (station_state st h).clock ≡ moment h → Stands st h → ((station_state st h).facts.contactor ≡ standing.Closing → ⊥)
    → Stands st (StationDoes reading (Give order.Close) ∷ h) → ClosesSoon st (StationDoes reading (Give order.Close) ∷ h)
orders st h reading clock k n after l e s x =
    let c : IsClosing (station_state st (StationDoes reading (Give order.Close) ∷ h)) = after.closing refl in
    let at : c.session.since ≡ moment h = since_is (filled st.post reading (station_state st h)).session (filled st.post reading (station_state st h)).clock c.session c.session_is ∙ filled_clock st.post reading (station_state st h) ∙ clock in
    record {
      session = c.session;
      session_is = c.session_is;
      to_come = ap (λ (z : Charger). slice_get z.moments 5) x.2
          ∙ same_place x.0.moments 5 (later (moment h) 50) None (nothing_closes (station_state st h).facts.contactor (slice_get x.0.moments 5) (slice_get x.0.moments 6) n (k.linked x.0 x.1))
          ∙ ap (λ (o : Option ℕ). Some o) (comes_by (nat_lt (moment h + 50) (2 ^ 64)) (moment h) (soon_enough (moment h) l))
          ∙ ap (λ (t : ℕ). Some (Some (t + 50))) (sym at);
      soon = now_soon c.session.since (moment h) at;
    }

opening_not : standing.Opening ≡ standing.Closing → ⊥
opening_not e = cc

does : (act : Act) (st : Station) (h : List Happening) (reading : Option Reading) → (station_state st h).clock ≡ moment h → Stands st h → ((station_state st h).facts.contactor ≡ standing.Closing → ⊥)
    → Stands st (StationDoes reading act ∷ h) → ClosesSoon st (StationDoes reading act ∷ h)
does (Give order.Close) st h reading clock k n after l e s x = orders st h reading clock k n after l e s x
does (Give order.Open) st h reading clock k n after l e s x = absurd (opening_not e)
does (Give (order.Limits voltage current watts)) st h reading clock k n after l e s x =
    let stay : StayBehind (Give (order.Limits voltage current watts)) (station_state st h).facts (station_state st (StationDoes reading (Give (order.Limits voltage current watts)) ∷ h)).facts = acts_stay st.post reading (Give (order.Limits voltage current watts)) (station_state st h) in
    absurd (n (sym (stay.contactor tt) ∙ e))
does (Send bytes) st h reading clock k n after l e s x =
    let stay : StayBehind (Send bytes) (station_state st h).facts (station_state st (StationDoes reading (Send bytes) ∷ h)).facts = acts_stay st.post reading (Send bytes) (station_state st h) in
    absurd (n (sym (stay.contactor tt) ∙ e))
does (Answer bytes) st h reading clock k n after l e s x =
    let stay : StayBehind (Answer bytes) (station_state st h).facts (station_state st (StationDoes reading (Answer bytes) ∷ h)).facts = acts_stay st.post reading (Answer bytes) (station_state st h) in
    absurd (n (sym (stay.contactor tt) ∙ e))
does (End cause) st h reading clock k n after l e s x =
    let stay : StayBehind (End cause) (station_state st h).facts (station_state st (StationDoes reading (End cause) ∷ h)).facts = acts_stay st.post reading (End cause) (station_state st h) in
    absurd (n (sym (stay.contactor tt) ∙ e))

-- ---- until it is heard

elsewhere : (old after : Charger) (now : ℕ) (event : PlantEvent) → confirms event ≡ false → (x : Comes old now event after) → x.place ≡ 5 → ⊥
elsewhere old after now event n x e =
    let v = x.event in
    let at : slice_get (events (moved old) v.0) 5 ≡ Some event = ap (λ (p : ℕ). slice_get (events (moved old) v.0) p) (sym e) ∙ v.2 in
    true_false (ap confirms (some_event (plant.Feedback true) event at) ∙ n)

-- what is heard leaves the session
hears : (s : State) (closed : Option (Option ℕ)) (now : ℕ) (t : State) (after : Option (Option ℕ)) (later_now : ℕ) (bytes : List ℕ) → s.arrived ≡ None → t.session ≡ option_map (with_bytes bytes) (session_opened s.arrived s.clock s.session)
    → after ≡ closed → (k : IsHeardSoon s closed now) → later_now ≤ k.session.since + 60 → IsHeardSoon t after later_now
hears s closed now t after later_now bytes a e f k l = record {
  session = with_bytes bytes k.session;
  session_is = e ∙ ap (λ (o : Option ℕ). option_map (with_bytes bytes) (session_opened o s.clock s.session)) a ∙ ap (option_map (with_bytes bytes)) k.session_is;
  to_come = f ∙ k.to_come;
  soon = l;
}

tells : (st : Station) (h : List Happening) (event : PlantEvent) → Stands st h → ClosesSoon st h → ClosesSoon st (ChargerTells event ∷ h)
tells st h event k soon l e s x =
    let c = still_closing event (station_state st h).facts.contactor (sym (contactor_heard event (station_state st h).facts) ∙ e) in
    let closing : IsClosing (station_state st h) = k.closing c.0 in
    let before : IsHeardSoon (station_state st h) (slice_get x.0.moments 5) (moment h) = soon l c.0 x.0 x.1 in
    let y : Comes x.0 (moment h) event s = x.2 in
    hears (station_state st h) (slice_get x.0.moments 5) (moment h) (station_state st (ChargerTells event ∷ h)) (slice_get s.moments 5) (moment h) [] closing.arrived refl
    (ap (λ (z : Charger). slice_get z.moments 5) y.after ∙ other_place x.0.moments y.place 5 None (elsewhere x.0 s (moment h) event c.1 y)) before before.soon

earlier : (now most : ℕ) → now + 10 ≤ most → now ≤ most
earlier now most l = omega (arith, l)

ticks : (now since : ℕ) → now < since + 50 → now + 10 ≤ since + 60
ticks now since l = omega (arith, l)

passes : (st : Station) (h : List Happening) → MayTurn st h TimePasses → Stands st h → ClosesSoon st h → ClosesSoon st (TimePasses ∷ h)
passes st h f k soon l e s x =
    let t = f.turn in
    let closing : IsClosing (station_state st h) = k.closing e in
    let before : IsHeardSoon (station_state st h) (slice_get s.moments 5) (moment h) = soon (earlier (moment h) 18446744073709551500 l) e s x in
    let same : f.charger ≡ s = charger_once st.post.free h f.charger s f.charger_is x in
    let none : NoneReached s.moments (moment h) = subst (λ (z : Charger). NoneReached z.moments (moment h)) same t.0 in
    hears (station_state st h) (slice_get s.moments 5) (moment h) (station_state st (TimePasses ∷ h)) (slice_get s.moments 5) (moment h + 10) [] closing.arrived refl refl before
    (ticks (moment h) before.session.since (none 5 (before.session.since + 50) before.to_come))

step : (c : post.Codecs) (cs : car.Codecs) (st : Station) (plan : CarPlan) (h : List Happening) (e : Happening) → IsPair c cs st.post plan → GoesWell c cs st plan h → (station_state st h).clock ≡ moment h → IsWithin e
    → Follows c cs st h e → Stands st h → Stands st (e ∷ h) → ClosesSoon st h → ClosesSoon st (e ∷ h)
step c cs st plan h (StationDoes reading act) p w clock i f k after soon =
    does act st h reading clock k (λ e. acts_not w.words reading c cs st plan h act p w.phase f (k.closing e)) after
step c cs st plan h (ChargerTells event) p w clock i f k after soon = tells st h event k soon
step c cs st plan h (StationHears bytes) p w clock i f k after soon = λ l e s x.
    let closing : IsClosing (station_state st h) = k.closing e in
    let before : IsHeardSoon (station_state st h) (slice_get s.moments 5) (moment h) = soon l e s x in
    hears (station_state st h) (slice_get s.moments 5) (moment h) (station_state st (StationHears bytes ∷ h)) (slice_get s.moments 5) (moment h) bytes closing.arrived refl refl before before.soon
step c cs st plan h TimePasses p w clock i f k after soon = passes st h f k soon
step c cs st plan h (CarHears bytes) p w clock i f k after soon = soon
step c cs st plan h (CarReads word) p w clock i f k after soon = soon
step c cs st plan h (CarDoes act) p w clock i f k after soon = soon
step c cs st plan h (CarComes other) p w clock i f k after soon = absurd (true_false (sym i))
step c cs st plan h CarGoes p w clock i f k after soon = absurd (true_false (sym i))
step c cs st plan h NumberIsDrawn p w clock i f k after soon = absurd (true_false (sym i))

opened_not : standing.Opened ≡ standing.Closing → ⊥
opened_not e = cc

soon_in : (c : post.Codecs) (cs : car.Codecs) (st : Station) (plan : CarPlan) (session : List Happening) → IsPair c cs st.post (joined plan) → AllByRecursion IsWithin session
    → IsRun c cs st (session ++ CarComes plan ∷ []) → AllByRecursion (IsShort 65544) (session ++ CarComes plan ∷ []) → AllGoUndisturbed c cs st (joined plan) (session ++ CarComes plan ∷ [])
    → ClosesSoon st (session ++ CarComes plan ∷ [])
soon_in c cs st plan [] p w r l d = λ b e s x. absurd (opened_not e)
soon_in c cs st plan (e ∷ session) p w r l d =
    let show : ShowMoment st (joined plan) (session ++ CarComes plan ∷ []) = clocks st plan session w.1 in
    step c cs st (joined plan) (session ++ CarComes plan ∷ []) e p
    (sessions_go_well c cs st plan (session ++ CarComes plan ∷ []) p (record { session = session; h_is = refl; within = w.1; run = r.0 }) l.1 d.0)
    show.station w.0 r.1
    (contactors_follow c cs st plan (session ++ CarComes plan ∷ []) p (record { session = session; h_is = refl; within = w.1; run = r.0 }) l.1 d.0)
    (contactors_follow c cs st plan (e ∷ (session ++ CarComes plan ∷ [])) p (record { session = e ∷ session; h_is = refl; within = w; run = r }) l d)
    (soon_in c cs st plan session p w.1 r.0 l.1 d.0)

pub closes_are_heard : (c : post.Codecs) (cs : car.Codecs) → ClosesAreHeard c cs
closes_are_heard c cs st plan h p f l d =
    subst (λ (x : List Happening). ClosesSoon st x) (sym f.h_is)
    (soon_in c cs st plan f.session p f.within (subst (λ (x : List Happening). IsRun c cs st x) f.h_is f.run) (subst (λ (x : List Happening). AllByRecursion (IsShort 65544) x) f.h_is l)
    (subst (λ (x : List Happening). AllGoUndisturbed c cs st (joined plan) x) f.h_is d))
