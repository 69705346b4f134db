-- A post whose row waits, and which has nothing to do, has a contactor that closes.
use Rattle.std.proofs.Common.{◌≡◌, ℕ, Bool, true, false, ◌&&◌, if◌then◌else◌, List, [], ◌∷◌, Option, Some, None, refl, ap, sym, subst, ◌∙◌, ◌⊎◌, inl, inr}
use Rattle.std.specs.Option.{option_map}
use Rattle.charge_world.specs.declared.heard.PlantEvent.{PlantEvent}
use Rattle.charge_world.specs.declared.heard.PlantEvent.TheVariants as plant
use Rattle.charge_world.specs.declared.ports.Order.{Order}
use Rattle.charge_world.specs.declared.ports.Order.TheVariants as order
use Rattle.session_words.specs.declared.cause.EndCause.{EndCause}
use Rattle.session_words.specs.declared.phase.Standing.{Standing}
use Rattle.session_words.specs.declared.phase.Standing.TheVariants as standing
use Rattle.session_words.specs.declared.plan.CarPlan.{CarPlan}
use Rattle.session_words.specs.declared.plan.PostPlan.{PostPlan}
use Rattle.session_rules.specs.declared.stage.Stage.{Stage}
use Rattle.session_rules.specs.Orders.{order_of}
use Rattle.session_rules.specs.Reply.{waiting_reply}
use Rattle.session_rules.specs.Stages.{is_waiting}
use Rattle.post_spec.specs.Codecs as post
use Rattle.post_spec.specs.Steps.{Bytes, Plant, Clock, Act, Give, Send, Answer, End, Reading}
use Rattle.station_spec.specs.States.{Said, Agenda, Todo, Session, State, nothing, first}
use Rattle.station_spec.specs.States as states
use Rattle.station_spec.specs.Deciding.{confirms, confirming, charging, charging_by, eventing, decided}
use Rattle.station_spec.specs.Hearing.{session_opened, with_bytes, hearing}
use Rattle.station_spec.specs.Judging.{order_by, filled}
use Rattle.station_spec.specs.Acting.{since_order, acted}
use Rattle.station_spec.specs.Next.{Acts}
use Rattle.station_spec.specs.Sharing.{Shows}
use Rattle.car_spec.specs.Codecs as car
use Rattle.pipe_spec.specs.Histories.{Happening, StationDoes, token, to_station, to_car}
use Rattle.pipe_spec.specs.Turns.{Station, station_state, car_state}
use Rattle.pair_words.specs.Exchanges.{Both, asked, judged}
use Rattle.pair_words.specs.Meeting.{Meets}
use Rattle.pair_words.specs.Laws.{both, end_of, IsAnswered}
use Rattle.pair_words.proofs.Sessions.{they_meet}
use Rattle.pair_deeds.proofs.Posts.{posts_decide_by_events}
use Rattle.pair_readings.specs.Readings.{HasAnswered}
use Rattle.matched_pairs.specs.Phases.{exchange, Words, NoneYet, Read}
use Rattle.matched_pairs.specs.Moves.{IsPair, IfRead, SuitsWords}
use Rattle.matched_pairs.proofs.PostPhases.{since_stage}
use Rattle.matched_pairs.specs.Acts.{IsOfBeginning}
use Rattle.matched_pairs.specs.Hearings.{IsNoCause, IsUndisturbed}
use Rattle.matched_pairs.specs.Requests.{SaysOrEnds, IsOffered, HasKept}
use Rattle.matched_pairs.proofs.Requested.{posts_do}
use Rattle.matched_pairs.proofs.Keeps.{posts_keep}
use Rattle.matched_pairs.specs.Courses.{IsAt}
use Rattle.matched_pairs.proofs.Contactors.{IsFirstOf, first_of}
use Rattle.matched_pairs.proofs.Places.{heard, contactor_heard}
use Rattle.matched_pairs.proofs.Rows.{accepts}
use Rattle.matched_pairs.proofs.Asked.{GivesByReading, replied_not}
use Rattle.matched_pairs.proofs.Starting.{waits_for_start, starts_closed}

true_false : true ≡ false → ⊥
true_false e = cc

some_none : {A : Type 0} (a : A) → Some a ≡ None → ⊥
some_none a e = cc

some_session : (a b : Session) → Some a ≡ Some b → a ≡ b
some_session a b e = cc

-- else it has something to do
abbrev pub IsClosingOrBusy : PostPlan → State → Type 0
IsClosingOrBusy plan s = (s.facts.contactor ≡ standing.Closing) ⊎ (first (decided plan s).agenda ≡ None → ⊥)

abbrev pub WaitsFor : PostPlan → State → Type 0
WaitsFor plan s = (x : Session) → s.session ≡ Some x → is_waiting x.stage.row ≡ true → IsClosingOrBusy plan s

pub closes : (plan : PostPlan) (s : State) → IsClosingOrBusy plan s → first (decided plan s).agenda ≡ None → s.facts.contactor ≡ standing.Closing
closes plan s (inl e) q = e
closes plan s (inr n) q = absurd (n q)

-- ---- it hears something

record Before (o : Option Session) (x : Session) : Type 0 where
  old : Session
  old_is : o ≡ Some old
  waits : is_waiting old.stage.row ≡ true

before : (arrived : Option ℕ) (o : Option Session) (clock : ℕ) (bytes : List ℕ) (x : Session) → option_map (with_bytes bytes) (session_opened arrived clock o) ≡ Some x → is_waiting x.stage.row ≡ true → Before o x
before None None clock bytes x e w = absurd (some_none x (sym e))
before None (Some y) clock bytes x e w =
    let same : with_bytes bytes y ≡ x = some_session (with_bytes bytes y) x e in
    record { old = y; old_is = refl; waits = ap (λ (z : Session). is_waiting z.stage.row) same ∙ w }
before (Some came) o clock bytes x e w =
    let same = some_session _ x e in
    absurd (true_false (sym w ∙ ap (λ (z : Session). is_waiting z.stage.row) (sym same)))

closes_before : (plan : PostPlan) (s : State) (bytes : List ℕ) (x : Session) → WaitsFor plan s → first (decided plan s).agenda ≡ None → option_map (with_bytes bytes) (session_opened s.arrived s.clock s.session) ≡ Some x
    → is_waiting x.stage.row ≡ true → s.facts.contactor ≡ standing.Closing
closes_before plan s bytes x k q e w =
    let b : Before s.session x = before s.arrived s.session s.clock bytes x e w in
    closes plan s (k b.old b.old_is b.waits) q

pub hears_waits : (plan : PostPlan) (s : State) (at : ℕ) (bytes : List ℕ) → WaitsFor plan s → first (decided plan s).agenda ≡ None → WaitsFor plan (hearing at (Bytes bytes) s)
hears_waits plan s at bytes k q = λ x e w. inl (closes_before plan s bytes x k q e w)

pub passes_waits : (plan : PostPlan) (s : State) (at : ℕ) → WaitsFor plan s → first (decided plan s).agenda ≡ None → WaitsFor plan (hearing at Clock s)
passes_waits plan s at k q = λ x e w. inl (closes_before plan s [] x k q e w)

-- the feedback of closed is something to do
still_heard : (event : PlantEvent) → confirms event ≡ false → heard standing.Closing event ≡ standing.Closing
still_heard (plant.Feedback true) e = absurd (true_false e)
still_heard (plant.Feedback false) e = refl
still_heard (plant.Pilot state) e = refl
still_heard (plant.Isolation level) e = refl
still_heard (plant.Measured voltage current) e = refl
still_heard plant.Paid e = refl
still_heard plant.Emergency e = refl
still_heard plant.StopAsked e = refl
still_heard plant.RenewAsked e = refl

confirmed : (plan : PostPlan) (s : State) (at : ℕ) (event : PlantEvent) (x : Session) → confirms event ≡ true → (hearing at (Plant event) s).session ≡ Some x → is_waiting x.stage.row ≡ true
    → IsUndisturbed plan (hearing at (Plant event) s) → first (decided plan (hearing at (Plant event) s)).agenda ≡ None → ⊥
confirmed plan s at event x c e w d q =
    let none : IsNoCause plan (Some x) (Plant event) (hearing at (Plant event) s) = subst (λ (o : Option Session). IsNoCause plan o (Plant event) (hearing at (Plant event) s)) e d.events in
    let v : eventing plan (Plant event) (hearing at (Plant event) s) ≡ record nothing { reply = Some (Said x.stage.dialect (waiting_reply x.stage (hearing at (Plant event) s).facts plan)) } =
    ap (λ (o : Option Session). charging plan o event (hearing at (Plant event) s)) e
    ∙ ap (λ (y : Option EndCause). charging_by y (confirming plan x event (hearing at (Plant event) s)) s.live) none
    ∙ ap (λ (b : Bool). if b && confirms event then record nothing { reply = Some (Said x.stage.dialect (waiting_reply x.stage (hearing at (Plant event) s).facts plan)) } else nothing) w
    ∙ ap (λ (b : Bool). if b then record nothing { reply = Some (Said x.stage.dialect (waiting_reply x.stage (hearing at (Plant event) s).facts plan)) } else nothing) c in
    let decides = posts_decide_by_events plan (hearing at (Plant event) s) (record nothing { reply = Some (Said x.stage.dialect (waiting_reply x.stage (hearing at (Plant event) s).facts plan)) }) refl refl d.repeats d.times v refl in
    some_none (states.Say (Said x.stage.dialect (waiting_reply x.stage (hearing at (Plant event) s).facts plan))) (sym (ap (λ (t : State). first t.agenda) decides) ∙ q)

tells_by : (b : Bool) (plan : PostPlan) (s : State) (at : ℕ) (event : PlantEvent) (x : Session) → confirms event ≡ b → (hearing at (Plant event) s).session ≡ Some x → is_waiting x.stage.row ≡ true
    → IsUndisturbed plan (hearing at (Plant event) s) → s.facts.contactor ≡ standing.Closing → IsClosingOrBusy plan (hearing at (Plant event) s)
tells_by true plan s at event x c e w d k = inr (confirmed plan s at event x c e w d)
tells_by false plan s at event x c e w d k = inl (contactor_heard event s.facts ∙ ap (λ (z : Standing). heard z event) k ∙ still_heard event c)

pub tells_waits : (plan : PostPlan) (s : State) (at : ℕ) (event : PlantEvent) → WaitsFor plan s → first (decided plan s).agenda ≡ None → IsUndisturbed plan (hearing at (Plant event) s) → WaitsFor plan (hearing at (Plant event) s)
tells_waits plan s at event k q d = λ x e w. tells_by (confirms event) plan s at event x refl e w d (closes_before plan s [] x k q e w)

-- ---- it does something

acted_row : (act : Act) (t : State) (x new : Session) → t.session ≡ Some new → (acted act true t).session ≡ Some x → is_waiting x.stage.row ≡ true → is_waiting new.stage.row ≡ true
acted_row (Give o) t x new n e w =
    let same : since_order t.clock o new ≡ x = some_session (since_order t.clock o new) x (sym (ap (option_map (since_order t.clock o)) n) ∙ e) in
    ap (λ (s : Stage). is_waiting s.row) (sym (since_stage t.clock o new)) ∙ ap (λ (z : Session). is_waiting z.stage.row) same ∙ w
acted_row (Send bytes) t x new n e w = absurd (replied_not t.session t.clock x e w)
acted_row (Answer bytes) t x new n e w = ap (λ (z : Session). is_waiting z.stage.row) (some_session new x (sym n ∙ e)) ∙ w
acted_row (End cause) t x new n e w = absurd (some_none x (sym e))

-- a request
pub asks_waits : (c : post.Codecs) (plan : PostPlan) (car_plan : CarPlan) (limit : ℕ) (b : Both) (s : State) (r : Reading) (act : Act) → Meets plan b → HasKept plan car_plan b s r → Acts c plan (Shows limit [] []) s (Some r) act true
    → WaitsFor plan (acted act true (filled plan (Some r) s))
asks_waits c plan car_plan limit b s r act m t i = λ x e w.
    let n : HasAnswered plan car_plan b (exchange s.facts s.facts r.shown) (decided plan s) t.session (filled plan (Some r) s) = t.kept in
    let answered : IsAnswered plan car_plan b (exchange s.facts s.facts r.shown) = t.answered in
    let waits : is_waiting (judged plan car_plan b (exchange s.facts s.facts r.shown)).row ≡ true =
    ap (λ (z : Stage). is_waiting z.row) (sym n.stage) ∙ acted_row act (filled plan (Some r) s) x n.new n.session_is e w in
    let start = waits_for_start plan car_plan b (exchange s.facts s.facts r.shown) m waits in
    let own : IsFirstOf (order_by (end_of b.car.phase) (decided plan s).live (order_of b.post s.facts plan (asked car_plan b.car) r.shown)) act =
    first_of _ _ _ c (filled plan (Some r) s).agenda i.todo act n.agenda i.acts i.done in
    let closes : act ≡ Give order.Close =
    subst (λ (o : Option Order). IsFirstOf o act) (starts_closed plan car_plan b (exchange s.facts s.facts r.shown) (decided plan s).live (accepts _ answered.accepted) start) own in
    inl (subst (λ (a : Act). (acted a true (filled plan (Some r) s)).facts.contactor ≡ standing.Closing) (sym closes) refl)

-- something that it decided before
says_waits : (act : Act) (plan : PostPlan) (s : State) → SaysOrEnds plan s act → WaitsFor plan (acted act true (filled plan None s))
says_waits (Send bytes) plan s i = λ x e w. absurd (replied_not (filled plan None s).session (filled plan None s).clock x e w)
says_waits (End number) plan s i = λ x e w. absurd (some_none x (sym e))
says_waits (Give o) plan s i = absurd i
says_waits (Answer bytes) plan s i = absurd i

begins_waits : (act : Act) (reading : Option Reading) (plan : PostPlan) (s : State) → IsOfBeginning act → WaitsFor plan (acted act true (filled plan reading s))
begins_waits (Send bytes) reading plan s i = λ x e w. absurd (replied_not (filled plan reading s).session (filled plan reading s).clock x e w)
begins_waits (Give o) reading plan s i = absurd i
begins_waits (End number) reading plan s i = absurd i
begins_waits (Answer bytes) reading plan s i = absurd i

pub does_waits : (words : Words) (reading : Option Reading) (c : post.Codecs) (cs : car.Codecs) (st : Station) (plan : CarPlan) (h : List Happening) (act : Act) → IsPair c cs st.post plan → IsAt c cs st plan words h
    → Acts c st.post (Shows st.limit [] []) (station_state st h) reading act true → IfRead reading (SuitsWords st.post plan words (station_state st h).facts) → WaitsFor st.post (station_state st (StationDoes reading act ∷ h))
does_waits NoneYet reading c cs st plan h act p phase i d =
    let o : IsOffered (station_state st h) act = posts_do c cs st.post plan st.limit NoneYet (station_state st h) (car_state plan h) (to_station h) (to_car h) reading act p phase i in
    begins_waits act reading st.post (station_state st h) o.says
does_waits (Read dialect xs) None c cs st plan h act p phase i d =
    says_waits act st.post (station_state st h) (posts_do c cs st.post plan st.limit (Read dialect xs) (station_state st h) (car_state plan h) (to_station h) (to_car h) None act p phase i)
does_waits (Read dialect xs) (Some r) c cs st plan h act p phase i d =
    asks_waits c st.post plan st.limit (both st.post plan token dialect xs) (station_state st h) r act (they_meet st.post plan token dialect xs p.paired phase.0)
    (posts_keep c cs st.post plan st.limit dialect xs (station_state st h) (car_state plan h) (to_station h) (to_car h) r act p phase d i) i

-- it gives an order only as it reads a request
says_gives : (act : Act) (plan : PostPlan) (s : State) → SaysOrEnds plan s act → GivesByReading None act
says_gives (Send bytes) plan s i = tt
says_gives (End number) plan s i = tt
says_gives (Give o) plan s i = i
says_gives (Answer bytes) plan s i = tt

begins_gives : (act : Act) (reading : Option Reading) → IsOfBeginning act → GivesByReading reading act
begins_gives (Send bytes) None i = tt
begins_gives act (Some r) i = tt
begins_gives (Give o) None i = i
begins_gives (End number) None i = tt
begins_gives (Answer bytes) None i = tt

pub gives_by_reading : (words : Words) (reading : Option Reading) (c : post.Codecs) (cs : car.Codecs) (st : Station) (plan : CarPlan) (h : List Happening) (act : Act) → IsPair c cs st.post plan → IsAt c cs st plan words h
    → Acts c st.post (Shows st.limit [] []) (station_state st h) reading act true → GivesByReading reading act
gives_by_reading NoneYet reading c cs st plan h act p phase i =
    let o : IsOffered (station_state st h) act = posts_do c cs st.post plan st.limit NoneYet (station_state st h) (car_state plan h) (to_station h) (to_car h) reading act p phase i in
    begins_gives act reading o.says
gives_by_reading (Read dialect xs) None c cs st plan h act p phase i =
    says_gives act st.post (station_state st h) (posts_do c cs st.post plan st.limit (Read dialect xs) (station_state st h) (car_state plan h) (to_station h) (to_car h) None act p phase i)
gives_by_reading (Read dialect xs) (Some r) c cs st plan h act p phase i = tt
