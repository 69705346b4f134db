-- Where the contactor stands, behind all that may happen in the first session.
use Rattle.std.proofs.Common.{◌≡◌, ℕ, ◌+◌, Bool, true, false, if◌then◌else◌, List, [], ◌∷◌, ◌++◌, Option, Some, None, refl, ap, sym, subst, ◌∙◌, ◌⊎◌, inl, inr, arith}
use Rattle.std.specs.List.{AllByRecursion}
use Rattle.std.specs.Option.{option_map}
use Rattle.std.specs.Prelude.{slice_get}
use Rattle.charge_world.specs.declared.heard.PlantEvent.{PlantEvent}
use Rattle.charge_world.specs.declared.heard.PlantEvent.TheVariants as plant
use Rattle.charge_world.specs.declared.ports.Order.{Order}
use Rattle.charge_world.specs.declared.ports.Order.TheVariants as order
use Rattle.session_words.specs.declared.cause.EndCause.{EndCause}
use Rattle.session_words.specs.declared.phase.Phase.{Phase}
use Rattle.session_words.specs.declared.phase.Phase.TheVariants as row
use Rattle.session_words.specs.declared.phase.Standing.{Standing}
use Rattle.session_words.specs.declared.phase.Standing.TheVariants as standing
use Rattle.session_words.specs.declared.plan.CarPlan.{CarPlan}
use Rattle.contactor.specs.Calls.{standing_heard}
use Rattle.session_rules.specs.declared.stage.Stage.{Stage}
use Rattle.session_rules.specs.Orders.{order_of}
use Rattle.session_rules.specs.Stages.{is_waiting}
use Rattle.plant_sim.specs.Charger.{Charger}
use Rattle.post_spec.specs.Codecs as post
use Rattle.post_spec.specs.Sessions.{brought}
use Rattle.post_spec.specs.Steps.{Event, Bytes, Plant, Clock, Act, Give, Send, Answer, End, Reading}
use Rattle.station_spec.specs.States.{Spoken, Said, Agenda, Wording, Session, State, Todo, nothing, first}
use Rattle.station_spec.specs.States as states
use Rattle.station_spec.specs.Deciding.{confirms, decided}
use Rattle.station_spec.specs.Hearing.{arrival, session_opened, with_bytes, hearing}
use Rattle.station_spec.specs.Judging.{order_by, filled}
use Rattle.station_spec.specs.Acting.{since_order, replied, acted}
use Rattle.station_spec.specs.Next.{IsDone, Acts}
use Rattle.station_spec.specs.Sharing.{Shows}
use Rattle.station_laws.proofs.Decided.{same_session}
use Rattle.car_rules.specs.declared.stage.CarPhase.TheVariants as phase
use Rattle.car_spec.specs.Codecs as car
use Rattle.pipe_spec.specs.Histories.{Happening, CarComes, ChargerTells, StationHears, CarHears, TimePasses, StationDoes, CarReads, CarDoes, CarGoes, NumberIsDrawn, joined, moment, token, to_station, to_car}
use Rattle.pipe_spec.specs.Turns.{Station, station_state, car_state, Follows}
use Rattle.pipe_spec.specs.Runs.{IsRun, IsWithin}
use Rattle.pipe_laws.specs.OneMessage.{IsShort}
use Rattle.pipe_facts.specs.Calm.{LeavesContactorBy, LeavesContactor}
use Rattle.pipe_facts.proofs.Facts.{StayBehind, acts_stay}
use Rattle.pipe_facts.proofs.Calm.{stays_opened}
use Rattle.pipe_facts.proofs.Moments.{came_elsewhere}
use Rattle.pair_words.specs.Exchanges.{Both, asked, judged}
use Rattle.pair_words.specs.Meeting.{Meets}
use Rattle.pair_words.specs.Laws.{both, end_of}
use Rattle.pair_words.proofs.Sessions.{they_meet}
use Rattle.pair_readings.specs.Readings.{HasAnswered}
use Rattle.matched_pairs.specs.Phases.{exchange, Words, NoneYet, Read}
use Rattle.matched_pairs.specs.Moves.{IsPair, IfRead, SuitsWords}
use Rattle.matched_pairs.proofs.PostPhases.{same_arrived}
use Rattle.matched_pairs.proofs.Answers.{TakesWords, meets_takes}
use Rattle.matched_pairs.specs.Acts.{IsOfBeginning}
use Rattle.matched_pairs.specs.Requests.{SaysOrEnds, IsOffered, HasKept}
use Rattle.matched_pairs.proofs.Requested.{posts_do}
use Rattle.matched_pairs.proofs.Keeps.{posts_keep}
use Rattle.matched_pairs.specs.Courses.{IsAt, AllGoUndisturbed, GoesUndisturbed, GoesWell}
use Rattle.matched_pairs.proofs.Courses.{true_false, sessions_go_well}
use Rattle.matched_pairs.specs.Contactors.{IsLinked, is_confirming, IsClosing, is_late, IsLateIn, IsLate, Stands, ContactorsFollow}
use Rattle.matched_pairs.proofs.Waiting.{no_reply}
use Rattle.matched_pairs.proofs.Rows.{is_from_start, orders_from_start, closes_at_start, late_from_start, early_at_start, late_confirmed, late_behind, waits_at_start}
use Rattle.matched_pairs.proofs.Places.{linked_same, heard, contactor_heard, tells, left, closes, opens}

some_none : {A : Type 0} (a : A) → Some a ≡ None → ⊥
some_none a e = cc

some_session : (a b : Session) → Some a ≡ Some b → a ≡ b
some_session a b e = cc

some_todo : (a b : Todo) → Some a ≡ Some b → a ≡ b
some_todo a b e = cc

-- ---- the session of a post

pub late_in : (o : Option Session) (x : Session) → o ≡ Some x → is_late x.stage.row ≡ true → IsLateIn o
late_in o x e l = subst IsLateIn (sym e) l

pub late_of : (o : Option Session) (x : Session) → o ≡ Some x → IsLateIn o → is_late x.stage.row ≡ true
late_of o x e l = subst IsLateIn e l

-- a session that stands in this row isn't closing
pub not_closing : (s : State) (x : Session) (r : Phase) → s.session ≡ Some x → x.stage.row ≡ r → is_waiting r ≡ false → IsClosing s → ⊥
not_closing s x r e i w k =
    let same : k.session ≡ x = some_session k.session x (sym k.session_is ∙ e) in
    true_false true refl (sym k.waits ∙ ap (λ (z : Session). is_waiting z.stage.row) same ∙ ap is_waiting i ∙ w)

-- ---- an act that isn't of the contactor

late_act : (st : Station) (h : List Happening) (reading : Option Reading) (act : Act) → LeavesContactorBy act → AllByRecursion LeavesContactor h ⊎ IsLate (station_state st h)
    → (IsLate (station_state st h) → IsLate (station_state st (StationDoes reading act ∷ h))) → AllByRecursion LeavesContactor (StationDoes reading act ∷ h) ⊎ IsLate (station_state st (StationDoes reading act ∷ h))
late_act st h reading act l (inl all) k = inl (l, all)
late_act st h reading act l (inr late) k = inr (k late)

leaves : (st : Station) (h : List Happening) (reading : Option Reading) (act : Act) → LeavesContactorBy act → Stands st h → (IsClosing (station_state st h) → ⊥)
    → (IsLate (station_state st h) → IsLate (station_state st (StationDoes reading act ∷ h))) → Stands st (StationDoes reading act ∷ h)
leaves st h reading act l k n late =
    let stay : StayBehind act (station_state st h).facts (station_state st (StationDoes reading act ∷ h)).facts = acts_stay st.post reading act (station_state st h) in
    let same : (station_state st (StationDoes reading act ∷ h)).facts.contactor ≡ (station_state st h).facts.contactor = stay.contactor l in
    record {
      linked = λ s x. subst (λ (z : Standing). IsLinked z (slice_get s.moments 5) (slice_get s.moments 6)) (sym same)
          (linked_same (station_state st h).facts.contactor (slice_get x.0.moments 5) (slice_get x.0.moments 6) (slice_get s.moments 5) (slice_get s.moments 6)
          (left act h x.0 s 5 (omega arith) l x.2) (left act h x.0 s 6 (omega arith) l x.2) (k.linked x.0 x.1));
      closing = λ e. absurd (n (k.closing (sym same ∙ e)));
      late = late_act st h reading act l k.late late;
    }

-- ---- the post says something, or ends

says_late : (o : Option Session) (now : ℕ) → IsLateIn o → IsLateIn (option_map (replied now) o)
says_late None now l = tt
says_late (Some x) now l = late_confirmed x.stage.row l

without : (act : Act) (st : Station) (h : List Happening) → SaysOrEnds st.post (station_state st h) act → Stands st h → Stands st (StationDoes None act ∷ h)
without (Send bytes) st h i k =
    leaves st h None (Send bytes) tt k
    (λ c. some_none i.0 (sym i.1 ∙ no_reply st.post (station_state st h) c.none c.unheard))
    (λ late. record {
      arrived = same_arrived st.post (station_state st h) ∙ late.arrived;
      row = says_late (decided st.post (station_state st h)).session (decided st.post (station_state st h)).clock
          (subst IsLateIn (sym (same_session st.post (station_state st h))) late.row);
    })
without (End number) st h i k =
    leaves st h None (End number) tt k
    (λ c. some_none i.0 (sym i.1 ∙ ap (λ (a : Agenda). a.ending) c.none))
    (λ late. record { arrived = same_arrived st.post (station_state st h) ∙ late.arrived; row = tt })
without (Give o) st h i k = absurd i
without (Answer bytes) st h i k = absurd i

says_first : (act : Act) → IsOfBeginning act → LeavesContactorBy act
says_first (Send bytes) i = tt
says_first (Give o) i = absurd i
says_first (End number) i = absurd i
says_first (Answer bytes) i = absurd i

offered : (st : Station) (h : List Happening) (reading : Option Reading) (act : Act) → IsOffered (station_state st h) act → Stands st h → Stands st (StationDoes reading act ∷ h)
offered st h reading act i k =
    leaves st h reading act (says_first act i.says) k
    (λ c. not_closing (station_state st h) i.session row.Connected i.session_is (ap (λ (x : Stage). x.row) i.stage_is) refl c)
    (λ late. absurd (true_false true refl (sym (late_of (station_state st h).session i.session i.session_is late.row) ∙ ap (λ (x : Stage). is_late x.row) i.stage_is)))

-- ---- the post reads a request

-- what is done first of an agenda
abbrev pub IsFirstOf : Option Order → Act → Type 0
IsFirstOf (Some o) act = act ≡ Give o
IsFirstOf None act = LeavesContactorBy act

pub first_of : (o : Option Order) (r : Option Spoken) (e : Option EndCause) (c : post.Codecs) (a : Agenda) (todo : Todo) (act : Act) → a ≡ record nothing { order = o; reply = r; ending = e } → first a ≡ Some todo
    → IsDone c todo act true → IsFirstOf o act
first_of (Some o) r e c a todo act is f d =
    let own : todo ≡ states.Give o = some_todo todo (states.Give o) (sym f ∙ ap first is) in
    subst (λ (x : Todo). IsDone c x act true) own d
first_of None (Some spoken) e c a todo act is f d =
    let own : todo ≡ states.Say spoken = some_todo todo (states.Say spoken) (sym f ∙ ap first is) in
    let done = subst (λ (x : Todo). IsDone c x act true) own d in
    subst LeavesContactorBy (sym done.2) tt
first_of None None (Some why) c a todo act is f d =
    let own : todo ≡ states.Finish why = some_todo todo (states.Finish why) (sym f ∙ ap first is) in
    let done = subst (λ (x : Todo). IsDone c x act true) own d in
    subst LeavesContactorBy (sym done.0) tt
first_of None None None c a todo act is f d = absurd (some_none todo (sym f ∙ ap first is))

-- the row behind it
late_new : (act : Act) (t : State) (x : Session) → LeavesContactorBy act → t.session ≡ Some x → t.arrived ≡ None → is_late x.stage.row ≡ true → IsLate (acted act true t)
late_new (Give (order.Limits voltage current watts)) t x i e a l = record { arrived = a; row = late_in _ x (ap (option_map (since_order t.clock (order.Limits voltage current watts))) e) l }
late_new (Give order.Open) t x i e a l = absurd i
late_new (Give order.Close) t x i e a l = absurd i
late_new (Send bytes) t x i e a l = record { arrived = a; row = late_in _ (replied t.clock x) (ap (option_map (replied t.clock)) e) (late_confirmed x.stage.row l) }
late_new (Answer bytes) t x i e a l = record { arrived = a; row = late_in t.session x e l }
late_new (End cause) t x i e a l = record { arrived = a; row = tt }

record Asks (c : post.Codecs) (cs : car.Codecs) (st : Station) (plan : CarPlan) (b : Both) (h : List Happening) (r : Reading) : Type 0 where
  run : IsRun c cs st h
  meets : Meets st.post b
  stands : Stands st h
  kept : HasKept st.post plan b (station_state st h) r

-- before it the contactor doesn't close
asked_not_closing : (c : post.Codecs) (cs : car.Codecs) (st : Station) (plan : CarPlan) (b : Both) (h : List Happening) (r : Reading) → Asks c cs st plan b h r → IsClosing (station_state st h) → ⊥
asked_not_closing c cs st plan b h r a k =
    let t : HasKept st.post plan b (station_state st h) r = a.kept in
    let takes : TakesWords b.post.row = meets_takes st.post b a.meets in
    not_closing (station_state st h) t.session b.post.row t.session_is (ap (λ (x : Stage). x.row) t.stage_is) takes.waits k

-- from PowerDelivery Start on the row behind it is late
row_is_late : (c : post.Codecs) (cs : car.Codecs) (st : Station) (plan : CarPlan) (b : Both) (h : List Happening) (r : Reading) (a : Asks c cs st plan b h r) → is_from_start b.car.phase ≡ true
    → let t : HasKept st.post plan b (station_state st h) r = a.kept in let n : HasAnswered st.post plan b (exchange (station_state st h).facts (station_state st h).facts r.shown) (decided st.post (station_state st h)) t.session (filled st.post (Some r) (station_state st h)) = t.kept in is_late n.new.stage.row ≡ true
row_is_late c cs st plan b h r a e =
    let t : HasKept st.post plan b (station_state st h) r = a.kept in
    let n = t.kept in
    ap (λ (x : Stage). is_late x.row) n.stage ∙ late_behind st.post plan b (exchange (station_state st h).facts (station_state st h).facts r.shown) a.meets t.answered e

asks_on : (c : post.Codecs) (cs : car.Codecs) (st : Station) (plan : CarPlan) (b : Both) (h : List Happening) (r : Reading) (act : Act) → Asks c cs st plan b h r → LeavesContactorBy act
    → Stands st (StationDoes (Some r) act ∷ h)
asks_on c cs st plan b h r act a l =
    let t : HasKept st.post plan b (station_state st h) r = a.kept in
    let n = t.kept in
    leaves st h (Some r) act l a.stands (asked_not_closing c cs st plan b h r a)
    (λ late. late_new act (filled st.post (Some r) (station_state st h)) n.new l n.session_is t.arrived
    (row_is_late c cs st plan b h r a
    (late_from_start st.post b a.meets (sym (ap (λ (x : Stage). is_late x.row) t.stage_is) ∙ late_of (station_state st h).session t.session t.session_is late.row))))

-- it orders its contactor closed
opened_at_start : (c : post.Codecs) (cs : car.Codecs) (st : Station) (plan : CarPlan) (b : Both) (h : List Happening) (r : Reading) → Asks c cs st plan b h r → b.car.phase ≡ phase.Starting
    → AllByRecursion LeavesContactor h ⊎ IsLate (station_state st h) → (station_state st h).facts.contactor ≡ standing.Opened
opened_at_start c cs st plan b h r a e (inl all) = stays_opened c cs st h a.run all
opened_at_start c cs st plan b h r a e (inr late) =
    let t : HasKept st.post plan b (station_state st h) r = a.kept in
    absurd (true_false true refl (sym (late_of (station_state st h).session t.session t.session_is late.row) ∙ ap (λ (x : Stage). is_late x.row) t.stage_is ∙ early_at_start st.post b a.meets e))

waits_for : (w : Bool) (ending : Option EndCause) (spoken : Option Spoken) (a : Agenda) (o : Option Order) → a ≡ record nothing { order = o; reply = if w then None else spoken; ending = ending } → w ≡ true → ending ≡ None
    → record a { order = None } ≡ nothing
waits_for true ending spoken a o e f g = ap (λ (x : Agenda). record x { order = None }) e ∙ ap (λ (x : Option EndCause). record nothing { ending = x }) g
waits_for false ending spoken a o e f g = absurd (true_false true refl (sym f))

orders_closed : (c : post.Codecs) (cs : car.Codecs) (st : Station) (plan : CarPlan) (b : Both) (h : List Happening) (r : Reading) → Asks c cs st plan b h r → b.car.phase ≡ phase.Starting
    → Stands st (StationDoes (Some r) (Give order.Close) ∷ h)
orders_closed c cs st plan b h r a e =
    let k : Stands st h = a.stands in
    let t : HasKept st.post plan b (station_state st h) r = a.kept in
    let n = t.kept in
    let opened : (station_state st h).facts.contactor ≡ standing.Opened = opened_at_start c cs st plan b h r a e k.late in
    let waits : is_waiting (judged st.post plan b (exchange (station_state st h).facts (station_state st h).facts r.shown)).row ≡ true =
    waits_at_start st.post plan b (exchange (station_state st h).facts (station_state st h).facts r.shown) a.meets t.answered e in
    record {
      linked = λ s x. closes x.0 s (moment h) x.2 (subst (λ (z : Standing). IsLinked z (slice_get x.0.moments 5) (slice_get x.0.moments 6)) opened (k.linked x.0 x.1));
      closing = λ i. record {
        session = since_order (filled st.post (Some r) (station_state st h)).clock order.Close n.new;
        session_is = ap (option_map (since_order (filled st.post (Some r) (station_state st h)).clock order.Close)) n.session_is;
        waits = ap (λ (x : Stage). is_waiting x.row) n.stage ∙ waits;
        arrived = t.arrived;
        none = waits_for _ _ _ (filled st.post (Some r) (station_state st h)).agenda _ n.agenda waits (ap end_of e);
        unheard = λ u. t.part_is;
      };
      late = inr (record {
        arrived = t.arrived;
        row = late_in _ (since_order (filled st.post (Some r) (station_state st h)).clock order.Close n.new)
            (ap (option_map (since_order (filled st.post (Some r) (station_state st h)).clock order.Close)) n.session_is)
            (row_is_late c cs st plan b h r a (ap is_from_start e));
      });
    }

-- or open
opening_not : standing.Opening ≡ standing.Closing → ⊥
opening_not e = cc

orders_open : (c : post.Codecs) (cs : car.Codecs) (st : Station) (plan : CarPlan) (b : Both) (h : List Happening) (r : Reading) → Asks c cs st plan b h r → is_from_start b.car.phase ≡ true
    → Stands st (StationDoes (Some r) (Give order.Open) ∷ h)
orders_open c cs st plan b h r a e =
    let k : Stands st h = a.stands in
    let t : HasKept st.post plan b (station_state st h) r = a.kept in
    let n = t.kept in
    record {
      linked = λ s x. opens x.0 s (moment h) (station_state st h).facts.contactor x.2 (λ i. asked_not_closing c cs st plan b h r a (k.closing i)) (k.linked x.0 x.1);
      closing = λ i. absurd (opening_not i);
      late = inr (record {
        arrived = t.arrived;
        row = late_in _ n.new (ap (option_map (since_order (filled st.post (Some r) (station_state st h)).clock order.Open)) n.session_is)
            (row_is_late c cs st plan b h r a e);
      });
    }

orders_by : (o : Option Order) (c : post.Codecs) (cs : car.Codecs) (st : Station) (plan : CarPlan) (b : Both) (h : List Happening) (r : Reading) (act : Act) → Asks c cs st plan b h r
    → order_by (end_of b.car.phase) (decided st.post (station_state st h)).live (order_of b.post (station_state st h).facts st.post (asked plan b.car) r.shown) ≡ o → IsFirstOf o act
    → Stands st (StationDoes (Some r) act ∷ h)
orders_by None c cs st plan b h r act a e i = asks_on c cs st plan b h r act a i
orders_by (Some (order.Limits voltage current watts)) c cs st plan b h r act a e i = asks_on c cs st plan b h r act a (subst LeavesContactorBy (sym i) tt)
orders_by (Some order.Close) c cs st plan b h r act a e i =
    subst (λ (x : Act). Stands st (StationDoes (Some r) x ∷ h)) (sym i)
    (orders_closed c cs st plan b h r a
    (closes_at_start st.post plan b (exchange (station_state st h).facts (station_state st h).facts r.shown) (decided st.post (station_state st h)).live e))
orders_by (Some order.Open) c cs st plan b h r act a e i =
    subst (λ (x : Act). Stands st (StationDoes (Some r) x ∷ h)) (sym i)
    (orders_open c cs st plan b h r a
    (orders_from_start st.post plan b (exchange (station_state st h).facts (station_state st h).facts r.shown) (decided st.post (station_state st h)).live order.Open e tt))

asks : (c : post.Codecs) (cs : car.Codecs) (st : Station) (plan : CarPlan) (b : Both) (h : List Happening) (r : Reading) (act : Act) → Asks c cs st plan b h r
    → Acts c st.post (Shows st.limit [] []) (station_state st h) (Some r) act true → Stands st (StationDoes (Some r) act ∷ h)
asks c cs st plan b h r act a i =
    let t : HasKept st.post plan b (station_state st h) r = a.kept in
    let n = t.kept in
    orders_by _ c cs st plan b h r act a refl
    (first_of _ _ _ c (filled st.post (Some r) (station_state st h)).agenda i.todo act n.agenda i.acts i.done)

does : (words : Words) (reading : Option Reading) (c : post.Codecs) (cs : car.Codecs) (st : Station) (plan : CarPlan) (h : List Happening) (act : Act) → IsPair c cs st.post plan → IsAt c cs st plan words h
    → IsRun c cs st h → Acts c st.post (Shows st.limit [] []) (station_state st h) reading act true → IfRead reading (SuitsWords st.post plan words (station_state st h).facts) → Stands st h
    → Stands st (StationDoes reading act ∷ h)
does NoneYet reading c cs st plan h act p phase run i d k =
    offered st h reading act (posts_do c cs st.post plan st.limit NoneYet (station_state st h) (car_state plan h) (to_station h) (to_car h) reading act p phase i) k
does (Read dialect xs) None c cs st plan h act p phase run i d k =
    without act st h (posts_do c cs st.post plan st.limit (Read dialect xs) (station_state st h) (car_state plan h) (to_station h) (to_car h) None act p phase i) k
does (Read dialect xs) (Some r) c cs st plan h act p phase run i d k =
    asks c cs st plan (both st.post plan token dialect xs) h r act (record {
      run = run;
      meets = they_meet st.post plan token dialect xs p.paired phase.0;
      stands = k;
      kept = posts_keep c cs st.post plan st.limit dialect xs (station_state st h) (car_state plan h) (to_station h) (to_car h) r act p phase d i;
    }) i

-- ---- it hears something

late_opened : (arrived : Option ℕ) (o : Option Session) (clock : ℕ) (bytes : List ℕ) → arrived ≡ None → IsLateIn o → IsLateIn (option_map (with_bytes bytes) (session_opened arrived clock o))
late_opened None None clock bytes e l = tt
late_opened None (Some x) clock bytes e l = l
late_opened (Some token) o clock bytes e l = absurd (some_none token e)

hears_late : (event : Event) (at : ℕ) (s : State) → arrival event ≡ None → IsLate s → IsLate (hearing at event s)
hears_late event at s e l = record { arrived = e; row = late_opened s.arrived s.session s.clock (brought event) l.arrived l.row }

hears_closing : (event : Event) (at : ℕ) (s : State) → arrival event ≡ None → is_confirming event ≡ false → IsClosing s → IsClosing (hearing at event s)
hears_closing event at s e n k = record {
  session = with_bytes (brought event) k.session;
  session_is = ap (λ (o : Option ℕ). option_map (with_bytes (brought event)) (session_opened o s.clock s.session)) k.arrived ∙ ap (option_map (with_bytes (brought event))) k.session_is;
  waits = k.waits;
  arrived = e;
  none = refl;
  unheard = λ u. absurd (true_false true refl (sym u ∙ n));
}

hears_on : (st : Station) (h : List Happening) (e : Happening) → LeavesContactor e → AllByRecursion LeavesContactor h ⊎ IsLate (station_state st h) → (IsLate (station_state st h) → IsLate (station_state st (e ∷ h)))
    → AllByRecursion LeavesContactor (e ∷ h) ⊎ IsLate (station_state st (e ∷ h))
hears_on st h e l (inl all) k = inl (l, all)
hears_on st h e l (inr late) k = inr (k late)

-- still closing
heard_closed : (now : Standing) → standing_heard now true ≡ standing.Closing → ⊥
heard_closed standing.Closing e = cc
heard_closed standing.Opened e = cc
heard_closed standing.Closed e = cc
heard_closed standing.Opening e = cc
heard_closed standing.MustOpen e = cc

heard_open : (now : Standing) → standing_heard now false ≡ standing.Closing → now ≡ standing.Closing
heard_open standing.Closing e = refl
heard_open standing.Opened e = e
heard_open standing.Closed e = cc
heard_open standing.Opening e = cc
heard_open standing.MustOpen e = cc

pub still_closing : (event : PlantEvent) (now : Standing) → heard now event ≡ standing.Closing → (now ≡ standing.Closing) × (confirms event ≡ false)
still_closing (plant.Feedback true) now e = absurd (heard_closed now e)
still_closing (plant.Feedback false) now e = (heard_open now e, refl)
still_closing (plant.Pilot state) now e = (e, refl)
still_closing (plant.Isolation level) now e = (e, refl)
still_closing (plant.Measured voltage current) now e = (e, refl)
still_closing plant.Paid now e = (e, refl)
still_closing plant.Emergency now e = (e, refl)
still_closing plant.StopAsked now e = (e, refl)
still_closing plant.RenewAsked now e = (e, refl)

pub tells_on : (st : Station) (h : List Happening) (event : PlantEvent) → Stands st h → Stands st (ChargerTells event ∷ h)
tells_on st h event k =
    let same : (station_state st (ChargerTells event ∷ h)).facts.contactor ≡ heard (station_state st h).facts.contactor event = contactor_heard event (station_state st h).facts in
    record {
      linked = λ s x. subst (λ (z : Standing). IsLinked z (slice_get s.moments 5) (slice_get s.moments 6)) (sym same)
          (tells x.0 s (moment h) event (station_state st h).facts.contactor x.2 (k.linked x.0 x.1));
      closing = λ e. let c = still_closing event (station_state st h).facts.contactor (sym same ∙ e) in
          hears_closing (Plant event) (moment h) (station_state st h) refl c.1 (k.closing c.0);
      late = hears_on st h (ChargerTells event) tt k.late (hears_late (Plant event) (moment h) (station_state st h) refl);
    }

step : (c : post.Codecs) (cs : car.Codecs) (st : Station) (plan : CarPlan) (h : List Happening) (e : Happening) → IsPair c cs st.post plan → GoesWell c cs st plan h → IsRun c cs st h → IsWithin e
    → Follows c cs st h e → GoesUndisturbed c cs st plan h e → Stands st h → Stands st (e ∷ h)
step c cs st plan h (StationDoes reading act) p w run i f d k = does w.words reading c cs st plan h act p w.phase run f (d w.words w.phase) k
step c cs st plan h (ChargerTells event) p w run i f d k = tells_on st h event k
step c cs st plan h (StationHears bytes) p w run i f d k = record {
  linked = k.linked;
  closing = λ e. hears_closing (Bytes bytes) (moment h) (station_state st h) refl refl (k.closing e);
  late = hears_on st h (StationHears bytes) tt k.late (hears_late (Bytes bytes) (moment h) (station_state st h) refl);
}
step c cs st plan h TimePasses p w run i f d k = record {
  linked = k.linked;
  closing = λ e. hears_closing Clock (moment h + 10) (station_state st h) refl refl (k.closing e);
  late = hears_on st h TimePasses tt k.late (hears_late Clock (moment h + 10) (station_state st h) refl);
}
step c cs st plan h (CarHears bytes) p w run i f d k = record { linked = k.linked; closing = k.closing; late = hears_on st h (CarHears bytes) tt k.late (λ l. l) }
step c cs st plan h (CarReads word) p w run i f d k = record { linked = k.linked; closing = k.closing; late = hears_on st h (CarReads word) tt k.late (λ l. l) }
step c cs st plan h (CarDoes act) p w run i f d k = record { linked = k.linked; closing = k.closing; late = hears_on st h (CarDoes act) tt k.late (λ l. l) }
step c cs st plan h (CarComes other) p w run i f d k = absurd (true_false false i refl)
step c cs st plan h CarGoes p w run i f d k = absurd (true_false false i refl)
step c cs st plan h NumberIsDrawn p w run i f d k = absurd (true_false false i refl)

opened_not : standing.Opened ≡ standing.Closing → ⊥
opened_not e = cc

base : (st : Station) (plan : CarPlan) → Stands st (CarComes plan ∷ [])
base st plan = record {
  linked = λ s x. (
    ap (λ (z : Charger). slice_get z.moments 5) x.2 ∙ came_elsewhere x.0 0 5 (omega arith) ∙ ap (λ (z : Charger). slice_get z.moments 5) x.1,
    ap (λ (z : Charger). slice_get z.moments 6) x.2 ∙ came_elsewhere x.0 0 6 (omega arith) ∙ ap (λ (z : Charger). slice_get z.moments 6) x.1,
  );
  closing = λ e. absurd (opened_not e);
  late = inl (tt, tt);
}

stands_in : (c : post.Codecs) (cs : car.Codecs) (st : Station) (plan : CarPlan) (session : List Happening) → IsPair c cs st.post (joined plan) → AllByRecursion IsWithin session
    → IsRun c cs st (session ++ CarComes plan ∷ []) → AllByRecursion (IsShort 65544) (session ++ CarComes plan ∷ []) → AllGoUndisturbed c cs st (joined plan) (session ++ CarComes plan ∷ [])
    → Stands st (session ++ CarComes plan ∷ [])
stands_in c cs st plan [] p w r l d = base st plan
stands_in c cs st plan (e ∷ session) p w r l d =
    step c cs st (joined plan) (session ++ CarComes plan ∷ []) e p
    (sessions_go_well c cs st plan (session ++ CarComes plan ∷ []) p (record { session = session; h_is = refl; within = w.1; run = r.0 }) l.1 d.0)
    r.0 w.0 r.1 d.1 (stands_in c cs st plan session p w.1 r.0 l.1 d.0)

pub contactors_follow : (c : post.Codecs) (cs : car.Codecs) → ContactorsFollow c cs
contactors_follow c cs st plan h p f l d =
    subst (λ (x : List Happening). Stands st x) (sym f.h_is)
    (stands_in c cs st plan f.session p f.within (subst (λ (x : List Happening). IsRun c cs st x) f.h_is f.run) (subst (λ (x : List Happening). AllByRecursion (IsShort 65544) x) f.h_is l)
    (subst (λ (x : List Happening). AllGoUndisturbed c cs st (joined plan) x) f.h_is d))
