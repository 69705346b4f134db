-- What a post makes of the request of an exchange.
use Rattle.std.proofs.Common.{◌≡◌, ℕ, ◌≤◌, Bool, true, false, if◌then◌else◌, List, [], ◌++◌, length, Option, Some, None, refl, ap, sym, subst, ◌∙◌, ◌⊎◌, inl, inr}
use Rattle.std.proofs.lemmas.List.{append-nil}
use Rattle.std.specs.Option.{option_map}
use Rattle.charge_world.specs.declared.offer.Dialect.{Dialect}
use Rattle.charge_world.specs.declared.ports.Order.{Order}
use Rattle.session_words.specs.declared.cause.EndCause.{EndCause}
use Rattle.session_words.specs.declared.facts.Facts.{Facts}
use Rattle.session_words.specs.declared.phase.Phase.{Phase}
use Rattle.session_words.specs.declared.phase.Phase.TheVariants as row
use Rattle.session_words.specs.declared.plan.CarPlan.{CarPlan}
use Rattle.session_words.specs.declared.plan.PostPlan.{PostPlan}
use Rattle.v2gtp_frames.specs.Frames.{frame}
use Rattle.session_rules.specs.Finishing.{is_ac}
use Rattle.session_rules.specs.Stages.{is_waiting, confirmed_row}
use Rattle.post_spec.specs.Codecs as post
use Rattle.post_spec.specs.Steps.{Act, Give, Send}
use Rattle.station_spec.specs.States.{Said, Agenda, Wording, Session, State, Todo, nothing, first}
use Rattle.station_spec.specs.States as states
use Rattle.station_spec.specs.Deciding.{decided}
use Rattle.station_spec.specs.Judging.{speaks_in, speaks}
use Rattle.station_spec.specs.Acting.{since_order, acted}
use Rattle.station_spec.specs.Next.{IsDone}
use Rattle.car_rules.specs.declared.stage.CarPhase.{CarPhase}
use Rattle.car_rules.specs.declared.stage.CarPhase.TheVariants as phase
use Rattle.car_rules.specs.Moves.{stops, leads}
use Rattle.car_spec.specs.Codecs as car
use Rattle.car_spec.specs.States as car_states
use Rattle.pipe_spec.specs.Histories.{station_says}
use Rattle.pair_words.specs.Exchanges.{Both, Outside, judged, reply, heard, behind}
use Rattle.pair_words.specs.Meeting.{power_row, IsRowFor, Meets, Suits}
use Rattle.pair_words.specs.Laws.{end_of, IsAnswered}
use Rattle.matched_pairs.specs.Ends.{Awaits}
use Rattle.matched_pairs.specs.Phases.{NothingComes, exchange, Talks, IsToReply, Closes, Replies}
use Rattle.matched_pairs.proofs.Messages.{says}
use Rattle.matched_pairs.proofs.PostPhases.{stays_busy, listens, since_stage, since_unread, Sends, sends}

some_none : {A : Type 0} (a : A) → Some a ≡ None → ⊥
some_none a e = cc

some_todo : (a b : Todo) → Some a ≡ Some b → a ≡ b
some_todo a b e = cc

-- ---- the rows in which the car asks something

pub record TakesWords (r : Phase) : Type 0 where
  pub waits : is_waiting r ≡ false
  pub speaks : (d : Dialect) → speaks_in r d ≡ Some d

takes : (r in_row : Phase) → r ≡ in_row → TakesWords in_row → TakesWords r
takes r in_row e t = subst TakesWords (sym e) t

takes_either : (ac : Bool) (r a b : Phase) → r ≡ power_row ac a b → TakesWords a → TakesWords b → TakesWords r
takes_either true r a b e s t = takes r a e s
takes_either false r a b e s t = takes r b e t

takes_one : (r a b : Phase) → (r ≡ a) ⊎ (r ≡ b) → TakesWords a → TakesWords b → TakesWords r
takes_one r a b (inl e) s t = takes r a e s
takes_one r a b (inr e) s t = takes r b e t

row_takes : (ac : Bool) (ph : CarPhase) (r : Phase) → IsRowFor ac ph r → TakesWords r
row_takes ac phase.SettingUp r e = takes r row.Negotiated e (record { waits = refl; speaks = λ d. refl })
row_takes ac phase.Discovering r e = takes r row.SetUp e (record { waits = refl; speaks = λ d. refl })
row_takes ac phase.Selecting r e = takes r row.Discovered e (record { waits = refl; speaks = λ d. refl })
row_takes ac phase.Authorizing r e = takes r row.Selected e (record { waits = refl; speaks = λ d. refl })
row_takes ac phase.Asking r e = takes r row.Authorized e (record { waits = refl; speaks = λ d. refl })
row_takes ac phase.CableChecking r e = takes r row.DcReady e.1 (record { waits = refl; speaks = λ d. refl })
row_takes ac phase.PreCharging r e =
    takes_one r row.DcChecked row.DcPreCharging e.1 (record { waits = refl; speaks = λ d. refl }) (record { waits = refl; speaks = λ d. refl })
row_takes ac phase.Starting r e =
    takes_either ac r row.AcReady row.DcPreCharging e (record { waits = refl; speaks = λ d. refl }) (record { waits = refl; speaks = λ d. refl })
row_takes ac phase.Charging r e =
    takes_either ac r row.AcCharging row.DcCharging e (record { waits = refl; speaks = λ d. refl }) (record { waits = refl; speaks = λ d. refl })
row_takes ac phase.Stopping r e =
    takes_either ac r row.AcCharging row.DcCharging e (record { waits = refl; speaks = λ d. refl }) (record { waits = refl; speaks = λ d. refl })
row_takes ac phase.Renegotiating r e = absurd e
row_takes ac (phase.Welding left) r e = takes r row.DcStopped e.1 (record { waits = refl; speaks = λ d. refl })
row_takes ac phase.Ending r e =
    takes_either ac r row.AcStopped row.DcStopped e (record { waits = refl; speaks = λ d. refl }) (record { waits = refl; speaks = λ d. refl })

pub meets_takes : (post_plan : PostPlan) (b : Both) → Meets post_plan b → TakesWords b.post.row
meets_takes post_plan b m = row_takes (is_ac post_plan.mode) b.car.phase b.post.row m.in_row

-- ---- a reply that waits isn't the last one

waits_not : (ac : Bool) (r : Phase) → confirmed_row r ≡ power_row ac row.AcStopped row.DcStopped → is_waiting r ≡ true → ⊥
waits_not true row.DcClosing e w = cc
waits_not true row.AcClosing e w = cc
waits_not false row.DcClosing e w = cc
waits_not false row.AcClosing e w = cc
waits_not ac other e w = cc

last_by : (ph : CarPhase) (post_plan : PostPlan) (plan : CarPlan) (b : Both) (x : Outside) → b.car.phase ≡ ph → IsAnswered post_plan plan b x → is_waiting (judged post_plan plan b x).row ≡ true → end_of ph ≡ None
last_by phase.Ending post_plan plan b x e i w =
    let m : Meets post_plan (behind post_plan plan b x) = i.meets in
    let last : (behind post_plan plan b x).car.phase ≡ phase.Ending = ap (λ (p : CarPhase). leads plan b.car.dialect p (heard post_plan plan b x).tell (stops plan b.car.cycles x.stop (heard post_plan plan b x).tell)) e in
    let in_row : IsRowFor (is_ac post_plan.mode) phase.Ending (behind post_plan plan b x).post.row =
    subst (λ (p : CarPhase). IsRowFor (is_ac post_plan.mode) p (behind post_plan plan b x).post.row) last m.in_row in
    absurd (waits_not (is_ac post_plan.mode) (judged post_plan plan b x).row in_row w)
last_by other post_plan plan b x e i w = refl

pub not_the_last : (post_plan : PostPlan) (plan : CarPlan) (b : Both) (x : Outside) → IsAnswered post_plan plan b x → is_waiting (judged post_plan plan b x).row ≡ true → end_of b.car.phase ≡ None
not_the_last post_plan plan b x i w = last_by b.car.phase post_plan plan b x refl i w

-- ---- what it does about the request

-- an act leads to this phase
pub record Acted (c : post.Codecs) (cc : car.Codecs) (post_plan : PostPlan) (plan : CarPlan) (b : Both) (k : car_states.State) (to_station to_car : List ℕ) (t : State) (act : Act) : Type 0 where
  pub own : Act
  pub act_is : act ≡ own
  pub phase : length (station_says own) ≤ 65544 → Talks c cc post_plan plan b (acted own true t) k to_station (to_car ++ station_says own)

-- its reply is under way
pub replying : (c : post.Codecs) (cc : car.Codecs) (post_plan : PostPlan) (plan : CarPlan) (b : Both) (k : car_states.State) (to_station to_car : List ℕ) (facts later : Facts) (shown : ℕ) (t : State) (act : Act)
    → Suits b.car.phase (exchange facts later shown)
    → Sends c post_plan t (judged post_plan plan b (exchange facts later shown)) b.car.dialect (reply post_plan plan b (exchange facts later shown)) (end_of b.car.phase) act
    → Awaits plan k (Some b.car) [] → NothingComes to_station to_car → Acted c cc post_plan plan b k to_station to_car t act
replying c cc post_plan plan b k to_station to_car facts later shown t act suits s awaits none = record {
  own = Send (frame s.payload);
  act_is = s.act_is;
  phase = λ l. Replies facts later shown s.payload [] suits s.encoded s.goes awaits none.station (says s.payload to_car none.car l);
}

-- what it keeps of the exchange
pub record Keeps (post_plan : PostPlan) (plan : CarPlan) (b : Both) (x : Outside) (t : State) (session : Session) : Type 0 where
  pub session_is : t.session ≡ Some session
  pub arrived : t.arrived ≡ None
  pub stage_is : session.stage ≡ judged post_plan plan b x
  pub unread_is : session.unread ≡ []
  pub part_is : t.part ≡ Wording

ordered : (t : State) (o : Order) (session : Session) → t.session ≡ Some session → (acted (Give o) true t).session ≡ Some (since_order t.clock o session)
ordered t o session e = ap (option_map (since_order t.clock o)) e

-- an order comes first: then its reply, or it waits for the contactor
gives_then : (c : post.Codecs) (cc : car.Codecs) (post_plan : PostPlan) (plan : CarPlan) (b : Both) (k : car_states.State) (to_station to_car : List ℕ) (facts : Facts) (shown : ℕ) (t : State) (session : Session) (o : Order) (w : Bool)
    → ((later : Facts) → Suits b.car.phase (exchange facts later shown)) → IsAnswered post_plan plan b (exchange facts facts shown)
    → Keeps post_plan plan b (exchange facts facts shown) t session → is_waiting (judged post_plan plan b (exchange facts facts shown)).row ≡ w
    → t.agenda ≡ record nothing { order = Some o; reply = if w then None else Some (Said b.car.dialect (reply post_plan plan b (exchange facts facts shown))); ending = end_of b.car.phase }
    → Awaits plan k (Some b.car) [] → NothingComes to_station to_car → Talks c cc post_plan plan b (acted (Give o) true t) k to_station to_car
gives_then c cc post_plan plan b k to_station to_car facts shown t session o true suits i m w a awaits none =
    let last : end_of b.car.phase ≡ None = not_the_last post_plan plan b (exchange facts facts shown) i w in
    let empty : (acted (Give o) true t).agenda ≡ nothing =
    ap (λ (x : Agenda). record x { order = None }) a ∙ ap (λ (e : Option EndCause). record nothing { ending = e }) last in
    Closes facts shown suits last
    (listens post_plan (acted (Give o) true t) (since_order t.clock o session) (judged post_plan plan b (exchange facts facts shown)) (ordered t o session m.session_is) m.arrived empty m.part_is
    (since_stage t.clock o session ∙ m.stage_is) (since_unread t.clock o session ∙ m.unread_is))
    w awaits none
gives_then c cc post_plan plan b k to_station to_car facts shown t session o false suits i m w a awaits none =
    let left : (acted (Give o) true t).agenda ≡ record nothing { reply = Some (Said b.car.dialect (reply post_plan plan b (exchange facts facts shown))); ending = end_of b.car.phase } =
    ap (λ (x : Agenda). record x { order = None }) a in
    let stays : decided post_plan (acted (Give o) true t) ≡ acted (Give o) true t =
    stays_busy post_plan (acted (Give o) true t) (states.Say (Said b.car.dialect (reply post_plan plan b (exchange facts facts shown)))) (ap first left) in
    IsToReply facts facts shown (suits facts) (record {
      session = since_order t.clock o session;
      session_is = ordered t o session m.session_is;
      arrived = m.arrived;
      stage_is = since_stage t.clock o session ∙ m.stage_is;
      unread_is = since_unread t.clock o session ∙ m.unread_is;
      agenda_is = ap (λ (x : State). x.agenda) stays ∙ left;
      part_is = ap (λ (x : State). x.part) stays ∙ m.part_is;
    }) awaits none

first_is : (a b : Agenda) (todo own : Todo) → a ≡ b → first b ≡ Some own → first a ≡ Some todo → todo ≡ own
first_is a b todo own e f g = some_todo todo own (sym g ∙ ap first e ∙ f)

-- with nothing to do it can't act
nothing_first : (a : Agenda) (todo : Todo) → a ≡ nothing → first a ≡ Some todo → ⊥
nothing_first a todo e f = some_none todo (sym f ∙ ap first e)

pub acts_on : (c : post.Codecs) (cc : car.Codecs) (post_plan : PostPlan) (plan : CarPlan) (b : Both) (k : car_states.State) (to_station to_car : List ℕ) (facts : Facts) (shown : ℕ) (t : State) (session : Session)
    (order : Option Order) (w : Bool) (todo : Todo) (act : Act)
    → ((later : Facts) → Suits b.car.phase (exchange facts later shown)) → IsAnswered post_plan plan b (exchange facts facts shown)
    → Keeps post_plan plan b (exchange facts facts shown) t session → is_waiting (judged post_plan plan b (exchange facts facts shown)).row ≡ w
    → t.agenda ≡ record nothing { order = order; reply = if w then None else Some (Said b.car.dialect (reply post_plan plan b (exchange facts facts shown))); ending = end_of b.car.phase }
    → first t.agenda ≡ Some todo → IsDone c todo act true → Awaits plan k (Some b.car) [] → NothingComes to_station to_car
    → Acted c cc post_plan plan b k to_station to_car t act
acts_on c cc post_plan plan b k to_station to_car facts shown t session (Some o) w todo act suits i m e a f d awaits none =
    let same : todo ≡ states.Give o = first_is t.agenda _ todo (states.Give o) a refl f in
    record {
      own = Give o;
      act_is = subst (λ (x : Todo). IsDone c x act true) same d;
      phase = λ l. subst (λ (way : List ℕ). Talks c cc post_plan plan b (acted (Give o) true t) k to_station way) (sym (append-nil to_car))
          (gives_then c cc post_plan plan b k to_station to_car facts shown t session o w suits i m e a awaits none);
    }
acts_on c cc post_plan plan b k to_station to_car facts shown t session None true todo act suits i m e a f d awaits none =
    let last : end_of b.car.phase ≡ None = not_the_last post_plan plan b (exchange facts facts shown) i e in
    absurd (nothing_first t.agenda todo (a ∙ ap (λ (x : Option EndCause). record nothing { ending = x }) last) f)
acts_on c cc post_plan plan b k to_station to_car facts shown t session None false todo act suits i m e a f d awaits none =
    let same : todo ≡ states.Say (Said b.car.dialect (reply post_plan plan b (exchange facts facts shown))) =
    first_is t.agenda _ todo (states.Say (Said b.car.dialect (reply post_plan plan b (exchange facts facts shown)))) a refl f in
    replying c cc post_plan plan b k to_station to_car facts facts shown t act (suits facts)
    (sends c post_plan t session (judged post_plan plan b (exchange facts facts shown)) b.car.dialect (reply post_plan plan b (exchange facts facts shown)) (end_of b.car.phase) act
    m.session_is m.arrived m.stage_is m.unread_is m.part_is a (subst (λ (x : Todo). IsDone c x act true) same d))
    awaits none
