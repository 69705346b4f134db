-- What a hearing does to a post in each phase.
use Rattle.std.proofs.Common.{◌≡◌, ℕ, Bool, true, false, ◌&&◌, if◌then◌else◌, List, [], ◌++◌, length, Option, Some, None, Result, Ok, refl, ap, sym, ◌∙◌, inl, inr}
use Rattle.std.specs.Option.{option_map}
use Rattle.charge_world.specs.declared.heard.PlantEvent.{PlantEvent}
use Rattle.charge_world.specs.declared.offer.Dialect.{Dialect}
use Rattle.session_words.specs.declared.cause.EndCause.{EndCause}
use Rattle.session_words.specs.declared.facts.Facts.{Facts}
use Rattle.session_words.specs.declared.phase.Phase.{Phase}
use Rattle.session_words.specs.declared.phase.Phase.TheVariants as row
use Rattle.session_words.specs.declared.plan.CarPlan.{CarPlan}
use Rattle.session_words.specs.declared.plan.PostPlan.{PostPlan}
use Rattle.session_words.specs.declared.word.Reply.{Reply}
use Rattle.v2gtp_frames.specs.declared.FrameFault.{FrameFault}
use Rattle.v2gtp_frames.specs.Reading.{whole_at}
use Rattle.session_rules.specs.declared.stage.Stage.{Stage}
use Rattle.session_rules.specs.Moves.{moved}
use Rattle.session_rules.specs.Reply.{reply_to, waiting_reply}
use Rattle.session_rules.specs.Stages.{first_stage, is_waiting, confirmed_row}
use Rattle.session_rules.specs.Verdict.{verdict, is_accepted}
use Rattle.post_spec.specs.Codecs as post
use Rattle.post_spec.specs.Sessions.{brought}
use Rattle.post_spec.specs.Steps.{Event, Came, Bytes, Gone, Datagram, Plant, Clock, Over}
use Rattle.station_spec.specs.States.{Spoken, Said, Wording, Session, State, nothing, first, first_session}
use Rattle.station_spec.specs.States as states
use Rattle.station_spec.specs.Deciding.{confirms, confirming, charging_by, charging, eventing, fronting_by, fronting, decided}
use Rattle.station_spec.specs.Hearing.{arrival, session_opened, with_bytes, hearing}
use Rattle.station_spec.specs.Next.{IsQuiet}
use Rattle.car_spec.specs.Codecs as car
use Rattle.car_spec.specs.States as car_states
use Rattle.car_spec.specs.Next as car_next
use Rattle.pipe_spec.specs.Histories.{token}
use Rattle.pair_words.specs.Exchanges.{Both, Outside, asked, judged, reply, behind}
use Rattle.pair_words.specs.Meeting.{Meets, Suits}
use Rattle.pair_words.specs.Laws.{both, end_of, has_ended}
use Rattle.pair_words.proofs.Sessions.{they_meet}
use Rattle.pair_deeds.specs.Posts.{IsStill}
use Rattle.pair_deeds.proofs.Posts.{posts_stay_behind_hearings, posts_decide_by_events}
use Rattle.pair_deeds.proofs.Fronts.{whole_frame}
use Rattle.matched_pairs.specs.Ends.{HasCome, Listens, IsToSend, IsGone, GoesOnBy, Awaits}
use Rattle.matched_pairs.specs.Phases.{Comes, NothingComes, Begins, IsToOffer, Offered, Offers, Responded, exchange, Talks, IsToAsk, Rests, Asks, IsToReply, Closes, Replies, Ends, IsToStop, Stopped, NoneYet, Read, TalksBy}
use Rattle.matched_pairs.proofs.Messages.{Front, OnItsWay, Whole, front, empty_waits}
use Rattle.matched_pairs.proofs.PostPhases.{end_quiet}
use Rattle.matched_pairs.proofs.Answers.{TakesWords, meets_takes}
use Rattle.matched_pairs.proofs.CarPhases.{say_quiet, finish_quiet}
use Rattle.matched_pairs.specs.Hearings.{IsOfPost, IsNoCause, IsUndisturbed, PostsHear}
use Rattle.matched_pairs.proofs.Ways.{comes_on, no_piece, no_rest, nothing_to_post, still_nothing}

some_none : {A : Type 0} (a : A) → Some a ≡ None → ⊥
some_none a e = cc

some_session : (a b : Session) → Some a ≡ Some b → a ≡ b
some_session a b e = cc

none_arrives : (event : Event) → IsOfPost event → arrival event ≡ None
none_arrives (Plant event) o = refl
none_arrives (Bytes bytes) o = refl
none_arrives Clock o = refl
none_arrives (Came other) o = absurd o
none_arrives Gone o = absurd o
none_arrives (Datagram bytes) o = absurd o
none_arrives Over o = absurd o

-- ---- what an event leads to

same_session : (own session : Session) (plan : PostPlan) (event : PlantEvent) (s : State) → Some own ≡ Some session → confirming plan own event s ≡ confirming plan session event s
same_session own session plan event s e = ap (λ (x : Session). confirming plan x event s) (some_session own session e)

no_cause : (o : Option Session) (session : Session) (plan : PostPlan) (event : PlantEvent) (s : State) → o ≡ Some session → IsNoCause plan o (Plant event) s
    → charging plan o event s ≡ confirming plan session event s
no_cause None session plan event s e n = absurd (some_none session (sym e))
no_cause (Some own) session plan event s e n =
    ap (λ (c : Option EndCause). charging_by c (confirming plan own event s) s.live) n ∙ same_session own session plan event s e

no_event : (plan : PostPlan) (event : Event) (s : State) (session : Session) → IsOfPost event → s.session ≡ Some session → is_waiting session.stage.row ≡ false → IsNoCause plan s.session event s
    → eventing plan event s ≡ nothing
no_event plan (Plant event) s session o e w n =
    no_cause s.session session plan event s e n
    ∙ ap (λ (b : Bool). if b && confirms event then record nothing { reply = Some (Said session.stage.dialect (waiting_reply session.stage s.facts plan)) } else nothing) w
no_event plan (Bytes bytes) s session o e w n = refl
no_event plan Clock s session o e w n = refl
no_event plan (Came other) s session o e w n = absurd o
no_event plan Gone s session o e w n = absurd o
no_event plan (Datagram bytes) s session o e w n = absurd o
no_event plan Over s session o e w n = absurd o

gone_event : (plan : PostPlan) (event : Event) (s : State) → IsOfPost event → s.session ≡ None → eventing plan event s ≡ nothing
gone_event plan (Plant event) s o e = ap (λ (x : Option Session). charging plan x event s) e
gone_event plan (Bytes bytes) s o e = refl
gone_event plan Clock s o e = refl
gone_event plan (Came other) s o e = absurd o
gone_event plan Gone s o e = absurd o
gone_event plan (Datagram bytes) s o e = absurd o
gone_event plan Over s o e = absurd o

-- ---- the front of the stream is right

pub data IsRight (session : Session) : Type 0 where
  Unfinished : whole_at session.unread ≡ Ok None → IsRight session
  Finished : (n : ℕ) → whole_at session.unread ≡ Ok (Some n) → is_waiting session.stage.row ≡ false → IsRight session

right : (session : Session) (live : Bool) → IsRight session → fronting (Some session) live ≡ nothing
right session live (Unfinished w) = ap (λ (r : Result (Option ℕ) FrameFault). fronting_by r (is_waiting session.stage.row) live) w
right session live (Finished n w f) =
    ap (λ (r : Result (Option ℕ) FrameFault). fronting_by r (is_waiting session.stage.row) live) w ∙ ap (λ (b : Bool). fronting_by (Ok (Some n)) b live) f

right_by : (session : Session) (payload unread way : List ℕ) → session.unread ≡ unread → is_waiting session.stage.row ≡ false → Comes payload unread way → Front payload unread way → IsRight session
right_by session payload unread way u f k (OnItsWay w) = Unfinished (ap whole_at u ∙ w)
right_by session payload unread way u f k (Whole w n) = Finished (length payload) (ap whole_at (u ∙ w) ∙ whole_frame payload k.short) f

-- ---- it listens on

heard_session : (event : Event) (at : ℕ) (s : State) (session : Session) → s.arrived ≡ None → s.session ≡ Some session → (hearing at event s).session ≡ Some (with_bytes (brought event) session)
heard_session event at s session a e =
    ap (λ (o : Option ℕ). option_map (with_bytes (brought event)) (session_opened o s.clock s.session)) a ∙ ap (option_map (with_bytes (brought event))) e

listens_on : (plan : PostPlan) (event : Event) (at : ℕ) (s : State) (session : Session) (stage : Stage) (unread : List ℕ) → IsOfPost event → (hearing at event s).session ≡ Some session
    → session.stage ≡ stage → session.unread ≡ unread → is_waiting session.stage.row ≡ false → IsRight session → IsUndisturbed plan (hearing at event s)
    → Listens plan (hearing at event s) stage unread
listens_on plan event at s session stage unread o e g u w f d = record {
  session = session;
  still = record {
    session_is = e;
    none = refl;
    stays = posts_stay_behind_hearings plan (hearing at event s) refl refl (record {
      repeats = d.repeats;
      times = d.times;
      events = no_event plan event (hearing at event s) session o e w d.events;
      fronts = ap (λ (x : Option Session). fronting x s.live) e ∙ right session s.live f;
    });
  };
  arrived = none_arrives event o;
  stage_is = g;
  unread_is = u;
}

-- with a message that comes
comes_to : (plan : PostPlan) (event : Event) (at : ℕ) (s : State) (stage : Stage) (payload unread way rest : List ℕ) → IsOfPost event → Listens plan s stage unread → is_waiting stage.row ≡ false
    → way ≡ brought event ++ rest → Comes payload unread way → IsUndisturbed plan (hearing at event s) → Listens plan (hearing at event s) stage (unread ++ brought event)
comes_to plan event at s stage payload unread way rest o l w e k d =
    let still : IsStill plan s l.session = l.still in
    let next : Comes payload (unread ++ brought event) rest = comes_on payload unread way (brought event) rest e k in
    let waits : is_waiting l.session.stage.row ≡ false = ap (λ (x : Stage). is_waiting x.row) l.stage_is ∙ w in
    let more : (with_bytes (brought event) l.session).unread ≡ unread ++ brought event = ap (λ (x : List ℕ). x ++ brought event) l.unread_is in
    listens_on plan event at s (with_bytes (brought event) l.session) stage (unread ++ brought event) o (heard_session event at s l.session l.arrived still.session_is) l.stage_is
    more waits (right_by (with_bytes (brought event) l.session) payload (unread ++ brought event) rest more waits next (front payload (unread ++ brought event) rest next)) d

-- with nothing that comes
idles : (plan : PostPlan) (event : Event) (at : ℕ) (s : State) (stage : Stage) → IsOfPost event → Listens plan s stage [] → is_waiting stage.row ≡ false → brought event ≡ []
    → IsUndisturbed plan (hearing at event s) → Listens plan (hearing at event s) stage []
idles plan event at s stage o l w b d =
    let still : IsStill plan s l.session = l.still in
    let none : (with_bytes (brought event) l.session).unread ≡ [] = still_nothing l.session.unread (brought event) l.unread_is b in
    listens_on plan event at s (with_bytes (brought event) l.session) stage [] o (heard_session event at s l.session l.arrived still.session_is) l.stage_is none
    (ap (λ (x : Stage). is_waiting x.row) l.stage_is ∙ w) (Unfinished (ap whole_at none ∙ empty_waits)) d

-- behind the hearing in which a connection began
opens : (plan : PostPlan) (event : Event) (at : ℕ) (s : State) (payload way rest : List ℕ) → IsOfPost event → HasCome plan s token → way ≡ brought event ++ rest → Comes payload [] way
    → IsUndisturbed plan (hearing at event s) → Listens plan (hearing at event s) (first_stage token) (brought event)
opens plan event at s payload way rest o c e k d =
    let there : (hearing at event s).session ≡ Some (with_bytes (brought event) (first_session token s.clock)) =
    ap (λ (x : Option ℕ). option_map (with_bytes (brought event)) (session_opened x s.clock s.session)) c.arrived in
    let next : Comes payload (brought event) rest = comes_on payload [] way (brought event) rest e k in
    listens_on plan event at s (with_bytes (brought event) (first_session token s.clock)) (first_stage token) (brought event) o there refl refl refl
    (right_by (with_bytes (brought event) (first_session token s.clock)) payload (brought event) rest refl refl next (front payload (brought event) rest next)) d

gone_on : (plan : PostPlan) (event : Event) (at : ℕ) (s : State) → IsOfPost event → IsGone plan s → IsUndisturbed plan (hearing at event s) → IsGone plan (hearing at event s)
gone_on plan event at s o g d =
    let none : (hearing at event s).session ≡ None =
    ap (λ (x : Option ℕ). option_map (with_bytes (brought event)) (session_opened x s.clock s.session)) g.arrived ∙ ap (option_map (with_bytes (brought event))) g.session in
    record {
      session = none;
      arrived = none_arrives event o;
      none = refl;
      stays = posts_stay_behind_hearings plan (hearing at event s) refl refl (record {
        repeats = d.repeats;
        times = d.times;
        events = gone_event plan event (hearing at event s) o none;
        fronts = ap (λ (x : Option Session). fronting x s.live) none;
      });
    }

-- ---- the contactor's feedback

same_dialect : (b : Bool) (m s : Stage) → m.dialect ≡ s.dialect → (if b then m else s).dialect ≡ s.dialect
same_dialect true m s e = e
same_dialect false m s e = refl

judged_dialect : (post_plan : PostPlan) (plan : CarPlan) (b : Both) (x : Outside) → (judged post_plan plan b x).dialect ≡ b.post.dialect
judged_dialect post_plan plan b x =
    same_dialect (is_accepted (verdict b.post x.facts post_plan (asked plan b.car))) (moved b.post x.facts post_plan (asked plan b.car) x.shown) b.post refl

waits_on : (c : post.Codecs) (cc : car.Codecs) (post_plan : PostPlan) (plan : CarPlan) (b : Both) (s : State) (k : car_states.State) (to_station to_car : List ℕ) (event : Event) (at : ℕ) (facts : Facts) (shown : ℕ) (session : Session)
    → IsOfPost event → ((later : Facts) → Suits b.car.phase (exchange facts later shown)) → end_of b.car.phase ≡ None → (hearing at event s).session ≡ Some session
    → session.stage ≡ judged post_plan plan b (exchange facts facts shown) → session.unread ≡ [] → is_waiting (judged post_plan plan b (exchange facts facts shown)).row ≡ true
    → eventing post_plan event (hearing at event s) ≡ nothing → Awaits plan k (Some b.car) [] → NothingComes to_station to_car → IsUndisturbed post_plan (hearing at event s)
    → Talks c cc post_plan plan b (hearing at event s) k to_station to_car
waits_on c cc post_plan plan b s k to_station to_car event at facts shown session o fits last e g u w v a none d =
    Closes facts shown fits last (record {
      session = session;
      still = record {
        session_is = e;
        none = refl;
        stays = posts_stay_behind_hearings post_plan (hearing at event s) refl refl (record {
          repeats = d.repeats;
          times = d.times;
          events = v;
          fronts = ap (λ (x : Option Session). fronting x s.live) e ∙ right session s.live (Unfinished (ap whole_at u ∙ empty_waits));
        });
      };
      arrived = none_arrives event o;
      stage_is = g;
      unread_is = u;
    }) w a none

lets_go : (c : post.Codecs) (cc : car.Codecs) (post_plan : PostPlan) (plan : CarPlan) (b : Both) (s : State) (k : car_states.State) (to_station to_car : List ℕ) (event : Event) (at : ℕ) (facts : Facts) (shown : ℕ) (session : Session)
    → IsOfPost event → Meets post_plan b → ((later : Facts) → Suits b.car.phase (exchange facts later shown)) → end_of b.car.phase ≡ None → (hearing at event s).session ≡ Some session
    → session.stage ≡ judged post_plan plan b (exchange facts facts shown) → session.unread ≡ [] → is_waiting (judged post_plan plan b (exchange facts facts shown)).row ≡ true
    → eventing post_plan event (hearing at event s) ≡ record nothing { reply = Some (Said session.stage.dialect (waiting_reply session.stage (hearing at event s).facts post_plan)) }
    → Awaits plan k (Some b.car) [] → NothingComes to_station to_car → IsUndisturbed post_plan (hearing at event s) → Talks c cc post_plan plan b (hearing at event s) k to_station to_car
lets_go c cc post_plan plan b s k to_station to_car event at facts shown session o m fits last e g u w v a none d =
    let later : Facts = (hearing at event s).facts in
    let decides : decided post_plan (hearing at event s)
    ≡ record (hearing at event s) { agenda = record nothing { reply = Some (Said session.stage.dialect (waiting_reply session.stage (hearing at event s).facts post_plan)) }; part = Wording } =
    posts_decide_by_events post_plan (hearing at event s) (record nothing { reply = Some (Said session.stage.dialect (waiting_reply session.stage (hearing at event s).facts post_plan)) }) refl refl d.repeats d.times v refl in
    let dialect_is : (judged post_plan plan b (exchange facts facts shown)).dialect ≡ b.car.dialect = judged_dialect post_plan plan b (exchange facts facts shown) ∙ m.dialect in
    let waited : waiting_reply (judged post_plan plan b (exchange facts facts shown)) (hearing at event s).facts post_plan ≡ reply post_plan plan b (exchange facts (hearing at event s).facts shown) =
    sym (ap (λ (y : Bool). if y then waiting_reply (judged post_plan plan b (exchange facts facts shown)) (hearing at event s).facts post_plan else reply_to b.post facts post_plan (asked plan b.car) shown) w) in
    IsToReply facts (hearing at event s).facts shown (fits (hearing at event s).facts) (record {
      session = session;
      session_is = e;
      arrived = none_arrives event o;
      stage_is = g;
      unread_is = u;
      agenda_is = ap (λ (x : State). x.agenda) decides
          ∙ ap (λ (z : Stage). record nothing { reply = Some (Said z.dialect (waiting_reply z (hearing at event s).facts post_plan)) }) g
          ∙ ap (λ (y : Dialect). record nothing { reply = Some (Said y (waiting_reply (judged post_plan plan b (exchange facts facts shown)) (hearing at event s).facts post_plan)) }) dialect_is
          ∙ ap (λ (y : Reply). record nothing { reply = Some (Said b.car.dialect y) }) waited
          ∙ ap (λ (y : Option EndCause). record nothing { reply = Some (Said b.car.dialect (reply post_plan plan b (exchange facts (hearing at event s).facts shown))); ending = y }) (sym last);
      part_is = ap (λ (x : State). x.part) decides;
    }) a none

confirms_by : (y : Bool) (c : post.Codecs) (cc : car.Codecs) (post_plan : PostPlan) (plan : CarPlan) (b : Both) (s : State) (k : car_states.State) (to_station to_car : List ℕ) (event : PlantEvent) (at : ℕ) (facts : Facts) (shown : ℕ) (session : Session)
    → confirms event ≡ y → Meets post_plan b → ((later : Facts) → Suits b.car.phase (exchange facts later shown)) → end_of b.car.phase ≡ None → (hearing at (Plant event) s).session ≡ Some session
    → session.stage ≡ judged post_plan plan b (exchange facts facts shown) → session.unread ≡ [] → is_waiting (judged post_plan plan b (exchange facts facts shown)).row ≡ true
    → Awaits plan k (Some b.car) [] → NothingComes to_station to_car → IsUndisturbed post_plan (hearing at (Plant event) s) → Talks c cc post_plan plan b (hearing at (Plant event) s) k to_station to_car
confirms_by true c cc post_plan plan b s k to_station to_car event at facts shown session y m fits last e g u w a none d =
    lets_go c cc post_plan plan b s k to_station to_car (Plant event) at facts shown session tt m fits last e g u w
    (no_cause (hearing at (Plant event) s).session session post_plan event (hearing at (Plant event) s) e d.events
    ∙ ap (λ (z : Bool). if z && confirms event then record nothing { reply = Some (Said session.stage.dialect (waiting_reply session.stage (hearing at (Plant event) s).facts post_plan)) } else nothing)
    (ap (λ (z : Stage). is_waiting z.row) g ∙ w)
    ∙ ap (λ (z : Bool). if z then record nothing { reply = Some (Said session.stage.dialect (waiting_reply session.stage (hearing at (Plant event) s).facts post_plan)) } else nothing) y)
    a none d
confirms_by false c cc post_plan plan b s k to_station to_car event at facts shown session y m fits last e g u w a none d =
    waits_on c cc post_plan plan b s k to_station to_car (Plant event) at facts shown session tt fits last e g u w
    (no_cause (hearing at (Plant event) s).session session post_plan event (hearing at (Plant event) s) e d.events
    ∙ ap (λ (z : Bool). if z && confirms event then record nothing { reply = Some (Said session.stage.dialect (waiting_reply session.stage (hearing at (Plant event) s).facts post_plan)) } else nothing)
    (ap (λ (z : Stage). is_waiting z.row) g ∙ w)
    ∙ ap (λ (z : Bool). if z then record nothing { reply = Some (Said session.stage.dialect (waiting_reply session.stage (hearing at (Plant event) s).facts post_plan)) } else nothing) y)
    a none d

closes_by : (event : Event) (c : post.Codecs) (cc : car.Codecs) (post_plan : PostPlan) (plan : CarPlan) (b : Both) (s : State) (k : car_states.State) (to_station to_car : List ℕ) (at : ℕ) (facts : Facts) (shown : ℕ) (session : Session)
    → IsOfPost event → Meets post_plan b → ((later : Facts) → Suits b.car.phase (exchange facts later shown)) → end_of b.car.phase ≡ None → (hearing at event s).session ≡ Some session
    → session.stage ≡ judged post_plan plan b (exchange facts facts shown) → session.unread ≡ [] → is_waiting (judged post_plan plan b (exchange facts facts shown)).row ≡ true
    → Awaits plan k (Some b.car) [] → NothingComes to_station to_car → IsUndisturbed post_plan (hearing at event s) → Talks c cc post_plan plan b (hearing at event s) k to_station to_car
closes_by (Plant event) c cc post_plan plan b s k to_station to_car at facts shown session o m fits last e g u w a none d =
    confirms_by (confirms event) c cc post_plan plan b s k to_station to_car event at facts shown session refl m fits last e g u w a none d
closes_by (Bytes bytes) c cc post_plan plan b s k to_station to_car at facts shown session o m fits last e g u w a none d =
    waits_on c cc post_plan plan b s k to_station to_car (Bytes bytes) at facts shown session tt fits last e g u w refl a none d
closes_by Clock c cc post_plan plan b s k to_station to_car at facts shown session o m fits last e g u w a none d =
    waits_on c cc post_plan plan b s k to_station to_car Clock at facts shown session tt fits last e g u w refl a none d
closes_by (Came other) c cc post_plan plan b s k to_station to_car at facts shown session o m fits last e g u w a none d = absurd o
closes_by Gone c cc post_plan plan b s k to_station to_car at facts shown session o m fits last e g u w a none d = absurd o
closes_by (Datagram bytes) c cc post_plan plan b s k to_station to_car at facts shown session o m fits last e g u w a none d = absurd o
closes_by Over c cc post_plan plan b s k to_station to_car at facts shown session o m fits last e g u w a none d = absurd o

closes_on : (c : post.Codecs) (cc : car.Codecs) (post_plan : PostPlan) (plan : CarPlan) (b : Both) (s : State) (k : car_states.State) (to_station to_car : List ℕ) (event : Event) (at : ℕ) (facts : Facts) (shown : ℕ)
    → IsOfPost event → Meets post_plan b → ((later : Facts) → Suits b.car.phase (exchange facts later shown)) → end_of b.car.phase ≡ None
    → Listens post_plan s (judged post_plan plan b (exchange facts facts shown)) [] → brought event ≡ [] → is_waiting (judged post_plan plan b (exchange facts facts shown)).row ≡ true
    → Awaits plan k (Some b.car) [] → NothingComes to_station to_car → IsUndisturbed post_plan (hearing at event s) → Talks c cc post_plan plan b (hearing at event s) k to_station to_car
closes_on c cc post_plan plan b s k to_station to_car event at facts shown o m fits last l n w a none d =
    let still : IsStill post_plan s l.session = l.still in
    closes_by event c cc post_plan plan b s k to_station to_car at facts shown (with_bytes (brought event) l.session) o m fits last (heard_session event at s l.session l.arrived still.session_is)
    l.stage_is (still_nothing l.session.unread (brought event) l.unread_is n) w a none d

-- ---- in each phase

send_quiet : (plan : PostPlan) (s : State) (stage : Stage) (spoken : Spoken) (ending : Option EndCause) → IsToSend plan s stage spoken ending → IsQuiet plan s → ⊥
send_quiet plan s stage spoken ending t q = some_none (states.Say spoken) (sym (ap first t.agenda_is) ∙ q.none)

confirmed_not : (r : Phase) → is_waiting (confirmed_row r) ≡ false
confirmed_not row.DcClosing = refl
confirmed_not row.AcClosing = refl
confirmed_not other = refl

goes_hear : (o : Option EndCause) (plan : PostPlan) (event : Event) (at : ℕ) (s : State) (stage : Stage) → IsOfPost event → is_waiting stage.row ≡ false → brought event ≡ [] → IsQuiet plan s
    → IsUndisturbed plan (hearing at event s) → GoesOnBy o plan s stage → GoesOnBy o plan (hearing at event s) stage
goes_hear None plan event at s stage o w n q d g = idles plan event at s stage o g w n d
goes_hear (Some cause) plan event at s stage o w n q d (inl t) = absurd (end_quiet plan s cause t q)
goes_hear (Some cause) plan event at s stage o w n q d (inr g) = inr (gone_on plan event at s o g d)

begins_hear : (c : post.Codecs) (cc : car.Codecs) (post_plan : PostPlan) (plan : CarPlan) (s : State) (k : car_states.State) (to_station to_car rest : List ℕ) (at : ℕ) (event : Event)
    → Begins c cc post_plan plan s k to_station to_car → car_next.IsQuiet plan k → IsOfPost event → to_station ≡ brought event ++ rest → IsUndisturbed post_plan (hearing at event s)
    → Begins c cc post_plan plan (hearing at event s) k rest to_car
begins_hear c cc post_plan plan s k to_station to_car rest at event (IsToOffer come say none) r o e d = absurd (say_quiet plan k None None _ say r)
begins_hear c cc post_plan plan s k to_station to_car rest at event (Offered request offers come awaits comes n) r o e d =
    Offers request (brought event) offers (opens post_plan event at s request to_station rest o come e comes d) awaits (comes_on request [] to_station (brought event) rest e comes) n
begins_hear c cc post_plan plan s k to_station to_car rest at event (Offers request unread offers l awaits comes n) r o e d =
    Offers request (unread ++ brought event) offers (comes_to post_plan event at s (first_stage token) request unread to_station rest o l refl e comes d) awaits
    (comes_on request unread to_station (brought event) rest e comes) n
begins_hear c cc post_plan plan s k to_station to_car rest at event (Responded request unread begun l awaits n comes) r o e d =
    Responded request unread begun (idles post_plan event at s (both post_plan plan token begun.dialect []).post o l refl (no_piece to_station (brought event) rest e n) d) awaits
    (no_rest to_station (brought event) rest e n) comes

talks_hear : (c : post.Codecs) (cc : car.Codecs) (post_plan : PostPlan) (plan : CarPlan) (b : Both) (s : State) (k : car_states.State) (to_station to_car rest : List ℕ) (at : ℕ) (event : Event)
    → Meets post_plan b → Talks c cc post_plan plan b s k to_station to_car → IsQuiet post_plan s → car_next.IsQuiet plan k → IsOfPost event → to_station ≡ brought event ++ rest
    → IsUndisturbed post_plan (hearing at event s) → Talks c cc post_plan plan b (hearing at event s) k rest to_car
talks_hear c cc post_plan plan b s k to_station to_car rest at event m (IsToAsk order l say none) q r o e d = absurd (say_quiet plan k _ order _ say r)
talks_hear c cc post_plan plan b s k to_station to_car rest at event m (Rests l pauses none) q r o e d =
    let takes : TakesWords b.post.row = meets_takes post_plan b m in
    Rests (idles post_plan event at s b.post o l takes.waits (no_piece to_station (brought event) rest e none.station) d) pauses (nothing_to_post to_station (brought event) rest to_car e none)
talks_hear c cc post_plan plan b s k to_station to_car rest at event m (Asks request unread encodes l awaits comes n) q r o e d =
    let takes : TakesWords b.post.row = meets_takes post_plan b m in
    Asks request (unread ++ brought event) encodes (comes_to post_plan event at s b.post request unread to_station rest o l takes.waits e comes d) awaits
    (comes_on request unread to_station (brought event) rest e comes) n
talks_hear c cc post_plan plan b s k to_station to_car rest at event m (IsToReply facts later shown fits send awaits none) q r o e d = absurd (send_quiet post_plan s _ _ _ send q)
talks_hear c cc post_plan plan b s k to_station to_car rest at event m (Closes facts shown fits last l w awaits none) q r o e d =
    closes_on c cc post_plan plan b s k rest to_car event at facts shown o m fits last l (no_piece to_station (brought event) rest e none.station) w awaits
    (nothing_to_post to_station (brought event) rest to_car e none) d
talks_hear c cc post_plan plan b s k to_station to_car rest at event m (Replies facts later shown payload unread fits encodes goes awaits n comes) q r o e d =
    Replies facts later shown payload unread fits encodes
    (goes_hear (end_of b.car.phase) post_plan event at s (behind post_plan plan b (exchange facts later shown)).post o (confirmed_not (judged post_plan plan b (exchange facts later shown)).row)
    (no_piece to_station (brought event) rest e n) q d goes)
    awaits (no_rest to_station (brought event) rest e n) comes

ends_hear : (post_plan : PostPlan) (plan : CarPlan) (s : State) (k : car_states.State) (to_station to_car rest : List ℕ) (at : ℕ) (event : Event) → Ends post_plan plan s k to_station to_car
    → car_next.IsQuiet plan k → IsOfPost event → to_station ≡ brought event ++ rest → IsUndisturbed post_plan (hearing at event s) → Ends post_plan plan (hearing at event s) k rest to_car
ends_hear post_plan plan s k to_station to_car rest at event (IsToStop order g finish none) r o e d = absurd (finish_quiet plan k order _ finish r)
ends_hear post_plan plan s k to_station to_car rest at event (Stopped g ended none) r o e d =
    Stopped (gone_on post_plan event at s o g d) ended (nothing_to_post to_station (brought event) rest to_car e none)

by_end : (x : Bool) (c : post.Codecs) (cc : car.Codecs) (post_plan : PostPlan) (plan : CarPlan) (b : Both) (s : State) (k : car_states.State) (to_station to_car rest : List ℕ) (at : ℕ) (event : Event)
    → Meets post_plan b → TalksBy x c cc post_plan plan b s k to_station to_car → IsQuiet post_plan s → car_next.IsQuiet plan k → IsOfPost event → to_station ≡ brought event ++ rest
    → IsUndisturbed post_plan (hearing at event s) → TalksBy x c cc post_plan plan b (hearing at event s) k rest to_car
by_end true c cc post_plan plan b s k to_station to_car rest at event m t q r o e d = ends_hear post_plan plan s k to_station to_car rest at event t r o e d
by_end false c cc post_plan plan b s k to_station to_car rest at event m t q r o e d = talks_hear c cc post_plan plan b s k to_station to_car rest at event m t q r o e d

pub posts_hear : (c : post.Codecs) (cc : car.Codecs) → PostsHear c cc
posts_hear c cc post_plan plan NoneYet s k to_station to_car rest at event p phase q r o e d = begins_hear c cc post_plan plan s k to_station to_car rest at event phase r o e d
posts_hear c cc post_plan plan (Read dialect xs) s k to_station to_car rest at event p phase q r o e d = (
  phase.0,
  by_end (has_ended post_plan plan token dialect xs) c cc post_plan plan (both post_plan plan token dialect xs) s k to_station to_car rest at event
      (they_meet post_plan plan token dialect xs p.paired phase.0) phase.1 q r o e d,
)
