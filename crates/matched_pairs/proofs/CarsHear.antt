-- What a hearing does to a car in each phase.
use Rattle.std.proofs.Common.{◌≡◌, ℕ, Bool, true, false, if◌then◌else◌, List, [], ◌++◌, length, Option, Some, None, Ok, refl, ap, subst, ◌∙◌}
use Rattle.session_words.specs.declared.plan.CarPlan.{CarPlan}
use Rattle.session_words.specs.declared.plan.PostPlan.{PostPlan}
use Rattle.v2gtp_frames.specs.Reading.{whole_at}
use Rattle.post_spec.specs.Codecs as post
use Rattle.post_spec.specs.Sessions.{brought}
use Rattle.post_spec.specs.Steps.{Event, Came, Bytes, Gone, Datagram, Plant, Clock, Over}
use Rattle.station_spec.specs.States as station
use Rattle.car_rules.specs.declared.stage.CarStage.{CarStage}
use Rattle.car_rules.specs.Requests.{request_of}
use Rattle.car_spec.specs.Codecs as car
use Rattle.car_spec.specs.Steps.{Asked, stop_heard}
use Rattle.car_spec.specs.States.{Wording, Session, State, nothing, is_done}
use Rattle.car_spec.specs.Due.{is_due}
use Rattle.car_spec.specs.Deciding.{timing, eventing, asking, repeating, decided}
use Rattle.car_spec.specs.Hearing.{opened, heard_in, session_heard, hearing}
use Rattle.car_spec.specs.Next.{IsQuiet}
use Rattle.pipe_spec.specs.Histories.{token}
use Rattle.pair_words.specs.Exchanges.{Both}
use Rattle.pair_words.specs.Laws.{both, has_ended}
use Rattle.pair_deeds.specs.Cars.{IsStill}
use Rattle.pair_deeds.proofs.Cars.{cars_stay_behind_hearings, cars_stay_at_words, cars_ask_once_more}
use Rattle.pair_deeds.proofs.Fronts.{whole_frame}
use Rattle.matched_pairs.specs.Ends.{Listens, IsToSay, Awaits, Pauses}
use Rattle.matched_pairs.specs.Phases.{Comes, NothingComes, Begins, IsToOffer, Offered, Offers, Responded, Talks, IsToAsk, Rests, Asks, IsToReply, Closes, Replies, Ends, IsToStop, Stopped, NoneYet, Read, TalksBy}
use Rattle.matched_pairs.proofs.Messages.{Front, OnItsWay, Whole, front, empty_waits}
use Rattle.matched_pairs.proofs.CarPhases.{looks_for_none, say_quiet, finish_quiet}
use Rattle.matched_pairs.specs.Hearings.{IsOfCar, CarsHear}
use Rattle.matched_pairs.proofs.Ways.{comes_on, no_piece, no_rest, nothing_to_car, still_nothing}

no_event : (plan : CarPlan) (event : Event) (k : State) → IsOfCar event → eventing plan event k ≡ nothing
no_event plan (Bytes bytes) k o = refl
no_event plan Clock k o = refl
no_event plan (Plant event) k o = absurd o
no_event plan (Came other) k o = absurd o
no_event plan Gone k o = absurd o
no_event plan (Datagram bytes) k o = absurd o
no_event plan Over k o = absurd o

no_stop : (event : Event) (stop : Bool) → IsOfCar event → stop_heard event stop ≡ stop
no_stop (Bytes bytes) stop o = refl
no_stop Clock stop o = refl
no_stop (Plant event) stop o = absurd o
no_stop (Came other) stop o = absurd o
no_stop Gone stop o = absurd o
no_stop (Datagram bytes) stop o = absurd o
no_stop Over stop o = absurd o

-- ---- it awaits a reply

stays_by : (r : Option ℕ) (plan : CarPlan) (event : Event) (at : ℕ) (k : State) (session : Session) → plan.sdp ≡ 0 → IsOfCar event → timing plan (hearing at event k) ≡ nothing
    → (hearing at event k).session ≡ Some session → is_due session.again at ≡ false → whole_at session.unread ≡ Ok r → decided plan (hearing at event k) ≡ hearing at event k
stays_by None plan event at k session joined o t e later w =
    cars_stay_behind_hearings plan (hearing at event k) session refl refl t (no_event plan event (hearing at event k) o)
    (record { session_is = e; again = later; search = looks_for_none plan k.search joined }) w
stays_by (Some n) plan event at k session joined o t e later w =
    cars_stay_at_words plan (hearing at event k) session n refl refl t (no_event plan event (hearing at event k) o) e w

awaits_on : (r : Option ℕ) (plan : CarPlan) (event : Event) (at : ℕ) (k : State) (stage : Option CarStage) (unread : List ℕ) → plan.sdp ≡ 0 → IsOfCar event
    → timing plan (hearing at event k) ≡ nothing → Awaits plan k stage unread → whole_at (unread ++ brought event) ≡ Ok r → Awaits plan (hearing at event k) stage (unread ++ brought event)
awaits_on r plan event at k stage unread joined o t a w =
    let still : IsStill plan k a.session = a.still in
    let there : (hearing at event k).session ≡ Some (heard_in event a.session) = ap (session_heard event at) still.session_is in
    let more : (heard_in event a.session).unread ≡ unread ++ brought event = ap (λ (x : List ℕ). x ++ brought event) a.unread_is in
    record {
      session = heard_in event a.session;
      still = record {
        session_is = there;
        none = refl;
        stays = stays_by r plan event at k (heard_in event a.session) joined o t there (ap (λ (x : Option ℕ). is_due x at) a.again) (ap whole_at more ∙ w);
      };
      goes_on = a.goes_on;
      stage_is = a.stage_is;
      unread_is = more;
      stop = no_stop event a.session.stop o ∙ a.stop;
      sent = a.sent;
      sent_is = a.sent_is;
      again = a.again;
    }

-- with nothing that comes
idles : (plan : CarPlan) (event : Event) (at : ℕ) (k : State) (stage : Option CarStage) → plan.sdp ≡ 0 → IsOfCar event → timing plan (hearing at event k) ≡ nothing → Awaits plan k stage []
    → brought event ≡ [] → Awaits plan (hearing at event k) stage []
idles plan event at k stage joined o t a n =
    let none : [] ++ brought event ≡ [] = n in
    subst (λ (x : List ℕ). Awaits plan (hearing at event k) stage x) none (awaits_on None plan event at k stage [] joined o t a (ap whole_at none ∙ empty_waits))

-- with a message that comes
comes_by : (plan : CarPlan) (event : Event) (at : ℕ) (k : State) (stage : Option CarStage) (payload unread rest : List ℕ) → plan.sdp ≡ 0 → IsOfCar event → timing plan (hearing at event k) ≡ nothing
    → Awaits plan k stage unread → Comes payload (unread ++ brought event) rest → Front payload (unread ++ brought event) rest → Awaits plan (hearing at event k) stage (unread ++ brought event)
comes_by plan event at k stage payload unread rest joined o t a c (OnItsWay w) = awaits_on None plan event at k stage unread joined o t a w
comes_by plan event at k stage payload unread rest joined o t a c (Whole u n) =
    awaits_on (Some (length payload)) plan event at k stage unread joined o t a (ap whole_at u ∙ whole_frame payload c.short)

comes_to : (plan : CarPlan) (event : Event) (at : ℕ) (k : State) (stage : Option CarStage) (payload unread way rest : List ℕ) → plan.sdp ≡ 0 → IsOfCar event → timing plan (hearing at event k) ≡ nothing
    → Awaits plan k stage unread → way ≡ brought event ++ rest → Comes payload unread way → Awaits plan (hearing at event k) stage (unread ++ brought event)
comes_to plan event at k stage payload unread way rest joined o t a e c =
    let next : Comes payload (unread ++ brought event) rest = comes_on payload unread way (brought event) rest e c in
    comes_by plan event at k stage payload unread rest joined o t a next (front payload (unread ++ brought event) rest next)

-- ---- it pauses, or asks once more

pauses_on : (plan : CarPlan) (event : Event) (at : ℕ) (k : State) (stage : CarStage) (a : Pauses plan k stage) → plan.sdp ≡ 0 → IsOfCar event → timing plan (hearing at event k) ≡ nothing
    → brought event ≡ [] → is_due a.session.again at ≡ false → Pauses plan (hearing at event k) stage
pauses_on plan event at k stage a joined o t n later =
    let still : IsStill plan k a.session = a.still in
    let there : (hearing at event k).session ≡ Some (heard_in event a.session) = ap (session_heard event at) still.session_is in
    let none : (heard_in event a.session).unread ≡ [] = still_nothing a.session.unread (brought event) a.unread_is n in
    record {
      session = heard_in event a.session;
      still = record { session_is = there; none = refl; stays = stays_by None plan event at k (heard_in event a.session) joined o t there later (ap whole_at none ∙ empty_waits) };
      goes_on = a.goes_on;
      stage_is = a.stage_is;
      unread_is = none;
      stop = no_stop event a.session.stop o ∙ a.stop;
      sent = a.sent;
    }

asks_again : (plan : CarPlan) (event : Event) (at : ℕ) (k : State) (stage : CarStage) (a : Pauses plan k stage) → IsOfCar event → timing plan (hearing at event k) ≡ nothing → brought event ≡ []
    → is_due a.session.again at ≡ true → IsToSay plan (hearing at event k) (Some stage) None (Asked stage.dialect (request_of plan stage))
asks_again plan event at k stage a o t n due =
    let still : IsStill plan k a.session = a.still in
    let there : (hearing at event k).session ≡ Some (heard_in event a.session) = ap (session_heard event at) still.session_is in
    let none : (heard_in event a.session).unread ≡ [] = still_nothing a.session.unread (brought event) a.unread_is n in
    let asks : repeating plan (Some (heard_in event a.session)) at ≡ record nothing { spoken = Some (Asked stage.dialect (request_of plan stage)) } =
    ap (λ (b : Bool). if b then record nothing { spoken = asking plan a.session.stage } else nothing) due
    ∙ ap (λ (x : Option CarStage). record nothing { spoken = asking plan x }) a.stage_is in
    let decides : decided plan (hearing at event k) ≡ record (hearing at event k) { agenda = repeating plan (Some (heard_in event a.session)) at; part = Wording } =
    cars_ask_once_more plan (hearing at event k) (heard_in event a.session) refl a.goes_on refl t (no_event plan event (hearing at event k) o) there (ap whole_at none ∙ empty_waits) (ap is_done asks) in
    record {
      session = heard_in event a.session;
      session_is = there;
      goes_on = a.goes_on;
      stage_is = a.stage_is;
      unread_is = none;
      stop = no_stop event a.session.stop o ∙ a.stop;
      agenda_is = ap (λ (x : State). x.agenda) decides ∙ asks;
      part_is = ap (λ (x : State). x.part) decides;
    }

rests_on : (due : Bool) (c : post.Codecs) (cc : car.Codecs) (post_plan : PostPlan) (plan : CarPlan) (b : Both) (s : station.State) (k : State) (to_station to_car rest : List ℕ) (at : ℕ) (event : Event)
    → plan.sdp ≡ 0 → Listens post_plan s b.post [] → (a : Pauses plan k b.car) → NothingComes to_station to_car → IsOfCar event → to_car ≡ brought event ++ rest
    → timing plan (hearing at event k) ≡ nothing → is_due a.session.again at ≡ due → Talks c cc post_plan plan b s (hearing at event k) to_station rest
rests_on true c cc post_plan plan b s k to_station to_car rest at event joined l a none o e t due =
    IsToAsk None l (asks_again plan event at k b.car a o t (no_piece to_car (brought event) rest e none.car) due) (nothing_to_car to_station to_car (brought event) rest e none)
rests_on false c cc post_plan plan b s k to_station to_car rest at event joined l a none o e t due =
    Rests l (pauses_on plan event at k b.car a joined o t (no_piece to_car (brought event) rest e none.car) due) (nothing_to_car to_station to_car (brought event) rest e none)

-- ---- in each phase

begins_hear : (c : post.Codecs) (cc : car.Codecs) (post_plan : PostPlan) (plan : CarPlan) (s : station.State) (k : State) (to_station to_car rest : List ℕ) (at : ℕ) (event : Event)
    → plan.sdp ≡ 0 → Begins c cc post_plan plan s k to_station to_car → IsQuiet plan k → IsOfCar event → to_car ≡ brought event ++ rest → timing plan (hearing at event k) ≡ nothing
    → Begins c cc post_plan plan s (hearing at event k) to_station rest
begins_hear c cc post_plan plan s k to_station to_car rest at event joined (IsToOffer come say none) q o e t = absurd (say_quiet plan k None None _ say q)
begins_hear c cc post_plan plan s k to_station to_car rest at event joined (Offered request offers come a comes n) q o e t =
    Offered request offers come (idles plan event at k None joined o t a (no_piece to_car (brought event) rest e n)) comes (no_rest to_car (brought event) rest e n)
begins_hear c cc post_plan plan s k to_station to_car rest at event joined (Offers request unread offers l a comes n) q o e t =
    Offers request unread offers l (idles plan event at k None joined o t a (no_piece to_car (brought event) rest e n)) comes (no_rest to_car (brought event) rest e n)
begins_hear c cc post_plan plan s k to_station to_car rest at event joined (Responded request unread begun l a n comes) q o e t =
    Responded request (unread ++ brought event) begun l (comes_to plan event at k None begun.response unread to_car rest joined o t a e comes) n
    (comes_on begun.response unread to_car (brought event) rest e comes)

talks_hear : (c : post.Codecs) (cc : car.Codecs) (post_plan : PostPlan) (plan : CarPlan) (b : Both) (s : station.State) (k : State) (to_station to_car rest : List ℕ) (at : ℕ) (event : Event)
    → plan.sdp ≡ 0 → Talks c cc post_plan plan b s k to_station to_car → IsQuiet plan k → IsOfCar event → to_car ≡ brought event ++ rest → timing plan (hearing at event k) ≡ nothing
    → Talks c cc post_plan plan b s (hearing at event k) to_station rest
talks_hear c cc post_plan plan b s k to_station to_car rest at event joined (IsToAsk order l say none) q o e t = absurd (say_quiet plan k _ order _ say q)
talks_hear c cc post_plan plan b s k to_station to_car rest at event joined (Rests l pauses none) q o e t =
    rests_on (is_due pauses.session.again at) c cc post_plan plan b s k to_station to_car rest at event joined l pauses none o e t refl
talks_hear c cc post_plan plan b s k to_station to_car rest at event joined (Asks request unread encodes l a comes n) q o e t =
    Asks request unread encodes l (idles plan event at k (Some b.car) joined o t a (no_piece to_car (brought event) rest e n)) comes (no_rest to_car (brought event) rest e n)
talks_hear c cc post_plan plan b s k to_station to_car rest at event joined (IsToReply facts later shown fits send a none) q o e t =
    IsToReply facts later shown fits send (idles plan event at k (Some b.car) joined o t a (no_piece to_car (brought event) rest e none.car))
    (nothing_to_car to_station to_car (brought event) rest e none)
talks_hear c cc post_plan plan b s k to_station to_car rest at event joined (Closes facts shown fits last l w a none) q o e t =
    Closes facts shown fits last l w (idles plan event at k (Some b.car) joined o t a (no_piece to_car (brought event) rest e none.car))
    (nothing_to_car to_station to_car (brought event) rest e none)
talks_hear c cc post_plan plan b s k to_station to_car rest at event joined (Replies facts later shown payload unread fits encodes goes a n comes) q o e t =
    Replies facts later shown payload (unread ++ brought event) fits encodes goes (comes_to plan event at k (Some b.car) payload unread to_car rest joined o t a e comes) n
    (comes_on payload unread to_car (brought event) rest e comes)

none_opens : (event : Event) (at : ℕ) → IsOfCar event → opened event at ≡ None
none_opens (Bytes bytes) at o = refl
none_opens Clock at o = refl
none_opens (Plant event) at o = absurd o
none_opens (Came other) at o = absurd o
none_opens Gone at o = absurd o
none_opens (Datagram bytes) at o = absurd o
none_opens Over at o = absurd o

ends_hear : (post_plan : PostPlan) (plan : CarPlan) (s : station.State) (k : State) (to_station to_car rest : List ℕ) (at : ℕ) (event : Event) → Ends post_plan plan s k to_station to_car → IsQuiet plan k
    → IsOfCar event → to_car ≡ brought event ++ rest → Ends post_plan plan s (hearing at event k) to_station rest
ends_hear post_plan plan s k to_station to_car rest at event (IsToStop order g finish none) q o e = absurd (finish_quiet plan k order _ finish q)
ends_hear post_plan plan s k to_station to_car rest at event (Stopped g ended none) q o e =
    Stopped g (record { session = ap (session_heard event at) ended.session ∙ none_opens event at o; over = ended.over; none = refl }) (nothing_to_car to_station to_car (brought event) rest e none)

by_end : (x : Bool) (c : post.Codecs) (cc : car.Codecs) (post_plan : PostPlan) (plan : CarPlan) (b : Both) (s : station.State) (k : State) (to_station to_car rest : List ℕ) (at : ℕ) (event : Event)
    → plan.sdp ≡ 0 → TalksBy x c cc post_plan plan b s k to_station to_car → IsQuiet plan k → IsOfCar event → to_car ≡ brought event ++ rest
    → timing plan (hearing at event k) ≡ nothing → TalksBy x c cc post_plan plan b s (hearing at event k) to_station rest
by_end true c cc post_plan plan b s k to_station to_car rest at event joined t q o e n = ends_hear post_plan plan s k to_station to_car rest at event t q o e
by_end false c cc post_plan plan b s k to_station to_car rest at event joined t q o e n = talks_hear c cc post_plan plan b s k to_station to_car rest at event joined t q o e n

pub cars_hear : (c : post.Codecs) (cc : car.Codecs) → CarsHear c cc
cars_hear c cc post_plan plan NoneYet s k to_station to_car rest at event p phase q o e t =
    begins_hear c cc post_plan plan s k to_station to_car rest at event p.joined phase q o e t
cars_hear c cc post_plan plan (Read dialect xs) s k to_station to_car rest at event p phase q o e t =
    (phase.0, by_end (has_ended post_plan plan token dialect xs) c cc post_plan plan (both post_plan plan token dialect xs) s k to_station to_car rest at event p.joined phase.1 q o e t)
