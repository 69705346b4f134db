-- The last order of a car to its contactor, by what it keeps.
use Rattle.std.proofs.Common.{◌≡◌, ℕ, Bool, true, false, ◌&&◌, not, if◌then◌else◌, List, [], Option, Some, None, Result, Ok, Err, refl, ap, sym, subst, ◌∙◌, ◌⊎◌}
use Rattle.std.specs.Option.{option_map}
use Rattle.charge_world.specs.declared.heard.PlantEvent.{PlantEvent}
use Rattle.charge_world.specs.declared.offer.Dialect.{Dialect}
use Rattle.charge_world.specs.declared.ports.Order.{Order}
use Rattle.charge_world.specs.declared.ports.Order.TheVariants as order
use Rattle.session_words.specs.declared.cause.EndCause.{EndCause}
use Rattle.session_words.specs.declared.cause.EndCause.TheVariants as cause
use Rattle.session_words.specs.declared.plan.CarPlan.{CarPlan}
use Rattle.session_words.specs.declared.plan.PostPlan.{PostPlan}
use Rattle.session_words.specs.declared.word.Reply.{Reply}
use Rattle.session_words.specs.Causes.{number_of}
use Rattle.v2gtp_frames.specs.declared.FrameFault.{FrameFault}
use Rattle.v2gtp_frames.specs.Frames.{frame}
use Rattle.v2gtp_frames.specs.Reading.{whole_at}
use Rattle.post_spec.specs.Codecs as post
use Rattle.post_spec.specs.Steps.{Event, Came, Bytes, Gone, Datagram, Plant, Clock, Over}
use Rattle.station_spec.specs.States as station
use Rattle.station_spec.specs.Deciding.{opening_if}
use Rattle.car_rules.specs.declared.stage.CarPhase.{CarPhase}
use Rattle.car_rules.specs.declared.stage.CarPhase.TheVariants as phase
use Rattle.car_rules.specs.declared.stage.CarStage.{CarStage}
use Rattle.car_rules.specs.Deadlines.{due_at, hit}
use Rattle.car_rules.specs.Moves.{is_again, stage_behind, stops}
use Rattle.car_rules.specs.Replies.{is_ending, reply_cause, plant_cause}
use Rattle.car_rules.specs.Searching.{is_searching}
use Rattle.car_rules.specs.Stages.{first_stage}
use Rattle.car_spec.specs.Codecs as car
use Rattle.car_spec.specs.Codecs.{Chosen, Told, WrongSide, Refused}
use Rattle.car_spec.specs.Steps.{Spoken, Act, Give, Say, End}
use Rattle.car_spec.specs.States.{Agenda, Session, State, Todo, is_none, is_done, first_of, first}
use Rattle.car_spec.specs.States as states
use Rattle.car_spec.specs.Due.{all_deadlines, is_due}
use Rattle.car_spec.specs.Deciding.{ending_if, timing, charging, greeting, ending_in, eventing, fronting_by, fronting, repeating, from_part, decided}
use Rattle.car_spec.specs.Hearing.{session_heard, heard_in, hearing}
use Rattle.car_spec.specs.Judging.{Payload, payload_in, IsRead, passed, ends, waiting, gone_on, moved, replied_by, replied, judged, judged_in, read}
use Rattle.car_spec.specs.Acting.{awaiting, acted}
use Rattle.car_spec.specs.Next.{IsQuiet, IsDone, MayAct, MayRead}
use Rattle.car_laws.proofs.Decided.{decided_by}
use Rattle.pipe_spec.specs.Histories.{token}
use Rattle.pipe_spec.specs.Counts.{contactor_order, car_ordered}
use Rattle.pair_words.specs.Exchanges.{Both, Outside}
use Rattle.pair_words.specs.Laws.{both, has_ended}
use Rattle.pair_words.specs.Orders.{ordered_behind}
use Rattle.pair_deeds.specs.Cars.{IsStill}
use Rattle.matched_pairs.specs.Ends.{IsToSay, Awaits, IsToFinish}
use Rattle.matched_pairs.specs.Hearings.{IsOfCar}
use Rattle.matched_pairs.specs.Phases.{Begins, IsToOffer, Offered, Offers, Responded, Talks, IsToAsk, Rests, Asks, IsToReply, Closes, Replies, Ends, IsToStop, Stopped, Words, NoneYet, Read, TalksBy, IsIn}
use Rattle.matched_pairs.specs.Moves.{IsNext, HasRead}
use Rattle.matched_pairs.proofs.CarPhases.{same_session, same_over, still_acts, ended_acts, say_reads}
use Rattle.matched_pairs.proofs.CarReads.{ends_reads}
use Rattle.matched_pairs.proofs.Courses.{begins_live, talks_live}
use Rattle.matched_pairs.proofs.Ends.{read_over}
use Rattle.matched_pairs.proofs.Stops.{is_behind_stop, comes_from, not_again, ClosesNothing, stays_open, was_open, opening_closes_nothing, car_ordered_open}

some_none : {A : Type 0} (a : A) → Some a ≡ None → ⊥
some_none a e = cc

true_false : (b : Bool) → b ≡ true → b ≡ false → ⊥
true_false b e f = cc

some_session : (a b : Session) → Some a ≡ Some b → a ≡ b
some_session a b e = cc

some_stage : (a b : CarStage) → Some a ≡ Some b → a ≡ b
some_stage a b e = cc

-- the contactor is ordered open, once the order that is to be given is given too
abbrev pub IsOpening : State → Option Order → Type 0
IsOpening k earlier = ordered_behind k.agenda.order earlier ≡ Some order.Open

abbrev pub IsBehindStop : Option CarStage → Type 0
IsBehindStop None = ⊥
IsBehindStop (Some stage) = is_behind_stop stage.phase ≡ true

-- so it is behind PowerDelivery Stop
abbrev pub StagesOpen : State → Option Order → Type 0
StagesOpen k earlier = (x : Session) → k.session ≡ Some x → IsBehindStop x.stage → IsOpening k earlier

-- as the car is to end, and once it has ended
pub record CarOpens (k : State) (earlier : Option Order) : Type 0 where
  pub stage : StagesOpen k earlier
  pub ending : (cause : EndCause) → k.agenda.ending ≡ Some cause → IsOpening k earlier
  pub over : k.over ≡ true → IsOpening k earlier

-- a car that has just come is at no stage
pub stage_of : (session x : Session) → Some session ≡ Some x → session.stage ≡ x.stage
stage_of session x e = ap (λ (z : Session). z.stage) (some_session session x e)

-- ---- what is to be done

not_done : (p : Option ℕ) (o : Option Order) (r : Option Spoken) (e : Option EndCause) (seeks : Bool) (q : Order) → o ≡ Some q → is_none (first_of p o r e seeks) ≡ false
not_done (Some x) o r e seeks q f = refl
not_done None (Some y) r e seeks q f = refl
not_done None None r e seeks q f = absurd (some_none q (sym f))

not_ended : (p : Option ℕ) (o : Option Order) (r : Option Spoken) (e : Option EndCause) (seeks : Bool) (cause : EndCause) → e ≡ Some cause → is_none (first_of p o r e seeks) ≡ false
not_ended (Some x) o r e seeks cause f = refl
not_ended None (Some y) r e seeks cause f = refl
not_ended None None (Some spoken) e seeks cause f = refl
not_ended None None None (Some own) seeks cause f = refl
not_ended None None None None seeks cause f = absurd (some_none cause (sym f))

done_none : (p : Option ℕ) (o : Option Order) (r : Option Spoken) (e : Option EndCause) (seeks : Bool) → is_none (first_of p o r e seeks) ≡ true → o ≡ None
done_none (Some x) o r e seeks f = cc
done_none None (Some y) r e seeks f = cc
done_none None None r e seeks f = refl

drive_so : (p : Option ℕ) (o : Option Order) (r : Option Spoken) (e : Option EndCause) (seeks : Bool) (q : Order) → first_of p o r e seeks ≡ Some (states.Drive q) → o ≡ Some q
drive_so (Some x) o r e seeks q f = cc
drive_so None (Some y) r e seeks q f = cc
drive_so None None (Some spoken) e seeks q f = cc
drive_so None None None (Some own) seeks q f = cc
drive_so None None None None true q f = cc
drive_so None None None None false q f = cc

finish_none : (p : Option ℕ) (o : Option Order) (r : Option Spoken) (e : Option EndCause) (seeks : Bool) (cause : EndCause) → first_of p o r e seeks ≡ Some (states.Finish cause) → o ≡ None
finish_none (Some x) o r e seeks cause f = cc
finish_none None (Some y) r e seeks cause f = cc
finish_none None None r e seeks cause f = refl

finish_so : (p : Option ℕ) (o : Option Order) (r : Option Spoken) (e : Option EndCause) (seeks : Bool) (cause : EndCause) → first_of p o r e seeks ≡ Some (states.Finish cause) → e ≡ Some cause
finish_so (Some x) o r e seeks cause f = cc
finish_so None (Some y) r e seeks cause f = cc
finish_so None None (Some spoken) e seeks cause f = cc
finish_so None None None (Some own) seeks cause f = cc
finish_so None None None None true cause f = cc
finish_so None None None None false cause f = cc

order_none : (a : Agenda) → is_done a ≡ true → a.order ≡ None
order_none a e = done_none a.port a.order a.spoken a.ending a.seeks e

stays_busy : (plan : CarPlan) (k : State) → is_done k.agenda ≡ false → decided plan k ≡ k
stays_busy plan k e = ap (λ (b : Bool). if b && not k.over then from_part plan k.part k else k) e

-- an order that is to be given is so until it is given
undone_by : (o : Option Order) (plan : CarPlan) (k : State) → k.agenda.order ≡ o → (decided plan k).agenda.order ≡ None → o ≡ None
undone_by None plan k e f = refl
undone_by (Some q) plan k e f =
    let stays : decided plan k ≡ k = stays_busy plan k (not_done k.agenda.port k.agenda.order k.agenda.spoken k.agenda.ending k.agenda.seeks q e) in
    absurd (some_none q (sym e ∙ sym (ap (λ (x : State). x.agenda.order) stays) ∙ f))

undone : (plan : CarPlan) (k : State) → (decided plan k).agenda.order ≡ None → k.agenda.order ≡ None
undone plan k f = undone_by k.agenda.order plan k refl f

quiet_order : (plan : CarPlan) (k : State) → IsQuiet plan k → k.agenda.order ≡ None
quiet_order plan k q = undone plan k (order_none (decided plan k).agenda (ap is_none q.none))

read_done : (b : Bool) (c : car.Codecs) (plan : CarPlan) (o : Option Payload) (w : car.Judged) → IsRead c plan (if b then o else None) w → b ≡ true
read_done true c plan o w i = refl
read_done false c plan o w i = absurd i

read_order : (c : car.Codecs) (plan : CarPlan) (k : State) (w : car.Judged) → MayRead c plan k w → k.agenda.order ≡ None
read_order c plan k w i =
    undone plan k (order_none (decided plan k).agenda (read_done (is_done (decided plan k).agenda) c plan (payload_in (decided plan k).session) w i))

-- ---- what is decided without a word closes nothing

if_ends : (o : Option EndCause) (live : Bool) → ClosesNothing (ending_if o live).order
if_ends None live = tt
if_ends (Some cause) live = opening_closes_nothing live

in_ends : (o : Option Session) (cause : EndCause) (live : Bool) → ClosesNothing (ending_in o cause live).order
in_ends None cause live = tt
in_ends (Some session) cause live = opening_closes_nothing live

greets : (stood live : Bool) → ClosesNothing (greeting stood live).order
greets true live = opening_closes_nothing live
greets false live = tt

calls_if : (b : Bool) (o : Option ℕ) → ClosesNothing (if b then record states.nothing { port = o } else states.nothing).order
calls_if true o = tt
calls_if false o = tt

charges : (o : Option Session) (event : PlantEvent) (live : Bool) → ClosesNothing (charging o event live).order
charges None event live = tt
charges (Some session) event live = if_ends (plant_cause event) live

events_close_nothing : (plan : CarPlan) (event : Event) (k : State) → ClosesNothing (eventing plan event k).order
events_close_nothing plan (Came arrived) k = greets k.stood k.live
events_close_nothing plan (Bytes bytes) k = tt
events_close_nothing plan Gone k = in_ends k.session cause.Gone k.live
events_close_nothing plan (Datagram bytes) k = calls_if (is_searching plan k.search) _
events_close_nothing plan (Plant event) k = charges k.session event k.live
events_close_nothing plan Clock k = tt
events_close_nothing plan Over k = opening_closes_nothing k.live

front_by : (r : Result (Option ℕ) FrameFault) (live : Bool) → ClosesNothing (fronting_by r live).order
front_by (Err fault) live = opening_closes_nothing live
front_by (Ok count) live = tt

fronts_close_nothing : (o : Option Session) (live : Bool) → ClosesNothing (fronting o live).order
fronts_close_nothing None live = tt
fronts_close_nothing (Some session) live = front_by (whole_at session.unread) live

asks_if : (b : Bool) (o : Option Spoken) → ClosesNothing (if b then record states.nothing { spoken = o } else states.nothing).order
asks_if true o = tt
asks_if false o = tt

repeats_close_nothing : (plan : CarPlan) (o : Option Session) (now : ℕ) → ClosesNothing (repeating plan o now).order
repeats_close_nothing plan None now = tt
repeats_close_nothing plan (Some session) now = asks_if (is_due session.again now) _

both_true : (a b : Bool) → (a && b) ≡ true → a ≡ true
both_true true b e = refl
both_true false b e = cc

decided_open : (plan : CarPlan) (k : State) (earlier : Option Order) → IsOpening k earlier → IsOpening (decided plan k) earlier
decided_open plan k earlier e =
    decided_by (λ (s : State). IsOpening s earlier) plan k
    (λ d. let was : earlier ≡ Some order.Open = was_open k.agenda.order earlier (order_none k.agenda (both_true (is_done k.agenda) (not k.over) d)) e in
    record {
      times = λ early. stays_open (timing plan k).order earlier (if_ends (hit (all_deadlines plan k) k.clock) k.live) was;
      events = λ early. stays_open (eventing plan k.event k).order earlier (events_close_nothing plan k.event k) was;
      fronts = stays_open (fronting k.session k.live).order earlier (fronts_close_nothing k.session k.live) was;
      repeats = stays_open (repeating plan k.session k.clock).order earlier (repeats_close_nothing plan k.session k.clock) was;
      seeks = was;
    })
    e

-- ---- it hears something

heard_stage : (event : Event) (at : ℕ) (o : Option Session) (x : Session) → IsOfCar event → session_heard event at o ≡ Some x → (y : Session) × (o ≡ Some y) × (y.stage ≡ x.stage)
heard_stage event at (Some y) x i e = (y, refl, ap (λ (z : Session). z.stage) (some_session (heard_in event y) x e))
heard_stage (Bytes bytes) at None x i e = absurd (some_none x (sym e))
heard_stage Clock at None x i e = absurd (some_none x (sym e))
heard_stage (Came arrived) at None x i e = absurd i
heard_stage Gone at None x i e = absurd i
heard_stage (Datagram bytes) at None x i e = absurd i
heard_stage (Plant event) at None x i e = absurd i
heard_stage Over at None x i e = absurd i

pub hears : (plan : CarPlan) (k : State) (at : ℕ) (event : Event) (earlier : Option Order) → IsOfCar event → IsQuiet plan k → CarOpens k earlier → CarOpens (hearing at event k) earlier
hears plan k at event earlier i q o = record {
  stage = λ x e l. let w = heard_stage event at k.session x i e in
      was_open k.agenda.order earlier (quiet_order plan k q) (o.stage w.0 w.1 (subst IsBehindStop (sym w.2) l));
  ending = λ cause e. absurd (some_none cause (sym e));
  over = λ e. was_open k.agenda.order earlier (quiet_order plan k q) (o.over e);
}

-- ---- it does something

mapped : (f : Session → Session) (o : Option Session) (x : Session) → option_map f o ≡ Some x → (y : Session) × (o ≡ Some y) × (f y ≡ x)
mapped f None x e = absurd (some_none x (sym e))
mapped f (Some y) x e = (y, refl, some_session (f y) x e)

gives : (o : Order) (d : State) (earlier : Option Order) → d.agenda.order ≡ Some o → CarOpens d earlier → CarOpens (acted (Give o) true d) (contactor_order o earlier)
gives o d earlier e k =
    let given : contactor_order o earlier ≡ ordered_behind d.agenda.order earlier = sym (ap (λ (z : Option Order). ordered_behind z earlier) e) in
    record {
      stage = λ x f l. given ∙ k.stage x f l;
      ending = λ cause f. given ∙ k.ending cause f;
      over = λ f. given ∙ k.over f;
    }

says : (spoken : Spoken) (bytes : List ℕ) (d : State) (earlier : Option Order) → CarOpens d earlier → CarOpens (acted (Say spoken bytes) true d) earlier
says spoken bytes d earlier k = record {
  stage = λ x f l. let m = mapped (awaiting d.clock) d.session x f in k.stage m.0 m.1 (subst IsBehindStop (sym (ap (λ (z : Session). z.stage) m.2)) l);
  ending = k.ending;
  over = k.over;
}

finishes : (number : ℕ) (d : State) (earlier : Option Order) (cause : EndCause) → first d.agenda ≡ Some (states.Finish cause) → CarOpens d earlier → CarOpens (acted (End number) true d) earlier
finishes number d earlier cause f k = record {
  stage = λ x e l. absurd (some_none x (sym e));
  ending = λ own e. absurd (some_none own (sym e));
  over = λ e. was_open d.agenda.order earlier (finish_none d.agenda.port d.agenda.order d.agenda.spoken d.agenda.ending d.agenda.seeks cause f)
      (k.ending cause (finish_so d.agenda.port d.agenda.order d.agenda.spoken d.agenda.ending d.agenda.seeks cause f));
}

acts_on : (todo : Todo) (c : car.Codecs) (plan : CarPlan) (d : State) (act : Act) (earlier : Option Order) → first d.agenda ≡ Some todo → IsDone c plan todo act true → CarOpens d earlier
    → CarOpens (acted act true d) (car_ordered act earlier)
acts_on (states.Call port) c plan d act earlier f i k =
    subst (λ (a : Act). CarOpens (acted a true d) (car_ordered a earlier)) (sym i) (record { stage = k.stage; ending = k.ending; over = k.over })
acts_on (states.Drive o) c plan d act earlier f i k =
    subst (λ (a : Act). CarOpens (acted a true d) (car_ordered a earlier)) (sym i)
    (gives o d earlier (drive_so d.agenda.port d.agenda.order d.agenda.spoken d.agenda.ending d.agenda.seeks o f) k)
acts_on (states.Speak spoken) c plan d act earlier f i k = subst (λ (a : Act). CarOpens (acted a true d) (car_ordered a earlier)) (sym i.act_is) (says spoken (frame i.payload) d earlier k)
acts_on (states.Finish cause) c plan d act earlier f i k = subst (λ (a : Act). CarOpens (acted a true d) (car_ordered a earlier)) (sym i.0) (finishes (number_of cause) d earlier cause f k)
acts_on states.Inquire c plan d act earlier f i k =
    subst (λ (a : Act). CarOpens (acted a true d) (car_ordered a earlier)) (sym i) (record { stage = k.stage; ending = k.ending; over = k.over })

-- what it is to say ends nothing
says_on : (plan : CarPlan) (k : State) (stage : Option CarStage) (o : Option Order) (spoken : Spoken) → IsToSay plan k stage o spoken → (decided plan k).agenda.ending ≡ None
says_on plan k stage o spoken s = ap (λ (a : Agenda). a.ending) s.agenda_is

finish_stays : (plan : CarPlan) (k : State) (o : Option Order) (why : EndCause) → IsToFinish plan k o why → decided plan k ≡ k
finish_stays plan k o why f =
    stays_busy plan k (not_ended k.agenda.port k.agenda.order k.agenda.spoken k.agenda.ending k.agenda.seeks why (ap (λ (a : Agenda). a.ending) f.agenda_is))

-- no cause is decided without a word
abbrev pub EndsAsBefore : CarPlan → State → Type 0
EndsAsBefore plan k = (cause : EndCause) → (decided plan k).agenda.ending ≡ Some cause → k.agenda.ending ≡ Some cause

none_ends : (plan : CarPlan) (k : State) → (decided plan k).agenda.ending ≡ None → EndsAsBefore plan k
none_ends plan k n cause e = absurd (some_none cause (sym e ∙ n))

begins_acts : (c : post.Codecs) (cs : car.Codecs) (post_plan : PostPlan) (plan : CarPlan) (s : station.State) (k : State) (ts tc : List ℕ) (act : Act) → Begins c cs post_plan plan s k ts tc
    → MayAct cs plan k act true → EndsAsBefore plan k
begins_acts c cs post_plan plan s k ts tc act (IsToOffer come say none) i = none_ends plan k (says_on plan k _ _ _ say)
begins_acts c cs post_plan plan s k ts tc act (Offered request offers come a comes e) i = absurd (still_acts cs plan k a.session act a.still i)
begins_acts c cs post_plan plan s k ts tc act (Offers request unread offers l a comes e) i = absurd (still_acts cs plan k a.session act a.still i)
begins_acts c cs post_plan plan s k ts tc act (Responded request unread begun l a e comes) i = absurd (still_acts cs plan k a.session act a.still i)

talks_acts : (c : post.Codecs) (cs : car.Codecs) (post_plan : PostPlan) (plan : CarPlan) (b : Both) (s : station.State) (k : State) (ts tc : List ℕ) (act : Act) → Talks c cs post_plan plan b s k ts tc
    → MayAct cs plan k act true → EndsAsBefore plan k
talks_acts c cs post_plan plan b s k ts tc act (IsToAsk o l say none) i = none_ends plan k (says_on plan k _ _ _ say)
talks_acts c cs post_plan plan b s k ts tc act (Rests l a none) i = absurd (still_acts cs plan k a.session act a.still i)
talks_acts c cs post_plan plan b s k ts tc act (Asks request unread encodes l a comes e) i = absurd (still_acts cs plan k a.session act a.still i)
talks_acts c cs post_plan plan b s k ts tc act (IsToReply facts later shown fits send a none) i = absurd (still_acts cs plan k a.session act a.still i)
talks_acts c cs post_plan plan b s k ts tc act (Closes facts shown fits last l w a none) i = absurd (still_acts cs plan k a.session act a.still i)
talks_acts c cs post_plan plan b s k ts tc act (Replies facts later shown payload unread fits encodes goes a e comes) i = absurd (still_acts cs plan k a.session act a.still i)

ends_acts : (cs : car.Codecs) (post_plan : PostPlan) (plan : CarPlan) (s : station.State) (k : State) (ts tc : List ℕ) (act : Act) → Ends post_plan plan s k ts tc → MayAct cs plan k act true → EndsAsBefore plan k
ends_acts cs post_plan plan s k ts tc act (IsToStop o g finish none) i =
    λ cause e. sym (ap (λ (x : State). x.agenda.ending) (finish_stays plan k o _ finish)) ∙ e
ends_acts cs post_plan plan s k ts tc act (Stopped g ended none) i = absurd (ended_acts cs plan k act ended i)

acts_by : (x : Bool) (c : post.Codecs) (cs : car.Codecs) (post_plan : PostPlan) (plan : CarPlan) (b : Both) (s : station.State) (k : State) (ts tc : List ℕ) (act : Act) → TalksBy x c cs post_plan plan b s k ts tc
    → MayAct cs plan k act true → EndsAsBefore plan k
acts_by true c cs post_plan plan b s k ts tc act t i = ends_acts cs post_plan plan s k ts tc act t i
acts_by false c cs post_plan plan b s k ts tc act t i = talks_acts c cs post_plan plan b s k ts tc act t i

ends_as_before : (words : Words) (c : post.Codecs) (cs : car.Codecs) (post_plan : PostPlan) (plan : CarPlan) (s : station.State) (k : State) (ts tc : List ℕ) (act : Act) → IsIn c cs post_plan plan words s k ts tc
    → MayAct cs plan k act true → EndsAsBefore plan k
ends_as_before NoneYet c cs post_plan plan s k ts tc act p i = begins_acts c cs post_plan plan s k ts tc act p i
ends_as_before (Read dialect xs) c cs post_plan plan s k ts tc act p i =
    acts_by (has_ended post_plan plan token dialect xs) c cs post_plan plan (both post_plan plan token dialect xs) s k ts tc act p.1 i

pub does : (words : Words) (c : post.Codecs) (cs : car.Codecs) (post_plan : PostPlan) (plan : CarPlan) (s : station.State) (k : State) (ts tc : List ℕ) (act : Act) (earlier : Option Order)
    → IsIn c cs post_plan plan words s k ts tc → MayAct cs plan k act true → CarOpens k earlier → CarOpens (acted act true (decided plan k)) (car_ordered act earlier)
does words c cs post_plan plan s k ts tc act earlier p i o =
    acts_on i.todo cs plan (decided plan k) act earlier i.acts i.done (record {
      stage = λ x e l. decided_open plan k earlier (o.stage x (sym (same_session plan k) ∙ e) l);
      ending = λ cause e. decided_open plan k earlier (o.ending cause (ends_as_before words c cs post_plan plan s k ts tc act p i cause e));
      over = λ e. decided_open plan k earlier (o.over (sym (same_over plan k) ∙ e));
    })

-- ---- it reads a word

-- what was ordered before it
abbrev pub WasOpen : Option CarStage → Option Order → Type 0
WasOpen stage earlier = IsBehindStop stage → earlier ≡ Some order.Open

end_opens : (d : State) (session : Session) (why : EndCause) (earlier : Option Order) → WasOpen session.stage earlier → StagesOpen (ends d session why) earlier
end_opens d session why earlier h x e l =
    stays_open (opening_if d.live) earlier (opening_closes_nothing d.live) (h (subst IsBehindStop (sym (ap (λ (z : Session). z.stage) (some_session (passed session) x e))) l))

goes_to : (plan : CarPlan) (from : CarStage) (r : Reply) (stop : Bool) → is_behind_stop (stage_behind plan from r stop).phase ≡ true → (from.phase ≡ phase.Stopping) ⊎ (is_behind_stop from.phase ≡ true)
goes_to plan from r stop e = comes_from from.phase plan from.dialect r.tell (stops plan from.cycles stop r.tell) e

move_opens : (again : Bool) (plan : CarPlan) (d : State) (session : Session) (from : CarStage) (r : Reply) (earlier : Option Order) → (is_behind_stop from.phase ≡ true → earlier ≡ Some order.Open)
    → is_again from.phase (stage_behind plan from r session.stop).phase ≡ again → StagesOpen (moved plan d session from r (stage_behind plan from r session.stop)) earlier
move_opens true plan d session from r earlier h a =
    rw a (λ x e l. absurd (true_false true refl (sym (sym (not_again from.phase (stage_behind plan from r session.stop).phase
    (goes_to plan from r session.stop (subst IsBehindStop (sym (ap (λ (z : Session). z.stage) (some_session (waiting session (stage_behind plan from r session.stop) (due_at d.clock plan.pace)) x e))) l))) ∙ a))))
move_opens false plan d session from r earlier h a =
    rw a (λ x e l. car_ordered_open from.phase plan r.tell earlier h
    (goes_to plan from r session.stop (subst IsBehindStop (sym (ap (λ (z : Session). z.stage) (some_session (gone_on session (stage_behind plan from r session.stop) d.clock) x e))) l)))

reply_opens : (o : Option EndCause) (plan : CarPlan) (d : State) (session : Session) (from : CarStage) (r : Reply) (earlier : Option Order) → session.stage ≡ Some from → WasOpen session.stage earlier
    → StagesOpen (replied_by o plan d session from r) earlier
reply_opens (Some why) plan d session from r earlier e h = end_opens d session why earlier h
reply_opens None plan d session from r earlier e h = move_opens _ plan d session from r earlier (λ b. h (subst IsBehindStop (sym e) b)) refl

told_opens : (o : Option CarStage) (plan : CarPlan) (d : State) (session : Session) (r : Reply) (earlier : Option Order) → session.stage ≡ o → WasOpen session.stage earlier
    → StagesOpen (replied plan d session o r) earlier
told_opens None plan d session r earlier e h = end_opens d session cause.WrongReply earlier h
told_opens (Some from) plan d session r earlier e h = reply_opens (reply_cause plan from _ r) plan d session from r earlier e h

word_opens : (w : car.Judged) (plan : CarPlan) (d : State) (session : Session) (earlier : Option Order) → WasOpen session.stage earlier → StagesOpen (judged plan d session w) earlier
word_opens (Chosen None) plan d session earlier h = end_opens d session cause.NoNegotiation earlier h
word_opens (Chosen (Some dialect)) plan d session earlier h =
    λ x e l. absurd (true_false true refl (sym (subst IsBehindStop (sym (ap (λ (z : Session). z.stage) (some_session (gone_on session (first_stage plan dialect) d.clock) x e))) l)))
word_opens (Told r) plan d session earlier h = told_opens session.stage plan d session r earlier refl h
word_opens WrongSide plan d session earlier h = end_opens d session cause.WrongSide earlier h
word_opens Refused plan d session earlier h = end_opens d session cause.Refused earlier h

-- by a word that ends it its session stays at its stage
abbrev pub StaysWhereEnds : State → Session → Type 0
StaysWhereEnds t session = (why : EndCause) → t.agenda.ending ≡ Some why → t.session ≡ Some (passed session)

move_stays : (again : Bool) (plan : CarPlan) (d : State) (session : Session) (from to : CarStage) (r : Reply) → is_again from.phase to.phase ≡ again → StaysWhereEnds (moved plan d session from r to) session
move_stays true plan d session from to r a = rw a (λ why e. absurd (some_none why (sym e)))
move_stays false plan d session from to r a = rw a (λ why e. absurd (some_none why (sym e)))

reply_stays : (o : Option EndCause) (plan : CarPlan) (d : State) (session : Session) (from : CarStage) (r : Reply) → StaysWhereEnds (replied_by o plan d session from r) session
reply_stays (Some own) plan d session from r = λ why e. refl
reply_stays None plan d session from r = move_stays _ plan d session from _ r refl

told_stays : (o : Option CarStage) (plan : CarPlan) (d : State) (session : Session) (r : Reply) → StaysWhereEnds (replied plan d session o r) session
told_stays None plan d session r = λ why e. refl
told_stays (Some from) plan d session r = reply_stays (reply_cause plan from _ r) plan d session from r

word_stays : (w : car.Judged) (plan : CarPlan) (d : State) (session : Session) → StaysWhereEnds (judged plan d session w) session
word_stays (Chosen None) plan d session = λ why e. refl
word_stays (Chosen (Some dialect)) plan d session = λ why e. absurd (some_none why (sym e))
word_stays (Told r) plan d session = told_stays session.stage plan d session r
word_stays WrongSide plan d session = λ why e. refl
word_stays Refused plan d session = λ why e. refl

-- as it talks it has no cause
no_cause : (plan : CarPlan) (k : State) (stage : Option CarStage) (o : Option Order) (spoken : Spoken) (e : Option EndCause) → k.agenda.ending ≡ e → IsToSay plan k stage o spoken → e ≡ None
no_cause plan k stage o spoken None f s = refl
no_cause plan k stage o spoken (Some why) f s =
    let stays : decided plan k ≡ k = stays_busy plan k (not_ended k.agenda.port k.agenda.order k.agenda.spoken k.agenda.ending k.agenda.seeks why f) in
    absurd (some_none why (sym f ∙ sym (ap (λ (x : State). x.agenda.ending) stays) ∙ says_on plan k stage o spoken s))

still_none : (plan : CarPlan) (k : State) (session : Session) → IsStill plan k session → k.agenda.ending ≡ None
still_none plan k session s = ap (λ (a : Agenda). a.ending) s.none

talks_none : (c : post.Codecs) (cs : car.Codecs) (post_plan : PostPlan) (plan : CarPlan) (b : Both) (s : station.State) (k : State) (ts tc : List ℕ) → Talks c cs post_plan plan b s k ts tc → k.agenda.ending ≡ None
talks_none c cs post_plan plan b s k ts tc (IsToAsk o l say none) = no_cause plan k _ _ _ k.agenda.ending refl say
talks_none c cs post_plan plan b s k ts tc (Rests l a none) = still_none plan k a.session a.still
talks_none c cs post_plan plan b s k ts tc (Asks request unread encodes l a comes e) = still_none plan k a.session a.still
talks_none c cs post_plan plan b s k ts tc (IsToReply facts later shown fits send a none) = still_none plan k a.session a.still
talks_none c cs post_plan plan b s k ts tc (Closes facts shown fits last l w a none) = still_none plan k a.session a.still
talks_none c cs post_plan plan b s k ts tc (Replies facts later shown payload unread fits encodes goes a e comes) = still_none plan k a.session a.still

-- as it reads a reply its session is at the stage of the exchange
record IsStaged (k : State) (stage : CarStage) : Type 0 where
  session : Session
  session_is : k.session ≡ Some session
  stage_is : session.stage ≡ Some stage

awaits_staged : (plan : CarPlan) (k : State) (stage : CarStage) (unread : List ℕ) → Awaits plan k (Some stage) unread → IsStaged k stage
awaits_staged plan k stage unread a = let still : IsStill plan k a.session = a.still in record { session = a.session; session_is = still.session_is; stage_is = a.stage_is }

staged : (c : post.Codecs) (cs : car.Codecs) (post_plan : PostPlan) (plan : CarPlan) (b : Both) (s : station.State) (k : State) (ts tc : List ℕ) (w : car.Judged) → Talks c cs post_plan plan b s k ts tc
    → MayRead cs plan k w → IsStaged k b.car
staged c cs post_plan plan b s k ts tc w (IsToAsk o l say none) i = absurd (say_reads cs plan k _ o _ w say i)
staged c cs post_plan plan b s k ts tc w (Rests l a none) i = let still : IsStill plan k a.session = a.still in record { session = a.session; session_is = still.session_is; stage_is = a.stage_is }
staged c cs post_plan plan b s k ts tc w (Asks request unread encodes l a comes e) i = awaits_staged plan k b.car [] a
staged c cs post_plan plan b s k ts tc w (IsToReply facts later shown fits send a none) i = awaits_staged plan k b.car [] a
staged c cs post_plan plan b s k ts tc w (Closes facts shown fits last l x a none) i = awaits_staged plan k b.car [] a
staged c cs post_plan plan b s k ts tc w (Replies facts later shown payload unread fits encodes goes a e comes) i = awaits_staged plan k b.car unread a

staged_by : (x : Bool) (c : post.Codecs) (cs : car.Codecs) (post_plan : PostPlan) (plan : CarPlan) (b : Both) (s : station.State) (k : State) (ts tc : List ℕ) (w : car.Judged)
    → TalksBy x c cs post_plan plan b s k ts tc → MayRead cs plan k w → IsStaged k b.car × (k.over ≡ false)
staged_by true c cs post_plan plan b s k ts tc w t i = absurd (ends_reads cs post_plan plan s k ts tc w t i)
staged_by false c cs post_plan plan b s k ts tc w t i = (staged c cs post_plan plan b s k ts tc w t i, talks_live c cs post_plan plan b s k ts tc t)

live : (words : Words) (c : post.Codecs) (cs : car.Codecs) (post_plan : PostPlan) (plan : CarPlan) (s : station.State) (k : State) (ts tc : List ℕ) (w : car.Judged) → IsIn c cs post_plan plan words s k ts tc
    → MayRead cs plan k w → k.over ≡ false
live NoneYet c cs post_plan plan s k ts tc w p i = begins_live c cs post_plan plan s k ts tc p
live (Read dialect xs) c cs post_plan plan s k ts tc w p i =
    let t = staged_by (has_ended post_plan plan token dialect xs) c cs post_plan plan (both post_plan plan token dialect xs) s k ts tc w p.1 i in t.1

-- the reply to SessionStop alone ends it
ending_behind_stop : (p : CarPhase) → is_ending p ≡ true → is_behind_stop p ≡ true
ending_behind_stop phase.Ending e = refl
ending_behind_stop other e = absurd (true_false true refl (sym e))

none_behind : (x : Bool) (c : post.Codecs) (cs : car.Codecs) (post_plan : PostPlan) (plan : CarPlan) (b : Both) (s : station.State) (k : State) (ts tc : List ℕ) → x ≡ false
    → TalksBy x c cs post_plan plan b s k ts tc → k.agenda.ending ≡ None
none_behind true c cs post_plan plan b s k ts tc e t = absurd (true_false true refl e)
none_behind false c cs post_plan plan b s k ts tc e t = talks_none c cs post_plan plan b s k ts tc t

ends_behind : (x : Bool) (c : post.Codecs) (cs : car.Codecs) (post_plan : PostPlan) (plan : CarPlan) (b : Both) (s : station.State) (k : State) (ts tc : List ℕ) (why : EndCause)
    → TalksBy x c cs post_plan plan b s k ts tc → k.agenda.ending ≡ Some why → x ≡ true
ends_behind true c cs post_plan plan b s k ts tc why t e = refl
ends_behind false c cs post_plan plan b s k ts tc why t e = absurd (some_none why (sym e ∙ talks_none c cs post_plan plan b s k ts tc t))

-- where a word ends it, it was behind PowerDelivery Stop
record WasBehindStop (k : State) : Type 0 where
  session : Session
  session_is : k.session ≡ Some session
  behind : IsBehindStop session.stage

ends_from : (words behind : Words) (c : post.Codecs) (cs : car.Codecs) (post_plan : PostPlan) (plan : CarPlan) (s : station.State) (k t : State) (ts tc : List ℕ) (w : car.Judged) (why : EndCause) → IsNext words behind
    → IsIn c cs post_plan plan words s k ts tc → IsIn c cs post_plan plan behind s t ts tc → MayRead cs plan k w → t.agenda.ending ≡ Some why → WasBehindStop k
ends_from NoneYet NoneYet c cs post_plan plan s k t ts tc w why n p q i e = absurd n
ends_from (Read dialect xs) NoneYet c cs post_plan plan s k t ts tc w why n p q i e = absurd n
ends_from NoneYet (Read other ys) c cs post_plan plan s k t ts tc w why n p q i e =
    let goes_on : has_ended post_plan plan token other ys ≡ false = ap (λ (zs : List Outside). has_ended post_plan plan token other zs) n in
    absurd (some_none why (sym e ∙ none_behind _ c cs post_plan plan (both post_plan plan token other ys) s t ts tc goes_on q.1))
ends_from (Read dialect xs) (Read other ys) c cs post_plan plan s k t ts tc w why n p q i e =
    let ended : has_ended post_plan plan token other ys ≡ true = ends_behind _ c cs post_plan plan (both post_plan plan token other ys) s t ts tc why q.1 e in
    let last : is_ending (both post_plan plan token dialect xs).car.phase ≡ true =
    sym (ap (λ (d : Dialect). has_ended post_plan plan token d ys) n.0 ∙ ap (λ (zs : List Outside). has_ended post_plan plan token dialect zs) n.2) ∙ ended in
    let at = staged_by (has_ended post_plan plan token dialect xs) c cs post_plan plan (both post_plan plan token dialect xs) s k ts tc w p.1 i in
    let here : IsStaged k (both post_plan plan token dialect xs).car = at.0 in
    record {
      session = here.session;
      session_is = here.session_is;
      behind = subst IsBehindStop (sym here.stage_is) (ending_behind_stop (both post_plan plan token dialect xs).car.phase last);
    }

-- a session that is there reads it
abbrev pub OpensBy : CarPlan → State → Option Session → car.Judged → Option Order → Type 0
OpensBy plan d o w earlier = StagesOpen (judged_in plan d o w) earlier

read_opens : (o : Option Session) (plan : CarPlan) (d : State) (w : car.Judged) (earlier : Option Order) → d.session ≡ o → ((x : Session) → o ≡ Some x → WasOpen x.stage earlier) → OpensBy plan d o w earlier
read_opens None plan d w earlier e h = λ x f l. absurd (some_none x (sym f ∙ e))
read_opens (Some session) plan d w earlier e h = word_opens w plan d session earlier (h session refl)

read_stays : (o : Option Session) (plan : CarPlan) (d : State) (session : Session) (w : car.Judged) → o ≡ Some session → StaysWhereEnds (judged_in plan d o w) session
read_stays None plan d session w e = absurd (some_none session (sym e))
read_stays (Some own) plan d session w e = subst (λ (x : Session). StaysWhereEnds (judged plan d own w) x) (some_session own session e) (word_stays w plan d own)

pub reads : (words : Words) (c : post.Codecs) (cs : car.Codecs) (post_plan : PostPlan) (plan : CarPlan) (s : station.State) (k : State) (ts tc : List ℕ) (w : car.Judged) (earlier : Option Order)
    → IsIn c cs post_plan plan words s k ts tc → MayRead cs plan k w → HasRead c cs post_plan plan words s k ts tc w → CarOpens k earlier → CarOpens (read plan (decided plan k) w) earlier
reads words c cs post_plan plan s k ts tc w earlier p i r o =
    let none : k.agenda.order ≡ None = read_order cs plan k w i in
    let opens : StagesOpen (read plan (decided plan k) w) earlier =
    read_opens (decided plan k).session plan (decided plan k) w earlier refl (λ x e b. was_open k.agenda.order earlier none (o.stage x (sym (same_session plan k) ∙ e) b)) in
    record {
      stage = opens;
      ending = λ why e. let at : WasBehindStop k = ends_from words r.behind c cs post_plan plan s k (read plan (decided plan k) w) ts tc w why r.next p r.phase i e in
          opens (passed at.session)
          (read_stays (decided plan k).session plan (decided plan k) at.session w (same_session plan k ∙ at.session_is) why e) at.behind;
      over = λ e. absurd (true_false (read plan (decided plan k) w).over e
          (read_over (decided plan k).session plan (decided plan k) w ∙ same_over plan k ∙ live words c cs post_plan plan s k ts tc w p i));
    }
