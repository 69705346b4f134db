-- The last order of a post to its contactor, by what it keeps.
use Rattle.std.proofs.Common.{◌≡◌, ℕ, ◌≤◌, Bool, true, false, if◌then◌else◌, List, [], length, Option, Some, None, refl, ap, sym, subst, ◌∙◌, inl, inr}
use Rattle.std.specs.Option.{option_map}
use Rattle.charge_world.specs.declared.ports.Order.{Order}
use Rattle.charge_world.specs.declared.ports.Order.TheVariants as order
use Rattle.session_words.specs.declared.cause.EndCause.{EndCause}
use Rattle.session_words.specs.declared.plan.CarPlan.{CarPlan}
use Rattle.session_words.specs.declared.plan.PostPlan.{PostPlan}
use Rattle.session_words.specs.Causes.{number_of}
use Rattle.session_rules.specs.declared.stage.Stage.{Stage}
use Rattle.post_spec.specs.Codecs as post
use Rattle.post_spec.specs.Sessions.{brought}
use Rattle.post_spec.specs.Steps.{Event, Act, Give, Send, End, Reading}
use Rattle.station_spec.specs.States.{Spoken, Agenda, Session, State, Todo, is_none, is_done, first_of, first}
use Rattle.station_spec.specs.States as states
use Rattle.station_spec.specs.Deciding.{from_part, decided}
use Rattle.station_spec.specs.Hearing.{session_opened, with_bytes, hearing}
use Rattle.station_spec.specs.Judging.{Payload, filled, IsRead}
use Rattle.station_spec.specs.Acting.{since_order, replied, agenda_said, acted}
use Rattle.station_spec.specs.Next.{IsQuiet, IsDone, Acts}
use Rattle.station_spec.specs.Sharing.{Shows}
use Rattle.station_laws.proofs.Decided.{same_session}
use Rattle.car_spec.specs.Codecs as car
use Rattle.car_spec.specs.States as car_states
use Rattle.pipe_spec.specs.Histories.{token, station_says}
use Rattle.pipe_spec.specs.Counts.{contactor_order, station_ordered}
use Rattle.pipe_laws.proofs.Station as station
use Rattle.pair_words.specs.Exchanges.{Both, Outside, judged}
use Rattle.pair_words.specs.Meeting.{Meets}
use Rattle.pair_words.specs.Laws.{both, end_of, IsAnswered}
use Rattle.pair_words.specs.Orders.{ordered_behind}
use Rattle.pair_words.proofs.Exchanges.{exchanges_go_well}
use Rattle.pair_words.proofs.Sessions.{they_meet}
use Rattle.pair_readings.specs.Readings.{HasAnswered}
use Rattle.pair_deeds.specs.Posts.{IsStill}
use Rattle.matched_pairs.specs.Ends.{HasCome, Listens, IsToSend, GoesOnBy}
use Rattle.matched_pairs.specs.Phases.{Begins, IsToOffer, Offered, Offers, Responded, exchange, Talks, IsToAsk, Rests, Asks, IsToReply, Closes, Replies, Words, NoneYet, Read, TalksBy, IsIn}
use Rattle.matched_pairs.specs.Moves.{IsPair, IfRead, SuitsWords}
use Rattle.matched_pairs.specs.Requests.{HasKept}
use Rattle.matched_pairs.proofs.Messages.{front, empty_waits}
use Rattle.matched_pairs.proofs.PostPhases.{same_arrived, quiet_acts, gone_quiet, listens_quiet, waits_quiet, stays_busy, since_stage}
use Rattle.matched_pairs.proofs.PostActs.{posts_go_on}
use Rattle.matched_pairs.proofs.Requested.{whole_is_read, ends_do}
use Rattle.matched_pairs.proofs.Keeps.{posts_keep}
use Rattle.matched_pairs.proofs.Ends.{gone_before_hearing}
use Rattle.matched_pairs.proofs.Stops.{is_behind_stop, is_stopped, same_confirmed, stopped_before, stops_by, stopped_behind_end, was_open, ordered_open}

some_none : {A : Type 0} (a : A) → Some a ≡ None → ⊥
some_none a e = cc

true_false : (b : Bool) → b ≡ true → b ≡ false → ⊥
true_false b e f = cc

some_session : (a b : Session) → Some a ≡ Some b → a ≡ b
some_session a b e = cc

-- the contactor is ordered open, once the order that is to be given is given too
abbrev pub IsOpening : State → Option Order → Type 0
IsOpening s earlier = ordered_behind s.agenda.order earlier ≡ Some order.Open

-- so it is behind PowerDelivery Stop, as the session is to end, and once it has ended
pub record PostOpens (s : State) (earlier : Option Order) : Type 0 where
  pub row : (x : Session) → s.session ≡ Some x → is_stopped x.stage.row ≡ true → IsOpening s earlier
  pub ending : (cause : EndCause) → s.agenda.ending ≡ Some cause → IsOpening s earlier
  pub gone : station.IsGone s → IsOpening s earlier

-- ---- what is to be done

not_done : (d : Option (List ℕ)) (o : Option Order) (r : Option Spoken) (e : Option EndCause) (p : Order) → o ≡ Some p → is_none (first_of d o r e) ≡ false
not_done (Some x) o r e p f = refl
not_done None (Some q) r e p f = refl
not_done None None r e p f = absurd (some_none p (sym f))

done_none : (d : Option (List ℕ)) (o : Option Order) (r : Option Spoken) (e : Option EndCause) → is_none (first_of d o r e) ≡ true → o ≡ None
done_none (Some x) o r e f = cc
done_none None (Some q) r e f = cc
done_none None None r e f = refl

give_so : (d : Option (List ℕ)) (o : Option Order) (r : Option Spoken) (e : Option EndCause) (p : Order) → first_of d o r e ≡ Some (states.Give p) → o ≡ Some p
give_so (Some x) o r e p f = cc
give_so None (Some q) r e p f = cc
give_so None None (Some spoken) e p f = cc
give_so None None None (Some cause) p f = cc
give_so None None None None p f = cc

finish_none : (d : Option (List ℕ)) (o : Option Order) (r : Option Spoken) (e : Option EndCause) (cause : EndCause) → first_of d o r e ≡ Some (states.Finish cause) → o ≡ None
finish_none (Some x) o r e cause f = cc
finish_none None (Some q) r e cause f = cc
finish_none None None r e cause f = refl

finish_so : (d : Option (List ℕ)) (o : Option Order) (r : Option Spoken) (e : Option EndCause) (cause : EndCause) → first_of d o r e ≡ Some (states.Finish cause) → e ≡ Some cause
finish_so (Some x) o r e cause f = cc
finish_so None (Some q) r e cause f = cc
finish_so None None (Some spoken) e cause f = cc
finish_so None None None (Some own) cause f = cc
finish_so None None None None cause f = cc

-- an order that is to be given is so until it is given
undone_by : (o : Option Order) (plan : PostPlan) (s : State) → s.agenda.order ≡ o → (decided plan s).agenda.order ≡ None → o ≡ None
undone_by None plan s e f = refl
undone_by (Some p) plan s e f =
    let stays : decided plan s ≡ s = ap (λ (b : Bool). if b then from_part plan s.part s else s) (not_done s.agenda.datagram s.agenda.order s.agenda.reply s.agenda.ending p e) in
    absurd (some_none p (sym e ∙ sym (ap (λ (x : State). x.agenda.order) stays) ∙ f))

undone : (plan : PostPlan) (s : State) → (decided plan s).agenda.order ≡ None → s.agenda.order ≡ None
undone plan s f = undone_by s.agenda.order plan s refl f

quiet_order : (plan : PostPlan) (s : State) → IsQuiet plan s → s.agenda.order ≡ None
quiet_order plan s q =
    undone plan s (done_none (decided plan s).agenda.datagram (decided plan s).agenda.order (decided plan s).agenda.reply (decided plan s).agenda.ending (ap is_none q.none))

read_done : (b : Bool) (c : post.Codecs) (plan : PostPlan) (limit : ℕ) (d : State) (o : Option Payload) (r : Reading) → IsRead c plan (Shows limit [] []) d (if b then o else None) (Some r) → b ≡ true
read_done true c plan limit d o r i = refl
read_done false c plan limit d o r i = absurd i

read_order : (c : post.Codecs) (plan : PostPlan) (limit : ℕ) (s : State) (r : Reading) (act : Act) → Acts c plan (Shows limit [] []) s (Some r) act true → s.agenda.order ≡ None
read_order c plan limit s r act i =
    undone plan s (done_none (decided plan s).agenda.datagram (decided plan s).agenda.order (decided plan s).agenda.reply (decided plan s).agenda.ending
    (read_done (is_done (decided plan s).agenda) c plan limit (decided plan s) _ r i.read))

-- ---- it hears something

record Was (o : Option Session) : Type 0 where
  session : Session
  session_is : o ≡ Some session
  stopped : is_stopped session.stage.row ≡ true

heard_row : (arrived : Option ℕ) (o : Option Session) (clock : ℕ) (bytes : List ℕ) (x : Session) → option_map (with_bytes bytes) (session_opened arrived clock o) ≡ Some x → is_stopped x.stage.row ≡ true → Was o
heard_row None None clock bytes x e l = absurd (some_none x (sym e))
heard_row None (Some y) clock bytes x e l = record {
  session = y;
  session_is = refl;
  stopped = ap (λ (z : Session). is_stopped z.stage.row) (some_session (with_bytes bytes y) x e) ∙ l;
}
heard_row (Some named) o clock bytes x e l =
    absurd (true_false true refl (sym l ∙ sym (ap (λ (z : Session). is_stopped z.stage.row) (some_session (with_bytes bytes (states.first_session named clock)) x e))))

pub hears : (plan : PostPlan) (s : State) (at : ℕ) (event : Event) (earlier : Option Order) → IsQuiet plan s → PostOpens s earlier → PostOpens (hearing at event s) earlier
hears plan s at event earlier q k = record {
  row = λ x e l. let w : Was s.session = heard_row s.arrived s.session s.clock (brought event) x e l in
      was_open s.agenda.order earlier (quiet_order plan s q) (k.row w.session w.session_is w.stopped);
  ending = λ cause e. absurd (some_none cause (sym e));
  gone = λ g. was_open s.agenda.order earlier (quiet_order plan s q) (k.gone (gone_before_hearing event at s g));
}

-- ---- it does something

mapped : (f : Session → Session) (o : Option Session) (x : Session) → option_map f o ≡ Some x → (y : Session) × (o ≡ Some y) × (f y ≡ x)
mapped f None x e = absurd (some_none x (sym e))
mapped f (Some y) x e = (y, refl, some_session (f y) x e)

none_mapped : (f : Session → Session) (o : Option Session) → option_map f o ≡ None → o ≡ None
none_mapped f None e = refl
none_mapped f (Some x) e = absurd (some_none (f x) e)

gives : (o : Order) (t : State) (earlier : Option Order) → t.agenda.order ≡ Some o → PostOpens t earlier → PostOpens (acted (Give o) true t) (contactor_order o earlier)
gives o t earlier e k =
    let given : contactor_order o earlier ≡ ordered_behind t.agenda.order earlier = sym (ap (λ (z : Option Order). ordered_behind z earlier) e) in
    record {
      row = λ x f l. let m = mapped (since_order t.clock o) t.session x f in
          given ∙ k.row m.0 m.1 (ap (λ (z : Stage). is_stopped z.row) (sym (since_stage t.clock o m.0)) ∙ ap (λ (z : Session). is_stopped z.stage.row) m.2 ∙ l);
      ending = λ cause f. given ∙ k.ending cause f;
      gone = λ g. given ∙ k.gone (none_mapped (since_order t.clock o) t.session g.0, g.1);
    }

says : (bytes : List ℕ) (t : State) (earlier : Option Order) → t.agenda.behind_reply ≡ None → PostOpens t earlier → PostOpens (acted (Send bytes) true t) earlier
says bytes t earlier b k =
    let same : agenda_said t.agenda.behind_reply t.session t.agenda t.live ≡ record t.agenda { reply = None } = ap (λ (o : Option EndCause). agenda_said o t.session t.agenda t.live) b in
    let kept = ap (λ (a : Agenda). ordered_behind a.order earlier) same in
    record {
      row = λ x f l. let m = mapped (replied t.clock) t.session x f in
          kept ∙ k.row m.0 m.1 (sym (same_confirmed m.0.stage.row) ∙ ap (λ (z : Session). is_stopped z.stage.row) m.2 ∙ l);
      ending = λ cause f. kept ∙ k.ending cause (sym (ap (λ (a : Agenda). a.ending) same) ∙ f);
      gone = λ g. kept ∙ k.gone (none_mapped (replied t.clock) t.session g.0, g.1);
    }

ends : (number : ℕ) (t : State) (earlier : Option Order) (cause : EndCause) → first t.agenda ≡ Some (states.Finish cause) → PostOpens t earlier → PostOpens (acted (End number) true t) earlier
ends number t earlier cause f k = record {
  row = λ x e l. absurd (some_none x (sym e));
  ending = λ own e. absurd (some_none own (sym e));
  gone = λ g. was_open t.agenda.order earlier (finish_none t.agenda.datagram t.agenda.order t.agenda.reply t.agenda.ending cause f)
      (k.ending cause (finish_so t.agenda.datagram t.agenda.order t.agenda.reply t.agenda.ending cause f));
}

acts_on : (todo : Todo) (c : post.Codecs) (t : State) (act : Act) (earlier : Option Order) → t.agenda.behind_reply ≡ None → first t.agenda ≡ Some todo → IsDone c todo act true → PostOpens t earlier
    → PostOpens (acted act true t) (station_ordered act earlier)
acts_on (states.Tell datagram) c t act earlier b f d k =
    subst (λ (a : Act). PostOpens (acted a true t) (station_ordered a earlier)) (sym d) (record { row = k.row; ending = k.ending; gone = k.gone })
acts_on (states.Give o) c t act earlier b f d k =
    subst (λ (a : Act). PostOpens (acted a true t) (station_ordered a earlier)) (sym d)
    (gives o t earlier (give_so t.agenda.datagram t.agenda.order t.agenda.reply t.agenda.ending o f) k)
acts_on (states.Say spoken) c t act earlier b f d k = subst (λ (a : Act). PostOpens (acted a true t) (station_ordered a earlier)) (sym d.2) (says d.0 t earlier b k)
acts_on (states.Finish cause) c t act earlier b f d k = subst (λ (a : Act). PostOpens (acted a true t) (station_ordered a earlier)) (sym d.0) (ends (number_of cause) t earlier cause f k)

-- ---- it reads a request

asks : (c : post.Codecs) (post_plan : PostPlan) (plan : CarPlan) (limit : ℕ) (b : Both) (s : State) (r : Reading) (act : Act) (earlier : Option Order) → Meets post_plan b → HasKept post_plan plan b s r
    → Acts c post_plan (Shows limit [] []) s (Some r) act true → PostOpens s earlier → PostOpens (acted act true (filled post_plan (Some r) s)) (station_ordered act earlier)
asks c post_plan plan limit b s r act earlier m t i k =
    let x : Outside = exchange s.facts s.facts r.shown in
    let n : HasAnswered post_plan plan b x (decided post_plan s) t.session (filled post_plan (Some r) s) = t.kept in
    let before : is_behind_stop b.car.phase ≡ true → earlier ≡ Some order.Open = λ e. was_open s.agenda.order earlier (read_order c post_plan limit s r act i)
    (k.row t.session t.session_is (ap (λ (z : Stage). is_stopped z.row) t.stage_is ∙ stopped_before post_plan b m e)) in
    let opens : is_stopped (judged post_plan plan b x).row ≡ true → IsOpening (filled post_plan (Some r) s) earlier = λ e. ap (λ (a : Agenda). ordered_behind a.order earlier) n.agenda
    ∙ ordered_open post_plan plan b x (decided post_plan s).live earlier t.answered before (stops_by post_plan plan b x t.answered e) in
    acts_on i.todo c (filled post_plan (Some r) s) act earlier (ap (λ (a : Agenda). a.behind_reply) n.agenda) i.acts i.done (record {
      row = λ y e l. opens (ap (λ (z : Stage). is_stopped z.row) (sym n.stage) ∙ ap (λ (z : Session). is_stopped z.stage.row) (some_session n.new y (sym n.session_is ∙ e)) ∙ l);
      ending = λ cause e. opens (stopped_behind_end post_plan plan b x cause t.answered (sym (ap (λ (a : Agenda). a.ending) n.agenda) ∙ e));
      gone = λ g. absurd (some_none n.new (sym n.session_is ∙ g.0));
    })

-- ---- it reads none

record Decides (plan : PostPlan) (s : State) (earlier : Option Order) : Type 0 where
  behind : (decided plan s).agenda.behind_reply ≡ None
  opens : PostOpens (decided plan s) earlier

replies : (post_plan : PostPlan) (plan : CarPlan) (b : Both) (s : State) (earlier : Option Order) (x : Outside) (spoken : Spoken) → IsAnswered post_plan plan b x
    → IsToSend post_plan s (judged post_plan plan b x) spoken (end_of b.car.phase) → PostOpens s earlier → Decides post_plan s earlier
replies post_plan plan b s earlier x spoken a t k =
    let none : (decided post_plan s).agenda.order ≡ None = ap (λ (z : Agenda). z.order) t.agenda_is in
    let kept : IsOpening s earlier → IsOpening (decided post_plan s) earlier = λ e. ap (λ (o : Option Order). ordered_behind o earlier) none ∙ was_open s.agenda.order earlier (undone post_plan s none) e in
    record {
      behind = ap (λ (z : Agenda). z.behind_reply) t.agenda_is;
      opens = record {
        row = λ y e l. kept (k.row y (sym (same_session post_plan s) ∙ e) l);
        ending = λ cause e. kept (k.row t.session t.session_is
            (ap (λ (z : Stage). is_stopped z.row) t.stage_is ∙ stopped_behind_end post_plan plan b x cause a (sym (ap (λ (z : Agenda). z.ending) t.agenda_is) ∙ e)));
        gone = λ g. kept (k.gone (sym (same_session post_plan s) ∙ g.0, sym (same_arrived post_plan s) ∙ g.1));
      };
    }

leaves : (o : Option EndCause) (c : post.Codecs) (post_plan : PostPlan) (limit : ℕ) (s : State) (act : Act) (stage : Stage) (earlier : Option Order) → GoesOnBy o post_plan s stage
    → Acts c post_plan (Shows limit [] []) s None act true → PostOpens s earlier → Decides post_plan s earlier
leaves None c post_plan limit s act stage earlier l i k = absurd (quiet_acts c post_plan limit s None act (listens_quiet post_plan s stage [] l empty_waits) i)
leaves (Some own) c post_plan limit s act stage earlier (inr g) i k = absurd (quiet_acts c post_plan limit s None act (gone_quiet post_plan s g) i)
leaves (Some own) c post_plan limit s act stage earlier (inl t) i k =
    let stays : decided post_plan s ≡ s = stays_busy post_plan s (states.Finish own) (ap first t.agenda_is) in
    record {
      behind = ap (λ (z : State). z.agenda.behind_reply) stays ∙ ap (λ (a : Agenda). a.behind_reply) t.agenda_is;
      opens = subst (λ (z : State). PostOpens z earlier) (sym stays) k;
    }

decides : (c : post.Codecs) (cs : car.Codecs) (post_plan : PostPlan) (plan : CarPlan) (limit : ℕ) (b : Both) (s : State) (k : car_states.State) (ts tc : List ℕ) (act : Act) (earlier : Option Order) → IsPair c cs post_plan plan
    → Meets post_plan b → Talks c cs post_plan plan b s k ts tc → Acts c post_plan (Shows limit [] []) s None act true → PostOpens s earlier → Decides post_plan s earlier
decides c cs post_plan plan limit b s k ts tc act earlier p m (IsToAsk order l say none) i o = absurd (quiet_acts c post_plan limit s None act (listens_quiet post_plan s _ [] l empty_waits) i)
decides c cs post_plan plan limit b s k ts tc act earlier p m (Rests l pauses none) i o = absurd (quiet_acts c post_plan limit s None act (listens_quiet post_plan s _ [] l empty_waits) i)
decides c cs post_plan plan limit b s k ts tc act earlier p m (Asks request unread encodes l a comes e) i o =
    absurd (whole_is_read c post_plan limit b s act request unread ts m l comes (front request unread ts comes) i)
decides c cs post_plan plan limit b s k ts tc act earlier p m (IsToReply facts later shown fits send a none) i o =
    replies post_plan plan b s earlier (exchange facts later shown) _ (exchanges_go_well post_plan plan b (exchange facts later shown) p.paired m fits) send o
decides c cs post_plan plan limit b s k ts tc act earlier p m (Closes facts shown fits last l w a none) i o = absurd (quiet_acts c post_plan limit s None act (waits_quiet post_plan s _ [] l w) i)
decides c cs post_plan plan limit b s k ts tc act earlier p m (Replies facts later shown payload unread fits encodes goes a e comes) i o = leaves _ c post_plan limit s act _ earlier goes i o

decides_by : (x : Bool) (c : post.Codecs) (cs : car.Codecs) (post_plan : PostPlan) (plan : CarPlan) (limit : ℕ) (b : Both) (s : State) (k : car_states.State) (ts tc : List ℕ) (act : Act) (earlier : Option Order)
    → IsPair c cs post_plan plan → Meets post_plan b → TalksBy x c cs post_plan plan b s k ts tc → Acts c post_plan (Shows limit [] []) s None act true → PostOpens s earlier → Decides post_plan s earlier
decides_by true c cs post_plan plan limit b s k ts tc act earlier p m t i o = absurd (ends_do c post_plan plan limit s k ts tc None act t i)
decides_by false c cs post_plan plan limit b s k ts tc act earlier p m t i o = decides c cs post_plan plan limit b s k ts tc act earlier p m t i o

-- ---- before a dialect is chosen it is in no such row

come : (plan : PostPlan) (s : State) (earlier : Option Order) → HasCome plan s token → PostOpens s earlier
come plan s earlier h = record {
  row = λ x e l. absurd (some_none x (sym e ∙ h.session));
  ending = λ cause e. absurd (some_none cause (sym e ∙ ap (λ (a : Agenda). a.ending) h.none));
  gone = λ g. absurd (some_none token (sym h.arrived ∙ g.1));
}

listening : (plan : PostPlan) (s : State) (stage : Stage) (unread : List ℕ) (earlier : Option Order) → Listens plan s stage unread → is_stopped stage.row ≡ false → PostOpens s earlier
listening plan s stage unread earlier h n =
    let still : IsStill plan s h.session = h.still in
    record {
      row = λ x e l. absurd (true_false true refl (sym l
          ∙ sym (ap (λ (z : Session). is_stopped z.stage.row) (some_session h.session x (sym still.session_is ∙ e))) ∙ ap (λ (z : Stage). is_stopped z.row) h.stage_is ∙ n));
      ending = λ cause e. absurd (some_none cause (sym e ∙ ap (λ (a : Agenda). a.ending) still.none));
      gone = λ g. absurd (some_none h.session (sym still.session_is ∙ g.0));
    }

begins : (c : post.Codecs) (cs : car.Codecs) (post_plan : PostPlan) (plan : CarPlan) (s : State) (k : car_states.State) (ts tc : List ℕ) (earlier : Option Order) → Begins c cs post_plan plan s k ts tc
    → PostOpens s earlier
begins c cs post_plan plan s k ts tc earlier (IsToOffer h say none) = come post_plan s earlier h
begins c cs post_plan plan s k ts tc earlier (Offered request offers h a comes e) = come post_plan s earlier h
begins c cs post_plan plan s k ts tc earlier (Offers request unread offers l a comes e) = listening post_plan s _ unread earlier l refl
begins c cs post_plan plan s k ts tc earlier (Responded request unread begun l a e comes) = listening post_plan s _ [] earlier l refl

pub does : (words : Words) (reading : Option Reading) (c : post.Codecs) (cs : car.Codecs) (post_plan : PostPlan) (plan : CarPlan) (limit : ℕ) (s : State) (k : car_states.State) (ts tc : List ℕ) (act : Act)
    (earlier : Option Order) → IsPair c cs post_plan plan → IsIn c cs post_plan plan words s k ts tc → IfRead reading (SuitsWords post_plan plan words s.facts) → length (station_says act) ≤ 65544
    → Acts c post_plan (Shows limit [] []) s reading act true → PostOpens s earlier → PostOpens (acted act true (filled post_plan reading s)) (station_ordered act earlier)
does NoneYet reading c cs post_plan plan limit s k ts tc act earlier p phase d l i o =
    begins c cs post_plan plan _ k ts _ _ (posts_go_on c cs post_plan plan limit NoneYet s k ts tc reading act p phase d l i)
does (Read dialect xs) None c cs post_plan plan limit s k ts tc act earlier p phase d l i o =
    let n : Decides post_plan s earlier = decides_by _ c cs post_plan plan limit (both post_plan plan token dialect xs) s k ts tc act earlier p (they_meet post_plan plan token dialect xs p.paired phase.0) phase.1 i o in
    acts_on i.todo c (decided post_plan s) act earlier n.behind i.acts i.done n.opens
does (Read dialect xs) (Some r) c cs post_plan plan limit s k ts tc act earlier p phase d l i o =
    asks c post_plan plan limit (both post_plan plan token dialect xs) s r act earlier (they_meet post_plan plan token dialect xs p.paired phase.0)
    (posts_keep c cs post_plan plan limit dialect xs s k ts tc r act p phase d i) i o
