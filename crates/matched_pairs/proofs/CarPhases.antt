-- What a car does in a phase, and what it keeps behind.
use Rattle.std.proofs.Common.{◌≡◌, ℕ, ◌+◌, ◌≤◌, Bool, true, false, nat_lt, nat_le, ◌==◌, ◌&&◌, not, if◌then◌else◌, List, [], Option, Some, None, Ok, refl, ap, sym, subst, ◌∙◌, arith}
use Rattle.std.proofs.lemmas.Bool.Decides.{nat_tests}
use Rattle.std.specs.Option.{option_map}
use Rattle.charge_world.specs.declared.ports.Order.{Order}
use Rattle.session_words.specs.declared.cause.EndCause.{EndCause}
use Rattle.session_words.specs.declared.plan.CarPlan.{CarPlan}
use Rattle.v2gtp_frames.specs.Frames.{frame}
use Rattle.v2gtp_frames.specs.Reading.{whole_at}
use Rattle.session_timers.specs.Due.{never}
use Rattle.car_rules.specs.declared.searching.Search.{Search}
use Rattle.car_rules.specs.declared.stage.CarStage.{CarStage}
use Rattle.car_rules.specs.Deadlines.{due_at}
use Rattle.car_rules.specs.Searching.{next_request}
use Rattle.car_spec.specs.Codecs.{Codecs, Judged}
use Rattle.car_spec.specs.Steps.{Spoken, Act, Give, Say, End}
use Rattle.car_spec.specs.States.{Agenda, Session, State, Todo, nothing, is_none, is_done, first}
use Rattle.car_spec.specs.States as states
use Rattle.car_spec.specs.Due.{is_due}
use Rattle.car_spec.specs.Deciding.{from_part, decided}
use Rattle.car_spec.specs.Judging.{Payload, payload_in, wanted, IsRead}
use Rattle.car_spec.specs.Acting.{awaiting, acted}
use Rattle.car_spec.specs.Next.{IsQuiet, IsSpoken, IsSaid, MayAct, MayRead}
use Rattle.car_laws.proofs.Decided.{IsPlanned, planned}
use Rattle.pair_deeds.specs.Cars.{IsStill}
use Rattle.pair_deeds.proofs.Cars.{cars_do_what_is_first, cars_read_nothing_before, cars_stay_behind_acts, cars_wait}
use Rattle.matched_pairs.specs.Ends.{IsToSay, Awaits, Pauses, IsToFinish, HasEnded}
use Rattle.matched_pairs.proofs.Messages.{empty_waits}

some_none : {A : Type 0} (a : A) → Some a ≡ None → ⊥
some_none a e = cc

pub same_session : (plan : CarPlan) (k : State) → (decided plan k).session ≡ k.session
same_session plan k = let p : IsPlanned k (decided plan k) = planned plan k in ap (λ (t : State). t.session) p.is

pub same_over : (plan : CarPlan) (k : State) → (decided plan k).over ≡ k.over
same_over plan k = let p : IsPlanned k (decided plan k) = planned plan k in ap (λ (t : State). t.over) p.is

-- a car that is joined to a post looks for none
pub looks_for_none : (plan : CarPlan) (search : Search) → plan.sdp ≡ 0 → next_request plan search ≡ None
looks_for_none plan search e =
    ap (λ (n : ℕ). if (nat_lt 0 n && not search.dialed) && nat_lt search.asked 50 then (if search.asked == 0 then Some 0 else due_at search.last 250) else None) e

-- ---- it has nothing to do

pub still_acts : (c : Codecs) (plan : CarPlan) (k : State) (session : Session) (act : Act) → IsStill plan k session → MayAct c plan k act true → ⊥
still_acts c plan k session act s i = some_none i.todo (sym i.acts ∙ ap (λ (x : State). first x.agenda) s.stays ∙ ap first s.none)

quiet_reads : (c : Codecs) (plan : CarPlan) (k : State) (word : Judged) → IsQuiet plan k → MayRead c plan k word → ⊥
quiet_reads c plan k word q i = subst (λ (o : Option Payload). IsRead c plan o word) q.no_word i

pub still_reads : (c : Codecs) (plan : CarPlan) (k : State) (session : Session) (word : Judged) → IsStill plan k session → whole_at session.unread ≡ Ok None → MayRead c plan k word → ⊥
still_reads c plan k session word s w i = quiet_reads c plan k word (cars_wait plan k session s w) i

pub awaits_reads : (c : Codecs) (plan : CarPlan) (k : State) (stage : Option CarStage) (unread : List ℕ) (word : Judged) → Awaits plan k stage unread → whole_at unread ≡ Ok None → MayRead c plan k word → ⊥
awaits_reads c plan k stage unread word a w i = still_reads c plan k a.session word a.still (ap whole_at a.unread_is ∙ w) i

pub pauses_reads : (c : Codecs) (plan : CarPlan) (k : State) (stage : CarStage) (word : Judged) → Pauses plan k stage → MayRead c plan k word → ⊥
pauses_reads c plan k stage word a i = still_reads c plan k a.session word a.still (ap whole_at a.unread_is ∙ empty_waits) i

ended_stays : (plan : CarPlan) (k : State) → HasEnded plan k → decided plan k ≡ k
ended_stays plan k h =
    ap (λ (a : Agenda). if is_done a && not k.over then from_part plan k.part k else k) h.none ∙ ap (λ (b : Bool). if not b then from_part plan k.part k else k) h.over

pub ended_quiet : (plan : CarPlan) (k : State) → HasEnded plan k → IsQuiet plan k
ended_quiet plan k h =
    let stays : decided plan k ≡ k = ended_stays plan k h in
    record {
      none = ap (λ (x : State). first x.agenda) stays ∙ ap first h.none;
      no_word = ap wanted stays ∙ ap (λ (a : Agenda). if is_done a then payload_in k.session else None) h.none ∙ ap payload_in h.session;
    }

pub ended_acts : (c : Codecs) (plan : CarPlan) (k : State) (act : Act) → HasEnded plan k → MayAct c plan k act true → ⊥
ended_acts c plan k act h i = let q : IsQuiet plan k = ended_quiet plan k h in some_none i.todo (sym i.acts ∙ q.none)

pub ended_reads : (c : Codecs) (plan : CarPlan) (k : State) (word : Judged) → HasEnded plan k → MayRead c plan k word → ⊥
ended_reads c plan k word h i = quiet_reads c plan k word (ended_quiet plan k h) i

-- ---- what was decided stays until it is done

stays_busy : (plan : CarPlan) (k : State) (todo : Todo) → first k.agenda ≡ Some todo → decided plan k ≡ k
stays_busy plan k todo e = ap (λ (b : Bool). if b && not k.over then from_part plan k.part k else k) (ap is_none e)

pub says_first : (plan : CarPlan) (k : State) (order : Option Order) (spoken : Spoken) → k.agenda ≡ record nothing { order = order; spoken = Some spoken } → decided plan k ≡ k
says_first plan k (Some o) spoken e = stays_busy plan k (states.Drive o) (ap first e)
says_first plan k None spoken e = stays_busy plan k (states.Speak spoken) (ap first e)

finish_first : (plan : CarPlan) (k : State) (order : Option Order) (cause : EndCause) → k.agenda ≡ record nothing { order = order; ending = Some cause } → decided plan k ≡ k
finish_first plan k (Some o) cause e = stays_busy plan k (states.Drive o) (ap first e)
finish_first plan k None cause e = stays_busy plan k (states.Finish cause) (ap first e)

-- ---- what it has to say

pub say_reads : (c : Codecs) (plan : CarPlan) (k : State) (stage : Option CarStage) (order : Option Order) (spoken : Spoken) (word : Judged) → IsToSay plan k stage order spoken → MayRead c plan k word → ⊥
say_reads c plan k stage (Some o) spoken word s i = cars_read_nothing_before c plan k (states.Drive o) word (ap first s.agenda_is) i
say_reads c plan k stage None spoken word s i = cars_read_nothing_before c plan k (states.Speak spoken) word (ap first s.agenda_is) i

pub finish_reads : (c : Codecs) (plan : CarPlan) (k : State) (order : Option Order) (cause : EndCause) (word : Judged) → IsToFinish plan k order cause → MayRead c plan k word → ⊥
finish_reads c plan k (Some o) cause word s i =
    cars_read_nothing_before c plan k (states.Drive o) word (ap (λ (x : State). first x.agenda) (finish_first plan k (Some o) cause s.agenda_is) ∙ ap first s.agenda_is) i
finish_reads c plan k None cause word s i =
    cars_read_nothing_before c plan k (states.Finish cause) word (ap (λ (x : State). first x.agenda) (finish_first plan k None cause s.agenda_is) ∙ ap first s.agenda_is) i

pub say_quiet : (plan : CarPlan) (k : State) (stage : Option CarStage) (order : Option Order) (spoken : Spoken) → IsToSay plan k stage order spoken → IsQuiet plan k → ⊥
say_quiet plan k stage (Some o) spoken s q = some_none (states.Drive o) (sym (ap first s.agenda_is) ∙ q.none)
say_quiet plan k stage None spoken s q = some_none (states.Speak spoken) (sym (ap first s.agenda_is) ∙ q.none)

pub finish_quiet : (plan : CarPlan) (k : State) (order : Option Order) (cause : EndCause) → IsToFinish plan k order cause → IsQuiet plan k → ⊥
finish_quiet plan k (Some o) cause s q =
    some_none (states.Drive o) (sym (ap (λ (x : State). first x.agenda) (finish_first plan k (Some o) cause s.agenda_is) ∙ ap first s.agenda_is) ∙ q.none)
finish_quiet plan k None cause s q =
    some_none (states.Finish cause) (sym (ap (λ (x : State). first x.agenda) (finish_first plan k None cause s.agenda_is) ∙ ap first s.agenda_is) ∙ q.none)

-- its order, and then the same
pub record Drives (plan : CarPlan) (k : State) (stage : Option CarStage) (spoken : Spoken) (o : Order) (act : Act) : Type 0 where
  pub act_is : act ≡ Give o
  pub say : IsToSay plan (acted (Give o) true (decided plan k)) stage None spoken

pub drives : (c : Codecs) (plan : CarPlan) (k : State) (stage : Option CarStage) (o : Order) (spoken : Spoken) (act : Act) → IsToSay plan k stage (Some o) spoken → MayAct c plan k act true
    → Drives plan k stage spoken o act
drives c plan k stage o spoken act s i =
    let left : (acted (Give o) true (decided plan k)).agenda ≡ record nothing { spoken = Some spoken } = ap (λ (a : Agenda). record a { order = None }) s.agenda_is in
    let stays : decided plan (acted (Give o) true (decided plan k)) ≡ acted (Give o) true (decided plan k) = says_first plan (acted (Give o) true (decided plan k)) None spoken left in
    record {
      act_is = cars_do_what_is_first c plan k (states.Drive o) act true (ap first s.agenda_is) i;
      say = record {
        session = s.session;
        session_is = same_session plan k ∙ s.session_is;
        goes_on = same_over plan k ∙ s.goes_on;
        stage_is = s.stage_is;
        unread_is = s.unread_is;
        stop = s.stop;
        agenda_is = ap (λ (x : State). x.agenda) stays ∙ left;
        part_is = ap (λ (x : State). x.part) stays ∙ s.part_is;
      };
    }

-- it says it
pub record Speaks (c : Codecs) (plan : CarPlan) (k : State) (stage : Option CarStage) (spoken : Spoken) (act : Act) : Type 0 where
  pub payload : List ℕ
  pub spoken_is : IsSpoken c plan spoken payload
  pub act_is : act ≡ Say spoken (frame payload)
  pub awaits : Awaits plan (acted (Say spoken (frame payload)) true (decided plan k)) stage []

pub speaks : (c : Codecs) (plan : CarPlan) (k : State) (stage : Option CarStage) (spoken : Spoken) (act : Act) → plan.sdp ≡ 0 → IsToSay plan k stage None spoken → MayAct c plan k act true
    → Speaks c plan k stage spoken act
speaks c plan k stage spoken act joined s i =
    let d : IsSaid c plan spoken act = cars_do_what_is_first c plan k (states.Speak spoken) act true (ap first s.agenda_is) i in
    let left : (acted (Say spoken (frame d.payload)) true (decided plan k)).agenda ≡ nothing = ap (λ (a : Agenda). record a { spoken = None }) s.agenda_is in
    let there : (acted (Say spoken (frame d.payload)) true (decided plan k)).session ≡ Some (awaiting (decided plan k).clock s.session) =
    ap (option_map (awaiting (decided plan k).clock)) (same_session plan k ∙ s.session_is) in
    record {
      payload = d.payload;
      spoken_is = d.spoken_is;
      act_is = d.act_is;
      awaits = record {
        session = awaiting (decided plan k).clock s.session;
        still = record {
          session_is = there;
          none = left;
          stays = cars_stay_behind_acts plan (acted (Say spoken (frame d.payload)) true (decided plan k)) (awaiting (decided plan k).clock s.session) left s.part_is
              (record { session_is = there; again = refl; search = looks_for_none plan (decided plan k).search joined }) (ap whole_at s.unread_is ∙ empty_waits);
        };
        goes_on = same_over plan k ∙ s.goes_on;
        stage_is = s.stage_is;
        unread_is = s.unread_is;
        stop = s.stop;
        sent = (decided plan k).clock;
        sent_is = refl;
        again = refl;
      };
    }

-- ---- its end

pub record DrivesLast (plan : CarPlan) (k : State) (o : Order) (cause : EndCause) (act : Act) : Type 0 where
  pub act_is : act ≡ Give o
  pub finish : IsToFinish plan (acted (Give o) true (decided plan k)) None cause

pub drives_last : (c : Codecs) (plan : CarPlan) (k : State) (o : Order) (cause : EndCause) (act : Act) → IsToFinish plan k (Some o) cause → MayAct c plan k act true → DrivesLast plan k o cause act
drives_last c plan k o cause act s i =
    let stays : decided plan k ≡ k = finish_first plan k (Some o) cause s.agenda_is in
    let agenda : (decided plan k).agenda ≡ record nothing { order = Some o; ending = Some cause } = ap (λ (x : State). x.agenda) stays ∙ s.agenda_is in
    record {
      act_is = cars_do_what_is_first c plan k (states.Drive o) act true (ap first agenda) i;
      finish = record { goes_on = same_over plan k ∙ s.goes_on; agenda_is = ap (λ (a : Agenda). record a { order = None }) agenda };
    }

pub record Finishes (plan : CarPlan) (k : State) (act : Act) : Type 0 where
  pub number : ℕ
  pub act_is : act ≡ End number
  pub ended : HasEnded plan (acted (End number) true (decided plan k))

pub finishes : (c : Codecs) (plan : CarPlan) (k : State) (cause : EndCause) (act : Act) → IsToFinish plan k None cause → MayAct c plan k act true → Finishes plan k act
finishes c plan k cause act s i =
    let stays : decided plan k ≡ k = finish_first plan k None cause s.agenda_is in
    let d = cars_do_what_is_first c plan k (states.Finish cause) act true (ap (λ (x : State). first x.agenda) stays ∙ ap first s.agenda_is) i in
    record { number = _; act_is = d.0; ended = record { session = refl; over = refl; none = refl } }

-- ---- it waits for its pace

after_all : (m now pace : ℕ) → m ≡ now + pace → 1 ≤ pace → nat_le m now ≡ false
after_all m now pace e p = grind (arith, nat_tests)

due_by : (b : Bool) (now pace : ℕ) → 1 ≤ pace → is_due (if b then Some (now + pace) else None) now ≡ false
due_by true now pace p = after_all (now + pace) now pace refl p
due_by false now pace p = refl

pub not_due_yet : (now pace : ℕ) → 1 ≤ pace → is_due (due_at now pace) now ≡ false
not_due_yet now pace p = due_by (nat_le (now + pace) never) now pace p
