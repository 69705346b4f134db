-- One induction over the first session: each time that a car asks an early step again is a pace of 100 ms behind the one before.
use Rattle.std.proofs.Common.{◌≡◌, ℕ, ◌+◌, ◌*◌, ◌<◌, ◌≤◌, nat_le, Bool, true, false, not, ◌&&◌, if◌then◌else◌, List, [], ◌∷◌, Option, Some, None, refl, ap, sym, subst, ◌∙◌, arith}
use Rattle.std.proofs.lemmas.Bool.Decides.{nat_tests}
use Rattle.std.specs.List.{AllByRecursion}
use Rattle.std.specs.Option.{option_map}
use Rattle.charge_world.specs.declared.offer.Dialect.{Dialect}
use Rattle.charge_world.specs.declared.ports.Order.{Order}
use Rattle.session_words.specs.declared.cause.EndCause.{EndCause}
use Rattle.session_words.specs.declared.plan.CarPlan.{CarPlan}
use Rattle.session_words.specs.declared.plan.PostPlan.{PostPlan}
use Rattle.session_words.specs.declared.word.Reply.{Reply}
use Rattle.session_words.specs.Plans.{IsCarPlan}
use Rattle.session_timers.specs.Due.{never}
use Rattle.post_spec.specs.Codecs as post
use Rattle.post_spec.specs.Steps.{Event, Bytes, Clock}
use Rattle.station_spec.specs.States.{State}
use Rattle.station_spec.specs.Report.{one_if}
use Rattle.station_spec.specs.Next.{IsQuiet}
use Rattle.car_rules.specs.declared.stage.CarPhase.{CarPhase}
use Rattle.car_rules.specs.declared.stage.CarPhase.TheVariants as phase
use Rattle.car_rules.specs.declared.stage.CarStage.{CarStage}
use Rattle.car_rules.specs.Moves.{is_again, stage_behind}
use Rattle.car_rules.specs.Replies.{is_ending, reply_cause}
use Rattle.car_rules.specs.Stages.{first_stage}
use Rattle.car_spec.specs.Codecs as car
use Rattle.car_spec.specs.Steps as car_steps_of
use Rattle.car_spec.specs.Steps.{Spoken}
use Rattle.car_spec.specs.States as car_states
use Rattle.car_spec.specs.Deciding as car_deciding
use Rattle.car_spec.specs.Judging as car_judging
use Rattle.car_spec.specs.Acting as car_acting
use Rattle.car_spec.specs.Hearing as car_hearing
use Rattle.car_spec.specs.Next as car_next
use Rattle.pipe_spec.specs.Histories.{Happening, CarComes, ChargerTells, StationHears, CarHears, TimePasses, StationDoes, CarReads, CarDoes, CarGoes, NumberIsDrawn, moment, joined, ported, token, car_cause, car_steps, to_station, to_car}
use Rattle.pipe_spec.specs.Turns.{Station, station_state, car_state, CarMayReadBy, CarMayDoBy}
use Rattle.pipe_spec.specs.Runs.{IsRun}
use Rattle.pipe_laws.specs.OneMessage.{IsShort}
use Rattle.pair_words.specs.Exchanges.{Both, Outside}
use Rattle.pair_words.specs.Laws.{both, has_ended, is_repeated}
use Rattle.pair_words.specs.Meeting.{ArePaired}
use Rattle.pair_deeds.specs.Cars.{IsStill}
use Rattle.matched_pairs.specs.Phases.{Talks, IsToAsk, Rests, Asks, IsToReply, Closes, Replies, Words, NoneYet, Read, TalksBy, IsIn}
use Rattle.matched_pairs.specs.Moves.{IsPair, IsNext, HasRead}
use Rattle.matched_pairs.specs.Acts.{IsOfCar}
use Rattle.matched_pairs.specs.Courses.{AllGoUndisturbed, GoesWell}
use Rattle.matched_pairs.specs.Repeats.{stage_in, asks_again, repeats_in}
use Rattle.matched_pairs.specs.Quick.{is_quick}
use Rattle.matched_pairs.specs.Counted.{QuickStepsAreFew}
use Rattle.matched_pairs.proofs.CarPhases.{same_session}
use Rattle.matched_pairs.proofs.CarReads.{cars_read}
use Rattle.matched_pairs.proofs.CarMoves.{GoesOn, acts_on, reads_live}
use Rattle.matched_pairs.proofs.CarsDo.{cars_act}
use Rattle.matched_pairs.proofs.Clocks.{same_car_clock}
use Rattle.matched_pairs.proofs.Courses.{begins_stage, reading_stage}
use Rattle.matched_pairs.proofs.Held.{Known}
use Rattle.matched_pairs.proofs.Paces.{front, Seen, known}
use Rattle.matched_pairs.proofs.Repeating.{HasCome, words_come}
use Rattle.matched_pairs.proofs.Unready.{repeats_is}
use Rattle.matched_pairs.proofs.Spoken.{heard_by}
use Rattle.matched_pairs.proofs.Repeats.{shorter}
use Rattle.matched_pairs.proofs.Quick.{AsksEarly, ReadsEarly, asks_early}
use Rattle.matched_pairs.proofs.Due.{PastBy, AgainPast, SpeaksDue, ended_due, reads_due, acts_due, says_past}

true_false : true ≡ false → ⊥
true_false e = cc

false_true : false ≡ true → ⊥
false_true e = cc

some_none : {A : Type 0} (a : A) → Some a ≡ None → ⊥
some_none a e = cc

some_stage : (a b : CarStage) → Some a ≡ Some b → a ≡ b
some_stage a b e = cc

-- ---- what is so

-- so often it was asked again, and it isn't asked once more before as many paces of 100 ms
abbrev pub LaterBy : ℕ → ℕ → Option ℕ → Type 0
LaterBy count now None = 100 * count ≤ now
LaterBy count now (Some at) = 100 * count ≤ at

abbrev pub LaterIn : ℕ → ℕ → Option car_states.Session → Type 0
LaterIn count now None = Unit {0}
LaterIn count now (Some y) = LaterBy count now y.again

pub record IsFew (count now : ℕ) (k : car_states.State) : Type 0 where
  pub few : count ≤ 3
  pub later : LaterIn count now k.session
  pub due : SpeaksDue now k

-- ---- the car hears something

hears_later : (event : Event) (at count now : ℕ) (o : Option car_states.Session) → car_hearing.session_heard event at None ≡ None → LaterIn count now o → LaterIn count now (car_hearing.session_heard event at o)
hears_later event at count now None n k = subst (LaterIn count now) (sym n) tt
hears_later event at count now (Some y) n k = k

ten_more : (count now : ℕ) → 100 * count ≤ now → 100 * count ≤ now + 10
ten_more count now l = omega (arith, l)

passes_by : (again : Option ℕ) (count now : ℕ) → LaterBy count now again → LaterBy count (now + 10) again
passes_by None count now l = ten_more count now l
passes_by (Some at) count now l = l

passes_later : (o : Option car_states.Session) (count now : ℕ) → LaterIn count now o → LaterIn count (now + 10) o
passes_later None count now l = tt
passes_later (Some y) count now l = passes_by y.again count now l

-- one that has ended
ended_few : (count now : ℕ) (k : car_states.State) → count ≤ 3 → k.session ≡ None → IsFew count now k
ended_few count now k l n = record { few = l; later = subst (LaterIn count now) (sym n) tt; due = ended_due now k n }

-- ---- the car does something

past_now : (count at now : ℕ) → 100 * count ≤ at → at ≤ now → 100 * count ≤ now
past_now count at now l p = omega (arith, l, p)

said_by : (again : Option ℕ) (count now : ℕ) → PastBy now again → LaterBy count now again → 100 * count ≤ now
said_by None count now p l = l
said_by (Some at) count now p l = past_now count at now l p

said_later : (o : Option car_states.Session) (count now clock : ℕ) → AgainPast now o → LaterIn count now o → LaterIn count now (option_map (car_acting.awaiting clock) o)
said_later None count now clock p l = tt
said_later (Some y) count now clock p l = said_by y.again count now p l

acts_later : (act : car_steps_of.Act) (cs : car.Codecs) (plan : CarPlan) (count now : ℕ) (k : car_states.State) → IsOfCar act → k.clock ≡ now → car_next.MayAct cs plan k act true → SpeaksDue now k
    → LaterIn count now k.session → LaterIn count now (car_acting.acted act true (car_deciding.decided plan k)).session
acts_later (car_steps_of.Give o) cs plan count now k of_car clock i d l = subst (LaterIn count now) (sym (same_session plan k)) l
acts_later (car_steps_of.Say spoken bytes) cs plan count now k of_car clock i d l =
    subst (λ (o : Option car_states.Session). LaterIn count now (option_map (car_acting.awaiting (car_deciding.decided plan k).clock) o)) (sym (same_session plan k))
    (said_later k.session count now (car_deciding.decided plan k).clock (says_past cs plan now k spoken bytes clock d i) l)
acts_later (car_steps_of.End number) cs plan count now k of_car clock i d l = tt
acts_later (car_steps_of.Seek datagram) cs plan count now k of_car clock i d l = absurd of_car
acts_later (car_steps_of.Dial port) cs plan count now k of_car clock i d l = absurd of_car

-- ---- the car reads a word, and doesn't ask again

due_stays : (b : Bool) (clock now pace count : ℕ) → clock ≡ now → 100 * count ≤ now → LaterBy count now (if b then Some (clock + pace) else None)
due_stays true clock now pace count e l = omega (arith, e, l)
due_stays false clock now pace count e l = l

moved_stays : (b : Bool) (plan : CarPlan) (count now : ℕ) (s : car_states.State) (y : car_states.Session) (from to : CarStage) (r : Reply) → is_again from.phase to.phase ≡ b → s.clock ≡ now → 100 * count ≤ now
    → LaterIn count now (car_judging.moved plan s y from r to).session
moved_stays true plan count now s y from to r e clock l = rw e (due_stays _ s.clock now plan.pace count clock l)
moved_stays false plan count now s y from to r e clock l = rw e l

replied_stays : (o : Option EndCause) (plan : CarPlan) (count now : ℕ) (s : car_states.State) (y : car_states.Session) (stage : CarStage) (r : Reply) → s.clock ≡ now → 100 * count ≤ now → LaterBy count now y.again
    → LaterIn count now (car_judging.replied_by o plan s y stage r).session
replied_stays (Some why) plan count now s y stage r clock l own = own
replied_stays None plan count now s y stage r clock l own = moved_stays _ plan count now s y stage (stage_behind plan stage r y.stop) r refl clock l

told_stays : (o : Option CarStage) (plan : CarPlan) (count now : ℕ) (s : car_states.State) (y : car_states.Session) (r : Reply) → s.clock ≡ now → 100 * count ≤ now → LaterBy count now y.again
    → LaterIn count now (car_judging.replied plan s y o r).session
told_stays None plan count now s y r clock l own = own
told_stays (Some stage) plan count now s y r clock l own = replied_stays (reply_cause plan stage _ r) plan count now s y stage r clock l own

word_stays : (w : car.Judged) (plan : CarPlan) (count now : ℕ) (s : car_states.State) (y : car_states.Session) → s.clock ≡ now → 100 * count ≤ now → LaterBy count now y.again
    → LaterIn count now (car_judging.judged plan s y w).session
word_stays (car.Chosen None) plan count now s y clock l own = own
word_stays (car.Chosen (Some d)) plan count now s y clock l own = l
word_stays (car.Told r) plan count now s y clock l own = told_stays y.stage plan count now s y r clock l own
word_stays car.WrongSide plan count now s y clock l own = own
word_stays car.Refused plan count now s y clock l own = own

-- ---- or it asks again

-- once more
abbrev pub OneMore : ℕ → ℕ → Option car_states.Session → Type 0
OneMore count now o = (1 + count ≤ 3) × LaterIn (1 + count) now o

both_of : (a b : Bool) → (a && b) ≡ true → (a ≡ true) × (b ≡ true)
both_of true b e = (refl, e)
both_of false b e = absurd (false_true e)

repeated_again : (a b : CarPhase) → is_repeated a b ≡ true → is_again a b ≡ true
repeated_again phase.Authorizing phase.Authorizing e = refl
repeated_again phase.Asking phase.Asking e = refl
repeated_again phase.CableChecking phase.CableChecking e = refl
repeated_again phase.PreCharging phase.PreCharging e = refl
repeated_again a b e = cc

-- not from SessionSetup on
setup_not : (o : Option CarStage) (plan : CarPlan) (d : Dialect) → asks_again is_quick o (Some (first_stage plan d)) ≡ true → ⊥
setup_not None plan d e = false_true e
setup_not (Some c) plan d e =
    let two = both_of (is_quick c.phase) (is_repeated c.phase phase.SettingUp) e in
    false_true (subst (λ (p : CarPhase). is_repeated p phase.SettingUp ≡ true) (sym (repeats_is c.phase phase.SettingUp two.1)) two.1)

within : (clock now pace : ℕ) → clock ≡ now → now < 300 → pace ≤ 1000 → nat_le (clock + pace) never ≡ true
within clock now pace e l p = grind (arith, nat_tests)

pace_more : (b : Bool) (clock now pace count : ℕ) → b ≡ true → clock ≡ now → 100 ≤ pace → 100 * count ≤ now → LaterBy (1 + count) now (if b then Some (clock + pace) else None)
pace_more true clock now pace count i e p l = omega (arith, e, p, l)
pace_more false clock now pace count i e p l = absurd (false_true i)

three : (count now : ℕ) → 100 * count ≤ now → now < 300 → 1 + count ≤ 3
three count now l e = omega (arith, l, e)

moved_stage : (b : Bool) (plan : CarPlan) (s : car_states.State) (y : car_states.Session) (from to : CarStage) (r : Reply) → is_again from.phase to.phase ≡ b → stage_in (car_judging.moved plan s y from r to).session ≡ Some to
moved_stage true plan s y from to r e = rw e refl
moved_stage false plan s y from to r e = rw e refl

moved_more : (b : Bool) (plan : CarPlan) (count now : ℕ) (s : car_states.State) (y : car_states.Session) (from to : CarStage) (r : Reply) → is_again from.phase to.phase ≡ b → is_repeated from.phase to.phase ≡ true → now < 300
    → s.clock ≡ now → 100 ≤ plan.pace → plan.pace ≤ 1000 → 100 * count ≤ now → OneMore count now (car_judging.moved plan s y from r to).session
moved_more true plan count now s y from to r e again early clock least most l =
    rw e (three count now l early, pace_more _ s.clock now plan.pace count (within s.clock now plan.pace clock early most) clock least l)
moved_more false plan count now s y from to r e again early clock least most l = absurd (true_false (sym (repeated_again from.phase to.phase again) ∙ e))

asked_more : (plan : CarPlan) (count now : ℕ) (s : car_states.State) (y : car_states.Session) (from to : CarStage) (r : Reply) → (is_repeated from.phase to.phase ≡ true → is_quick from.phase ≡ true → now < 300)
    → asks_again is_quick (Some from) (stage_in (car_judging.moved plan s y from r to).session) ≡ true → s.clock ≡ now → 100 ≤ plan.pace → plan.pace ≤ 1000 → 100 * count ≤ now
    → OneMore count now (car_judging.moved plan s y from r to).session
asked_more plan count now s y from to r early asks clock least most l =
    let two = both_of (is_quick from.phase) (is_repeated from.phase to.phase)
    (ap (λ (o : Option CarStage). asks_again is_quick (Some from) o) (sym (moved_stage (is_again from.phase to.phase) plan s y from to r refl)) ∙ asks) in
    moved_more (is_again from.phase to.phase) plan count now s y from to r refl two.1 (early two.1 two.0) clock least most l

replied_more : (o : Option EndCause) (plan : CarPlan) (count now : ℕ) (s : car_states.State) (y : car_states.Session) (stage : CarStage) (r : Reply) → y.stage ≡ Some stage → AsksEarly plan now y r
    → (car_judging.replied_by o plan s y stage r).agenda.ending ≡ None → asks_again is_quick (Some stage) (stage_in (car_judging.replied_by o plan s y stage r).session) ≡ true → s.clock ≡ now → 100 ≤ plan.pace
    → plan.pace ≤ 1000 → 100 * count ≤ now → OneMore count now (car_judging.replied_by o plan s y stage r).session
replied_more (Some why) plan count now s y stage r g early going asks clock least most l = absurd (some_none why going)
replied_more None plan count now s y stage r g early going asks clock least most l = asked_more plan count now s y stage (stage_behind plan stage r y.stop) r (early stage g) asks clock least most l

told_more : (o : Option CarStage) (plan : CarPlan) (count now : ℕ) (s : car_states.State) (y : car_states.Session) (r : Reply) → y.stage ≡ o → AsksEarly plan now y r
    → (car_judging.replied plan s y o r).agenda.ending ≡ None → asks_again is_quick o (stage_in (car_judging.replied plan s y o r).session) ≡ true → s.clock ≡ now → 100 ≤ plan.pace → plan.pace ≤ 1000
    → 100 * count ≤ now → OneMore count now (car_judging.replied plan s y o r).session
told_more None plan count now s y r g early going asks clock least most l = absurd (false_true asks)
told_more (Some stage) plan count now s y r g early going asks clock least most l = replied_more (reply_cause plan stage _ r) plan count now s y stage r g early going asks clock least most l

word_more : (w : car.Judged) (plan : CarPlan) (count now : ℕ) (s : car_states.State) (y : car_states.Session) → ReadsEarly w plan now y → (car_judging.judged plan s y w).agenda.ending ≡ None
    → asks_again is_quick y.stage (stage_in (car_judging.judged plan s y w).session) ≡ true → s.clock ≡ now → 100 ≤ plan.pace → plan.pace ≤ 1000 → 100 * count ≤ now
    → OneMore count now (car_judging.judged plan s y w).session
word_more (car.Chosen None) plan count now s y early going asks clock least most l = absurd (some_none _ going)
word_more (car.Chosen (Some d)) plan count now s y early going asks clock least most l = absurd (setup_not y.stage plan d asks)
word_more (car.Told r) plan count now s y early going asks clock least most l = told_more y.stage plan count now s y r refl early going asks clock least most l
word_more car.WrongSide plan count now s y early going asks clock least most l = absurd (some_none _ going)
word_more car.Refused plan count now s y early going asks clock least most l = absurd (some_none _ going)

-- ---- either

none_more : (n : ℕ) → 0 + n ≡ n
none_more n = omega arith

-- what is counted then
abbrev pub Counted : Bool → ℕ → ℕ → Option car_states.Session → Type 0
Counted b count now o = (one_if b + count ≤ 3) × LaterIn (one_if b + count) now o

counted_by : (b : Bool) (count now : ℕ) (o : Option car_states.Session) → count ≤ 3 → LaterIn count now o → (b ≡ true → OneMore count now o) → Counted b count now o
counted_by true count now o l stays more = more refl
counted_by false count now o l stays more =
    let same : count ≡ 0 + count = sym (none_more count) in
    (subst (λ (n : ℕ). n ≤ 3) same l, subst (λ (n : ℕ). LaterIn n now o) same stays)

-- what is known of a session that reads a word
pub record Reads (plan : CarPlan) (count now : ℕ) (s : car_states.State) (w : car.Judged) (y : car_states.Session) : Type 0 where
  pub past : 100 * count ≤ now
  pub again : LaterBy count now y.again
  pub early : ReadsEarly w plan now y
  pub going : asks_again is_quick y.stage (stage_in (car_judging.judged plan s y w).session) ≡ true → (car_judging.judged plan s y w).agenda.ending ≡ None

reads_counted : (o : Option car_states.Session) (plan : CarPlan) (count now : ℕ) (s : car_states.State) (w : car.Judged) → o ≡ s.session → s.clock ≡ now → 100 ≤ plan.pace → plan.pace ≤ 1000 → count ≤ 3
    → ((y : car_states.Session) → o ≡ Some y → Reads plan count now s w y)
    → Counted (asks_again is_quick (stage_in o) (stage_in (car_judging.judged_in plan s o w).session)) count now (car_judging.judged_in plan s o w).session
reads_counted None plan count now s w e clock least most l r =
    counted_by false count now s.session l (subst (LaterIn count now) e tt) (λ i. absurd (false_true i))
reads_counted (Some y) plan count now s w e clock least most l r =
    let k : Reads plan count now s w y = r y refl in
    counted_by (asks_again is_quick y.stage (stage_in (car_judging.judged plan s y w).session)) count now (car_judging.judged plan s y w).session l (word_stays w plan count now s y clock k.past k.again)
    (λ i. word_more w plan count now s y k.early (k.going i) i clock least most k.past)

-- ---- it goes on

busy_by : (port : Option ℕ) (order : Option Order) (spoken : Option Spoken) (why : EndCause) (seeks : Bool) → car_states.is_none (car_states.first_of port order spoken (Some why) seeks) ≡ false
busy_by (Some port) order spoken why seeks = refl
busy_by None (Some o) spoken why seeks = refl
busy_by None None (Some spoken) why seeks = refl
busy_by None None None why seeks = refl

ending_kept : (o : Option EndCause) (plan : CarPlan) (k : car_states.State) → k.agenda.ending ≡ o → (car_deciding.decided plan k).agenda.ending ≡ None → k.agenda.ending ≡ None
ending_kept None plan k e n = e
ending_kept (Some why) plan k e n =
    let busy : car_states.is_done k.agenda ≡ false =
    ap (λ (x : Option EndCause). car_states.is_none (car_states.first_of k.agenda.port k.agenda.order k.agenda.spoken x k.agenda.seeks)) e ∙ busy_by k.agenda.port k.agenda.order k.agenda.spoken why k.agenda.seeks in
    let stays : car_deciding.decided plan k ≡ k = ap (λ (b : Bool). if b && not k.over then car_deciding.from_part plan k.part k else k) busy in
    ap (λ (t : car_states.State). t.agenda.ending) (sym stays) ∙ n

still_going : (plan : CarPlan) (k : car_states.State) (y : car_states.Session) → IsStill plan k y → k.agenda.ending ≡ None
still_going plan k y s = ap (λ (a : car_states.Agenda). a.ending) s.none

talks_going : (c : post.Codecs) (cs : car.Codecs) (post_plan : PostPlan) (plan : CarPlan) (b : Both) (s : State) (k : car_states.State) (ts tc : List ℕ) → Talks c cs post_plan plan b s k ts tc → k.agenda.ending ≡ None
talks_going c cs post_plan plan b s k ts tc (IsToAsk order l say none) = ending_kept k.agenda.ending plan k refl (ap (λ (a : car_states.Agenda). a.ending) say.agenda_is)
talks_going c cs post_plan plan b s k ts tc (Rests l a none) = still_going plan k a.session a.still
talks_going c cs post_plan plan b s k ts tc (Asks request unread encodes l a comes n) = still_going plan k a.session a.still
talks_going c cs post_plan plan b s k ts tc (IsToReply facts later shown fits send a none) = still_going plan k a.session a.still
talks_going c cs post_plan plan b s k ts tc (Closes facts shown fits last l waits a none) = still_going plan k a.session a.still
talks_going c cs post_plan plan b s k ts tc (Replies facts later shown payload unread fits encodes goes a n comes) = still_going plan k a.session a.still

going_by : (x : Bool) (c : post.Codecs) (cs : car.Codecs) (post_plan : PostPlan) (plan : CarPlan) (b : Both) (s : State) (k : car_states.State) (ts tc : List ℕ) → x ≡ false → TalksBy x c cs post_plan plan b s k ts tc
    → k.agenda.ending ≡ None
going_by true c cs post_plan plan b s k ts tc e t = absurd (true_false e)
going_by false c cs post_plan plan b s k ts tc e t = talks_going c cs post_plan plan b s k ts tc t

behind_going : (behind : Words) (c : post.Codecs) (cs : car.Codecs) (post_plan : PostPlan) (plan : CarPlan) (dialect : Dialect) (xs : List Outside) (s : State) (k : car_states.State) (ts tc : List ℕ)
    → IsNext (Read dialect xs) behind → IsIn c cs post_plan plan behind s k ts tc → is_ending (both post_plan plan token dialect xs).car.phase ≡ false → k.agenda.ending ≡ None
behind_going NoneYet c cs post_plan plan dialect xs s k ts tc n t e = absurd n
behind_going (Read other ys) c cs post_plan plan dialect xs s k ts tc n t e =
    let more = n.2 in
    let ended : has_ended post_plan plan token other ys ≡ false =
    ap (λ (zs : List Outside). has_ended post_plan plan token other zs) more ∙ ap (λ (d : Dialect). is_ending (both post_plan plan token d xs).car.phase) n.0 ∙ e in
    going_by (has_ended post_plan plan token other ys) c cs post_plan plan (both post_plan plan token other ys) s k ts tc ended t.1

reads_going : (words : Words) (c : post.Codecs) (cs : car.Codecs) (post_plan : PostPlan) (plan : CarPlan) (s : State) (k : car_states.State) (ts tc : List ℕ) (w : car.Judged) (stage : CarStage) → IsPair c cs post_plan plan
    → IsIn c cs post_plan plan words s k ts tc → IsQuiet post_plan s → car_next.MayRead cs plan k w → stage_in k.session ≡ Some stage → is_ending stage.phase ≡ false
    → (car_judging.read plan (car_deciding.decided plan k) w).agenda.ending ≡ None
reads_going NoneYet c cs post_plan plan s k ts tc w stage p t q i e f = absurd (some_none stage (sym e ∙ begins_stage c cs post_plan plan s k ts tc t))
reads_going (Read dialect xs) c cs post_plan plan s k ts tc w stage p t q i e f =
    let r : HasRead c cs post_plan plan (Read dialect xs) s k ts tc w = cars_read c cs post_plan plan (Read dialect xs) s k ts tc w p t q i in
    let same : stage ≡ (both post_plan plan token dialect xs).car = some_stage stage (both post_plan plan token dialect xs).car (sym e ∙ reading_stage c cs post_plan plan dialect xs s k ts tc w t i) in
    behind_going r.behind c cs post_plan plan dialect xs s (car_judging.read plan (car_deciding.decided plan k) w) ts tc r.next r.phase (ap (λ (z : CarStage). is_ending z.phase) (sym same) ∙ f)

quick_not_ending : (p : CarPhase) → is_quick p ≡ true → is_ending p ≡ false
quick_not_ending phase.Ending e = absurd (false_true e)
quick_not_ending other e = refl

-- of a session with this stage
pub record QuickStage (o : Option CarStage) : Type 0 where
  pub stage : CarStage
  pub stage_is : o ≡ Some stage
  pub quick : is_quick stage.phase ≡ true

quick_stage : (o to : Option CarStage) → asks_again is_quick o to ≡ true → QuickStage o
quick_stage None to e = absurd (false_true e)
quick_stage (Some c) None e = absurd (false_true e)
quick_stage (Some c) (Some d) e = let two = both_of (is_quick c.phase) (is_repeated c.phase d.phase) e in record { stage = c; stage_is = refl; quick = two.0 }

-- ---- all that may happen

abbrev pub Few : CarPlan → List Happening → Type 0
Few plan h = IsFew (repeats_in is_quick plan h) (moment h) (car_state plan h)

reads : (c : post.Codecs) (cs : car.Codecs) (st : Station) (plan : CarPlan) (session : List Happening) (w : car.Judged) → 1 ≤ st.limit → Seen c cs st plan session → IsQuiet st.post (station_state st (front plan session))
    → car_next.MayRead cs (joined plan) (car_state (joined plan) (front plan session)) w → Few (joined plan) (front plan session) → Few (joined plan) (CarReads w ∷ front plan session)
reads c cs st plan session w some seen q i k =
    let h : List Happening = front plan session in
    let n : Known c cs st (joined plan) h = known c cs st plan session seen in
    let well : GoesWell c cs st (joined plan) h = n.well in
    let pair : IsPair c cs st.post (joined plan) = seen.pair in
    let paired : ArePaired st.post (joined plan) = pair.paired in
    let of_car : IsCarPlan (ported (joined plan)) = paired.of_car in
    let pace = of_car.pace in
    let own : car_states.State = car_state (joined plan) h in
    let live : own.over ≡ false = reads_live well.words c cs st.post (joined plan) (station_state st h) own (to_station h) (to_car h) w well.phase i in
    let same : (car_deciding.decided (joined plan) own).session ≡ own.session = same_session (joined plan) own in
    let known_of : (y : car_states.Session) → (car_deciding.decided (joined plan) own).session ≡ Some y → Reads (joined plan) (repeats_in is_quick (joined plan) h) (moment h) (car_deciding.decided (joined plan) own) w y =
    λ y e.
    let there : own.session ≡ Some y = sym same ∙ e in
    let come : HasCome cs (joined plan) y (to_car h) w = words_come well.words c cs st.post (joined plan) (station_state st h) own (to_station h) (to_car h) y w well.phase there i in
    let later : LaterBy (repeats_in is_quick (joined plan) h) (moment h) y.again = subst (LaterIn (repeats_in is_quick (joined plan) h) (moment h)) there k.later in
    record {
      past = subst (LaterBy (repeats_in is_quick (joined plan) h) (moment h)) come.again later;
      again = later;
      early = asks_early w c cs st plan session y some seen i there;
      going = λ asks.
          let of : QuickStage y.stage = quick_stage y.stage _ asks in
          ap (λ (o : Option car_states.Session). (car_judging.judged_in (joined plan) (car_deciding.decided (joined plan) own) o w).agenda.ending) (sym e)
          ∙ reads_going well.words c cs st.post (joined plan) (station_state st h) own (to_station h) (to_car h) w of.stage seen.pair well.phase q i (ap stage_in there ∙ of.stage_is) (quick_not_ending of.stage.phase of.quick);
    } in
    let counted : Counted (asks_again is_quick (stage_in (car_deciding.decided (joined plan) own).session) (stage_in (car_state (joined plan) (CarReads w ∷ h)).session)) (repeats_in is_quick (joined plan) h) (moment h)
    (car_state (joined plan) (CarReads w ∷ h)).session =
    reads_counted (car_deciding.decided (joined plan) own).session (joined plan) (repeats_in is_quick (joined plan) h) (moment h) (car_deciding.decided (joined plan) own) w refl
    (same_car_clock (joined plan) own ∙ n.car_clock live) pace.0 pace.1 k.few known_of in
    let here : Counted (asks_again is_quick (stage_in own.session) (stage_in (car_state (joined plan) (CarReads w ∷ h)).session)) (repeats_in is_quick (joined plan) h) (moment h)
    (car_state (joined plan) (CarReads w ∷ h)).session =
    subst (λ (o : Option car_states.Session). Counted (asks_again is_quick (stage_in o) (stage_in (car_state (joined plan) (CarReads w ∷ h)).session)) (repeats_in is_quick (joined plan) h) (moment h)
    (car_state (joined plan) (CarReads w ∷ h)).session) same counted in
    record { few = here.0; later = here.1; due = reads_due (joined plan) (moment h) (car_deciding.decided (joined plan) own) w }

step : (e : Happening) (c : post.Codecs) (cs : car.Codecs) (st : Station) (plan : CarPlan) (session : List Happening) → 1 ≤ st.limit → Seen c cs st plan session → Seen c cs st plan (e ∷ session)
    → Few (joined plan) (front plan session) → Few (joined plan) (e ∷ front plan session)
step (ChargerTells event) c cs st plan session some s t k = k
step (StationHears bytes) c cs st plan session some s t k = k
step (StationDoes reading act) c cs st plan session some s t k = k
step (CarHears bytes) c cs st plan session some s t k =
    let h : List Happening = front plan session in
    let n : Known c cs st (joined plan) h = known c cs st plan session s in
    heard_by (λ (x : car_states.State). IsFew (repeats_in is_quick (joined plan) h) (moment h) x) (car_cause h) (joined plan) (car_steps h) (Bytes bytes) (moment h) n.ended
    (record {
      few = k.few;
      later = hears_later (Bytes bytes) (moment h) (repeats_in is_quick (joined plan) h) (moment h) (car_state (joined plan) h).session refl k.later;
      due = record { says = λ spoken e. absurd (some_none spoken (sym e)); came = λ early. tt };
    })
    (ended_few (repeats_in is_quick (joined plan) h) (moment h) (car_state (joined plan) h) k.few)
step TimePasses c cs st plan session some s t k =
    let h : List Happening = front plan session in
    let n : Known c cs st (joined plan) h = known c cs st plan session s in
    heard_by (λ (x : car_states.State). IsFew (repeats_in is_quick (joined plan) h) (moment h + 10) x) (car_cause h) (joined plan) (car_steps h) Clock (moment h + 10) n.ended
    (record {
      few = k.few;
      later = hears_later Clock (moment h + 10) (repeats_in is_quick (joined plan) h) (moment h + 10) (car_state (joined plan) h).session refl
          (passes_later (car_state (joined plan) h).session (repeats_in is_quick (joined plan) h) (moment h) k.later);
      due = record { says = λ spoken e. absurd (some_none spoken (sym e)); came = λ early. tt };
    })
    (ended_few (repeats_in is_quick (joined plan) h) (moment h + 10) (car_state (joined plan) h) k.few)
step (CarReads w) c cs st plan session some s t k =
    let h : List Happening = front plan session in
    let n : Known c cs st (joined plan) h = known c cs st plan session s in
    let r = t.run in
    let f = r.1 in
    reads c cs st plan session w some s f.0 (subst (λ (o : Option CarPlan). CarMayReadBy cs o h w) n.came f.1) k
step (CarDoes act) c cs st plan session some s t k =
    let h : List Happening = front plan session in
    let n : Known c cs st (joined plan) h = known c cs st plan session s in
    let r = t.run in
    let f = r.1 in
    let i : car_next.MayAct cs (joined plan) (car_state (joined plan) h) act true = subst (λ (o : Option CarPlan). CarMayDoBy cs o h act) n.came f.1 in
    let well : GoesWell c cs st (joined plan) h = n.well in
    let of_car : IsOfCar act = cars_act c cs st.post (joined plan) well.words (station_state st h) (car_state (joined plan) h) (to_station h) (to_car h) act s.pair well.phase i in
    let on : GoesOn (joined plan) (station_state st h) (car_state (joined plan) h) =
    acts_on well.words c cs st.post (joined plan) (station_state st h) (car_state (joined plan) h) (to_station h) (to_car h) act s.pair well.phase i in
    record {
      few = k.few;
      later = acts_later act cs (joined plan) (repeats_in is_quick (joined plan) h) (moment h) (car_state (joined plan) h) of_car (n.car_clock on.live) i k.due k.later;
      due = acts_due act (joined plan) (moment h) (car_state (joined plan) h) of_car (n.car_clock on.live) k.due;
    }
step (CarComes other) c cs st plan session some s t k = let w = t.within in absurd (true_false (sym w.0))
step CarGoes c cs st plan session some s t k = let w = t.within in absurd (true_false (sym w.0))
step NumberIsDrawn c cs st plan session some s t k = let w = t.within in absurd (true_false (sym w.0))

-- the car has come
nothing_yet : 0 ≤ 3
nothing_yet = omega arith

at_once : 100 * 0 ≤ 0
at_once = omega arith

begins : (plan : CarPlan) → Few (joined plan) (CarComes plan ∷ [])
begins plan = record { few = nothing_yet; later = at_once; due = record { says = λ spoken e. absurd (some_none spoken (sym e)); came = λ early. refl } }

pub few_in : (c : post.Codecs) (cs : car.Codecs) (st : Station) (plan : CarPlan) (session : List Happening) → 1 ≤ st.limit → Seen c cs st plan session → Few (joined plan) (front plan session)
few_in c cs st plan [] some s = begins plan
few_in c cs st plan (e ∷ session) some s =
    step e c cs st plan session some (shorter e c cs st plan session s) s (few_in c cs st plan session some (shorter e c cs st plan session s))

pub quick_steps_are_few : (c : post.Codecs) (cs : car.Codecs) → QuickStepsAreFew c cs
quick_steps_are_few c cs st plan h p some f l d =
    subst (λ (x : List Happening). repeats_in is_quick (joined plan) x ≤ 3) (sym f.h_is)
    (let k : Few (joined plan) (front plan f.session) = few_in c cs st plan f.session some (record {
      pair = p;
      within = f.within;
      run = subst (λ (x : List Happening). IsRun c cs st x) f.h_is f.run;
      short = subst (λ (x : List Happening). AllByRecursion (IsShort 65544) x) f.h_is l;
      undisturbed = subst (λ (x : List Happening). AllGoUndisturbed c cs st (joined plan) x) f.h_is d;
    }) in k.few)
