-- What each row of a hearing may ask for, and which is the first that asks for anything.
use Rattle.std.proofs.Common.{ap, ◌≡◌, ℕ, Bool, true, false, not, ◌&&◌, if◌then◌else◌, List, [], ◌∷◌, Option, Some, None, is_some, Result, Ok, Err, refl}
use Rattle.charge_world.specs.declared.heard.PlantEvent.{PlantEvent}
use Rattle.charge_world.specs.declared.ports.Order.{Order}
use Rattle.charge_world.specs.declared.ports.Order.TheVariants as order
use Rattle.session_words.specs.declared.cause.EndCause.{EndCause}
use Rattle.session_words.specs.declared.cause.EndCause.TheVariants.{BadFrame, Impatient, Gone as ConnectionGone, RunOver}
use Rattle.session_words.specs.declared.facts.Facts.{Facts}
use Rattle.session_words.specs.declared.phase.Standing.{Standing}
use Rattle.session_words.specs.declared.phase.Standing.TheVariants as standing
use Rattle.session_words.specs.declared.plan.PostPlan.{PostPlan}
use Rattle.session_words.specs.Causes.{cause_of}
use Rattle.v2gtp_frames.specs.declared.FrameFault.{FrameFault}
use Rattle.v2gtp_frames.specs.Reading.{whole_at}
use Rattle.session_rules.specs.Causes.{plant_cause}
use Rattle.session_rules.specs.Lines.{Line, first_line}
use Rattle.session_rules.specs.Reply.{waiting_reply}
use Rattle.session_rules.specs.Stages.{is_set_up, is_waiting}
use Rattle.post_spec.specs.Causes.{running, due, watch}
use Rattle.post_spec.specs.Contactors.{standing, live}
use Rattle.post_spec.specs.Course.{Talked, Course, facts_of}
use Rattle.post_spec.specs.Discovery.{answer_of}
use Rattle.post_spec.specs.Facts.{now}
use Rattle.post_spec.specs.Sessions.{waits}
use Rattle.post_spec.specs.Steps.{Event, Came, Bytes, Gone, Datagram, Plant, Clock, Over, Act, Give, Send, Answer, Seen, Reading, Step, Hears, Does}
use Rattle.station_spec.specs.States.{Said, Agenda, Part, Spoken, Todo, nothing, is_done, is_none, first, first_of}
use Rattle.station_spec.specs.States as states
use Rattle.station_spec.specs.Deciding.{opening_if, ending_by, repeating, is_reached, confirms, charging_by, fronting_by}
use Rattle.read_runs.specs.Facts.{before_hearing}
use Rattle.read_agendas.specs.Rows.{again, late, let_go, charged, ended, told, front}
use Rattle.read_agendas.specs.Left.{Left, row}
use Rattle.caused_ends.specs.Applying.{unread, call_cause, is_repeat, is_owed, done_cause, judges_heard, goes_on, reads_on}

-- Agendas.

undone : (d : Option (List ℕ)) (o : Option Order) (r : Option Spoken) (e : Option EndCause) (k : EndCause) → e ≡ Some k → is_none (first_of d o r e) ≡ false
undone (Some d) o r e k h = refl
undone None (Some o) r e k h = refl
undone None None (Some r) e k h = refl
undone None None None (Some e) k h = refl
undone None None None None k h = cc

pub ending_undone : (a : Agenda) (k : EndCause) → a.ending ≡ Some k → is_done a ≡ false
ending_undone a k h = undone a.datagram a.order a.reply a.ending k h

pub finish_is : (d : Option (List ℕ)) (o : Option Order) (r : Option Spoken) (e : Option EndCause) (k : EndCause) → first_of d o r e ≡ Some (states.Finish k) → e ≡ Some k
finish_is (Some d) o r e k h = cc
finish_is None (Some o) r e k h = cc
finish_is None None (Some r) e k h = cc
finish_is None None None (Some e) k h = cc
finish_is None None None None k h = cc

pub first_open : (d : Option (List ℕ)) (o : Option Order) (r : Option Spoken) (e : Option EndCause) → d ≡ None → o ≡ Some order.Open → first_of d o r e ≡ Some (states.Give order.Open)
first_open (Some d) o r e h k = cc
first_open None None r e h k = cc
first_open None (Some o) r e h k = let x : o ≡ order.Open = cc in ap (λ (y : Order). Some (states.Give y)) x

pub absurd_bool : {A : Type 0} (b : Bool) → b ≡ true → b ≡ false → A
absurd_bool true h k = cc
absurd_bool false h k = cc

-- an agenda that ends the session, by this cause, and opens the contactor before, where it is live
pub record Ending (on : Bool) (a : Agenda) : Type 0 where
  pub cause : EndCause
  pub ending_is : a.ending ≡ Some cause
  pub behind_is : a.behind_reply ≡ None
  pub datagram_is : a.datagram ≡ None
  pub order_is : a.order ≡ opening_if on

ends : (k : EndCause) (on : Bool) → Ending on (ending_by k on)
ends k on = record { cause = k; ending_is = refl; behind_is = refl; datagram_is = refl; order_is = refl }

-- The rows.

opens : (st : Standing) → is_done (repeating st) ≡ false → repeating st ≡ record nothing { order = Some order.Open }
opens standing.MustOpen h = refl
opens standing.Opened h = cc
opens standing.Closing h = cc
opens standing.Closed h = cc
opens standing.Opening h = cc

pub again_opens : (past : List Seen) → is_done (again past) ≡ false → again past ≡ record nothing { order = Some order.Open }
again_opens past h = opens (standing past) h

timed : (b : Bool) (k : EndCause) (on : Bool) → is_done (if b then ending_by k on else nothing) ≡ false → Ending on (if b then ending_by k on else nothing)
timed true k on h = ends k on
timed false k on h = cc

pub late_ends : (o : Option Talked) (lives : Option (List Seen)) (at : ℕ) (on : Bool) → is_done (late o lives at on) ≡ false → Ending on (late o lives at on)
late_ends None lives at on h = cc
late_ends (Some t) None at on h = cc
late_ends (Some t) (Some es) at on h = timed (is_reached (due (Some t) es) at) (cause_of (running (is_set_up t.stage.row) (waits es))) on h

-- what was heard ends the session, is answered, or lets a reply go
pub data Asking (on : Bool) (a : Agenda) : Type 0 where
  Ends : Ending on a → Asking on a
  Tells : (datagram : List ℕ) → a ≡ record nothing { datagram = Some datagram } → Asking on a
  Says : (spoken : Spoken) → a ≡ record nothing { reply = Some spoken } → Asking on a

ended_asks : (o : Option Talked) (k : EndCause) (on : Bool) → is_done (ended o k on) ≡ false → Asking on (ended o k on)
ended_asks None k on h = cc
ended_asks (Some t) k on h = Ends (ends k on)

datagram_asks : (o : Option (List ℕ)) (on : Bool) → is_done (record nothing { datagram = o }) ≡ false → Asking on (record nothing { datagram = o })
datagram_asks None on h = cc
datagram_asks (Some d) on h = Tells d refl

let_asks : (b : Bool) (x : Spoken) (on : Bool) → is_done (if b then record nothing { reply = Some x } else nothing) ≡ false → Asking on (if b then record nothing { reply = Some x } else nothing)
let_asks true x on h = Says x refl
let_asks false x on h = cc

charged_by : (plan : PostPlan) (t : Talked) (facts : Facts) (event : PlantEvent) (o : Option EndCause) (on : Bool) → is_done (charging_by o (let_go plan t facts event) on) ≡ false → Asking on (charging_by o (let_go plan t facts event) on)
charged_by plan t facts event (Some k) on h = Ends (ends k on)
charged_by plan t facts event None on h = let_asks (is_waiting t.stage.row && confirms event) (Said t.stage.dialect (waiting_reply t.stage facts plan)) on h

charged_asks : (plan : PostPlan) (o : Option Talked) (past : List Seen) (c : Course) (event : PlantEvent) → is_done (charged plan o past c event) ≡ false → Asking (live past) (charged plan o past c event)
charged_asks plan None past c event h = cc
charged_asks plan (Some t) past c event h = charged_by plan t (facts_of past c) event (plant_cause (watch plan t (before_hearing past) (live past) (now past)) event) (live past) h

pub told_asks : (plan : PostPlan) (past : List Seen) (c : Course) (e : Event) → is_done (told plan past c e) ≡ false → Asking (live past) (told plan past c e)
told_asks plan past c (Came token) h = ended_asks c.session ConnectionGone (live past) h
told_asks plan past c (Bytes bytes) h = cc
told_asks plan past c Gone h = ended_asks c.session ConnectionGone (live past) h
told_asks plan past c (Datagram bytes) h = datagram_asks (answer_of plan.tcp bytes) (live past) h
told_asks plan past c (Plant event) h = charged_asks plan c.session past c event h
told_asks plan past c Clock h = cc
told_asks plan past c Over h = ended_asks c.session RunOver (live past) h

front_by : (f : Result (Option ℕ) FrameFault) (w on : Bool) → is_done (fronting_by f w on) ≡ false → Ending on (fronting_by f w on)
front_by (Err fault) w on h = ends BadFrame on
front_by (Ok None) w on h = cc
front_by (Ok (Some n)) true on h = ends Impatient on
front_by (Ok (Some n)) false on h = cc

pub front_ends : (lives : Option (List Seen)) (on : Bool) → is_done (front lives on) ≡ false → Ending on (front lives on)
front_ends None on h = cc
front_ends (Some es) on h = front_by (whole_at (unread es)) (waits es) on h

-- Without a session they end nothing.

none_some : {k : EndCause} → None ≡ Some k → ⊥
none_some h = cc

pub dead_late : (o : Option Talked) (lives : Option (List Seen)) (at : ℕ) (on : Bool) (k : EndCause) → lives ≡ None → (late o lives at on).ending ≡ Some k → ⊥
dead_late None lives at on k l h = none_some h
dead_late (Some t) None at on k l h = none_some h
dead_late (Some t) (Some es) at on k l h = cc

dead_charged : (plan : PostPlan) (o : Option Talked) (past : List Seen) (c : Course) (event : PlantEvent) (k : EndCause) → o ≡ None → (charged plan o past c event).ending ≡ Some k → ⊥
dead_charged plan None past c event k l h = none_some h
dead_charged plan (Some t) past c event k l h = cc

dead_ended : (o : Option Talked) (cause : EndCause) (on : Bool) (k : EndCause) → o ≡ None → (ended o cause on).ending ≡ Some k → ⊥
dead_ended None cause on k l h = none_some h
dead_ended (Some t) cause on k l h = cc

pub dead_told : (plan : PostPlan) (past : List Seen) (c : Course) (e : Event) (k : EndCause) → c.session ≡ None → (told plan past c e).ending ≡ Some k → ⊥
dead_told plan past c (Came token) k l h = dead_ended c.session ConnectionGone (live past) k l h
dead_told plan past c (Bytes bytes) k l h = none_some h
dead_told plan past c Gone k l h = dead_ended c.session ConnectionGone (live past) k l h
dead_told plan past c (Datagram bytes) k l h = none_some h
dead_told plan past c (Plant event) k l h = dead_charged plan c.session past c event k l h
dead_told plan past c Clock k l h = none_some h
dead_told plan past c Over k l h = dead_ended c.session RunOver (live past) k l h

pub dead_front : (lives : Option (List Seen)) (on : Bool) (k : EndCause) → lives ≡ None → (front lives on).ending ≡ Some k → ⊥
dead_front None on k l h = none_some h
dead_front (Some es) on k l h = cc

-- The first row that asks for anything.

row_if : (P : Left → Type 0) → (b : Bool) (x y : Left) → (b ≡ false → P x) → (b ≡ true → P y) → P (if not b then x else y)
row_if P true x y f g = g refl
row_if P false x y f g = f refl

pub row_or : (P : Left → Type 0) (a : Agenda) (q : Part) (ls : List (Line Left)) (other : Left) → (is_done a ≡ false → P (record { part = q; agenda = a })) → (is_done a ≡ true → P (first_line ls other)) → P (first_line (row a q ∷ ls) other)
row_or P a q ls other f g = row_if P (is_done a) (record { part = q; agenda = a }) (first_line ls other) f g

if_taken : (b : Bool) (x y : Left) → b ≡ false → (if not b then x else y) ≡ x
if_taken true x y e = cc
if_taken false x y e = refl

if_passed : (b : Bool) (x y : Left) → b ≡ true → (if not b then x else y) ≡ y
if_passed true x y e = refl
if_passed false x y e = cc

pub row_taken : (a : Agenda) (q : Part) (ls : List (Line Left)) (other : Left) → is_done a ≡ false → first_line (row a q ∷ ls) other ≡ record { part = q; agenda = a }
row_taken a q ls other e = if_taken (is_done a) (record { part = q; agenda = a }) (first_line ls other) e

pub row_passed : (a : Agenda) (q : Part) (ls : List (Line Left)) (other : Left) → is_done a ≡ true → first_line (row a q ∷ ls) other ≡ first_line ls other
row_passed a q ls other e = if_passed (is_done a) (record { part = q; agenda = a }) (first_line ls other) e

done_rest : (b : Bool) (x y : Left) → is_done x.agenda ≡ b → is_done (if not b then x else y).agenda ≡ true → (b ≡ true) × (is_done y.agenda ≡ true)
done_rest true x y e h = (refl, h)
done_rest false x y e h = absurd_bool (is_done x.agenda) h e

pub row_done : (a : Agenda) (q : Part) (ls : List (Line Left)) (other : Left) → is_done (first_line (row a q ∷ ls) other).agenda ≡ true → (is_done a ≡ true) × (is_done (first_line ls other).agenda ≡ true)
row_done a q ls other h = done_rest (is_done a) (record { part = q; agenda = a }) (first_line ls other) refl h

-- Places: a call that is a cause is no place where a hearing or a word is judged.

some_passed : (b : Bool) (o : Option EndCause) (k : EndCause) → o ≡ Some k → (b && not (is_some o)) ≡ true → ⊥
some_passed false o k e h = cc
some_passed true None k e h = cc
some_passed true (Some x) k e h = cc

pub call_reads : (steps : List Step) (k : EndCause) → done_cause steps ≡ Some k → reads_on steps ≡ true → ⊥
call_reads [] k e h = cc
call_reads (Hears at event ∷ steps) k e h = cc
call_reads (Does r a taken ∷ steps) k e h = some_passed (goes_on a taken) (call_cause r a taken) k e h

repeat_calls : (r : Option Reading) (a : Act) (taken b : Bool) (k : EndCause) → call_cause r a taken ≡ Some k → (is_repeat r a taken && b) ≡ true → ⊥
repeat_calls None (Give order.Open) true b k e h = cc
repeat_calls r a taken b k e h = cc

pub call_judges : (steps : List Step) (k : EndCause) → done_cause steps ≡ Some k → judges_heard steps ≡ true → ⊥
call_judges [] k e h = cc
call_judges (Hears at event ∷ steps) k e h = cc
call_judges (Does r a taken ∷ steps) k e h = repeat_calls r a taken (is_owed steps) k e h

pub repeat_send : (r : Option Reading) (bytes : List ℕ) (taken : Bool) → is_repeat r (Send bytes) taken ≡ false
repeat_send None bytes taken = refl
repeat_send (Some q) bytes taken = refl

pub repeat_answer : (r : Option Reading) (bytes : List ℕ) (taken : Bool) → is_repeat r (Answer bytes) taken ≡ false
repeat_answer None bytes taken = refl
repeat_answer (Some q) bytes taken = refl
