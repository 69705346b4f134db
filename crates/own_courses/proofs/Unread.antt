-- Where a post does something and reads no word, nobody who reads its trace judges one for it.
use Rattle.std.proofs.Common.{◌≡◌, ◌≤◌, ◌<◌, ℕ, Bool, true, false, ◌&&◌, ◌||◌, if◌then◌else◌, List, [], ◌∷◌, map, Option, Some, None, Result, Ok, Err, is_some, refl, sym, ap, subst, ◌∙◌, inl, inr, ◌⊎◌, arith}
use Rattle.std.specs.Prelude.{nat_le, nat_lt}
use Rattle.std.proofs.lemmas.Bool.Decides.{nat_tests}
use Rattle.charge_world.specs.declared.heard.PlantEvent.{PlantEvent}
use Rattle.charge_world.specs.declared.ports.Order.{Order}
use Rattle.charge_world.specs.declared.ports.Order.TheVariants as order
use Rattle.session_words.specs.declared.cause.EndCause.{EndCause}
use Rattle.session_words.specs.declared.phase.Standing.{Standing}
use Rattle.session_words.specs.declared.phase.Standing.TheVariants as standing
use Rattle.session_words.specs.declared.plan.PostPlan.{PostPlan}
use Rattle.session_words.specs.Causes.{cause_of}
use Rattle.session_timers.specs.Due.{never}
use Rattle.session_rules.specs.Causes.{plant_cause}
use Rattle.session_rules.specs.Deadlines.{timeout_of}
use Rattle.session_rules.specs.Stages.{is_waiting}
use Rattle.v2gtp_frames.specs.declared.FrameFault.{FrameFault}
use Rattle.v2gtp_frames.specs.Reading.{whole_at, behind_frames}
use Rattle.charge_world.specs.declared.offer.Dialect.{Dialect}
use Rattle.post_spec.specs.Causes.{due as due_of}
use Rattle.post_spec.specs.Codecs.{Judged, Negotiated, Asked, WrongSide, Refused, Codecs, Judges}
use Rattle.post_spec.specs.Contactors as contactors
use Rattle.post_spec.specs.Course.{course}
use Rattle.post_spec.specs.Facts.{now}
use Rattle.post_spec.specs.Sessions.{session, stream, brought, waits}
use Rattle.post_spec.specs.Steps.{Event, Came, Bytes, Gone, Datagram, Plant, Clock, Over, Act, Give, Send, Answer, End, Seen, Did, Reading, Step, Hears, Does, seen_of}
use Rattle.post_spec.specs.Words.{HeardWord, Payload, Words, next_words}
use Rattle.station_spec.specs.States.{Agenda, Part, Repeating, Timing, Eventing, Wording, Session, State, Spoken, nothing, is_done}
use Rattle.station_spec.specs.Deciding.{ending_by, repeating, is_reached, due, timing, watch, confirms, confirming, charging_by, charging, eventing, fronting_by, fronting, decide, from_wording, from_eventing, from_timing, from_part, decided}
use Rattle.station_spec.specs.Judging.{Payload as Wanted, judged, taken_in, wanted, filled, IsRead}
use Rattle.station_spec.specs.Acting.{agenda_said, state}
use Rattle.station_spec.specs.Next.{Acts}
use Rattle.station_spec.specs.Sharing.{Shows}
use Rattle.station_laws.proofs.Decided.{decided_by, same_session}
use Rattle.station_laws.proofs.Contactors.{contactors_are_read}
use Rattle.read_runs.specs.Courses.{talked_of, talked_in}
use Rattle.read_runs.proofs.Agendas.{done_empty, decided_done, decided_not, say_is, give_is, repeating_silent, timing_silent, ending_silent, fronting_silent, IsWanted, WantedIn, wanted_in}
use Rattle.read_runs.proofs.Courses.{courses_are_read}
use Rattle.read_runs.proofs.Facts.{facts_are_read}
use Rattle.read_sessions.specs.Sessions.{words_read, IsSession, IsSessionOf}
use Rattle.read_sessions.proofs.Streams.{done_session}
use Rattle.safe_runs.proofs.Links.{Premise, Link, Tie}
use Rattle.safe_runs.proofs.Safety.{run_linked}
use Rattle.failed_replies.proofs.Fresh.{steps_open, negotiates_unlive}
use Rattle.coming_causes_open.proofs.Spoken.{FaultAt, PayloadAt, word_at}
use Rattle.own_traces.specs.Words.{NoneIsNext}
use Rattle.standing_causes_open.proofs.Again.{give_todo}
use Rattle.standing_causes_open.proofs.Coming.{Late}
use Rattle.own_traces.proofs.Judging.{Placed, placed}
use Rattle.own_traces.proofs.Opening.{All, acted_all, open_if, in_order}
use Rattle.own_traces.proofs.Plain.{Plain, answer_unread, decided_plain, say_todo, steps_clean, tell_is, tell_todo}
use Rattle.own_traces.proofs.Settling.{steps_order}
use Rattle.told_pasts.specs.Course.{told_course}
use Rattle.told_pasts.specs.Reading.{IsReached, IsJudged, IsReading}
use Rattle.told_pasts.specs.Spelling.{ToldCodecs}
use Rattle.told_pasts.specs.Steps as told
use Rattle.told_pasts.specs.Steps.{ToldStep, seen_in}
use Rattle.told_pasts.specs.Talk.{is_judged}
use Rattle.own_traces.proofs.Answering.{one_session}
use Rattle.own_courses.proofs.Alike.{Known, AreAlike}
use Rattle.own_courses.proofs.Calm.{IsMust, differ}
use Rattle.own_courses.proofs.Still.{none_still}

-- ---- where no word is read, an order is Open

abbrev Opens : State → Type 0
Opens t = (o : Order) → t.agenda.order ≡ Some o → o ≡ order.Open

none_given : {A : Type 0} (o : Order) → None ≡ Some o → A
none_given o h = cc

repeats_open : (st : Standing) (o : Order) → (repeating st).order ≡ Some o → o ≡ order.Open
repeats_open standing.MustOpen o h = cc
repeats_open standing.Opened o h = none_given o h
repeats_open standing.Closing o h = none_given o h
repeats_open standing.Closed o h = none_given o h
repeats_open standing.Opening o h = none_given o h

if_open : (b : Bool) (k : EndCause) (on : Bool) (o : Order) → (if b then ending_by k on else nothing).order ≡ Some o → o ≡ order.Open
if_open true k on o h = (open_if on o h).0
if_open false k on o h = none_given o h

times_open : (kept : Option Session) (at : ℕ) (on : Bool) (o : Order) → (timing kept at on).order ≡ Some o → o ≡ order.Open
times_open None at on o h = none_given o h
times_open (Some ss) at on o h = if_open (is_reached (due ss) at) (cause_of (timeout_of ss.stage.row)) on o h

confirms_none : (b : Bool) (spoken : Spoken) (o : Order) → (if b then record nothing { reply = Some spoken } else nothing).order ≡ Some o → o ≡ order.Open
confirms_none true spoken o h = none_given o h
confirms_none false spoken o h = none_given o h

charges_open : (plan : PostPlan) (ss : Session) (event : PlantEvent) (s : State) (cause : Option EndCause) (o : Order) → (charging_by cause (confirming plan ss event s) s.live).order ≡ Some o → o ≡ order.Open
charges_open plan ss event s (Some k) o h = (open_if s.live o h).0
charges_open plan ss event s None o h = confirms_none (is_waiting ss.stage.row && confirms event) _ o h

charging_open : (plan : PostPlan) (kept : Option Session) (event : PlantEvent) (s : State) (o : Order) → (charging plan kept event s).order ≡ Some o → o ≡ order.Open
charging_open plan None event s o h = none_given o h
charging_open plan (Some ss) event s o h = charges_open plan ss event s (plant_cause (watch plan ss s) event) o h

events_open : (plan : PostPlan) (e : Event) (s : State) (o : Order) → (eventing plan e s).order ≡ Some o → o ≡ order.Open
events_open plan (Came token) s o h = (in_order s.session _ s.live o h).0
events_open plan (Bytes bytes) s o h = none_given o h
events_open plan Gone s o h = (in_order s.session _ s.live o h).0
events_open plan (Datagram bytes) s o h = none_given o h
events_open plan (Plant event) s o h = charging_open plan s.session event s o h
events_open plan Clock s o h = none_given o h
events_open plan Over s o h = (in_order s.session _ s.live o h).0

front_open : (f : Result (Option ℕ) FrameFault) (w on : Bool) (o : Order) → (fronting_by f w on).order ≡ Some o → o ≡ order.Open
front_open (Err fault) w on o h = (open_if on o h).0
front_open (Ok None) w on o h = none_given o h
front_open (Ok (Some n)) true on o h = (open_if on o h).0
front_open (Ok (Some n)) false on o h = none_given o h

fronts_open : (kept : Option Session) (on : Bool) (o : Order) → (fronting kept on).order ≡ Some o → o ≡ order.Open
fronts_open None on o h = none_given o h
fronts_open (Some ss) on o h = front_open (whole_at ss.unread) (is_waiting ss.stage.row) on o h

pub unread_opens : (c : Codecs) (plan : PostPlan) (steps : List Step) → All c plan steps → Opens (decided plan (state plan steps))
unread_opens c plan steps all =
    let s = state plan steps in
    decided_by Opens plan s (λ d. record {
      repeats = λ o h. repeats_open s.facts.contactor o h;
      times = λ o h. times_open s.session s.clock s.live o h;
      events = λ o h. events_open plan s.event s o h;
      fronts = λ o h. fronts_open s.session s.live o h;
    }) (λ o h. (steps_order c plan steps o all h).0)

-- ---- where a word isn't judged

must_not : (c : ToldCodecs) (plan : PostPlan) (old : List ToldStep) (steps : List Step) (w : Judged) → seen_in old ≡ map seen_of steps → IsMust steps → IsJudged c plan old (Give order.Open) w → ⊥
must_not c plan old steps w same must j = j.judges (inl (ap contactors.standing same ∙ must))

pub late_reached : (plan : PostPlan) (old : List ToldStep) (steps : List Step) → seen_in old ≡ map seen_of steps → AreAlike (map seen_of steps) (told_course plan old) (course plan steps) → Late plan steps → IsReached plan old
late_reached plan old steps same alike l = record {
  talked = l.t;
  es = l.es;
  course_is = alike.session_is ∙ l.course_is;
  session_is = ap session same ∙ l.session_is;
  reached = subst (λ (xs : List Seen). due_of (Some l.t) l.es ≤ now xs) (sym same) l.reached;
  bound = l.bound;
}

pub reached_late : (plan : PostPlan) (old : List ToldStep) (steps : List Step) → seen_in old ≡ map seen_of steps → AreAlike (map seen_of steps) (told_course plan old) (course plan steps) → IsReached plan old → Late plan steps
reached_late plan old steps same alike l = record {
  t = l.talked;
  es = l.es;
  course_is = sym alike.session_is ∙ l.course_is;
  session_is = sym (ap session same) ∙ l.session_is;
  reached = subst (λ (xs : List Seen). due_of (Some l.talked) l.es ≤ now xs) same l.reached;
  bound = l.bound;
}

no_payload : (w : Judged) (rest : List HeardWord) → [] ≡ Payload w ∷ rest → ⊥
no_payload w rest h = cc

pub quiet_not : (c : ToldCodecs) (plan : PostPlan) (old : List ToldStep) (steps : List Step) (a : Act) (w : Judged) → seen_in old ≡ map seen_of steps → NoneIsNext c.words plan (map seen_of steps) → IsJudged c plan old a w → ⊥
quiet_not c plan old steps a w same none j =
    no_payload w j.next.rest (sym (none j.next.es j.next.words (sym (ap session same) ∙ j.next.hearing.session_is) j.next.hearing.words_are) ∙ j.next.next)

pub judged_not : (c : ToldCodecs) (plan : PostPlan) (old : List ToldStep) (a : Act) (w : Judged) → is_judged old ≡ true → IsJudged c plan old a w → ⊥
judged_not c plan old a w e j = differ (is_judged old) e j.unread

-- ---- the deadline

timed : (b : Bool) (k : EndCause) (on : Bool) → (if b then ending_by k on else nothing).order ≡ Some order.Open → b ≡ true
timed true k on h = refl
timed false k on h = none_given order.Open h

reached_by : (m n k : ℕ) → (nat_le m n && nat_lt m k) ≡ true → (m ≤ n) × (m < k)
reached_by m n k h = (grind (arith, nat_tests), grind (arith, nat_tests))

late_in : (plan : PostPlan) (steps : List Step) (lives : Option (List Seen)) (kept : Option Session) (at : ℕ) (on : Bool) → session (map seen_of steps) ≡ lives → talked_in kept ≡ (course plan steps).session → now (map seen_of steps) ≡ at → IsSessionOf lives kept
    → (timing kept at on).order ≡ Some order.Open → Late plan steps
late_in plan steps lives None at on l k n i h = none_given order.Open h
late_in plan steps None (Some ss) at on l k n i h = absurd i
late_in plan steps (Some es) (Some ss) at on l k n i h =
    let r : is_reached (due ss) at ≡ true = timed (is_reached (due ss) at) (cause_of (timeout_of ss.stage.row)) on h in
    let b = reached_by (due ss) at never r in
    record {
      t = talked_of ss;
      es = es;
      course_is = sym k;
      session_is = l;
      reached = subst (λ (m : ℕ). m ≤ now (map seen_of steps)) i.due_is (subst (λ (m : ℕ). due ss ≤ m) (sym n) b.0);
      bound = subst (λ (m : ℕ). m < never) i.due_is b.1;
    }

timing_late : (c : Codecs) (plan : PostPlan) (steps : List Step) → All c plan steps → is_done (state plan steps).agenda ≡ true → (timing (state plan steps).session (state plan steps).clock (state plan steps).live).order ≡ Some order.Open → Late plan steps
timing_late c plan steps all d h =
    late_in plan steps (session (map seen_of steps)) (state plan steps).session (state plan steps).clock (state plan steps).live refl (courses_are_read c plan steps all.laws.run).session_is (sym (facts_are_read plan steps).clock_is) (done_session c plan steps all.laws.run d) h

-- ---- what was heard brings no bytes

event_quiet : (plan : PostPlan) (e : Event) (s : State) → (eventing plan e s).order ≡ Some order.Open → brought e ≡ []
event_quiet plan (Came token) s h = refl
event_quiet plan (Bytes bytes) s h = none_given order.Open h
event_quiet plan Gone s h = refl
event_quiet plan (Datagram bytes) s h = refl
event_quiet plan (Plant event) s h = refl
event_quiet plan Clock s h = refl
event_quiet plan Over s h = refl

-- ---- the frame at the front is a fault, or a reply waits

front_fault : (f : Result (Option ℕ) FrameFault) (w on : Bool) → w ≡ false → (fronting_by f w on).order ≡ Some order.Open → (fault : FrameFault) × (f ≡ Err fault)
front_fault (Err fault) w on e h = (fault, refl)
front_fault (Ok None) w on e h = none_given order.Open h
front_fault (Ok (Some n)) true on e h = cc
front_fault (Ok (Some n)) false on e h = none_given order.Open h

fault_there : (c : Codecs) (offers : List Dialect) (bytes : List ℕ) (n : ℕ) (d : Option Dialect) (fault : FrameFault) (w : Judged) → whole_at (behind_frames n bytes) ≡ Err fault → FaultAt bytes n (Payload w) ⊎ PayloadAt c offers bytes n d (Payload w) → ⊥
fault_there c offers bytes n d fault w e (inl x) = let y = x.word_is in cc
fault_there c offers bytes n d fault w e (inr x) = let y : Err fault ≡ Ok (Some x.at.count) = sym e ∙ x.at.whole in cc

front_placed : (c : Codecs) (plan : PostPlan) (past es : List Seen) (ending : Option EndCause) (reply : Option Spoken) (behind : Option EndCause) (V : Type 0) (lives : Option (List Seen)) (ss : Session) → ending ≡ None → reply ≡ None → session past ≡ lives → lives ≡ Some es → IsSession es ss
    → Tie c plan past ending lives (Some ss) reply behind V → Placed c plan.dialects.items es
front_placed c plan past es (Some k) reply behind V lives ss e r h l i t = cc
front_placed c plan past es None (Some x) behind V lives ss e r h l i t = cc
front_placed c plan past es None None behind V None ss e r h l i t = absurd t
front_placed c plan past es None None behind V (Some zs) ss e r h l i t =
    let y : zs ≡ es = cc in
    placed c plan past es ss behind V (h ∙ l) i (subst (λ (us : List Seen). Link c plan past us ss.stage ss.unread None behind V) y t)

front_not : (c : ToldCodecs) (plan : PostPlan) (old : List ToldStep) (steps : List Step) (w : Judged) (lives : Option (List Seen)) (kept : Option Session) (on : Bool) → Known c plan old steps → is_done (state plan steps).agenda ≡ true → session (map seen_of steps) ≡ lives → (state plan steps).session ≡ kept → IsSessionOf lives kept
    → (fronting kept on).order ≡ Some order.Open → IsJudged c plan old (Give order.Open) w → ⊥
front_not c plan old steps w lives None on known d l k i h j = none_given order.Open h
front_not c plan old steps w None (Some ss) on known d l k i h j = absurd i
front_not c plan old steps w (Some es) (Some ss) on known d l k i h j =
    let past = map seen_of steps in
    let s = state plan steps in
    let all = known.all in
    let e = done_empty s.agenda d in
    let linked = run_linked c.words plan steps all.back all.laws.run in
    let tie = subst (λ (x : Option Session). Tie c.words plan past s.agenda.ending (session past) x s.agenda.reply s.agenda.behind_reply (Premise s.part s.event)) k linked.tie in
    let p = front_placed c.words plan past es s.agenda.ending s.agenda.reply s.agenda.behind_reply (Premise s.part s.event) (session past) ss e.ending e.reply refl l i tie in
    let here : j.next.es ≡ es = one_session past j.next.es es (sym (ap session known.same) ∙ j.next.hearing.session_is) l in
    let free : waits es ≡ false = sym (ap waits here) ∙ j.free in
    let x = front_fault (whole_at ss.unread) (is_waiting ss.stage.row) on (i.waiting_is ∙ free) h in
    let at : whole_at (behind_frames (words_read es) (stream es)) ≡ Err x.0 = sym (ap whole_at i.unread_is) ∙ x.1 in
    let heard = subst (λ (us : List Seen). Words c.words plan.dialects.items (stream us) j.next.words) here j.next.hearing.words_are in
    let next : next_words es j.next.words ≡ Payload w ∷ j.next.rest = sym (ap (λ (us : List Seen). next_words us j.next.words) here) ∙ j.next.next in
    fault_there c.words plan.dialects.items (stream es) (words_read es) p.d x.0 w at (word_at c.words plan.dialects.items (stream es) j.next.words j.next.rest (words_read es) p.d (Payload w) all.det heard p.dialect next)

-- ---- what is decided without a word

abbrev Not : State → Type 0
Not t = t.agenda.order ≡ Some order.Open → ⊥

not_by : (agenda : Agenda) (part : Part) (s rest : State) (b : Bool) → is_done agenda ≡ b → (agenda.order ≡ Some order.Open → ⊥) → Not rest → Not (decide agenda part s rest)
not_by agenda part s rest true e p q = rw e q
not_by agenda part s rest false e p q = rw e p

must_open : (st : Standing) → (repeating st).order ≡ Some order.Open → st ≡ standing.MustOpen
must_open standing.MustOpen h = refl
must_open standing.Opened h = none_given order.Open h
must_open standing.Closing h = none_given order.Open h
must_open standing.Closed h = none_given order.Open h
must_open standing.Opening h = none_given order.Open h

pub record Nots (s : State) (plan : PostPlan) : Type 0 where
  pub again : (repeating s.facts.contactor).order ≡ Some order.Open → ⊥
  pub late : (timing s.session s.clock s.live).order ≡ Some order.Open → ⊥
  pub told : (eventing plan s.event s).order ≡ Some order.Open → ⊥
  pub front : (fronting s.session s.live).order ≡ Some order.Open → ⊥
  pub none : Not s

not_wording : (plan : PostPlan) (s : State) → Nots s plan → Not (from_wording s)
not_wording plan s n = not_by (fronting s.session s.live) Wording s s _ refl n.front n.none

not_eventing : (plan : PostPlan) (s : State) → Nots s plan → Not (from_eventing plan s)
not_eventing plan s n = not_by (eventing plan s.event s) Wording s (from_wording s) _ refl n.told (not_wording plan s n)

not_timing : (plan : PostPlan) (s : State) → Nots s plan → Not (from_timing plan s)
not_timing plan s n = not_by (timing s.session s.clock s.live) Eventing s (from_eventing plan s) _ refl n.late (not_eventing plan s n)

not_part : (plan : PostPlan) (p : Part) (s : State) → Nots s plan → Not (from_part plan p s)
not_part plan Repeating s n = not_by (repeating s.facts.contactor) Timing s (from_timing plan s) _ refl n.again (not_timing plan s n)
not_part plan Timing s n = not_timing plan s n
not_part plan Eventing s n = not_eventing plan s n
not_part plan Wording s n = not_wording plan s n

pub done_order : (a : Agenda) → is_done a ≡ true → a.order ≡ Some order.Open → ⊥
done_order a d h = let e = done_empty a d in let x : None ≡ Some order.Open = sym e.order ∙ h in cc

done_not : (c : ToldCodecs) (plan : PostPlan) (old : List ToldStep) (steps : List Step) (w : Judged) → Known c plan old steps → AreAlike (map seen_of steps) (told_course plan old) (course plan steps) → is_done (state plan steps).agenda ≡ true → IsJudged c plan old (Give order.Open) w → Not (decided plan (state plan steps))
done_not c plan old steps w known alike d j =
    let s = state plan steps in
    let all = known.all in
    let nots : Nots s plan = record {
      again = λ h. must_not c plan old steps w known.same (sym (contactors_are_read plan steps).standing_is ∙ must_open s.facts.contactor h) j;
      late = λ h. j.judges (inr (late_reached plan old steps known.same alike (timing_late c.words plan steps all d h)));
      told = λ h. quiet_not c plan old steps (Give order.Open) w known.same (none_still c.words plan steps all (sym (ap brought (facts_are_read plan steps).event_is) ∙ event_quiet plan s.event s h)) j;
      front = λ h. front_not c plan old steps w (session (map seen_of steps)) s.session s.live known d refl refl (done_session c.words plan steps all.laws.run d) h j;
      none = λ h. done_order s.agenda d h;
    } in
    subst Not (sym (decided_done plan s d)) (not_part plan s.part s nots)

-- ---- what was decided before

-- an order on the outlet was about a word
abbrev pub LimitsRead : List ToldStep → Type 0
LimitsRead [] = Unit {0}
LimitsRead (told.Hears at event ∷ old) = Unit {0}
LimitsRead (told.Does r (Give order.Open) taken ∷ old) = Unit {0}
LimitsRead (told.Does r (Give order.Close) taken ∷ old) = Unit {0}
LimitsRead (told.Does r (Give (order.Limits voltage current watts)) taken ∷ old) = is_some r ≡ true
LimitsRead (told.Does r (Send bytes) taken ∷ old) = Unit {0}
LimitsRead (told.Does r (Answer bytes) taken ∷ old) = Unit {0}
LimitsRead (told.Does r (End cause) taken ∷ old) = Unit {0}
LimitsRead (told.Sends r bytes taken said ∷ old) = Unit {0}

limits_judged : (old : List ToldStep) (voltage current watts : ℕ) (taken : Bool) (past : List Seen) → seen_in old ≡ Did (Give (order.Limits voltage current watts)) taken ∷ past → LimitsRead old → is_judged old ≡ true
limits_judged [] voltage current watts taken past same read = cc
limits_judged (told.Hears at event ∷ old) voltage current watts taken past same read = cc
limits_judged (told.Does r (Give order.Open) t ∷ old) voltage current watts taken past same read = cc
limits_judged (told.Does r (Give order.Close) t ∷ old) voltage current watts taken past same read = cc
limits_judged (told.Does r (Give (order.Limits v c w)) t ∷ old) voltage current watts taken past same read = ap (λ (b : Bool). b || is_judged old) read
limits_judged (told.Does r (Send bytes) t ∷ old) voltage current watts taken past same read = cc
limits_judged (told.Does r (Answer bytes) t ∷ old) voltage current watts taken past same read = cc
limits_judged (told.Does r (End cause) t ∷ old) voltage current watts taken past same read = cc
limits_judged (told.Sends r bytes t said ∷ old) voltage current watts taken past same read = cc

-- behind a sending that failed nothing is ordered
abbrev pub SentWell : List Step → State → Type 0
SentWell [] s = Unit {0}
SentWell (Hears at event ∷ steps) s = Unit {0}
SentWell (Does r (Give o) taken ∷ steps) s = Unit {0}
SentWell (Does r (Send bytes) true ∷ steps) s = Unit {0}
SentWell (Does r (Send bytes) false ∷ steps) s = s.agenda.order ≡ None
SentWell (Does r (Answer bytes) taken ∷ steps) s = Unit {0}
SentWell (Does r (End cause) taken ∷ steps) s = Unit {0}

failed_must : (r : Option Reading) (o : Order) (steps : List Step) → (o ≡ order.Open) ⊎ (o ≡ order.Close) → IsMust (Does r (Give o) false ∷ steps)
failed_must r order.Open steps h = refl
failed_must r order.Close steps h = refl
failed_must r (order.Limits voltage current watts) steps (inl h) = cc
failed_must r (order.Limits voltage current watts) steps (inr h) = cc

-- behind a negotiation that matched nothing the contactor isn't live
some_cause : {A : Type 0} (k : EndCause) → None ≡ Some k → A
some_cause k h = cc

word_unlive : (c : Codecs) (plan : PostPlan) (steps : List Step) (ss : Session) (p : Wanted) (i : (n : ℕ) × IsWanted (decided plan (state plan steps)) ss n p) (x : Judged) (shown : ℕ) (k : EndCause) → All c plan steps → (decided plan (state plan steps)).session ≡ Some ss
    → Judges c plan.dialects.items p.dialect p.bytes x → (judged plan (decided plan (state plan steps)) ss x shown).agenda.behind_reply ≡ Some k → (decided plan (state plan steps)).live ≡ true → ⊥
word_unlive c plan steps ss p i (Negotiated chosen response) shown k all e j h on = negotiates_unlive c plan (state plan steps) ss i.0 p chosen response (steps_open c plan steps all.back all.laws.run) e i.1 j on
word_unlive c plan steps ss p i (Asked r) shown k all e j h on = some_cause k h
word_unlive c plan steps ss p i WrongSide shown k all e j h on = some_cause k h
word_unlive c plan steps ss p i Refused shown k all e j h on = some_cause k h

judged_live : (plan : PostPlan) (s : State) (ss : Session) (x : Judged) (shown : ℕ) → (judged plan s ss x shown).live ≡ s.live
judged_live plan s ss (Negotiated chosen response) shown = refl
judged_live plan s ss (Asked r) shown = refl
judged_live plan s ss WrongSide shown = refl
judged_live plan s ss Refused shown = refl

taken_unlive : (c : Codecs) (plan : PostPlan) (steps : List Step) (kept : Option Session) (p : Wanted) (r : Reading) (k : EndCause) → All c plan steps → (decided plan (state plan steps)).session ≡ kept → WantedIn (decided plan (state plan steps)) kept p
    → Judges c plan.dialects.items p.dialect p.bytes r.judged → (taken_in plan (decided plan (state plan steps)) kept r).agenda.behind_reply ≡ Some k → (taken_in plan (decided plan (state plan steps)) kept r).live ≡ true → ⊥
taken_unlive c plan steps None p r k all e i j h on = absurd i
taken_unlive c plan steps (Some ss) p r k all e i j h on = word_unlive c plan steps ss p i r.judged r.shown k all e j h (sym (judged_live plan (decided plan (state plan steps)) ss r.judged r.shown) ∙ on)

filled_unlive : (c : Codecs) (plan : PostPlan) (S : ℕ → ℕ → Type 0) (steps : List Step) (r : Option Reading) (w : Option Wanted) (k : EndCause) → All c plan steps → wanted (decided plan (state plan steps)) ≡ w → IsRead c plan S (decided plan (state plan steps)) w r
    → (filled plan r (state plan steps)).agenda.behind_reply ≡ Some k → (filled plan r (state plan steps)).live ≡ true → ⊥
filled_unlive c plan S steps None w k all e i h on = some_cause k (sym (decided_plain plan (state plan steps) (steps_clean c plan steps all.laws.run)).0 ∙ h)
filled_unlive c plan S steps (Some r) None k all e i h on = absurd i
filled_unlive c plan S steps (Some r) (Some p) k all e i h on =
    taken_unlive c plan steps (decided plan (state plan steps)).session p r k all refl (wanted_in (decided plan (state plan steps)) p e) i.0 h on

said_order : (b : Option EndCause) (kept : Option Session) (a : Agenda) (on : Bool) (o : Order) → a.order ≡ None → (agenda_said b kept a on).order ≡ Some o → (on ≡ true) × ((k : EndCause) × (b ≡ Some k))
said_order None kept a on o n h = none_given o (sym n ∙ h)
said_order (Some k) kept a on o n h = let x = in_order kept k on o h in (x.1.0, (k, refl))

left_not : (c : ToldCodecs) (plan : PostPlan) (old : List ToldStep) (steps : List Step) (w : Judged) → Known c plan old steps → LimitsRead old → SentWell steps (state plan steps) → IsJudged c plan old (Give order.Open) w → (state plan steps).agenda.order ≡ Some order.Open → ⊥
left_not c plan old [] w known limits sent j h = none_given order.Open h
left_not c plan old (Hears at e ∷ steps) w known limits sent j h = none_given order.Open h
left_not c plan old (Does r (Give o) true ∷ steps) w known limits sent j h = none_given order.Open h
left_not c plan old (Does r (Give order.Open) false ∷ steps) w known limits sent j h = must_not c plan old (Does r (Give order.Open) false ∷ steps) w known.same (failed_must r order.Open steps (inl refl)) j
left_not c plan old (Does r (Give order.Close) false ∷ steps) w known limits sent j h = must_not c plan old (Does r (Give order.Close) false ∷ steps) w known.same (failed_must r order.Close steps (inr refl)) j
left_not c plan old (Does r (Give (order.Limits voltage current watts)) false ∷ steps) w known limits sent j h =
    judged_not c plan old (Give order.Open) w (limits_judged old voltage current watts false (map seen_of steps) known.same limits) j
left_not c plan old (Does r (Send bytes) false ∷ steps) w known limits sent j h = none_given order.Open (sym sent ∙ h)
left_not c plan old (Does r (Send bytes) true ∷ steps) w known limits sent j h =
    let f = filled plan r (state plan steps) in
    let all = known.all in
    let acts = all.laws.run.1.3 in
    let todo = say_todo c.words acts.todo bytes true acts.done in
    let n = (say_is f.agenda.datagram f.agenda.order f.agenda.reply f.agenda.ending todo.0 (acts.acts ∙ ap Some todo.1)).1 in
    let k = said_order f.agenda.behind_reply f.session f.agenda f.live order.Open n h in
    let before = acted_all c.words plan r (Send bytes) true steps all in
    filled_unlive c.words plan (Shows all.laws.run.1.0 all.laws.run.1.1 all.laws.run.1.2) steps r (wanted (decided plan (state plan steps))) k.1.0 before refl acts.read k.1.1 k.0
left_not c plan old (Does r (Answer d) taken ∷ steps) w known limits sent j h =
    let all = known.all in
    let acts = all.laws.run.1.3 in
    let f = filled plan r (state plan steps) in
    let e = answer_unread c.words plan (Shows all.laws.run.1.0 all.laws.run.1.1 all.laws.run.1.2) (state plan steps) r d taken acts in
    let t = tell_is f.agenda.datagram f.agenda.order f.agenda.reply f.agenda.ending d (acts.acts ∙ ap Some (tell_todo c.words acts.todo d taken acts.done)) in
    let plain = subst (λ (q : Option Reading). Plain (filled plan q (state plan steps)).agenda) (sym e) (decided_plain plan (state plan steps) (steps_clean c.words plan steps all.laws.run.0)) in
    none_given order.Open (sym (plain.1 d t) ∙ h)
left_not c plan old (Does r (End cause) taken ∷ steps) w known limits sent j h = none_given order.Open h

open_not : (c : ToldCodecs) (plan : PostPlan) (old : List ToldStep) (steps : List Step) (w : Judged) (b : Bool) → is_done (state plan steps).agenda ≡ b → Known c plan old steps → AreAlike (map seen_of steps) (told_course plan old) (course plan steps) → LimitsRead old → SentWell steps (state plan steps)
    → (decided plan (state plan steps)).agenda.order ≡ Some order.Open → IsJudged c plan old (Give order.Open) w → ⊥
open_not c plan old steps w true d known alike limits sent h j = done_not c plan old steps w known alike d j h
open_not c plan old steps w false d known alike limits sent h j = left_not c plan old steps w known limits sent j (sym (ap (λ (t : State). t.agenda.order) (decided_not plan (state plan steps) d)) ∙ h)

-- ---- a reply that is sent without a word

-- it was owed, and its word was judged then
abbrev pub IsOwed : List ToldStep → State → Type 0
IsOwed old s = is_some s.agenda.reply ≡ true → is_judged old ≡ true

abbrev IsWaiting : Option Session → Type 0
IsWaiting None = ⊥
IsWaiting (Some ss) = is_waiting ss.stage.row ≡ true

abbrev Confirms : State → Type 0
Confirms t = is_some t.agenda.reply ≡ true → IsWaiting t.session

silent_by : {A : Type 0} (r : Option Spoken) → r ≡ None → is_some r ≡ true → A
silent_by r n h = differ (is_some r) h (ap is_some n)

and_left : (a b : Bool) → a && b ≡ true → a ≡ true
and_left true b h = refl
and_left false b h = cc

confirms_by : (b : Bool) (spoken : Spoken) → is_some (if b then record nothing { reply = Some spoken } else nothing).reply ≡ true → b ≡ true
confirms_by true spoken h = refl
confirms_by false spoken h = cc

charges_wait : (plan : PostPlan) (ss : Session) (event : PlantEvent) (s : State) (cause : Option EndCause) → is_some (charging_by cause (confirming plan ss event s) s.live).reply ≡ true → is_waiting ss.stage.row ≡ true
charges_wait plan ss event s (Some k) h = cc
charges_wait plan ss event s None h = and_left (is_waiting ss.stage.row) (confirms event) (confirms_by (is_waiting ss.stage.row && confirms event) _ h)

charging_waits : (plan : PostPlan) (kept : Option Session) (event : PlantEvent) (s : State) → is_some (charging plan kept event s).reply ≡ true → IsWaiting kept
charging_waits plan None event s h = cc
charging_waits plan (Some ss) event s h = charges_wait plan ss event s (plant_cause (watch plan ss s) event) h

events_wait : (plan : PostPlan) (e : Event) (s : State) → is_some (eventing plan e s).reply ≡ true → IsWaiting s.session
events_wait plan (Came token) s h = silent_by (eventing plan (Came token) s).reply (ending_silent s.session _ s.live) h
events_wait plan (Bytes bytes) s h = cc
events_wait plan Gone s h = silent_by (eventing plan Gone s).reply (ending_silent s.session _ s.live) h
events_wait plan (Datagram bytes) s h = cc
events_wait plan (Plant event) s h = charging_waits plan s.session event s h
events_wait plan Clock s h = cc
events_wait plan Over s h = silent_by (eventing plan Over s).reply (ending_silent s.session _ s.live) h

confirming_waits : (plan : PostPlan) (s : State) → is_done s.agenda ≡ true → Confirms (decided plan s)
confirming_waits plan s d =
    decided_by Confirms plan s (λ x. record {
      repeats = silent_by (repeating s.facts.contactor).reply (repeating_silent s.facts.contactor);
      times = silent_by (timing s.session s.clock s.live).reply (timing_silent s.session s.clock s.live);
      events = events_wait plan s.event s;
      fronts = silent_by (fronting s.session s.live).reply (fronting_silent s.session s.live);
    }) (silent_by s.agenda.reply (done_empty s.agenda d).reply)

waits_by : (es : List Seen) (lives : Option (List Seen)) (kept : Option Session) → lives ≡ Some es → IsSessionOf lives kept → IsWaiting kept → waits es ≡ true
waits_by es None kept l i w = cc
waits_by es (Some zs) None l i w = absurd w
waits_by es (Some zs) (Some ss) l i w = let y : zs ≡ es = cc in sym (ap waits y) ∙ sym i.waiting_is ∙ w

send_not : (c : ToldCodecs) (plan : PostPlan) (old : List ToldStep) (steps : List Step) (bytes : List ℕ) (w : Judged) (b : Bool) → is_done (state plan steps).agenda ≡ b → Known c plan old steps → IsOwed old (state plan steps)
    → is_some (decided plan (state plan steps)).agenda.reply ≡ true → IsJudged c plan old (Send bytes) w → ⊥
send_not c plan old steps bytes w true d known owed h j =
    let s = state plan steps in
    let waiting = subst IsWaiting (same_session plan s) (confirming_waits plan s d h) in
    let e = waits_by j.next.es (session (map seen_of steps)) s.session (sym (ap session known.same) ∙ j.next.hearing.session_is) (done_session c.words plan steps known.all.laws.run d) waiting in
    differ (waits j.next.es) e j.free
send_not c plan old steps bytes w false d known owed h j =
    judged_not c plan old (Send bytes) w (owed (sym (ap (λ (t : State). is_some t.agenda.reply) (decided_not plan (state plan steps) d)) ∙ h)) j

-- ---- so nothing is read for an act

is_open : (o : Order) → o ≡ order.Open → (c : ToldCodecs) (plan : PostPlan) (old : List ToldStep) (w : Judged) → IsJudged c plan old (Give o) w → IsJudged c plan old (Give order.Open) w
is_open o e c plan old w j = subst (λ (x : Order). IsJudged c plan old (Give x) w) e j

unjudged : (c : ToldCodecs) (plan : PostPlan) (S : ℕ → ℕ → Type 0) (old : List ToldStep) (steps : List Step) (a : Act) (taken : Bool) (w : Judged) → Known c plan old steps → AreAlike (map seen_of steps) (told_course plan old) (course plan steps) → LimitsRead old → SentWell steps (state plan steps) → IsOwed old (state plan steps)
    → Acts c.words plan S (state plan steps) None a taken → IsJudged c plan old a w → ⊥
unjudged c plan S old steps (Give o) taken w known alike limits sent owed acts j =
    let f = decided plan (state plan steps) in
    let has : f.agenda.order ≡ Some o = give_is f.agenda.datagram f.agenda.order f.agenda.reply f.agenda.ending o (acts.acts ∙ ap Some (give_todo c.words acts.todo o taken acts.done)) in
    let e = unread_opens c.words plan steps known.all o has in
    open_not c plan old steps w (is_done (state plan steps).agenda) refl known alike limits sent (has ∙ ap Some e) (is_open o e c plan old w j)
unjudged c plan S old steps (Send bytes) taken w known alike limits sent owed acts j =
    let f = decided plan (state plan steps) in
    let todo = say_todo c.words acts.todo bytes taken acts.done in
    let r = (say_is f.agenda.datagram f.agenda.order f.agenda.reply f.agenda.ending todo.0 (acts.acts ∙ ap Some todo.1)).0 in
    send_not c plan old steps bytes w (is_done (state plan steps).agenda) refl known owed (ap is_some r) j
unjudged c plan S old steps (Answer bytes) taken w known alike limits sent owed acts j = j.judges
unjudged c plan S old steps (End cause) taken w known alike limits sent owed acts j = j.judges

pub unread_told : (c : ToldCodecs) (plan : PostPlan) (S St : ℕ → ℕ → Type 0) (old : List ToldStep) (steps : List Step) (a : Act) (taken : Bool) (r : Option Reading) → Known c plan old steps → AreAlike (map seen_of steps) (told_course plan old) (course plan steps) → LimitsRead old → SentWell steps (state plan steps)
    → IsOwed old (state plan steps) → Acts c.words plan S (state plan steps) None a taken → IsReading c St plan old a r → r ≡ None
unread_told c plan S St old steps a taken None known alike limits sent owed acts i = refl
unread_told c plan S St old steps a taken (Some x) known alike limits sent owed acts i = absurd (unjudged c plan S old steps a taken x.judged known alike limits sent owed acts i.0)
