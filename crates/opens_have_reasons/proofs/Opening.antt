-- What may be ordered of what was decided before, and what a cause that was decided in a hearing comes from.
use Rattle.std.proofs.Common.{◌≡◌, ◌≤◌, ◌<◌, ℕ, Bool, true, false, if◌then◌else◌, ◌&&◌, nat_le, nat_lt, cond, List, [], ◌∷◌, map, Option, Some, None, is_some, Result, Ok, Err, refl, sym, ap, subst, ◌∙◌, inl, inr, ◌⊎◌, arith}
use Rattle.std.proofs.lemmas.Bool.Decides.{nat_tests}
use Rattle.charge_world.specs.declared.heard.PlantEvent.{PlantEvent}
use Rattle.charge_world.specs.declared.ports.Order.{Order}
use Rattle.charge_world.specs.declared.ports.Order.TheVariants as order
use Rattle.charge_world.specs.declared.offer.Dialect.{Dialect}
use Rattle.session_words.specs.declared.cause.EndCause.{EndCause}
use Rattle.session_words.specs.declared.cause.EndCause.TheVariants.{BadFrame, Impatient}
use Rattle.session_words.specs.declared.phase.Standing.{Standing}
use Rattle.session_words.specs.declared.phase.Standing.TheVariants as standing
use Rattle.session_words.specs.declared.plan.PostPlan.{PostPlan}
use Rattle.session_words.specs.Causes.{cause_of}
use Rattle.session_timers.specs.Due.{never}
use Rattle.v2gtp_frames.specs.declared.FrameFault.{FrameFault}
use Rattle.v2gtp_frames.specs.Reading.{whole_at, behind_frames}
use Rattle.session_rules.specs.declared.causes.Found.{Found}
use Rattle.session_rules.specs.declared.causes.Found.TheVariants as found
use Rattle.session_rules.specs.declared.causes.Watch.{Watch}
use Rattle.session_rules.specs.Causes.{plant_cause, word_cause}
use Rattle.session_rules.specs.Deadlines.{timeout_of}
use Rattle.session_rules.specs.Stages.{is_waiting}
use Rattle.contactor.specs.Standing.{Kind, Close, Open, last_order, feedback_since, standing_by}
use Rattle.contactor.specs.Standing as contactor
use Rattle.post_spec.specs.Causes.{IsCause, IsTold, HasLeft, HasCome as HasArrived, IsOver, HasNotSent, HasNoMatch, IsWord, found_word}
use Rattle.post_spec.specs.Causes as causes
use Rattle.post_spec.specs.Codecs.{Codecs}
use Rattle.post_spec.specs.Contactors.{contactor_acts, live, with_feedback, feedback_in}
use Rattle.post_spec.specs.Contactors as contactors
use Rattle.post_spec.specs.Course.{Talked, course}
use Rattle.post_spec.specs.Facts.{now, told_by}
use Rattle.post_spec.specs.Sessions.{session, stream, waits}
use Rattle.post_spec.specs.Spelled.{ReadsBack, AreDetermined, JudgesAll}
use Rattle.post_spec.specs.Steps.{Event, Came as Arrives, Bytes, Gone, Datagram, Plant, Clock, Over, Act, Seen, Reading, Step, Hears, Does, seen_of}
use Rattle.post_spec.specs.Words.{HeardWord, Fault}
use Rattle.station_spec.specs.States.{Agenda, Session, State, Spoken, nothing, is_done}
use Rattle.station_spec.specs.Deciding.{opening_if, ending_by, ending_in, repeating, timing, watch, confirming, charging_by, charging, eventing, fronting_by, fronting, due, is_reached, decided}
use Rattle.station_spec.specs.Deciding as deciding
use Rattle.station_spec.specs.Acting.{failing, state}
use Rattle.station_laws.specs.PostRuns.{IsPostRun}
use Rattle.station_laws.proofs.Contactors.{contactors_are_read}
use Rattle.read_runs.specs.Courses.{talked_of, talked_in}
use Rattle.read_runs.proofs.Agendas.{done_empty}
use Rattle.read_runs.proofs.Courses.{courses_are_read}
use Rattle.read_runs.proofs.Facts.{facts_are_read}
use Rattle.read_sessions.specs.Sessions.{words_read, IsSession, IsSessionOf}
use Rattle.read_sessions.proofs.Streams.{done_session}
use Rattle.safe_runs.proofs.Links.{Premise, Link, Tie}
use Rattle.safe_runs.proofs.Safety.{run_linked}
use Rattle.safe_runs.specs.Opening.{HasFailed}
use Rattle.coming_causes_open.specs.Causing.{Repeats}
use Rattle.coming_causes_open.proofs.Opens.{as_told}
use Rattle.coming_causes_open.proofs.Spoken.{FaultAt, PayloadAt, word_at}
use Rattle.served_sessions.proofs.Bytes.{AreHeard, stream_octets}
use Rattle.standing_causes_open.specs.Standing.{HasCome, CameBefore}
use Rattle.standing_causes_open.proofs.Coming.{Laws, acted_laws, heard_laws, late_came, cause_came}
use Rattle.opens_have_reasons.proofs.Judging.{Placed, placed, Following, following}

abbrev pub Came : Codecs → PostPlan → List Step → Type 0
Came c plan steps = HasCome c plan steps ⊎ CameBefore c plan steps

-- what is known of the codecs and of the steps of a post
pub record All (c : Codecs) (plan : PostPlan) (steps : List Step) : Type 0 where
  pub back : ReadsBack c
  pub det : AreDetermined c
  pub judges : JudgesAll c
  pub laws : Laws c plan steps
  pub heard : AreHeard (map seen_of steps)

pub acted_all : (c : Codecs) (plan : PostPlan) (r : Option Reading) (a : Act) (taken : Bool) (steps : List Step) → All c plan (Does r a taken ∷ steps) → All c plan steps
acted_all c plan r a taken steps l = record { back = l.back; det = l.det; judges = l.judges; laws = acted_laws c plan r a taken steps l.laws; heard = l.heard }

pub heard_all : (c : Codecs) (plan : PostPlan) (at : ℕ) (e : Event) (steps : List Step) → All c plan (Hears at e ∷ steps) → All c plan steps
heard_all c plan at e steps l = record { back = l.back; det = l.det; judges = l.judges; laws = heard_laws c plan at e steps l.laws; heard = l.heard.0 }

-- A session that a post keeps is one of the past.

some_es : (o : Option (List Seen)) → is_some o ≡ true → (es : List Seen) × (o ≡ Some es)
some_es None h = cc
some_es (Some es) h = (es, refl)

pub lives_in : (plan : PostPlan) (steps : List Step) → is_some (state plan steps).session ≡ true → (es : List Seen) × (session (map seen_of steps) ≡ Some es)
lives_in plan steps h = some_es (session (map seen_of steps)) (sym (facts_are_read plan steps).session_is ∙ h)

-- Open alone, and only where a session ends while the contactor is live.

pub open_if : (on : Bool) (o : Order) → opening_if on ≡ Some o → (o ≡ order.Open) × (on ≡ true)
open_if true o h = (cc, refl)
open_if false o h = cc

pub in_order : (kept : Option Session) (cause : EndCause) (on : Bool) (o : Order) → (ending_in kept cause on).order ≡ Some o → (o ≡ order.Open) × ((on ≡ true) × (is_some kept ≡ true))
in_order None cause on o h = cc
in_order (Some ss) cause on o h = let x = open_if on o h in (x.0, (x.1, refl))

pub failing_order : (e : Option EndCause) (kept : Option Session) (cause : EndCause) (on : Bool) (o : Order) → (failing e kept cause on).order ≡ Some o → (o ≡ order.Open) × (is_some kept ≡ true)
failing_order None kept cause on o h = let x = in_order kept cause on o h in (x.0, x.1.1)
failing_order (Some k) kept cause on o h = cc

-- The deadline.

reached_by : (m n k : ℕ) → (nat_le m n && nat_lt m k) ≡ true → (m ≤ n) × (m < k)
reached_by m n k h = (grind (arith, nat_tests), grind (arith, nat_tests))

timed : (b : Bool) (k : EndCause) (on : Bool) → is_done (if b then ending_by k on else nothing) ≡ false → b ≡ true
timed true k on h = refl
timed false k on h = cc

timing_in : (c : Codecs) (plan : PostPlan) (steps : List Step) (lives : Option (List Seen)) (kept : Option Session) (at : ℕ) (on : Bool) → All c plan steps → session (map seen_of steps) ≡ lives → talked_in kept ≡ (course plan steps).session → now (map seen_of steps) ≡ at → IsSessionOf lives kept
    → is_done (timing kept at on) ≡ false → Came c plan steps
timing_in c plan steps lives None at on all l k n i h = cc
timing_in c plan steps None (Some ss) at on all l k n i h = absurd i
timing_in c plan steps (Some es) (Some ss) at on all l k n i h =
    let r : is_reached (due ss) at ≡ true = timed (is_reached (due ss) at) (cause_of (timeout_of ss.stage.row)) on h in
    let b = reached_by (due ss) at never r in
    late_came c plan steps all.laws.late (record {
      t = talked_of ss;
      es = es;
      course_is = sym k;
      session_is = l;
      reached = subst (λ (m : ℕ). m ≤ now (map seen_of steps)) i.due_is (subst (λ (m : ℕ). due ss ≤ m) (sym n) b.0);
      bound = subst (λ (m : ℕ). m < never) i.due_is b.1;
    })

pub timing_came : (c : Codecs) (plan : PostPlan) (steps : List Step) → All c plan steps → is_done (state plan steps).agenda ≡ true → is_done (timing (state plan steps).session (state plan steps).clock (state plan steps).live) ≡ false → Came c plan steps
timing_came c plan steps all d h =
    timing_in c plan steps (session (map seen_of steps)) (state plan steps).session (state plan steps).clock (state plan steps).live all refl (courses_are_read c plan steps all.laws.run).session_is (sym (facts_are_read plan steps).clock_is) (done_session c plan steps all.laws.run d) h

pub done_order : (a : Agenda) → is_done a ≡ true → a.order ≡ Some order.Open → ⊥
done_order a d h = let e = done_empty a d in let x : None ≡ Some order.Open = sym e.order ∙ h in cc

pub timing_open : (kept : Option Session) (at : ℕ) (on : Bool) (b : Bool) → is_done (timing kept at on) ≡ b → (timing kept at on).order ≡ Some order.Open → b ≡ false
timing_open kept at on false e h = refl
timing_open kept at on true e h = absurd (done_order (timing kept at on) e h)

-- The frame at the front.

front_some : (f : Result (Option ℕ) FrameFault) (w on : Bool) → (fronting_by f w on).order ≡ Some order.Open → f ≡ Ok None → ⊥
front_some (Err fault) w on h e = cc
front_some (Ok None) w on h e = cc
front_some (Ok (Some n)) w on h e = cc

front_fault : (f : Result (Option ℕ) FrameFault) (w on : Bool) → w ≡ false → (fronting_by f w on).order ≡ Some order.Open → (fault : FrameFault) × (f ≡ Err fault)
front_fault (Err fault) w on e h = (fault, refl)
front_fault (Ok None) w on e h = cc
front_fault (Ok (Some n)) true on e h = cc
front_fault (Ok (Some n)) false on e h = cc

waiting_cause : (x : Found) → (k : EndCause) × (word_cause true x ≡ Some k)
waiting_cause found.BadFrame = (BadFrame, refl)
waiting_cause x = (Impatient, refl)

fault_cause : (w : Bool) → word_cause w found.BadFrame ≡ Some BadFrame
fault_cause true = refl
fault_cause false = refl

is_fault_at : (c : Codecs) (offers : List Dialect) (bytes : List ℕ) (n : ℕ) (d : Option Dialect) (fault : FrameFault) (word : HeardWord) → whole_at (behind_frames n bytes) ≡ Err fault → FaultAt bytes n word ⊎ PayloadAt c offers bytes n d word → (x : FrameFault) × (word ≡ Fault x)
is_fault_at c offers bytes n d fault word e (inl x) = (x.fault, x.word_is)
is_fault_at c offers bytes n d fault word e (inr x) = absurd (let y : Err fault ≡ Ok (Some x.at.count) = sym e ∙ x.at.whole in cc)

front_cause : (c : Codecs) (plan : PostPlan) (steps : List Step) (es : List Seen) (ss : Session) (on b : Bool) → All c plan steps → IsSession es ss → (p : Placed c plan.dialects.items es) → (f : Following c plan.dialects.items es) → waits es ≡ b → (fronting_by (whole_at ss.unread) (is_waiting ss.stage.row) on).order ≡ Some order.Open
    → (k : EndCause) × (word_cause (waits es) (found_word (talked_of ss) (map seen_of steps) (course plan steps) plan f.word) ≡ Some k)
front_cause c plan steps es ss on true all i p f w h =
    let x = waiting_cause (found_word (talked_of ss) (map seen_of steps) (course plan steps) plan f.word) in
    (x.0, subst (λ (b : Bool). word_cause b (found_word (talked_of ss) (map seen_of steps) (course plan steps) plan f.word) ≡ Some x.0) (sym w) x.1)
front_cause c plan steps es ss on false all i p f w h =
    let x = front_fault (whole_at ss.unread) (is_waiting ss.stage.row) on (i.waiting_is ∙ w) h in
    let at : whole_at (behind_frames (words_read es) (stream es)) ≡ Err x.0 = sym (ap whole_at i.unread_is) ∙ x.1 in
    let y = is_fault_at c plan.dialects.items (stream es) (words_read es) p.d x.0 f.word at (word_at c plan.dialects.items (stream es) f.words f.rest (words_read es) p.d f.word all.det f.heard p.dialect f.next) in
    (BadFrame, subst (λ (z : HeardWord). word_cause (waits es) (found_word (talked_of ss) (map seen_of steps) (course plan steps) plan z) ≡ Some BadFrame) (sym y.1) (fault_cause (waits es)))

front_placed : (c : Codecs) (plan : PostPlan) (past es : List Seen) (ending : Option EndCause) (reply : Option Spoken) (behind : Option EndCause) (V : Type 0) (lives : Option (List Seen)) (ss : Session) → ending ≡ None → reply ≡ None → session past ≡ lives → lives ≡ Some es → IsSession es ss
    → Tie c plan past ending lives (Some ss) reply behind V → Placed c plan.dialects.items es
front_placed c plan past es (Some k) reply behind V lives ss e r h l i t = cc
front_placed c plan past es None (Some x) behind V lives ss e r h l i t = cc
front_placed c plan past es None None behind V None ss e r h l i t = absurd t
front_placed c plan past es None None behind V (Some zs) ss e r h l i t =
    let y : zs ≡ es = cc in
    placed c plan past es ss behind V (h ∙ l) i (subst (λ (us : List Seen). Link c plan past us ss.stage ss.unread None behind V) y t)

front_in : (c : Codecs) (plan : PostPlan) (steps : List Step) (lives : Option (List Seen)) (kept : Option Session) (on : Bool) → All c plan steps → is_done (state plan steps).agenda ≡ true → live (map seen_of steps) ≡ true → session (map seen_of steps) ≡ lives → (state plan steps).session ≡ kept → IsSessionOf lives kept
    → (fronting kept on).order ≡ Some order.Open → Came c plan steps
front_in c plan steps lives None on all d o l k i h = cc
front_in c plan steps None (Some ss) on all d o l k i h = absurd i
front_in c plan steps (Some es) (Some ss) on all d o l k i h =
    let past = map seen_of steps in
    let s = state plan steps in
    let e = done_empty (state plan steps).agenda d in
    let linked = run_linked c plan steps all.back all.laws.run in
    let tie = subst (λ (x : Option Session). Tie c plan (map seen_of steps) (state plan steps).agenda.ending (session (map seen_of steps)) x (state plan steps).agenda.reply (state plan steps).agenda.behind_reply (Premise (state plan steps).part (state plan steps).event)) k linked.tie in
    let p = front_placed c plan (map seen_of steps) es (state plan steps).agenda.ending (state plan steps).agenda.reply (state plan steps).agenda.behind_reply (Premise (state plan steps).part (state plan steps).event) (session (map seen_of steps)) ss e.ending e.reply refl l i tie in
    let f = following c plan.dialects.items es all.det all.judges (stream_octets (map seen_of steps) es all.heard l) p
    (λ n. front_some (whole_at ss.unread) (is_waiting ss.stage.row) on h (ap whole_at i.unread_is ∙ n)) in
    let k2 = front_cause c plan steps es ss on (waits es) all i p f refl h in
    let led : (course plan steps).session ≡ Some (talked_of ss) = sym (courses_are_read c plan steps all.laws.run).session_is ∙ ap talked_in k in
    cause_came c plan steps k2.0 (IsWord steps (talked_of ss) es f.words f.rest f.word k2.0 led l f.heard f.next k2.1) all.laws o

pub front_came : (c : Codecs) (plan : PostPlan) (steps : List Step) → All c plan steps → is_done (state plan steps).agenda ≡ true → live (map seen_of steps) ≡ true → (fronting (state plan steps).session (state plan steps).live).order ≡ Some order.Open → Came c plan steps
front_came c plan steps all d o h = front_in c plan steps (session (map seen_of steps)) (state plan steps).session (state plan steps).live all d o refl refl (done_session c plan steps all.laws.run d) h

front_on : (f : Result (Option ℕ) FrameFault) (w on : Bool) → (fronting_by f w on).order ≡ Some order.Open → on ≡ true
front_on (Err fault) w on h = (open_if on order.Open h).1
front_on (Ok None) w on h = cc
front_on (Ok (Some n)) true on h = (open_if on order.Open h).1
front_on (Ok (Some n)) false on h = cc

pub front_live : (kept : Option Session) (on : Bool) → (fronting kept on).order ≡ Some order.Open → on ≡ true
front_live None on h = cc
front_live (Some ss) on h = front_on (whole_at ss.unread) (is_waiting ss.stage.row) on h

-- A contactor must open where its last order had failed.

closing_not : (b : Bool) → cond b standing.Closed standing.Closing ≡ standing.MustOpen → ⊥
closing_not true h = cc
closing_not false h = cc

must_by : (o : Option (Kind × Bool)) (heard : List Bool) → standing_by o heard ≡ standing.MustOpen → (kind : Kind) × (o ≡ Some (kind, false))
must_by None [] h = cc
must_by None (false ∷ heard) h = cc
must_by None (true ∷ heard) h = cc
must_by (Some (Close, true)) heard h = absurd (closing_not (contactor.confirms heard) h)
must_by (Some (Open, true)) [] h = cc
must_by (Some (Open, true)) (false ∷ heard) h = cc
must_by (Some (Open, true)) (true ∷ heard) h = cc
must_by (Some (Close, false)) heard h = (Close, refl)
must_by (Some (Open, false)) heard h = (Open, refl)

owed_failed : (past : List Seen) → contactors.standing past ≡ standing.MustOpen → HasFailed past
owed_failed past h = must_by (last_order (contactor_acts past)) (feedback_since (contactor_acts past)) h

-- What was heard.

confirms_not : (plan : PostPlan) (ss : Session) (event : PlantEvent) (s : State) (b : Bool) → (is_waiting ss.stage.row && deciding.confirms event) ≡ b → (confirming plan ss event s).order ≡ Some order.Open → ⊥
confirms_not plan ss event s true e h = let x = rw e at h in cc
confirms_not plan ss event s false e h = let x = rw e at h in cc

charged_needs : (plan : PostPlan) (ss : Session) (event : PlantEvent) (s : State) (o : Option EndCause) → (charging_by o (confirming plan ss event s) s.live).order ≡ Some order.Open → s.live ≡ true
charged_needs plan ss event s (Some k) h = (open_if s.live order.Open h).1
charged_needs plan ss event s None h = absurd (confirms_not plan ss event s (is_waiting ss.stage.row && deciding.confirms event) refl h)

charging_needs : (plan : PostPlan) (kept : Option Session) (event : PlantEvent) (s : State) → (charging plan kept event s).order ≡ Some order.Open → (s.live ≡ true) × (is_some kept ≡ true)
charging_needs plan None event s h = cc
charging_needs plan (Some ss) event s h = (charged_needs plan ss event s (plant_cause (watch plan ss s) event) h, refl)

told_cause : (plan : PostPlan) (ss : Session) (event : PlantEvent) (s : State) (o : Option EndCause) → plant_cause (watch plan ss s) event ≡ o → (charging_by o (confirming plan ss event s) s.live).order ≡ Some order.Open → (k : EndCause) × (plant_cause (watch plan ss s) event ≡ Some k)
told_cause plan ss event s (Some k) e h = (k, e)
told_cause plan ss event s None e h = absurd (confirms_not plan ss event s (is_waiting ss.stage.row && deciding.confirms event) refl h)

watch_is : (plan : PostPlan) (ss : Session) (s : State) (before : List Seen) (at : ℕ) → s.stood ≡ contactors.standing before → s.live ≡ live before → s.clock ≡ at → watch plan ss s ≡ causes.watch plan (talked_of ss) before (live before) at
watch_is plan ss s before at a b d = rw (a, b, d) refl

pub event_needs : (plan : PostPlan) (e : Event) (s : State) → (eventing plan e s).order ≡ Some order.Open → (s.live ≡ true) × (is_some s.session ≡ true)
event_needs plan (Arrives token) s h = (in_order s.session _ s.live order.Open h).1
event_needs plan (Bytes bytes) s h = cc
event_needs plan Gone s h = (in_order s.session _ s.live order.Open h).1
event_needs plan (Datagram bytes) s h = cc
event_needs plan (Plant event) s h = charging_needs plan s.session event s h
event_needs plan Clock s h = cc
event_needs plan Over s h = (in_order s.session _ s.live order.Open h).1

-- where an order to open is owed, that is what is repeated
told_as : (c : Codecs) (plan : PostPlan) (at : ℕ) (event : PlantEvent) (b : List Step) (t : Talked) (k : EndCause) → (course plan (Hears at (Plant event) ∷ b)).session ≡ Some t → plant_cause (causes.watch plan t (map seen_of b) (live (map seen_of b)) at) event ≡ Some k
    → Repeats (Hears at (Plant event) ∷ b) ⊎ HasCome c plan (Hears at (Plant event) ∷ b)
told_as c plan at event b t k led h = elim (as_told (contactors.standing (map seen_of b)) (live (map seen_of b))) [
  | inl owed ↦ inl (owed_failed (map seen_of b) owed)
  | inr same ↦ inr (record { cause = k; is = IsTold at event b t k led (subst (λ (on : Bool). plant_cause (causes.watch plan t (map seen_of b) on at) event ≡ Some k) (sym same) h); comes = tt })
]

told_in : (c : Codecs) (plan : PostPlan) (at : ℕ) (event : PlantEvent) (b : List Step) (kept : Option Session) → IsPostRun c plan (Hears at (Plant event) ∷ b) → (state plan (Hears at (Plant event) ∷ b)).session ≡ kept → (charging plan kept event (state plan (Hears at (Plant event) ∷ b))).order ≡ Some order.Open
    → Repeats (Hears at (Plant event) ∷ b) ⊎ HasCome c plan (Hears at (Plant event) ∷ b)
told_in c plan at event b None run k h = cc
told_in c plan at event b (Some ss) run k h =
    let s = state plan (Hears at (Plant event) ∷ b) in
    let x = told_cause plan ss event (state plan (Hears at (Plant event) ∷ b)) (plant_cause (watch plan ss (state plan (Hears at (Plant event) ∷ b))) event) refl h in
    let i = contactors_are_read plan b in
    let w = watch_is plan ss (state plan (Hears at (Plant event) ∷ b)) (map seen_of b) at i.standing_is i.live_is refl in
    let led : (course plan (Hears at (Plant event) ∷ b)).session ≡ Some (talked_of ss) = sym (courses_are_read c plan (Hears at (Plant event) ∷ b) run).session_is ∙ ap talked_in k in
    told_as c plan at event b (talked_of ss) x.0 led (sym (ap (λ (y : Watch). plant_cause y event) w) ∙ x.1)

pub heard_came : (c : Codecs) (plan : PostPlan) (at : ℕ) (e : Event) (b : List Step) → IsPostRun c plan (Hears at e ∷ b) → (eventing plan e (state plan (Hears at e ∷ b))).order ≡ Some order.Open → Repeats (Hears at e ∷ b) ⊎ HasCome c plan (Hears at e ∷ b)
heard_came c plan at (Arrives token) b run h = let l = lives_in plan (Hears at (Arrives token) ∷ b) (in_order (state plan (Hears at (Arrives token) ∷ b)).session _ _ order.Open h).1.1 in inr (record { cause = _; is = HasArrived at token b l.0 l.1; comes = tt })
heard_came c plan at (Bytes bytes) b run h = cc
heard_came c plan at Gone b run h = let l = lives_in plan (Hears at Gone ∷ b) (in_order (state plan (Hears at Gone ∷ b)).session _ _ order.Open h).1.1 in inr (record { cause = _; is = HasLeft at b l.0 l.1; comes = tt })
heard_came c plan at (Datagram bytes) b run h = cc
heard_came c plan at (Plant event) b run h = told_in c plan at event b (state plan (Hears at (Plant event) ∷ b)).session run refl h
heard_came c plan at Clock b run h = cc
heard_came c plan at Over b run h = let l = lives_in plan (Hears at Over ∷ b) (in_order (state plan (Hears at Over ∷ b)).session _ _ order.Open h).1.1 in inr (record { cause = _; is = IsOver at b l.0 l.1; comes = tt })

-- and so before the hearing
same_last : (o : Option Bool) (acts : List contactor.Act) → last_order (with_feedback o acts) ≡ last_order acts
same_last None acts = refl
same_last (Some closed) acts = refl

pub must_have : (plan : PostPlan) (at : ℕ) (e : Event) (b : List Step) → (state plan (Hears at e ∷ b)).facts.contactor ≡ standing.MustOpen → HasFailed (map seen_of b)
must_have plan at e b h =
    let acts = contactor_acts (map seen_of (Hears at e ∷ b)) in
    let here : standing_by (last_order (contactor_acts (map seen_of (Hears at e ∷ b)))) (feedback_since (contactor_acts (map seen_of (Hears at e ∷ b)))) ≡ standing.MustOpen = sym (contactors_are_read plan (Hears at e ∷ b)).standing_is ∙ h in
    let x = must_by (last_order (contactor_acts (map seen_of (Hears at e ∷ b)))) (feedback_since (contactor_acts (map seen_of (Hears at e ∷ b)))) here in
    (x.0, sym (same_last (told_by feedback_in e) (contactor_acts (map seen_of b))) ∙ x.1)

must_open : (st : Standing) → (repeating st).order ≡ Some order.Open → st ≡ standing.MustOpen
must_open standing.MustOpen h = refl
must_open standing.Opened h = cc
must_open standing.Closing h = cc
must_open standing.Closed h = cc
must_open standing.Opening h = cc

pub repeats_failed : (plan : PostPlan) (at : ℕ) (e : Event) (b : List Step) → (repeating (state plan (Hears at e ∷ b)).facts.contactor).order ≡ Some order.Open → HasFailed (map seen_of b)
repeats_failed plan at e b h = must_have plan at e b (must_open (state plan (Hears at e ∷ b)).facts.contactor h)
