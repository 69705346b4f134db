-- A hearing that goes well decides nothing but an answer to a datagram, or the reply that waited.
use Rattle.std.proofs.Common.{◌≡◌, ◌≤◌, ◌<◌, ℕ, ◌+◌, Bool, true, false, ◌&&◌, if◌then◌else◌, List, [], ◌∷◌, length, map, Option, Some, None, Result, Ok, Err, refl, sym, ap, subst, ◌∙◌, arith, inl, inr, ◌⊎◌}
use Rattle.std.proofs.lemmas.Grind.{common_steps}
use Rattle.std.specs.Option.{option_map}
use Rattle.charge_world.specs.declared.heard.PlantEvent.{PlantEvent}
use Rattle.charge_world.specs.declared.heard.PlantEvent.TheVariants as plant
use Rattle.charge_world.specs.declared.ports.Order.{Order}
use Rattle.charge_world.specs.declared.ports.Order.TheVariants as order
use Rattle.session_words.specs.declared.cause.EndCause.{EndCause}
use Rattle.session_words.specs.declared.phase.Standing.{Standing}
use Rattle.session_words.specs.declared.phase.Standing.TheVariants as stood
use Rattle.session_words.specs.declared.plan.PostPlan.{PostPlan}
use Rattle.session_words.specs.Causes.{cause_of}
use Rattle.session_words.specs.Modes.{phases_of}
use Rattle.v2gtp_frames.specs.declared.FrameFault.{FrameFault}
use Rattle.v2gtp_frames.specs.Reading.{whole_at, behind_frames}
use Rattle.session_rules.specs.declared.causes.Watch.{Watch}
use Rattle.session_rules.specs.Allowed.{allowed_watts}
use Rattle.session_rules.specs.Causes.{plant_cause}
use Rattle.session_rules.specs.Deadlines.{timeout_of}
use Rattle.session_rules.specs.Reply.{waiting_reply}
use Rattle.session_rules.specs.Stages.{is_waiting}
use Rattle.post_spec.specs.Causes as causes
use Rattle.post_spec.specs.Codecs.{Codecs}
use Rattle.post_spec.specs.Course.{Talked, course}
use Rattle.post_spec.specs.Contactors.{standing, live, live_behind, live_as_told}
use Rattle.post_spec.specs.Sessions.{arriving, session_behind, session, next_session, with_seen, stream, brought, replies, waits}
use Rattle.post_spec.specs.Steps.{Event, Came, Bytes, Gone, Datagram, Plant, Clock, Over, Act, Give, Seen, Heard, Did, Reading, Step, Hears, Does, seen_of}
use Rattle.station_spec.specs.States.{Spoken, Response, Said, Agenda, Part, Repeating, Timing, Eventing, Wording, Session, State, nothing, first_session, first, first_of, is_none, is_done}
use Rattle.station_spec.specs.States as states
use Rattle.station_spec.specs.Deciding.{ending_by, repeating, due, is_reached, timing, watch, confirms, confirming, charging_by, charging, eventing, fronting_by, fronting, decide, from_wording, from_eventing, from_timing, from_part, decided}
use Rattle.station_spec.specs.Hearing.{session_opened, with_bytes, hearing}
use Rattle.station_spec.specs.Judging.{Payload, wanted, filled, IsRead}
use Rattle.station_spec.specs.Acting.{since_order, acted, state}
use Rattle.station_spec.specs.Next.{IsQuiet, IsDone}
use Rattle.station_spec.specs.Sharing.{Shows}
use Rattle.station_laws.specs.PostRuns.{IsPostRun}
use Rattle.station_laws.proofs.Contactors.{contactors_are_read}
use Rattle.read_runs.specs.Courses.{talked_of, talked_in}
use Rattle.read_runs.proofs.Agendas.{decided_done, decided_not}
use Rattle.read_runs.proofs.Arrivals.{Arrives, steps_arrive}
use Rattle.read_runs.proofs.Courses.{courses_are_read}
use Rattle.read_runs.proofs.Facts.{steps_clock}
use Rattle.read_sessions.specs.Sessions.{IsSessionOf}
use Rattle.read_sessions.proofs.Keeping.{Free, Waiting, Link, Tie}
use Rattle.read_sessions.proofs.Streams.{waits_in, empty_tie, steps_tied, sessions_are_read}
use Rattle.conforming_runs.specs.Charger.{GoesWell}
use Rattle.conforming_runs.specs.Conforming.{StaysWell, HearsWell, OfSession, IsFramed, AreFramed, IsTaken, Conforming}
use Rattle.conforming_runs.proofs.Accepted.{events_end_nothing}
use Rattle.served_sessions.specs.Answered.{WaitsFor, IsConfirming, AwaitsReply}
use Rattle.served_sessions.proofs.Bytes.{AreOctets, AreHeard, no_fault, stream_octets}
use Rattle.served_sessions.proofs.Taken.{Conforms, more, behind_act, owed_on, owed_before, obeys}
use Rattle.served_sessions.proofs.Ready.{Stops, Others, Early, EarlyIn, Unsaid, IsOwed, opening, Ready, AtWords, Confirms, Decides}

true_false : {A : Type 0} (b : Bool) → b ≡ true → b ≡ false → A
true_false true h k = cc
true_false false h k = cc

none_close : None ≡ Some order.Close → ⊥
none_close h = cc

-- At the words: nothing is wrong with the frames.

front_still : (f : Result (Option ℕ) FrameFault) (live : Bool) → ((fault : FrameFault) → f ≡ Err fault → ⊥) → fronting_by f false live ≡ nothing
front_still (Err fault) live n = absurd (n fault refl)
front_still (Ok None) live n = refl
front_still (Ok (Some len)) live n = refl

front_link : (b : Bool) (es : List Seen) (ss : Session) (live : Bool) → is_waiting ss.stage.row ≡ b → AreOctets (stream es) → IsFramed es → Link None es ss.stage.row ss.since ss.unread None None
    → fronting_by (whole_at ss.unread) (is_waiting ss.stage.row) live ≡ nothing
front_link true es ss live w o f l =
    let g = l.stands in
    let h = waits_in (Waiting es g.taken ss.since None) (Free es g.taken ss.stage.row ss.since) (is_waiting ss.stage.row) w g.talk in
    elim h.closed [
      | inl x ↦ absurd (none_close x)
      | inr x ↦
          let n : g.taken ≡ length (replies es) + 1 = let k = h.count in omega (arith, k) in
          let e : whole_at ss.unread ≡ Ok None = ap whole_at (g.unread_is ∙ ap (λ (i : ℕ). behind_frames i (stream es)) n) ∙ f.alone x.0 in
          ap (λ (r : Result (Option ℕ) FrameFault). fronting_by r (is_waiting ss.stage.row) live) e
    ]
front_link false es ss live w o f l =
    let g = l.stands in
    ap (λ (b : Bool). fronting_by (whole_at ss.unread) b live) w
    ∙ front_still (whole_at ss.unread) live (λ fault e. no_fault g.taken (stream es) fault o g.whole f.right (sym (ap whole_at g.unread_is) ∙ e))

front_none : (lives : Option (List Seen)) (kept : Option Session) (live : Bool) → Tie None lives kept None None → ((es : List Seen) → lives ≡ Some es → AreOctets (stream es)) → AreFramed lives → fronting kept live ≡ nothing
front_none None None live t o f = refl
front_none None (Some ss) live t o f = absurd t
front_none (Some es) None live t o f = absurd t
front_none (Some es) (Some ss) live t o f = front_link (is_waiting ss.stage.row) es ss live refl (o es refl) f t

pub framed_of : (plan : PostPlan) (steps : List Step) → Conforms plan steps → AreFramed (session (map seen_of steps))
framed_of plan [] h = tt
framed_of plan (step ∷ steps) h = (more plan step steps h).framed

pub fronts_nothing : (c : Codecs) (plan : PostPlan) (steps : List Step) → IsPostRun c plan steps → Conforms plan steps → AreHeard (map seen_of steps) → is_done (state plan steps).agenda ≡ true
    → fronting (state plan steps).session (state plan steps).live ≡ nothing
fronts_nothing c plan steps run conf heard d =
    let past = map seen_of steps in
    let s = state plan steps in
    front_none (session past) s.session s.live (empty_tie past s d (steps_tied c plan steps run)) (λ es k. stream_octets past es heard k) (framed_of plan steps conf)

wording_same : (s : State) → fronting s.session s.live ≡ nothing → from_wording s ≡ s
wording_same s h = rw h refl

-- The session that a hearing finds.

pub record Finds (ss : Session) (es : List Seen) : Type 0 where
  pub due_is : due ss ≡ causes.due (Some (talked_of ss)) es
  pub waiting_is : is_waiting ss.stage.row ≡ waits es

abbrev pub Found : Option (List Seen) → Option Session → Type 0
Found None None = Unit {0}
Found None (Some ss) = ⊥
Found (Some es) None = ⊥
Found (Some es) (Some ss) = Finds ss es

found_session : (lives : Option (List Seen)) (kept : Option Session) → IsSessionOf lives kept → Found lives kept
found_session None None i = tt
found_session None (Some ss) i = i
found_session (Some es) None i = i
found_session (Some es) (Some ss) i = record { due_is = i.due_is; waiting_is = i.waiting_is }

found_by : (arrived : Option ℕ) (o : Option Seen) (at : ℕ) (lives : Option (List Seen)) (kept : Option Session) → Arrives arrived o at → IsSessionOf lives kept → Found (session_behind o lives) (session_opened arrived at kept)
found_by None None at lives kept a i = found_session lives kept i
found_by None (Some came) at lives kept a i = absurd a
found_by (Some token) None at lives kept a i = absurd a
found_by (Some token) (Some came) at lives kept a i =
    subst (λ (x : Seen). Finds (first_session token at) (x ∷ [])) (sym a) (record { due_is = refl; waiting_is = refl })

pub found : (c : Codecs) (plan : PostPlan) (steps : List Step) → IsPostRun c plan steps → IsQuiet plan (state plan steps)
    → Found (next_session (map seen_of steps)) (session_opened (state plan steps).arrived (state plan steps).clock (state plan steps).session)
found c plan steps run quiet =
    let past = map seen_of steps in
    let s = state plan steps in
    let arrives : Arrives s.arrived (arriving past) s.clock = subst (Arrives s.arrived (arriving past)) (sym (steps_clock plan steps)) (steps_arrive plan steps) in
    found_by s.arrived (arriving past) s.clock (session past) s.session arrives (sessions_are_read c plan steps run quiet)

-- what a hearing that goes well is for the session
abbrev pub WellIn : PostPlan → ℕ → Event → List Step → Option (List Seen) → Option Session → Type 0
WellIn plan at e steps lives None = Unit {0}
WellIn plan at e steps None (Some ss) = ⊥
WellIn plan at e steps (Some es) (Some ss) = Finds ss es × HearsWell plan at e steps (talked_of ss) es

well_in : (plan : PostPlan) (at : ℕ) (e : Event) (steps : List Step) (lives : Option (List Seen)) (kept : Option Session) → Found lives kept → OfSession (talked_in kept) lives (HearsWell plan at e steps) → WellIn plan at e steps lives kept
well_in plan at e steps lives None f h = tt
well_in plan at e steps None (Some ss) f h = f
well_in plan at e steps (Some es) (Some ss) f h = (f, h)

talked_bytes : (bytes : List ℕ) (kept : Option Session) → talked_in (option_map (with_bytes bytes) kept) ≡ talked_in kept
talked_bytes bytes None = refl
talked_bytes bytes (Some ss) = refl

well_now : (c : Codecs) (plan : PostPlan) (at : ℕ) (e : Event) (steps : List Step) → IsPostRun c plan (Hears at e ∷ steps) → Conforms plan (Hears at e ∷ steps)
    → WellIn plan at e steps (next_session (map seen_of steps)) (session_opened (state plan steps).arrived (state plan steps).clock (state plan steps).session)
well_now c plan at e steps run conf =
    let s = state plan steps in
    let kept = session_opened s.arrived s.clock s.session in
    let lives = next_session (map seen_of steps) in
    let h : talked_in kept ≡ (course plan (Hears at e ∷ steps)).session = sym (talked_bytes (brought e) kept) ∙ (courses_are_read c plan (Hears at e ∷ steps) run).session_is in
    well_in plan at e steps lives kept (found c plan steps run.0 run.1) (subst (λ (t : Option Talked). OfSession t lives (HearsWell plan at e steps)) (sym h) (more plan (Hears at e) steps conf).goes_on)

-- Nothing is due.

not_reached : (moment now : ℕ) → now < moment → is_reached moment now ≡ false
not_reached moment now h = grind (arith, common_steps)

timing_if : (b : Bool) (k : EndCause) (live : Bool) → b ≡ false → (if b then ending_by k live else nothing) ≡ nothing
timing_if true k live e = cc
timing_if false k live e = refl

timing_none : (plan : PostPlan) (at : ℕ) (e : Event) (steps : List Step) (lives : Option (List Seen)) (kept : Option Session) (bytes : List ℕ) (live : Bool) → WellIn plan at e steps lives kept → timing (option_map (with_bytes bytes) kept) at live ≡ nothing
timing_none plan at e steps lives None bytes live w = refl
timing_none plan at e steps None (Some ss) bytes live w = absurd w
timing_none plan at e steps (Some es) (Some ss) bytes live w =
    timing_if (is_reached (due ss) at) (cause_of (timeout_of ss.stage.row)) live (not_reached (due ss) at (let h = w.1.early in let d = w.0.due_is in subst (λ (n : ℕ). at < n) (sym d) h))

repeating_none : (st : Standing) → (st ≡ stood.MustOpen → ⊥) → repeating st ≡ nothing
repeating_none stood.MustOpen n = absurd (n refl)
repeating_none stood.Opened n = refl
repeating_none stood.Closing n = refl
repeating_none stood.Closed n = refl
repeating_none stood.Opening n = refl

-- What the event asks for.

pub record Asked (past : List Seen) (kept : Option Session) (a : Agenda) : Type 0 where
  pub goes_on : a.ending ≡ None
  pub matched : a.behind_reply ≡ None
  pub order_is : a.order ≡ None
  pub unsaid : (a.reply ≡ None) ⊎ (AwaitsReply past × (a.datagram ≡ None))
  pub waited : (ss : Session) → kept ≡ Some ss → is_waiting ss.stage.row ≡ false → a.reply ≡ None
  pub at_once : AwaitsReply past → Confirms a

plain : (past : List Seen) (kept : Option Session) (a : Agenda) → a.ending ≡ None → a.behind_reply ≡ None → a.order ≡ None → a.reply ≡ None → (AwaitsReply past → ⊥) → Asked past kept a
plain past kept a e m o r n = record { goes_on = e; matched = m; order_is = o; unsaid = inl r; waited = λ ss k w. r; at_once = λ h. absurd (n h) }

-- nothing waits without a session
unless_waits : (past : List Seen) (event : PlantEvent) → next_session past ≡ None → IsConfirming past (Plant event) → ⊥
unless_waits past (plant.Feedback true) e h = subst WaitsFor e h
unless_waits past event e h = h

asked_none : (plan : PostPlan) (past later : List Seen) (e : Event) (s : State) → (AwaitsReply later → IsConfirming past e) → s.session ≡ None → next_session past ≡ None → Asked later s.session (eventing plan e s)
asked_none plan past later (Came token) s o k n = rw k (plain later None nothing refl refl refl refl o)
asked_none plan past later (Bytes bytes) s o k n = plain later s.session nothing refl refl refl refl o
asked_none plan past later Gone s o k n = rw k (plain later None nothing refl refl refl refl o)
asked_none plan past later (Datagram bytes) s o k n = plain later s.session (eventing plan (Datagram bytes) s) refl refl refl refl o
asked_none plan past later (Plant event) s o k n = rw k (plain later None nothing refl refl refl refl (λ h. unless_waits past event n (o h)))
asked_none plan past later Clock s o k n = plain later s.session nothing refl refl refl refl o
asked_none plan past later Over s o k n = rw k (plain later None nothing refl refl refl refl o)

-- feedback of closed lets the reply go
not_confirming : (past : List Seen) (event : PlantEvent) → confirms event ≡ false → IsConfirming past (Plant event) → ⊥
not_confirming past (plant.Feedback true) k h = cc
not_confirming past event k h = h

closed_is : (event : PlantEvent) → confirms event ≡ true → event ≡ plant.Feedback true
closed_is (plant.Feedback true) k = refl
closed_is (plant.Feedback false) k = cc
closed_is event k = cc

confirming_waits : (past : List Seen) (event : PlantEvent) (es : List Seen) (k : Bool) → confirms event ≡ k → next_session past ≡ Some es → IsConfirming past (Plant event) → waits es ≡ true
confirming_waits past event es true k n h = subst WaitsFor n (subst (λ (x : PlantEvent). IsConfirming past (Plant x)) (closed_is event k) h)
confirming_waits past event es false k n h = absurd (not_confirming past event k h)

confirm_if : (past later : List Seen) (event : PlantEvent) (es : List Seen) (kept : Option Session) (spoken : Spoken) (w k : Bool) → (AwaitsReply later → IsConfirming past (Plant event)) → (IsConfirming past (Plant event) → AwaitsReply later) → next_session past ≡ Some es → w ≡ waits es → confirms event ≡ k
    → ((ss : Session) → kept ≡ Some ss → is_waiting ss.stage.row ≡ w) → Asked later kept (if w && k then record nothing { reply = Some spoken } else nothing)
confirm_if past later event es kept spoken true true o b n w k rows =
    let waited : WaitsFor (next_session past) = subst WaitsFor (sym n) (sym w) in
    let now : IsConfirming past (Plant event) = subst (λ (x : PlantEvent). IsConfirming past (Plant x)) (sym (closed_is event k)) waited in
    record {
      goes_on = refl;
      matched = refl;
      order_is = refl;
      unsaid = inr (b now, refl);
      waited = λ ss l g. true_false (is_waiting ss.stage.row) (rows ss l) g;
      at_once = λ h. record { spoken = spoken; datagram_is = refl; order_is = refl; reply_is = refl };
    }
confirm_if past later event es kept spoken true false o b n w k rows = plain later kept nothing refl refl refl refl (λ h. not_confirming past event k (o h))
confirm_if past later event es kept spoken false k o b n w e rows = plain later kept nothing refl refl refl refl (λ h. true_false (waits es) (confirming_waits past event es k e n (o h)) (sym w))

charge_none : (later : List Seen) (plan : PostPlan) (event : PlantEvent) (ss : Session) (kept : Option Session) (s : State) (cause : Option EndCause) → cause ≡ None → Asked later kept (confirming plan ss event s) → Asked later kept (charging_by cause (confirming plan ss event s) s.live)
charge_none later plan event ss kept s (Some k) e a = cc
charge_none later plan event ss kept s None e a = a

-- behind the order to open that was owed
abbrev pub reopened : State → State
reopened s = acted (Give order.Open) true (record s { agenda = opening; part = Timing })

-- what the rules of an event know is what is read off the past
abbrev Watched : PostPlan → List Step → ℕ → Session → State → Bool → Type 0
Watched plan steps at ss s alive = watch plan ss s ≡ causes.watch plan (talked_of ss) (map seen_of steps) alive at

watch_is : (plan : PostPlan) (steps : List Step) (at : ℕ) (e : Event) (ss : Session) → Watched plan steps at ss (hearing at e (state plan steps)) (live (map seen_of steps))
watch_is plan steps at e ss =
    let s = state plan steps in
    let k = contactors_are_read plan steps in
    ap (λ (x : Standing). record { row = ss.stage.row; standing = x; live = s.live; phases = phases_of plan.mode; allowed = allowed_watts ss.stage.told ss.lowered at }) k.standing_is
    ∙ ap (λ (x : Bool). record { row = ss.stage.row; standing = standing (map seen_of steps); live = x; phases = phases_of plan.mode; allowed = allowed_watts ss.stage.told ss.lowered at }) k.live_is

watch_reopened : (plan : PostPlan) (steps : List Step) (at : ℕ) (e : Event) (ss : Session) → Watched plan steps at ss (reopened (hearing at e (state plan steps))) false
watch_reopened plan steps at e ss = ap (λ (x : Standing). record { row = ss.stage.row; standing = x; live = false; phases = phases_of plan.mode; allowed = allowed_watts ss.stage.told ss.lowered at }) (contactors_are_read plan steps).standing_is

same_row : (ss ts : Session) → Some ss ≡ Some ts → is_waiting ts.stage.row ≡ is_waiting ss.stage.row
same_row ss ts k = let x : ss ≡ ts = cc in ap (λ (v : Session). is_waiting v.stage.row) (sym x)

asked_plant : (plan : PostPlan) (steps : List Step) (later : List Seen) (at : ℕ) (event : PlantEvent) (es : List Seen) (ss : Session) (s : State) (alive : Bool) → (AwaitsReply later → IsConfirming (map seen_of steps) (Plant event)) → (IsConfirming (map seen_of steps) (Plant event) → AwaitsReply later)
    → next_session (map seen_of steps) ≡ Some es → Finds ss es → Watched plan steps at ss s alive → GoesWell (causes.watch plan (talked_of ss) (map seen_of steps) alive at) event → Asked later (Some ss) (charging plan (Some ss) event s)
asked_plant plan steps later at event es ss s alive o b n f w g =
    let none : plant_cause (watch plan ss s) event ≡ None = ap (λ (w : Watch). plant_cause w event) w ∙ events_end_nothing _ event g in
    charge_none later plan event ss (Some ss) s (plant_cause (watch plan ss s) event) none
    (confirm_if (map seen_of steps) later event es (Some ss) (Said ss.stage.dialect (waiting_reply ss.stage s.facts plan)) (is_waiting ss.stage.row) (confirms event) o b n f.waiting_is refl (λ ts k. same_row ss ts k))

-- the same with the bytes of the hearing
bytes_finds : (bytes : List ℕ) (ss : Session) (es : List Seen) → Finds ss es → Finds (with_bytes bytes ss) es
bytes_finds bytes ss es f = record { due_is = f.due_is; waiting_is = f.waiting_is }

-- whether the contactor is live as an event is judged
abbrev pub alive : List Step → Bool
alive steps = live_as_told (map seen_of steps)

asked_some : (plan : PostPlan) (steps : List Step) (later : List Seen) (at : ℕ) (e : Event) (es : List Seen) (ss : Session) (s : State) → (AwaitsReply later → IsConfirming (map seen_of steps) e) → (IsConfirming (map seen_of steps) e → AwaitsReply later) → next_session (map seen_of steps) ≡ Some es → s.session ≡ Some ss → Finds ss es
    → Watched plan steps at ss s (alive steps) → StaysWell plan at e steps (talked_of ss) → Asked later (Some ss) (eventing plan e s)
asked_some plan steps later at (Came token) es ss s o b n k f w g = absurd g
asked_some plan steps later at (Bytes bytes) es ss s o b n k f w g = plain later (Some ss) nothing refl refl refl refl o
asked_some plan steps later at Gone es ss s o b n k f w g = absurd g
asked_some plan steps later at (Datagram bytes) es ss s o b n k f w g = plain later (Some ss) (eventing plan (Datagram bytes) s) refl refl refl refl o
asked_some plan steps later at (Plant event) es ss s o b n k f w g =
    subst (λ (kept : Option Session). Asked later (Some ss) (charging plan kept event s)) (sym k) (asked_plant plan steps later at event es ss s (alive steps) o b n f w g)
asked_some plan steps later at Clock es ss s o b n k f w g = plain later (Some ss) nothing refl refl refl refl o
asked_some plan steps later at Over es ss s o b n k f w g = absurd g

asked_by : (plan : PostPlan) (steps : List Step) (later : List Seen) (at : ℕ) (e : Event) (lives : Option (List Seen)) (kept : Option Session) (s : State) → (AwaitsReply later → IsConfirming (map seen_of steps) e) → (IsConfirming (map seen_of steps) e → AwaitsReply later) → next_session (map seen_of steps) ≡ lives
    → s.session ≡ option_map (with_bytes (brought e)) kept → Found lives kept → ((ss : Session) → Watched plan steps at ss s (alive steps)) → WellIn plan at e steps lives kept → Asked later s.session (eventing plan e s)
asked_by plan steps later at e None None s o b n k f v w = asked_none plan (map seen_of steps) later e s o k n
asked_by plan steps later at e (Some es) None s o b n k f v w = absurd f
asked_by plan steps later at e None (Some ss) s o b n k f v w = absurd f
asked_by plan steps later at e (Some es) (Some ss) s o b n k f v w =
    subst (λ (x : Option Session). Asked later x (eventing plan e s)) (sym k)
    (asked_some plan steps later at e es (with_bytes (brought e) ss) s o b n k (bytes_finds (brought e) ss es f) (v (with_bytes (brought e) ss)) w.1.stays)

-- The newest hearing.

reads_at_most : (b : Bool) (n : ℕ) → (if b then n + 1 else n) ≤ n + 1
reads_at_most true n = omega arith
reads_at_most false n = omega arith

reads_free : (b : Bool) (n : ℕ) → b ≡ false → (if b then n + 1 else n) ≤ n
reads_free true n e = cc
reads_free false n e = omega arith

early_heard : (at clock : ℕ) (e : Event) (es : List Seen) (ss : Session) → Finds ss es → Early (Heard at e ∷ es) ss.stage.row None None
early_heard at clock e es ss f = record {
  within = reads_at_most (waits es) (length (replies es));
  free = λ w r. reads_free (waits es) (length (replies es)) (sym f.waiting_is ∙ w);
  closing = λ h. absurd (none_close h);
}

early_by : (at clock : ℕ) (e : Event) (lives : Option (List Seen)) (kept : Option Session) → Found lives kept → EarlyIn (with_seen (Heard at e) lives) (option_map (with_bytes (brought e)) kept) nothing
early_by at clock e None kept f es ss l k = cc
early_by at clock e (Some zs) None f es ss l k = absurd f
early_by at clock e (Some zs) (Some ts) f es ss l k =
    let x : Heard at e ∷ zs ≡ es = cc in
    let y : with_bytes (brought e) ts ≡ ss = cc in
    subst (λ (us : List Seen). Early us ss.stage.row None None) x (subst (λ (u : Session). Early (Heard at e ∷ zs) u.stage.row None None) y (early_heard at clock e zs ts f))

pub heard_ready : {Owed : Type 0} (c : Codecs) (plan : PostPlan) (at : ℕ) (e : Event) (steps : List Step) → IsPostRun c plan (Hears at e ∷ steps) → Ready c plan Owed (map seen_of (Hears at e ∷ steps)) (state plan (Hears at e ∷ steps))
heard_ready c plan at e steps run =
    let s = state plan steps in
    record {
      matched = refl;
      stops = tt;
      opens = λ h. refl;
      worded = inr (inl refl);
      unsaid = λ ss k w. inl refl;
      others = tt;
      early = early_by at s.clock e (next_session (map seen_of steps)) (session_opened s.arrived s.clock s.session) (found c plan steps run.0 run.1);
    }

-- What is decided behind it.

decide_nothing : (agenda : Agenda) (part : Part) (s rest : State) → agenda ≡ nothing → decide agenda part s rest ≡ rest
decide_nothing agenda part s rest e = rw e refl

from_event : (plan : PostPlan) (s : State) → is_done s.agenda ≡ true → s.part ≡ Repeating → repeating s.facts.contactor ≡ nothing → timing s.session s.clock s.live ≡ nothing → decided plan s ≡ from_eventing plan s
from_event plan s d p r t =
    decided_done plan s d
    ∙ ap (λ (x : Part). from_part plan x s) p
    ∙ decide_nothing (repeating s.facts.contactor) Timing s (from_timing plan s) r
    ∙ decide_nothing (timing s.session s.clock s.live) Eventing s (from_eventing plan s) t

unsaid_as : (past : List Seen) (kept : Option Session) (a : Agenda) → (a.reply ≡ None) ⊎ (AwaitsReply past × (a.datagram ≡ None)) → a.order ≡ None → Unsaid past kept a
unsaid_as past kept a (inl h) o ss k w = inl h
unsaid_as past kept a (inr h) o ss k w = inr (h.0, h.1, o)

stops_none : (c : Codecs) (plan : PostPlan) (past : List Seen) (e : Option EndCause) (r : Option Spoken) → e ≡ None → Stops c plan past e r
stops_none c plan past e r h = subst (λ (x : Option EndCause). Stops c plan past x r) (sym h) tt

order_not : (o : Option Order) → o ≡ None → o ≡ Some order.Close → ⊥
order_not o n h = none_close (sym n ∙ h)

unless_others : (c : Codecs) (plan : PostPlan) (past : List Seen) (kept : Option Session) (r : Option Spoken) → ((ss : Session) → kept ≡ Some ss → is_waiting ss.stage.row ≡ false → r ≡ None) → Others c plan past kept r
unless_others c plan past kept None f = tt
unless_others c plan past kept (Some (Response payload)) f = tt
unless_others c plan past kept (Some (Said d reply)) f = λ ss k w. absurd (let x : Some (Said d reply) ≡ None = f ss k w in cc)

asked_ready : {Owed : Type 0} (c : Codecs) (plan : PostPlan) (past : List Seen) (s : State) (a : Agenda) → Ready c plan Owed past s → s.agenda ≡ nothing → Asked past s.session a → Ready c plan Owed past (record s { agenda = a; part = Wording })
asked_ready c plan past s a r n x = record {
  matched = x.matched;
  stops = stops_none c plan past a.ending a.reply x.goes_on;
  opens = λ h. x.goes_on;
  worded = inl refl;
  unsaid = unsaid_as past s.session a x.unsaid x.order_is;
  others = unless_others c plan past s.session a.reply x.waited;
  early = λ es ss l k.
      let y : Early es ss.stage.row None None = subst (λ (b : Agenda). Early es ss.stage.row b.reply b.order) n (r.early es ss l k) in
      record { within = y.within; free = λ w h. y.free w refl; closing = λ h. absurd (order_not a.order x.order_is h) };
}

said_first : (d : Option (List ℕ)) (o : Option Order) (r : Option Spoken) (e : Option EndCause) (spoken : Spoken) → r ≡ Some spoken → is_none (first_of d o r e) ≡ false
said_first (Some d) o r e spoken h = refl
said_first None (Some o) r e spoken h = refl
said_first None None (Some r) e spoken h = refl
said_first None None None e spoken h = cc

said_undone : (a : Agenda) → Confirms a → is_done a ≡ false
said_undone a k = said_first a.datagram a.order a.reply a.ending k.spoken k.reply_is

event_decides : (Owed : Type 0) (c : Codecs) (plan : PostPlan) (past : List Seen) (s : State) (b : Bool) → is_done (eventing plan s.event s) ≡ b → Ready c plan Owed past s → s.agenda ≡ nothing → Asked past s.session (eventing plan s.event s) → from_wording s ≡ s
    → Decides c plan Owed past s (from_eventing plan s)
event_decides Owed c plan past s true d r n x w =
    let e : from_eventing plan s ≡ s = (rw d refl) ∙ w in
    subst (λ (t : State). Decides c plan Owed past s t) (sym e) (record {
      ready = r;
      outcome = inl refl;
      at_once = λ h. let k = x.at_once h in absurd (let y : is_done (eventing plan s.event s) ≡ false = said_undone (eventing plan s.event s) k in true_false (is_done (eventing plan s.event s)) d y);
    })
event_decides Owed c plan past s false d r n x w =
    let e : from_eventing plan s ≡ record s { agenda = eventing plan s.event s; part = Wording } = rw d refl in
    subst (λ (t : State). Decides c plan Owed past s t) (sym e) (record {
      ready = asked_ready c plan past s (eventing plan s.event s) r n x;
      outcome = inr d;
      at_once = x.at_once;
    })

-- An order to open that is owed comes first.

opens_first : (plan : PostPlan) (s : State) → is_done s.agenda ≡ true → s.part ≡ Repeating → s.facts.contactor ≡ stood.MustOpen → decided plan s ≡ record s { agenda = opening; part = Timing }
opens_first plan s d p m =
    decided_done plan s d
    ∙ ap (λ (x : Part). from_part plan x s) p
    ∙ ap (λ (x : Standing). decide (repeating x) Timing s (from_timing plan s)) m

owed_ready : {Owed : Type 0} (c : Codecs) (plan : PostPlan) (past : List Seen) (s : State) → Owed → Ready c plan Owed past s → s.agenda ≡ nothing → Ready c plan Owed past (record s { agenda = opening; part = Timing })
owed_ready c plan past s h r n = record {
  matched = refl;
  stops = tt;
  opens = λ k. refl;
  worded = inr (inr (h, refl));
  unsaid = λ ss k w. inl refl;
  others = tt;
  early = λ es ss l k.
      let y : Early es ss.stage.row None None = subst (λ (b : Agenda). Early es ss.stage.row b.reply b.order) n (r.early es ss l k) in
      record { within = y.within; free = λ w h. y.free w refl; closing = λ h. absurd (let x : Some order.Open ≡ Some order.Close = h in cc) };
}

-- and it stands while nothing waits
owed_waits : (plan : PostPlan) (at : ℕ) (e : Event) (steps : List Step) (lives : Option (List Seen)) → next_session (map seen_of steps) ≡ lives → Conforming plan steps → standing (Heard at e ∷ map seen_of steps) ≡ stood.MustOpen → WaitsFor lives → ⊥
owed_waits plan at e steps None n conf m w = w
owed_waits plan at e steps (Some es) n conf m w = obeys plan steps at e es conf n w m

owed_still : (plan : PostPlan) (at : ℕ) (e : Event) (steps : List Step) → Conforming plan steps → standing (Heard at e ∷ map seen_of steps) ≡ stood.MustOpen → IsConfirming (map seen_of steps) e → ⊥
owed_still plan at (Plant (plant.Feedback true)) steps conf m h = owed_waits plan at (Plant (plant.Feedback true)) steps (next_session (map seen_of steps)) refl conf m h
owed_still plan at (Plant (plant.Feedback false)) steps conf m h = h
owed_still plan at (Plant event) steps conf m h = h
owed_still plan at (Came token) steps conf m h = h
owed_still plan at (Bytes bytes) steps conf m h = h
owed_still plan at Gone steps conf m h = h
owed_still plan at (Datagram bytes) steps conf m h = h
owed_still plan at Clock steps conf m h = h
owed_still plan at Over steps conf m h = h

-- one or the other
must : (st : Standing) → (st ≡ stood.MustOpen) ⊎ (st ≡ stood.MustOpen → ⊥)
must stood.MustOpen = inl refl
must stood.Opened = inr (λ h. cc)
must stood.Closing = inr (λ h. cc)
must stood.Closed = inr (λ h. cc)
must stood.Opening = inr (λ h. cc)

alive_owed : (st : Standing) (alive : Bool) → st ≡ stood.MustOpen → live_behind st alive ≡ false
alive_owed stood.MustOpen alive h = refl
alive_owed stood.Opened alive h = cc
alive_owed stood.Closing alive h = cc
alive_owed stood.Closed alive h = cc
alive_owed stood.Opening alive h = cc

alive_free : (st : Standing) (alive : Bool) → (st ≡ stood.MustOpen → ⊥) → live_behind st alive ≡ alive
alive_free stood.MustOpen alive h = absurd (h refl)
alive_free stood.Opened alive h = refl
alive_free stood.Closing alive h = refl
alive_free stood.Closed alive h = refl
alive_free stood.Opening alive h = refl

same_free : (plan : PostPlan) (at : ℕ) (e : Event) (steps : List Step) → ((state plan (Hears at e ∷ steps)).facts.contactor ≡ stood.MustOpen → ⊥) → standing (map seen_of steps) ≡ stood.MustOpen → ⊥
same_free plan at e steps n m = n ((contactors_are_read plan (Hears at e ∷ steps)).standing_is ∙ owed_on at e (map seen_of steps) m)

same_owed : (plan : PostPlan) (at : ℕ) (e : Event) (steps : List Step) → (state plan (Hears at e ∷ steps)).facts.contactor ≡ stood.MustOpen → standing (map seen_of steps) ≡ stood.MustOpen
same_owed plan at e steps m = owed_before at e (map seen_of steps) (sym (contactors_are_read plan (Hears at e ∷ steps)).standing_is ∙ m)

free_decides : (c : Codecs) (plan : PostPlan) (at : ℕ) (e : Event) (steps : List Step) → IsPostRun c plan (Hears at e ∷ steps) → Conforms plan (Hears at e ∷ steps) → AreHeard (map seen_of (Hears at e ∷ steps)) → ((state plan (Hears at e ∷ steps)).facts.contactor ≡ stood.MustOpen → ⊥)
    → Decides c plan (IsOwed plan (Hears at e ∷ steps)) (map seen_of (Hears at e ∷ steps)) (state plan (Hears at e ∷ steps)) (decided plan (state plan (Hears at e ∷ steps)))
free_decides c plan at e steps run conf heard m =
    let now : List Step = Hears at e ∷ steps in
    let past = map seen_of steps in
    let s = state plan steps in
    let t = state plan (Hears at e ∷ steps) in
    let kept = session_opened s.arrived s.clock s.session in
    let well = well_now c plan at e steps run conf in
    let f = found c plan steps run.0 run.1 in
    let d = from_event plan t refl refl (repeating_none t.facts.contactor m) (timing_none plan at e steps (next_session past) kept (brought e) s.live well) in
    let a : alive steps ≡ live past = alive_free (standing past) (live past) (same_free plan at e steps m) in
    let v : (ss : Session) → Watched plan steps at ss t (alive steps) = λ ss. subst (λ (b : Bool). Watched plan steps at ss t b) (sym a) (watch_is plan steps at e ss) in
    let x = asked_by plan steps (map seen_of (Hears at e ∷ steps)) at e (next_session past) kept t (λ h. h) (λ h. h) refl refl f v well in
    let w = wording_same t (fronts_nothing c plan (Hears at e ∷ steps) run conf heard refl) in
    subst (λ (u : State). Decides c plan (IsOwed plan (Hears at e ∷ steps)) (map seen_of (Hears at e ∷ steps)) t u) (sym d)
    (event_decides (IsOwed plan (Hears at e ∷ steps)) c plan (map seen_of (Hears at e ∷ steps)) t (is_done (eventing plan t.event t)) refl (heard_ready c plan at e steps run) refl x w)

owed_decides : (c : Codecs) (plan : PostPlan) (at : ℕ) (e : Event) (steps : List Step) → IsPostRun c plan (Hears at e ∷ steps) → Conforms plan (Hears at e ∷ steps) → (m : (state plan (Hears at e ∷ steps)).facts.contactor ≡ stood.MustOpen)
    → Decides c plan (IsOwed plan (Hears at e ∷ steps)) (map seen_of (Hears at e ∷ steps)) (state plan (Hears at e ∷ steps)) (decided plan (state plan (Hears at e ∷ steps)))
owed_decides c plan at e steps run conf m =
    let t = state plan (Hears at e ∷ steps) in
    let st : standing (map seen_of (Hears at e ∷ steps)) ≡ stood.MustOpen = sym (contactors_are_read plan (Hears at e ∷ steps)).standing_is ∙ m in
    subst (λ (u : State). Decides c plan (IsOwed plan (Hears at e ∷ steps)) (map seen_of (Hears at e ∷ steps)) t u) (sym (opens_first plan t refl refl m))
    (record {
      ready = owed_ready c plan (map seen_of (Hears at e ∷ steps)) t m (heard_ready c plan at e steps run) refl;
      outcome = inr refl;
      at_once = λ h. absurd (owed_still plan at e steps (more plan (Hears at e) steps conf).earlier st h);
    })

pub heard_decides : (c : Codecs) (plan : PostPlan) (at : ℕ) (e : Event) (steps : List Step) → IsPostRun c plan (Hears at e ∷ steps) → Conforms plan (Hears at e ∷ steps) → AreHeard (map seen_of (Hears at e ∷ steps))
    → Decides c plan (IsOwed plan (Hears at e ∷ steps)) (map seen_of (Hears at e ∷ steps)) (state plan (Hears at e ∷ steps)) (decided plan (state plan (Hears at e ∷ steps)))
heard_decides c plan at e steps run conf heard = elim (must (state plan (Hears at e ∷ steps)).facts.contactor) [
  | inl m ↦ owed_decides c plan at e steps run conf m
  | inr m ↦ free_decides c plan at e steps run conf heard m
]

-- Behind that order the hearing is judged.

same_kept : (now : ℕ) (kept : Option Session) → option_map (since_order now order.Open) kept ≡ kept
same_kept now None = refl
same_kept now (Some ss) = refl

from_times : (plan : PostPlan) (s : State) → is_done s.agenda ≡ true → s.part ≡ Timing → timing s.session s.clock s.live ≡ nothing → decided plan s ≡ from_eventing plan s
from_times plan s d p t = decided_done plan s d ∙ ap (λ (x : Part). from_part plan x s) p ∙ decide_nothing (timing s.session s.clock s.live) Eventing s (from_eventing plan s) t

give_only : (c : Codecs) (act : Act) (taken : Bool) (todo : states.Todo) → Some (states.Give order.Open) ≡ Some todo → IsDone c todo act taken → act ≡ Give order.Open
give_only c act taken todo f i = let x : todo ≡ states.Give order.Open = cc in subst (λ (y : states.Todo). IsDone c y act taken) x i

read_nothing : (c : Codecs) (plan : PostPlan) (S : ℕ → ℕ → Type 0) (t : State) (w : Option Payload) (reading : Option Reading) → w ≡ None → IsRead c plan S t w reading → reading ≡ None
read_nothing c plan S t None None e i = refl
read_nothing c plan S t None (Some reading) e i = absurd i
read_nothing c plan S t (Some p) reading e i = cc

pub record IsReopened (plan : PostPlan) (s : State) (reading : Option Reading) (act : Act) (taken : Bool) : Type 0 where
  pub act_is : act ≡ Give order.Open
  pub taken_is : taken ≡ true
  pub state_is : acted act taken (filled plan reading s) ≡ reopened s

is_reopened : (c : Codecs) (plan : PostPlan) (S : ℕ → ℕ → Type 0) (s : State) (reading : Option Reading) (act : Act) (taken : Bool) (todo : states.Todo) → decided plan s ≡ record s { agenda = opening; part = Timing } → IsRead c plan S (decided plan s) (wanted (decided plan s)) reading
    → first (filled plan reading s).agenda ≡ Some todo → IsDone c todo act taken → IsTaken act taken → IsReopened plan s reading act taken
is_reopened c plan S s reading act taken todo d i f done y =
    let n : reading ≡ None = read_nothing c plan S (decided plan s) (wanted (decided plan s)) reading (ap wanted d) i in
    let u : filled plan reading s ≡ record s { agenda = opening; part = Timing } = ap (λ (r : Option Reading). filled plan r s) n ∙ d in
    let g : Some (states.Give order.Open) ≡ Some todo = sym (ap (λ (t : State). first t.agenda) u) ∙ f in
    let a = give_only c act taken todo g done in
    let z : taken ≡ true = subst (λ (x : Act). IsTaken x taken) a y in
    record {
      act_is = a;
      taken_is = z;
      state_is = ap (λ (x : Act). acted x taken (filled plan reading s)) a ∙ ap (λ (b : Bool). acted (Give order.Open) b (filled plan reading s)) z ∙ ap (λ (t : State). acted (Give order.Open) true t) u;
    }

fronts_as : (s t : State) → s ≡ t → fronting s.session s.live ≡ nothing → fronting t.session t.live ≡ nothing
fronts_as s t e h = subst (λ (u : State). fronting u.session u.live ≡ nothing) e h

done_as : (s t : State) → t ≡ s → is_done s.agenda ≡ true → is_done t.agenda ≡ true
done_as s t e h = subst (λ (u : State). is_done u.agenda ≡ true) (sym e) h

reopened_decides : (c : Codecs) (plan : PostPlan) (at : ℕ) (e : Event) (steps : List Step) (reading : Option Reading) (act : Act) (taken : Bool) → IsPostRun c plan (Does reading act taken ∷ Hears at e ∷ steps) → Conforms plan (Does reading act taken ∷ Hears at e ∷ steps)
    → AreHeard (map seen_of (Does reading act taken ∷ Hears at e ∷ steps)) → (state plan (Hears at e ∷ steps)).facts.contactor ≡ stood.MustOpen → Ready c plan ⊥ (map seen_of (Does reading act taken ∷ Hears at e ∷ steps)) (state plan (Does reading act taken ∷ Hears at e ∷ steps))
    → Decides c plan ⊥ (map seen_of (Does reading act taken ∷ Hears at e ∷ steps)) (state plan (Does reading act taken ∷ Hears at e ∷ steps)) (decided plan (state plan (Does reading act taken ∷ Hears at e ∷ steps)))
reopened_decides c plan at e steps reading act taken (run, (limit, before, behind, acts)) conf heard m ready =
    let past = map seen_of steps in
    let later = Did act taken ∷ Heard at e ∷ past in
    let s = state plan steps in
    let h = state plan (Hears at e ∷ steps) in
    let t = reopened h in
    let now : Conforms plan (Hears at e ∷ steps) = behind_act plan reading act taken (Hears at e ∷ steps) conf in
    let k = is_reopened c plan (Shows limit before behind) h reading act taken acts.todo (opens_first plan h refl refl m) acts.read acts.acts acts.done (more plan (Does reading act taken) (Hears at e ∷ steps) conf).goes_on.0 in
    let kept = session_opened s.arrived s.clock s.session in
    let well = well_now c plan at e steps run now in
    let f = found c plan steps run.0 run.1 in
    let o : (option_map (since_order at order.Open) (option_map (with_bytes (brought e)) kept)) ≡ option_map (with_bytes (brought e)) kept = same_kept at (option_map (with_bytes (brought e)) kept) in
    let times : timing t.session t.clock t.live ≡ nothing = ap (λ (x : Option Session). timing x at false) o ∙ timing_none plan at e steps (next_session past) kept (brought e) false well in
    let d = from_times plan t refl refl times in
    let a : alive steps ≡ false = alive_owed (standing past) (live past) (same_owed plan at e steps m) in
    let v : (ss : Session) → Watched plan steps at ss t (alive steps) = λ ss. subst (λ (b : Bool). Watched plan steps at ss t b) (sym a) (watch_reopened plan steps at e ss) in
    let st : standing (map seen_of (Hears at e ∷ steps)) ≡ stood.MustOpen = sym (contactors_are_read plan (Hears at e ∷ steps)).standing_is ∙ m in
    let x = asked_by plan steps later at e (next_session past) kept t (λ h. absurd h) (λ h. absurd (owed_still plan at e steps (more plan (Hears at e) steps now).earlier st h)) refl o f v well in
    let w = wording_same t (fronts_as (acted act taken (filled plan reading h)) t k.state_is
    (fronts_nothing c plan (Does reading act taken ∷ Hears at e ∷ steps) (run, (limit, before, behind, acts)) conf heard (done_as t (acted act taken (filled plan reading h)) k.state_is refl))) in
    let r : Ready c plan ⊥ later t = subst (λ (u : State). Ready c plan ⊥ later u) k.state_is ready in
    let g : Decides c plan ⊥ later t (decided plan t) = subst (λ (u : State). Decides c plan ⊥ later t u) (sym d) (event_decides ⊥ c plan later t (is_done (eventing plan t.event t)) refl r refl x w) in
    subst (λ (u : State). Decides c plan ⊥ later u (decided plan u)) (sym k.state_is) g

-- Behind an act the words are next, and nothing is decided without one.

words_same : (plan : PostPlan) (s : State) → is_done s.agenda ≡ true → s.part ≡ Wording → fronting s.session s.live ≡ nothing → decided plan s ≡ s
words_same plan s d p f = decided_done plan s d ∙ ap (λ (x : Part). from_part plan x s) p ∙ wording_same s f

undone_decides : (Owed : Type 0) (c : Codecs) (plan : PostPlan) (past : List Seen) (s : State) → Ready c plan Owed past s → is_done s.agenda ≡ false → (AwaitsReply past → ⊥) → Decides c plan Owed past s (decided plan s)
undone_decides Owed c plan past s r d n = subst (λ (t : State). Decides c plan Owed past s t) (sym (decided_not plan s d)) (record { ready = r; outcome = inl refl; at_once = λ h. absurd (n h) })

done_decides : (Owed : Type 0) (c : Codecs) (plan : PostPlan) (past : List Seen) (s : State) → Ready c plan Owed past s → decided plan s ≡ s → (AwaitsReply past → ⊥) → Decides c plan Owed past s (decided plan s)
done_decides Owed c plan past s r e n = subst (λ (t : State). Decides c plan Owed past s t) (sym e) (record { ready = r; outcome = inl refl; at_once = λ h. absurd (n h) })

pub words_decide : (Owed : Type 0) (c : Codecs) (plan : PostPlan) (steps : List Step) (b : Bool) → is_done (state plan steps).agenda ≡ b → (state plan steps).part ≡ Wording → IsPostRun c plan steps → Conforms plan steps → AreHeard (map seen_of steps)
    → (AwaitsReply (map seen_of steps) → ⊥) → Ready c plan Owed (map seen_of steps) (state plan steps) → Decides c plan Owed (map seen_of steps) (state plan steps) (decided plan (state plan steps))
words_decide Owed c plan steps true d p run conf heard n r = done_decides Owed c plan (map seen_of steps) (state plan steps) r (words_same plan (state plan steps) d p (fronts_nothing c plan steps run conf heard d)) n
words_decide Owed c plan steps false d p run conf heard n r = undone_decides Owed c plan (map seen_of steps) (state plan steps) r d n

-- behind an act
act_decides : (c : Codecs) (plan : PostPlan) (steps : List Step) (reading : Option Reading) (act : Act) (taken : Bool) → IsPostRun c plan (Does reading act taken ∷ steps) → Conforms plan (Does reading act taken ∷ steps) → AreHeard (map seen_of (Does reading act taken ∷ steps))
    → Ready c plan ⊥ (map seen_of (Does reading act taken ∷ steps)) (state plan (Does reading act taken ∷ steps)) → ((state plan (Does reading act taken ∷ steps)).part ≡ Wording) ⊎ IsOwed plan steps
    → Decides c plan ⊥ (map seen_of (Does reading act taken ∷ steps)) (state plan (Does reading act taken ∷ steps)) (decided plan (state plan (Does reading act taken ∷ steps)))
act_decides c plan steps reading act taken run conf heard r (inl w) = words_decide ⊥ c plan (Does reading act taken ∷ steps) (is_done (state plan (Does reading act taken ∷ steps)).agenda) refl w run conf heard (λ h. h) r
act_decides c plan [] reading act taken run conf heard r (inr o) = absurd o
act_decides c plan (Hears at e ∷ steps) reading act taken run conf heard r (inr o) = reopened_decides c plan at e steps reading act taken run conf heard o r
act_decides c plan (Does earlier before was ∷ steps) reading act taken run conf heard r (inr o) = absurd o

pub decides : (c : Codecs) (plan : PostPlan) (steps : List Step) → IsPostRun c plan steps → Conforms plan steps → AreHeard (map seen_of steps) → Ready c plan (IsOwed plan steps) (map seen_of steps) (state plan steps) → AtWords plan steps (state plan steps).part
    → Decides c plan (IsOwed plan steps) (map seen_of steps) (state plan steps) (decided plan (state plan steps))
decides c plan [] run conf heard r w = words_decide ⊥ c plan [] true refl refl run conf heard (λ h. h) r
decides c plan (Hears at e ∷ steps) run conf heard r w = heard_decides c plan at e steps run conf heard
decides c plan (Does reading act taken ∷ steps) run conf heard r w = act_decides c plan steps reading act taken run conf heard r w
