-- As a post reads a word, no order to open is owed and no deadline is reached: either was seen to before, and ends the session.
use Rattle.std.proofs.Common.{◌≡◌, ◌≤◌, ◌<◌, ℕ, ◌+◌, Bool, true, false, if◌then◌else◌, List, [], ◌∷◌, map, Option, Some, None, is_some, refl, sym, ap, subst, ◌∙◌, inl, inr, ◌⊎◌, arith}
use Rattle.std.specs.Option.{option_map}
use Rattle.std.proofs.lemmas.Bool.Decides.{nat_tests}
use Rattle.charge_world.specs.declared.ports.Order.{Order}
use Rattle.charge_world.specs.declared.ports.Order.TheVariants as order
use Rattle.session_words.specs.declared.cause.EndCause.{EndCause}
use Rattle.session_words.specs.declared.cause.Timeout.{Timeout}
use Rattle.session_words.specs.declared.cause.Timeout.TheVariants.{Setup, Sequence, Feedback}
use Rattle.session_words.specs.declared.phase.Standing.{Standing}
use Rattle.session_words.specs.declared.phase.Standing.TheVariants as standing
use Rattle.session_words.specs.declared.plan.PostPlan.{PostPlan}
use Rattle.session_words.specs.Causes.{cause_of}
use Rattle.session_timers.specs.Due.{never}
use Rattle.session_rules.specs.Deadlines.{timeout_of}
use Rattle.session_rules.specs.Law.{span_of}
use Rattle.session_rules.specs.Stages.{is_set_up}
use Rattle.post_spec.specs.Causes as causes
use Rattle.post_spec.specs.Causes.{running, counts_from}
use Rattle.post_spec.specs.Codecs.{Codecs}
use Rattle.post_spec.specs.Contactors as contactors
use Rattle.post_spec.specs.Course.{Talked, course}
use Rattle.post_spec.specs.Facts.{now}
use Rattle.post_spec.specs.Sessions.{session, waits}
use Rattle.post_spec.specs.Steps.{Act, Give, Send, Answer, End, Seen, Did, Reading, Step, Hears, Does, seen_of}
use Rattle.station_spec.specs.States.{Agenda, Part, Repeating, Timing, Eventing, Wording, Session, State, Spoken, Todo, nothing, first, first_of, is_done, is_none}
use Rattle.station_spec.specs.States as states
use Rattle.station_spec.specs.Deciding.{ending_by, repeating, is_reached, due, timing, eventing, fronting, decide, from_wording, from_eventing, from_timing, from_repeating, from_part, decided}
use Rattle.station_spec.specs.Judging.{Payload, wanted, filled, IsRead}
use Rattle.station_spec.specs.Acting.{since_order, replied, failing, agenda_said, acted, state}
use Rattle.station_spec.specs.Next.{IsDone}
use Rattle.station_spec.specs.Sharing.{Shows}
use Rattle.station_laws.proofs.Decided.{same_session}
use Rattle.station_laws.proofs.Contactors.{contactors_are_read}
use Rattle.read_runs.specs.Courses.{talked_of, talked_in}
use Rattle.read_runs.proofs.Agendas.{done_empty, decided_done, decided_not, WantedIn, wanted_in, wanted_done}
use Rattle.read_runs.proofs.Courses.{courses_are_read}
use Rattle.read_runs.proofs.Facts.{facts_are_read}
use Rattle.read_sessions.specs.Sessions.{IsSessionOf}
use Rattle.read_sessions.proofs.Keeping.{session_now}
use Rattle.read_sessions.proofs.Streams.{done_session}
use Rattle.heard_deadlines.specs.Reached.{AreLateByHearing}
use Rattle.coming_causes_open.specs.Causing.{IsHeard}
use Rattle.standing_causes_open.proofs.Coming.{Late, act_before}
use Rattle.own_traces.proofs.Opening.{All, acted_all}
use Rattle.own_traces.proofs.Settling.{acted_part, read_part, todo_left}

pub differ : {A : Type 0} (b : Bool) → b ≡ true → b ≡ false → A
differ true h k = cc
differ false h k = cc

-- ---- a deadline that is reached behind an act was reached before it, and so it is bounded

span_some : (k : Timeout) → 1 ≤ span_of k
span_some Setup = let x : 1 ≤ 18000 = omega arith in x
span_some Sequence = let x : 1 ≤ 60000 = omega arith in x
span_some Feedback = let x : 1 ≤ 3000 = omega arith in x

anew : (k : Timeout) (n m : ℕ) → n ≡ m → n + span_of k ≤ m → ⊥
anew k n m e h = let s = span_some k in omega (arith, e, s, h)

counts_back : (k : Timeout) (a : Act) (taken : Bool) (zs : List Seen) (n : ℕ) → now zs ≡ n → counts_from k (Did a taken ∷ zs) + span_of k ≤ n → counts_from k (Did a taken ∷ zs) ≡ counts_from k zs
counts_back Setup a taken zs n e h = refl
counts_back Sequence (Give o) taken zs n e h = refl
counts_back Sequence (Send bytes) taken zs n e h = absurd (anew Sequence (now zs) n e h)
counts_back Sequence (Answer bytes) taken zs n e h = refl
counts_back Sequence (End cause) taken zs n e h = refl
counts_back Feedback (Give order.Open) taken zs n e h = refl
counts_back Feedback (Give order.Close) true zs n e h = absurd (anew Feedback (now zs) n e h)
counts_back Feedback (Give order.Close) false zs n e h = refl
counts_back Feedback (Give (order.Limits voltage current watts)) taken zs n e h = refl
counts_back Feedback (Send bytes) taken zs n e h = refl
counts_back Feedback (Answer bytes) taken zs n e h = refl
counts_back Feedback (End cause) taken zs n e h = refl

pub late_back : (plan : PostPlan) (r : Option Reading) (a : Act) (taken : Bool) (steps : List Step) → AreLateByHearing plan (Does r a taken ∷ steps) → Late plan (Does r a taken ∷ steps) → Late plan steps
late_back plan r a taken steps law l =
    let k : Timeout = running (is_set_up l.t.stage.row) (waits l.es) in
    let b = law.1 (running (is_set_up l.t.stage.row) (waits l.es)) (record { t = l.t; es = l.es; course_is = l.course_is; session_is = l.session_is; timeout_is = refl; reached = l.reached }) in
    let at = act_before plan r a taken steps l.es l.session_is in
    let same : at.0 ≡ b.es = (let x : Some at.0 ≡ Some b.es = sym at.1 ∙ b.session_is in cc) in
    let es_are : l.es ≡ Did a taken ∷ b.es = at.2 ∙ ap (λ (zs : List Seen). Did a taken ∷ zs) same in
    let here : counts_from (running (is_set_up l.t.stage.row) (waits l.es)) l.es ≡ counts_from (running (is_set_up l.t.stage.row) (waits l.es)) (Did a taken ∷ b.es) = ap (counts_from (running (is_set_up l.t.stage.row) (waits l.es))) es_are in
    let mine : causes.due (Some l.t) l.es ≡ counts_from (running (is_set_up l.t.stage.row) (waits l.es)) l.es + span_of (running (is_set_up l.t.stage.row) (waits l.es)) = refl in
    let theirs : counts_from (running (is_set_up l.t.stage.row) (waits l.es)) b.es + span_of (running (is_set_up l.t.stage.row) (waits l.es)) ≡ causes.due (Some b.t) b.es =
    ap (λ (x : Timeout). counts_from x b.es + span_of x) b.timeout_is in
    let time = session_now (map seen_of steps) b.es b.session_is in
    let le = l.reached in
    let lt = l.bound in
    let back = counts_back (running (is_set_up l.t.stage.row) (waits l.es)) a taken b.es (now (map seen_of steps)) time (omega (arith, here, mine, le)) in
    record { t = b.t; es = b.es; course_is = b.course_is; session_is = b.session_is; reached = b.reached; bound = omega (arith, theirs, back, here, mine, lt) }

-- ---- how far a block has come

abbrev pub IsMust : List Step → Type 0
IsMust steps = contactors.standing (map seen_of steps) ≡ standing.MustOpen

-- no order to open is owed, and no deadline is reached
abbrev pub IsFree : PostPlan → List Step → Type 0
IsFree plan steps = (IsMust steps → ⊥) × (Late plan steps → ⊥)

abbrev pub Holds : PostPlan → List Step → Part → Type 0
Holds plan steps Repeating = IsHeard steps
Holds plan steps Timing = IsMust steps → ⊥
Holds plan steps Eventing = ⊥
Holds plan steps Wording = IsFree plan steps

abbrev pub Unless : State → Type 0 → Type 0
Unless s A = s.agenda.ending ≡ None → is_some s.session ≡ true → A

abbrev pub Calm : PostPlan → List Step → State → Type 0
Calm plan steps s = Unless s (Holds plan steps s.part)

-- ---- what a part that decides nothing says

passes : (agenda : Agenda) (part : Part) (s rest : State) (b : Bool) → is_done agenda ≡ b → is_done (decide agenda part s rest).agenda ≡ true → is_done agenda ≡ true
passes agenda part s rest true e h = e
passes agenda part s rest false e h = let x = rw e at h in x

rest_done : (agenda : Agenda) (part : Part) (s rest : State) → is_done agenda ≡ true → is_done (decide agenda part s rest).agenda ≡ true → is_done rest.agenda ≡ true
rest_done agenda part s rest e h = let x = rw e at h in x

-- no order to open is owed
not_owed : (st : Standing) → is_done (repeating st) ≡ true → st ≡ standing.MustOpen → ⊥
not_owed standing.MustOpen h e = cc
not_owed standing.Opened h e = cc
not_owed standing.Closing h e = cc
not_owed standing.Closed h e = cc
not_owed standing.Opening h e = cc

repeated_not : (plan : PostPlan) (steps : List Step) → is_done (repeating (state plan steps).facts.contactor) ≡ true → IsMust steps → ⊥
repeated_not plan steps h must = not_owed (state plan steps).facts.contactor h ((contactors_are_read plan steps).standing_is ∙ must)

-- no deadline is reached
reached : (m n : ℕ) → m ≤ n → m < never → is_reached m n ≡ true
reached m n h k = grind (arith, nat_tests)

timed : (b : Bool) (k : EndCause) (on : Bool) → is_done (if b then ending_by k on else nothing) ≡ true → b ≡ true → ⊥
timed true k true h e = cc
timed true k false h e = cc
timed false k on h e = cc

late_not : (plan : PostPlan) (steps : List Step) (lives : Option (List Seen)) (kept : Option Session) (at : ℕ) (on : Bool) → session (map seen_of steps) ≡ lives → talked_in kept ≡ (course plan steps).session → now (map seen_of steps) ≡ at → IsSessionOf lives kept
    → is_done (timing kept at on) ≡ true → Late plan steps → ⊥
late_not plan steps None kept at on l k n i h late = let x : None ≡ Some late.es = sym l ∙ late.session_is in cc
late_not plan steps (Some es) None at on l k n i h late = absurd i
late_not plan steps (Some es) (Some ss) at on l k n i h late =
    let t_is : Some (talked_of ss) ≡ Some late.t = k ∙ late.course_is in
    let t : talked_of ss ≡ late.t = cc in
    let e_is : Some es ≡ Some late.es = sym l ∙ late.session_is in
    let e : es ≡ late.es = cc in
    let same : due ss ≡ causes.due (Some late.t) late.es = i.due_is ∙ ap (λ (x : Talked). causes.due (Some x) es) t ∙ ap (λ (zs : List Seen). causes.due (Some late.t) zs) e in
    let le : due ss ≤ at = subst (λ (m : ℕ). m ≤ at) (sym same) (subst (λ (m : ℕ). causes.due (Some late.t) late.es ≤ m) n late.reached) in
    let lt : due ss < never = subst (λ (m : ℕ). m < never) (sym same) late.bound in
    timed (is_reached (due ss) at) (cause_of (timeout_of ss.stage.row)) on h (reached (due ss) at le lt)

timing_not : (c : Codecs) (plan : PostPlan) (steps : List Step) → All c plan steps → is_done (state plan steps).agenda ≡ true → is_done (timing (state plan steps).session (state plan steps).clock (state plan steps).live) ≡ true → Late plan steps → ⊥
timing_not c plan steps all d h late =
    late_not plan steps (session (map seen_of steps)) (state plan steps).session (state plan steps).clock (state plan steps).live refl (courses_are_read c plan steps all.laws.run).session_is (sym (facts_are_read plan steps).clock_is) (done_session c plan steps all.laws.run d) h late

-- ---- where all parts decide nothing, the post is free

free_at : (c : Codecs) (plan : PostPlan) (steps : List Step) (p : Part) → All c plan steps → is_done (state plan steps).agenda ≡ true → Holds plan steps p → is_done (from_part plan p (state plan steps)).agenda ≡ true → IsFree plan steps
free_at c plan steps Repeating all d k h =
    let s = state plan steps in
    let a = passes (repeating s.facts.contactor) Timing s (from_timing plan s) _ refl h in
    let b = passes (timing s.session s.clock s.live) Eventing s (from_eventing plan s) _ refl (rest_done (repeating s.facts.contactor) Timing s (from_timing plan s) a h) in
    (repeated_not plan steps a, timing_not c plan steps all d b)
free_at c plan steps Timing all d k h =
    let s = state plan steps in
    (k, timing_not c plan steps all d (passes (timing s.session s.clock s.live) Eventing s (from_eventing plan s) _ refl h))
free_at c plan steps Eventing all d k h = absurd k
free_at c plan steps Wording all d k h = k

pub free_as : (c : Codecs) (plan : PostPlan) (steps : List Step) → All c plan steps → Calm plan steps (state plan steps) → is_done (state plan steps).agenda ≡ true → is_some (state plan steps).session ≡ true → is_done (decided plan (state plan steps)).agenda ≡ true → IsFree plan steps
free_as c plan steps all calm d lives h =
    let e = done_empty (state plan steps).agenda d in
    free_at c plan steps (state plan steps).part all d (calm e.ending lives) (sym (ap (λ (t : State). is_done t.agenda) (decided_done plan (state plan steps) d)) ∙ h)

-- ---- what is decided next

-- an order to open that is repeated goes first
abbrev Middle : PostPlan → List Step → State → Part → Type 0
Middle plan steps t Repeating = ⊥
Middle plan steps t Timing = ((t.agenda.order ≡ Some order.Open) × (t.agenda.datagram ≡ None)) ⊎ (IsMust steps → ⊥)
Middle plan steps t Eventing = ⊥
Middle plan steps t Wording = IsFree plan steps

-- where something is to be done
abbrev Mid : PostPlan → List Step → State → Type 0
Mid plan steps t = is_done t.agenda ≡ false → Unless t (Middle plan steps t t.part)

mid_by : (plan : PostPlan) (steps : List Step) (agenda : Agenda) (part : Part) (s rest : State) (b : Bool) → is_done agenda ≡ b → (b ≡ false → Mid plan steps (record s { agenda = agenda; part = part })) → (b ≡ true → Mid plan steps rest) → Mid plan steps (decide agenda part s rest)
mid_by plan steps agenda part s rest true e p q = rw e (q refl)
mid_by plan steps agenda part s rest false e p q = rw e (p refl)

mid_wording : (plan : PostPlan) (steps : List Step) (s : State) → is_done s.agenda ≡ true → IsFree plan steps → Mid plan steps (from_wording s)
mid_wording plan steps s d f = mid_by plan steps (fronting s.session s.live) Wording s s _ refl (λ b u e l. f) (λ b u. differ (is_done s.agenda) d u)

mid_eventing : (plan : PostPlan) (steps : List Step) (s : State) → is_done s.agenda ≡ true → IsFree plan steps → Mid plan steps (from_eventing plan s)
mid_eventing plan steps s d f = mid_by plan steps (eventing plan s.event s) Wording s (from_wording s) _ refl (λ b u e l. f) (λ b. mid_wording plan steps s d f)

timed_ends : (b : Bool) (k : EndCause) (on : Bool) → is_done (if b then ending_by k on else nothing) ≡ false → (if b then ending_by k on else nothing).ending ≡ None → ⊥
timed_ends true k on h e = cc
timed_ends false k on h e = cc

timing_ends : (kept : Option Session) (at : ℕ) (on : Bool) → is_done (timing kept at on) ≡ false → (timing kept at on).ending ≡ None → ⊥
timing_ends None at on h e = cc
timing_ends (Some ss) at on h e = timed_ends (is_reached (due ss) at) (cause_of (timeout_of ss.stage.row)) on h e

mid_timing : (c : Codecs) (plan : PostPlan) (steps : List Step) → All c plan steps → is_done (state plan steps).agenda ≡ true → (IsMust steps → ⊥) → Mid plan steps (from_timing plan (state plan steps))
mid_timing c plan steps all d f =
    let s = state plan steps in
    mid_by plan steps (timing s.session s.clock s.live) Eventing s (from_eventing plan s) (is_done (timing s.session s.clock s.live)) refl
    (λ b u e l. timing_ends s.session s.clock s.live b e)
    (λ b. mid_eventing plan steps s d (f, timing_not c plan steps all d b))

repeats_open : (st : Standing) → is_done (repeating st) ≡ false → ((repeating st).order ≡ Some order.Open) × ((repeating st).datagram ≡ None)
repeats_open standing.MustOpen h = (refl, refl)
repeats_open standing.Opened h = cc
repeats_open standing.Closing h = cc
repeats_open standing.Closed h = cc
repeats_open standing.Opening h = cc

mid_repeating : (c : Codecs) (plan : PostPlan) (steps : List Step) → All c plan steps → is_done (state plan steps).agenda ≡ true → Mid plan steps (from_repeating plan (state plan steps))
mid_repeating c plan steps all d =
    let s = state plan steps in
    mid_by plan steps (repeating s.facts.contactor) Timing s (from_timing plan s) (is_done (repeating s.facts.contactor)) refl
    (λ b u e l. inl (repeats_open s.facts.contactor b))
    (λ b. mid_timing c plan steps all d (repeated_not plan steps b))

abbrev Back : State → State → Type 0
Back t s = is_some t.session ≡ is_some s.session

mid_part : (c : Codecs) (plan : PostPlan) (steps : List Step) (p : Part) → All c plan steps → is_done (state plan steps).agenda ≡ true → Holds plan steps p → Mid plan steps (from_part plan p (state plan steps))
mid_part c plan steps Repeating all d k = mid_repeating c plan steps all d
mid_part c plan steps Timing all d k = mid_timing c plan steps all d k
mid_part c plan steps Eventing all d k = absurd k
mid_part c plan steps Wording all d k = mid_wording plan steps (state plan steps) d k

heard_done : (plan : PostPlan) (steps : List Step) → IsHeard steps → is_done (state plan steps).agenda ≡ true
heard_done plan [] h = absurd h
heard_done plan (Hears at e ∷ steps) h = refl
heard_done plan (Does r a taken ∷ steps) h = absurd h

going : (plan : PostPlan) (steps : List Step) (s : State) (p : Part) → (IsHeard steps → ⊥) → Holds plan steps p → Middle plan steps s p
going plan steps s Repeating n k = absurd (n k)
going plan steps s Timing n k = inr k
going plan steps s Eventing n k = absurd k
going plan steps s Wording n k = k

decided_mid : (c : Codecs) (plan : PostPlan) (steps : List Step) (b : Bool) → is_done (state plan steps).agenda ≡ b → All c plan steps → Calm plan steps (state plan steps) → Mid plan steps (decided plan (state plan steps))
decided_mid c plan steps true d all calm = λ u e l.
    let s = state plan steps in
    let n = done_empty s.agenda d in
    let lives : is_some s.session ≡ true = sym (ap is_some (same_session plan s)) ∙ l in
    (subst (Mid plan steps) (sym (decided_done plan s d)) (mid_part c plan steps s.part all d (calm n.ending lives))) u e l
decided_mid c plan steps false d all calm = λ u e l.
    let s = state plan steps in
    let same = decided_not plan s d in
    (subst (Mid plan steps) (sym same) (λ u e l. going plan steps s s.part (λ h. differ (is_done s.agenda) (heard_done plan steps h) d) (calm e l))) u e l

-- a word that is read
abbrev pub Reads : Codecs → PostPlan → (ℕ → ℕ → Type 0) → List Step → Option Reading → Type 0
Reads c plan S steps r = IsRead c plan S (decided plan (state plan steps)) (wanted (decided plan (state plan steps))) r

kept_lives : (s : State) (kept : Option Session) (p : Payload) → s.session ≡ kept → WantedIn s kept p → is_some s.session ≡ true
kept_lives s None p e i = absurd i
kept_lives s (Some ss) p e i = ap is_some e

-- what is known where a word is read: all was done before
pub record Resting (plan : PostPlan) (steps : List Step) : Type 0 where
  pub lives : is_some (state plan steps).session ≡ true
  pub done : is_done (decided plan (state plan steps)).agenda ≡ true
  pub before : is_done (state plan steps).agenda ≡ true

done_before : (plan : PostPlan) (s : State) (b : Bool) → is_done s.agenda ≡ b → is_done (decided plan s).agenda ≡ true → is_done s.agenda ≡ true
done_before plan s true e h = e
done_before plan s false e h = sym (ap (λ (t : State). is_done t.agenda) (decided_not plan s e)) ∙ h

pub reading_at : (c : Codecs) (plan : PostPlan) (S : ℕ → ℕ → Type 0) (steps : List Step) (w : Option Payload) (r : Reading) → wanted (decided plan (state plan steps)) ≡ w → IsRead c plan S (decided plan (state plan steps)) w (Some r) → Resting plan steps
reading_at c plan S steps None r e i = absurd i
reading_at c plan S steps (Some p) r e i =
    let t = decided plan (state plan steps) in
    let at = wanted_in t p e in
    let d = wanted_done t t.session p at in
    record { lives = sym (ap is_some (same_session plan (state plan steps))) ∙ kept_lives t t.session p refl at; done = d; before = done_before plan (state plan steps) _ refl d }

filled_mid : (c : Codecs) (plan : PostPlan) (S : ℕ → ℕ → Type 0) (steps : List Step) (r : Option Reading) → All c plan steps → Calm plan steps (state plan steps) → Reads c plan S steps r → Mid plan steps (filled plan r (state plan steps))
filled_mid c plan S steps None all calm i = decided_mid c plan steps _ refl all calm
filled_mid c plan S steps (Some r) all calm i = λ u e l.
    let at = reading_at c plan S steps (wanted (decided plan (state plan steps))) r refl i in
    let free = free_as c plan steps all calm at.before at.lives at.done in
    let part = read_part c plan S (state plan steps) r (wanted (decided plan (state plan steps))) refl i in
    subst (Middle plan steps (filled plan (Some r) (state plan steps))) (sym part) free

-- ---- an act

-- what is left has a cause, where it had one
pub record Left (f : State) : Type 0 where
  pub ending : f.agenda.ending ≡ None
  pub lives : is_some f.session ≡ true

some_back : (f : Session → Session) (kept : Option Session) → is_some (option_map f kept) ≡ true → is_some kept ≡ true
some_back f None h = cc
some_back f (Some ss) h = refl

failing_not : {A : Type 0} (e : Option EndCause) (kept : Option Session) (k : EndCause) (on : Bool) → (failing e kept k on).ending ≡ None → is_some kept ≡ true → A
failing_not None None k on h l = cc
failing_not None (Some ss) k on h l = cc
failing_not (Some x) kept k on h l = cc

said_left : (b : Option EndCause) (kept : Option Session) (a : Agenda) (on : Bool) → (agenda_said b kept a on).ending ≡ None → is_some kept ≡ true → a.ending ≡ None
said_left None kept a on h l = h
said_left (Some k) None a on h l = cc
said_left (Some k) (Some ss) a on h l = cc

pub left_back : (a : Act) (taken : Bool) (f : State) → (acted a taken f).agenda.ending ≡ None → is_some (acted a taken f).session ≡ true → Left f
left_back (Give o) true f e l = record { ending = e; lives = some_back (since_order f.clock o) f.session l }
left_back (Give o) false f e l = failing_not f.agenda.ending f.session _ _ e l
left_back (Send bytes) true f e l =
    let n = some_back (replied f.clock) f.session l in
    record { ending = said_left f.agenda.behind_reply f.session f.agenda f.live e n; lives = n }
left_back (Send bytes) false f e l = failing_not f.agenda.ending f.session _ _ e l
left_back (Answer bytes) taken f e l = record { ending = e; lives = l }
left_back (End cause) taken f e l = cc

-- an order to open that was taken is owed no more
must_given : (r : Option Reading) (o : Order) (steps : List Step) → (IsMust steps → ⊥) ⊎ (o ≡ order.Open) → IsMust (Does r (Give o) true ∷ steps) → ⊥
must_given r order.Open steps h must = cc
must_given r order.Close steps h must = cc
must_given r (order.Limits voltage current watts) steps (inl h) must = h must
must_given r (order.Limits voltage current watts) steps (inr h) must = cc

must_acted : (r : Option Reading) (a : Act) (taken : Bool) (f : State) (steps : List Step) → (acted a taken f).agenda.ending ≡ None → is_some (acted a taken f).session ≡ true → (IsMust steps → ⊥) ⊎ (a ≡ Give order.Open) → IsMust (Does r a taken ∷ steps) → ⊥
must_acted r (Give o) true f steps e l (inl h) must = must_given r o steps (inl h) must
must_acted r (Give o) true f steps e l (inr h) must = must_given r o steps (inr (let x : o ≡ order.Open = cc in x)) must
must_acted r (Give o) false f steps e l h must = failing_not f.agenda.ending f.session _ _ e l
must_acted r (Send bytes) taken f steps e l (inl h) must = h must
must_acted r (Send bytes) taken f steps e l (inr h) must = cc
must_acted r (Answer bytes) taken f steps e l (inl h) must = h must
must_acted r (Answer bytes) taken f steps e l (inr h) must = cc
must_acted r (End cause) taken f steps e l (inl h) must = h must
must_acted r (End cause) taken f steps e l (inr h) must = cc

-- what goes first is an order, where there is one and nothing is told
first_order : (d : Option (List ℕ)) (x : Option Order) (r : Option Spoken) (e : Option EndCause) (todo : Todo) (o : Order) → d ≡ None → x ≡ Some o → first_of d x r e ≡ Some todo → todo ≡ states.Give o
first_order None (Some y) r e todo o n h k =
    let same : y ≡ o = cc in
    let is : states.Give y ≡ todo = cc in
    sym is ∙ ap states.Give same
first_order None None r e todo o n h k = cc
first_order (Some d) x r e todo o n h k = cc

open_act : (c : Codecs) (todo : Todo) (a : Act) (taken : Bool) → todo ≡ states.Give order.Open → IsDone c todo a taken → a ≡ Give order.Open
open_act c (states.Tell d) a taken e i = cc
open_act c (states.Give o) a taken e i = let x : o ≡ order.Open = cc in i ∙ ap Give x
open_act c (states.Say spoken) a taken e i = cc
open_act c (states.Finish cause) a taken e i = cc

acted_holds : (c : Codecs) (plan : PostPlan) (r : Option Reading) (a : Act) (taken : Bool) (steps : List Step) (f : State) (todo : Todo) (p : Part) → AreLateByHearing plan (Does r a taken ∷ steps) → first f.agenda ≡ Some todo → IsDone c todo a taken
    → (acted a taken f).agenda.ending ≡ None → is_some (acted a taken f).session ≡ true → Middle plan steps f p → Holds plan (Does r a taken ∷ steps) p
acted_holds c plan r a taken steps f todo Repeating late t i e l m = m
acted_holds c plan r a taken steps f todo Timing late t i e l (inl m) =
    must_acted r a taken f steps e l (inr (open_act c todo a taken (first_order f.agenda.datagram f.agenda.order f.agenda.reply f.agenda.ending todo order.Open m.1 m.0 t) i))
acted_holds c plan r a taken steps f todo Timing late t i e l (inr m) = must_acted r a taken f steps e l (inl m)
acted_holds c plan r a taken steps f todo Eventing late t i e l m = m
acted_holds c plan r a taken steps f todo Wording late t i e l m = (must_acted r a taken f steps e l (inl m.0), λ k. m.1 (late_back plan r a taken steps late k))

pub steps_calm : (c : Codecs) (plan : PostPlan) (steps : List Step) → All c plan steps → Calm plan steps (state plan steps)
steps_calm c plan [] all = λ e l. cc
steps_calm c plan (Hears at e ∷ steps) all = λ n l. tt
steps_calm c plan (Does r a taken ∷ steps) all = λ e l.
    let before = acted_all c plan r a taken steps all in
    let f = filled plan r (state plan steps) in
    let acts = all.laws.run.1.3 in
    let S = Shows all.laws.run.1.0 all.laws.run.1.1 all.laws.run.1.2 in
    let left = left_back a taken f e l in
    let mid = filled_mid c plan (Shows all.laws.run.1.0 all.laws.run.1.1 all.laws.run.1.2) steps r before (steps_calm c plan steps before) acts.read (todo_left f.agenda acts.todo acts.acts) left.ending left.lives in
    subst (Holds plan (Does r a taken ∷ steps)) (sym (acted_part a taken f)) (acted_holds c plan r a taken steps f acts.todo f.part all.laws.late acts.acts acts.done e l mid)

-- so where a word is read, the post is free
pub read_free : (c : Codecs) (plan : PostPlan) (S : ℕ → ℕ → Type 0) (steps : List Step) (r : Reading) → All c plan steps → Reads c plan S steps (Some r) → IsFree plan steps
read_free c plan S steps r all i =
    let at = reading_at c plan S steps (wanted (decided plan (state plan steps))) r refl i in
    free_as c plan steps all (steps_calm c plan steps all) at.before at.lives at.done
