-- Each cause that is heard, and each call that failed, leads to an order to open.
use Rattle.std.proofs.Common.{◌≡◌, ◌≤◌, ◌<◌, ℕ, ◌+◌, Bool, true, false, List, [], ◌∷◌, ◌++◌, length, map, Option, Some, None, is_some, refl, sym, ap, subst, ◌∙◌, inl, inr, ◌⊎◌, MatchBool, IsSome, suc, arith}
use Rattle.std.specs.Option.{option_map}
use Rattle.charge_world.specs.declared.heard.PlantEvent.{PlantEvent}
use Rattle.charge_world.specs.declared.ports.Order.{Order}
use Rattle.charge_world.specs.declared.ports.Order.TheVariants as order
use Rattle.session_words.specs.declared.cause.EndCause.{EndCause}
use Rattle.session_words.specs.declared.cause.EndCause.TheVariants.{SendFailed, OrderFailed}
use Rattle.session_words.specs.declared.facts.Facts.{Facts}
use Rattle.session_words.specs.declared.phase.Standing.TheVariants as stood
use Rattle.session_words.specs.declared.plan.PostPlan.{PostPlan}
use Rattle.session_words.specs.declared.word.Ask.{Ask}
use Rattle.session_words.specs.declared.word.Ask.TheVariants as ask
use Rattle.session_words.specs.declared.word.Request.{Request}
use Rattle.session_timers.specs.Due.{never}
use Rattle.session_rules.specs.declared.stage.Stage.{Stage}
use Rattle.session_rules.specs.Causes.{plant_cause, word_cause}
use Rattle.session_rules.specs.Verdict.{verdict, is_accepted}
use Rattle.post_spec.specs.Causes.{IsCause, IsDue, IsTold, HasLeft, HasCome, IsOver, HasNotSent, HasNotDriven, HasNoMatch, IsWord}
use Rattle.post_spec.specs.Causes.{found_word}
use Rattle.post_spec.specs.Causes as causes
use Rattle.post_spec.specs.Spelled.{ReadsBack, AreDetermined}
use Rattle.post_spec.specs.Words.{HeardWord, chosen_by, Words, next_words}
use Rattle.charge_world.specs.declared.entry.Entry.{Entry}
use Rattle.session_words.specs.declared.plan.SitePlan.{SitePlan}
use Rattle.post_spec.specs.Codecs.{Negotiated, Asked, Codecs}
use Rattle.post_spec.specs.Talk.{Exchange, Negotiation, dialect_of, Negotiates, IsExchange, OneMore, InSession, Talks}
use Rattle.charge_world.specs.declared.offer.Dialect.{Dialect}
use Rattle.session_rules.specs.Stages.{is_waiting}
use Rattle.read_runs.proofs.Counting.{counted}
use Rattle.coming_causes_open.proofs.Spoken.{same_payload}
use Rattle.post_spec.specs.Course.{Talked, course, facts_of}
use Rattle.post_spec.specs.Facts.{now}
use Rattle.post_spec.specs.Contactors.{standing, live, live_as_told}
use Rattle.post_spec.specs.Kinds.{asks_opening}
use Rattle.post_spec.specs.Sessions.{session, with_seen, stream, waits}
use Rattle.post_spec.specs.Steps.{Event, Came, Bytes, Gone, Plant, Over, Act, Give, Send, Seen, Did, Reading, Step, Hears, Does, seen, seen_of}
use Rattle.station_spec.specs.States.{is_none, Response, Said, Spoken, Part, Wording, Session, State, nothing, first, first_of, is_done}
use Rattle.station_spec.specs.States.{Agenda}
use Rattle.station_spec.specs.States as states
use Rattle.station_spec.specs.Deciding.{repeating, timing, watch, charging, from_wording, from_part, decided, due, is_reached}
use Rattle.station_spec.specs.Judging.{cause_by, judged, taken_in, filled, wanted, IsRead}
use Rattle.station_spec.specs.Acting.{failing, agenda_said, live_ordered, state}
use Rattle.station_spec.specs.Hearing.{hearing}
use Rattle.station_spec.specs.Next.{IsDone, Acts}
use Rattle.station_spec.specs.Sharing.{Post, Shows}
use Rattle.station_spec.specs.Runs.{IsRun}
use Rattle.station_laws.specs.PostRuns.{IsPostRun, IsPostOf, ArePostsOf}
use Rattle.station_laws.proofs.Contactors.{contactors_are_read}
use Rattle.station_laws.proofs.Decided.{same_session, same_facts}
use Rattle.station_laws.proofs.PostRuns.{run_posts, post_at}
use Rattle.read_runs.specs.Courses.{talked_of, talked_in}
use Rattle.read_runs.proofs.Courses.{courses_are_read}
use Rattle.read_runs.proofs.Facts.{facts_are_read}
use Rattle.safe_runs.proofs.Asked.{IsStop, found_accepted}
use Rattle.safe_runs.proofs.Filled.{filled_linked}
use Rattle.safe_runs.proofs.Links.{Premise, Owes, Pending, Waits, Tie, LinkedAt, Linked, Clear}
use Rattle.safe_runs.proofs.Parts.{cleared}
use Rattle.safe_runs.proofs.Safety.{run_tied, run_linked}
use Rattle.safe_runs.proofs.Shut.{done_still}
use Rattle.safe_runs.proofs.Openings.{opening, must_open, opens_decided, runs_end_open}
use Rattle.coming_causes_open.specs.Causing.{IsHeard, IsNext, Comes, Repeats, WasAsked, IsFirst, IsFirstBehind, HasCause, OpenAtCauses, RunsOpenAtCauses, RunsEndAtCauses}
use Rattle.coming_causes_open.proofs.Deadlines.{steps_since, stands_waiting, due_is, reached}
use Rattle.coming_causes_open.proofs.Shutting.{filled_shutting, steps_shutting}
use Rattle.coming_causes_open.proofs.Ending.{Ends, steps_end, filled_ends, give_is, say_is}
use Rattle.coming_causes_open.proofs.Wording.{Next, opens_it, AtWords, word_next}
use Rattle.coming_causes_open.proofs.Worded.{Worded, filled_worded, steps_worded}
use Rattle.coming_causes_open.proofs.Opens.{repeating_opens, timing_opens, OpensIn, Opens, not_wanted, undone_opens, ending_opens, in_opens, hearing_opens, as_told}

-- A session that the past tells is kept.

lives : (plan : PostPlan) (steps : List Step) (es : List Seen) → session (map seen_of steps) ≡ Some es → is_some (state plan steps).session ≡ true
lives plan steps es h = (facts_are_read plan steps).session_is ∙ ap is_some h

is_live : (plan : PostPlan) (steps : List Step) → live (map seen_of steps) ≡ true → (state plan steps).live ≡ true
is_live plan steps h = (contactors_are_read plan steps).live_is ∙ h

-- the session that led there
pub record Kept (kept : Option Session) (t : Talked) : Type 0 where
  pub ss : Session
  pub kept_is : kept ≡ Some ss
  pub talked_is : talked_of ss ≡ t

kept_by : (kept : Option Session) (t : Talked) → talked_in kept ≡ Some t → Kept kept t
kept_by None t h = cc
kept_by (Some ss) t h = record { ss = ss; kept_is = refl; talked_is = (let x : Some (talked_of ss) ≡ Some t = h in cc) }

-- An event of the charger.

watch_is : (plan : PostPlan) (ss : Session) (s : State) (t : Talked) (before : List Seen) (at : ℕ) → talked_of ss ≡ t → s.stood ≡ standing before → s.live ≡ live before → s.clock ≡ at → watch plan ss s ≡ causes.watch plan t before (live before) at
watch_is plan ss s t before at e a b d = subst (λ (u : Talked). watch plan ss s ≡ causes.watch plan u before (live before) at) e (rw (a, b, d) refl)

charging_opens : (plan : PostPlan) (kept : Option Session) (ss : Session) (event : PlantEvent) (s : State) (cause : EndCause) → kept ≡ Some ss → plant_cause (watch plan ss s) event ≡ Some cause → s.live ≡ true → OpensIn (charging plan kept event s)
charging_opens plan kept ss event s cause k h l = rw (k, h) (ending_opens cause s.live l)

live_opens : (c : Codecs) (plan : PostPlan) (at : ℕ) (event : PlantEvent) (steps : List Step) (t : Talked) (cause : EndCause) → IsPostRun c plan (Hears at (Plant event) ∷ steps) → (course plan (Hears at (Plant event) ∷ steps)).session ≡ Some t
    → plant_cause (causes.watch plan t (map seen_of steps) (live (map seen_of steps)) at) event ≡ Some cause → live (map seen_of (Hears at (Plant event) ∷ steps)) ≡ true → Opens plan (state plan (Hears at (Plant event) ∷ steps))
live_opens c plan at event steps t cause run k h l =
    let s = state plan steps in
    let u = hearing at (Plant event) s in
    let x = kept_by u.session t ((courses_are_read c plan (Hears at (Plant event) ∷ steps) run).session_is ∙ k) in
    let i = contactors_are_read plan steps in
    let w = watch_is plan x.ss u t (map seen_of steps) at x.talked_is i.standing_is i.live_is refl in
    let on = is_live plan (Hears at (Plant event) ∷ steps) l in
    hearing_opens plan at (Plant event) s on (charging_opens plan u.session x.ss event u cause x.kept_is (ap (λ y. plant_cause y event) w ∙ h) on)

-- an order to open that is owed goes first
owed_opens : (plan : PostPlan) (at : ℕ) (event : PlantEvent) (steps : List Step) → standing (map seen_of steps) ≡ stood.MustOpen → Opens plan (state plan (Hears at (Plant event) ∷ steps))
owed_opens plan at event steps h = ap (λ (t : State). first t.agenda) (opens_decided plan at (Plant event) (state plan steps) ((contactors_are_read plan steps).standing_is ∙ h))

told_opens : (c : Codecs) (plan : PostPlan) (at : ℕ) (event : PlantEvent) (steps : List Step) (t : Talked) (cause : EndCause) → IsPostRun c plan (Hears at (Plant event) ∷ steps) → (course plan (Hears at (Plant event) ∷ steps)).session ≡ Some t
    → plant_cause (causes.watch plan t (map seen_of steps) (live_as_told (map seen_of steps)) at) event ≡ Some cause → live (map seen_of (Hears at (Plant event) ∷ steps)) ≡ true → Opens plan (state plan (Hears at (Plant event) ∷ steps))
told_opens c plan at event steps t cause run k h l = elim (as_told (standing (map seen_of steps)) (live (map seen_of steps))) [
  | inl owed ↦ owed_opens plan at event steps owed
  | inr same ↦ live_opens c plan at event steps t cause run k (subst (λ (on : Bool). plant_cause (causes.watch plan t (map seen_of steps) on at) event ≡ Some cause) same h) l
]

-- A call that failed, in a session that had no cause.

failing_opens : (e : Option EndCause) (kept : Option Session) (cause : EndCause) (on : Bool) → e ≡ None → is_some kept ≡ true → on ≡ true → OpensIn (failing e kept cause on)
failing_opens None kept cause on e k l = in_opens kept cause on k l
failing_opens (Some ending) kept cause on e k l = cc

no_cause : (e : Option EndCause) → ((k : EndCause) → e ≡ Some k → ⊥) → e ≡ None
no_cause None f = refl
no_cause (Some k) f = absurd (f k refl)

unsaid : (s : State) (spoken : Spoken) → Ends s → first s.agenda ≡ Some (states.Say spoken) → s.live ≡ true → s.agenda.ending ≡ None
unsaid s spoken h f l = no_cause s.agenda.ending (λ k e.
    let x = say_is s.agenda.datagram s.agenda.order s.agenda.reply s.agenda.ending spoken f in
    elim (h k e) [
      | inl y ↦ let z : None ≡ Some order.Open = sym x.1 ∙ y in cc
      | inr (y, inl r) ↦ let z : Some spoken ≡ None = sym x.0 ∙ r in cc
      | inr (y, inr n) ↦ let z : true ≡ false = sym l ∙ n in cc
    ])

undriven : (s : State) (o : Order) → Ends s → first s.agenda ≡ Some (states.Give o) → (o ≡ order.Open → ⊥) → s.agenda.ending ≡ None
undriven s o h f n = no_cause s.agenda.ending (λ k e.
    let x = give_is s.agenda.datagram s.agenda.order s.agenda.reply s.agenda.ending o f in
    elim (h k e) [
      | inl y ↦ n (let z : Some o ≡ Some order.Open = sym x ∙ y in cc)
      | inr y ↦ let z : Some o ≡ None = sym x ∙ y.0 in cc
    ])

-- which thing an act does
say_todo : (c : Codecs) (todo : states.Todo) (bytes : List ℕ) (taken : Bool) → IsDone c todo (Send bytes) taken → (spoken : Spoken) × (todo ≡ states.Say spoken)
say_todo c (states.Tell d) bytes taken i = cc
say_todo c (states.Give o) bytes taken i = cc
say_todo c (states.Say spoken) bytes taken i = (spoken, refl)
say_todo c (states.Finish cause) bytes taken i = absurd (let x : Send bytes ≡ _ = i.0 in cc)

give_todo : (c : Codecs) (todo : states.Todo) (o : Order) (taken : Bool) → IsDone c todo (Give o) taken → todo ≡ states.Give o
give_todo c (states.Tell d) o taken i = cc
give_todo c (states.Give x) o taken i = let y : Give o ≡ Give x = i in let z : x ≡ o = cc in ap states.Give z
give_todo c (states.Say spoken) o taken i = absurd (let x : Give o ≡ Send i.0 = i.2 in cc)
give_todo c (states.Finish cause) o taken i = absurd (let x : Give o ≡ _ = i.0 in cc)

unsent_opens : (c : Codecs) (plan : PostPlan) (S : ℕ → ℕ → Type 0) (r : Option Reading) (bytes : List ℕ) (steps : List Step) → IsPostRun c plan steps → Acts c plan S (state plan steps) r (Send bytes) false
    → is_some (state plan (Does r (Send bytes) false ∷ steps)).session ≡ true → (state plan (Does r (Send bytes) false ∷ steps)).live ≡ true → OpensIn (state plan (Does r (Send bytes) false ∷ steps)).agenda
unsent_opens c plan S r bytes steps run acts k l =
    let f = filled plan r (state plan steps) in
    let todo = say_todo c acts.todo bytes false acts.done in
    let n = unsaid f todo.0 (filled_ends plan r (state plan steps) (steps_end c plan steps run)) (acts.acts ∙ ap Some todo.1) l in
    failing_opens f.agenda.ending f.session SendFailed f.live n k l

-- an order to open that was no cause's
repeated : (c : Codecs) (plan : PostPlan) (S : ℕ → ℕ → Type 0) (r : Option Reading) (steps : List Step) → Repeats steps → IsRead c plan S (decided plan (state plan steps)) (wanted (decided plan (state plan steps))) r → (filled plan r (state plan steps)).agenda.ending ≡ None
repeated c plan S r [] h i = absurd h
repeated c plan S r (Does q a taken ∷ steps) h i = absurd h
repeated c plan S None (Hears at e ∷ steps) h i = ap (λ (t : State). t.agenda.ending) (opens_decided plan at e (state plan steps) (must_open plan steps h))
repeated c plan S (Some r) (Hears at e ∷ steps) h i =
    let d = opens_decided plan at e (state plan steps) (must_open plan steps h) in
    absurd (subst (λ p. IsRead c plan S (decided plan (hearing at e (state plan steps))) p (Some r)) (not_wanted (decided plan (hearing at e (state plan steps))) (ap (λ (t : State). first t.agenda) d)) i)

not_stop : (a : Ask) → asks_opening a ≡ true → IsStop a → ⊥
not_stop (ask.SessionStop pause) h s = cc
not_stop a h s = s

asked_none : (plan : PostPlan) (s : State) (ss : Session) (r : Request) (talked : Talked) (facts : Facts) → talked_of ss ≡ talked → s.facts ≡ facts → is_accepted (verdict talked.stage facts plan r) ≡ true → asks_opening r.ask ≡ true → cause_by ss.stage plan s r ≡ None
asked_none plan s ss r talked facts e f ok opening =
    let same : ss.stage ≡ talked.stage = ap (λ (t : Talked). t.stage) e in
    let here : is_accepted (verdict ss.stage s.facts plan r) ≡ true = subst (λ (x : Stage). is_accepted (verdict x s.facts plan r) ≡ true) (sym same) (subst (λ (x : Facts). is_accepted (verdict talked.stage x plan r) ≡ true) (sym f) ok) in
    found_accepted (verdict ss.stage s.facts plan r) r.ask (not_stop r.ask opening) here

asked_at : (plan : PostPlan) (t : State) (kept : Option Session) (r : Request) (shown : ℕ) (talked : Talked) (facts : Facts) → talked_in kept ≡ Some talked → t.facts ≡ facts → is_accepted (verdict talked.stage facts plan r) ≡ true → asks_opening r.ask ≡ true
    → (taken_in plan t kept (record { judged = Asked r; shown = shown })).agenda.ending ≡ None
asked_at plan t None r shown talked facts k f ok opening = cc
asked_at plan t (Some ss) r shown talked facts k f ok opening = asked_none plan t ss r talked facts (let x : Some (talked_of ss) ≡ Some talked = k in cc) f ok opening

was_asked : (c : Codecs) (plan : PostPlan) (r : Option Reading) (steps : List Step) → IsPostRun c plan steps → WasAsked plan steps r → (filled plan r (state plan steps)).agenda.ending ≡ None
was_asked c plan r steps run w =
    let s = state plan steps in
    let t = decided plan s in
    let i = courses_are_read c plan steps run in
    let k : talked_in t.session ≡ Some w.talked = ap talked_in (same_session plan s) ∙ i.session_is ∙ w.session_is in
    let h = asked_at plan t t.session w.request w.shown w.talked (facts_of (map seen_of steps) (course plan steps)) k (same_facts plan s ∙ i.facts_are) w.accepted w.opening in
    subst (λ (x : Option Reading). (filled plan x s).agenda.ending ≡ None) (sym w.reading_is) h

undriven_none : (c : Codecs) (plan : PostPlan) (S : ℕ → ℕ → Type 0) (r : Option Reading) (o : Order) (steps : List Step) → IsPostRun c plan steps → Acts c plan S (state plan steps) r (Give o) false → IsFirstBehind plan r (Give o) false steps
    → (filled plan r (state plan steps)).agenda.ending ≡ None
undriven_none c plan S r order.Open steps run acts (inl h) = repeated c plan S r steps h acts.read
undriven_none c plan S r order.Open steps run acts (inr h) = was_asked c plan r steps run h
undriven_none c plan S r order.Close steps run acts h =
    undriven (filled plan r (state plan steps)) order.Close (filled_ends plan r (state plan steps) (steps_end c plan steps run)) (acts.acts ∙ ap Some (give_todo c acts.todo order.Close false acts.done)) (λ e. cc)
undriven_none c plan S r (order.Limits voltage current watts) steps run acts h =
    undriven (filled plan r (state plan steps)) (order.Limits voltage current watts) (filled_ends plan r (state plan steps) (steps_end c plan steps run))
    (acts.acts ∙ ap Some (give_todo c acts.todo (order.Limits voltage current watts) false acts.done)) (λ e. cc)

undriven_opens : (c : Codecs) (plan : PostPlan) (S : ℕ → ℕ → Type 0) (r : Option Reading) (o : Order) (steps : List Step) → IsPostRun c plan steps → Acts c plan S (state plan steps) r (Give o) false → IsFirstBehind plan r (Give o) false steps
    → is_some (state plan (Does r (Give o) false ∷ steps)).session ≡ true → (state plan (Does r (Give o) false ∷ steps)).live ≡ true → OpensIn (state plan (Does r (Give o) false ∷ steps)).agenda
undriven_opens c plan S r o steps run acts h k l =
    let f = filled plan r (state plan steps) in
    failing_opens f.agenda.ending f.session OrderFailed (live_ordered o false f.live) (undriven_none c plan S r o steps run acts h) k l

-- The next word.

-- with the session that the past tells
at_words : (c : Codecs) (plan : PostPlan) (steps : List Step) (es : List Seen) (ss : Session) → ReadsBack c → IsPostRun c plan steps → is_done (state plan steps).agenda ≡ true → Clear c plan (map seen_of steps) (state plan steps) → live (map seen_of steps) ≡ true
    → session (map seen_of steps) ≡ Some es → (state plan steps).session ≡ Some ss → AtWords c plan (map seen_of steps) (course plan steps) (state plan steps) es ss
at_words c plan steps es ss back run d k l here kept =
    let t = run_tied c plan steps back run in
    record {
      done = d;
      clear = k;
      still = done_still (map seen_of steps) (state plan steps) d t.shut;
      live_is = is_live plan steps l;
      facts_are = (courses_are_read c plan steps run).facts_are;
      session_is = here;
      kept_is = kept;
    }

word_there : (c : Codecs) (plan : PostPlan) (steps : List Step) (t : Talked) (es : List Seen) (words tail : List HeardWord) (word : HeardWord) (cause : EndCause) → ReadsBack c → AreDetermined c → IsPostRun c plan steps
    → is_done (state plan steps).agenda ≡ true → Clear c plan (map seen_of steps) (state plan steps) → decided plan (state plan steps) ≡ from_wording (state plan steps) → live (map seen_of steps) ≡ true
    → (course plan steps).session ≡ Some t → session (map seen_of steps) ≡ Some es → Words c plan.dialects.items (stream es) words → next_words es words ≡ word ∷ tail
    → word_cause (waits es) (found_word t (map seen_of steps) (course plan steps) plan word) ≡ Some cause → Next c plan (state plan steps)
word_there c plan steps t es words tail word cause back det run d k f l led here heard next h =
    let s = state plan steps in
    let x = kept_by s.session t ((courses_are_read c plan steps run).session_is ∙ led) in
    let a = at_words c plan steps es x.ss back run d k l here x.kept_is in
    word_next c plan (map seen_of steps) (course plan steps) s es x.ss words tail word cause det a f heard next
    (subst (λ (u : Talked). word_cause (waits es) (found_word u (map seen_of steps) (course plan steps) plan word) ≡ Some cause) (sym x.talked_is) h)

-- behind bytes that came
heard_front : (plan : PostPlan) (at : ℕ) (bytes : List ℕ) (s : State) (b d : Bool) → s.live ≡ true → is_done (repeating s.facts.contactor) ≡ b → is_done (timing (hearing at (Bytes bytes) s).session at s.live) ≡ d
    → Opens plan (hearing at (Bytes bytes) s) ⊎ (decided plan (hearing at (Bytes bytes) s) ≡ from_wording (hearing at (Bytes bytes) s))
heard_front plan at bytes s false d l e f = inl (rw e (repeating_opens s.facts.contactor e))
heard_front plan at bytes s true false l e f = inl (rw (e, f) (timing_opens (hearing at (Bytes bytes) s).session at s.live l f))
heard_front plan at bytes s true true l e f = inr (rw (e, f) refl)

-- behind a reply that was sent
from_done : (plan : PostPlan) (s : State) → is_done s.agenda ≡ true → s.part ≡ Wording → decided plan s ≡ from_wording s
from_done plan s d p = rw d (ap (λ (q : Part). from_part plan q s) p)

clear_at : (c : Codecs) (plan : PostPlan) (past : List Seen) (s : State) → is_done s.agenda ≡ true → s.part ≡ Wording → Linked c plan past s → Clear c plan past s
clear_at c plan past s d p l =
    subst (λ (q : Part). LinkedAt c plan past s.arrived s.facts s.session nothing (Premise q s.event)) p (cleared c plan past s.arrived s.facts s.session (Premise s.part s.event) s.agenda d l)

first_say : (d : Option (List ℕ)) (o : Option Order) (r : Option Spoken) (e : Option EndCause) (x : Spoken) → first_of d o r e ≡ Some (states.Say x) → (d ≡ None) × (o ≡ None) × (r ≡ Some x)
first_say (Some d) o r e x h = cc
first_say None (Some o) r e x h = cc
first_say None None (Some r) e x h = (refl, refl, cc)
first_say None None None (Some e) x h = cc
first_say None None None None x h = cc

said_done : (b : Option EndCause) (s : State) → b ≡ None → s.agenda.datagram ≡ None → s.agenda.order ≡ None → s.agenda.ending ≡ None → is_done (agenda_said b s.session s.agenda s.live) ≡ true
said_done None s e d o n = rw (d, o, n) refl
said_done (Some k) s e d o n = cc

worded_part : (s : State) (spoken : Spoken) → s.agenda.reply ≡ Some spoken → Worded s → s.part ≡ Wording
worded_part s spoken r (inl h) = h
worded_part s spoken r (inr h) = absurd (let x : Some spoken ≡ None = sym r ∙ h.1 in cc)

said_opens : (b : Option EndCause) (k : EndCause) (kept : Option Session) (a : Agenda) (on : Bool) → b ≡ Some k → is_some kept ≡ true → on ≡ true → OpensIn (agenda_said b kept a on)
said_opens None k kept a on e h l = cc
said_opens (Some cause) k kept a on e h l = in_opens kept cause on h l

map_some : (f : Session → Session) (kept : Option Session) → is_some (option_map f kept) ≡ true → is_some kept ≡ true
map_some f None h = h
map_some f (Some ss) h = refl

-- what was sent, and what stands behind it
pub record Sent (s : State) (spoken : Spoken) : Type 0 where
  pub datagram : s.agenda.datagram ≡ None
  pub order : s.agenda.order ≡ None
  pub reply : s.agenda.reply ≡ Some spoken
  pub ending : s.agenda.ending ≡ None
  pub part : s.part ≡ Wording

sent_at : (c : Codecs) (plan : PostPlan) (S : ℕ → ℕ → Type 0) (r : Option Reading) (bytes : List ℕ) (steps : List Step) → IsPostRun c plan steps → Acts c plan S (state plan steps) r (Send bytes) true → (filled plan r (state plan steps)).live ≡ true
    → (spoken : Spoken) × Sent (filled plan r (state plan steps)) spoken
sent_at c plan S r bytes steps run acts l =
    let f = filled plan r (state plan steps) in
    let todo = say_todo c acts.todo bytes true acts.done in
    let h = acts.acts ∙ ap Some todo.1 in
    let x = first_say f.agenda.datagram f.agenda.order f.agenda.reply f.agenda.ending todo.0 h in (
      todo.0,
      record {
        datagram = x.0;
        order = x.1;
        reply = x.2;
        ending = unsaid f todo.0 (filled_ends plan r (state plan steps) (steps_end c plan steps run)) h l;
        part = worded_part f todo.0 x.2 (filled_worded plan r (state plan steps) (steps_worded plan steps));
      },
    )

-- a reply, and what it leaves
sent_next : (c : Codecs) (plan : PostPlan) (r : Option Reading) (bytes : List ℕ) (before : List Step) (t : Talked) (es : List Seen) (words tail : List HeardWord) (word : HeardWord) (cause : EndCause) (b : Option EndCause) → (filled plan r (state plan before)).agenda.behind_reply ≡ b → ReadsBack c → AreDetermined c
    → IsPostRun c plan (Does r (Send bytes) true ∷ before) → live (map seen_of (Does r (Send bytes) true ∷ before)) ≡ true → (course plan (Does r (Send bytes) true ∷ before)).session ≡ Some t → session (map seen_of (Does r (Send bytes) true ∷ before)) ≡ Some es
    → Words c plan.dialects.items (stream es) words → next_words es words ≡ word ∷ tail → word_cause (waits es) (found_word t (map seen_of (Does r (Send bytes) true ∷ before)) (course plan (Does r (Send bytes) true ∷ before)) plan word) ≡ Some cause
    → Next c plan (state plan (Does r (Send bytes) true ∷ before))
sent_next c plan r bytes before t es words tail word cause (Some k) e back det run l led here heard next h =
    let all = Does r (Send bytes) true ∷ before in
    let f = filled plan r (state plan before) in
    let kept = map_some _ f.session (lives plan all es here) in
    opens_it c plan (state plan all) (undone_opens plan (state plan all) (said_opens f.agenda.behind_reply k f.session f.agenda f.live e kept (is_live plan all l)))
sent_next c plan r bytes before t es words tail word cause None e back det (run, (limit, front, behind, acts)) l led here heard next h =
    let all = Does r (Send bytes) true ∷ before in
    let f = filled plan r (state plan before) in
    let s = state plan all in
    let x = sent_at c plan (Shows limit front behind) r bytes before run acts (is_live plan all l) in
    let d : is_done s.agenda ≡ true = said_done f.agenda.behind_reply f e x.1.datagram x.1.order x.1.ending in
    let tied = run_tied c plan all back (run, (limit, front, behind, acts)) in
    word_there c plan all t es words tail word cause back det (run, (limit, front, behind, acts)) d (clear_at c plan (map seen_of all) s d x.1.part tied.linked) (from_done plan s d x.1.part) l led here heard next h

-- bytes that came
brought_next : (c : Codecs) (plan : PostPlan) (at : ℕ) (bytes : List ℕ) (before : List Step) (t : Talked) (es : List Seen) (words tail : List HeardWord) (word : HeardWord) (cause : EndCause) → ReadsBack c → AreDetermined c → IsPostRun c plan (Hears at (Bytes bytes) ∷ before)
    → live (map seen_of (Hears at (Bytes bytes) ∷ before)) ≡ true → (course plan (Hears at (Bytes bytes) ∷ before)).session ≡ Some t → session (map seen_of (Hears at (Bytes bytes) ∷ before)) ≡ Some es
    → Words c plan.dialects.items (stream es) words → next_words es words ≡ word ∷ tail → word_cause (waits es) (found_word t (map seen_of (Hears at (Bytes bytes) ∷ before)) (course plan (Hears at (Bytes bytes) ∷ before)) plan word) ≡ Some cause
    → Next c plan (state plan (Hears at (Bytes bytes) ∷ before))
brought_next c plan at bytes before t es words tail word cause back det run l led here heard next h =
    let all = Hears at (Bytes bytes) ∷ before in
    let s = state plan all in
    let on = is_live plan all l in
    let tied = run_tied c plan all back run in
    elim (heard_front plan at bytes (state plan before) (is_done (repeating (state plan before).facts.contactor)) (is_done (timing s.session at (state plan before).live)) on refl refl) [
      | inl x ↦ opens_it c plan s x
      | inr x ↦ word_there c plan all t es words tail word cause back det run refl tied.linked x l led here heard next h
    ]

-- behind an order to close that was taken
first_give : (d : Option (List ℕ)) (o : Option Order) (r : Option Spoken) (e : Option EndCause) (x : Order) → first_of d o r e ≡ Some (states.Give x) → (d ≡ None) × (o ≡ Some x)
first_give (Some d) o r e x h = cc
first_give None (Some o) r e x h = (refl, cc)
first_give None None (Some r) e x h = cc
first_give None None None (Some e) x h = cc
first_give None None None None x h = cc

given_done : (a : Agenda) → a.datagram ≡ None → a.reply ≡ None → a.ending ≡ None → is_done (record a { order = None }) ≡ true
given_done a d r e = rw (d, r, e) refl

closed_next : (c : Codecs) (plan : PostPlan) (r : Option Reading) (before : List Step) (t : Talked) (es : List Seen) (words tail : List HeardWord) (word : HeardWord) (cause : EndCause) → ReadsBack c → AreDetermined c
    → IsPostRun c plan (Does r (Give order.Close) true ∷ before) → live (map seen_of (Does r (Give order.Close) true ∷ before)) ≡ true → (course plan (Does r (Give order.Close) true ∷ before)).session ≡ Some t → session (map seen_of (Does r (Give order.Close) true ∷ before)) ≡ Some es
    → Words c plan.dialects.items (stream es) words → next_words es words ≡ word ∷ tail → word_cause (waits es) (found_word t (map seen_of (Does r (Give order.Close) true ∷ before)) (course plan (Does r (Give order.Close) true ∷ before)) plan word) ≡ Some cause
    → Next c plan (state plan (Does r (Give order.Close) true ∷ before))
closed_next c plan r before t es words tail word cause back det (run, (limit, front, behind, acts)) l led here heard next h =
    let all = Does r (Give order.Close) true ∷ before in
    let b = state plan before in
    let f = filled plan r b in
    let s = state plan all in
    let todo = acts.acts ∙ ap Some (give_todo c acts.todo order.Close true acts.done) in
    let x = first_give f.agenda.datagram f.agenda.order f.agenda.reply f.agenda.ending order.Close todo in
    let n = undriven f order.Close (filled_ends plan r b (steps_end c plan before run)) todo (λ e. cc) in
    let k = filled_shutting plan r b (steps_shutting c plan before run) x.1 in
    let d : is_done s.agenda ≡ true = given_done f.agenda x.0 k.0 n in
    let tied = run_tied c plan all back (run, (limit, front, behind, acts)) in
    word_there c plan all t es words tail word cause back det (run, (limit, front, behind, acts)) d (clear_at c plan (map seen_of all) s d k.1 tied.linked) (from_done plan s d k.1) l led here heard next h

-- A negotiation that matched nothing.

pub record NoMatch (c : Codecs) (offers : List Dialect) (past : List Seen) (bytes : List ℕ) : Type 0 where
  pub zs : List Seen
  pub session_is : session past ≡ Some zs
  pub heard : Negotiates c offers (stream zs) bytes None
  pub before : Talks c offers past []

tail_is : (x y : Exchange) (xs ys : List Exchange) → x ∷ xs ≡ y ∷ ys → (x ≡ y) × (xs ≡ ys)
tail_is x y xs ys h = (cc, cc)

no_match_in : (c : Codecs) (offers : List Dialect) (past : List Seen) (bytes : List ℕ) (lives : Option (List Seen)) → session past ≡ lives → InSession lives (λ zs. OneMore c offers zs past bytes (Talks c offers past) (Negotiation None ∷ [])) (Negotiation None ∷ [] ≡ []) → NoMatch c offers past bytes
no_match_in c offers past bytes None l t = absurd (cc)
no_match_in c offers past bytes (Some zs) l t =
    let e = tail_is (Negotiation None) t.newest [] t.earlier t.xs_are in
    record {
      zs = zs;
      session_is = l;
      heard = subst (λ (x : Exchange). IsExchange c offers (stream zs) [] bytes past x) (sym e.0) (subst (λ (xs : List Exchange). IsExchange c offers (stream zs) xs bytes past t.newest) (sym e.1) t.is);
      before = subst (λ (xs : List Exchange). Talks c offers past xs) (sym e.1) t.before;
    }

empty_list : (xs : List Exchange) → length xs ≡ 0 → xs ≡ []
empty_list [] h = refl
empty_list (x ∷ xs) h = absurd (let l : length (x ∷ xs) ≡ suc (length xs) = refl in omega (arith, h, l))

no_dialect : (xs : List Exchange) (d : Dialect) → xs ≡ [] → dialect_of xs ≡ Some d → ⊥
no_dialect xs d n h = absurd (let y : None ≡ Some d = sym (ap dialect_of n) ∙ h in cc)

some_of : (b : Option EndCause) → IsSome b → (k : EndCause) × (b ≡ Some k)
some_of None h = absurd (cc)
some_of (Some k) h = (k, refl)

owed_cause : (c : Codecs) (plan : PostPlan) (past es : List Seen) (xs : List Exchange) (stage : Stage) (spoken : Spoken) (behind : Option EndCause) (V : Type 0) (bytes : List ℕ) → AreDetermined c → xs ≡ [] → Negotiates c plan.dialects.items (stream es) bytes None
    → Owes c plan past es xs stage spoken behind V → (k : EndCause) × (behind ≡ Some k)
owed_cause c plan past es xs stage (Said d reply) behind V bytes det n g (r, asks, ok, owed) = absurd (no_dialect xs d n asks.dialect_is)
owed_cause c plan past es xs stage (Response response) behind V bytes det n g (none, (None, payload, place, neg, chosen)) = some_of behind chosen
owed_cause c plan past es xs stage (Response response) behind V bytes det n g (none, (Some d, payload, place, neg, chosen)) =
    let same : g.payload ≡ payload = same_payload (stream es) 0 g.payload payload g.first place in
    let e = det.negotiates plan.dialects.items payload (Negotiated (Some d) response) (Negotiated None g.response) neg (subst (λ (x : List ℕ). c.Negotiates plan.dialects.items x (Negotiated None g.response)) same g.judged) in
    absurd (let x : Some d ≡ None = ap chosen_by e in cc)

talk_cause : (c : Codecs) (plan : PostPlan) (past es : List Seen) (xs : List Exchange) (taken : ℕ) (stage : Stage) (spoken : Spoken) (behind : Option EndCause) (V : Type 0) (bytes : List ℕ) (b : Bool) → AreDetermined c → xs ≡ [] → Negotiates c plan.dialects.items (stream es) bytes None
    → MatchBool b (Waits c plan past es xs taken stage (Some spoken) V) (Pending c plan past es xs taken stage (Some spoken) behind V) → (k : EndCause) × (behind ≡ Some k)
talk_cause c plan past es xs taken stage spoken behind V bytes true det n g t = absurd (no_dialect xs stage.dialect n t.asks.dialect_is)
talk_cause c plan past es xs taken stage spoken behind V bytes false det n g t = owed_cause c plan past es xs stage spoken behind V bytes det n g t.1

tie_cause : (c : Codecs) (plan : PostPlan) (past : List Seen) (ending : Option EndCause) (lives : Option (List Seen)) (kept : Option Session) (reply : Option Spoken) (spoken : Spoken) (behind : Option EndCause) (V : Type 0) (es : List Seen) (bytes : List ℕ) → AreDetermined c
    → ending ≡ None → session past ≡ lives → lives ≡ Some es → reply ≡ Some spoken → Negotiates c plan.dialects.items (stream es) bytes None → Talks c plan.dialects.items past [] → Tie c plan past ending lives kept reply behind V → (k : EndCause) × (behind ≡ Some k)
tie_cause c plan past (Some k) lives kept reply spoken behind V es bytes det n q l r g t tie = cc
tie_cause c plan past None None kept reply spoken behind V es bytes det n q l r g t tie = cc
tie_cause c plan past None (Some ys) None reply spoken behind V es bytes det n q l r g t tie = absurd tie
tie_cause c plan past None (Some ys) (Some ss) None spoken behind V es bytes det n q l r g t tie = cc
tie_cause c plan past None (Some ys) (Some ss) (Some said) spoken behind V es bytes det n q l r g t tie =
    let y : ys ≡ es = cc in
    let a = counted c plan.dialects.items past ys tie.xs q tie.talks in
    let b = counted c plan.dialects.items past ys [] q t in
    let none = empty_list tie.xs (sym a ∙ b) in
    talk_cause c plan past ys tie.xs tie.taken ss.stage said behind V bytes (is_waiting ss.stage.row) det none (subst (λ (zs : List Seen). Negotiates c plan.dialects.items (stream zs) bytes None) (sym y) g) tie.talk

unmatched_next : (c : Codecs) (plan : PostPlan) (r : Option Reading) (bytes : List ℕ) (before : List Step) → ReadsBack c → AreDetermined c → IsPostRun c plan (Does r (Send bytes) true ∷ before) → live (map seen_of (Does r (Send bytes) true ∷ before)) ≡ true
    → Talks c plan.dialects.items (map seen_of (Does r (Send bytes) true ∷ before)) (Negotiation None ∷ []) → Next c plan (state plan (Does r (Send bytes) true ∷ before))
unmatched_next c plan r bytes before back det (run, (limit, front, behind, acts)) l talks =
    let all = Does r (Send bytes) true ∷ before in
    let past = map seen_of before in
    let b = state plan before in
    let f = filled plan r b in
    let m = no_match_in c plan.dialects.items past bytes (session past) refl talks in
    let x = sent_at c plan (Shows limit front behind) r bytes before run acts (is_live plan all l) in
    let linked = filled_linked c plan (Shows limit front behind) past b r acts.read (run_linked c plan before back run) in
    let k = tie_cause c plan past f.agenda.ending (session past) f.session f.agenda.reply x.0 f.agenda.behind_reply (Premise f.part f.event) m.zs bytes det x.1.ending refl m.session_is x.1.reply m.heard m.before linked.tie in
    let kept = map_some _ f.session (lives plan all (Did (Send bytes) true ∷ m.zs) (ap (with_seen (Did (Send bytes) true)) m.session_is)) in
    opens_it c plan (state plan all) (undone_opens plan (state plan all) (said_opens f.agenda.behind_reply k.0 f.session f.agenda f.live k.1 kept (is_live plan all l)))

next_opens : (c : Codecs) (plan : PostPlan) (steps : List Step) (t : Talked) (es : List Seen) (words tail : List HeardWord) (word : HeardWord) (cause : EndCause) → ReadsBack c → AreDetermined c → IsNext steps → IsPostRun c plan steps → live (map seen_of steps) ≡ true
    → (course plan steps).session ≡ Some t → session (map seen_of steps) ≡ Some es → Words c plan.dialects.items (stream es) words → next_words es words ≡ word ∷ tail
    → word_cause (waits es) (found_word t (map seen_of steps) (course plan steps) plan word) ≡ Some cause → Next c plan (state plan steps)
next_opens c plan [] t es words tail word cause back det b run l led here heard next h = absurd b
next_opens c plan (Hears at (Bytes bytes) ∷ before) t es words tail word cause back det b run l led here heard next h = brought_next c plan at bytes before t es words tail word cause back det run l led here heard next h
next_opens c plan (Does r (Send bytes) true ∷ before) t es words tail word cause back det b run l led here heard next h =
    sent_next c plan r bytes before t es words tail word cause (filled plan r (state plan before)).agenda.behind_reply refl back det run l led here heard next h
next_opens c plan (Does r (Give order.Close) true ∷ before) t es words tail word cause back det b run l led here heard next h = closed_next c plan r before t es words tail word cause back det run l led here heard next h
next_opens c plan (Hears at event ∷ before) t es words tail word cause back det b run l led here heard next h = absurd b
next_opens c plan (Does r a taken ∷ before) t es words tail word cause back det b run l led here heard next h = absurd b

-- A deadline.

first_timing : (plan : PostPlan) (at : ℕ) (e : Event) (s : State) (b : Bool) → is_done (repeating (hearing at e s).facts.contactor) ≡ b → OpensIn (timing (hearing at e s).session at s.live) → Opens plan (hearing at e s)
first_timing plan at e s false d h = rw d (repeating_opens (hearing at e s).facts.contactor d)
first_timing plan at e s true d h = let n : is_done (timing (hearing at e s).session at s.live) ≡ false = ap is_none h in rw (d, n) h

timing_due : (kept : Option Session) (ss : Session) (clock : ℕ) (on : Bool) → kept ≡ Some ss → is_reached (due ss) clock ≡ true → on ≡ true → OpensIn (timing kept clock on)
timing_due kept ss clock on k r l = rw (k, r, l) refl

due_next : (c : Codecs) (plan : PostPlan) (at : ℕ) (e : Event) (before : List Step) (t : Talked) (es : List Seen) → ReadsBack c → IsPostRun c plan (Hears at e ∷ before) → live (map seen_of (Hears at e ∷ before)) ≡ true → (course plan (Hears at e ∷ before)).session ≡ Some t
    → session (map seen_of (Hears at e ∷ before)) ≡ Some es → causes.due (Some t) es ≤ at → causes.due (Some t) es < never → Next c plan (state plan (Hears at e ∷ before))
due_next c plan at e before t es back run l led here le lt =
    let all = Hears at e ∷ before in
    let s = state plan all in
    let x = kept_by s.session t ((courses_are_read c plan all run).session_is ∙ led) in
    let tied = run_tied c plan all back run in
    let p = steps_since c plan all back run es x.ss here x.kept_is refl in
    let w = stands_waiting c plan all es x.ss tied.linked (done_still (map seen_of all) s refl tied.shut) here x.kept_is refl in
    let d = due_is es x.ss t x.talked_is w p in
    let r = subst (λ (m : ℕ). is_reached m at ≡ true) (sym d) (reached (causes.due (Some t) es) at le lt) in
    opens_it c plan s (first_timing plan at e (state plan before) (is_done (repeating s.facts.contactor)) refl (timing_due s.session x.ss at s.live x.kept_is r (is_live plan all l)))

deadline_opens : (c : Codecs) (plan : PostPlan) (steps : List Step) (t : Talked) (es : List Seen) → IsHeard steps → ReadsBack c → IsPostRun c plan steps → live (map seen_of steps) ≡ true → (course plan steps).session ≡ Some t → session (map seen_of steps) ≡ Some es
    → causes.due (Some t) es ≤ now (map seen_of steps) → causes.due (Some t) es < never → Next c plan (state plan steps)
deadline_opens c plan [] t es b back run l led here le lt = absurd b
deadline_opens c plan (Hears at e ∷ before) t es b back run l led here le lt = due_next c plan at e before t es back run l led here le lt
deadline_opens c plan (Does r a taken ∷ before) t es b back run l led here le lt = absurd b

-- Every cause.

cause_opens : (c : Codecs) (plan : PostPlan) (steps : List Step) (cause : EndCause) (k : IsCause c plan steps cause) → ReadsBack c → AreDetermined c → Comes c plan steps cause k → live (map seen_of steps) ≡ true → IsFirst plan steps → IsPostRun c plan steps → Next c plan (state plan steps)
cause_opens c plan steps cause (IsTold at event before t it session_is told) back det b l f run = opens_it c plan (state plan (Hears at (Plant event) ∷ before)) (told_opens c plan at event before t it run session_is told l)
cause_opens c plan steps cause (HasLeft at before es session_is) back det b l f run =
    let on = is_live plan (Hears at Gone ∷ before) l in
    opens_it c plan (hearing at Gone (state plan before)) (hearing_opens plan at Gone (state plan before) on (in_opens (hearing at Gone (state plan before)).session _ (state plan before).live (lives plan (Hears at Gone ∷ before) es session_is) on))
cause_opens c plan steps cause (HasCome at token before es session_is) back det b l f run =
    let on = is_live plan (Hears at (Came token) ∷ before) l in
    opens_it c plan (hearing at (Came token) (state plan before)) (hearing_opens plan at (Came token) (state plan before) on (in_opens (hearing at (Came token) (state plan before)).session _ (state plan before).live (lives plan (Hears at (Came token) ∷ before) es session_is) on))
cause_opens c plan steps cause (IsOver at before es session_is) back det b l f run =
    let on = is_live plan (Hears at Over ∷ before) l in
    opens_it c plan (hearing at Over (state plan before)) (hearing_opens plan at Over (state plan before) on (in_opens (hearing at Over (state plan before)).session _ (state plan before).live (lives plan (Hears at Over ∷ before) es session_is) on))
cause_opens c plan steps cause (HasNotSent reading bytes before es session_is) back det b l f (run, (limit, front, behind, acts)) =
    let all = Does reading (Send bytes) false ∷ before in
    opens_it c plan (state plan all) (undone_opens plan (state plan all) (unsent_opens c plan (Shows limit front behind) reading bytes before run acts (lives plan all es session_is) (is_live plan all l)))
cause_opens c plan steps cause (HasNotDriven reading o before es session_is) back det b l f (run, (limit, front, behind, acts)) =
    let all = Does reading (Give o) false ∷ before in
    opens_it c plan (state plan all) (undone_opens plan (state plan all) (undriven_opens c plan (Shows limit front behind) reading o before run acts f (lives plan all es session_is) (is_live plan all l)))
cause_opens c plan steps cause (IsDue before t es course_is session_is reached bound) back det b l f run = deadline_opens c plan before t es b back run l course_is session_is reached bound
cause_opens c plan steps cause (HasNoMatch reading bytes before talks) back det b l f run = unmatched_next c plan reading bytes before back det run l talks
cause_opens c plan steps cause (IsWord before t es words rest word it course_is session_is heard next judged) back det b l f run = next_opens c plan before t es words rest word it back det b run l course_is session_is heard next judged

steps_cause : (c : Codecs) (plan : PostPlan) (steps : List Step) → ReadsBack c → AreDetermined c → IsPostRun c plan steps → HasCause c plan steps → Next c plan (state plan steps)
steps_cause c plan steps back det run b = cause_opens c plan steps b.cause b.is back det b.comes b.live_is b.first run

steps_open : (c : Codecs) (plan : PostPlan) (steps : List Step) → ReadsBack c → AreDetermined c → IsPostRun c plan steps → OpenAtCauses c plan steps
steps_open c plan [] back det run = tt
steps_open c plan (Hears at e ∷ steps) back det run = (steps_open c plan steps back det run.0, λ b. absurd ((steps_cause c plan steps back det run.0 b).busy run.1))
steps_open c plan (Does r a taken ∷ steps) back det (run, (limit, before, behind, acts)) = (
  steps_open c plan steps back det run,
  λ b. (r, taken, ap (λ (x : Act). Does r x taken) ((steps_cause c plan steps back det run b).acts (Shows limit before behind) r a taken acts)),
)

run_of : (c : Codecs) (site : SitePlan) (past : List Entry) (posts before : List Post) (post : Post) (behind : List Post) → IsRun c site past posts → posts ≡ before ++ post ∷ behind → IsPostOf c past (length before + 1) post
run_of c site past posts before post behind run is = post_at c past (length before + 1) 1 before post behind refl (subst (ArePostsOf c past 1) is (run_posts c site past posts run))

pub runs_open : (c : Codecs) → RunsOpenAtCauses c
runs_open c site past posts before post behind back det run is =
    let p = run_of c site past posts before post behind run is in
    (steps_open c post.plan post.steps back det p.run, λ q b. (steps_cause c post.plan post.steps back det p.run b).busy q)

ends_live : (past blocks : List Seen) (b : Bool) → b ≡ true → MatchBool b ((taken : Bool) × (past ≡ Did (Give order.Open) taken ∷ blocks)) (past ≡ blocks) → (taken : Bool) × (past ≡ Did (Give order.Open) taken ∷ blocks)
ends_live past blocks true e m = m
ends_live past blocks false e m = cc

pub runs_end : (c : Codecs) → RunsEndAtCauses c
runs_end c site past blocks posts before post behind cause run closes is k l =
    let n = length before + 1 in
    let p = run_of c site blocks posts before post behind run is in
    ends_live (seen n past) (seen n blocks) (live (seen n blocks)) (ap live p.seen_is ∙ l) (runs_end_open c site past blocks posts before post behind run closes is)
