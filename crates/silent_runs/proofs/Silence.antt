-- Replies and ends are of sessions.
use Rattle.std.proofs.Common.{◌≡◌, ℕ, ◌+◌, Bool, true, false, List, [], ◌∷◌, length, map, Option, Some, None, IsSome, is_some, refl, sym, ap, subst, ◌∙◌}
use Rattle.std.specs.Option.{option_map}
use Rattle.charge_world.specs.declared.heard.PlantEvent.{PlantEvent}
use Rattle.charge_world.specs.declared.ports.Order.{Order}
use Rattle.session_words.specs.declared.cause.EndCause.{EndCause}
use Rattle.session_words.specs.declared.phase.Standing.{Standing}
use Rattle.session_words.specs.declared.phase.Standing.TheVariants as standing
use Rattle.session_words.specs.declared.plan.PostPlan.{PostPlan}
use Rattle.post_spec.specs.Codecs.{Judged, Negotiated, Asked, WrongSide, Refused, Codecs}
use Rattle.post_spec.specs.Sessions.{arriving, session_behind, session, brought}
use Rattle.post_spec.specs.Steps.{Event, Came, Bytes, Gone, Datagram, Plant, Clock, Over, Act, Give, Send, Answer, End, Seen, Heard, Did, Reading, Step, Hears, Does, seen_of}
use Rattle.station_spec.specs.States.{Spoken, Agenda, Session, State, nothing, first, first_of}
use Rattle.station_spec.specs.States as states
use Rattle.station_spec.specs.Deciding.{ending_in, repeating, timing, eventing, charging, fronting, decided}
use Rattle.station_spec.specs.Judging.{judged, taken_in, read, filled}
use Rattle.station_spec.specs.Hearing.{arrival, session_opened, with_bytes}
use Rattle.station_spec.specs.Acting.{since_order, replied, failing, agenda_said, acted, state}
use Rattle.station_spec.specs.Next.{IsDone}
use Rattle.station_laws.specs.PostRuns.{IsPostRun, ArePostsOf}
use Rattle.station_laws.proofs.Decided.{decided_by, same_session}
use Rattle.station_laws.proofs.PostRuns.{run_posts, post_at}
use Rattle.silent_runs.specs.Silent.{InSession, IsSilent, RunsAreSilent}

-- A session lives in the past exactly where the post keeps one.

abbrev lives : {A : Type 0} → Option A → Bool
lives = is_some

map_lives : {A B : Type 0} (f : A → B) (o : Option A) → is_some (option_map f o) ≡ is_some o
map_lives f None = refl
map_lives f (Some a) = refl

judged_lives : (plan : PostPlan) (s : State) (ss : Session) (w : Judged) (shown : ℕ) → is_some (judged plan s ss w shown).session ≡ true
judged_lives plan s ss (Negotiated chosen response) shown = refl
judged_lives plan s ss (Asked r) shown = refl
judged_lives plan s ss WrongSide shown = refl
judged_lives plan s ss Refused shown = refl

taken_lives : (plan : PostPlan) (s : State) (kept : Option Session) (r : Reading) → s.session ≡ kept → is_some (taken_in plan s kept r).session ≡ is_some kept
taken_lives plan s None r k = ap is_some k
taken_lives plan s (Some ss) r k = judged_lives plan s ss r.judged r.shown

read_lives : (plan : PostPlan) (s : State) (r : Option Reading) → is_some (read plan s r).session ≡ is_some s.session
read_lives plan s None = refl
read_lives plan s (Some r) = taken_lives plan s s.session r refl

filled_lives : (plan : PostPlan) (r : Option Reading) (s : State) → is_some (filled plan r s).session ≡ is_some s.session
filled_lives plan r s = read_lives plan (decided plan s) r ∙ ap is_some (same_session plan s)

arrives_same : (at : ℕ) (e : Event) (past : List Seen) → is_some (arriving (Heard at e ∷ past)) ≡ is_some (arrival e)
arrives_same at (Came token) past = refl
arrives_same at (Bytes bytes) past = refl
arrives_same at Gone past = refl
arrives_same at (Datagram bytes) past = refl
arrives_same at (Plant event) past = refl
arrives_same at Clock past = refl
arrives_same at Over past = refl

opened_same : (came : Option Seen) (arrived : Option ℕ) (es : Option (List Seen)) (kept : Option Session) (now : ℕ) → is_some came ≡ is_some arrived → is_some es ≡ is_some kept → is_some (session_behind came es) ≡ is_some (session_opened arrived now kept)
opened_same None None es kept now a h = h
opened_same None (Some token) es kept now a h = cc
opened_same (Some came) None es kept now a h = cc
opened_same (Some came) (Some token) es kept now a h = refl

pub record Lives (past : List Seen) (s : State) : Type 0 where
  pub arrives : is_some (arriving past) ≡ is_some s.arrived
  pub lives : is_some (session past) ≡ is_some s.session

acted_same : (past : List Seen) (a : Act) (taken : Bool) (s : State) → Lives past s → Lives (Did a taken ∷ past) (acted a taken s)
acted_same past (Give o) true s l = record { arrives = l.arrives; lives = map_lives (λ es. Did (Give o) true ∷ es) (session past) ∙ l.lives ∙ sym (map_lives (since_order s.clock o) s.session) }
acted_same past (Give o) false s l = record { arrives = l.arrives; lives = map_lives (λ es. Did (Give o) false ∷ es) (session past) ∙ l.lives }
acted_same past (Send bytes) true s l = record { arrives = l.arrives; lives = map_lives (λ es. Did (Send bytes) true ∷ es) (session past) ∙ l.lives ∙ sym (map_lives (replied s.clock) s.session) }
acted_same past (Send bytes) false s l = record { arrives = l.arrives; lives = map_lives (λ es. Did (Send bytes) false ∷ es) (session past) ∙ l.lives }
acted_same past (Answer bytes) taken s l = record { arrives = l.arrives; lives = map_lives (λ es. Did (Answer bytes) taken ∷ es) (session past) ∙ l.lives }
acted_same past (End cause) taken s l = record { arrives = l.arrives; lives = refl }

arrived_stays : (plan : PostPlan) (s : State) (ss : Session) (w : Judged) (shown : ℕ) → (judged plan s ss w shown).arrived ≡ s.arrived
arrived_stays plan s ss (Negotiated chosen response) shown = refl
arrived_stays plan s ss (Asked r) shown = refl
arrived_stays plan s ss WrongSide shown = refl
arrived_stays plan s ss Refused shown = refl

arrived_taken : (plan : PostPlan) (s : State) (kept : Option Session) (r : Reading) → (taken_in plan s kept r).arrived ≡ s.arrived
arrived_taken plan s None r = refl
arrived_taken plan s (Some ss) r = arrived_stays plan s ss r.judged r.shown

arrived_read : (plan : PostPlan) (s : State) (r : Option Reading) → (read plan s r).arrived ≡ s.arrived
arrived_read plan s None = refl
arrived_read plan s (Some r) = arrived_taken plan s s.session r

arrived_decided : (plan : PostPlan) (s : State) → (decided plan s).arrived ≡ s.arrived
arrived_decided plan s = decided_by (λ t. t.arrived ≡ s.arrived) plan s (λ d. record { repeats = refl; times = refl; events = refl; fronts = refl }) refl

pub filled_same : (plan : PostPlan) (past : List Seen) (r : Option Reading) (s : State) → Lives past s → Lives past (filled plan r s)
filled_same plan past r s l = record {
  arrives = l.arrives ∙ sym (ap is_some (arrived_read plan (decided plan s) r ∙ arrived_decided plan s));
  lives = l.lives ∙ sym (filled_lives plan r s);
}

pub steps_live : (plan : PostPlan) (steps : List Step) → Lives (map seen_of steps) (state plan steps)
steps_live plan [] = record { arrives = refl; lives = refl }
steps_live plan (Hears at e ∷ steps) =
    let l = steps_live plan steps in
    let past = map seen_of steps in
    let s = state plan steps in
    record {
      arrives = arrives_same at e past;
      lives = map_lives (λ es. Heard at e ∷ es) (session_behind (arriving past) (session past)) ∙ opened_same (arriving past) s.arrived (session past) s.session s.clock l.arrives l.lives
          ∙ sym (map_lives (with_bytes (brought e)) (session_opened s.arrived s.clock s.session));
    }
steps_live plan (Does r a taken ∷ steps) = acted_same (map seen_of steps) a taken (filled plan r (state plan steps)) (filled_same plan (map seen_of steps) r (state plan steps) (steps_live plan steps))

-- Without a session nothing is to be said, and nothing to be ended.

abbrev Nothing : Agenda → Type 0
Nothing a = (a.reply ≡ None) × (a.ending ≡ None)

abbrev pub Idle : State → Type 0
Idle s = s.session ≡ None → Nothing s.agenda

repeating_idle : (st : Standing) → Nothing (repeating st)
repeating_idle standing.MustOpen = (refl, refl)
repeating_idle standing.Opened = (refl, refl)
repeating_idle standing.Closing = (refl, refl)
repeating_idle standing.Closed = (refl, refl)
repeating_idle standing.Opening = (refl, refl)

timing_idle : (kept : Option Session) (now : ℕ) (live : Bool) → kept ≡ None → Nothing (timing kept now live)
timing_idle None now live k = (refl, refl)
timing_idle (Some ss) now live k = cc

ending_idle : (kept : Option Session) (cause : EndCause) (live : Bool) → kept ≡ None → Nothing (ending_in kept cause live)
ending_idle None cause live k = (refl, refl)
ending_idle (Some ss) cause live k = cc

charging_idle : (plan : PostPlan) (kept : Option Session) (e : PlantEvent) (s : State) → kept ≡ None → Nothing (charging plan kept e s)
charging_idle plan None e s k = (refl, refl)
charging_idle plan (Some ss) e s k = cc

eventing_idle : (plan : PostPlan) (e : Event) (s : State) → s.session ≡ None → Nothing (eventing plan e s)
eventing_idle plan (Came token) s k = ending_idle s.session _ s.live k
eventing_idle plan (Bytes bytes) s k = (refl, refl)
eventing_idle plan Gone s k = ending_idle s.session _ s.live k
eventing_idle plan (Datagram bytes) s k = (refl, refl)
eventing_idle plan (Plant event) s k = charging_idle plan s.session event s k
eventing_idle plan Clock s k = (refl, refl)
eventing_idle plan Over s k = ending_idle s.session _ s.live k

fronting_idle : (kept : Option Session) (live : Bool) → kept ≡ None → Nothing (fronting kept live)
fronting_idle None live k = (refl, refl)
fronting_idle (Some ss) live k = cc

decided_idle : (plan : PostPlan) (s : State) → Idle s → Idle (decided plan s)
decided_idle plan s h = decided_by Idle plan s
    (λ d. record {
      repeats = λ k. repeating_idle s.facts.contactor;
      times = timing_idle s.session s.clock s.live;
      events = eventing_idle plan s.event s;
      fronts = fronting_idle s.session s.live;
    }) h

judged_idle : (plan : PostPlan) (s : State) (ss : Session) (w : Judged) (shown : ℕ) → Idle (judged plan s ss w shown)
judged_idle plan s ss (Negotiated chosen response) shown k = cc
judged_idle plan s ss (Asked r) shown k = cc
judged_idle plan s ss WrongSide shown k = cc
judged_idle plan s ss Refused shown k = cc

taken_idle : (plan : PostPlan) (s : State) (kept : Option Session) (r : Reading) → Idle s → Idle (taken_in plan s kept r)
taken_idle plan s None r h = h
taken_idle plan s (Some ss) r h = judged_idle plan s ss r.judged r.shown

read_idle : (plan : PostPlan) (s : State) (r : Option Reading) → Idle s → Idle (read plan s r)
read_idle plan s None h = h
read_idle plan s (Some r) h = taken_idle plan s s.session r h

pub filled_idle : (plan : PostPlan) (r : Option Reading) (s : State) → Idle s → Idle (filled plan r s)
filled_idle plan r s h = read_idle plan (decided plan s) r (decided_idle plan s h)

failing_idle : (e : Option EndCause) (kept : Option Session) (cause : EndCause) (live : Bool) → kept ≡ None → e ≡ None → Nothing (failing e kept cause live)
failing_idle None kept cause live k n = ending_idle kept cause live k
failing_idle (Some c) kept cause live k n = cc

none_map : (f : Session → Session) (kept : Option Session) → option_map f kept ≡ None → kept ≡ None
none_map f None h = refl
none_map f (Some ss) h = cc

said_idle : (b : Option EndCause) (kept : Option Session) (a : Agenda) (live : Bool) → kept ≡ None → a.ending ≡ None → Nothing (agenda_said b kept a live)
said_idle None kept a live k n = (refl, n)
said_idle (Some c) kept a live k n = ending_idle kept c live k

acted_idle : (a : Act) (taken : Bool) (s : State) → Idle s → Idle (acted a taken s)
acted_idle (Give o) true s h k = let n = h (none_map (since_order s.clock o) s.session k) in (n.0, n.1)
acted_idle (Give o) false s h k = failing_idle s.agenda.ending s.session _ _ k (h k).1
acted_idle (Send bytes) true s h k = let m = none_map (replied s.clock) s.session k in said_idle s.agenda.behind_reply s.session s.agenda s.live m (h m).1
acted_idle (Send bytes) false s h k = failing_idle s.agenda.ending s.session _ _ k (h k).1
acted_idle (Answer bytes) taken s h k = let n = h k in (n.0, n.1)
acted_idle (End cause) taken s h k = (refl, refl)

pub steps_idle : (plan : PostPlan) (steps : List Step) → Idle (state plan steps)
steps_idle plan [] = λ k. (refl, refl)
steps_idle plan (Hears at e ∷ steps) = λ k. (refl, refl)
steps_idle plan (Does r a taken ∷ steps) = acted_idle a taken (filled plan r (state plan steps)) (filled_idle plan r (state plan steps) (steps_idle plan steps))

-- So a reply and an end are of a session.

say_work : (d : Option (List ℕ)) (o : Option Order) (r : Option Spoken) (e : Option EndCause) (x : Spoken) → first_of d o r e ≡ Some (states.Say x) → r ≡ None → ⊥
say_work (Some d) o r e x h n = cc
say_work None (Some o) r e x h n = cc
say_work None None (Some r) e x h n = cc
say_work None None None (Some e) x h n = cc
say_work None None None None x h n = cc

finish_work : (d : Option (List ℕ)) (o : Option Order) (r : Option Spoken) (e : Option EndCause) (x : EndCause) → first_of d o r e ≡ Some (states.Finish x) → e ≡ None → ⊥
finish_work (Some d) o r e x h n = cc
finish_work None (Some o) r e x h n = cc
finish_work None None (Some r) e x h n = cc
finish_work None None None (Some e) x h n = cc
finish_work None None None None x h n = cc

kept_some : (kept : Option Session) → (kept ≡ None → ⊥) → is_some kept ≡ true
kept_some None h = absurd (h refl)
kept_some (Some ss) h = refl

some_is : {A : Type 0} (o : Option A) → is_some o ≡ true → IsSome o
some_is None h = cc
some_is (Some a) h = refl

act_in : (c : Codecs) (past : List Seen) (s : State) (todo : states.Todo) (a : Act) (taken : Bool) → Lives past s → Idle s → first s.agenda ≡ Some todo → IsDone c todo a taken → InSession a past
act_in c past s (states.Tell d) a taken l i f x = subst (λ (y : Act). InSession y past) (sym x) tt
act_in c past s (states.Give o) a taken l i f x = subst (λ (y : Act). InSession y past) (sym x) tt
act_in c past s (states.Say spoken) a taken l i f x =
    subst (λ (y : Act). InSession y past) (sym x.2)
    (some_is (session past) (l.lives ∙ kept_some s.session (λ k. say_work s.agenda.datagram s.agenda.order s.agenda.reply s.agenda.ending spoken f (i k).0)))
act_in c past s (states.Finish cause) a taken l i f x =
    subst (λ (y : Act). InSession y past) (sym x.0)
    (some_is (session past) (l.lives ∙ kept_some s.session (λ k. finish_work s.agenda.datagram s.agenda.order s.agenda.reply s.agenda.ending cause f (i k).1)))

steps_silent : (c : Codecs) (plan : PostPlan) (steps : List Step) → IsPostRun c plan steps → IsSilent (map seen_of steps)
steps_silent c plan [] run = tt
steps_silent c plan (Hears at e ∷ steps) run = steps_silent c plan steps run.0
steps_silent c plan (Does r a taken ∷ steps) (run, (limit, before, behind, acts)) = (
  steps_silent c plan steps run,
  act_in c (map seen_of steps) (filled plan r (state plan steps)) acts.todo a taken (filled_same plan (map seen_of steps) r (state plan steps) (steps_live plan steps))
      (filled_idle plan r (state plan steps) (steps_idle plan steps)) acts.acts acts.done,
)

pub runs_are_silent : (c : Codecs) → RunsAreSilent c
runs_are_silent c site past posts before post behind run is =
    let all = subst (ArePostsOf c past 1) is (run_posts c site past posts run) in
    let k = post_at c past (length before + 1) 1 before post behind refl all in
    subst IsSilent (sym k.seen_is) (steps_silent c post.plan post.steps k.run)
