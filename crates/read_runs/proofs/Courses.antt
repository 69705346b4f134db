-- Where the words of a session have led it.
use Rattle.std.proofs.Common.{◌≡◌, ℕ, Bool, true, false, List, [], ◌∷◌, map, Option, Some, None, refl, sym, ap, subst, ◌∙◌}
use Rattle.std.specs.Option.{option_map}
use Rattle.charge_world.specs.declared.heard.PlantEvent.TheVariants as plant
use Rattle.charge_world.specs.declared.offer.Dialect.{Dialect}
use Rattle.charge_world.specs.declared.ports.Order.{Order}
use Rattle.charge_world.specs.declared.ports.Order.TheVariants as order
use Rattle.session_words.specs.declared.cause.EndCause.{EndCause}
use Rattle.session_words.specs.declared.cause.EndCause.TheVariants as cause
use Rattle.session_words.specs.declared.facts.Facts.{Facts}
use Rattle.session_words.specs.declared.phase.Standing.{Standing}
use Rattle.session_words.specs.declared.plan.PostPlan.{PostPlan}
use Rattle.session_words.specs.declared.session.SessionId.{SessionId}
use Rattle.session_words.specs.declared.word.Request.{Request}
use Rattle.session_words.specs.Causes.{number_of}
use Rattle.session_rules.specs.Moves.{facts_behind}
use Rattle.post_spec.specs.Codecs.{Judged, Negotiated, Asked, WrongSide, Refused, Codecs}
use Rattle.post_spec.specs.Course.{Talked, Course, unmoved, opened, renew_heard, facts_of, asked_talk, read_in, read_by, confirmed_in, kept_by, course}
use Rattle.post_spec.specs.Course as course
use Rattle.post_spec.specs.Facts.{now}
use Rattle.post_spec.specs.Contactors.{standing}
use Rattle.post_spec.specs.Sessions.{arriving, brought}
use Rattle.post_spec.specs.Steps.{Event, Came, Plant, Act, End, Seen, Heard, Did, Reading, Step, Hears, Does, seen_of}
use Rattle.station_spec.specs.States.{Spoken, Session, State, Todo, first, first_of}
use Rattle.station_spec.specs.States as states
use Rattle.station_spec.specs.Deciding.{decided}
use Rattle.station_spec.specs.Judging.{judged, taken_in, read, filled}
use Rattle.station_spec.specs.Hearing.{heard_facts, session_opened, with_bytes}
use Rattle.station_spec.specs.Acting.{since_order, replied, kept_behind, acted, state}
use Rattle.station_spec.specs.Next.{IsDone}
use Rattle.station_spec.specs.Sharing.{asked_in, told_in}
use Rattle.station_laws.specs.PostRuns.{IsPostRun}
use Rattle.station_laws.proofs.Contactors.{contactors_are_read}
use Rattle.station_laws.proofs.Decided.{same_session, same_facts}
use Rattle.read_runs.specs.Courses.{talked_of, talked_in, CoursesAreRead}
use Rattle.read_runs.proofs.Arrivals.{Arrives, steps_arrive, came_unjoined}
use Rattle.read_runs.proofs.Facts.{Charger, charger_of, charger, steps_charger, steps_clock, Hearing, decided_hearing}

-- the facts are the charger's, its contactor's, and those of the course
abbrev facts_with : Charger → Standing → Option SessionId → Bool → Bool → Facts
facts_with x contactor kept joined renew = record {
  pilot = x.pilot;
  isolation = x.isolation;
  voltage = x.voltage;
  current = x.current;
  paid = x.paid;
  stop = x.stop;
  contactor = contactor;
  kept = kept;
  joined = joined;
  renew = renew;
}

abbrev moved_of : State → Course
moved_of s = record { session = talked_in s.session; kept = s.facts.kept; joined = s.facts.joined; renew = s.facts.renew }

facts_by : (f : Facts) (past : List Seen) (c : Course) → charger_of f ≡ charger past → f.contactor ≡ standing past → f.kept ≡ c.kept → f.joined ≡ c.joined → f.renew ≡ c.renew → f ≡ facts_of past c
facts_by f past c h st k j r =
    ap (λ (x : Charger). facts_with x f.contactor f.kept f.joined f.renew) h
    ∙ ap (λ (x : Standing). facts_with (charger past) x f.kept f.joined f.renew) st
    ∙ ap (λ (x : Option SessionId). facts_with (charger past) (standing past) x f.joined f.renew) k
    ∙ ap (λ (x : Bool). facts_with (charger past) (standing past) c.kept x f.renew) j
    ∙ ap (λ (x : Bool). facts_with (charger past) (standing past) c.kept c.joined x) r

-- a word
chosen_talked : (ss : Session) (plan : PostPlan) (s : State) (past : List Seen) (c : Course) (chosen : Option Dialect) (response : List ℕ) (shown : ℕ)
    → talked_in (judged plan s ss (Negotiated chosen response) shown).session ≡ (read_in (talked_of ss) past c plan (Negotiated chosen response) shown).session
chosen_talked ss plan s past c None response shown = refl
chosen_talked ss plan s past c (Some dialect) response shown = refl

asked_moved : (plan : PostPlan) (s : State) (ss : Session) (past : List Seen) (c : Course) (r : Request) (shown : ℕ) → s.facts ≡ facts_of past c → s.clock ≡ now past
    → moved_of (judged plan s ss (Asked r) shown) ≡ read_in (talked_of ss) past c plan (Asked r) shown
asked_moved plan s ss past c r shown f n =
    ap (λ (x : Facts). course.asked_course (talked_of ss) x (facts_behind ss.stage x plan r) plan r shown s.clock) f
    ∙ ap (λ (at : ℕ). course.asked_course (talked_of ss) (facts_of past c) (facts_behind ss.stage (facts_of past c) plan r) plan r shown at) n

judged_moved : (plan : PostPlan) (s : State) (ss : Session) (w : Judged) (past : List Seen) (c : Course) (shown : ℕ) → s.facts ≡ facts_of past c → s.clock ≡ now past → moved_of s ≡ c → s.session ≡ Some ss
    → moved_of (judged plan s ss w shown) ≡ read_in (talked_of ss) past c plan w shown
judged_moved plan s ss (Negotiated chosen response) past c shown f n m k =
    ap (λ (x : Course). record x { session = talked_in (judged plan s ss (Negotiated chosen response) shown).session }) m
    ∙ ap (λ (x : Option Talked). record c { session = x }) (chosen_talked ss plan s past c chosen response shown)
judged_moved plan s ss (Asked r) past c shown f n m k = asked_moved plan s ss past c r shown f n
judged_moved plan s ss WrongSide past c shown f n m k = ap (λ (x : Option Session). record (moved_of s) { session = talked_in x }) (sym k) ∙ m
judged_moved plan s ss Refused past c shown f n m k = ap (λ (x : Option Session). record (moved_of s) { session = talked_in x }) (sym k) ∙ m

taken_moved : (plan : PostPlan) (s : State) (kept : Option Session) (past : List Seen) (c : Course) (r : Reading) → s.facts ≡ facts_of past c → s.clock ≡ now past → moved_of s ≡ c → s.session ≡ kept
    → moved_of (taken_in plan s kept r) ≡ read_by (talked_in kept) past c plan (Some r)
taken_moved plan s None past c r f n m k = m
taken_moved plan s (Some ss) past c r f n m k = judged_moved plan s ss r.judged past c r.shown f n m k

read_none : (o : Option Talked) (past : List Seen) (c : Course) (plan : PostPlan) → read_by o past c plan None ≡ c
read_none None past c plan = refl
read_none (Some t) past c plan = refl

read_moved : (plan : PostPlan) (s : State) (past : List Seen) (c : Course) (r : Option Reading) → s.facts ≡ facts_of past c → s.clock ≡ now past → moved_of s ≡ c → moved_of (read plan s r) ≡ read_by c.session past c plan r
read_moved plan s past c None f n m = m ∙ sym (read_none c.session past c plan)
read_moved plan s past c (Some r) f n m =
    taken_moved plan s s.session past c r f n m refl ∙ ap (λ (x : Course). read_by x.session past c plan (Some r)) m

decided_moved : (plan : PostPlan) (s : State) → moved_of (decided plan s) ≡ moved_of s
decided_moved plan s =
    ap (λ (x : Option Session). record (moved_of (decided plan s)) { session = talked_in x }) (same_session plan s)
    ∙ ap (λ (f : Facts). record { session = talked_in s.session; kept = f.kept; joined = f.joined; renew = f.renew }) (same_facts plan s)

filled_moved : (plan : PostPlan) (s : State) (past : List Seen) (c : Course) (r : Option Reading) → s.facts ≡ facts_of past c → s.clock ≡ now past → moved_of s ≡ c → moved_of (filled plan r s) ≡ read_by c.session past c plan r
filled_moved plan s past c r f n m =
    read_moved plan (decided plan s) past c r (same_facts plan s ∙ f) (ap (λ (h : Hearing). h.clock) (decided_hearing plan s) ∙ n) (decided_moved plan s ∙ m)

-- an act
talked_map : (f : Session → Session) (kept : Option Session) → ((ss : Session) → talked_of (f ss) ≡ talked_of ss) → talked_in (option_map f kept) ≡ talked_in kept
talked_map f None h = refl
talked_map f (Some ss) h = ap Some (h ss)

since_talked : (now : ℕ) (o : Order) (ss : Session) → talked_of (since_order now o ss) ≡ talked_of ss
since_talked now order.Open ss = refl
since_talked now order.Close ss = refl
since_talked now (order.Limits voltage current watts) ss = refl

confirmed_talked : (now : ℕ) (kept : Option Session) → talked_in (option_map (replied now) kept) ≡ confirmed_in (talked_in kept)
confirmed_talked now None = refl
confirmed_talked now (Some ss) = refl

kept_ends : (kept : Option Session) (k : EndCause) (id : Option SessionId) → kept_behind (Some k) kept id ≡ kept_by (talked_in kept) (number_of k) id
kept_ends None cause.Paused id = refl
kept_ends None k id = refl
kept_ends (Some ss) cause.Paused id = refl
kept_ends (Some ss) k id = refl

finish_is : (d : Option (List ℕ)) (o : Option Order) (r : Option Spoken) (e : Option EndCause) (x : EndCause) → first_of d o r e ≡ Some (states.Finish x) → e ≡ Some x
finish_is (Some d) o r e x h = cc
finish_is None (Some o) r e x h = cc
finish_is None None (Some r) e x h = cc
finish_is None None None (Some e) x h = cc
finish_is None None None None x h = cc

ended_moved : (s : State) (k : EndCause) (taken : Bool) → s.agenda.ending ≡ Some k → moved_of (acted (End (number_of k)) taken s) ≡ course.acted (End (number_of k)) taken (moved_of s)
ended_moved s k taken e =
    ap (λ (x : Option SessionId). record { session = None; kept = x; joined = false; renew = s.facts.renew })
    (ap (λ (x : Option EndCause). kept_behind x s.session s.facts.kept) e ∙ kept_ends s.session k s.facts.kept)

acted_moved : (c : Codecs) (todo : Todo) (a : Act) (taken : Bool) (s : State) → first s.agenda ≡ Some todo → IsDone c todo a taken → moved_of (acted a taken s) ≡ course.acted a taken (moved_of s)
acted_moved c (states.Tell d) a taken s f i = subst (λ (x : Act). moved_of (acted x taken s) ≡ course.acted x taken (moved_of s)) (sym i) refl
acted_moved c (states.Give o) a true s f i =
    subst (λ (x : Act). moved_of (acted x true s) ≡ course.acted x true (moved_of s)) (sym i)
    (ap (λ (x : Option Talked). record (moved_of s) { session = x }) (talked_map (since_order s.clock o) s.session (since_talked s.clock o)))
acted_moved c (states.Give o) a false s f i = subst (λ (x : Act). moved_of (acted x false s) ≡ course.acted x false (moved_of s)) (sym i) refl
acted_moved c (states.Say spoken) a true s f i =
    subst (λ (x : Act). moved_of (acted x true s) ≡ course.acted x true (moved_of s)) (sym i.2)
    (ap (λ (x : Option Talked). record (moved_of s) { session = x }) (confirmed_talked s.clock s.session))
acted_moved c (states.Say spoken) a false s f i = subst (λ (x : Act). moved_of (acted x false s) ≡ course.acted x false (moved_of s)) (sym i.2) refl
acted_moved c (states.Finish k) a taken s f i =
    subst (λ (x : Act). moved_of (acted x taken s) ≡ course.acted x taken (moved_of s)) (sym i.0)
    (ended_moved s k taken (finish_is s.agenda.datagram s.agenda.order s.agenda.reply s.agenda.ending k f))

-- a hearing
heard_kept : (e : Event) (f : Facts) → (heard_facts e f).kept ≡ f.kept
heard_kept (Plant (plant.Pilot st)) f = refl
heard_kept e f = refl

heard_joined : (e : Event) (f : Facts) → (heard_facts e f).joined ≡ f.joined
heard_joined (Plant (plant.Pilot st)) f = refl
heard_joined e f = refl

heard_renew : (e : Event) (f : Facts) → (heard_facts e f).renew ≡ renew_heard e f.renew
heard_renew (Plant plant.RenewAsked) f = refl
heard_renew (Came token) f = refl
heard_renew e f = refl

-- what a hearing finds: the session that it opens, and whether it is joined
pub record Found (kept : Option Session) (joined : Bool) (c : Course) : Type 0 where
  pub session_is : talked_in kept ≡ c.session
  pub joined_is : joined ≡ c.joined

found_by : (arrived : Option ℕ) (o : Option Seen) (at : ℕ) (kept : Option Session) (joined : Bool) (c : Course) → Arrives arrived o at → ((token : ℕ) → arrived ≡ Some token → joined ≡ false) → talked_in kept ≡ c.session → joined ≡ c.joined
    → Found (session_opened arrived at kept) joined (opened o c)
found_by None None at kept joined c a u k j = record { session_is = k; joined_is = j }
found_by None (Some came) at kept joined c a u k j = absurd a
found_by (Some token) None at kept joined c a u k j = absurd a
found_by (Some token) (Some came) at kept joined c a u k j =
    subst (λ (x : Seen). Found (session_opened (Some token) at kept) joined (opened (Some x) c)) (sym a) (record { session_is = refl; joined_is = u token refl })

opened_kept : (o : Option Seen) (c : Course) → (opened o c).kept ≡ c.kept
opened_kept None c = refl
opened_kept (Some (Heard at event)) c = refl
opened_kept (Some (Did act taken)) c = refl

opened_renew : (o : Option Seen) (c : Course) → (opened o c).renew ≡ c.renew
opened_renew None c = refl
opened_renew (Some (Heard at event)) c = refl
opened_renew (Some (Did act taken)) c = refl

course_with : (a b : Course) → a.session ≡ b.session → a.kept ≡ b.kept → a.joined ≡ b.joined → a.renew ≡ b.renew → a ≡ b
course_with a b s k j r =
    ap (λ (x : Option Talked). record a { session = x }) s
    ∙ ap (λ (x : Option SessionId). record a { session = b.session; kept = x }) k
    ∙ ap (λ (x : Bool). record a { session = b.session; kept = b.kept; joined = x }) j
    ∙ ap (λ (x : Bool). record b { renew = x }) r

steps_facts : (plan : PostPlan) (steps : List Step) → moved_of (state plan steps) ≡ course plan steps → (state plan steps).facts ≡ facts_of (map seen_of steps) (course plan steps)
steps_facts plan steps m =
    facts_by (state plan steps).facts (map seen_of steps) (course plan steps) (steps_charger plan steps) (contactors_are_read plan steps).standing_is
    (ap (λ (x : Course). x.kept) m) (ap (λ (x : Course). x.joined) m) (ap (λ (x : Course). x.renew) m)

pub steps_moved : (c : Codecs) (plan : PostPlan) (steps : List Step) → IsPostRun c plan steps → moved_of (state plan steps) ≡ course plan steps
steps_moved c plan [] run = refl
steps_moved c plan (Hears at e ∷ steps) (run, quiet) =
    let past = map seen_of steps in
    let s = state plan steps in
    let m = steps_moved c plan steps run in
    let arrives : Arrives s.arrived (arriving past) s.clock = subst (Arrives s.arrived (arriving past)) (sym (steps_clock plan steps)) (steps_arrive plan steps) in
    let f = found_by s.arrived (arriving past) s.clock s.session s.facts.joined (course plan steps) arrives (λ token h. came_unjoined c plan steps token run quiet h)
    (ap (λ (x : Course). x.session) m) (ap (λ (x : Course). x.joined) m) in
    course_with (moved_of (state plan (Hears at e ∷ steps))) (course plan (Hears at e ∷ steps))
    (talked_map (with_bytes (brought e)) (session_opened s.arrived s.clock s.session) (λ ss. refl) ∙ f.session_is)
    (heard_kept e s.facts ∙ ap (λ (x : Course). x.kept) m ∙ sym (opened_kept (arriving past) (course plan steps)))
    (heard_joined e s.facts ∙ f.joined_is)
    (heard_renew e s.facts ∙ ap (renew_heard e) (ap (λ (x : Course). x.renew) m ∙ sym (opened_renew (arriving past) (course plan steps))))
steps_moved c plan (Does r a taken ∷ steps) (run, (limit, before, behind, acts)) =
    let past = map seen_of steps in
    let s = state plan steps in
    let m = steps_moved c plan steps run in
    acted_moved c acts.todo a taken (filled plan r s) acts.acts acts.done
    ∙ ap (course.acted a taken) (filled_moved plan s past (course plan steps) r (steps_facts plan steps m) (steps_clock plan steps) m)

asked_same : (kept : Option Session) → asked_in kept ≡ course.ask_in (talked_in kept)
asked_same None = refl
asked_same (Some ss) = refl

told_same : (kept : Option Session) → told_in kept ≡ course.told_in (talked_in kept)
told_same None = refl
told_same (Some ss) = refl

pub courses_are_read : (c : Codecs) → CoursesAreRead c
courses_are_read c plan steps run =
    let m = steps_moved c plan steps run in
    let s = state plan steps in
    let h = ap (λ (x : Course). x.session) m in
    record {
      session_is = h;
      asked_is = asked_same s.session ∙ ap course.ask_in h;
      told_is = told_same s.session ∙ ap course.told_in h;
      allowed_is = ap (λ (x : Option Talked). course.allowed_in x s.clock) h ∙ ap (λ (n : ℕ). course.allowed_in (course plan steps).session n) (steps_clock plan steps);
      facts_are = steps_facts plan steps m;
    }
