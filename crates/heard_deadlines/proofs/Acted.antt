-- An act moves no deadline to a moment that is past.
use Rattle.std.proofs.Common.{◌≡◌, ◌≤◌, ℕ, ◌+◌, Bool, true, false, List, [], ◌∷◌, length, map, Option, Some, None, unwrap_or, refl, sym, ap, subst, ◌∙◌, arith, inl, inr, ◌⊎◌}
use Rattle.std.specs.Option.{option_map}
use Rattle.charge_world.specs.declared.ports.Order.{Order}
use Rattle.charge_world.specs.declared.ports.Order.TheVariants as order
use Rattle.session_words.specs.declared.cause.EndCause.{EndCause}
use Rattle.session_words.specs.declared.cause.Timeout.{Timeout}
use Rattle.session_words.specs.declared.cause.Timeout.TheVariants.{Setup, Sequence, Feedback}
use Rattle.session_words.specs.declared.code.Code.{Code}
use Rattle.session_timers.specs.Law.{span_of}
use Rattle.session_rules.specs.Causes.{found_by, word_cause}
use Rattle.session_rules.specs.Orders.{granted_order, order_of}
use Rattle.session_words.specs.declared.facts.Facts.{Facts}
use Rattle.session_words.specs.declared.phase.Phase.{Phase}
use Rattle.session_words.specs.declared.phase.Phase.TheVariants as row
use Rattle.session_words.specs.declared.plan.PostPlan.{PostPlan}
use Rattle.session_words.specs.declared.word.Ask.{Ask}
use Rattle.session_words.specs.declared.word.Ask.TheVariants as ask
use Rattle.session_words.specs.declared.word.Request.{Request}
use Rattle.session_rules.specs.declared.stage.Stage.{Stage}
use Rattle.session_rules.specs.Finishing.{is_ac, is_finished}
use Rattle.session_rules.specs.Moves.{stage_behind}
use Rattle.session_rules.specs.Rows.{leads}
use Rattle.session_rules.specs.Stages.{is_set_up}
use Rattle.session_rules.specs.Verdict.{verdict, is_accepted}
use Rattle.post_spec.specs.Causes as causes
use Rattle.post_spec.specs.Causes.{running}
use Rattle.post_spec.specs.Codecs.{Judged, Negotiated, Asked, WrongSide, Refused, Codecs, Judges}
use Rattle.post_spec.specs.Course.{Talked, course}
use Rattle.post_spec.specs.Facts.{now}
use Rattle.post_spec.specs.Sessions.{session, with_seen, waits, came_at, replied_at, closed_at}
use Rattle.post_spec.specs.Steps.{Act, Give, Send, Answer, End, Seen, Did, Reading, Step, Hears, Does, seen_of}
use Rattle.station_spec.specs.States.{Spoken, Agenda, Session, State, Todo, first, first_of}
use Rattle.station_spec.specs.States as states
use Rattle.station_spec.specs.Deciding.{decided}
use Rattle.station_spec.specs.Judging.{Payload, order_by, cause_by, asked_agenda, wanted, judged, taken_in, read, filled, IsRead}
use Rattle.station_spec.specs.Acting.{since_order, replied, acted, state}
use Rattle.station_spec.specs.Next.{IsDone}
use Rattle.station_spec.specs.Sharing.{Shows}
use Rattle.station_laws.specs.PostRuns.{IsPostRun, ArePostsOf}
use Rattle.station_laws.proofs.Decided.{same_session}
use Rattle.station_laws.proofs.PostRuns.{run_posts, post_at}
use Rattle.read_runs.specs.Courses.{talked_of, talked_in}
use Rattle.read_runs.proofs.Agendas.{IsWanted, WantedIn, wanted_in, chosen_first, connected_of}
use Rattle.read_runs.proofs.Courses.{courses_are_read}
use Rattle.read_sessions.proofs.Keeping.{session_now}
use Rattle.read_sessions.proofs.Starts.{set_up_before, row_set_up, true_false}
use Rattle.heard_deadlines.specs.Reached.{IsReached, AreLateByHearing, RunsAreLateByHearing}

-- A word: SessionSetup alone sets a session up, and it is answered at once.

abbrev IsSetup : Ask → Type 0
IsSetup (ask.SessionSetup car) = Unit {0}
IsSetup other = ⊥

leads_setup : (here : Phase) (a : Ask) (finished ac : Bool) → is_set_up here ≡ false → is_set_up (unwrap_or (leads here a finished ac) here) ≡ true → IsSetup a
leads_setup row.Connected (ask.SessionStop pause) finished ac n h = cc
leads_setup row.Connected (ask.SessionSetup car) finished ac n h = tt
leads_setup row.Connected a finished ac n h = cc
leads_setup row.Negotiated (ask.SessionStop pause) finished ac n h = cc
leads_setup row.Negotiated (ask.SessionSetup car) finished ac n h = tt
leads_setup row.Negotiated a finished ac n h = cc
leads_setup here (ask.SessionSetup car) finished ac n h = tt
leads_setup here a finished ac n h = cc

setup_if : (b : Bool) (s : Stage) (facts : Facts) (plan : PostPlan) (r : Request) (shown : ℕ) → is_accepted (verdict s facts plan r) ≡ b → is_set_up s.row ≡ false → is_set_up (stage_behind s facts plan r shown).row ≡ true → IsSetup r.ask
setup_if false s facts plan r shown e n h = true_false (is_set_up s.row) (let x = rw e at h in x) n
setup_if true s facts plan r shown e n h = leads_setup s.row r.ask (is_finished facts plan r.ask shown) (is_ac plan.mode) n (let x = rw e at h in x)

accepts_if : (b : Bool) (s : Stage) (facts : Facts) (plan : PostPlan) (r : Request) (shown : ℕ) → is_accepted (verdict s facts plan r) ≡ b → is_set_up s.row ≡ false → is_set_up (stage_behind s facts plan r shown).row ≡ true → is_accepted (verdict s facts plan r) ≡ true
accepts_if false s facts plan r shown e n h = true_false (is_set_up s.row) (let x = rw e at h in x) n
accepts_if true s facts plan r shown e n h = e

abbrev IsSay : Todo → Type 0
IsSay (states.Say spoken) = Unit {0}
IsSay other = ⊥

say_only : (o : Option Order) (r : Option Spoken) (e : Option EndCause) (todo : Todo) → o ≡ None → e ≡ None → first_of None o r e ≡ Some todo → IsSay todo
say_only None (Some spoken) None todo x y f = let z : states.Say spoken ≡ todo = cc in subst IsSay z tt
say_only None None None todo x y f = cc
say_only (Some o) r e todo x y f = cc
say_only o r (Some k) todo x y f = cc

setup_cause : (x : Code) (a : Ask) → IsSetup a → is_accepted x ≡ true → word_cause false (found_by x a) ≡ None
setup_cause x (ask.SessionSetup car) i e = rw e refl
setup_cause x a i e = absurd i

setup_order : (plan : PostPlan) (told shown : ℕ) (a : Ask) → IsSetup a → granted_order plan told shown a ≡ None
setup_order plan told shown (ask.SessionSetup car) i = refl
setup_order plan told shown a i = absurd i

order_none : (cause : Option EndCause) (live : Bool) (o : Option Order) → cause ≡ None → o ≡ None → order_by cause live o ≡ None
order_none None live o c e = e
order_none (Some k) live o c e = cc

says_setup : (plan : PostPlan) (s : State) (ss : Session) (r : Request) (shown : ℕ) (todo : Todo) → is_set_up ss.stage.row ≡ false → is_set_up (stage_behind ss.stage s.facts plan r shown).row ≡ true → first (asked_agenda ss plan s r shown) ≡ Some todo → IsSay todo
says_setup plan s ss r shown todo n h f =
    let i = setup_if (is_accepted (verdict ss.stage s.facts plan r)) ss.stage s.facts plan r shown refl n h in
    let ok = accepts_if (is_accepted (verdict ss.stage s.facts plan r)) ss.stage s.facts plan r shown refl n h in
    let cause : cause_by ss.stage plan s r ≡ None = setup_cause (verdict ss.stage s.facts plan r) r.ask i ok in
    let order : order_of ss.stage s.facts plan r shown ≡ None = rw ok (setup_order plan ss.stage.told shown r.ask i) in
    say_only (asked_agenda ss plan s r shown).order (asked_agenda ss plan s r shown).reply (asked_agenda ss plan s r shown).ending todo (order_none (cause_by ss.stage plan s r) s.live (order_of ss.stage s.facts plan r shown) cause order) cause f

-- how a word moves a session
pub record Moves (before after : Phase) (a : Agenda) : Type 0 where
  pub unset : is_set_up after ≡ false → is_set_up before ≡ false
  pub set : is_set_up after ≡ true → (is_set_up before ≡ true) ⊎ ((todo : Todo) → first a ≡ Some todo → IsSay todo)

stays : (here : Phase) (a : Agenda) → Moves here here a
stays here a = record { unset = λ h. h; set = λ h. inl h }

asked_moves : (plan : PostPlan) (s : State) (ss : Session) (r : Request) (shown : ℕ) (b : Bool) → is_set_up ss.stage.row ≡ b → Moves ss.stage.row (stage_behind ss.stage s.facts plan r shown).row (asked_agenda ss plan s r shown)
asked_moves plan s ss r shown true e = record { unset = λ h. set_up_before ss.stage s.facts plan r shown h; set = λ h. inl e }
asked_moves plan s ss r shown false e = record { unset = λ h. e; set = λ h. inr (λ todo f. says_setup plan s ss r shown todo e h f) }

row_as : (ss us : Session) (here : Phase) (a : Agenda) → Some ss ≡ Some us → Moves here ss.stage.row a → Moves here us.stage.row a
row_as ss us here a k m = let x : ss ≡ us = cc in subst (λ (q : Session). Moves here q.stage.row a) x m

word_moves : (c : Codecs) (plan : PostPlan) (s : State) (ss us : Session) (n : ℕ) (p : Payload) (w : Judged) (shown : ℕ) → IsWanted s ss n p → Judges c plan.dialects.items p.dialect p.bytes w → (judged plan s ss w shown).session ≡ Some us → Moves ss.stage.row us.stage.row (judged plan s ss w shown).agenda
word_moves c plan s ss us n p (Negotiated None response) shown i j k = row_as _ us ss.stage.row (judged plan s ss (Negotiated None response) shown).agenda k (stays ss.stage.row (judged plan s ss (Negotiated None response) shown).agenda)
word_moves c plan s ss us n p (Negotiated (Some dialect) response) shown i j k =
    let q = chosen_first c plan.dialects.items p.dialect p.bytes (Some dialect) response j in
    let here = connected_of ss.stage.row ss.stage.dialect (sym i.dialect_is ∙ q.0) in
    let a = (judged plan s ss (Negotiated (Some dialect) response) shown).agenda in
    row_as _ us ss.stage.row (judged plan s ss (Negotiated (Some dialect) response) shown).agenda k (record { unset = λ h. ap is_set_up here; set = λ h. absurd (let x : false ≡ true = h in cc) })
word_moves c plan s ss us n p (Asked r) shown i j k = row_as _ us ss.stage.row (judged plan s ss (Asked r) shown).agenda k (asked_moves plan s ss r shown (is_set_up ss.stage.row) refl)
word_moves c plan s ss us n p WrongSide shown i j k = row_as _ us ss.stage.row (judged plan s ss WrongSide shown).agenda k (stays ss.stage.row (judged plan s ss WrongSide shown).agenda)
word_moves c plan s ss us n p Refused shown i j k = row_as _ us ss.stage.row (judged plan s ss Refused shown).agenda k (stays ss.stage.row (judged plan s ss Refused shown).agenda)

-- a session that was there before
pub record Moved (kept : Option Session) (us : Session) (a : Agenda) : Type 0 where
  pub ss : Session
  pub kept_is : kept ≡ Some ss
  pub moves : Moves ss.stage.row us.stage.row a

taken_moved : (c : Codecs) (plan : PostPlan) (s : State) (kept : Option Session) (us : Session) (p : Payload) (r : Reading) → WantedIn s kept p → Judges c plan.dialects.items p.dialect p.bytes r.judged → (taken_in plan s kept r).session ≡ Some us → Moved kept us (taken_in plan s kept r).agenda
taken_moved c plan s None us p r i j k = absurd i
taken_moved c plan s (Some ss) us p r i j k = record { ss = ss; kept_is = refl; moves = word_moves c plan s ss us i.0 p r.judged r.shown i.1 j k }

read_moved : (c : Codecs) (plan : PostPlan) (S : ℕ → ℕ → Type 0) (s : State) (us : Session) (w : Option Payload) (r : Option Reading) → wanted s ≡ w → IsRead c plan S s w r → (read plan s r).session ≡ Some us → Moved s.session us (read plan s r).agenda
read_moved c plan S s us w None e i k = record { ss = us; kept_is = k; moves = stays us.stage.row s.agenda }
read_moved c plan S s us None (Some r) e i k = absurd i
read_moved c plan S s us (Some p) (Some r) e i k = taken_moved c plan s s.session us p r (wanted_in s p e) i.0 k

filled_moved : (c : Codecs) (plan : PostPlan) (S : ℕ → ℕ → Type 0) (s : State) (us : Session) (r : Option Reading) → IsRead c plan S (decided plan s) (wanted (decided plan s)) r → (filled plan r s).session ≡ Some us → Moved s.session us (filled plan r s).agenda
filled_moved c plan S s us r i k =
    let m = read_moved c plan S (decided plan s) us (wanted (decided plan s)) r refl i k in
    record { ss = m.ss; kept_is = sym (same_session plan s) ∙ m.kept_is; moves = m.moves }

-- The session behind the act.

pub record Left (kept : Option Session) (vs : Session) : Type 0 where
  pub us : Session
  pub kept_is : kept ≡ Some us
  pub row_is : is_set_up vs.stage.row ≡ is_set_up us.stage.row

left_map : (f : Session → Session) (kept : Option Session) (vs : Session) → ((ss : Session) → is_set_up (f ss).stage.row ≡ is_set_up ss.stage.row) → option_map f kept ≡ Some vs → Left kept vs
left_map f None vs h k = cc
left_map f (Some us) vs h k = let x : f us ≡ vs = cc in record { us = us; kept_is = refl; row_is = sym (ap (λ (q : Session). is_set_up q.stage.row) x) ∙ h us }

since_row : (now : ℕ) (o : Order) (ss : Session) → is_set_up (since_order now o ss).stage.row ≡ is_set_up ss.stage.row
since_row now order.Open ss = refl
since_row now order.Close ss = refl
since_row now (order.Limits voltage current watts) ss = refl

acted_left : (a : Act) (taken : Bool) (t : State) (vs : Session) → (acted a taken t).session ≡ Some vs → Left t.session vs
acted_left (Give o) true t vs k = left_map (since_order t.clock o) t.session vs (λ ss. since_row t.clock o ss) k
acted_left (Give o) false t vs k = record { us = vs; kept_is = k; row_is = refl }
acted_left (Send bytes) true t vs k = left_map (replied t.clock) t.session vs (λ ss. row_set_up ss.stage.row) k
acted_left (Send bytes) false t vs k = record { us = vs; kept_is = k; row_is = refl }
acted_left (Answer bytes) taken t vs k = record { us = vs; kept_is = k; row_is = refl }
acted_left (End cause) taken t vs k = cc

-- What an act leaves of a session's moments.

pub record Same (x : Seen) (es : List Seen) : Type 0 where
  pub waits_is : waits (x ∷ es) ≡ waits es
  pub came_is : came_at (x ∷ es) ≡ came_at es
  pub replied_is : replied_at (x ∷ es) ≡ replied_at es
  pub closed_is : closed_at (x ∷ es) ≡ closed_at es

-- or it begins the time anew
abbrev Anew : Seen → List Seen → Type 0
Anew x es = causes.counts_from (running true (waits (x ∷ es))) (x ∷ es) ≡ now es

act_is : (a : Act) (taken : Bool) (es : List Seen) → Same (Did a taken) es ⊎ Anew (Did a taken) es
act_is (Give order.Open) taken es = inl (record { waits_is = refl; came_is = refl; replied_is = refl; closed_is = refl })
act_is (Give order.Close) true es = inr refl
act_is (Give order.Close) false es = inl (record { waits_is = refl; came_is = refl; replied_is = refl; closed_is = refl })
act_is (Give (order.Limits voltage current watts)) taken es = inl (record { waits_is = refl; came_is = refl; replied_is = refl; closed_is = refl })
act_is (Send bytes) taken es = inr refl
act_is (Answer bytes) taken es = inl (record { waits_is = refl; came_is = refl; replied_is = refl; closed_is = refl })
act_is (End cause) taken es = inl (record { waits_is = refl; came_is = refl; replied_is = refl; closed_is = refl })

span_some : (k : Timeout) → 1 ≤ span_of k
span_some Setup = let x : 1 ≤ 18000 = omega arith in x
span_some Sequence = let x : 1 ≤ 60000 = omega arith in x
span_some Feedback = let x : 1 ≤ 3000 = omega arith in x

same_counts : (k : Timeout) (x : Seen) (es : List Seen) → Same x es → causes.counts_from k (x ∷ es) ≡ causes.counts_from k es
same_counts Setup x es s = s.came_is
same_counts Sequence x es s = s.replied_is
same_counts Feedback x es s = s.closed_is

due_at : (t : Talked) (es : List Seen) (b w : Bool) → is_set_up t.stage.row ≡ b → waits es ≡ w → causes.due (Some t) es ≡ causes.counts_from (running b w) es + span_of (running b w)
due_at t es b w e f = rw (e, f) refl

not_anew : (t : Talked) (x : Seen) (es : List Seen) (n : ℕ) → is_set_up t.stage.row ≡ true → Anew x es → now es ≡ n → causes.due (Some t) (x ∷ es) ≤ n → ⊥
not_anew t x es n e a m h =
    let d = due_at t (x ∷ es) true (waits (x ∷ es)) e refl in
    let s = span_some (running true (waits (x ∷ es))) in
    omega (arith, d, a, m, s, h)

setup_running : (w : Bool) → running false w ≡ Setup
setup_running true = refl
setup_running false = refl

-- before SessionSetup is accepted
reached_setup : (plan : PostPlan) (steps : List Step) (ss : Session) (t : Talked) (es : List Seen) (a : Act) (taken : Bool) (k : Timeout) → (course plan steps).session ≡ Some (talked_of ss) → session (map seen_of steps) ≡ Some es
    → is_set_up t.stage.row ≡ false → is_set_up ss.stage.row ≡ false → k ≡ running (is_set_up t.stage.row) (waits (Did a taken ∷ es)) → causes.due (Some t) (Did a taken ∷ es) ≤ now (map seen_of steps) → IsReached plan steps k
reached_setup plan steps ss t es a taken k c l e f q h =
    let x = due_at t (Did a taken ∷ es) false (waits (Did a taken ∷ es)) e refl in
    let y = due_at (talked_of ss) es false (waits es) f refl in
    let same : running false (waits (Did a taken ∷ es)) ≡ running false (waits es) = setup_running (waits (Did a taken ∷ es)) ∙ sym (setup_running (waits es)) in
    let counts : causes.counts_from (running false (waits (Did a taken ∷ es))) (Did a taken ∷ es) ≡ causes.counts_from (running false (waits es)) es =
    ap (λ (z : Timeout). causes.counts_from z (Did a taken ∷ es)) (setup_running (waits (Did a taken ∷ es))) ∙ sym (ap (λ (z : Timeout). causes.counts_from z es) (setup_running (waits es))) in
    let spans : span_of (running false (waits (Did a taken ∷ es))) ≡ span_of (running false (waits es)) = ap span_of same in
    record {
      t = talked_of ss;
      es = es;
      course_is = c;
      session_is = l;
      timeout_is = q ∙ ap (λ (b : Bool). running b (waits (Did a taken ∷ es))) e ∙ same ∙ sym (ap (λ (b : Bool). running b (waits es)) f);
      reached = omega (arith, x, y, counts, spans, h);
    }

-- and behind it, where the act leaves the moments as they are
reached_same : (plan : PostPlan) (steps : List Step) (ss : Session) (t : Talked) (es : List Seen) (x : Seen) (k : Timeout) → (course plan steps).session ≡ Some (talked_of ss) → session (map seen_of steps) ≡ Some es → Same x es
    → is_set_up t.stage.row ≡ true → is_set_up ss.stage.row ≡ true → k ≡ running (is_set_up t.stage.row) (waits (x ∷ es)) → causes.due (Some t) (x ∷ es) ≤ now (map seen_of steps) → IsReached plan steps k
reached_same plan steps ss t es x k c l s e f q h =
    let d = due_at t (x ∷ es) true (waits es) e s.waits_is in
    let g = due_at (talked_of ss) es true (waits es) f refl in
    let counts = same_counts (running true (waits es)) x es s in
    record {
      t = talked_of ss;
      es = es;
      course_is = c;
      session_is = l;
      timeout_is = q ∙ ap (λ (b : Bool). running b (waits (x ∷ es))) e ∙ ap (running true) s.waits_is ∙ sym (ap (λ (b : Bool). running b (waits es)) f);
      reached = omega (arith, d, g, counts, h);
    }

-- An act.

say_sends : (c : Codecs) (todo : Todo) (a : Act) (taken : Bool) → IsSay todo → IsDone c todo a taken → (bytes : List ℕ) × (a ≡ Send bytes)
say_sends c (states.Tell d) a taken s i = absurd s
say_sends c (states.Give o) a taken s i = absurd s
say_sends c (states.Say spoken) a taken s i = (i.0, i.2)
say_sends c (states.Finish cause) a taken s i = absurd s

sent_anew : (a : Act) (taken : Bool) (es : List Seen) (bytes : List ℕ) → a ≡ Send bytes → Anew (Did a taken) es
sent_anew a taken es bytes e = subst (λ (x : Act). Anew (Did x taken) es) (sym e) refl

lives_before : (x : Seen) (lives : Option (List Seen)) (es : List Seen) → with_seen x lives ≡ Some es → (zs : List Seen) × (lives ≡ Some zs) × (es ≡ x ∷ zs)
lives_before x None es h = cc
lives_before x (Some zs) es h = (zs, refl, cc)

session_before : (past : List Seen) (a : Act) (taken : Bool) (es : List Seen) → session (Did a taken ∷ past) ≡ Some es → (zs : List Seen) × (session past ≡ Some zs) × (es ≡ Did a taken ∷ zs)
session_before past (Give o) taken es h = lives_before (Did (Give o) taken) (session past) es h
session_before past (Send bytes) taken es h = lives_before (Did (Send bytes) taken) (session past) es h
session_before past (Answer bytes) taken es h = lives_before (Did (Answer bytes) taken) (session past) es h
session_before past (End cause) taken es h = cc

kept_of : (kept : Option Session) (t : Talked) → talked_in kept ≡ Some t → (vs : Session) × (kept ≡ Some vs) × (talked_of vs ≡ t)
kept_of None t h = cc
kept_of (Some vs) t h = (vs, refl, cc)

reached_by : (c : Codecs) (plan : PostPlan) (steps : List Step) (ss : Session) (t : Talked) (zs : List Seen) (todo : Todo) (a : Act) (taken : Bool) (k : Timeout) (agenda : Agenda) (b : Bool) → (course plan steps).session ≡ Some (talked_of ss) → session (map seen_of steps) ≡ Some zs
    → is_set_up t.stage.row ≡ b → Moves ss.stage.row t.stage.row agenda → first agenda ≡ Some todo → IsDone c todo a taken → k ≡ running (is_set_up t.stage.row) (waits (Did a taken ∷ zs)) → causes.due (Some t) (Did a taken ∷ zs) ≤ now (map seen_of steps) → IsReached plan steps k
reached_by c plan steps ss t zs todo a taken k agenda false course_is l e m f i q h = reached_setup plan steps ss t zs a taken k course_is l e (m.unset e) q h
reached_by c plan steps ss t zs todo a taken k agenda true course_is l e m f i q h =
    let past = map seen_of steps in
    let here = session_now (map seen_of steps) zs l in
    elim (m.set e) [
      | inl g ↦ elim (act_is a taken zs) [
        | inl s ↦ reached_same plan steps ss t zs (Did a taken) k course_is l s e g q h
        | inr n ↦ absurd (not_anew t (Did a taken) zs (now (map seen_of steps)) e n here h)
      ]
      | inr says ↦
          let sent = say_sends c todo a taken (says todo f) i in
          absurd (not_anew t (Did a taken) zs (now (map seen_of steps)) e (sent_anew a taken zs sent.0 sent.1) here h)
    ]

acted_reached : (c : Codecs) (plan : PostPlan) (S : ℕ → ℕ → Type 0) (steps : List Step) (r : Option Reading) (todo : Todo) (a : Act) (taken : Bool) (k : Timeout) → IsPostRun c plan steps → IsPostRun c plan (Does r a taken ∷ steps)
    → IsRead c plan S (decided plan (state plan steps)) (wanted (decided plan (state plan steps))) r → first (filled plan r (state plan steps)).agenda ≡ Some todo → IsDone c todo a taken → IsReached plan (Does r a taken ∷ steps) k → IsReached plan steps k
acted_reached c plan S steps r todo a taken k run later i f d reached =
    let s = state plan steps in
    let t = filled plan r s in
    let b = session_before (map seen_of steps) a taken reached.es reached.session_is in
    let v = kept_of (acted a taken t).session reached.t ((courses_are_read c plan (Does r a taken ∷ steps) later).session_is ∙ reached.course_is) in
    let left = acted_left a taken t v.0 v.1 in
    let moved = filled_moved c plan S s left.us r i left.kept_is in
    let row_is : is_set_up reached.t.stage.row ≡ is_set_up left.us.stage.row = sym (ap (λ (x : Talked). is_set_up x.stage.row) v.2) ∙ left.row_is in
    let moves : Moves moved.ss.stage.row reached.t.stage.row t.agenda = record { unset = λ h. moved.moves.unset (sym row_is ∙ h); set = λ h. moved.moves.set (sym row_is ∙ h) } in
    let course_is : (course plan steps).session ≡ Some (talked_of moved.ss) = sym (courses_are_read c plan steps run).session_is ∙ ap talked_in moved.kept_is in
    reached_by c plan steps moved.ss reached.t b.0 todo a taken k t.agenda (is_set_up reached.t.stage.row) course_is b.1 refl moves f d
    (reached.timeout_is ∙ ap (λ (es : List Seen). running (is_set_up reached.t.stage.row) (waits es)) b.2)
    (subst (λ (es : List Seen). causes.due (Some reached.t) es ≤ now (map seen_of steps)) b.2 reached.reached)

run_late : (c : Codecs) (plan : PostPlan) (steps : List Step) → IsPostRun c plan steps → AreLateByHearing plan steps
run_late c plan [] run = tt
run_late c plan (Hears at e ∷ steps) run = run_late c plan steps run.0
run_late c plan (Does r a taken ∷ steps) (run, (limit, before, behind, acts)) =
    (run_late c plan steps run, λ k reached. acted_reached c plan (Shows limit before behind) steps r acts.todo a taken k run (run, (limit, before, behind, acts)) acts.read acts.acts acts.done reached)

pub runs_are_late_by_hearing : (c : Codecs) → RunsAreLateByHearing c
runs_are_late_by_hearing c site past posts before post behind run is =
    let all = subst (ArePostsOf c past 1) is (run_posts c site past posts run) in
    let k = post_at c past (length before + 1) 1 before post behind refl all in
    run_late c post.plan post.steps k.run
