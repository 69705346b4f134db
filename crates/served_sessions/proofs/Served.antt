-- Each session that conforms is served, in every run.
use Rattle.std.proofs.Common.{◌≡◌, ◌≤◌, ◌<◌, ℕ, suc, ◌+◌, Bool, true, false, if◌then◌else◌, List, [], ◌∷◌, ◌++◌, length, map, Option, Some, None, IsSome, Result, Ok, Err, refl, sym, ap, subst, ◌∙◌, arith, inl, inr, MatchBool}
use Rattle.std.proofs.lemmas.List.Elements.{All-nil}
use Rattle.charge_world.specs.declared.offer.Dialect.{Dialect}
use Rattle.charge_world.specs.declared.ports.Order.{Order}
use Rattle.charge_world.specs.declared.ports.Order.TheVariants as order
use Rattle.session_words.specs.declared.cause.EndCause.{EndCause}
use Rattle.session_words.specs.declared.plan.PostPlan.{PostPlan}
use Rattle.session_words.specs.declared.word.Reply.{Reply}
use Rattle.session_words.specs.Causes.{number_of}
use Rattle.v2gtp_frames.specs.declared.FrameFault.{FrameFault}
use Rattle.v2gtp_frames.specs.Frames.{Frames}
use Rattle.v2gtp_frames.specs.Reading.{whole_at, behind_frames}
use Rattle.v2gtp_frames.proofs.Pieces.{starts_read}
use Rattle.session_rules.specs.declared.stage.Stage.{Stage}
use Rattle.session_rules.specs.Stages.{is_waiting}
use Rattle.post_spec.specs.Codecs.{Codecs}
use Rattle.post_spec.specs.Contactors.{live}
use Rattle.post_spec.specs.Kinds.{asks_start}
use Rattle.post_spec.specs.Sessions.{arriving, session_behind, session, with_seen, stream, replies, waits}
use Rattle.post_spec.specs.Spelled.{read_back, ReadsBack}
use Rattle.post_spec.specs.Steps.{Came, Bytes, Gone, Datagram, Plant, Clock, Over, Act, Give, Send, Answer, End, Seen, Heard, Did, Reading, Step, Hears, Does, seen, seen_of}
use Rattle.post_spec.specs.Talk.{Exchange, Negotiation, Answered, IsExchange, InSession, Unless, OneMore, Talks}
use Rattle.station_spec.specs.States.{Spoken, Response, Said, Agenda, Session, State, Todo, nothing, first, first_of, is_none, is_done}
use Rattle.station_spec.specs.States as states
use Rattle.station_spec.specs.Deciding.{fronting_by, fronting, decided}
use Rattle.station_spec.specs.Judging.{Payload, payload_by, payload_in, wanted, filled, IsRead}
use Rattle.station_spec.specs.Acting.{state}
use Rattle.station_spec.specs.Next.{IsQuiet, IsSpoken, IsDone}
use Rattle.station_spec.specs.Sharing.{Post, Shows}
use Rattle.station_spec.specs.Runs.{Rests, AreQuiet}
use Rattle.station_laws.specs.PostRuns.{IsPostRun, ArePostsOf}
use Rattle.station_laws.proofs.PostRuns.{run_posts, post_at, quiet_at}
use Rattle.silent_runs.specs.Silent.{IsSilent}
use Rattle.silent_runs.proofs.Silence.{runs_are_silent}
use Rattle.safe_runs.proofs.Filled.{filled_linked}
use Rattle.safe_runs.proofs.Links.{Premise, Waits, Pending, Link, Tie, IsWaitingIn, Linked}
use Rattle.safe_runs.proofs.Openings.{runs_end_open}
use Rattle.safe_runs.proofs.Parts.{decided_planned}
use Rattle.safe_runs.proofs.Safety.{run_tied, run_linked, quiet_clear, quiet_still}
use Rattle.safe_runs.proofs.Shut.{Still}
use Rattle.read_runs.specs.Facts.{before_hearing}
use Rattle.read_runs.proofs.Agendas.{quiet_done, say_is, give_is}
use Rattle.read_runs.proofs.Counting.{counted}
use Rattle.read_runs.proofs.Courses.{courses_are_read}
use Rattle.read_sessions.specs.Sessions.{words_read}
use Rattle.conforming_runs.specs.Conforming.{IsFramed, AreFramed, IsTaken, Conforming}
use Rattle.served_sessions.specs.Answered.{OfSession, IsAnswered, IsStart, answers_start, AwaitsReply}
use Rattle.served_sessions.specs.Serving.{ClosesAtOnce, Replies, EndsByStop, Acts, IsReply, IsServed, IsUpToDate, IsRested, RestsIn, AreServed}
use Rattle.served_sessions.specs.Laws.{RunsServe, WholeRunsServe}
use Rattle.served_sessions.proofs.Bytes.{AreOctets, AreHeard, counts, run_heard, stream_octets}
use Rattle.served_sessions.proofs.Doing.{said_answered, acted_ready, finish_is, words_next}
use Rattle.served_sessions.proofs.Hearing.{framed_of, fronts_nothing, heard_ready, decides}
use Rattle.served_sessions.proofs.Reading.{filled_ready}
use Rattle.served_sessions.proofs.Ready.{Ends, Stops, Other, Others, Unsaid, words_before, IsOwed, Ready, AtWords, Confirms, Decides}
use Rattle.served_sessions.proofs.Taken.{Conforms, otherwise, unless, more, behind_act}

true_false : {A : Type 0} (b : Bool) → b ≡ true → b ≡ false → A
true_false true h k = cc
true_false false h k = cc

waits_in : (A B : Type 0) (b : Bool) → b ≡ true → MatchBool b A B → A
waits_in A B true e m = m
waits_in A B false e m = cc

pends_in : (A B : Type 0) (b : Bool) → b ≡ false → MatchBool b A B → B
pends_in A B true e m = cc
pends_in A B false e m = m

-- The post is ready behind any steps.

pub record Well (c : Codecs) (plan : PostPlan) (steps : List Step) : Type 0 where
  pub ready : Ready c plan (IsOwed plan steps) (map seen_of steps) (state plan steps)
  pub at_words : AtWords plan steps (state plan steps).part

unheard_ready : (c : Codecs) (plan : PostPlan) → Well c plan []
unheard_ready c plan = record {
  ready = record { matched = refl; stops = tt; opens = λ h. refl; worded = inl refl; unsaid = λ ss k w. inl refl; others = tt; early = λ es ss l k. absurd (let x : None ≡ Some es = l in cc) };
  at_words = refl;
}

abbrev Filled : Codecs → PostPlan → List Step → Option Reading → Type 0
Filled c plan steps reading = Ready c plan (IsOwed plan steps) (map seen_of steps) (filled plan reading (state plan steps))

does_well : (c : Codecs) (plan : PostPlan) (steps : List Step) (reading : Option Reading) (todo : Todo) (a : Act) (taken : Bool) → ReadsBack c → first (filled plan reading (state plan steps)).agenda ≡ Some todo → IsDone c todo a taken → IsTaken a taken
    → Filled c plan steps reading → Well c plan (Does reading a taken ∷ steps)
does_well c plan steps reading todo a taken back f i y r =
    let t = filled plan reading (state plan steps) in
    record {
      ready = acted_ready c plan (map seen_of steps) t todo a taken back f i y r;
      at_words = words_next c plan (map seen_of steps) t todo a taken f r;
    }

decides_well : (c : Codecs) (plan : PostPlan) (steps : List Step) → IsPostRun c plan steps → Conforms plan steps → AreHeard (map seen_of steps) → Well c plan steps → Decides c plan (IsOwed plan steps) (map seen_of steps) (state plan steps) (decided plan (state plan steps))
decides_well c plan steps run conf heard w = decides c plan steps run conf heard w.ready w.at_words

fills_well : (c : Codecs) (plan : PostPlan) (S : ℕ → ℕ → Type 0) (steps : List Step) (reading : Option Reading) (a : Act) (taken : Bool) → ReadsBack c → IsPostRun c plan steps → Conforms plan (Does reading a taken ∷ steps) → AreHeard (map seen_of steps)
    → IsRead c plan S (decided plan (state plan steps)) (wanted (decided plan (state plan steps))) reading → Well c plan steps → Filled c plan steps reading
fills_well c plan S steps reading a taken back run conf heard i w =
    let d = decides_well c plan steps run (behind_act plan reading a taken steps conf) heard w in
    filled_ready c plan S steps reading i d.ready (decided_planned c plan (map seen_of steps) (state plan steps) (run_linked c plan steps back run)) (courses_are_read c plan steps run) (more plan (Does reading a taken) steps conf).goes_on.1

run_well : (c : Codecs) (plan : PostPlan) (steps : List Step) → ReadsBack c → IsPostRun c plan steps → Conforms plan steps → AreHeard (map seen_of steps) → Well c plan steps
run_well c plan [] back run conf heard = unheard_ready c plan
run_well c plan (Hears at e ∷ steps) back run conf heard = record { ready = heard_ready c plan at e steps run; at_words = tt }
run_well c plan (Does reading a taken ∷ steps) back (run, (limit, before, behind, acts)) conf heard =
    let w = run_well c plan steps back run (behind_act plan reading a taken steps conf) heard in
    does_well c plan steps reading acts.todo a taken back acts.acts acts.done (more plan (Does reading a taken) steps conf).goes_on.0
    (fills_well c plan (Shows limit before behind) steps reading a taken back run conf heard acts.read w)

-- What was talked about.

with_none : (x : Seen) (o : Option (List Seen)) → with_seen x o ≡ None → o ≡ None
with_none x None h = refl
with_none x (Some es) h = cc

behind_none : (came : Option Seen) (o : Option (List Seen)) → session_behind came o ≡ None → (came ≡ None) × (o ≡ None)
behind_none None o h = (refl, h)
behind_none (Some came) o h = cc

no_talk : (c : Codecs) (offers : List Dialect) (past : List Seen) → session past ≡ None → Talks c offers past []
no_talk c offers [] h = refl
no_talk c offers (Heard at e ∷ past) h =
    let b = behind_none (arriving past) (session past) (with_none (Heard at e) (session_behind (arriving past) (session past)) h) in
    let none : List Exchange = [] in
    let same : none ≡ none = refl in
    subst (λ (o : Option Seen). Unless o (Talks c offers past none) (none ≡ none)) (sym b.0) (no_talk c offers past b.1)
no_talk c offers (Did (Give o) taken ∷ past) h = no_talk c offers past (with_none (Did (Give o) taken) (session past) h)
no_talk c offers (Did (Answer bytes) taken ∷ past) h = no_talk c offers past (with_none (Did (Answer bytes) taken) (session past) h)
no_talk c offers (Did (End cause) taken ∷ past) h = refl
no_talk c offers (Did (Send bytes) taken ∷ past) h =
    let none : List Exchange = [] in
    let same : none ≡ none = refl in
    subst (λ (o : Option (List Seen)). InSession o (λ es. OneMore c offers es past bytes (Talks c offers past) none) (none ≡ none)) (sym (with_none (Did (Send bytes) taken) (session past) h)) same

abbrev pub Talked : Codecs → PostPlan → List Seen → Type 0
Talked c plan past = (xs : List Exchange) × IsAnswered c plan past xs

talked_stops : (c : Codecs) (plan : PostPlan) (past : List Seen) (k : EndCause) (r : Option Spoken) → Stops c plan past (Some k) r → Talked c plan past
talked_stops c plan past k None s = (_, s.answered)
talked_stops c plan past k (Some (Response payload)) s = absurd s
talked_stops c plan past k (Some (Said d reply)) s = (s.xs, s.answered)

talked_by : (c : Codecs) (plan : PostPlan) (past : List Seen) (e : Option EndCause) (lives : Option (List Seen)) (kept : Option Session) (r : Option Spoken) (b : Option EndCause) (V : Type 0) → session past ≡ lives → Stops c plan past e r → Tie c plan past e lives kept r b V → Talked c plan past
talked_by c plan past e None kept r b V l s t = ([], record { talks = no_talk c plan.dialects.items past l; ok = tt })
talked_by c plan past e (Some es) None r b V l s t = absurd t
talked_by c plan past None (Some es) (Some ss) r b V l s t = (t.xs, record { talks = t.talks; ok = t.ok })
talked_by c plan past (Some k) (Some es) (Some ss) r b V l s t = talked_stops c plan past k r s

talked_at : (c : Codecs) (plan : PostPlan) (steps : List Step) → ReadsBack c → IsPostRun c plan steps → Well c plan steps → Talked c plan (map seen_of steps)
talked_at c plan steps back run w =
    let past = map seen_of steps in
    let s = state plan steps in
    let l = run_linked c plan steps back run in
    talked_by c plan past s.agenda.ending (session past) s.session s.agenda.reply s.agenda.behind_reply _ refl w.ready.stops l.tie

-- A frame that a hearing made whole.

came_words : (past : List Seen) (came : Seen) → arriving past ≡ Some came → (stream (came ∷ []) ≡ []) × (words_read (came ∷ []) ≡ 0)
came_words [] came a = cc
came_words (Heard at (Came token) ∷ past) came a = let x : Heard at (Came token) ≡ came = cc in subst (λ (y : Seen). (stream (y ∷ []) ≡ []) × (words_read (y ∷ []) ≡ 0)) x (refl, refl)
came_words (Heard at (Bytes bytes) ∷ past) came a = cc
came_words (Heard at Gone ∷ past) came a = cc
came_words (Heard at (Datagram bytes) ∷ past) came a = cc
came_words (Heard at (Plant event) ∷ past) came a = cc
came_words (Heard at Clock ∷ past) came a = cc
came_words (Heard at Over ∷ past) came a = cc
came_words (Did act taken ∷ past) came a = came_words past came a

no_frames : (payloads : List (List ℕ)) (rest : List ℕ) → Frames [] payloads rest → length payloads ≡ 0
no_frames payloads rest f = counts 0 [] (All-nil (λ b. b < 256)) tt (starts_read [] refl) payloads rest f

read_as : (b : Bool) (n m : ℕ) → n ≡ m → (if b then n + 1 else n) ≡ (if b then m + 1 else m)
read_as b n m e = ap (λ (i : ℕ). if b then i + 1 else i) e

up_to_date_counts : (c : Codecs) (plan : PostPlan) (past es : List Seen) → session past ≡ Some es → OfSession (session past) (IsUpToDate c plan past) → (payloads : List (List ℕ)) (rest : List ℕ) → Frames (stream es) payloads rest → length payloads ≡ words_read es
up_to_date_counts c plan past es l u payloads rest f =
    let v = subst (λ (o : Option (List Seen)). OfSession o (IsUpToDate c plan past)) l u in
    v.each payloads rest f ∙ read_as (waits es) (length v.xs) (length (replies es)) (sym (counted c plan.dialects.items past es v.xs l v.answered.talks))

behind_counts : (c : Codecs) (plan : PostPlan) (past zs : List Seen) (came : Option Seen) → arriving past ≡ came → session_behind came (session past) ≡ Some zs → Unless came (IsRested c plan past) (Unit {0}) → (payloads : List (List ℕ)) (rest : List ℕ) → Frames (stream zs) payloads rest → length payloads ≡ words_read zs
behind_counts c plan past zs None a l r payloads rest f = up_to_date_counts c plan past zs l r.up_to_date payloads rest f
behind_counts c plan past zs (Some came) a l r payloads rest f =
    let y : came ∷ [] ≡ zs = cc in
    let w = came_words past came a in
    let g : Frames [] payloads rest = subst (λ (s : List ℕ). Frames s payloads rest) (sym (ap stream y) ∙ w.0) f in
    no_frames payloads rest g ∙ sym w.1 ∙ ap words_read y

abbrev CountsBefore : List Seen → Type 0
CountsBefore es = (payloads : List (List ℕ)) (rest : List ℕ) → Frames (stream (before_hearing es)) payloads rest → length payloads ≡ words_before es

counts_with : (x : Seen) (lives : Option (List Seen)) (es : List Seen) → with_seen x lives ≡ Some es → ((zs : List Seen) → lives ≡ Some zs → CountsBefore (x ∷ zs)) → CountsBefore es
counts_with x None es k f = cc
counts_with x (Some zs) es k f = let y : x ∷ zs ≡ es = cc in subst CountsBefore y (f zs refl)

counts_before : (c : Codecs) (plan : PostPlan) (past es : List Seen) → arriving past ≡ None → AreServed c plan past → session past ≡ Some es → CountsBefore es
counts_before c plan [] es began s l = cc
counts_before c plan (Heard at e ∷ past) es began s l =
    counts_with (Heard at e) (session_behind (arriving past) (session past)) es l (λ zs k payloads rest f. behind_counts c plan past zs (arriving past) refl k (otherwise (arriving (Heard at e ∷ past)) (AreServed c plan past × RestsIn c plan past) (Unit {0}) began s).1 payloads rest f)
counts_before c plan (Did (Give o) taken ∷ past) es began s l = counts_with (Did (Give o) taken) (session past) es l (λ zs k. counts_before c plan past zs began (otherwise (arriving past) (AreServed c plan past × IsServed c plan (Give o) taken past) (Unit {0}) began s).0 k)
counts_before c plan (Did (Answer bytes) taken ∷ past) es began s l = counts_with (Did (Answer bytes) taken) (session past) es l (λ zs k. counts_before c plan past zs began (otherwise (arriving past) (AreServed c plan past × IsServed c plan (Answer bytes) taken past) (Unit {0}) began s).0 k)
counts_before c plan (Did (Send bytes) taken ∷ past) es began s l = counts_with (Did (Send bytes) taken) (session past) es l (λ zs k. counts_before c plan past zs began (otherwise (arriving past) (AreServed c plan past × IsServed c plan (Send bytes) taken past) (Unit {0}) began s).0 k)
counts_before c plan (Did (End cause) taken ∷ past) es began s l = cc

-- Close.

start_of : (c : Codecs) (plan : PostPlan) (past es : List Seen) (xs : List Exchange) (taken : ℕ) (stage : Stage) (r : Option Spoken) (V : Type 0) → Waits c plan past es xs taken stage r V → IsStart c es xs
start_of c plan past es xs taken stage r V w =
    record { spoken = stage.dialect; payload = w.asks.payload; request = w.request; dialect_is = w.asks.dialect_is; next = w.asks.place; request_is = w.asks.reads; start = w.start }

close_link : (c : Codecs) (plan : PostPlan) (past : List Seen) (lives : Option (List Seen)) (kept : Option Session) (r : Option Spoken) (b : Option EndCause) (V : Type 0) → session past ≡ lives → arriving past ≡ None → AreServed c plan past → IsWaitingIn kept → Tie c plan past None lives kept r b V
    → ((es : List Seen) (ss : Session) → lives ≡ Some es → kept ≡ Some ss → words_before es ≤ length (replies es)) → ClosesAtOnce c plan past
close_link c plan past lives None r b V l began s w t e = absurd w
close_link c plan past None (Some ss) r b V l began s w t e = absurd t
close_link c plan past (Some es) (Some ss) r b V l began s w t e =
    let k = waits_in (Waits c plan past es t.xs t.taken ss.stage r V) (Pending c plan past es t.xs t.taken ss.stage r b V) (is_waiting ss.stage.row) w t.talk in
    record {
      es = es;
      session_is = l;
      xs = t.xs;
      answered = record { talks = t.talks; ok = t.ok };
      start = start_of c plan past es t.xs t.taken ss.stage r V k;
      came_now = λ payloads rest f.
          let n = counts_before c plan past es began s l payloads rest f in
          let m = counted c plan.dialects.items past es t.xs l t.talks in
          let q = e es ss refl refl in
          omega (arith, n, m, q);
    }

closes_now : {Owed : Type 0} (c : Codecs) (plan : PostPlan) (past : List Seen) (t : State) → Linked c plan past t → Ready c plan Owed past t → arriving past ≡ None → AreServed c plan past → t.agenda.order ≡ Some order.Close → ClosesAtOnce c plan past
closes_now c plan past t l r began s o =
    let k = l.closing o in
    let tie = subst (λ (e : Option EndCause). Tie c plan past e (session past) t.session t.agenda.reply t.agenda.behind_reply (Premise t.part t.event)) (r.opens o) l.tie in
    close_link c plan past (session past) t.session t.agenda.reply t.agenda.behind_reply _ refl began s k.2 tie (λ es ss x y. (r.early es ss x y).closing o)

close_is : (c : Codecs) (todo : Todo) (taken : Bool) → IsDone c todo (Give order.Close) taken → todo ≡ states.Give order.Close
close_is c (states.Tell d) taken i = absurd (let x : Give order.Close ≡ Answer d = i in cc)
close_is c (states.Give o) taken i = let x : Give order.Close ≡ Give o = i in let y : order.Close ≡ o = cc in ap states.Give (sym y)
close_is c (states.Say spoken) taken i = absurd (let x : Give order.Close ≡ Send i.0 = i.2 in cc)
close_is c (states.Finish cause) taken i = absurd (let x : Give order.Close ≡ End _ = i.0 in cc)

-- A reply.

some_of : {A : Type 0} (o : Option A) → IsSome o → (a : A) × (o ≡ Some a)
some_of None h = cc
some_of (Some a) h = (a, refl)

say_done : (c : Codecs) (todo : Todo) (bytes : List ℕ) (taken : Bool) → IsDone c todo (Send bytes) taken → (spoken : Spoken) × (todo ≡ states.Say spoken)
say_done c (states.Tell d) bytes taken i = absurd (let x : Send bytes ≡ Answer d = i in cc)
say_done c (states.Give o) bytes taken i = absurd (let x : Send bytes ≡ Give o = i in cc)
say_done c (states.Say spoken) bytes taken i = (spoken, refl)
say_done c (states.Finish cause) bytes taken i = absurd (let x : Send bytes ≡ End _ = i.0 in cc)

stopping_still : (c : Codecs) (plan : PostPlan) (past es : List Seen) (k : EndCause) (spoken : Spoken) → session past ≡ Some es → Stops c plan past (Some k) (Some spoken) → waits es ≡ false
stopping_still c plan past es k (Response payload) l s = absurd s
stopping_still c plan past es k (Said d reply) l s =
    let x : Some s.es ≡ Some es = sym s.session_is ∙ l in
    let y : s.es ≡ es = cc in
    subst (λ (us : List Seen). waits us ≡ false) y s.still

some_none : {A : Type 0} (B : Type 0) (o : Option A) (a : A) → o ≡ Some a → o ≡ None → B
some_none B o a h n = absurd (let x : None ≡ Some a = sym n ∙ h in cc)

waiting_row : (c : Codecs) (plan : PostPlan) (past es : List Seen) (ss : Session) (r : Option Spoken) (b : Option EndCause) (V : Type 0) (w : Bool) → is_waiting ss.stage.row ≡ w → Link c plan past es ss.stage ss.unread r b V → waits es ≡ true → is_waiting ss.stage.row ≡ true
waiting_row c plan past es ss r b V true e l h = e
waiting_row c plan past es ss r b V false e l h = true_false (waits es) h (l.quiet e)

confirmed_by : {Owed : Type 0} (c : Codecs) (plan : PostPlan) (past es : List Seen) (t : State) (spoken : Spoken) (e : Option EndCause) (lives : Option (List Seen)) (kept : Option Session) (b : Option EndCause) (V : Type 0) → session past ≡ Some es → lives ≡ Some es → t.session ≡ kept → t.agenda.reply ≡ Some spoken → Ready c plan Owed past t
    → Stops c plan past e (Some spoken) → Tie c plan past e lives kept (Some spoken) b V → waits es ≡ true → AwaitsReply past
confirmed_by c plan past es t spoken e None kept b V here l k r ready s tie w = cc
confirmed_by c plan past es t spoken e (Some zs) None b V here l k r ready s tie w = absurd tie
confirmed_by c plan past es t spoken (Some cause) (Some zs) (Some ss) b V here l k r ready s tie w = true_false (waits es) w (stopping_still c plan past es cause spoken here s)
confirmed_by c plan past es t spoken None (Some zs) (Some ss) b V here l k r ready s tie w =
    let x : zs ≡ es = cc in
    let m = subst (λ (us : List Seen). Link c plan past us ss.stage ss.unread (Some spoken) b V) x tie in
    elim (ready.unsaid ss k (waiting_row c plan past es ss (Some spoken) b V (is_waiting ss.stage.row) refl m w)) [
      | inl h ↦ some_none (AwaitsReply past) t.agenda.reply spoken r h
      | inr h ↦ h.0
    ]

replies_now : {Owed : Type 0} (c : Codecs) (plan : PostPlan) (past : List Seen) (t : State) (spoken : Spoken) → IsSome (session past) → t.agenda.reply ≡ Some spoken → Linked c plan past t → Ready c plan Owed past t → Replies past
replies_now c plan past t spoken i r l ready =
    let k = some_of (session past) i in
    record {
      es = k.0;
      session_is = k.1;
      confirmed = confirmed_by c plan past k.0 t spoken t.agenda.ending (session past) t.session t.agenda.behind_reply _ k.1 k.1 refl r ready
          (subst (λ (x : Option Spoken). Stops c plan past t.agenda.ending x) r ready.stops)
          (subst (λ (x : Option Spoken). Tie c plan past t.agenda.ending (session past) t.session x t.agenda.behind_reply (Premise t.part t.event)) r l.tie);
    }

-- The reply to PowerDelivery Start is one that waited.

pub record Awaited (c : Codecs) (plan : PostPlan) (a : Act) (taken : Bool) (past : List Seen) : Type 0 where
  pub xs : List Exchange
  pub answered : IsAnswered c plan (Did a taken ∷ past) xs
  pub awaited : IsReply a → answers_start xs ≡ true → AwaitsReply past

other_said : (c : Codecs) (plan : PostPlan) (past : List Seen) (bytes : List ℕ) (taken : Bool) (d : Dialect) (reply : Reply) → ReadsBack c → IsSpoken c (Said d reply) bytes → Other c plan past d reply → Awaited c plan (Send bytes) taken past
other_said c plan past bytes taken d reply back s o = record {
  xs = Answered o.request (read_back reply) past ∷ o.xs;
  answered = said_answered c plan past o.es o.xs bytes taken o.request d reply back s o.session_is o.answered o.asks o.ok;
  awaited = λ h e. true_false (asks_start o.request.ask) e o.other;
}

-- the first exchange is the negotiation
first_by : (c : Codecs) (offers : List Dialect) (heard bytes : List ℕ) (past : List Seen) (newest : Exchange) (earlier : List Exchange) → length earlier ≡ 0 → IsExchange c offers heard earlier bytes past newest → answers_start (newest ∷ earlier) ≡ false
first_by c offers heard bytes past (Negotiation chosen) earlier n i = refl
first_by c offers heard bytes past (Answered request reply before) [] n i = absurd i
first_by c offers heard bytes past (Answered request reply before) (x ∷ xs) n i = absurd (let l : length (x ∷ xs) ≡ suc (length xs) = refl in omega (arith, n, l))

first_other : (c : Codecs) (plan : PostPlan) (past es : List Seen) (bytes : List ℕ) (taken : Bool) (xs : List Exchange) → session past ≡ Some es → length (replies es) ≡ 0 → Talks c plan.dialects.items (Did (Send bytes) taken ∷ past) xs → answers_start xs ≡ false
first_other c plan past es bytes taken xs l n t =
    let one : OneMore c plan.dialects.items es past bytes (Talks c plan.dialects.items past) xs = subst (λ (lives : Option (List Seen)). InSession lives (λ us. OneMore c plan.dialects.items us past bytes (Talks c plan.dialects.items past) xs) (xs ≡ [])) l t in
    let m = counted c plan.dialects.items past es one.earlier l one.before in
    ap answers_start one.xs_are ∙ first_by c plan.dialects.items (stream es) bytes past one.newest one.earlier (omega (arith, n, m)) one.is

response_first : (c : Codecs) (plan : PostPlan) (past es : List Seen) (ss : Session) (payload : List ℕ) (b : Option EndCause) (V : Type 0) → session past ≡ Some es → is_waiting ss.stage.row ≡ false → Link c plan past es ss.stage ss.unread (Some (Response payload)) b V → length (replies es) ≡ 0
response_first c plan past es ss payload b V l w t =
    let k = pends_in (Waits c plan past es t.xs t.taken ss.stage (Some (Response payload)) V) (Pending c plan past es t.xs t.taken ss.stage (Some (Response payload)) b V) (is_waiting ss.stage.row) w t.talk in
    let m = counted c plan.dialects.items past es t.xs l t.talks in
    m ∙ ap length k.1.0

sends_by : (c : Codecs) (plan : PostPlan) (past es : List Seen) (bytes : List ℕ) (taken : Bool) (e : Option EndCause) (ss : Session) (spoken : Spoken) (b : Option EndCause) (V : Type 0) (w : Bool) → is_waiting ss.stage.row ≡ w → ReadsBack c → IsSpoken c spoken bytes → session past ≡ Some es
    → Stops c plan past e (Some spoken) → Tie c plan past e (Some es) (Some ss) (Some spoken) b V → (w ≡ true → AwaitsReply past) → Others c plan past (Some ss) (Some spoken) → Talked c plan (Did (Send bytes) taken ∷ past) → Awaited c plan (Send bytes) taken past
sends_by c plan past es bytes taken e ss spoken b V true i back s l stops tie f o talked = record { xs = talked.0; answered = talked.1; awaited = λ h g. f refl }
sends_by c plan past es bytes taken e ss (Said d reply) b V false i back s l stops tie f o talked = other_said c plan past bytes taken d reply back s (o ss refl i)
sends_by c plan past es bytes taken (Some k) ss (Response payload) b V false i back s l stops tie f o talked = absurd stops
sends_by c plan past es bytes taken None ss (Response payload) b V false i back s l stops tie f o talked =
    let n = response_first c plan past es ss payload b V l i tie in
    record { xs = talked.0; answered = talked.1; awaited = λ h g. true_false (answers_start talked.0) g (first_other c plan past es bytes taken talked.0 l n talked.1.talks) }

sends_in : (c : Codecs) (plan : PostPlan) (past es : List Seen) (bytes : List ℕ) (taken : Bool) (e : Option EndCause) (lives : Option (List Seen)) (kept : Option Session) (spoken : Spoken) (a : Agenda) (b : Option EndCause) (V : Type 0) → ReadsBack c → IsSpoken c spoken bytes → session past ≡ Some es → lives ≡ Some es
    → a.reply ≡ Some spoken → Stops c plan past e (Some spoken) → Tie c plan past e lives kept (Some spoken) b V → Unsaid past kept a → Others c plan past kept (Some spoken) → Talked c plan (Did (Send bytes) taken ∷ past) → Awaited c plan (Send bytes) taken past
sends_in c plan past es bytes taken e None kept spoken a b V back s l k r stops tie u o talked = cc
sends_in c plan past es bytes taken e (Some zs) None spoken a b V back s l k r stops tie u o talked = absurd tie
sends_in c plan past es bytes taken e (Some zs) (Some ss) spoken a b V back s l k r stops tie u o talked =
    let x : zs ≡ es = cc in
    let t = subst (λ (us : List Seen). Tie c plan past e (Some us) (Some ss) (Some spoken) b V) x tie in
    sends_by c plan past es bytes taken e ss spoken b V (is_waiting ss.stage.row) refl back s l stops t (λ w. elim (u ss refl w) [
      | inl h ↦ some_none (AwaitsReply past) a.reply spoken r h
      | inr h ↦ h.0
    ]) o talked

spoken_by : (c : Codecs) (todo : Todo) (bytes : List ℕ) (taken : Bool) (spoken : Spoken) → todo ≡ states.Say spoken → IsDone c todo (Send bytes) taken → IsSpoken c spoken bytes
spoken_by c todo bytes taken spoken e i =
    let j = subst (λ (x : Todo). IsDone c x (Send bytes) taken) e i in
    let x : Send bytes ≡ Send j.0 = j.2 in
    let y : bytes ≡ j.0 = cc in
    subst (λ (bs : List ℕ). IsSpoken c spoken bs) (sym y) j.1

awaits_now : {Owed : Type 0} (c : Codecs) (plan : PostPlan) (past : List Seen) (t : State) (todo : Todo) (a : Act) (taken : Bool) → ReadsBack c → first t.agenda ≡ Some todo → IsDone c todo a taken → IsSilent (Did a taken ∷ past) → Linked c plan past t → Ready c plan Owed past t → Talked c plan (Did a taken ∷ past) → Awaited c plan a taken past
awaits_now c plan past t todo (Give o) taken back f i q l r talked = record { xs = talked.0; answered = talked.1; awaited = λ h e. absurd h }
awaits_now c plan past t todo (Answer bytes) taken back f i q l r talked = record { xs = talked.0; answered = talked.1; awaited = λ h e. absurd h }
awaits_now c plan past t todo (End cause) taken back f i q l r talked = record { xs = talked.0; answered = talked.1; awaited = λ h e. absurd h }
awaits_now c plan past t todo (Send bytes) taken back f i q l r talked =
    let k = say_done c todo bytes taken i in
    let m = some_of (session past) q.1 in
    let say = (say_is t.agenda.datagram t.agenda.order t.agenda.reply t.agenda.ending k.0 (f ∙ ap Some k.1)).0 in
    sends_in c plan past m.0 bytes taken t.agenda.ending (session past) t.session k.0 t.agenda t.agenda.behind_reply (Premise t.part t.event) back (spoken_by c todo bytes taken k.0 k.1 i) m.1 m.1 say
    (subst (λ (x : Option Spoken). Stops c plan past t.agenda.ending x) say r.stops)
    (subst (λ (x : Option Spoken). Tie c plan past t.agenda.ending (session past) t.session x t.agenda.behind_reply (Premise t.part t.event)) say l.tie)
    r.unsaid
    (subst (λ (x : Option Spoken). Others c plan past t.session x) say r.others)
    talked

-- The end.

end_done : (c : Codecs) (todo : Todo) (cause : ℕ) (taken : Bool) → IsDone c todo (End cause) taken → (k : EndCause) × (todo ≡ states.Finish k) × (cause ≡ number_of k)
end_done c (states.Tell d) cause taken i = absurd (let x : End cause ≡ Answer d = i in cc)
end_done c (states.Give o) cause taken i = absurd (let x : End cause ≡ Give o = i in cc)
end_done c (states.Say spoken) cause taken i = absurd (let x : End cause ≡ Send i.0 = i.2 in cc)
end_done c (states.Finish k) cause taken i = let x : End cause ≡ End (number_of k) = i.0 in (k, refl, cc)

ends_now : {Owed : Type 0} (c : Codecs) (plan : PostPlan) (past : List Seen) (t : State) (k : EndCause) (cause : ℕ) → cause ≡ number_of k → t.agenda.ending ≡ Some k → t.agenda.reply ≡ None → Ready c plan Owed past t → EndsByStop c plan past cause
ends_now c plan past t k cause n e r ready =
    let s : Ends c plan past k = subst (λ (x : Option Spoken). Stops c plan past (Some k) x) r (subst (λ (x : Option EndCause). Stops c plan past x t.agenda.reply) e ready.stops) in
    record { request = s.request; reply = s.reply; before = s.before; earlier = s.earlier; answered = s.answered; pause = s.pause; stop = s.stop; cause_is = n ∙ ap number_of s.cause_is }

-- Each act.

acts_well : {Owed : Type 0} (c : Codecs) (plan : PostPlan) (past : List Seen) (t : State) (todo : Todo) (a : Act) (taken : Bool) → first t.agenda ≡ Some todo → IsDone c todo a taken → IsSilent (Did a taken ∷ past) → arriving past ≡ None → AreServed c plan past → Linked c plan past t → Ready c plan Owed past t → Acts c plan a past
acts_well c plan past t todo (Give order.Close) taken f i q began s l r =
    let k = close_is c todo taken i in
    closes_now c plan past t l r began s (give_is t.agenda.datagram t.agenda.order t.agenda.reply t.agenda.ending order.Close (f ∙ ap Some k))
acts_well c plan past t todo (Give order.Open) taken f i q began s l r = tt
acts_well c plan past t todo (Give (order.Limits voltage current watts)) taken f i q began s l r = tt
acts_well c plan past t todo (Send bytes) taken f i q began s l r =
    let k = say_done c todo bytes taken i in
    replies_now c plan past t k.0 q.1 (say_is t.agenda.datagram t.agenda.order t.agenda.reply t.agenda.ending k.0 (f ∙ ap Some k.1)).0 l r
acts_well c plan past t todo (Answer bytes) taken f i q began s l r = tt
acts_well c plan past t todo (End cause) taken f i q began s l r =
    let k = end_done c todo cause taken i in
    let e = finish_is t.agenda.datagram t.agenda.order t.agenda.reply t.agenda.ending k.0 (f ∙ ap Some k.1) in
    ends_now c plan past t k.0 cause k.2 e.0 e.1 r

-- the reply that waited is all that follows its feedback
wanted_not : (t : State) → is_done t.agenda ≡ false → wanted t ≡ None
wanted_not t d = rw d refl

read_nothing : (c : Codecs) (plan : PostPlan) (S : ℕ → ℕ → Type 0) (t : State) (w : Option Payload) (reading : Option Reading) → w ≡ None → IsRead c plan S t w reading → reading ≡ None
read_nothing c plan S t None None e i = refl
read_nothing c plan S t None (Some reading) e i = absurd i
read_nothing c plan S t (Some p) reading e i = cc

said_first : (a : Agenda) (d : Option (List ℕ)) (o : Option Order) (r : Option Spoken) (e : Option EndCause) (spoken : Spoken) → d ≡ None → o ≡ None → r ≡ Some spoken → first_of d o r e ≡ Some (states.Say spoken)
said_first a d o r e spoken x y z = rw (x, y, z) refl

is_reply : (c : Codecs) (todo : Todo) (a : Act) (taken : Bool) (spoken : Spoken) → todo ≡ states.Say spoken → IsDone c todo a taken → IsReply a
is_reply c todo a taken spoken e i = let j = subst (λ (x : Todo). IsDone c x a taken) e i in subst IsReply (sym j.2) tt

said_only : (c : Codecs) (plan : PostPlan) (S : ℕ → ℕ → Type 0) (s : State) (reading : Option Reading) (todo : Todo) (a : Act) (taken : Bool) → IsRead c plan S (decided plan s) (wanted (decided plan s)) reading → first (filled plan reading s).agenda ≡ Some todo → IsDone c todo a taken → Confirms (decided plan s).agenda → IsReply a
said_only c plan S s reading todo a taken i f d k =
    let t = decided plan s in
    let g = said_first t.agenda t.agenda.datagram t.agenda.order t.agenda.reply t.agenda.ending k.spoken k.datagram_is k.order_is k.reply_is in
    let n = read_nothing c plan S t (wanted t) reading (wanted_not t (ap is_none g)) i in
    let h : first t.agenda ≡ Some todo = sym (ap (λ (x : Option Reading). first (filled plan x s).agenda) n) ∙ f in
    let x : Some todo ≡ Some (states.Say k.spoken) = sym h ∙ g in
    let y : todo ≡ states.Say k.spoken = cc in
    is_reply c todo a taken k.spoken y d

-- Behind a block.

whole_none : (f : Result (Option ℕ) FrameFault) (ss : Session) (live : Bool) → payload_by f ss ≡ None → fronting_by f false live ≡ nothing → f ≡ Ok None
whole_none (Err fault) ss live p n = absurd (let x : Some _ ≡ None = ap (λ (a : Agenda). a.ending) n in cc)
whole_none (Ok None) ss live p n = refl
whole_none (Ok (Some len)) ss live p n = cc

unless_read : (b : Bool) (o : Option Payload) → b ≡ false → (if b then None else o) ≡ None → o ≡ None
unless_read true o e h = cc
unless_read false o e h = h

each_by : (b w : Bool) (n m k : ℕ) → w ≡ b → n ≡ k → k ≡ (if b then m + 1 else m) → n ≡ (if w then m + 1 else m)
each_by b w n m k e f g = f ∙ g ∙ ap (λ (x : Bool). if x then m + 1 else m) (sym e)

rested_link : (c : Codecs) (plan : PostPlan) (past es : List Seen) (ss : Session) (live b : Bool) → session past ≡ Some es → AreOctets (stream es) → IsFramed es → is_waiting ss.stage.row ≡ b → (is_waiting ss.stage.row ≡ true → waits es ≡ true) → payload_in (Some ss) ≡ None → fronting (Some ss) live ≡ nothing
    → Link c plan past es ss.stage ss.unread None None (Unit {0}) → IsUpToDate c plan past es
rested_link c plan past es ss live true l o f w q p n t =
    let k = waits_in (Waits c plan past es t.xs t.taken ss.stage None (Unit {0})) (Pending c plan past es t.xs t.taken ss.stage None None (Unit {0})) (is_waiting ss.stage.row) w t.talk in
    let m = counted c plan.dialects.items past es t.xs l t.talks in
    let count : t.taken ≡ length t.xs + 1 = let x = k.count in omega (arith, x) in
    let place : t.taken ≡ length (replies es) + 1 = omega (arith, count, m) in
    let none : whole_at (behind_frames t.taken (stream es)) ≡ Ok None = ap (λ (i : ℕ). whole_at (behind_frames i (stream es))) place ∙ f.alone (q w) in
    record {
      xs = t.xs;
      answered = record { talks = t.talks; ok = t.ok };
      each = λ payloads rest g. each_by true (waits es) (length payloads) (length t.xs) t.taken (q w) (counts t.taken (stream es) o t.whole none payloads rest g) count;
      start = λ h. start_of c plan past es t.xs t.taken ss.stage None (Unit {0}) k;
    }
rested_link c plan past es ss live false l o f w q p n t =
    let k = pends_in (Waits c plan past es t.xs t.taken ss.stage None (Unit {0})) (Pending c plan past es t.xs t.taken ss.stage None None (Unit {0})) (is_waiting ss.stage.row) w t.talk in
    let u : payload_by (whole_at ss.unread) ss ≡ None = unless_read (is_waiting ss.stage.row) (payload_by (whole_at ss.unread) ss) w p in
    let v : fronting_by (whole_at ss.unread) false live ≡ nothing = ap (λ (x : Bool). fronting_by (whole_at ss.unread) x live) (sym w) ∙ n in
    let none : whole_at (behind_frames t.taken (stream es)) ≡ Ok None = sym (ap whole_at t.unread_is) ∙ whole_none (whole_at ss.unread) ss live u v in
    let still = t.quiet w in
    record {
      xs = t.xs;
      answered = record { talks = t.talks; ok = t.ok };
      each = λ payloads rest g. each_by false (waits es) (length payloads) (length t.xs) t.taken still (counts t.taken (stream es) o t.whole none payloads rest g) k.0;
      start = λ h. true_false (waits es) h still;
    }

rested_by : (c : Codecs) (plan : PostPlan) (past : List Seen) (live : Bool) (lives : Option (List Seen)) (kept : Option Session) → session past ≡ lives → ((es : List Seen) → lives ≡ Some es → AreOctets (stream es)) → AreFramed lives → Still lives kept → payload_in kept ≡ None → fronting kept live ≡ nothing
    → Tie c plan past None lives kept None None (Unit {0}) → OfSession lives (IsUpToDate c plan past)
rested_by c plan past live None kept l o f q p n t = tt
rested_by c plan past live (Some es) None l o f q p n t = absurd t
rested_by c plan past live (Some es) (Some ss) l o f q p n t = rested_link c plan past es ss live (is_waiting ss.stage.row) l (o es refl) f refl (λ w. q es ss refl refl w) p n t

wanted_done : (s : State) → is_done s.agenda ≡ true → wanted s ≡ None → payload_in s.session ≡ None
wanted_done s d h = sym (let x : wanted s ≡ payload_in s.session = rw d refl in x) ∙ h

quiet_same : {Owed : Type 0} (c : Codecs) (plan : PostPlan) (past : List Seen) (s t : State) → first t.agenda ≡ None → Decides c plan Owed past s t → t ≡ s
quiet_same c plan past s t q d = elim d.outcome [
  | inl h ↦ h
  | inr h ↦ absurd (let x : true ≡ false = sym (ap is_none q) ∙ h in cc)
]

rests_well : (c : Codecs) (plan : PostPlan) (steps : List Step) → ReadsBack c → IsPostRun c plan steps → Conforms plan steps → AreHeard (map seen_of steps) → IsQuiet plan (state plan steps) → IsRested c plan (map seen_of steps)
rests_well c plan steps back run conf heard quiet =
    let past = map seen_of steps in
    let s = state plan steps in
    let d = decides_well c plan steps run conf heard (run_well c plan steps back run conf heard) in
    let e = quiet_same c plan past s (decided plan s) quiet.none d in
    let done = quiet_done plan s quiet in
    let tied = run_tied c plan steps back run in
    let clear = quiet_clear c plan past s tied.linked quiet in
    let none = wanted_done s done (sym (ap wanted e) ∙ quiet.no_word) in
    record {
      up_to_date = rested_by c plan past s.live (session past) s.session refl (λ es l. stream_octets past es heard l) (framed_of plan steps conf) (quiet_still plan past s tied.shut quiet) none (fronts_nothing c plan steps run conf heard done) clear.tie;
      confirmed = λ h.
          let k = d.at_once h in
          let t = decided plan s in
          let g = said_first t.agenda t.agenda.datagram t.agenda.order t.agenda.reply t.agenda.ending k.spoken k.datagram_is k.order_is k.reply_is in
          absurd (let x : None ≡ Some (states.Say k.spoken) = sym quiet.none ∙ g in cc);
    }

-- Every run.

rests_in : (c : Codecs) (plan : PostPlan) (steps : List Step) → ReadsBack c → IsPostRun c plan steps → Conforming plan steps → AreHeard (map seen_of steps) → IsQuiet plan (state plan steps) → RestsIn c plan (map seen_of steps)
rests_in c plan steps back run conf heard quiet = unless (arriving (map seen_of steps)) (IsRested c plan (map seen_of steps)) (λ a. rests_well c plan steps back run (record { began = a; all = conf }) heard quiet)

serves_act : (c : Codecs) (plan : PostPlan) (steps : List Step) (reading : Option Reading) (a : Act) (taken : Bool) → ReadsBack c → IsPostRun c plan (Does reading a taken ∷ steps) → Conforms plan (Does reading a taken ∷ steps) → AreHeard (map seen_of steps) → IsSilent (Did a taken ∷ map seen_of steps)
    → AreServed c plan (map seen_of steps) → IsServed c plan a taken (map seen_of steps)
serves_act c plan steps reading a taken back (run, (limit, before, behind, acts)) conf heard silent earlier =
    let past = map seen_of steps in
    let s = state plan steps in
    let S : ℕ → ℕ → Type 0 = Shows limit before behind in
    let was : Conforms plan steps = behind_act plan reading a taken steps conf in
    let w = run_well c plan steps back run was heard in
    let d = decides_well c plan steps run was heard w in
    let r = fills_well c plan (Shows limit before behind) steps reading a taken back run conf heard acts.read w in
    let l = filled_linked c plan (Shows limit before behind) past s reading acts.read (run_linked c plan steps back run) in
    let later = does_well c plan steps reading acts.todo a taken back acts.acts acts.done (more plan (Does reading a taken) steps conf).goes_on.0 r in
    let talked = talked_at c plan (Does reading a taken ∷ steps) back (run, (limit, before, behind, acts)) later in
    let g = awaits_now c plan past (filled plan reading s) acts.todo a taken back acts.acts acts.done silent l r talked in
    record {
      xs = g.xs;
      answered = g.answered;
      awaited = g.awaited;
      acts = acts_well c plan past (filled plan reading s) acts.todo a taken acts.acts acts.done silent was.began earlier l r;
      at_once = λ h. said_only c plan (Shows limit before behind) s reading acts.todo a taken acts.read acts.acts acts.done (d.at_once h);
    }

serves : (c : Codecs) (plan : PostPlan) (steps : List Step) → ReadsBack c → IsPostRun c plan steps → Conforming plan steps → AreHeard (map seen_of steps) → IsSilent (map seen_of steps) → AreServed c plan (map seen_of steps)
serves c plan [] back run conf heard silent = tt
serves c plan (Hears at e ∷ steps) back run conf heard silent = unless (arriving (Heard at e ∷ map seen_of steps)) (AreServed c plan (map seen_of steps) × RestsIn c plan (map seen_of steps)) (λ a.
    let m = more plan (Hears at e) steps (record { began = a; all = conf }) in
    (serves c plan steps back run.0 m.earlier heard.0 silent, rests_in c plan steps back run.0 m.earlier heard.0 run.1))
serves c plan (Does reading a taken ∷ steps) back run conf heard silent = unless (arriving (map seen_of steps)) (AreServed c plan (map seen_of steps) × IsServed c plan a taken (map seen_of steps)) (λ h.
    let now : Conforms plan (Does reading a taken ∷ steps) = record { began = h; all = conf } in
    let earlier = serves c plan steps back run.0 (more plan (Does reading a taken) steps now).earlier heard silent.0 in
    (earlier, serves_act c plan steps reading a taken back run now heard silent earlier))

-- So it is behind each step.

front_run : (c : Codecs) (plan : PostPlan) (newer front : List Step) → IsPostRun c plan (newer ++ front) → IsPostRun c plan front
front_run c plan [] front run = run
front_run c plan (Hears at e ∷ newer) front run = front_run c plan newer front run.0
front_run c plan (Does reading act taken ∷ newer) front run = front_run c plan newer front run.0

front_heard : (newer front : List Step) → AreHeard (map seen_of (newer ++ front)) → AreHeard (map seen_of front)
front_heard [] front heard = heard
front_heard (Hears at e ∷ newer) front heard = front_heard newer front heard.0
front_heard (Does reading act taken ∷ newer) front heard = front_heard newer front heard

front_silent : (newer front : List Step) → IsSilent (map seen_of (newer ++ front)) → IsSilent (map seen_of front)
front_silent [] front silent = silent
front_silent (Hears at e ∷ newer) front silent = front_silent newer front silent
front_silent (Does reading act taken ∷ newer) front silent = front_silent newer front silent.0

pub runs_serve : (c : Codecs) → RunsServe c
runs_serve c site past posts before post behind back run is newer front steps conf =
    let all = subst (ArePostsOf c past 1) is (run_posts c site past posts run) in
    let k = post_at c past (length before + 1) 1 before post behind refl all in
    let heard = subst AreHeard k.seen_is (run_heard c site past posts (length before + 1) run) in
    let silent = subst IsSilent k.seen_is (runs_are_silent c site past posts before post behind run is) in
    let r = front_run c post.plan newer front (subst (λ (xs : List Step). IsPostRun c post.plan xs) steps k.run) in
    let h = front_heard newer front (subst (λ (xs : List Step). AreHeard (map seen_of xs)) steps heard) in
    let s = front_silent newer front (subst (λ (xs : List Step). IsSilent (map seen_of xs)) steps silent) in
    record {
      served = serves c post.plan front back r conf h s;
      up_to_date = λ q. rests_in c post.plan front back r conf h q;
    }

-- With the orders that close a run.

talked_rested : (c : Codecs) (plan : PostPlan) (past : List Seen) (lives : Option (List Seen)) → session past ≡ lives → OfSession lives (IsUpToDate c plan past) → Talked c plan past
talked_rested c plan past None l u = ([], record { talks = no_talk c plan.dialects.items past l; ok = tt })
talked_rested c plan past (Some es) l u = (u.xs, u.answered)

opened_date : (c : Codecs) (plan : PostPlan) (past es : List Seen) (taken : Bool) → IsUpToDate c plan past es → IsUpToDate c plan (Did (Give order.Open) taken ∷ past) (Did (Give order.Open) taken ∷ es)
opened_date c plan past es taken u = record {
  xs = u.xs;
  answered = record { talks = u.answered.talks; ok = u.answered.ok };
  each = u.each;
  start = λ h.
      let s = u.start h in
      record { spoken = s.spoken; payload = s.payload; request = s.request; dialect_is = s.dialect_is; next = s.next; request_is = s.request_is; start = s.start };
}

opened_up : (c : Codecs) (plan : PostPlan) (past : List Seen) (taken : Bool) (lives : Option (List Seen)) → OfSession lives (IsUpToDate c plan past) → OfSession (with_seen (Did (Give order.Open) taken) lives) (IsUpToDate c plan (Did (Give order.Open) taken ∷ past))
opened_up c plan past taken None u = tt
opened_up c plan past taken (Some es) u = opened_date c plan past es taken u

opened_rested : (c : Codecs) (plan : PostPlan) (past : List Seen) (taken : Bool) → IsRested c plan past → IsServed c plan (Give order.Open) taken past × IsRested c plan (Did (Give order.Open) taken ∷ past)
opened_rested c plan past taken r =
    let t = talked_rested c plan past (session past) refl r.up_to_date in (
      record { xs = t.0; answered = record { talks = t.1.talks; ok = t.1.ok }; acts = tt; awaited = λ h e. absurd h; at_once = λ h. absurd (r.confirmed h) },
      record { up_to_date = opened_up c plan past taken (session past) r.up_to_date; confirmed = λ h. h },
    )

opened_served : (c : Codecs) (plan : PostPlan) (past : List Seen) (taken : Bool) → AreServed c plan past → RestsIn c plan past → AreServed c plan (Did (Give order.Open) taken ∷ past) × RestsIn c plan (Did (Give order.Open) taken ∷ past)
opened_served c plan past taken s r = (
  unless (arriving past) (AreServed c plan past × IsServed c plan (Give order.Open) taken past) (λ a. (s, (opened_rested c plan past taken (otherwise (arriving past) (IsRested c plan past) (Unit {0}) a r)).0)),
  unless (arriving past) (IsRested c plan (Did (Give order.Open) taken ∷ past)) (λ a. (opened_rested c plan past taken (otherwise (arriving past) (IsRested c plan past) (Unit {0}) a r)).1),
)

closed_served : (c : Codecs) (plan : PostPlan) (past blocks : List Seen) (b : Bool) → MatchBool b ((taken : Bool) × (past ≡ Did (Give order.Open) taken ∷ blocks)) (past ≡ blocks) → AreServed c plan blocks → RestsIn c plan blocks → AreServed c plan past × RestsIn c plan past
closed_served c plan past blocks true e s r =
    let k = opened_served c plan blocks e.0 s r in
    subst (λ (xs : List Seen). AreServed c plan xs × RestsIn c plan xs) (sym e.1) k
closed_served c plan past blocks false e s r = subst (λ (xs : List Seen). AreServed c plan xs × RestsIn c plan xs) (sym e) (s, r)

pub whole_runs_serve : (c : Codecs) → WholeRunsServe c
whole_runs_serve c site past before post behind back run is conf =
    let all = subst (ArePostsOf c run.blocks 1) is (run_posts c site run.blocks run.posts run.run) in
    let e = (post_at c run.blocks (length before + 1) 1 before post behind refl all).seen_is in
    let k = runs_serve c site run.blocks run.posts before post behind back run.run is [] post.steps refl conf in
    let q : Rests post = quiet_at before post behind (subst (λ (posts : List Post). AreQuiet posts) is run.whole) in
    closed_served c post.plan (seen (length before + 1) past) (seen (length before + 1) run.blocks) (live (seen (length before + 1) run.blocks)) (runs_end_open c site past run.blocks run.posts before post behind run.run run.closes is)
    (subst (AreServed c post.plan) (sym e) k.served) (subst (RestsIn c post.plan) (sym e) (k.up_to_date q))
