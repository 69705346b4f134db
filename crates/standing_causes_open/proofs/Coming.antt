-- A cause that stands came there, or before it in its session; and so it opens.
use Rattle.std.proofs.Common.{◌≡◌, ◌≤◌, ◌<◌, ℕ, ◌+◌, Bool, true, false, List, [], ◌∷◌, ◌++◌, length, map, Option, Some, None, refl, sym, ap, subst, ◌∙◌, inl, inr, ◌⊎◌, arith}
use Rattle.charge_world.specs.declared.entry.Entry.{Entry}
use Rattle.charge_world.specs.declared.ports.Order.{Order}
use Rattle.charge_world.specs.declared.ports.Order.TheVariants as order
use Rattle.session_words.specs.declared.cause.EndCause.{EndCause}
use Rattle.session_words.specs.declared.cause.EndCause.TheVariants.{SendFailed, OrderFailed}
use Rattle.session_words.specs.declared.cause.Timeout.{Timeout}
use Rattle.session_words.specs.declared.cause.Timeout.TheVariants.{Setup, Sequence, Feedback}
use Rattle.session_words.specs.declared.facts.Facts.{Facts}
use Rattle.session_words.specs.declared.plan.PostPlan.{PostPlan}
use Rattle.session_words.specs.declared.plan.SitePlan.{SitePlan}
use Rattle.session_words.specs.Causes.{cause_of}
use Rattle.session_timers.specs.Due.{never}
use Rattle.session_timers.specs.Law.{span_of}
use Rattle.session_rules.specs.Causes.{found_by, word_cause}
use Rattle.session_rules.specs.Stages.{is_set_up}
use Rattle.session_rules.specs.Verdict.{verdict}
use Rattle.post_spec.specs.Causes.{running, counts_from, due, found_word, IsCause, IsDue, IsTold, HasLeft, HasCome as HasArrived, IsOver, HasNotSent, HasNotDriven, HasNoMatch, IsWord}
use Rattle.post_spec.specs.Codecs.{Negotiated, Asked, WrongSide, Refused, Codecs}
use Rattle.post_spec.specs.Contactors.{live}
use Rattle.post_spec.specs.Course.{Talked, Course, course, facts_of, read_by}
use Rattle.post_spec.specs.Facts.{now}
use Rattle.post_spec.specs.Sessions.{session, with_seen, stream, brought, waits}
use Rattle.post_spec.specs.Spelled.{ReadsBack, AreDetermined}
use Rattle.post_spec.specs.Steps.{Event, Came, Bytes, Gone, Datagram, Plant, Clock, Over, Act, Give, Send, Answer, End, Seen, Did, Reading, Step, Hears, Does, seen_of}
use Rattle.post_spec.specs.Words.{HeardWord, Payload, Fault, Words, next_words}
use Rattle.station_spec.specs.Acting.{state}
use Rattle.station_spec.specs.Next.{Acts}
use Rattle.station_spec.specs.Sharing.{Post, Shows}
use Rattle.station_spec.specs.Runs.{IsRun}
use Rattle.station_laws.specs.PostRuns.{IsPostRun, ArePostsOf}
use Rattle.station_laws.proofs.PostRuns.{run_posts, post_at}
use Rattle.read_sessions.proofs.Keeping.{session_now}
use Rattle.coming_causes_open.specs.Causing.{HasCause, OpenAtCauses}
use Rattle.coming_causes_open.proofs.Causing.{runs_open}
use Rattle.heard_deadlines.specs.Reached.{AreLateByHearing}
use Rattle.heard_deadlines.proofs.Acted.{runs_are_late_by_hearing}
use Rattle.words_by_bytes.specs.Words.{AreRead}
use Rattle.words_by_bytes.proofs.Read.{runs_read_words}
use Rattle.next_words.specs.Next.{IsNextWord, AreReadInOrder}
use Rattle.next_words.proofs.Order.{runs_read_in_order}
use Rattle.standing_causes_open.specs.Standing.{HasCome, CameBefore, HaveCome, RunsHaveCome, StandsFirst, OpenAtFirst, CausesOpen}
use Rattle.standing_causes_open.proofs.Again.{Limits, tells_unread, limited, no_cause_again}

-- what the laws below say of the steps of a post
pub record Laws (c : Codecs) (plan : PostPlan) (steps : List Step) : Type 0 where
  pub run : IsPostRun c plan steps
  pub late : AreLateByHearing plan steps
  pub read : AreRead c plan (map seen_of steps)
  pub ordered : AreReadInOrder c plan steps

pub acted_laws : (c : Codecs) (plan : PostPlan) (r : Option Reading) (a : Act) (taken : Bool) (steps : List Step) → Laws c plan (Does r a taken ∷ steps) → Laws c plan steps
acted_laws c plan r a taken steps l = record { run = l.run.0; late = l.late.0; read = l.read; ordered = l.ordered.0 }

pub heard_laws : (c : Codecs) (plan : PostPlan) (at : ℕ) (e : Event) (steps : List Step) → Laws c plan (Hears at e ∷ steps) → Laws c plan steps
heard_laws c plan at e steps l = record { run = l.run.0; late = l.late; read = l.read.0; ordered = l.ordered }

-- the session before an act
pub lives_before : (x : Seen) (lives : Option (List Seen)) (es : List Seen) → with_seen x lives ≡ Some es → (zs : List Seen) × (lives ≡ Some zs) × (es ≡ x ∷ zs)
lives_before x None es h = cc
lives_before x (Some zs) es h = (zs, refl, cc)

-- what came before an act came before it is done too
pub came_on : (c : Codecs) (plan : PostPlan) (r : Option Reading) (a : Act) (taken : Bool) (steps : List Step) (es : List Seen) → session (map seen_of (Does r a taken ∷ steps)) ≡ Some es → HasCome c plan steps ⊎ CameBefore c plan steps → CameBefore c plan (Does r a taken ∷ steps)
came_on c plan r (Give o) taken steps es here h = h
came_on c plan r (Send bytes) taken steps es here h = h
came_on c plan r (Answer bytes) taken steps es here h = h
came_on c plan r (End cause) taken steps es here h = cc

pub act_before : (plan : PostPlan) (r : Option Reading) (a : Act) (taken : Bool) (steps : List Step) (es : List Seen) → session (map seen_of (Does r a taken ∷ steps)) ≡ Some es → (zs : List Seen) × (session (map seen_of steps) ≡ Some zs) × (es ≡ Did a taken ∷ zs)
act_before plan r (Give o) taken steps es h = lives_before (Did (Give o) taken) (session (map seen_of steps)) es h
act_before plan r (Send bytes) taken steps es h = lives_before (Did (Send bytes) taken) (session (map seen_of steps)) es h
act_before plan r (Answer bytes) taken steps es h = lives_before (Did (Answer bytes) taken) (session (map seen_of steps)) es h
act_before plan r (End cause) taken steps es h = cc

-- A deadline.

span_some : (k : Timeout) → 1 ≤ span_of k
span_some Setup = let x : 1 ≤ 18000 = omega arith in x
span_some Sequence = let x : 1 ≤ 60000 = omega arith in x
span_some Feedback = let x : 1 ≤ 3000 = omega arith in x

-- an act that begins the time anew isn't late
anew : (k : Timeout) (n m : ℕ) → n ≡ m → n + span_of k ≤ m → ⊥
anew k n m e h = let s = span_some k in omega (arith, e, s, h)

counts_back : (k : Timeout) (a : Act) (taken : Bool) (zs : List Seen) (n : ℕ) → now zs ≡ n → counts_from k (Did a taken ∷ zs) + span_of k ≤ n → counts_from k (Did a taken ∷ zs) ≡ counts_from k zs
counts_back Setup a taken zs n e h = refl
counts_back Sequence (Give o) taken zs n e h = refl
counts_back Sequence (Send bytes) taken zs n e h = absurd (anew Sequence (now zs) n e h)
counts_back Sequence (Answer bytes) taken zs n e h = refl
counts_back Sequence (End cause) taken zs n e h = refl
counts_back Feedback (Give order.Open) taken zs n e h = refl
counts_back Feedback (Give order.Close) true zs n e h = absurd (anew Feedback (now zs) n e h)
counts_back Feedback (Give order.Close) false zs n e h = refl
counts_back Feedback (Give (order.Limits voltage current watts)) taken zs n e h = refl
counts_back Feedback (Send bytes) taken zs n e h = refl
counts_back Feedback (Answer bytes) taken zs n e h = refl
counts_back Feedback (End cause) taken zs n e h = refl

pub record Late (plan : PostPlan) (steps : List Step) : Type 0 where
  pub t : Talked
  pub es : List Seen
  pub course_is : (course plan steps).session ≡ Some t
  pub session_is : session (map seen_of steps) ≡ Some es
  pub reached : due (Some t) es ≤ now (map seen_of steps)
  pub bound : due (Some t) es < never

late_back : (plan : PostPlan) (r : Option Reading) (a : Act) (taken : Bool) (steps : List Step) → AreLateByHearing plan (Does r a taken ∷ steps) → Late plan (Does r a taken ∷ steps) → Late plan steps
late_back plan r a taken steps law l =
    let k : Timeout = running (is_set_up l.t.stage.row) (waits l.es) in
    let b = law.1 (running (is_set_up l.t.stage.row) (waits l.es)) (record { t = l.t; es = l.es; course_is = l.course_is; session_is = l.session_is; timeout_is = refl; reached = l.reached }) in
    let at = act_before plan r a taken steps l.es l.session_is in
    let same : at.0 ≡ b.es = (let x : Some at.0 ≡ Some b.es = sym at.1 ∙ b.session_is in cc) in
    let es_are : l.es ≡ Did a taken ∷ b.es = at.2 ∙ ap (λ (zs : List Seen). Did a taken ∷ zs) same in
    let here : counts_from (running (is_set_up l.t.stage.row) (waits l.es)) l.es ≡ counts_from (running (is_set_up l.t.stage.row) (waits l.es)) (Did a taken ∷ b.es) = ap (counts_from (running (is_set_up l.t.stage.row) (waits l.es))) es_are in
    let mine : due (Some l.t) l.es ≡ counts_from (running (is_set_up l.t.stage.row) (waits l.es)) l.es + span_of (running (is_set_up l.t.stage.row) (waits l.es)) = refl in
    let theirs : counts_from (running (is_set_up l.t.stage.row) (waits l.es)) b.es + span_of (running (is_set_up l.t.stage.row) (waits l.es)) ≡ due (Some b.t) b.es =
    ap (λ (x : Timeout). counts_from x b.es + span_of x) b.timeout_is in
    let time = session_now (map seen_of steps) b.es b.session_is in
    let le = l.reached in
    let lt = l.bound in
    let back = counts_back (running (is_set_up l.t.stage.row) (waits l.es)) a taken b.es (now (map seen_of steps)) time (omega (arith, here, mine, le)) in
    record { t = b.t; es = b.es; course_is = b.course_is; session_is = b.session_is; reached = b.reached; bound = omega (arith, theirs, back, here, mine, lt) }

pub late_came : (c : Codecs) (plan : PostPlan) (steps : List Step) → AreLateByHearing plan steps → Late plan steps → HasCome c plan steps ⊎ CameBefore c plan steps
late_came c plan [] law l = absurd (let x : None ≡ Some l.es = l.session_is in cc)
late_came c plan (Hears at e ∷ steps) law l = inl (record {
  cause = cause_of (running (is_set_up l.t.stage.row) (waits l.es));
  is = IsDue (Hears at e ∷ steps) l.t l.es l.course_is l.session_is l.reached l.bound;
  comes = tt;
})
late_came c plan (Does r a taken ∷ steps) law l = inr (came_on c plan r a taken steps l.es l.session_is (late_came c plan steps law.0 (late_back plan r a taken steps law l)))

-- The next word.

pub record Worded (c : Codecs) (plan : PostPlan) (steps : List Step) : Type 0 where
  pub t : Talked
  pub es : List Seen
  pub words : List HeardWord
  pub rest : List HeardWord
  pub word : HeardWord
  pub cause : EndCause
  pub course_is : (course plan steps).session ≡ Some t
  pub session_is : session (map seen_of steps) ≡ Some es
  pub heard : Words c plan.dialects.items (stream es) words
  pub next : next_words es words ≡ word ∷ rest
  pub judged : word_cause (waits es) (found_word t (map seen_of steps) (course plan steps) plan word) ≡ Some cause

abbrev is_word : (c : Codecs) (plan : PostPlan) (steps : List Step) (w : Worded c plan steps) → IsCause c plan steps w.cause
is_word c plan steps w = IsWord steps w.t w.es w.words w.rest w.word w.cause w.course_is w.session_is w.heard w.next w.judged

found_same : (t : Talked) (a b : List Seen) (c : Course) (plan : PostPlan) (word : HeardWord) → facts_of a c ≡ facts_of b c → found_word t a c plan word ≡ found_word t b c plan word
found_same t a b c plan (Payload (Negotiated chosen response)) e = refl
found_same t a b c plan (Payload (Asked r)) e = ap (λ (f : Facts). found_by (verdict t.stage f plan r) r.ask) e
found_same t a b c plan (Payload WrongSide) e = refl
found_same t a b c plan (Payload Refused) e = refl
found_same t a b c plan (Fault fault) e = refl

unread : (s : Option Talked) (past : List Seen) (c : Course) (plan : PostPlan) → read_by s past c plan None ≡ c
unread None past c plan = refl
unread (Some t) past c plan = refl

-- a datagram or limits, for which nothing was read, change nothing that a word is judged by
back_with : (c : Codecs) (plan : PostPlan) (steps : List Step) (a : Act) (taken : Bool) (w : Worded c plan (Does None a taken ∷ steps)) (zs : List Seen) → session (map seen_of steps) ≡ Some zs → w.es ≡ Did a taken ∷ zs
    → course plan (Does None a taken ∷ steps) ≡ course plan steps → facts_of (Did a taken ∷ map seen_of steps) (course plan steps) ≡ facts_of (map seen_of steps) (course plan steps)
    → stream (Did a taken ∷ zs) ≡ stream zs → waits (Did a taken ∷ zs) ≡ waits zs → next_words (Did a taken ∷ zs) w.words ≡ next_words zs w.words → Worded c plan steps
back_with c plan steps a taken w zs here es_are led facts heard still next = record {
  t = w.t;
  es = zs;
  words = w.words;
  rest = w.rest;
  word = w.word;
  cause = w.cause;
  course_is = sym (ap (λ (x : Course). x.session) led) ∙ w.course_is;
  session_is = here;
  heard = subst (λ (bytes : List ℕ). Words c plan.dialects.items bytes w.words) (ap stream es_are ∙ heard) w.heard;
  next = sym next ∙ sym (ap (λ (ys : List Seen). next_words ys w.words) es_are) ∙ w.next;
  judged =
      let one = subst (λ (x : Course). word_cause (waits w.es) (found_word w.t (Did a taken ∷ map seen_of steps) x plan w.word) ≡ Some w.cause) led w.judged in
      let two = subst (λ (b : Bool). word_cause b (found_word w.t (Did a taken ∷ map seen_of steps) (course plan steps) plan w.word) ≡ Some w.cause) (ap waits es_are ∙ still) one in
      sym (ap (word_cause (waits zs)) (found_same w.t (Did a taken ∷ map seen_of steps) (map seen_of steps) (course plan steps) plan w.word facts)) ∙ two;
}

told_back : (c : Codecs) (plan : PostPlan) (steps : List Step) (bytes : List ℕ) (taken : Bool) (w : Worded c plan (Does None (Answer bytes) taken ∷ steps)) → Worded c plan steps
told_back c plan steps bytes taken w =
    let at = lives_before (Did (Answer bytes) taken) (session (map seen_of steps)) w.es w.session_is in
    back_with c plan steps (Answer bytes) taken w at.0 at.1 at.2 (unread (course plan steps).session (map seen_of steps) (course plan steps) plan) refl refl refl refl

limits_back : (c : Codecs) (plan : PostPlan) (steps : List Step) (v i k : ℕ) (taken : Bool) (w : Worded c plan (Does None (Give (Limits v i k)) taken ∷ steps)) → Worded c plan steps
limits_back c plan steps v i k taken w =
    let at = lives_before (Did (Give (Limits v i k)) taken) (session (map seen_of steps)) w.es w.session_is in
    back_with c plan steps (Give (Limits v i k)) taken w at.0 at.1 at.2 (unread (course plan steps).session (map seen_of steps) (course plan steps) plan) refl refl refl refl

-- a word that ordered limits is accepted again
limits_none : (c : Codecs) (plan : PostPlan) (S : ℕ → ℕ → Type 0) (steps : List Step) (r : Reading) (v i k : ℕ) → IsPostRun c plan steps → Acts c plan S (state plan steps) (Some r) (Give (Limits v i k)) true → IsNextWord c plan (map seen_of steps) r.judged
    → Worded c plan (Does (Some r) (Give (Limits v i k)) true ∷ steps) → ⊥
limits_none c plan S steps r v i k run acts order w =
    let all = Does (Some r) (Give (Limits v i k)) true ∷ steps in
    let at = lives_before (Did (Give (Limits v i k)) true) (session (map seen_of steps)) w.es w.session_is in
    let heard = subst (λ (bytes : List ℕ). Words c plan.dialects.items bytes w.words) (ap stream at.2) w.heard in
    let n = order at.0 w.words at.1 heard in
    let heads : Payload r.judged ∷ n.later ≡ w.word ∷ w.rest = sym n.next_is ∙ sym (ap (λ (ys : List Seen). next_words ys w.words) at.2) ∙ w.next in
    let word : Payload r.judged ≡ w.word = cc in
    let still : waits w.es ≡ false = ap waits at.2 ∙ n.goes_on in
    let none = no_cause_again plan steps r v i k w.t (limited c plan S steps r v i k true run acts) w.course_is in
    let one = subst (λ (b : Bool). word_cause b (found_word w.t (map seen_of (Does (Some r) (Give (Limits v i k)) true ∷ steps)) (course plan (Does (Some r) (Give (Limits v i k)) true ∷ steps)) plan w.word) ≡ Some w.cause) still w.judged in
    let two = subst (λ (x : HeardWord). word_cause false (found_word w.t (map seen_of (Does (Some r) (Give (Limits v i k)) true ∷ steps)) (course plan (Does (Some r) (Give (Limits v i k)) true ∷ steps)) plan x) ≡ Some w.cause) (sym word) one in
    let bad : None ≡ Some w.cause = sym none ∙ two in
    cc

-- a hearing without bytes finds no word
silent_none : (c : Codecs) (plan : PostPlan) (at : ℕ) (e : Event) (steps : List Step) → Laws c plan (Hears at e ∷ steps) → brought e ≡ [] → Worded c plan (Hears at e ∷ steps) → ⊥
silent_none c plan at e steps l b w =
    let none = l.read.2 b w.es w.words w.session_is w.heard in
    let bad : [] ≡ w.word ∷ w.rest = sym none ∙ w.next in
    cc

pub failed_here : (c : Codecs) (plan : PostPlan) (r : Option Reading) (o : Order) (steps : List Step) (es : List Seen) → session (map seen_of (Does r (Give o) false ∷ steps)) ≡ Some es → HasCome c plan (Does r (Give o) false ∷ steps)
failed_here c plan r o steps es h = record { cause = OrderFailed; is = HasNotDriven r o steps es h; comes = tt }

word_came : (c : Codecs) (plan : PostPlan) (steps : List Step) → Laws c plan steps → live (map seen_of steps) ≡ true → Worded c plan steps → HasCome c plan steps ⊎ CameBefore c plan steps
word_came c plan [] l on w = absurd (let x : None ≡ Some w.es = w.session_is in cc)
word_came c plan (Hears at (Bytes bytes) ∷ steps) l on w = inl (record { cause = w.cause; is = is_word c plan (Hears at (Bytes bytes) ∷ steps) w; comes = tt })
word_came c plan (Hears at (Came token) ∷ steps) l on w = absurd (silent_none c plan at (Came token) steps l refl w)
word_came c plan (Hears at Gone ∷ steps) l on w = absurd (silent_none c plan at Gone steps l refl w)
word_came c plan (Hears at (Datagram bytes) ∷ steps) l on w = absurd (silent_none c plan at (Datagram bytes) steps l refl w)
word_came c plan (Hears at (Plant event) ∷ steps) l on w = absurd (silent_none c plan at (Plant event) steps l refl w)
word_came c plan (Hears at Clock ∷ steps) l on w = absurd (silent_none c plan at Clock steps l refl w)
word_came c plan (Hears at Over ∷ steps) l on w = absurd (silent_none c plan at Over steps l refl w)
word_came c plan (Does r (Send bytes) true ∷ steps) l on w = inl (record { cause = w.cause; is = is_word c plan (Does r (Send bytes) true ∷ steps) w; comes = tt })
word_came c plan (Does r (Send bytes) false ∷ steps) l on w = inl (record { cause = SendFailed; is = HasNotSent r bytes steps w.es w.session_is; comes = tt })
word_came c plan (Does r (Give order.Close) true ∷ steps) l on w = inl (record { cause = w.cause; is = is_word c plan (Does r (Give order.Close) true ∷ steps) w; comes = tt })
word_came c plan (Does r (Give o) false ∷ steps) l on w = inl (failed_here c plan r o steps w.es w.session_is)
word_came c plan (Does r (Give order.Open) true ∷ steps) l on w = absurd (let x : false ≡ true = on in cc)
word_came c plan (Does None (Give (order.Limits v i k)) true ∷ steps) l on w =
    inr (word_came c plan steps (acted_laws c plan None (Give (order.Limits v i k)) true steps l) on (limits_back c plan steps v i k true w))
word_came c plan (Does (Some r) (Give (order.Limits v i k)) true ∷ steps) l on w = absurd (limits_none c plan (Shows l.run.1.0 l.run.1.1 l.run.1.2) steps r v i k l.run.0 l.run.1.3 l.ordered.1 w)
word_came c plan (Does None (Answer bytes) taken ∷ steps) l on w = inr (word_came c plan steps (acted_laws c plan None (Answer bytes) taken steps l) on (told_back c plan steps bytes taken w))
word_came c plan (Does (Some r) (Answer bytes) taken ∷ steps) l on w = absurd (tells_unread c plan (Shows l.run.1.0 l.run.1.1 l.run.1.2) (state plan steps) r bytes taken l.run.1.3)
word_came c plan (Does r (End cause) taken ∷ steps) l on w = absurd (let x : None ≡ Some w.es = w.session_is in cc)

-- Every cause.

pub cause_came : (c : Codecs) (plan : PostPlan) (steps : List Step) (cause : EndCause) → IsCause c plan steps cause → Laws c plan steps → live (map seen_of steps) ≡ true → HasCome c plan steps ⊎ CameBefore c plan steps
cause_came c plan steps cause (IsTold at event before t it session_is told) l on = inl (record { cause = it; is = IsTold at event before t it session_is told; comes = tt })
cause_came c plan steps cause (HasLeft at before es session_is) l on = inl (record { cause = _; is = HasLeft at before es session_is; comes = tt })
cause_came c plan steps cause (HasArrived at token before es session_is) l on = inl (record { cause = _; is = HasArrived at token before es session_is; comes = tt })
cause_came c plan steps cause (IsOver at before es session_is) l on = inl (record { cause = _; is = IsOver at before es session_is; comes = tt })
cause_came c plan steps cause (HasNotSent reading bytes before es session_is) l on = inl (record { cause = _; is = HasNotSent reading bytes before es session_is; comes = tt })
cause_came c plan steps cause (HasNotDriven reading o before es session_is) l on = inl (record { cause = _; is = HasNotDriven reading o before es session_is; comes = tt })
cause_came c plan steps cause (HasNoMatch reading bytes before talks) l on = inl (record { cause = _; is = HasNoMatch reading bytes before talks; comes = tt })
cause_came c plan steps cause (IsDue before t es course_is session_is reached bound) l on =
    late_came c plan before l.late (record { t = t; es = es; course_is = course_is; session_is = session_is; reached = reached; bound = bound })
cause_came c plan steps cause (IsWord before t es words rest word it course_is session_is heard next judged) l on =
    word_came c plan before l on (record { t = t; es = es; words = words; rest = rest; word = word; cause = it; course_is = course_is; session_is = session_is; heard = heard; next = next; judged = judged })

have_come : (c : Codecs) (plan : PostPlan) (steps : List Step) → Laws c plan steps → HaveCome c plan steps
have_come c plan [] l = λ cause is on. cause_came c plan [] cause is l on
have_come c plan (Hears at e ∷ steps) l = (have_come c plan steps (heard_laws c plan at e steps l), λ cause is on. cause_came c plan (Hears at e ∷ steps) cause is l on)
have_come c plan (Does r a taken ∷ steps) l = (have_come c plan steps (acted_laws c plan r a taken steps l), λ cause is on. cause_came c plan (Does r a taken ∷ steps) cause is l on)

first_has : (c : Codecs) (plan : PostPlan) (steps : List Step) → Laws c plan steps → StandsFirst c plan steps → HasCause c plan steps
first_has c plan steps l s = elim (cause_came c plan steps s.cause s.is l s.live_is) [
  | inl x ↦ record { cause = x.cause; is = x.is; comes = x.comes; live_is = s.live_is; first = s.first }
  | inr x ↦ absurd (s.none_before x)
]

open_first : (c : Codecs) (plan : PostPlan) (steps : List Step) → Laws c plan steps → OpenAtCauses c plan steps → OpenAtFirst c plan steps
open_first c plan [] l o = tt
open_first c plan (Hears at e ∷ steps) l o = let k = heard_laws c plan at e steps l in (open_first c plan steps k o.0, λ s. o.1 (first_has c plan steps k s))
open_first c plan (Does r a taken ∷ steps) l o = let k = acted_laws c plan r a taken steps l in (open_first c plan steps k o.0, λ s. o.1 (first_has c plan steps k s))

-- In every run.

pub laws_of : (c : Codecs) (site : SitePlan) (past : List Entry) (posts before : List Post) (post : Post) (behind : List Post) → ReadsBack c → AreDetermined c → IsRun c site past posts → posts ≡ before ++ post ∷ behind → Laws c post.plan post.steps
laws_of c site past posts before post behind back det run is =
    let k = post_at c past (length before + 1) 1 before post behind refl (subst (ArePostsOf c past 1) is (run_posts c site past posts run)) in
    record {
      run = k.run;
      late = runs_are_late_by_hearing c site past posts before post behind run is;
      read = subst (AreRead c post.plan) k.seen_is (runs_read_words c site past posts before post behind run is).0;
      ordered = runs_read_in_order c site past posts before post behind back det run is;
    }

pub runs_have_come : (c : Codecs) → RunsHaveCome c
runs_have_come c site past posts before post behind back det run is = have_come c post.plan post.steps (laws_of c site past posts before post behind back det run is)

pub causes_open : (c : Codecs) → CausesOpen c
causes_open c site past posts before post behind back det run is =
    let l = laws_of c site past posts before post behind back det run is in
    let o = runs_open c site past posts before post behind back det run is in
    (open_first c post.plan post.steps l o.0, λ q s. o.1 q (first_has c post.plan post.steps l s))
