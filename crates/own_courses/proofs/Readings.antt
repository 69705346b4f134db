-- A word that a post reads is judged by whoever reads its trace: the same, and shown the same.
use Rattle.std.proofs.Common.{◌≡◌, ℕ, Bool, true, false, ◌&&◌, if◌then◌else◌, List, ◌∷◌, map, Option, Some, None, is_some, unwrap_or, refl, sym, ap, ap₂, subst, ◌∙◌, inl, inr, ◌⊎◌, MatchBool}
use Rattle.charge_world.specs.declared.ports.Order.{Order}
use Rattle.charge_world.specs.declared.ports.Order.TheVariants as order
use Rattle.session_words.specs.declared.cause.EndCause.{EndCause}
use Rattle.session_words.specs.declared.facts.Facts.{Facts}
use Rattle.session_words.specs.declared.plan.PostPlan.{PostPlan}
use Rattle.session_words.specs.declared.word.Request.{Request}
use Rattle.session_rules.specs.Asks.{asks, shows_watts}
use Rattle.session_rules.specs.Moves.{stage_behind}
use Rattle.session_rules.specs.Orders.{order_of}
use Rattle.session_rules.specs.Stages.{is_waiting}
use Rattle.session_rules.specs.Verdict.{verdict, is_accepted}
use Rattle.post_spec.specs.Codecs.{Judged, Negotiated, Asked, WrongSide, Refused, Codecs}
use Rattle.post_spec.specs.Contactors as contactors
use Rattle.post_spec.specs.Course.{Talked, Course, course, facts_of, read_by}
use Rattle.post_spec.specs.Sessions.{session, stream}
use Rattle.post_spec.specs.Steps.{Act, Give, Send, Answer, End, Seen, Reading, Step, Does, seen_of}
use Rattle.post_spec.specs.Words.{HeardWord, Payload}
use Rattle.station_spec.specs.States.{Agenda, Session, State, Spoken, Todo, first, first_of, is_done}
use Rattle.station_spec.specs.States as states
use Rattle.station_spec.specs.Deciding.{decided}
use Rattle.station_spec.specs.Judging.{Payload as Wanted, order_by, cause_by, judged, taken_in, wanted, filled, IsRead}
use Rattle.station_spec.specs.Judging as judging
use Rattle.station_spec.specs.Acting.{state}
use Rattle.station_spec.specs.Next.{IsDone, Acts}
use Rattle.station_spec.specs.Sharing.{Post, Shows}
use Rattle.station_laws.specs.PostRuns.{IsPostRun}
use Rattle.station_laws.proofs.Decided.{same_session, same_facts}
use Rattle.read_runs.specs.Courses.{talked_of, talked_in}
use Rattle.read_runs.proofs.Agendas.{WantedIn, wanted_in}
use Rattle.read_runs.proofs.Courses.{courses_are_read}
use Rattle.read_sessions.proofs.Starts.{starts}
use Rattle.own_traces.proofs.Bytes.{stream_octets}
use Rattle.own_traces.specs.Next.{IsNextWord}
use Rattle.own_traces.proofs.Judging.{words_of}
use Rattle.own_traces.proofs.Opening.{lives_in}
use Rattle.told_pasts.specs.Course.{told_course}
use Rattle.told_pasts.specs.Reading.{ActJudges, IsJudged, ShownTo, IsShownIn, IsShown, IsReading}
use Rattle.told_pasts.specs.Spelling.{ToldCodecs}
use Rattle.told_pasts.specs.Steps.{ToldStep, seen_in}
use Rattle.own_traces.proofs.Reading.{clear_unjudged}
use Rattle.own_traces.proofs.Resting.{Clear, reads_clear}
use Rattle.own_courses.proofs.Alike.{Known, AreAlike, as_one}
use Rattle.own_courses.proofs.Calm.{IsFree, read_free, reading_at}
use Rattle.own_courses.proofs.Unread.{reached_late}

-- ---- the word is judged

-- an order, or a sending
abbrev pub IsAbout : Act → Type 0
IsAbout (Give o) = Unit {0}
IsAbout (Send bytes) = Unit {0}
IsAbout (Answer bytes) = ⊥
IsAbout (End cause) = ⊥

judges : (plan : PostPlan) (old : List ToldStep) (steps : List Step) (a : Act) → seen_in old ≡ map seen_of steps → AreAlike (map seen_of steps) (told_course plan old) (course plan steps) → IsFree plan steps → IsAbout a → ActJudges plan old a
judges plan old steps (Give order.Open) same alike free about = λ x. elim x [
  | inl must ↦ free.0 (sym (ap contactors.standing same) ∙ must)
  | inr late ↦ free.1 (reached_late plan old steps same alike late)
]
judges plan old steps (Give order.Close) same alike free about = tt
judges plan old steps (Give (order.Limits voltage current watts)) same alike free about = tt
judges plan old steps (Send bytes) same alike free about = tt
judges plan old steps (Answer bytes) same alike free about = absurd about
judges plan old steps (End cause) same alike free about = absurd about

word_judged : (c : ToldCodecs) (plan : PostPlan) (old : List ToldStep) (steps : List Step) (w : Reading) (a : Act) (taken : Bool) → Known c plan old steps → AreAlike (map seen_of steps) (told_course plan old) (course plan steps) → IsPostRun c.words plan (Does (Some w) a taken ∷ steps)
    → IsNextWord c.words plan (map seen_of steps) w.judged → IsAbout a → IsFree plan steps → is_some (state plan steps).session ≡ true → IsJudged c plan old a w.judged
word_judged c plan old steps w a taken known alike run next about free lives =
    let l = lives_in plan steps lives in
    let ws = words_of c.words plan.dialects.items (stream l.0) known.own.judges (stream_octets (map seen_of steps) l.0 known.all.heard l.1) in
    let n = next l.0 ws.0 l.1 ws.1 in
    record {
      next = record { es = l.0; words = ws.0; hearing = record { session_is = ap session known.same ∙ l.1; words_are = ws.1 }; rest = n.later; next = n.next_is };
      free = n.goes_on;
      unread = clear_unjudged c plan old known.told (subst Clear (sym known.same) (reads_clear c.words plan w a taken steps run));
      judges = judges plan old steps a known.same alike free about;
    }

heads : (a b : Judged) (xs ys : List HeardWord) → Payload a ∷ xs ≡ Payload b ∷ ys → a ≡ b
heads a b xs ys e = cc

same_word : (c : ToldCodecs) (plan : PostPlan) (old : List ToldStep) (steps : List Step) (w x : Judged) (a : Act) → Known c plan old steps → IsNextWord c.words plan (map seen_of steps) w → IsJudged c plan old a x → x ≡ w
same_word c plan old steps w x a known next j =
    let n = next j.next.es j.next.words (sym (ap session known.same) ∙ j.next.hearing.session_is) j.next.hearing.words_are in
    heads x w j.next.rest n.later (sym j.next.next ∙ n.next_is)

-- ---- it is shown the same

both_shown : (St Sr : ℕ → ℕ → Type 0) (b : Bool) (asked other m n : ℕ) → ((a x y : ℕ) → St a x → Sr a y → x ≡ y) → (b ≡ true → other ≡ asked) → ShownTo St b asked m → MatchBool b (Sr other n) (n ≡ 0) → m ≡ n
both_shown St Sr true asked other m n shares e t r = shares asked m n t (subst (λ (a : ℕ). Sr a n) (e refl) r)
both_shown St Sr false asked other m n shares e t r = t ∙ sym r

told_shown : (St : ℕ → ℕ → Type 0) (plan : PostPlan) (old : List ToldStep) (past : List Seen) (k : Course) (t : Talked) (w : Judged) (m : ℕ) → told_course plan old ≡ k → k.session ≡ Some t → IsShown St plan old w m → IsShownIn St plan old k (Some t) w m
told_shown St plan old past k t w m e s i =
    let x : IsShownIn St plan old k k.session w m = subst (λ (z : Course). IsShownIn St plan old z z.session w m) e i in
    subst (λ (z : Option Talked). IsShownIn St plan old k z w m) s x

run_shown : (Sr : ℕ → ℕ → Type 0) (plan : PostPlan) (d : State) (ss : Session) (w : Judged) (n : ℕ) → d.session ≡ Some ss → judging.IsShown Sr plan d d.session w n → judging.IsShown Sr plan d (Some ss) w n
run_shown Sr plan d ss w n e i = subst (λ (z : Option Session). judging.IsShown Sr plan d z w n) e i

accepted_ask : (b s : Bool) (x y : ℕ) → (b && s) ≡ true → (if b then x else y) ≡ x
accepted_ask true s x y h = refl
accepted_ask false s x y h = cc

shown_same : (St Sr : ℕ → ℕ → Type 0) (plan : PostPlan) (old : List ToldStep) (past : List Seen) (k : Course) (d : State) (ss : Session) (w : Judged) (m n : ℕ) → seen_in old ≡ past → d.facts ≡ facts_of past k → ((a x y : ℕ) → St a x → Sr a y → x ≡ y)
    → IsShownIn St plan old k (Some (talked_of ss)) w m → judging.IsShown Sr plan d (Some ss) w n → m ≡ n
shown_same St Sr plan old past k d ss (Negotiated chosen response) m n same facts shares t r = t ∙ sym r
shown_same St Sr plan old past k d ss WrongSide m n same facts shares t r = t ∙ sym r
shown_same St Sr plan old past k d ss Refused m n same facts shares t r = t ∙ sym r
shown_same St Sr plan old past k d ss (Asked q) m n same facts shares t r =
    let f : facts_of (seen_in old) k ≡ d.facts = ap (λ (xs : List Seen). facts_of xs k) same ∙ sym facts in
    let here : ShownTo St (is_accepted (verdict ss.stage d.facts plan q) && shows_watts q.ask) (unwrap_or (asks plan q.ask) ss.asked) m =
    subst (λ (x : Facts). ShownTo St (is_accepted (verdict ss.stage x plan q) && shows_watts q.ask) (unwrap_or (asks plan q.ask) ss.asked) m) f t in
    both_shown St Sr (is_accepted (verdict ss.stage d.facts plan q) && shows_watts q.ask) (unwrap_or (asks plan q.ask) ss.asked) (judging.asked_behind ss plan d q) m n shares
    (λ b. accepted_ask (is_accepted (verdict ss.stage d.facts plan q)) (shows_watts q.ask) (unwrap_or (asks plan q.ask) ss.asked) ss.asked b) here r

some_session : (kept : Option Session) → is_some kept ≡ true → (ss : Session) × (kept ≡ Some ss)
some_session None h = cc
some_session (Some ss) h = (ss, refl)

readings : (x w : Reading) → x.judged ≡ w.judged → x.shown ≡ w.shown → Some x ≡ Some w
readings x w e f = ap₂ (λ (j : Judged) (n : ℕ). Some (record { judged = j; shown = n })) e f

word_shown : (c : ToldCodecs) (plan : PostPlan) (St Sr : ℕ → ℕ → Type 0) (old : List ToldStep) (steps : List Step) (w x : Reading) → Known c plan old steps → AreAlike (map seen_of steps) (told_course plan old) (course plan steps) → is_some (state plan steps).session ≡ true
    → ((a m n : ℕ) → St a m → Sr a n → m ≡ n) → x.judged ≡ w.judged → IsShown St plan old x.judged x.shown → judging.IsShown Sr plan (decided plan (state plan steps)) (decided plan (state plan steps)).session w.judged w.shown → Some x ≡ Some w
word_shown c plan St Sr old steps w x known alike lives shares e t r =
    let s = state plan steps in
    let past = map seen_of steps in
    let k = some_session s.session lives in
    let ss = k.0 in
    let led : (course plan steps).session ≡ Some (talked_of ss) = sym (courses_are_read c.words plan steps known.all.laws.run).session_is ∙ ap talked_in k.1 in
    let one = as_one past (told_course plan old) (course plan steps) (talked_of ss) alike led in
    let facts : (decided plan s).facts ≡ facts_of past (course plan steps) = same_facts plan s ∙ (courses_are_read c.words plan steps known.all.laws.run).facts_are in
    let here = told_shown St plan old past (course plan steps) (talked_of ss) w.judged x.shown one led (subst (λ (j : Judged). IsShown St plan old j x.shown) e t) in
    let there = run_shown Sr plan (decided plan s) ss w.judged w.shown (same_session plan s ∙ k.1) r in
    readings x w e (shown_same St Sr plan old past (course plan steps) (decided plan s) ss w.judged x.shown w.shown known.same facts shares here there)

read_shown : (c : Codecs) (plan : PostPlan) (S : ℕ → ℕ → Type 0) (d : State) (p : Option Wanted) (w : Reading) → IsRead c plan S d p (Some w) → judging.IsShown S plan d d.session w.judged w.shown
read_shown c plan S d None w i = absurd i
read_shown c plan S d (Some p) w i = i.1

pub reads_told : (c : ToldCodecs) (plan : PostPlan) (limit : ℕ) (before behind : List Post) (St : ℕ → ℕ → Type 0) (old : List ToldStep) (steps : List Step) (w : Reading) (a : Act) (taken : Bool) (r : Option Reading) → Known c plan old steps
    → AreAlike (map seen_of steps) (told_course plan old) (course plan steps) → Acts c.words plan (Shows limit before behind) (state plan steps) (Some w) a taken → IsNextWord c.words plan (map seen_of steps) w.judged → IsAbout a
    → ((x m n : ℕ) → St x m → Shows limit before behind x n → m ≡ n) → IsReading c St plan old a r → r ≡ Some w
reads_told c plan limit before behind St old steps w a taken None known alike acts next about shares i =
    let at = reading_at c.words plan (Shows limit before behind) steps (wanted (decided plan (state plan steps))) w refl acts.read in
    let free = read_free c.words plan (Shows limit before behind) steps w known.all acts.read in
    absurd (i w.judged (word_judged c plan old steps w a taken known alike (known.all.laws.run, (limit, before, behind, acts)) next about free at.lives))
reads_told c plan limit before behind St old steps w a taken (Some x) known alike acts next about shares i =
    let at = reading_at c.words plan (Shows limit before behind) steps (wanted (decided plan (state plan steps))) w refl acts.read in
    let e = same_word c plan old steps w.judged x.judged a known next i.0 in
    word_shown c plan St (Shows limit before behind) old steps w x known alike at.lives shares e i.1
    (read_shown c.words plan (Shows limit before behind) (decided plan (state plan steps)) (wanted (decided plan (state plan steps))) w acts.read)

-- ---- a word behind which the session ends at once, or that is none of a car

abbrev IsForeign : Judged → Type 0
IsForeign (Negotiated chosen response) = ⊥
IsForeign (Asked r) = ⊥
IsForeign WrongSide = Unit {0}
IsForeign Refused = Unit {0}

not_end : {A : Type 0} (c : Codecs) (todo : Todo) (cause : ℕ) (taken : Bool) → ((k : EndCause) → todo ≡ states.Finish k → ⊥) → IsDone c todo (End cause) taken → A
not_end c (states.Tell d) cause taken n i = cc
not_end c (states.Give o) cause taken n i = cc
not_end c (states.Say spoken) cause taken n i = let x = i.2 in cc
not_end c (states.Finish k) cause taken n i = absurd (n k refl)

finish_not : (o : Option Order) (r : Option Spoken) (e : Option EndCause) (k : EndCause) → (is_some o ≡ true) ⊎ (is_some r ≡ true) → first_of None o r e ≡ Some (states.Finish k) → ⊥
finish_not (Some o) r e k h f = cc
finish_not None (Some r) e k h f = cc
finish_not None None e k (inl h) f = cc
finish_not None None e k (inr h) f = cc

asked_more : (plan : PostPlan) (d : State) (ss : Session) (q : Request) (shown : ℕ) (b : Bool) → is_waiting ss.stage.row ≡ false → is_waiting (stage_behind ss.stage d.facts plan q shown).row ≡ b
    → (is_some (judged plan d ss (Asked q) shown).agenda.order ≡ true) ⊎ (is_some (judged plan d ss (Asked q) shown).agenda.reply ≡ true)
asked_more plan d ss q shown true w h =
    let x = starts ss.stage d.facts plan q shown w h in
    inl (ap is_some (ap (λ (k : Option EndCause). order_by k d.live (order_of ss.stage d.facts plan q shown)) x.cause ∙ x.order))
asked_more plan d ss q shown false w h = inr (rw h refl)

word_foreign : (c : Codecs) (plan : PostPlan) (d : State) (ss : Session) (w : Judged) (shown : ℕ) (todo : Todo) (cause : ℕ) (taken : Bool) → is_waiting ss.stage.row ≡ false → first (judged plan d ss w shown).agenda ≡ Some todo → IsDone c todo (End cause) taken → IsForeign w
word_foreign c plan d ss (Negotiated chosen response) shown todo cause taken goes f i = not_end c todo cause taken (λ k e. let x : Some (states.Say (states.Response response)) ≡ Some (states.Finish k) = f ∙ ap Some e in cc) i
word_foreign c plan d ss (Asked q) shown todo cause taken goes f i =
    let a = (judged plan d ss (Asked q) shown).agenda in
    not_end c todo cause taken (λ k e. finish_not a.order a.reply a.ending k (asked_more plan d ss q shown (is_waiting (stage_behind ss.stage d.facts plan q shown).row) goes refl) (f ∙ ap Some e)) i
word_foreign c plan d ss WrongSide shown todo cause taken goes f i = tt
word_foreign c plan d ss Refused shown todo cause taken goes f i = tt

taken_foreign : (c : Codecs) (plan : PostPlan) (d : State) (kept : Option Session) (p : Wanted) (w : Reading) (todo : Todo) (cause : ℕ) (taken : Bool) → WantedIn d kept p → first (taken_in plan d kept w).agenda ≡ Some todo → IsDone c todo (End cause) taken → IsForeign w.judged
taken_foreign c plan d None p w todo cause taken i f done = absurd i
taken_foreign c plan d (Some ss) p w todo cause taken i f done = word_foreign c plan d ss w.judged w.shown todo cause taken i.1.goes f done

read_foreign : (c : Codecs) (plan : PostPlan) (S : ℕ → ℕ → Type 0) (s : State) (o : Option Wanted) (w : Reading) (todo : Todo) (cause : ℕ) (taken : Bool) → wanted (decided plan s) ≡ o → IsRead c plan S (decided plan s) o (Some w) → first (filled plan (Some w) s).agenda ≡ Some todo → IsDone c todo (End cause) taken → IsForeign w.judged
read_foreign c plan S s None w todo cause taken e i f done = absurd i
read_foreign c plan S s (Some p) w todo cause taken e i f done = taken_foreign c plan (decided plan s) (decided plan s).session p w todo cause taken (wanted_in (decided plan s) p e) f done

foreign_same : (k : Option Talked) (past : List Seen) (b : Course) (plan : PostPlan) (w : Reading) (j : Judged) → w.judged ≡ j → IsForeign j → read_by k past b plan (Some w) ≡ b
foreign_same None past b plan w j e h = refl
foreign_same (Some t) past b plan w (Negotiated chosen response) e h = absurd h
foreign_same (Some t) past b plan w (Asked r) e h = absurd h
foreign_same (Some t) past b plan w WrongSide e h = rw e refl
foreign_same (Some t) past b plan w Refused e h = rw e refl

none_same : (k : Option Talked) (past : List Seen) (b : Course) (plan : PostPlan) → read_by k past b plan None ≡ b
none_same None past b plan = refl
none_same (Some t) past b plan = refl

-- so an end leaves the course as it was before it
pub ends_same : (c : Codecs) (plan : PostPlan) (S : ℕ → ℕ → Type 0) (steps : List Step) (r : Option Reading) (cause : ℕ) (taken : Bool) (past : List Seen) (b : Course) → Acts c plan S (state plan steps) r (End cause) taken → read_by b.session past b plan r ≡ b
ends_same c plan S steps None cause taken past b acts = none_same b.session past b plan
ends_same c plan S steps (Some w) cause taken past b acts =
    foreign_same b.session past b plan w w.judged refl (read_foreign c plan S (state plan steps) (wanted (decided plan (state plan steps))) w acts.todo cause taken refl acts.read acts.acts acts.done)
