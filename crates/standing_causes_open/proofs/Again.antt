-- A word that orders limits is accepted again behind that order.
use Rattle.std.proofs.Common.{◌≡◌, ℕ, Bool, true, false, if◌then◌else◌, List, ◌∷◌, map, Option, Some, None, is_some, refl, sym, ap, subst, ◌∙◌}
use Rattle.charge_world.specs.declared.offer.Dialect.{Dialect}
use Rattle.charge_world.specs.declared.ports.Order.{Order}
use Rattle.charge_world.specs.declared.ports.Order.TheVariants as order
use Rattle.session_words.specs.declared.cause.EndCause.{EndCause}
use Rattle.session_words.specs.declared.code.Progress.TheVariants as progress
use Rattle.session_words.specs.declared.facts.Facts.{Facts}
use Rattle.session_words.specs.declared.phase.Phase.{Phase}
use Rattle.session_words.specs.declared.phase.Phase.TheVariants as row
use Rattle.session_words.specs.declared.plan.PostPlan.{PostPlan}
use Rattle.session_words.specs.declared.session.SessionId.{SessionId}
use Rattle.session_words.specs.declared.word.Ask.{Ask}
use Rattle.session_words.specs.declared.word.Ask.TheVariants as ask
use Rattle.session_words.specs.declared.word.Request.{Request}
use Rattle.session_rules.specs.declared.stage.PreCharged.{PreCharged}
use Rattle.session_rules.specs.declared.stage.Stage.{Stage}
use Rattle.session_rules.specs.Causes.{word_cause}
use Rattle.session_rules.specs.Moves.{facts_by, facts_behind, moved, stage_behind}
use Rattle.session_rules.specs.Orders.{granted_order, order_of}
use Rattle.session_rules.specs.Rows.{leads}
use Rattle.session_rules.specs.Verdict.{verdict, is_accepted}
use Rattle.post_spec.specs.Causes.{found_word}
use Rattle.post_spec.specs.Codecs.{Judged, Negotiated, Asked, WrongSide, Refused, Codecs}
use Rattle.post_spec.specs.Course.{Talked, Course, course, facts_of, asked_talk, asked_course, read_in, read_by}
use Rattle.post_spec.specs.Facts.{now}
use Rattle.post_spec.specs.Steps.{Give, Answer, Seen, Reading, Step, Does, seen_of}
use Rattle.post_spec.specs.Words.{Payload}
use Rattle.station_spec.specs.States.{Session, State, first}
use Rattle.station_spec.specs.States as states
use Rattle.station_spec.specs.Deciding.{opening_if, decided}
use Rattle.station_spec.specs.Judging.{Payload as Wanted, order_by, cause_by, judged, taken_in, wanted, filled, IsRead}
use Rattle.station_spec.specs.Acting.{state}
use Rattle.station_spec.specs.Next.{IsDone, Acts}
use Rattle.station_laws.specs.PostRuns.{IsPostRun}
use Rattle.station_laws.proofs.Decided.{same_session, same_facts}
use Rattle.read_runs.specs.Courses.{talked_of, talked_in}
use Rattle.read_runs.proofs.Agendas.{give_is, WantedIn, wanted_in}
use Rattle.read_runs.proofs.Courses.{courses_are_read}
use Rattle.safe_runs.proofs.Asked.{IsStop, found_accepted, row_takes}

-- the order on the outlet, as one that an accepted request gives
abbrev pub Limits : ℕ → ℕ → ℕ → Order
Limits voltage current watts = order.Limits voltage current watts

abbrev stage_at : Phase → Dialect → SessionId → ℕ → ℕ → Option PreCharged → Stage
stage_at here d n told schedule pre = record { row = here; dialect = d; session = n; told = told; schedule = schedule; pre_charge = pre }

abbrev asks_for : SessionId → Ask → Request
asks_for m a = record { session = m; ask = a }

-- by the rows that take such a request
again_at : (plan : PostPlan) (f : Facts) (d : Dialect) (n m : SessionId) (told schedule shown : ℕ) (pre : Option PreCharged) (here : Phase) (a : Ask) (v i w : ℕ) → is_some (leads here a true true) ≡ true → granted_order plan told shown a ≡ Some (Limits v i w)
    → is_accepted (verdict (stage_at here d n told schedule pre) f plan (asks_for m a)) ≡ true → is_accepted (verdict (moved (stage_at here d n told schedule pre) f plan (asks_for m a) shown) f plan (asks_for m a)) ≡ true
again_at plan f d n m told schedule shown pre row.DcChecked (ask.PreCharge ready soc voltage current) v i w t g h = h
again_at plan f d n m told schedule shown pre row.DcPreCharging (ask.PreCharge ready soc voltage current) v i w t g h = h
again_at plan f d n m told schedule shown pre row.DcCharging (ask.CurrentDemand ready soc voltage current) v i w t g h = h
again_at plan f d n m told schedule shown pre row.AcCharging ask.ChargingStatus v i w t g h = h
again_at plan f d n m told schedule shown pre here (ask.PowerDelivery progress.Start tuple profile) v i w t g h = absurd (cc)
again_at plan f d n m told schedule shown pre here (ask.PowerDelivery progress.Stop tuple profile) v i w t g h = absurd (cc)
again_at plan f d n m told schedule shown pre here (ask.PowerDelivery progress.Renegotiate tuple profile) v i w t g h = absurd (cc)
again_at plan f d n m told schedule shown pre here (ask.PreCharge ready soc voltage current) v i w t g h = absurd (cc)
again_at plan f d n m told schedule shown pre here (ask.CurrentDemand ready soc voltage current) v i w t g h = absurd (cc)
again_at plan f d n m told schedule shown pre here ask.ChargingStatus v i w t g h = absurd (cc)
again_at plan f d n m told schedule shown pre here a v i w t g h = absurd (cc)

again : (plan : PostPlan) (f : Facts) (s : Stage) (r : Request) (shown v i w : ℕ) → granted_order plan s.told shown r.ask ≡ Some (Limits v i w) → is_accepted (verdict s f plan r) ≡ true → is_accepted (verdict (moved s f plan r shown) f plan r) ≡ true
again plan f s r shown v i w g h = again_at plan f s.dialect s.session r.session s.told s.schedule shown s.pre_charge s.row r.ask v i w (row_takes s f plan r h) g h

-- Nothing but the row is changed by it.

same_facts_by : (plan : PostPlan) (s : Stage) (f : Facts) (n : SessionId) (told shown v i w : ℕ) (a : Ask) → granted_order plan told shown a ≡ Some (Limits v i w) → facts_by s f n a ≡ f
same_facts_by plan s f n told shown v i w (ask.SessionSetup car) g = cc
same_facts_by plan s f n told shown v i w (ask.PowerDelivery progress.Start tuple profile) g = cc
same_facts_by plan s f n told shown v i w (ask.PowerDelivery progress.Stop tuple profile) g = cc
same_facts_by plan s f n told shown v i w (ask.PowerDelivery progress.Renegotiate tuple profile) g = cc
same_facts_by plan s f n told shown v i w a g = refl

not_stop : (plan : PostPlan) (told shown v i w : ℕ) (a : Ask) → granted_order plan told shown a ≡ Some (Limits v i w) → IsStop a → ⊥
not_stop plan told shown v i w (ask.SessionStop pause) g s = cc
not_stop plan told shown v i w a g s = s

if_true : {A : Type 0} (b : Bool) (x y : A) → b ≡ true → (if b then x else y) ≡ x
if_true true x y e = refl
if_true false x y e = cc

pub if_some : (b : Bool) (o : Option Order) (l : Order) → (if b then o else None) ≡ Some l → (b ≡ true) × (o ≡ Some l)
if_some true o l h = (refl, h)
if_some false o l h = cc

not_opening : (live : Bool) (v i w : ℕ) → opening_if live ≡ Some (Limits v i w) → ⊥
not_opening true v i w h = cc
not_opening false v i w h = cc

pub asked_order : (cause : Option EndCause) (live : Bool) (o : Option Order) (v i w : ℕ) → order_by cause live o ≡ Some (Limits v i w) → o ≡ Some (Limits v i w)
asked_order None live o v i w h = h
asked_order (Some k) live o v i w h = absurd (not_opening live v i w h)

-- the request by which limits are ordered
pub record IsLimiting (plan : PostPlan) (t : Talked) (f : Facts) (judged : Judged) (shown : ℕ) : Type 0 where
  pub request : Request
  pub voltage : ℕ
  pub current : ℕ
  pub watts : ℕ
  pub judged_is : judged ≡ Asked request
  pub accepted : is_accepted (verdict t.stage f plan request) ≡ true
  pub granted : granted_order plan t.stage.told shown request.ask ≡ Some (Limits voltage current watts)

judged_limits : (plan : PostPlan) (s : State) (ss : Session) (x : Judged) (shown v i w : ℕ) → first (judged plan s ss x shown).agenda ≡ Some (states.Give (Limits v i w)) → IsLimiting plan (talked_of ss) s.facts x shown
judged_limits plan s ss (Negotiated chosen response) shown v i w h = cc
judged_limits plan s ss (Asked r) shown v i w h =
    let a = (judged plan s ss (Asked r) shown).agenda in
    let o = asked_order (cause_by ss.stage plan s r) s.live (order_of ss.stage s.facts plan r shown) v i w (give_is a.datagram a.order a.reply a.ending (Limits v i w) h) in
    let g = if_some (is_accepted (verdict ss.stage s.facts plan r)) (granted_order plan ss.stage.told shown r.ask) (Limits v i w) o in
    record { request = r; voltage = v; current = i; watts = w; judged_is = refl; accepted = g.0; granted = g.1 }
judged_limits plan s ss WrongSide shown v i w h =
    let a = (judged plan s ss WrongSide shown).agenda in absurd (not_opening s.live v i w (give_is a.datagram a.order a.reply a.ending (Limits v i w) h))
judged_limits plan s ss Refused shown v i w h =
    let a = (judged plan s ss Refused shown).agenda in absurd (not_opening s.live v i w (give_is a.datagram a.order a.reply a.ending (Limits v i w) h))

tells_none : (o : Option Order) (r : Option states.Spoken) (e : Option EndCause) (d : List ℕ) → states.first_of None o r e ≡ Some (states.Tell d) → ⊥
tells_none (Some o) r e d h = cc
tells_none None (Some r) e d h = cc
tells_none None None (Some e) d h = cc
tells_none None None None d h = cc

judged_tells : (plan : PostPlan) (s : State) (ss : Session) (x : Judged) (shown : ℕ) (d : List ℕ) → first (judged plan s ss x shown).agenda ≡ Some (states.Tell d) → ⊥
judged_tells plan s ss (Negotiated chosen response) shown d h = cc
judged_tells plan s ss (Asked r) shown d h = let a = (judged plan s ss (Asked r) shown).agenda in tells_none a.order a.reply a.ending d h
judged_tells plan s ss WrongSide shown d h = let a = (judged plan s ss WrongSide shown).agenda in tells_none a.order a.reply a.ending d h
judged_tells plan s ss Refused shown d h = let a = (judged plan s ss Refused shown).agenda in tells_none a.order a.reply a.ending d h

-- which thing an act does
pub give_todo : (c : Codecs) (todo : states.Todo) (o : Order) (taken : Bool) → IsDone c todo (Give o) taken → todo ≡ states.Give o
give_todo c (states.Tell d) o taken i = cc
give_todo c (states.Give x) o taken i = let y : Give o ≡ Give x = i in let z : x ≡ o = cc in ap states.Give z
give_todo c (states.Say spoken) o taken i = absurd (let x : Give o ≡ _ = i.2 in cc)
give_todo c (states.Finish cause) o taken i = absurd (let x : Give o ≡ _ = i.0 in cc)

tell_todo : (c : Codecs) (todo : states.Todo) (d : List ℕ) (taken : Bool) → IsDone c todo (Answer d) taken → todo ≡ states.Tell d
tell_todo c (states.Tell x) d taken i = let y : Answer d ≡ Answer x = i in let z : x ≡ d = cc in ap states.Tell z
tell_todo c (states.Give o) d taken i = cc
tell_todo c (states.Say spoken) d taken i = absurd (let x : Answer d ≡ _ = i.2 in cc)
tell_todo c (states.Finish cause) d taken i = absurd (let x : Answer d ≡ _ = i.0 in cc)

tells_in : (c : Codecs) (plan : PostPlan) (S : ℕ → ℕ → Type 0) (s : State) (kept : Option Session) (p : Wanted) (r : Reading) (d : List ℕ) → WantedIn s kept p → first (taken_in plan s kept r).agenda ≡ Some (states.Tell d) → ⊥
tells_in c plan S s None p r d at h = at
tells_in c plan S s (Some ss) p r d at h = judged_tells plan s ss r.judged r.shown d h

tells_by : (c : Codecs) (plan : PostPlan) (S : ℕ → ℕ → Type 0) (s : State) (r : Reading) (d : List ℕ) (o : Option Wanted) → wanted s ≡ o → IsRead c plan S s o (Some r) → first (taken_in plan s s.session r).agenda ≡ Some (states.Tell d) → ⊥
tells_by c plan S s r d None e read h = read
tells_by c plan S s r d (Some p) e read h = tells_in c plan S s s.session p r d (wanted_in s p e) h

-- a datagram is answered without a word
pub tells_unread : (c : Codecs) (plan : PostPlan) (S : ℕ → ℕ → Type 0) (s : State) (r : Reading) (d : List ℕ) (taken : Bool) → Acts c plan S s (Some r) (Answer d) taken → ⊥
tells_unread c plan S s r d taken acts =
    let t = decided plan s in
    let f : first (taken_in plan t t.session r).agenda ≡ Some (states.Tell d) = acts.acts ∙ ap Some (tell_todo c acts.todo d taken acts.done) in
    tells_by c plan S t r d (wanted t) refl acts.read f

-- the session in which limits were ordered
pub record Limited (plan : PostPlan) (steps : List Step) (r : Reading) : Type 0 where
  pub t : Talked
  pub session_is : (course plan steps).session ≡ Some t
  pub by : IsLimiting plan t (facts_of (map seen_of steps) (course plan steps)) r.judged r.shown

limited_in : (plan : PostPlan) (steps : List Step) (s : State) (kept : Option Session) (r : Reading) (p : Wanted) (v i w : ℕ) → WantedIn s kept p → talked_in kept ≡ (course plan steps).session → s.facts ≡ facts_of (map seen_of steps) (course plan steps)
    → first (taken_in plan s kept r).agenda ≡ Some (states.Give (Limits v i w)) → Limited plan steps r
limited_in plan steps s None r p v i w at k f h = absurd at
limited_in plan steps s (Some ss) r p v i w at k f h = record {
  t = talked_of ss;
  session_is = sym k;
  by = subst (λ (x : Facts). IsLimiting plan (talked_of ss) x r.judged r.shown) f (judged_limits plan s ss r.judged r.shown v i w h);
}

limited_by : (c : Codecs) (plan : PostPlan) (S : ℕ → ℕ → Type 0) (steps : List Step) (r : Reading) (v i w : ℕ) (o : Option Wanted) → IsPostRun c plan steps → wanted (decided plan (state plan steps)) ≡ o → IsRead c plan S (decided plan (state plan steps)) o (Some r)
    → first (filled plan (Some r) (state plan steps)).agenda ≡ Some (states.Give (Limits v i w)) → Limited plan steps r
limited_by c plan S steps r v i w None run e read h = absurd read
limited_by c plan S steps r v i w (Some p) run e read h =
    let s = state plan steps in
    let t = decided plan s in
    let k = courses_are_read c plan steps run in
    limited_in plan steps t t.session r p v i w (wanted_in t p e) (ap talked_in (same_session plan s) ∙ k.session_is) (same_facts plan s ∙ k.facts_are) h

pub limited : (c : Codecs) (plan : PostPlan) (S : ℕ → ℕ → Type 0) (steps : List Step) (r : Reading) (v i w : ℕ) (taken : Bool) → IsPostRun c plan steps → Acts c plan S (state plan steps) (Some r) (Give (Limits v i w)) taken → Limited plan steps r
limited c plan S steps r v i w taken run acts =
    limited_by c plan S steps r v i w (wanted (decided plan (state plan steps))) run refl acts.read (acts.acts ∙ ap Some (give_todo c acts.todo (Limits v i w) taken acts.done))

-- The word is judged again in the row to which it led.

asked_facts : (plan : PostPlan) (past : List Seen) (c : Course) (t : Talked) (r : Request) (shown v i w : ℕ) → granted_order plan t.stage.told shown r.ask ≡ Some (Limits v i w) → is_accepted (verdict t.stage (facts_of past c) plan r) ≡ true
    → facts_of past (asked_course t (facts_of past c) (facts_behind t.stage (facts_of past c) plan r) plan r shown (now past)) ≡ facts_of past c
asked_facts plan past c t r shown v i w g h =
    let f = facts_of past c in
    let e : facts_behind t.stage (facts_of past c) plan r ≡ facts_of past c =
    if_true (is_accepted (verdict t.stage (facts_of past c) plan r)) (facts_by t.stage (facts_of past c) r.session r.ask) (facts_of past c) h ∙ same_facts_by plan t.stage (facts_of past c) r.session t.stage.told shown v i w r.ask g in
    ap (λ (x : Facts). facts_of past (asked_course t (facts_of past c) x plan r shown (now past))) e

accepted_again : (plan : PostPlan) (past : List Seen) (c : Course) (t : Talked) (r : Request) (shown v i w : ℕ) → granted_order plan t.stage.told shown r.ask ≡ Some (Limits v i w) → is_accepted (verdict t.stage (facts_of past c) plan r) ≡ true
    → is_accepted (verdict (stage_behind t.stage (facts_of past c) plan r shown) (facts_of past (asked_course t (facts_of past c) (facts_behind t.stage (facts_of past c) plan r) plan r shown (now past))) plan r) ≡ true
accepted_again plan past c t r shown v i w g h =
    let f : Facts = facts_of past c in
    let stage : stage_behind t.stage (facts_of past c) plan r shown ≡ moved t.stage (facts_of past c) plan r shown = if_true (is_accepted (verdict t.stage (facts_of past c) plan r)) (moved t.stage (facts_of past c) plan r shown) t.stage h in
    let one = again plan (facts_of past c) t.stage r shown v i w g h in
    let two = subst (λ (x : Stage). is_accepted (verdict x (facts_of past c) plan r) ≡ true) (sym stage) one in
    subst (λ (x : Facts). is_accepted (verdict (stage_behind t.stage (facts_of past c) plan r shown) x plan r) ≡ true) (sym (asked_facts plan past c t r shown v i w g h)) two

pub no_cause_again : (plan : PostPlan) (steps : List Step) (r : Reading) (v i w : ℕ) (t : Talked) → Limited plan steps r → (course plan (Does (Some r) (Give (Limits v i w)) true ∷ steps)).session ≡ Some t
    → word_cause false (found_word t (map seen_of (Does (Some r) (Give (Limits v i w)) true ∷ steps)) (course plan (Does (Some r) (Give (Limits v i w)) true ∷ steps)) plan (Payload r.judged)) ≡ None
no_cause_again plan steps r v i w t l k =
    let past : List Seen = map seen_of steps in
    let before : Course = course plan steps in
    let x = l.by in
    let led : Course = asked_course l.t (facts_of (map seen_of steps) (course plan steps)) (facts_behind l.t.stage (facts_of (map seen_of steps) (course plan steps)) plan x.request) plan x.request r.shown (now (map seen_of steps)) in
    let e : course plan (Does (Some r) (Give (Limits v i w)) true ∷ steps) ≡ led =
    ap (λ (s : Option Talked). read_by s (map seen_of steps) (course plan steps) plan (Some r)) l.session_is ∙ ap (λ (j : Judged). read_in l.t (map seen_of steps) (course plan steps) plan j r.shown) x.judged_is in
    let talk : Some (asked_talk l.t (facts_of (map seen_of steps) (course plan steps)) plan x.request r.shown (now (map seen_of steps))) ≡ Some t = sym (ap (λ (y : Course). y.session) e) ∙ k in
    let same : asked_talk l.t (facts_of (map seen_of steps) (course plan steps)) plan x.request r.shown (now (map seen_of steps)) ≡ t = cc in
    let ok = accepted_again plan (map seen_of steps) (course plan steps) l.t x.request r.shown x.voltage x.current x.watts x.granted x.accepted in
    let one = found_accepted (verdict (stage_behind l.t.stage (facts_of (map seen_of steps) (course plan steps)) plan x.request r.shown) (facts_of (map seen_of steps) led) plan x.request) x.request.ask (not_stop plan l.t.stage.told r.shown x.voltage x.current x.watts x.request.ask x.granted) ok in
    let two = subst (λ (j : Judged). word_cause false (found_word (asked_talk l.t (facts_of (map seen_of steps) (course plan steps)) plan x.request r.shown (now (map seen_of steps))) (map seen_of (Does (Some r) (Give (Limits v i w)) true ∷ steps)) led plan (Payload j)) ≡ None) (sym x.judged_is) one in
    let three = subst (λ (y : Talked). word_cause false (found_word y (map seen_of (Does (Some r) (Give (Limits v i w)) true ∷ steps)) led plan (Payload r.judged)) ≡ None) same two in
    subst (λ (y : Course). word_cause false (found_word t (map seen_of (Does (Some r) (Give (Limits v i w)) true ∷ steps)) y plan (Payload r.judged)) ≡ None) (sym e) three
