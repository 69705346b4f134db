-- The watts that replies may spell: those that a session was told as its last reply was sent.
use Rattle.std.proofs.Common.{◌≡◌, ◌≤◌, ℕ, suc, ◌+◌, ◌-◌, max, Bool, true, false, ◌&&◌, if◌then◌else◌, List, [], ◌∷◌, ◌++◌, map, Option, Some, None, is_some, refl, sym, ap, subst, ◌∙◌, arith, inl, inr, ◌⊎◌}
use Rattle.std.specs.List.{AllByRecursion, sum_by}
use Rattle.std.specs.Option.{option_map}
use Rattle.std.proofs.lemmas.List.Sums.{sum_by-cons, sum_by-append}
use Rattle.charge_world.specs.declared.entry.Entry.{Entry}
use Rattle.charge_world.specs.declared.entry.Entry.TheVariants as entry
use Rattle.charge_world.specs.declared.heard.Heard.{Heard}
use Rattle.charge_world.specs.declared.offer.Dialect.{Dialect}
use Rattle.charge_world.specs.declared.ports.Order.{Order}
use Rattle.charge_world.specs.declared.ports.Order.TheVariants as order
use Rattle.session_words.specs.declared.cause.EndCause.{EndCause}
use Rattle.session_words.specs.declared.plan.PostPlan.{PostPlan}
use Rattle.session_words.specs.declared.plan.SitePlan.{SitePlan}
use Rattle.session_words.specs.declared.word.Request.{Request}
use Rattle.session_rules.specs.Asks.{shows_watts}
use Rattle.session_rules.specs.Finishing.{is_ac, is_finished}
use Rattle.session_rules.specs.Moves.{stage_behind}
use Rattle.session_rules.specs.Reply.{reply_to}
use Rattle.session_rules.specs.Stages.{is_waiting}
use Rattle.session_rules.specs.Verdict.{verdict, is_accepted}
use Rattle.post_spec.specs.Codecs.{Judged, Negotiated, Asked, WrongSide, Refused, Codecs}
use Rattle.post_spec.specs.Sessions.{brought}
use Rattle.post_spec.specs.Steps.{Event, Act, Give, Send, Answer, End, Reading, Step, Hears, Does, event_at, moment}
use Rattle.station_spec.specs.States.{Spoken, Said, Session, State, Todo, is_done, is_none, first, first_of}
use Rattle.station_spec.specs.Deciding.{decided}
use Rattle.station_spec.specs.Judging.{Payload, payload_in, wanted, judged, taken_in, read, filled, IsRead}
use Rattle.station_spec.specs.Hearing.{session_opened, with_bytes}
use Rattle.station_spec.specs.Acting.{since_order, replied, failing, acted, state}
use Rattle.station_spec.specs.Next.{IsQuiet}
use Rattle.station_spec.specs.Sharing.{Post, state_of, told_in, told_of, told_total, Shows}
use Rattle.station_spec.specs.Runs.{with_step, unheard, heard_from, Rests, AreQuiet, HeardBy, MayAct, IsRun}
use Rattle.station_laws.specs.PostRuns.{IsPostRun, ArePostsOf}
use Rattle.station_laws.proofs.Decided.{same_session}
use Rattle.station_laws.proofs.PostRuns.{run_posts}
use Rattle.station_laws.proofs.Told.{filled_told, acted_told, least_le}
use Rattle.read_runs.proofs.Agendas.{decided_not, quiet_done}
use Rattle.spelled_watts.proofs.Rows.{goes_on}

abbrev pub opened_said : Option ℕ → ℕ → ℕ
opened_said None n = n
opened_said (Some token) n = 0

abbrev pub said_by : Act → ℕ → ℕ → ℕ
said_by (Send bytes) told n = told
said_by (End cause) told n = 0
said_by (Give order) told n = n
said_by (Answer bytes) told n = n

abbrev pub said : PostPlan → List Step → ℕ
said plan [] = 0
said plan (Hears at event ∷ steps) = opened_said (state plan steps).arrived (said plan steps)
said plan (Does reading act taken ∷ steps) = said_by act (told_in (filled plan reading (state plan steps)).session) (said plan steps)

-- a reply or an end is owed in a session
abbrev pub Owing : State → Type 0
Owing s = (is_some s.session ≡ true) × ((is_some s.agenda.reply ≡ true) ⊎ (is_some s.agenda.ending ≡ true))

-- the told watts have moved beyond what was said only while one is
abbrev pub Kept : State → ℕ → Type 0
Kept s n = (n ≤ told_in s.session) ⊎ Owing s

some_first : (d : Option (List ℕ)) (o : Option Order) (r : Option Spoken) (e : Option EndCause) → (is_some r ≡ true) ⊎ (is_some e ≡ true) → is_none (first_of d o r e) ≡ false
some_first (Some d) o r e h = refl
some_first None (Some o) r e h = refl
some_first None None (Some r) e h = refl
some_first None None None (Some e) h = refl
some_first None None None None (inl h) = cc
some_first None None None None (inr h) = cc

owing_undone : (s : State) → Owing s → is_done s.agenda ≡ false
owing_undone s o = some_first s.agenda.datagram s.agenda.order s.agenda.reply s.agenda.ending o.1

false_true : (b : Bool) → b ≡ false → b ≡ true → ⊥
false_true true h k = cc
false_true false h k = cc

done_kept : (s : State) (n : ℕ) → is_done s.agenda ≡ true → Kept s n → n ≤ told_in s.session
done_kept s n d (inl h) = h
done_kept s n d (inr o) = absurd (false_true (is_done s.agenda) (owing_undone s o) d)

decided_kept : (b : Bool) (plan : PostPlan) (s : State) (n : ℕ) → is_done s.agenda ≡ b → Kept s n → Kept (decided plan s) n
decided_kept true plan s n d k = inl (subst (λ (x : Option Session). n ≤ told_in x) (sym (same_session plan s)) (done_kept s n d k))
decided_kept false plan s n d k = subst (λ (t : State). Kept t n) (sym (decided_not plan s d)) k

-- a word
told_same : (plan : PostPlan) (s : State) (ss : Session) (r : Request) (shown : ℕ) (b w : Bool) → is_accepted (verdict ss.stage s.facts plan r) ≡ b → shows_watts r.ask ≡ w → (b && w) ≡ false
    → told_in (judged plan s ss (Asked r) shown).session ≡ ss.stage.told
told_same plan s ss r shown false w e f h = rw e refl
told_same plan s ss r shown true false e f h = rw (e, f) refl
told_same plan s ss r shown true true e f h = cc

pub goes_behind : (plan : PostPlan) (s : State) (ss : Session) (r : Request) (shown : ℕ) → is_accepted (verdict ss.stage s.facts plan r) ≡ true → shows_watts r.ask ≡ true → is_waiting ss.stage.row ≡ false
    → is_waiting (stage_behind ss.stage s.facts plan r shown).row ≡ false
goes_behind plan s ss r shown e f w = rw e (goes_on ss.stage.row r.ask (is_finished s.facts plan r.ask shown) (is_ac plan.mode) f w)

replies_some : (b : Bool) (x : Spoken) → b ≡ false → is_some (if b then None else Some x) ≡ true
replies_some true x h = cc
replies_some false x h = refl

asked_kept : (plan : PostPlan) (s : State) (ss : Session) (r : Request) (shown n : ℕ) (b w : Bool) → is_accepted (verdict ss.stage s.facts plan r) ≡ b → shows_watts r.ask ≡ w → is_waiting ss.stage.row ≡ false → n ≤ ss.stage.told
    → Kept (judged plan s ss (Asked r) shown) n
asked_kept plan s ss r shown n false w e f g h = let x = told_same plan s ss r shown false w e f refl in inl (omega (arith, x, h))
asked_kept plan s ss r shown n true false e f g h = let x = told_same plan s ss r shown true false e f refl in inl (omega (arith, x, h))
asked_kept plan s ss r shown n true true e f g h =
    inr (refl, inl (replies_some (is_waiting (stage_behind ss.stage s.facts plan r shown).row) (Said ss.stage.dialect (reply_to ss.stage s.facts plan r shown)) (goes_behind plan s ss r shown e f g)))

chosen_same : (plan : PostPlan) (s : State) (ss : Session) (chosen : Option Dialect) (response : List ℕ) (shown : ℕ) → told_in (judged plan s ss (Negotiated chosen response) shown).session ≡ ss.stage.told
chosen_same plan s ss None response shown = refl
chosen_same plan s ss (Some d) response shown = refl

judged_kept : (plan : PostPlan) (s : State) (ss : Session) (w : Judged) (shown n : ℕ) → is_waiting ss.stage.row ≡ false → n ≤ ss.stage.told → Kept (judged plan s ss w shown) n
judged_kept plan s ss (Negotiated chosen response) shown n g h = let x = chosen_same plan s ss chosen response shown in inl (omega (arith, x, h))
judged_kept plan s ss (Asked r) shown n g h = asked_kept plan s ss r shown n (is_accepted (verdict ss.stage s.facts plan r)) (shows_watts r.ask) refl refl g h
judged_kept plan s ss WrongSide shown n g h = inl h
judged_kept plan s ss Refused shown n g h = inl h

taken_kept : (plan : PostPlan) (s : State) (kept : Option Session) (r : Reading) (n : ℕ) → s.session ≡ kept → ((ss : Session) → kept ≡ Some ss → is_waiting ss.stage.row ≡ false) → n ≤ told_in kept → Kept (taken_in plan s kept r) n
taken_kept plan s None r n k g h = inl (subst (λ (x : Option Session). n ≤ told_in x) (sym k) h)
taken_kept plan s (Some ss) r n k g h = judged_kept plan s ss r.judged r.shown n (g ss refl) h

-- a payload is wanted once all is done, and where no reply waits
pub record Wanted (s : State) (ss : Session) : Type 0 where
  pub done : is_done s.agenda ≡ true
  pub session_is : s.session ≡ Some ss
  pub goes : is_waiting ss.stage.row ≡ false

wanted_if : (b : Bool) (o : Option Payload) (p : Payload) → (if b then o else None) ≡ Some p → (b ≡ true) × (o ≡ Some p)
wanted_if true o p h = (refl, h)
wanted_if false o p h = cc

payload_if : (b : Bool) (o : Option Payload) (p : Payload) → (if b then None else o) ≡ Some p → (b ≡ false) × (o ≡ Some p)
payload_if true o p h = cc
payload_if false o p h = (refl, h)

read_wanted : (c : Codecs) (plan : PostPlan) (S : ℕ → ℕ → Type 0) (s : State) (w : Option Payload) (r : Reading) → IsRead c plan S s w (Some r) → (p : Payload) × (w ≡ Some p)
read_wanted c plan S s None r i = absurd i
read_wanted c plan S s (Some p) r i = (p, refl)

kept_waits : (kept : Option Session) (p : Payload) → payload_in kept ≡ Some p → (ss : Session) → kept ≡ Some ss → is_waiting ss.stage.row ≡ false
kept_waits None p h ss k = cc
kept_waits (Some x) p h ss k =
    let y : x ≡ ss = cc in
    subst (λ (z : Session). is_waiting z.stage.row ≡ false) y (payload_if (is_waiting x.stage.row) _ p h).0

read_kept : (c : Codecs) (plan : PostPlan) (S : ℕ → ℕ → Type 0) (s : State) (r : Option Reading) (n : ℕ) → IsRead c plan S s (wanted s) r → Kept s n → Kept (read plan s r) n
read_kept c plan S s None n i k = k
read_kept c plan S s (Some r) n i k =
    let w = read_wanted c plan S s (wanted s) r i in
    let d = wanted_if (is_done s.agenda) (payload_in s.session) w.0 w.1 in
    taken_kept plan s s.session r n refl (kept_waits s.session w.0 d.1) (done_kept s n d.0 k)

pub filled_kept : (c : Codecs) (plan : PostPlan) (S : ℕ → ℕ → Type 0) (s : State) (r : Option Reading) (n : ℕ) → IsRead c plan S (decided plan s) (wanted (decided plan s)) r → Kept s n → Kept (filled plan r s) n
filled_kept c plan S s r n i k = read_kept c plan S (decided plan s) r n i (decided_kept (is_done s.agenda) plan s n refl k)

-- an act
map_told : (f : Session → Session) (kept : Option Session) → ((ss : Session) → (f ss).stage.told ≡ ss.stage.told) → told_in (option_map f kept) ≡ told_in kept
map_told f None h = refl
map_told f (Some ss) h = h ss

map_some : (f : Session → Session) (kept : Option Session) → is_some (option_map f kept) ≡ is_some kept
map_some f None = refl
map_some f (Some ss) = refl

since_told : (now : ℕ) (o : Order) (ss : Session) → (since_order now o ss).stage.told ≡ ss.stage.told
since_told now order.Open ss = refl
since_told now order.Close ss = refl
since_told now (order.Limits voltage current watts) ss = refl

failing_some : (e : Option EndCause) (kept : Option Session) (cause : EndCause) (live : Bool) → is_some kept ≡ true → is_some (failing e kept cause live).ending ≡ true
failing_some None None cause live h = cc
failing_some None (Some ss) cause live h = refl
failing_some (Some e) kept cause live h = refl

acted_kept : (a : Act) (taken : Bool) (s : State) (n : ℕ) → Kept s n → Kept (acted a taken s) (said_by a (told_in s.session) n)
acted_kept (Give o) true s n (inl h) = let x = map_told (since_order s.clock o) s.session (since_told s.clock o) in inl (omega (arith, x, h))
acted_kept (Give o) true s n (inr h) = inr (map_some (since_order s.clock o) s.session ∙ h.0, h.1)
acted_kept (Give o) false s n (inl h) = inl h
acted_kept (Give o) false s n (inr h) = inr (h.0, inr (failing_some s.agenda.ending s.session _ _ h.0))
acted_kept (Send bytes) true s n k = let x = map_told (replied s.clock) s.session (λ ss. refl) in inl (omega (arith, x))
acted_kept (Send bytes) false s n k = inl (omega arith)
acted_kept (Answer bytes) taken s n (inl h) = inl h
acted_kept (Answer bytes) taken s n (inr h) = inr h
acted_kept (End cause) taken s n k = inl (omega arith)

opened_kept : (arrived : Option ℕ) (at : ℕ) (kept : Option Session) (n : ℕ) → n ≤ told_in kept → opened_said arrived n ≤ told_in (session_opened arrived at kept)
opened_kept None at kept n h = h
opened_kept (Some token) at kept n h = omega arith

pub steps_kept : (c : Codecs) (plan : PostPlan) (steps : List Step) → IsPostRun c plan steps → Kept (state plan steps) (said plan steps)
steps_kept c plan [] run = inl (omega arith)
steps_kept c plan (Hears at e ∷ steps) (run, quiet) =
    let s = state plan steps in
    let h = done_kept s (said plan steps) (quiet_done plan s quiet) (steps_kept c plan steps run) in
    let x = map_told (with_bytes (brought e)) (session_opened s.arrived s.clock s.session) (λ ss. refl) in
    let y = opened_kept s.arrived s.clock s.session (said plan steps) h in
    inl (omega (arith, x, y))
steps_kept c plan (Does r a taken ∷ steps) (run, (limit, before, behind, acts)) =
    acted_kept a taken (filled plan r (state plan steps)) (said plan steps) (filled_kept c plan (Shows limit before behind) (state plan steps) r (said plan steps) acts.read (steps_kept c plan steps run))

-- So the posts may spell these watts, and together no more than the limit.

abbrev pub said_of : Post → ℕ
said_of post = said post.plan post.steps

abbrev pub pledged : Post → ℕ
pledged post = max (told_of post) (said_of post)

abbrev pub pledged_total : List Post → ℕ
pledged_total posts = sum_by pledged posts

abbrev IsIdle : Post → Type 0
IsIdle post = is_done (state_of post).agenda ≡ true

abbrev AreIdle : List Post → Type 0
AreIdle = AllByRecursion IsIdle

-- posts act in turn: behind the first that has something to do, nothing is begun
abbrev pub InTurn : List Post → Type 0
InTurn [] = Unit {0}
InTurn (post ∷ posts) = AreIdle posts ⊎ (Rests post × InTurn posts)

quiet_idle : (posts : List Post) → AreQuiet posts → AreIdle posts
quiet_idle [] q = tt
quiet_idle (p ∷ posts) q = (quiet_done p.plan (state_of p) q.0, quiet_idle posts q.1)

idle_behind : (before : List Post) (p : Post) (behind : List Post) → AreIdle (before ++ p ∷ behind) → AreIdle behind
idle_behind [] p behind i = i.1
idle_behind (b ∷ before) p behind i = idle_behind before p behind i.1

turn_behind : (before : List Post) (p : Post) (behind : List Post) → (Rests p → ⊥) → InTurn (before ++ p ∷ behind) → AreIdle behind
turn_behind [] p behind busy (inl i) = i
turn_behind [] p behind busy (inr q) = absurd (busy q.0)
turn_behind (b ∷ before) p behind busy (inl i) = idle_behind before p behind i
turn_behind (b ∷ before) p behind busy (inr q) = turn_behind before p behind busy q.1

turn_acted : (before : List Post) (p : Post) (behind : List Post) → AreQuiet before → AreIdle behind → InTurn (before ++ p ∷ behind)
turn_acted [] p behind q i = inl i
turn_acted (b ∷ before) p behind q i = inr (q.0, turn_acted before p behind q.1 i)

idle_turn : (posts : List Post) → AreIdle posts → InTurn posts
idle_turn [] i = tt
idle_turn (p ∷ posts) i = inl i.1

heard_idle : (k at : ℕ) (h : Heard) (bytes : List ℕ) (posts : List Post) → AreIdle (heard_from k at h bytes posts)
heard_idle k at h bytes [] = tt
heard_idle k at h bytes (p ∷ posts) = (refl, heard_idle (suc k) at h bytes posts)

unheard_idle : (plans : List PostPlan) → AreIdle (map unheard plans)
unheard_idle [] = tt
unheard_idle (plan ∷ plans) = (refl, unheard_idle plans)

busy_read : (c : Codecs) (plan : PostPlan) (S : ℕ → ℕ → Type 0) (s : State) (r : Option Reading) (todo : Todo) → IsQuiet plan s → IsRead c plan S (decided plan s) (wanted (decided plan s)) r → first (filled plan r s).agenda ≡ Some todo → ⊥
busy_read c plan S s None todo q i f = let g : None ≡ Some todo = sym q.none ∙ f in cc
busy_read c plan S s (Some x) todo q i f = subst (λ (w : Option Payload). IsRead c plan S (decided plan s) w (Some x)) q.no_word i

pub busy : (c : Codecs) (limit : ℕ) (posts : List Post) (e : Entry) (later : List Post) (m : MayAct c limit posts e later) → Rests m.post → ⊥
busy c limit posts e later m q = busy_read c m.post.plan (Shows limit m.before m.behind) (state_of m.post) m.reading m.acts.todo q m.acts.read m.acts.acts

heard_turn : (past : List Entry) (posts : List Post) (e : Entry) (later : List Post) → AreQuiet posts → HeardBy past posts e later → InTurn later
heard_turn past posts (entry.Heard h bytes) later q heard = subst InTurn (sym heard.2) (idle_turn _ (heard_idle 1 (max (moment past) h.at) h bytes posts))
heard_turn past posts entry.Lost later q heard = subst InTurn (sym heard) (idle_turn posts (quiet_idle posts q))
heard_turn past posts (entry.Sent post bytes taken) later q heard = absurd heard
heard_turn past posts (entry.Answered post bytes taken) later q heard = absurd heard
heard_turn past posts (entry.Drove post order taken) later q heard = absurd heard
heard_turn past posts (entry.Dialed port taken) later q heard = absurd heard
heard_turn past posts (entry.Ended post cause) later q heard = absurd heard

acted_turn : (c : Codecs) (limit : ℕ) (posts : List Post) (e : Entry) (later : List Post) (m : MayAct c limit posts e later) → InTurn posts → AreIdle m.behind
acted_turn c limit posts e later m t = turn_behind m.before m.post m.behind (busy c limit posts e later m) (subst InTurn m.posts_are t)

pub run_turn : (c : Codecs) (site : SitePlan) (past : List Entry) (posts : List Post) → IsRun c site past posts → InTurn posts
run_turn c site [] posts run = subst InTurn (sym run) (idle_turn _ (unheard_idle site.post.items))
run_turn c site (e ∷ past) posts (before, run, inl hears) = heard_turn past before e posts hears.whole hears.heard
run_turn c site (e ∷ past) posts (before, run, inr m) =
    subst InTurn (sym m.later_is) (turn_acted m.before (with_step (Does m.reading m.act m.taken) m.post) m.behind m.first (acted_turn c site.limit before e posts m (run_turn c site past before run)))

-- the sums
abbrev AreKept : List Post → Type 0
AreKept = AllByRecursion (λ p. Kept (state_of p) (said_of p))

posts_kept : (c : Codecs) (past : List Entry) (k : ℕ) (posts : List Post) → ArePostsOf c past k posts → AreKept posts
posts_kept c past k [] all = tt
posts_kept c past k (p ∷ posts) all = (steps_kept c p.plan p.steps all.0.run, posts_kept c past (suc k) posts all.1)

idle_pledged : (posts : List Post) → AreIdle posts → AreKept posts → pledged_total posts ≡ told_total posts
idle_pledged [] i k = refl
idle_pledged (p ∷ posts) i k =
    let x = sum_by-cons pledged p posts in
    let y = sum_by-cons told_of p posts in
    let z = done_kept (state_of p) (said_of p) i.0 k.0 in
    omega (arith, x, y, z, idle_pledged posts i.1 k.1)

split_pledged : (before : List Post) (p : Post) (behind : List Post) → pledged_total (before ++ p ∷ behind) ≡ pledged_total before + (pledged p + pledged_total behind)
split_pledged before p behind = sum_by-append pledged before (p ∷ behind) ∙ ap (λ (n : ℕ). pledged_total before + n) (sum_by-cons pledged p behind)

kept_before : (before : List Post) (p : Post) (behind : List Post) → AreKept (before ++ p ∷ behind) → AreKept before
kept_before [] p behind k = tt
kept_before (b ∷ before) p behind k = (k.0, kept_before before p behind k.1)

kept_behind : (before : List Post) (p : Post) (behind : List Post) → AreKept (before ++ p ∷ behind) → AreKept behind
kept_behind [] p behind k = k.1
kept_behind (b ∷ before) p behind k = kept_behind before p behind k.1

said_le : (a : Act) (told n : ℕ) → said_by a told n ≤ max told n
said_le (Give o) told n = omega arith
said_le (Send bytes) told n = omega arith
said_le (Answer bytes) told n = omega arith
said_le (End cause) told n = omega arith

sums : (limit before behind old new told now said next : ℕ) → before + (max old said + behind) ≤ limit → told ≤ new → now ≤ told → next ≤ max told said → (new ≡ old) ⊎ (new ≤ limit - (before + behind)) → before + (max now next + behind) ≤ limit
sums limit before behind old new told now said next w a b d (inl h) = omega (arith, w, a, b, d, h)
sums limit before behind old new told now said next w a b d (inr h) = omega (arith, w, a, b, d, h)

acted_pledged : (c : Codecs) (limit : ℕ) (posts : List Post) (e : Entry) (later : List Post) (m : MayAct c limit posts e later) → InTurn posts → AreKept posts → pledged_total posts ≤ limit → pledged_total later ≤ limit
acted_pledged c limit posts e later m turn kept w =
    let s = state_of m.post in
    let t = filled m.post.plan m.reading s in
    let all = subst AreKept m.posts_are kept in
    let front = idle_pledged m.before (quiet_idle m.before m.first) (kept_before m.before m.post m.behind all) in
    let back = idle_pledged m.behind (acted_turn c limit posts e later m turn) (kept_behind m.before m.post m.behind all) in
    let old = ap pledged_total m.posts_are ∙ split_pledged m.before m.post m.behind in
    let new = ap pledged_total m.later_is ∙ split_pledged m.before (with_step (Does m.reading m.act m.taken) m.post) m.behind in
    let le : told_total m.before + (max (told_in s.session) (said_of m.post) + told_total m.behind) ≤ limit = omega (arith, old, w, front, back) in
    let x = sums limit (told_total m.before) (told_total m.behind) (told_in s.session) (told_in t.session) (told_in t.session) (told_in (acted m.act m.taken t).session) (said_of m.post)
    (said_by m.act (told_in t.session) (said_of m.post)) le (omega arith) (acted_told m.act m.taken t) (said_le m.act (told_in t.session) (said_of m.post))
    (elim (filled_told c (Shows limit m.before m.behind) m.post.plan s m.reading m.acts.read) [
      | inl h ↦ inl h
      | inr h ↦ inr (least_le (told_in t.session) h.0 h.1.level limit (told_total m.before + told_total m.behind) h.1.least)
    ]) in
    omega (arith, new, x, front, back)

opened_le : (arrived : Option ℕ) (at n : ℕ) (kept : Option Session) → max (told_in (session_opened arrived at kept)) (opened_said arrived n) ≤ max (told_in kept) n
opened_le None at n kept = omega arith
opened_le (Some token) at n kept = omega arith

heard_one : (at : ℕ) (e : Event) (p : Post) → pledged (with_step (Hears at e) p) ≤ pledged p
heard_one at e p =
    let s = state_of p in
    let x = map_told (with_bytes (brought e)) (session_opened s.arrived s.clock s.session) (λ ss. refl) in
    let y = opened_le s.arrived s.clock (said_of p) s.session in
    omega (arith, x, y)

heard_pledged : (k at : ℕ) (h : Heard) (bytes : List ℕ) (posts : List Post) → pledged_total (heard_from k at h bytes posts) ≤ pledged_total posts
heard_pledged k at h bytes [] = omega arith
heard_pledged k at h bytes (p ∷ posts) =
    let x = sum_by-cons pledged (with_step (Hears at (event_at k h.what bytes)) p) (heard_from (suc k) at h bytes posts) in
    let y = sum_by-cons pledged p posts in
    omega (arith, x, y, heard_one at (event_at k h.what bytes) p, heard_pledged (suc k) at h bytes posts)

heard_within : (past : List Entry) (posts : List Post) (e : Entry) (later : List Post) → HeardBy past posts e later → pledged_total later ≤ pledged_total posts
heard_within past posts (entry.Heard h bytes) later heard = let x = ap pledged_total heard.2 in omega (arith, x, heard_pledged 1 (max (moment past) h.at) h bytes posts)
heard_within past posts entry.Lost later heard = let x = ap pledged_total heard in omega (arith, x)
heard_within past posts (entry.Sent post bytes taken) later heard = absurd heard
heard_within past posts (entry.Answered post bytes taken) later heard = absurd heard
heard_within past posts (entry.Drove post order taken) later heard = absurd heard
heard_within past posts (entry.Dialed port taken) later heard = absurd heard
heard_within past posts (entry.Ended post cause) later heard = absurd heard

none_pledged : (plans : List PostPlan) → pledged_total (map unheard plans) ≡ 0
none_pledged [] = refl
none_pledged (plan ∷ plans) = let x = sum_by-cons pledged (unheard plan) (map unheard plans) in omega (arith, x, none_pledged plans)

pub pledged_within : (c : Codecs) (site : SitePlan) (past : List Entry) (posts : List Post) → IsRun c site past posts → pledged_total posts ≤ site.limit
pledged_within c site [] posts run = let x = ap pledged_total run ∙ none_pledged site.post.items in omega (arith, x)
pledged_within c site (e ∷ past) posts (before, run, inl hears) = let w = pledged_within c site past before run in omega (arith, heard_within past before e posts hears.heard, w)
pledged_within c site (e ∷ past) posts (before, run, inr m) =
    acted_pledged c site.limit before e posts m (run_turn c site past before run) (posts_kept c past 1 before (run_posts c site past before run)) (pledged_within c site past before run)
