-- A post that has nothing to do has read each whole frame, and the rest of its stream has no fault.
use Rattle.std.proofs.Common.{◌≡◌, ◌≤◌, ◌<◌, ℕ, suc, ◌+◌, Bool, true, false, if◌then◌else◌, List, [], ◌∷◌, ◌++◌, length, drop, map, Option, Some, None, Result, Ok, Err, refl, sym, ap, subst, ◌∙◌, arith, inl, inr}
use Rattle.std.proofs.lemmas.List.{drop_all, append-nil, length-append}
use Rattle.std.proofs.lemmas.List.Elements.{All-nil}
use Rattle.charge_world.specs.declared.offer.Dialect.{Dialect}
use Rattle.charge_world.specs.declared.ports.Order.TheVariants as order
use Rattle.session_words.specs.declared.plan.PostPlan.{PostPlan}
use Rattle.v2gtp_frames.specs.declared.FrameFault.{FrameFault}
use Rattle.v2gtp_frames.specs.Frames.{IsRight}
use Rattle.v2gtp_frames.specs.Reading.{whole_at, behind_frames}
use Rattle.v2gtp_frames.proofs.Ends.{none_right}
use Rattle.v2gtp_frames.proofs.Pieces.{starts_read}
use Rattle.v2gtp_frames.proofs.Same.{last_rest}
use Rattle.session_rules.specs.Stages.{is_waiting}
use Rattle.post_spec.specs.Codecs.{Codecs}
use Rattle.post_spec.specs.Sessions.{arriving, session_behind, session, with_seen, stream, brought, replies, waits}
use Rattle.post_spec.specs.Steps.{Event, Came, Bytes, Gone, Datagram, Plant, Clock, Over, Seen, Heard, Did, Step, Hears, Does, seen_of}
use Rattle.post_spec.specs.Words as words
use Rattle.post_spec.specs.Words.{HeardWord, Payload, Fault, AreJudged, EndsSo, Words, next_words}
use Rattle.station_spec.specs.States.{Agenda, Part, Repeating, Timing, Eventing, Wording, Session, State, is_none, is_done}
use Rattle.station_spec.specs.Deciding.{repeating, timing, eventing, fronting_by, fronting, decide, from_wording, from_eventing, from_timing, from_part, decided}
use Rattle.station_spec.specs.Judging.{payload_by, payload_in, wanted}
use Rattle.station_spec.specs.Acting.{state}
use Rattle.station_spec.specs.Next.{IsQuiet}
use Rattle.station_laws.specs.PostRuns.{IsPostRun, ArePostsOf}
use Rattle.station_laws.proofs.PostRuns.{run_posts, post_at}
use Rattle.safe_runs.proofs.Growth.{AreWhole}
use Rattle.read_runs.proofs.Agendas.{decided_done, quiet_done}
use Rattle.read_sessions.specs.Sessions.{words_read}
use Rattle.read_sessions.proofs.Keeping.{Free, Waiting, Link, Tie}
use Rattle.read_sessions.proofs.Streams.{waits_in, free_in, empty_tie, steps_tied}
use Rattle.served_sessions.proofs.Bytes.{AreOctets, AreHeard, counts, run_heard, stream_octets}
use Rattle.words_by_bytes.specs.Words.{NoneIsNext, AreRead, RunsReadWords}

-- There are no more words than payloads.

read_short : (c : Codecs) (offers : List Dialect) (d : Option Dialect) (payloads : List (List ℕ)) (ws : List HeardWord) → words.AreRead c offers d payloads ws → length ws ≤ length payloads
read_short c offers None payloads ws a = let l : length ws ≡ 0 = ap length a in omega (arith, l)
read_short c offers (Some d) [] ws a = let l : length ws ≡ 0 = ap length a in omega (arith, l)
read_short c offers (Some d) (p ∷ ps) [] a = absurd a
read_short c offers (Some d) (p ∷ ps) (Fault fault ∷ ws) a = absurd a
read_short c offers (Some d) (p ∷ ps) (Payload judged ∷ ws) a =
    let h = read_short c offers (Some d) ps ws a.1 in
    let m : length (Payload judged ∷ ws) ≡ suc (length ws) = refl in
    let n : length (p ∷ ps) ≡ suc (length ps) = refl in
    omega (arith, h, m, n)

judged_short : (c : Codecs) (offers : List Dialect) (payloads : List (List ℕ)) (ws : List HeardWord) → AreJudged c offers payloads ws → length ws ≤ length payloads
judged_short c offers [] ws a = let l : length ws ≡ 0 = ap length a in omega (arith, l)
judged_short c offers (p ∷ ps) [] a = absurd a
judged_short c offers (p ∷ ps) (Fault fault ∷ ws) a = absurd a
judged_short c offers (p ∷ ps) (Payload judged ∷ ws) a =
    let h = read_short c offers (words.chosen_by judged) ps ws a.1 in
    let m : length (Payload judged ∷ ws) ≡ suc (length ws) = refl in
    let n : length (p ∷ ps) ≡ suc (length ps) = refl in
    omega (arith, h, m, n)

ends_none : (rest : List ℕ) (ws : List HeardWord) → IsRight rest → EndsSo rest ws → length ws ≡ 0
ends_none rest [] r e = refl
ends_none rest (Payload judged ∷ ws) r e = absurd e
ends_none rest (Fault fault ∷ []) r e = absurd (r fault e)
ends_none rest (Fault fault ∷ (w ∷ ws)) r e = absurd e

-- so many frames of a stream are whole, and nothing is behind them
pub record IsRead (n : ℕ) (bytes : List ℕ) : Type 0 where
  pub octets : AreOctets bytes
  pub whole : AreWhole n bytes
  pub none : whole_at (behind_frames n bytes) ≡ Ok None

none_left : (c : Codecs) (offers : List Dialect) (n : ℕ) (bytes : List ℕ) (ws : List HeardWord) → IsRead n bytes → Words c offers bytes ws → drop n ws ≡ []
none_left c offers n bytes ws i w =
    let l : length w.payloads ≡ n = counts n bytes i.octets i.whole i.none w.payloads w.rest w.frames in
    let rest : behind_frames n bytes ≡ w.rest = sym (ap (λ (k : ℕ). behind_frames k bytes) l) ∙ last_rest bytes w.payloads w.rest w.frames in
    let right : IsRight w.rest = none_right w.rest (sym (ap whole_at rest) ∙ i.none) in
    let a = judged_short c offers w.payloads w.front w.judged in
    let b = ends_none w.rest w.behind right w.ends in
    let m : length ws ≡ length w.front + length w.behind = ap length w.words_are ∙ length-append w.front w.behind in
    drop_all n ws (omega (arith, l, a, b, m))

-- Nothing is decided at rest.

true_false : {A : Type 0} (b : Bool) → b ≡ true → b ≡ false → A
true_false true h k = cc
true_false false h k = cc

decide_rest : (agenda : Agenda) (part : Part) (s rest : State) (b : Bool) → is_done agenda ≡ b → is_done (decide agenda part s rest).agenda ≡ true → decide agenda part s rest ≡ rest
decide_rest agenda part s rest true e h = rw e refl
decide_rest agenda part s rest false e h = true_false (is_done agenda) (let x = rw e at h in x) e

pub record Still (s t : State) : Type 0 where
  pub same : t ≡ s
  pub front : is_done (fronting s.session s.live) ≡ true

wording_still : (s : State) (b : Bool) → is_done (fronting s.session s.live) ≡ b → is_done (from_wording s).agenda ≡ true → Still s (from_wording s)
wording_still s true e h = record { same = rw e refl; front = e }
wording_still s false e h = true_false (is_done (fronting s.session s.live)) (let x = rw e at h in x) e

event_still : (plan : PostPlan) (s : State) → is_done (from_eventing plan s).agenda ≡ true → Still s (from_eventing plan s)
event_still plan s h =
    let e = decide_rest (eventing plan s.event s) Wording s (from_wording s) (is_done (eventing plan s.event s)) refl h in
    subst (Still s) (sym e) (wording_still s (is_done (fronting s.session s.live)) refl (sym (ap (λ (t : State). is_done t.agenda) e) ∙ h))

time_still : (plan : PostPlan) (s : State) → is_done (from_timing plan s).agenda ≡ true → Still s (from_timing plan s)
time_still plan s h =
    let e = decide_rest (timing s.session s.clock s.live) Eventing s (from_eventing plan s) (is_done (timing s.session s.clock s.live)) refl h in
    subst (Still s) (sym e) (event_still plan s (sym (ap (λ (t : State). is_done t.agenda) e) ∙ h))

part_still : (plan : PostPlan) (part : Part) (s : State) → is_done (from_part plan part s).agenda ≡ true → Still s (from_part plan part s)
part_still plan Wording s h = wording_still s (is_done (fronting s.session s.live)) refl h
part_still plan Eventing s h = event_still plan s h
part_still plan Timing s h = time_still plan s h
part_still plan Repeating s h =
    let e = decide_rest (repeating s.facts.contactor) Timing s (from_timing plan s) (is_done (repeating s.facts.contactor)) refl h in
    subst (Still s) (sym e) (time_still plan s (sym (ap (λ (t : State). is_done t.agenda) e) ∙ h))

quiet_still : (plan : PostPlan) (s : State) → IsQuiet plan s → Still s (decided plan s)
quiet_still plan s q =
    let d = decided_done plan s (quiet_done plan s q) in
    subst (Still s) (sym d) (part_still plan s.part s (sym (ap (λ (t : State). is_done t.agenda) d) ∙ ap is_none q.none))

-- At rest each whole frame is read.

front_none : (f : Result (Option ℕ) FrameFault) (b live : Bool) (ss : Session) → is_done (fronting_by f b live) ≡ true → (if b then None else payload_by f ss) ≡ None → f ≡ Ok None
front_none (Err fault) b true ss h p = cc
front_none (Err fault) b false ss h p = cc
front_none (Ok None) b live ss h p = refl
front_none (Ok (Some n)) true true ss h p = cc
front_none (Ok (Some n)) true false ss h p = cc
front_none (Ok (Some n)) false live ss h p = cc

next_is : (es : List Seen) (ws : List HeardWord) (n : ℕ) → n ≡ words_read es → next_words es ws ≡ drop n ws
next_is es ws n e = ap (λ (k : ℕ). drop k ws) (sym e)

counted_by : (b w : Bool) (n m : ℕ) → w ≡ b → m ≡ (if b then n + 1 else n) → m ≡ (if w then n + 1 else n)
counted_by b w n m e h = h ∙ ap (λ (x : Bool). if x then n + 1 else n) (sym e)

none_close : None ≡ Some order.Close → ⊥
none_close h = cc

link_counts : (b : Bool) (es : List Seen) (ss : Session) → is_waiting ss.stage.row ≡ b → (l : Link None es ss.stage.row ss.since ss.unread None None) → l.stands.taken ≡ words_read es
link_counts true es ss w l =
    let g = l.stands in
    let h = waits_in (Waiting es g.taken ss.since None) (Free es g.taken ss.stage.row ss.since) (is_waiting ss.stage.row) w g.talk in
    elim h.closed [
      | inl x ↦ absurd (none_close x)
      | inr x ↦ counted_by true (waits es) (length (replies es)) g.taken x.0 (let k = h.count in omega (arith, k))
    ]
link_counts false es ss w l =
    let g = l.stands in
    let h = free_in (Waiting es g.taken ss.since None) (Free es g.taken ss.stage.row ss.since) (is_waiting ss.stage.row) w g.talk in
    counted_by false (waits es) (length (replies es)) g.taken h.still h.count

read_by : (lives : Option (List Seen)) (kept : Option Session) (live : Bool) (es : List Seen) → lives ≡ Some es → AreOctets (stream es) → Tie None lives kept None None → is_done (fronting kept live) ≡ true → payload_in kept ≡ None → IsRead (words_read es) (stream es)
read_by None kept live es l o t f p = cc
read_by (Some zs) None live es l o t f p = absurd t
read_by (Some zs) (Some ss) live es l o t f p =
    let x : zs ≡ es = cc in
    let link = subst (λ (us : List Seen). Link None us ss.stage.row ss.since ss.unread None None) x t in
    let g = link.stands in
    let n = link_counts (is_waiting ss.stage.row) es ss refl link in
    let none : whole_at ss.unread ≡ Ok None = front_none (whole_at ss.unread) (is_waiting ss.stage.row) live ss f p in
    subst (λ (k : ℕ). IsRead k (stream es)) n (record { octets = o; whole = g.whole; none = sym (ap whole_at g.unread_is) ∙ none })

wanted_none : (s : State) → is_done s.agenda ≡ true → wanted s ≡ None → payload_in s.session ≡ None
wanted_none s d h = sym (let x : wanted s ≡ payload_in s.session = rw d refl in x) ∙ h

quiet_read : (c : Codecs) (plan : PostPlan) (steps : List Step) (es : List Seen) → IsPostRun c plan steps → AreHeard (map seen_of steps) → IsQuiet plan (state plan steps) → session (map seen_of steps) ≡ Some es → IsRead (words_read es) (stream es)
quiet_read c plan steps es run heard quiet l =
    let past = map seen_of steps in
    let s = state plan steps in
    let done = quiet_done plan s quiet in
    let still = quiet_still plan s quiet in
    read_by (session past) s.session s.live es l (stream_octets past es heard l) (empty_tie past s done (steps_tied c plan steps run)) still.front (wanted_none s done (sym (ap wanted still.same) ∙ quiet.no_word))

quiet_none : (c : Codecs) (plan : PostPlan) (steps : List Step) → IsPostRun c plan steps → AreHeard (map seen_of steps) → IsQuiet plan (state plan steps) → NoneIsNext c plan (map seen_of steps)
quiet_none c plan steps run heard quiet es ws l w = none_left c plan.dialects.items (words_read es) (stream es) ws (quiet_read c plan steps es run heard quiet l) w

-- A hearing without bytes.

came_read : (past : List Seen) (came : Seen) → arriving past ≡ Some came → (stream (came ∷ []) ≡ []) × (words_read (came ∷ []) ≡ 0)
came_read [] came a = cc
came_read (Heard at (Came token) ∷ past) came a = let x : Heard at (Came token) ≡ came = cc in subst (λ (y : Seen). (stream (y ∷ []) ≡ []) × (words_read (y ∷ []) ≡ 0)) x (refl, refl)
came_read (Heard at (Bytes bytes) ∷ past) came a = cc
came_read (Heard at Gone ∷ past) came a = cc
came_read (Heard at (Datagram bytes) ∷ past) came a = cc
came_read (Heard at (Plant event) ∷ past) came a = cc
came_read (Heard at Clock ∷ past) came a = cc
came_read (Heard at Over ∷ past) came a = cc
came_read (Did act taken ∷ past) came a = came_read past came a

nothing_read : IsRead 0 []
nothing_read = record { octets = All-nil (λ b. b < 256); whole = tt; none = starts_read [] refl }

behind_read : (past zs : List Seen) (came : Option Seen) → arriving past ≡ came → session_behind came (session past) ≡ Some zs → ((es : List Seen) → session past ≡ Some es → IsRead (words_read es) (stream es)) → IsRead (words_read zs) (stream zs)
behind_read past zs None a l f = f zs l
behind_read past zs (Some came) a l f =
    let y : came ∷ [] ≡ zs = cc in
    let w = came_read past came a in
    subst (λ (us : List Seen). IsRead (words_read us) (stream us)) y (subst (λ (bytes : List ℕ). IsRead (words_read (came ∷ [])) bytes) (sym w.0) (subst (λ (n : ℕ). IsRead n []) (sym w.1) nothing_read))

hears_none : (c : Codecs) (plan : PostPlan) (past : List Seen) (at : ℕ) (e : Event) (lives : Option (List Seen)) (es : List Seen) (ws : List HeardWord) → with_seen (Heard at e) lives ≡ Some es → brought e ≡ [] → ((zs : List Seen) → lives ≡ Some zs → IsRead (words_read zs) (stream zs))
    → Words c plan.dialects.items (stream es) ws → next_words es ws ≡ []
hears_none c plan past at e None es ws l b f w = cc
hears_none c plan past at e (Some zs) es ws l b f w =
    let y : Heard at e ∷ zs ≡ es = cc in
    let same : stream es ≡ stream zs = ap stream (sym y) ∙ ap (λ (bytes : List ℕ). stream zs ++ bytes) b ∙ append-nil (stream zs) in
    let none = none_left c plan.dialects.items (words_read zs) (stream zs) ws (f zs refl) (subst (λ (bytes : List ℕ). Words c plan.dialects.items bytes ws) same w) in
    ap (λ (us : List Seen). next_words us ws) (sym y) ∙ none

run_read : (c : Codecs) (plan : PostPlan) (steps : List Step) → IsPostRun c plan steps → AreHeard (map seen_of steps) → AreRead c plan (map seen_of steps)
run_read c plan [] run heard = tt
run_read c plan (Hears at e ∷ steps) run heard =
    let past = map seen_of steps in (
      run_read c plan steps run.0 heard.0,
      quiet_none c plan steps run.0 heard.0 run.1,
      λ b es ws l w. hears_none c plan past at e (session_behind (arriving past) (session past)) es ws l b
          (λ zs k. behind_read past zs (arriving past) refl k (λ us m. quiet_read c plan steps us run.0 heard.0 run.1 m)) w,
    )
run_read c plan (Does r a taken ∷ steps) run heard = run_read c plan steps run.0 heard

pub runs_read_words : (c : Codecs) → RunsReadWords c
runs_read_words c site past posts before post behind run is =
    let all = subst (ArePostsOf c past 1) is (run_posts c site past posts run) in
    let k = post_at c past (length before + 1) 1 before post behind refl all in
    let heard = subst AreHeard k.seen_is (run_heard c site past posts (length before + 1) run) in (
      subst (AreRead c post.plan) (sym k.seen_is) (run_read c post.plan post.steps k.run heard),
      λ q. subst (NoneIsNext c post.plan) (sym k.seen_is) (quiet_none c post.plan post.steps k.run heard q),
    )
