-- What is read stands at the front of what is unread, where the next word of the stream is.
use Rattle.std.proofs.Common.{◌≡◌, ◌≤◌, ◌<◌, ℕ, zero, suc, ◌+◌, Bool, true, false, List, [], ◌∷◌, length, drop, get_or, map, Option, Some, None, Ok, Err, refl, sym, ap, subst, ◌∙◌, inl, inr, ◌⊎◌, MatchBool, arith}
use Rattle.std.proofs.lemmas.List.{drop_more, length-append, length-drop, length-take-le}
use Rattle.std.proofs.lemmas.Bool.{cases_lt}
use Rattle.charge_world.specs.declared.offer.Dialect.{Dialect}
use Rattle.session_words.specs.declared.plan.PostPlan.{PostPlan}
use Rattle.v2gtp_frames.specs.Frames.{IsRest, Frames}
use Rattle.v2gtp_frames.specs.Reading.{whole_at, payload_at, behind_frames}
use Rattle.v2gtp_frames.proofs.Again.{is_frame}
use Rattle.v2gtp_frames.proofs.Growing.{whole_fits}
use Rattle.v2gtp_frames.proofs.Same.{last_rest}
use Rattle.session_rules.specs.declared.stage.Stage.{Stage}
use Rattle.session_rules.specs.Stages.{is_waiting}
use Rattle.post_spec.specs.Codecs.{Judged, Codecs, Judges}
use Rattle.post_spec.specs.Sessions.{session, stream, replies, waits}
use Rattle.post_spec.specs.Spelled.{ReadsBack, AreDetermined}
use Rattle.post_spec.specs.Steps.{Seen, Reading, Step, Hears, Does, seen_of}
use Rattle.post_spec.specs.Talk.{Exchange, dialect_of}
use Rattle.post_spec.specs.Words as words
use Rattle.post_spec.specs.Words.{HeardWord, Payload, Fault, AreJudged, Words, next_words}
use Rattle.station_spec.specs.States.{Session, State}
use Rattle.station_spec.specs.Deciding.{decided}
use Rattle.station_spec.specs.Judging.{Payload as Wanted, speaks, wanted, IsRead}
use Rattle.station_spec.specs.Acting.{state}
use Rattle.station_spec.specs.Sharing.{Shows}
use Rattle.station_laws.specs.PostRuns.{IsPostRun, ArePostsOf}
use Rattle.station_laws.proofs.PostRuns.{run_posts, post_at}
use Rattle.safe_runs.proofs.Growth.{AreWhole}
use Rattle.safe_runs.proofs.Links.{Rowed, Pending, Waits, Link, Tie}
use Rattle.safe_runs.proofs.Parts.{decided_planned}
use Rattle.safe_runs.proofs.Rows.{RowHas}
use Rattle.safe_runs.proofs.Safety.{run_linked}
use Rattle.read_runs.proofs.Agendas.{IsWanted, WantedIn, wanted_in, wanted_done}
use Rattle.read_runs.proofs.Counting.{counted}
use Rattle.coming_causes_open.proofs.Spoken.{Spoke, spoke, chosen_is, FaultAt, PayloadAt, DialectAt, word_at}
use Rattle.coming_causes_open.proofs.Wording.{connected, none_yet, word_same}
use Rattle.served_sessions.proofs.Bytes.{AreOctets, AreHeard, fronts, run_heard, stream_octets}
use Rattle.next_words.specs.Next.{IsNext, IsReadNext, AreReadInOrder, RunsReadInOrder}

-- A whole frame is one of the payloads.

whole_to : (n m : ℕ) (bytes : List ℕ) → AreWhole n bytes → m ≤ n → AreWhole m bytes
whole_to zero m bytes w h = let e : 0 ≡ m = omega arith in subst (λ (k : ℕ). AreWhole k bytes) e tt
whole_to (suc n) m bytes w h = elim (cases_lt n m) [
  | inl x ↦ let e : suc n ≡ m = omega (arith, x, h) in subst (λ (k : ℕ). AreWhole k bytes) e w
  | inr x ↦ whole_to n m bytes w.0 x
]

no_more : (rest : List ℕ) (k : ℕ) → IsRest rest → AreOctets rest → whole_at rest ≡ Ok (Some k) → ⊥
no_more rest k longest o w =
    let fits = whole_fits rest k w in
    let size : length (payload_at k rest) ≡ k = length-take-le k (drop 8 rest) (omega (arith, fits.fits, length-drop 8 rest)) in
    longest (payload_at k rest) (drop (8 + k) rest) (omega (arith, size, fits.short)) (is_frame rest k o w)

behind_all : (n m len : ℕ) (bytes rest : List ℕ) (payloads : List (List ℕ)) → m ≡ length payloads → m ≤ n → AreOctets bytes → AreWhole n bytes → whole_at (behind_frames n bytes) ≡ Ok (Some len) → Frames bytes payloads rest → ⊥
behind_all n m len bytes rest payloads e le o w h f =
    let here = whole_to (suc n) (suc m) bytes (w, (len, h)) (omega (arith, le)) in
    let same : behind_frames m bytes ≡ rest = ap (λ (k : ℕ). behind_frames k bytes) e ∙ last_rest bytes payloads rest f in
    no_more rest here.1.0 f.longest (subst AreOctets same (fronts m bytes o here.0).octets) (sym (ap whole_at same) ∙ here.1.1)

pub in_payloads : (n len : ℕ) (bytes rest : List ℕ) (payloads : List (List ℕ)) → AreOctets bytes → AreWhole n bytes → whole_at (behind_frames n bytes) ≡ Ok (Some len) → Frames bytes payloads rest → n < length payloads
in_payloads n len bytes rest payloads o w h f = elim (cases_lt n (length payloads)) [
  | inl x ↦ x
  | inr x ↦ absurd (behind_all n (length payloads) len bytes rest payloads refl x o w h f)
]

-- Each payload is a word.

pub read_long : (c : Codecs) (offers : List Dialect) (d : Dialect) (payloads : List (List ℕ)) (ws : List HeardWord) → words.AreRead c offers (Some d) payloads ws → length ws ≡ length payloads
read_long c offers d [] ws a = ap length a
read_long c offers d (p ∷ ps) [] a = absurd a
read_long c offers d (p ∷ ps) (Fault fault ∷ ws) a = absurd a
read_long c offers d (p ∷ ps) (Payload judged ∷ ws) a = ap suc (read_long c offers d ps ws a.1)

pub word_there : (c : Codecs) (offers : List Dialect) (bytes rest : List ℕ) (payloads : List (List ℕ)) (front : List HeardWord) (n : ℕ) (d : Option Dialect) → AreDetermined c → Frames bytes payloads rest → AreJudged c offers payloads front → DialectAt c offers bytes n d → n < length payloads → n < length front
word_there c offers bytes rest [] front n d det f a k h = absurd (let l : length {A = List ℕ} [] ≡ 0 = refl in omega (arith, h, l))
word_there c offers bytes rest (p ∷ ps) [] n d det f a k h = absurd a
word_there c offers bytes rest (p ∷ ps) (Fault fault ∷ ws) n d det f a k h = absurd a
word_there c offers bytes rest (p ∷ ps) (Payload judged ∷ ws) zero d det f a k h = omega arith
word_there c offers bytes rest (p ∷ ps) (Payload judged ∷ ws) (suc n) d det f a k h =
    let read = subst (λ (x : Option Dialect). words.AreRead c offers x ps ws) (chosen_is c offers bytes rest p ps judged k.0 det f a.0 k.2) a.1 in
    let long = read_long c offers k.0 ps ws read in
    let l : length (p ∷ ps) ≡ suc (length ps) = refl in
    let m : length (Payload judged ∷ ws) ≡ suc (length ws) = refl in
    omega (arith, h, long, l, m)

-- The dialect of what is read.

pub dialect_here : (c : Codecs) (offers : List Dialect) (es : List Seen) (n : ℕ) (xs : List Exchange) (stage : Stage) → n ≡ length xs → RowHas stage.row xs → dialect_of xs ≡ speaks stage → ((d : Dialect) → dialect_of xs ≡ Some d → Spoke c offers (stream es) d)
    → DialectAt c offers (stream es) n (speaks stage)
dialect_here c offers es zero [] stage e r d f = sym d
dialect_here c offers es zero (x ∷ xs) stage e r d f = absurd (let l : length (x ∷ xs) ≡ suc (length xs) = refl in omega (arith, e, l))
dialect_here c offers es (suc n) [] stage e r d f = absurd (let l : length {A = Exchange} [] ≡ 0 = refl in omega (arith, e, l))
dialect_here c offers es (suc n) (x ∷ xs) stage e r d f = elim (connected stage.row stage.dialect) [
  | inl k ↦ absurd (let none : x ∷ xs ≡ [] = none_yet stage.row (x ∷ xs) k r in let l : length (x ∷ xs) ≡ 0 = ap length none in let m : length (x ∷ xs) ≡ suc (length xs) = refl in omega (arith, l, m))
  | inr k ↦ (stage.dialect, k, f stage.dialect (d ∙ k))
]

-- where the word stands
words_at : (es : List Seen) (ws : List HeardWord) (n : ℕ) → waits es ≡ false → n ≡ length (replies es) → next_words es ws ≡ drop n ws
words_at es ws n w e = rw (w, e) refl

-- What is read is judged as the word at its place.

at_place : (c : Codecs) (offers : List Dialect) (bytes : List ℕ) (ss : Session) (n k : ℕ) (s : State) (p : Wanted) (judged : Judged) (word : HeardWord) → AreDetermined c → ss.unread ≡ behind_frames n bytes → IsWanted s ss k p → Judges c offers p.dialect p.bytes judged
    → FaultAt bytes n word ⊎ PayloadAt c offers bytes n (speaks ss.stage) word → word ≡ Payload judged
at_place c offers bytes ss n k s p judged word det u i j (inl x) = absurd (let y : Ok (Some k) ≡ Err x.fault = sym i.front ∙ ap whole_at u ∙ x.at in cc)
at_place c offers bytes ss n k s p judged word det u i j (inr x) =
    let size : Ok (Some k) ≡ Ok (Some x.at.count) = sym i.front ∙ ap whole_at u ∙ x.at.whole in
    let count : k ≡ x.at.count = cc in
    let same : p.bytes ≡ x.payload = i.bytes_are ∙ ap (payload_at k) u ∙ ap (λ (m : ℕ). payload_at m (behind_frames n bytes)) count ∙ sym x.at.payload_is in
    let here = subst (λ (b : List ℕ). Judges c offers p.dialect b judged) same j in
    let there = subst (λ (d : Option Dialect). Judges c offers d x.payload judged) i.dialect_is here in
    x.word_is ∙ ap Payload (word_same c offers (speaks ss.stage) x.payload x.judged judged det x.by there)

still_talk : (c : Codecs) (plan : PostPlan) (past es : List Seen) (xs : List Exchange) (taken : ℕ) (stage : Stage) (b : Bool) → b ≡ false
    → MatchBool b (Waits c plan past es xs taken stage None (Unit {0})) (Pending c plan past es xs taken stage None None (Unit {0})) → (taken ≡ length xs) × Rowed plan past stage xs (Unit {0})
still_talk c plan past es xs taken stage true e t = cc
still_talk c plan past es xs taken stage false e t = t

linked_next : (c : Codecs) (plan : PostPlan) (past es : List Seen) (ws : List HeardWord) (ss : Session) (s : State) (p : Wanted) (k : ℕ) (judged : Judged) → AreDetermined c → session past ≡ Some es → AreOctets (stream es) → Link c plan past es ss.stage ss.unread None None (Unit {0}) → IsWanted s ss k p
    → Judges c plan.dialects.items p.dialect p.bytes judged → Words c plan.dialects.items (stream es) ws → IsNext es ws judged
linked_next c plan past es ws ss s p k judged det here o l i j w =
    let offers = plan.dialects.items in
    let t = still_talk c plan past es l.xs l.taken ss.stage (is_waiting ss.stage.row) i.goes l.talk in
    let n = l.taken in
    let still = l.quiet i.goes in
    let at = words_at es ws l.taken still (t.0 ∙ sym (counted c plan.dialects.items past es l.xs here l.talks)) in
    let d = dialect_here c plan.dialects.items es l.taken l.xs ss.stage t.0 t.1.has t.1.dialect (λ e h. spoke c plan.dialects.items past es l.xs e here l.talks h) in
    let whole : whole_at (behind_frames l.taken (stream es)) ≡ Ok (Some k) = sym (ap whole_at l.unread_is) ∙ i.front in
    let within = in_payloads l.taken k (stream es) w.rest w.payloads o l.whole whole w.frames in
    let front = word_there c plan.dialects.items (stream es) w.rest w.payloads w.front l.taken (speaks ss.stage) det w.frames w.judged d within in
    let all : length ws ≡ length w.front + length w.behind = ap length w.words_are ∙ length-append w.front w.behind in
    let more : l.taken < length ws = omega (arith, front, all) in
    let head = drop_more ws l.taken (Payload judged) more in
    let word = at_place c plan.dialects.items (stream es) ss l.taken k s p judged (get_or ws l.taken (Payload judged)) det l.unread_is i j
    (word_at c plan.dialects.items (stream es) ws (drop (l.taken + 1) ws) l.taken (speaks ss.stage) (get_or ws l.taken (Payload judged)) det w d head) in
    record { goes_on = still; later = drop (l.taken + 1) ws; next_is = at ∙ head ∙ ap (λ (x : HeardWord). x ∷ drop (l.taken + 1) ws) word }

tied_next : (c : Codecs) (plan : PostPlan) (past es : List Seen) (ws : List HeardWord) (lives : Option (List Seen)) (kept : Option Session) (s : State) (p : Wanted) (judged : Judged) → AreDetermined c → session past ≡ lives → lives ≡ Some es → AreOctets (stream es)
    → Tie c plan past None lives kept None None (Unit {0}) → WantedIn s kept p → Judges c plan.dialects.items p.dialect p.bytes judged → Words c plan.dialects.items (stream es) ws → IsNext es ws judged
tied_next c plan past es ws lives None s p judged det here l o t i j w = absurd i
tied_next c plan past es ws None (Some ss) s p judged det here l o t i j w = cc
tied_next c plan past es ws (Some zs) (Some ss) s p judged det here l o t i j w =
    let y : zs ≡ es = cc in
    linked_next c plan past es ws ss s p i.0 judged det (here ∙ l) o (subst (λ (us : List Seen). Link c plan past us ss.stage ss.unread None None (Unit {0})) y t) i.1 j w

wanted_next : (c : Codecs) (plan : PostPlan) (S : ℕ → ℕ → Type 0) (steps : List Step) (w : Option Wanted) (r : Option Reading) → ReadsBack c → AreDetermined c → IsPostRun c plan steps → AreHeard (map seen_of steps) → wanted (decided plan (state plan steps)) ≡ w
    → IsRead c plan S (decided plan (state plan steps)) w r → IsReadNext c plan (map seen_of steps) r
wanted_next c plan S steps w None back det run heard e i = tt
wanted_next c plan S steps None (Some r) back det run heard e i = absurd i
wanted_next c plan S steps (Some p) (Some r) back det run heard e i = λ es ws l h.
    let past = map seen_of steps in
    let d = decided plan (state plan steps) in
    let at = wanted_in d p e in
    let clear = (decided_planned c plan past (state plan steps) (run_linked c plan steps back run)).clear (wanted_done d d.session p at) in
    tied_next c plan past es ws (session past) d.session d p r.judged det refl l (stream_octets past es heard l) clear.tie at i.0 h

run_ordered : (c : Codecs) (plan : PostPlan) (steps : List Step) → ReadsBack c → AreDetermined c → IsPostRun c plan steps → AreHeard (map seen_of steps) → AreReadInOrder c plan steps
run_ordered c plan [] back det run heard = tt
run_ordered c plan (Hears at e ∷ steps) back det run heard = run_ordered c plan steps back det run.0 heard.0
run_ordered c plan (Does r a taken ∷ steps) back det (run, (limit, before, behind, acts)) heard = (
  run_ordered c plan steps back det run heard,
  wanted_next c plan (Shows limit before behind) steps (wanted (decided plan (state plan steps))) r back det run heard refl acts.read,
)

pub runs_read_in_order : (c : Codecs) → RunsReadInOrder c
runs_read_in_order c site past posts before post behind back det run is =
    let all = subst (ArePostsOf c past 1) is (run_posts c site past posts run) in
    let k = post_at c past (length before + 1) 1 before post behind refl all in
    run_ordered c post.plan post.steps back det k.run (subst AreHeard k.seen_is (run_heard c site past posts (length before + 1) run))
