-- Where each payload is judged somehow, every stream has its words; and one is next where a frame is whole or wrong.
use Rattle.std.proofs.Common.{◌≡◌, ◌<◌, ℕ, zero, suc, ◌+◌, Bool, true, false, if◌then◌else◌, List, [], ◌∷◌, ◌++◌, length, drop, get_or, Option, Some, None, Result, Ok, Err, refl, sym, ap, subst, ◌∙◌, MatchBool, arith}
use Rattle.std.proofs.lemmas.List.{drop_more, length-append}
use Rattle.charge_world.specs.declared.offer.Dialect.{Dialect}
use Rattle.session_words.specs.declared.cause.EndCause.{EndCause}
use Rattle.session_words.specs.declared.plan.PostPlan.{PostPlan}
use Rattle.v2gtp_frames.specs.declared.FrameFault.{FrameFault}
use Rattle.v2gtp_frames.specs.Frames.{Frames, IsFault}
use Rattle.v2gtp_frames.specs.Reading.{whole_at, behind_front, behind_frames}
use Rattle.v2gtp_frames.proofs.Ends.{fault_is, none_right, none_rest, fault_rest}
use Rattle.v2gtp_frames.proofs.Same.{one_reading, last_rest}
use Rattle.v2gtp_frames.proofs.Taking.{taking_shrinks}
use Rattle.session_rules.specs.Stages.{is_waiting}
use Rattle.post_spec.specs.Codecs.{Refused, Codecs, judged_word}
use Rattle.post_spec.specs.Sessions.{session, stream, replies, waits}
use Rattle.post_spec.specs.Spelled.{AreDetermined, JudgesAll}
use Rattle.post_spec.specs.Steps.{Seen}
use Rattle.post_spec.specs.Talk.{Exchange, dialect_of}
use Rattle.post_spec.specs.Words as words
use Rattle.post_spec.specs.Words.{HeardWord, Payload, Fault, chosen_by, AreJudged, EndsSo, Words, next_words}
use Rattle.station_spec.specs.States.{Session}
use Rattle.station_spec.specs.Judging.{speaks}
use Rattle.read_sessions.specs.Sessions.{words_read, IsSession}
use Rattle.safe_runs.proofs.Growth.{AreWhole}
use Rattle.safe_runs.proofs.Links.{Pending, Waits, Link}
use Rattle.read_runs.proofs.Counting.{counted}
use Rattle.coming_causes_open.proofs.Spoken.{Spoke, spoke, chosen_is, DialectAt}
use Rattle.served_sessions.proofs.Bytes.{AreOctets, fronts}
use Rattle.next_words.proofs.Order.{in_payloads, read_long, word_there, dialect_here}

-- The words of a stream.

pub record Cut (bytes : List ℕ) : Type 0 where
  pub payloads : List (List ℕ)
  pub rest : List ℕ
  pub frames : Frames bytes payloads rest
  pub ends : (behind : List HeardWord) × EndsSo rest behind

cut_at : (n : ℕ) (bytes : List ℕ) (r : Result (Option ℕ) FrameFault) (fuel : ℕ) → AreOctets bytes → AreWhole n bytes → whole_at (behind_frames n bytes) ≡ r → length (behind_frames n bytes) < suc fuel
    → ((len : ℕ) → whole_at (behind_frames n bytes) ≡ Ok (Some len) → length (behind_frames (suc n) bytes) < fuel → Cut bytes) → Cut bytes
cut_at n bytes (Ok None) fuel o w e h next =
    let f = fronts n bytes o w in
    record { payloads = f.payloads; rest = behind_frames n bytes; frames = record { whole = f.whole; each = f.each; longest = none_rest (behind_frames n bytes) e }; ends = ([], none_right (behind_frames n bytes) e) }
cut_at n bytes (Err fault) fuel o w e h next =
    let f = fronts n bytes o w in
    let is = fault_is (behind_frames n bytes) fault e in
    record { payloads = f.payloads; rest = behind_frames n bytes; frames = record { whole = f.whole; each = f.each; longest = fault_rest (behind_frames n bytes) fault is }; ends = (Fault fault ∷ [], is) }
cut_at n bytes (Ok (Some len)) fuel o w e h next =
    let s = taking_shrinks (behind_frames n bytes) (behind_front (behind_frames n bytes)) len e refl in
    next len e (omega (arith, s, h))

cut : (fuel n : ℕ) (bytes : List ℕ) → AreOctets bytes → AreWhole n bytes → length (behind_frames n bytes) < fuel → Cut bytes
cut zero n bytes o w h = absurd (omega (arith, h))
cut (suc fuel) n bytes o w h = cut_at n bytes (whole_at (behind_frames n bytes)) fuel o w refl h (λ len e l. cut fuel (suc n) bytes o (w, (len, e)) l)

read_all : (c : Codecs) (offers : List Dialect) (d : Option Dialect) (payloads : List (List ℕ)) → JudgesAll c → (ws : List HeardWord) × words.AreRead c offers d payloads ws
read_all c offers None payloads j = ([], refl)
read_all c offers (Some d) [] j = ([], refl)
read_all c offers (Some d) (p ∷ ps) j =
    let r = j.reads d p in
    let m = read_all c offers (Some d) ps j in
    (Payload (judged_word r.0) ∷ m.0, ((r.0, r.1, refl), m.1))

judge_all : (c : Codecs) (offers : List Dialect) (payloads : List (List ℕ)) → JudgesAll c → (ws : List HeardWord) × AreJudged c offers payloads ws
judge_all c offers [] j = ([], refl)
judge_all c offers (p ∷ ps) j =
    let r = j.negotiates offers p in
    let m = read_all c offers (chosen_by r.0) ps j in
    (Payload r.0 ∷ m.0, (r.1, m.1))

pub words_of : (c : Codecs) (offers : List Dialect) (bytes : List ℕ) → JudgesAll c → AreOctets bytes → (ws : List HeardWord) × Words c offers bytes ws
words_of c offers bytes j o =
    let k = cut (suc (length bytes)) zero bytes o tt (omega arith) in
    let f = judge_all c offers k.payloads j in
    (f.0 ++ k.ends.0, record { payloads = k.payloads; rest = k.rest; frames = k.frames; front = f.0; behind = k.ends.0; words_are = refl; judged = f.1; ends = k.ends.1 })

-- A word is next where a frame is whole or wrong.

judged_long : (c : Codecs) (offers : List Dialect) (bytes rest : List ℕ) (payloads : List (List ℕ)) (front : List HeardWord) (n : ℕ) (d : Option Dialect) → AreDetermined c → Frames bytes payloads rest → AreJudged c offers payloads front → DialectAt c offers bytes n d → length payloads ≡ n → length front ≡ n
judged_long c offers bytes rest [] front n d det f a k e = let l : length front ≡ 0 = ap length a in let m : length {A = List ℕ} [] ≡ 0 = refl in omega (arith, l, m, e)
judged_long c offers bytes rest (p ∷ ps) [] n d det f a k e = absurd a
judged_long c offers bytes rest (p ∷ ps) (Fault fault ∷ ws) n d det f a k e = absurd a
judged_long c offers bytes rest (p ∷ ps) (Payload judged ∷ ws) zero d det f a k e = absurd (let l : length (p ∷ ps) ≡ suc (length ps) = refl in omega (arith, l, e))
judged_long c offers bytes rest (p ∷ ps) (Payload judged ∷ ws) (suc n) d det f a k e =
    let read = subst (λ (x : Option Dialect). words.AreRead c offers x ps ws) (chosen_is c offers bytes rest p ps judged k.0 det f a.0 k.2) a.1 in
    let long = read_long c offers k.0 ps ws read in
    let l : length (p ∷ ps) ≡ suc (length ps) = refl in
    let m : length (Payload judged ∷ ws) ≡ suc (length ws) = refl in
    omega (arith, e, long, l, m)

ends_one : (rest : List ℕ) (ws : List HeardWord) (fault : FrameFault) → IsFault rest fault → EndsSo rest ws → length ws ≡ 1
ends_one rest [] fault f e = absurd (e fault f)
ends_one rest (Payload judged ∷ ws) fault f e = absurd e
ends_one rest (Fault x ∷ []) fault f e = refl
ends_one rest (Fault x ∷ (w ∷ ws)) fault f e = absurd e

long_by : (c : Codecs) (offers : List Dialect) (bytes : List ℕ) (ws : List HeardWord) (n : ℕ) (d : Option Dialect) (r : Result (Option ℕ) FrameFault) → AreDetermined c → AreOctets bytes → AreWhole n bytes → DialectAt c offers bytes n d → Words c offers bytes ws
    → whole_at (behind_frames n bytes) ≡ r → (r ≡ Ok None → ⊥) → n < length ws
long_by c offers bytes ws n d (Ok None) det o w k v e h = absurd (h refl)
long_by c offers bytes ws n d (Ok (Some len)) det o w k v e h =
    let within = in_payloads n len bytes v.rest v.payloads o w e v.frames in
    let front = word_there c offers bytes v.rest v.payloads v.front n d det v.frames v.judged k within in
    let all : length ws ≡ length v.front + length v.behind = ap length v.words_are ∙ length-append v.front v.behind in
    omega (arith, front, all)
long_by c offers bytes ws n d (Err fault) det o w k v e h =
    let f = fronts n bytes o w in
    let is = fault_is (behind_frames n bytes) fault e in
    let one = one_reading bytes v.rest (behind_frames n bytes) v.payloads f.payloads v.frames (record { whole = f.whole; each = f.each; longest = fault_rest (behind_frames n bytes) fault is }) in
    let count : length v.payloads ≡ n = ap length one ∙ f.count in
    let front = judged_long c offers bytes v.rest v.payloads v.front n d det v.frames v.judged k count in
    let same : behind_frames n bytes ≡ v.rest = ap (λ (i : ℕ). behind_frames i bytes) (sym count) ∙ last_rest bytes v.payloads v.rest v.frames in
    let last = ends_one v.rest v.behind fault (subst (λ (xs : List ℕ). IsFault xs fault) same is) v.ends in
    let all : length ws ≡ length v.front + length v.behind = ap length v.words_are ∙ length-append v.front v.behind in
    omega (arith, front, last, all)

-- The place of that word in a session.

pub record Placed (c : Codecs) (offers : List Dialect) (es : List Seen) : Type 0 where
  pub whole : AreWhole (words_read es) (stream es)
  pub d : Option Dialect
  pub dialect : DialectAt c offers (stream es) (words_read es) d

later_dialect : (c : Codecs) (offers : List Dialect) (es : List Seen) (n m : ℕ) (d : Dialect) → n ≡ suc m → Spoke c offers (stream es) d → DialectAt c offers (stream es) n (Some d)
later_dialect c offers es zero m d e s = absurd (omega (arith, e))
later_dialect c offers es (suc n) m d e s = (d, refl, s)

read_if : (w : Bool) (n : ℕ) → w ≡ true → (if w then n + 1 else n) ≡ suc n
read_if true n e = omega arith
read_if false n e = cc

read_not : (w : Bool) (n : ℕ) → w ≡ false → (if w then n + 1 else n) ≡ n
read_not true n e = cc
read_not false n e = refl

placed_by : (c : Codecs) (plan : PostPlan) (past es : List Seen) (ss : Session) (behind : Option EndCause) (V : Type 0) (b : Bool) (xs : List Exchange) (taken : ℕ) → is_waiting ss.stage.row ≡ b → waits es ≡ b → length (replies es) ≡ length xs
    → ((d : Dialect) → dialect_of xs ≡ Some d → Spoke c plan.dialects.items (stream es) d) → AreWhole taken (stream es)
    → MatchBool b (Waits c plan past es xs taken ss.stage None V) (Pending c plan past es xs taken ss.stage None behind V) → Placed c plan.dialects.items es
placed_by c plan past es ss behind V true xs taken w u n f whole t =
    let read : words_read es ≡ suc (length (replies es)) = read_if (waits es) (length (replies es)) u in
    let k = t.count in
    let same : taken ≡ words_read es = omega (arith, read, n, k) in
    record {
      whole = subst (λ (i : ℕ). AreWhole i (stream es)) same whole;
      d = Some ss.stage.dialect;
      dialect = later_dialect c plan.dialects.items es (words_read es) (length (replies es)) ss.stage.dialect read (f ss.stage.dialect t.asks.dialect_is);
    }
placed_by c plan past es ss behind V false xs taken w u n f whole t =
    let read : words_read es ≡ length (replies es) = read_not (waits es) (length (replies es)) u in
    let k = t.0 in
    let same : taken ≡ words_read es = omega (arith, read, n, k) in
    record {
      whole = subst (λ (i : ℕ). AreWhole i (stream es)) same whole;
      d = speaks ss.stage;
      dialect = dialect_here c plan.dialects.items es (words_read es) xs ss.stage (read ∙ n) t.1.has t.1.dialect f;
    }

pub placed : (c : Codecs) (plan : PostPlan) (past es : List Seen) (ss : Session) (behind : Option EndCause) (V : Type 0) → session past ≡ Some es → IsSession es ss → Link c plan past es ss.stage ss.unread None behind V → Placed c plan.dialects.items es
placed c plan past es ss behind V here i l =
    placed_by c plan past es ss behind V (is_waiting ss.stage.row) l.xs l.taken refl (sym i.waiting_is) (counted c plan.dialects.items past es l.xs here l.talks)
    (λ d h. spoke c plan.dialects.items past es l.xs d here l.talks h) l.whole l.talk

pub record Following (c : Codecs) (offers : List Dialect) (es : List Seen) : Type 0 where
  pub words : List HeardWord
  pub heard : Words c offers (stream es) words
  pub word : HeardWord
  pub rest : List HeardWord
  pub next : next_words es words ≡ word ∷ rest

pub following : (c : Codecs) (offers : List Dialect) (es : List Seen) → AreDetermined c → JudgesAll c → AreOctets (stream es) → Placed c offers es → (whole_at (behind_frames (words_read es) (stream es)) ≡ Ok None → ⊥) → Following c offers es
following c offers es det j o p h =
    let w = words_of c offers (stream es) j o in
    let long = long_by c offers (stream es) w.0 (words_read es) p.d (whole_at (behind_frames (words_read es) (stream es))) det o p.whole p.dialect w.1 refl h in
    let head = drop_more w.0 (words_read es) (Payload Refused) long in
    record { words = w.0; heard = w.1; word = get_or w.0 (words_read es) (Payload Refused); rest = drop (words_read es + 1) w.0; next = head }
