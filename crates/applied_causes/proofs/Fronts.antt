-- Where a word's turn comes, and its session has no cause yet: the next word of the stream stands at the front of what is unread.
use Rattle.std.proofs.Common.{◌≡◌, ℕ, ◌+◌, Bool, true, false, if◌then◌else◌, List, length, map, Option, Some, None, Ok, Err, MatchBool, refl, sym, ap, subst, ◌∙◌, inl, inr}
use Rattle.charge_world.specs.declared.offer.Dialect.{Dialect}
use Rattle.session_words.specs.declared.cause.EndCause.{EndCause}
use Rattle.session_words.specs.declared.plan.PostPlan.{PostPlan}
use Rattle.v2gtp_frames.specs.Reading.{whole_at, payload_at}
use Rattle.session_rules.specs.Stages.{is_waiting}
use Rattle.post_spec.specs.Codecs.{Codecs, Judged, Judges}
use Rattle.post_spec.specs.Course.{Talked, course}
use Rattle.post_spec.specs.Sessions.{session, stream, replies, waits}
use Rattle.post_spec.specs.Spelled.{ReadsBack, AreDetermined, JudgesAll}
use Rattle.post_spec.specs.Steps.{Seen, Step, seen_of}
use Rattle.post_spec.specs.Talk.{Exchange, Talks}
use Rattle.post_spec.specs.Words.{HeardWord, Payload}
use Rattle.station_spec.specs.States.{Session, Spoken, is_done}
use Rattle.station_spec.specs.Judging.{speaks}
use Rattle.station_spec.specs.Acting.{state}
use Rattle.station_laws.specs.PostRuns.{IsPostRun}
use Rattle.read_runs.specs.Courses.{talked_of, talked_in}
use Rattle.read_runs.proofs.Agendas.{done_empty}
use Rattle.read_runs.proofs.Counting.{counted}
use Rattle.read_runs.proofs.Courses.{courses_are_read}
use Rattle.read_sessions.specs.Sessions.{words_read, IsSession, IsSessionOf}
use Rattle.read_sessions.proofs.Streams.{done_session}
use Rattle.read_agendas.specs.Left.{Left, left}
use Rattle.read_agendas.proofs.Leaving.{steps_left}
use Rattle.safe_runs.proofs.Links.{Premise, Rowed, Pending, Waits, Link, Tie}
use Rattle.safe_runs.proofs.Safety.{run_linked}
use Rattle.coming_causes_open.proofs.Spoken.{spoke, WordAt, word_at}
use Rattle.served_sessions.proofs.Bytes.{AreHeard, stream_octets}
use Rattle.next_words.proofs.Order.{dialect_here}
use Rattle.opens_have_reasons.proofs.Judging.{Placed, placed, Following, following}
use Rattle.caused_ends.specs.Applying.{unread, IsWordsTurn, IsAtFront}
use Rattle.caused_ends.specs.Ending.{HasCome}
use Rattle.caused_ends.proofs.Causing.{turn_call, no_turn, one_judged, kept}
use Rattle.caused_ends.proofs.Resting.{Rest, Dead, Hearing, Repeated, Idle, Owes, Ends}

-- what is known of the codecs and of the steps of a post
pub record IsKnown (c : Codecs) (plan : PostPlan) (steps : List Step) : Type 0 where
  pub back : ReadsBack c
  pub det : AreDetermined c
  pub judges : JudgesAll c
  pub run : IsPostRun c plan steps
  pub heard : AreHeard (map seen_of steps)

-- Nothing is left to do.

none_lives : (lives : Option (List Seen)) (es : List Seen) → lives ≡ None → lives ≡ Some es → ⊥
none_lives None es n l = cc
none_lives (Some zs) es n l = cc

rest_done : (c : Codecs) (plan : PostPlan) (steps : List Step) (es : List Seen) → Rest c plan steps → ((earlier : EndCause) → HasCome c plan steps earlier → ⊥) → IsWordsTurn plan steps → session (map seen_of steps) ≡ Some es
    → is_done (left plan steps).agenda ≡ true
rest_done c plan steps es (Dead p y l e) none turn here = absurd (none_lives (session (map seen_of steps)) es l here)
rest_done c plan steps es (Hearing e d o j w) none turn here = ap (λ (x : Left). is_done x.agenda) e
rest_done c plan steps es (Repeated e d o j) none turn here = ap (λ (x : Left). is_done x.agenda) e
rest_done c plan steps es (Idle e d o j) none turn here = ap (λ (x : Left). is_done x.agenda) e
rest_done c plan steps es (Owes x e d o j) none turn here = absurd (no_turn plan steps j o turn)
rest_done c plan steps es (Ends k e b y v (inl h)) none turn here = absurd (none k h)
rest_done c plan steps es (Ends k e b y v (inr h)) none turn here = absurd (turn_call plan steps k h.0 turn)

pub turn_done : (c : Codecs) (plan : PostPlan) (steps : List Step) (es : List Seen) → IsKnown c plan steps → ((earlier : EndCause) → HasCome c plan steps earlier → ⊥) → IsWordsTurn plan steps → session (map seen_of steps) ≡ Some es
    → is_done (left plan steps).agenda ≡ true
turn_done c plan steps es k none turn here = rest_done c plan steps es (kept c plan steps k.det k.run).rest none turn here

-- The session there.

abbrev Valid : PostPlan → List Step → Type 0
Valid plan steps = Premise (state plan steps).part (state plan steps).event

pub record IsFront (c : Codecs) (plan : PostPlan) (steps : List Step) (es : List Seen) : Type 0 where
  pub ss : Session
  pub session_is : session (map seen_of steps) ≡ Some es
  pub course_is : (course plan steps).session ≡ Some (talked_of ss)
  pub own : IsSession es ss
  pub link : Link c plan (map seen_of steps) es ss.stage ss.unread None (state plan steps).agenda.behind_reply (Valid plan steps)

linked : (c : Codecs) (plan : PostPlan) (past es : List Seen) (ss : Session) (ending : Option EndCause) (reply : Option Spoken) (behind : Option EndCause) (V : Type 0) (lives : Option (List Seen)) → ending ≡ None → reply ≡ None → lives ≡ Some es
    → Tie c plan past ending lives (Some ss) reply behind V → Link c plan past es ss.stage ss.unread None behind V
linked c plan past es ss (Some k) reply behind V lives e r l t = cc
linked c plan past es ss None (Some x) behind V lives e r l t = cc
linked c plan past es ss None None behind V None e r l t = absurd t
linked c plan past es ss None None behind V (Some zs) e r l t =
    let same : zs ≡ es = cc in
    subst (λ (us : List Seen). Link c plan past us ss.stage ss.unread None behind V) same t

-- the session that the post keeps
record IsKeptHere (es : List Seen) (keeps : Option Session) : Type 0 where
  pub ss : Session
  pub keeps_is : keeps ≡ Some ss
  pub own : IsSession es ss

kept_here : (es : List Seen) (lives : Option (List Seen)) (keeps : Option Session) → lives ≡ Some es → IsSessionOf lives keeps → IsKeptHere es keeps
kept_here es None keeps l i = cc
kept_here es (Some zs) None l i = absurd i
kept_here es (Some zs) (Some ss) l i = let same : zs ≡ es = cc in record { ss = ss; keeps_is = refl; own = subst (λ (us : List Seen). IsSession us ss) same i }

pub front_of : (c : Codecs) (plan : PostPlan) (steps : List Step) (es : List Seen) → IsKnown c plan steps → is_done (left plan steps).agenda ≡ true → session (map seen_of steps) ≡ Some es → IsFront c plan steps es
front_of c plan steps es k d here =
    let s = state plan steps in
    let done : is_done (state plan steps).agenda ≡ true = ap (λ (x : Left). is_done x.agenda) (steps_left c plan steps k.run) ∙ d in
    let none = done_empty (state plan steps).agenda done in
    let own = kept_here es (session (map seen_of steps)) (state plan steps).session here (done_session c plan steps k.run done) in
    let tie = subst (λ (x : Option Session). Tie c plan (map seen_of steps) (state plan steps).agenda.ending (session (map seen_of steps)) x (state plan steps).agenda.reply (state plan steps).agenda.behind_reply (Valid plan steps)) own.keeps_is
    (run_linked c plan steps k.back k.run).tie in
    record {
      ss = own.ss;
      session_is = here;
      course_is = sym (courses_are_read c plan steps k.run).session_is ∙ ap talked_in own.keeps_is;
      own = own.own;
      link = linked c plan (map seen_of steps) es own.ss (state plan steps).agenda.ending (state plan steps).agenda.reply (state plan steps).agenda.behind_reply (Valid plan steps) (session (map seen_of steps)) none.ending none.reply here tie;
    }

-- The word at its front, however the payloads behind it are judged.

pub record IsWordAt (c : Codecs) (plan : PostPlan) (es : List Seen) (d : Option Dialect) : Type 0 where
  pub next : Following c plan.dialects.items es
  pub word_at : WordAt c plan.dialects.items (stream es) (words_read es) d next.word

follows : (c : Codecs) (plan : PostPlan) (steps : List Step) (es : List Seen) → IsKnown c plan steps → IsFront c plan steps es → (whole_at (unread es) ≡ Ok None → ⊥) → (p : Placed c plan.dialects.items es) → IsWordAt c plan es p.d
follows c plan steps es k f whole p =
    let next = following c plan.dialects.items es k.det k.judges (stream_octets (map seen_of steps) es k.heard f.session_is) p whole in
    record { next = next; word_at = word_at c plan.dialects.items (stream es) next.words next.rest (words_read es) p.d next.word k.det next.heard p.dialect next.next }

pub any_word : (c : Codecs) (plan : PostPlan) (steps : List Step) (es : List Seen) → IsKnown c plan steps → IsFront c plan steps es → (whole_at (unread es) ≡ Ok None → ⊥) → (d : Option Dialect) × IsWordAt c plan es d
any_word c plan steps es k f whole =
    let p = placed c plan (map seen_of steps) es f.ss (state plan steps).agenda.behind_reply (Valid plan steps) f.session_is f.own f.link in
    (p.d, follows c plan steps es k f whole p)

-- where no reply waits, it is in the dialect of the session
still_talk : (c : Codecs) (plan : PostPlan) (past es : List Seen) (ss : Session) (behind : Option EndCause) (V : Type 0) (xs : List Exchange) (taken : ℕ) (b : Bool) → b ≡ false
    → MatchBool b (Waits c plan past es xs taken ss.stage None V) (Pending c plan past es xs taken ss.stage None behind V) → (taken ≡ length xs) × Rowed plan past ss.stage xs V
still_talk c plan past es ss behind V xs taken true e t = cc
still_talk c plan past es ss behind V xs taken false e t = t

read_not : (w : Bool) (n : ℕ) → w ≡ false → (if w then n + 1 else n) ≡ n
read_not true n e = cc
read_not false n e = refl

-- the exchanges before it
pub record IsSpeaking (c : Codecs) (plan : PostPlan) (steps : List Step) (es : List Seen) (ss : Session) : Type 0 where
  pub xs : List Exchange
  pub talks : Talks c plan.dialects.items (map seen_of steps) xs
  pub read_is : words_read es ≡ length xs
  pub rowed : Rowed plan (map seen_of steps) ss.stage xs (Valid plan steps)

pub speaking : (c : Codecs) (plan : PostPlan) (steps : List Step) (es : List Seen) (f : IsFront c plan steps es) → waits es ≡ false → IsSpeaking c plan steps es f.ss
speaking c plan steps es f w =
    let l = f.link in
    let t = still_talk c plan (map seen_of steps) es f.ss (state plan steps).agenda.behind_reply (Valid plan steps) l.xs l.taken (is_waiting f.ss.stage.row) (f.own.waiting_is ∙ w) l.talk in
    record {
      xs = l.xs;
      talks = l.talks;
      read_is = read_not (waits es) (length (replies es)) w ∙ counted c plan.dialects.items (map seen_of steps) es l.xs f.session_is l.talks;
      rowed = t.1;
    }

pub own_word : (c : Codecs) (plan : PostPlan) (steps : List Step) (es : List Seen) → IsKnown c plan steps → (f : IsFront c plan steps es) → waits es ≡ false → (whole_at (unread es) ≡ Ok None → ⊥) → IsWordAt c plan es (speaks f.ss.stage)
own_word c plan steps es k f w whole =
    let s = speaking c plan steps es f w in
    let d = dialect_here c plan.dialects.items es (words_read es) s.xs f.ss.stage s.read_is s.rowed.has s.rowed.dialect
    (λ e h. spoke c plan.dialects.items (map seen_of steps) es s.xs e f.session_is s.talks h) in
    let next = (any_word c plan steps es k f whole).1.next in
    record { next = next; word_at = word_at c plan.dialects.items (stream es) next.words next.rest (words_read es) (speaks f.ss.stage) next.word k.det next.heard d next.next }

-- a payload there is judged alike
pub same_judged : (c : Codecs) (plan : PostPlan) (t : Talked) (es : List Seen) (judged : Judged) (word : HeardWord) → AreDetermined c → IsAtFront c plan t es judged → WordAt c plan.dialects.items (stream es) (words_read es) (speaks t.stage) word → word ≡ Payload judged
same_judged c plan t es judged word det f (inl x) = absurd (let y : Ok (Some f.count) ≡ Err x.fault = sym f.whole ∙ x.at in cc)
same_judged c plan t es judged word det f (inr x) =
    let size : Ok (Some f.count) ≡ Ok (Some x.at.count) = sym f.whole ∙ x.at.whole in
    let count : f.count ≡ x.at.count = cc in
    let same : payload_at f.count (unread es) ≡ x.payload = ap (λ (n : ℕ). payload_at n (unread es)) count ∙ sym x.at.payload_is in
    let here = subst (λ (bytes : List ℕ). Judges c plan.dialects.items (speaks t.stage) bytes judged) same f.is in
    x.word_is ∙ ap Payload (one_judged c plan.dialects.items (speaks t.stage) x.payload x.judged judged det x.by here)
