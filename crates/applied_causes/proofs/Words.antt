-- A word that applies is a cause of its past, and so is a negotiation that matched nothing.
use Rattle.std.proofs.Common.{◌≡◌, ℕ, ◌+◌, Bool, true, false, if◌then◌else◌, List, [], ◌∷◌, length, map, Option, Some, None, is_some, Result, Ok, Err, refl, sym, ap, subst, ◌∙◌, inl, inr}
use Rattle.charge_world.specs.declared.offer.Dialect.{Dialect}
use Rattle.session_words.specs.declared.cause.EndCause.{EndCause}
use Rattle.session_words.specs.declared.cause.EndCause.TheVariants.{BadFrame, Impatient, NoNegotiation}
use Rattle.session_words.specs.declared.code.Code.{Code}
use Rattle.session_words.specs.declared.phase.Phase.TheVariants as row
use Rattle.session_words.specs.declared.plan.PostPlan.{PostPlan}
use Rattle.session_words.specs.declared.word.Ask.{Ask}
use Rattle.session_words.specs.declared.word.Ask.TheVariants as ask
use Rattle.session_words.specs.declared.word.Word.{Word}
use Rattle.session_words.specs.declared.word.Word.TheVariants as word
use Rattle.v2gtp_frames.specs.Frames.{frame}
use Rattle.v2gtp_frames.specs.declared.FrameFault.{FrameFault}
use Rattle.v2gtp_frames.specs.Reading.{whole_at, payload_at, behind_frames}
use Rattle.session_rules.specs.declared.causes.Found.{Found}
use Rattle.session_rules.specs.declared.causes.Found.TheVariants as found
use Rattle.session_rules.specs.Causes.{found_by, word_cause}
use Rattle.session_rules.specs.Verdict.{verdict, is_accepted}
use Rattle.post_spec.specs.Causes.{IsCause, HasNoMatch, IsWord, found_judged, found_word}
use Rattle.post_spec.specs.Codecs.{Judged, Negotiated, Asked, WrongSide, Refused, Codecs, Judges, judged_word}
use Rattle.post_spec.specs.Contactors.{live}
use Rattle.post_spec.specs.Course.{Talked, Course, course, facts_of}
use Rattle.post_spec.specs.Sessions.{session, stream, waits}
use Rattle.post_spec.specs.Steps.{Give, Send, Answer, End, Seen, Reading, Step, Hears, Does, seen_of}
use Rattle.post_spec.specs.Talk.{Exchange, Negotiation, OneMore, InSession, Talks}
use Rattle.post_spec.specs.Words.{HeardWord}
use Rattle.station_spec.specs.States.{Response, Agenda, Todo, first, is_done, nothing}
use Rattle.station_spec.specs.States as states
use Rattle.station_spec.specs.Deciding.{fronting_by}
use Rattle.station_spec.specs.Judging.{speaks}
use Rattle.station_spec.specs.Next.{IsDone}
use Rattle.station_laws.specs.PostRuns.{ArePostsOf}
use Rattle.station_laws.proofs.PostRuns.{run_posts, post_at}
use Rattle.read_runs.specs.Courses.{talked_of}
use Rattle.read_sessions.specs.Sessions.{words_read}
use Rattle.read_agendas.specs.Rows.{front, word_asks}
use Rattle.read_agendas.specs.Left.{Left}
use Rattle.coming_causes_open.proofs.Spoken.{WordAt}
use Rattle.coming_causes_open.proofs.Wording.{connected, none_yet}
use Rattle.served_sessions.proofs.Bytes.{AreHeard, run_heard}
use Rattle.caused_ends.specs.Applying.{unread, unmatched_by, done_cause, Applies, OfCall, OfDeadline, OfHearing, OfFrame, OfPayload, IsWordsTurn, EndsByPayload, IsAtFront}
use Rattle.caused_ends.proofs.Hands.{IsReadAt, IsDoing, doing, hand_word}
use Rattle.applied_causes.specs.Applied.{IsFresh, IsWordCause, ApplyWords, RunsApplyWords}
use Rattle.applied_causes.proofs.Applied.{failed_cause}
use Rattle.applied_causes.proofs.Fronts.{IsKnown, turn_done, IsFront, front_of, any_word, speaking, own_word, same_judged}

-- The cause that a word at the front is.

abbrev word_cause_in : PostPlan → List Step → Talked → Bool → HeardWord → Option EndCause
word_cause_in plan steps t w word = word_cause w (found_word t (map seen_of steps) (course plan steps) plan word)

fault_cause : (w : Bool) → word_cause w found.BadFrame ≡ Some BadFrame
fault_cause true = refl
fault_cause false = refl

-- a payload while a reply waits
either : (P : Found → Type 0) (b : Bool) (x y : Found) → P x → P y → P (if b then x else y)
either P true x y p q = p
either P false x y p q = q

abbrev IsImpatient : Found → Type 0
IsImpatient x = word_cause true x ≡ Some Impatient

asked_impatient : (code : Code) (a : Ask) → IsImpatient (found_by code a)
asked_impatient code (ask.SessionStop pause) = either IsImpatient (is_accepted code) (found.Stopped pause) found.Failed refl refl
asked_impatient code other = either IsImpatient (is_accepted code) found.Accepted found.Failed refl refl

impatient : (plan : PostPlan) (t : Talked) (past : List Seen) (c : Course) (x : Judged) → IsImpatient (found_judged t past c plan x)
impatient plan t past c (Negotiated chosen response) = refl
impatient plan t past c (Asked r) = asked_impatient (verdict t.stage (facts_of past c) plan r) r.ask
impatient plan t past c WrongSide = refl
impatient plan t past c Refused = refl

front_cause : (c : Codecs) (plan : PostPlan) (steps : List Step) (t : Talked) (bytes : List ℕ) (n : ℕ) (d : Option Dialect) (word : HeardWord) (r : Result (Option ℕ) FrameFault) (w on : Bool) (cause : EndCause)
    → whole_at (behind_frames n bytes) ≡ r → WordAt c plan.dialects.items bytes n d word → (fronting_by r w on).ending ≡ Some cause → word_cause_in plan steps t w word ≡ Some cause
front_cause c plan steps t bytes n d word (Err fault) w on cause e (inl x) h =
    ap (word_cause_in plan steps t w) x.word_is ∙ fault_cause w ∙ h
front_cause c plan steps t bytes n d word (Err fault) w on cause e (inr x) h = absurd (let y : Err fault ≡ Ok (Some x.at.count) = sym e ∙ x.at.whole in cc)
front_cause c plan steps t bytes n d word (Ok None) w on cause e at h = cc
front_cause c plan steps t bytes n d word (Ok (Some m)) false on cause e at h = cc
front_cause c plan steps t bytes n d word (Ok (Some m)) true on cause e (inl x) h = absurd (let y : Ok (Some m) ≡ Err x.fault = sym e ∙ x.at in cc)
front_cause c plan steps t bytes n d word (Ok (Some m)) true on cause e (inr x) h =
    ap (word_cause_in plan steps t true) x.word_is ∙ impatient plan t (map seen_of steps) (course plan steps) x.judged ∙ h

some_there : (r : Result (Option ℕ) FrameFault) (w on : Bool) (cause : EndCause) → (fronting_by r w on).ending ≡ Some cause → r ≡ Ok None → ⊥
some_there (Err fault) w on cause h e = cc
some_there (Ok None) w on cause h e = cc
some_there (Ok (Some m)) w on cause h e = cc

-- A frame that is wrong, or that came while a reply waits.

frame_here : (c : Codecs) (plan : PostPlan) (steps : List Step) (cause : EndCause) (es : List Seen) → IsKnown c plan steps → IsFresh c plan steps → IsWordsTurn plan steps → session (map seen_of steps) ≡ Some es
    → (fronting_by (whole_at (unread es)) (waits es) (live (map seen_of steps))).ending ≡ Some cause → IsCause c plan steps cause
frame_here c plan steps cause es k fresh turn here h =
    let f = front_of c plan steps es k (turn_done c plan steps es k fresh turn here) here in
    let at = any_word c plan steps es k f (some_there (whole_at (unread es)) (waits es) (live (map seen_of steps)) cause h) in
    let next = at.1.next in
    IsWord steps (talked_of f.ss) es next.words next.rest next.word cause f.course_is here next.heard next.next
    (front_cause c plan steps (talked_of f.ss) (stream es) (words_read es) at.0 next.word (whole_at (unread es)) (waits es) (live (map seen_of steps)) cause refl at.1.word_at h)

frame_in : (c : Codecs) (plan : PostPlan) (steps : List Step) (cause : EndCause) (lives : Option (List Seen)) → IsKnown c plan steps → IsFresh c plan steps → IsWordsTurn plan steps → session (map seen_of steps) ≡ lives
    → (front lives (live (map seen_of steps))).ending ≡ Some cause → IsCause c plan steps cause
frame_in c plan steps cause None k fresh turn here h = cc
frame_in c plan steps cause (Some es) k fresh turn here h = frame_here c plan steps cause es k fresh turn here h

-- A payload that ends its session.

same_talked : (a b : Talked) → Some a ≡ Some b → a ≡ b
same_talked a b e = cc

payload_here : (c : Codecs) (plan : PostPlan) (steps : List Step) (cause : EndCause) → IsKnown c plan steps → IsFresh c plan steps → IsWordsTurn plan steps → EndsByPayload c plan steps cause → IsCause c plan steps cause
payload_here c plan steps cause k fresh turn p =
    let f = front_of c plan steps p.es k (turn_done c plan steps p.es k fresh turn p.session_is) p.session_is in
    let same : p.t ≡ talked_of f.ss = same_talked p.t (talked_of f.ss) (sym p.course_is ∙ f.course_is) in
    let own : IsAtFront c plan (talked_of f.ss) p.es p.judged = subst (λ (t : Talked). IsAtFront c plan t p.es p.judged) same p.at_front in
    let w = own_word c plan steps p.es k f p.at_front.free (λ e. let y : Ok (Some p.at_front.count) ≡ Ok None = sym p.at_front.whole ∙ e in cc) in
    let next = w.next in
    let word = same_judged c plan (talked_of f.ss) p.es p.judged next.word k.det own w.word_at in
    let free : word_cause_in plan steps p.t false next.word ≡ Some cause = ap (word_cause_in plan steps p.t false) word ∙ p.cause_is in
    IsWord steps p.t p.es next.words next.rest next.word cause p.course_is p.session_is next.heard next.next
    (subst (λ (b : Bool). word_cause_in plan steps p.t b next.word ≡ Some cause) (sym p.at_front.free) free)

-- A negotiation that matched nothing.

never_negotiated : (chosen : Option Dialect) (response : List ℕ) (w : Option Word) → Negotiated chosen response ≡ judged_word w → ⊥
never_negotiated chosen response None e = cc
never_negotiated chosen response (Some (word.Request r)) e = cc
never_negotiated chosen response (Some (word.Reply r)) e = cc
never_negotiated chosen response (Some word.Nothing) e = cc

record IsFirstWord (c : Codecs) (plan : PostPlan) (t : Talked) (bytes : List ℕ) (chosen : Option Dialect) (response : List ℕ) : Type 0 where
  pub speaks_is : speaks t.stage ≡ None
  pub judged : c.Negotiates plan.dialects.items bytes (Negotiated chosen response)

first_word : (c : Codecs) (plan : PostPlan) (t : Talked) (bytes : List ℕ) (chosen : Option Dialect) (response : List ℕ) (d : Option Dialect) → speaks t.stage ≡ d → Judges c plan.dialects.items d bytes (Negotiated chosen response) → IsFirstWord c plan t bytes chosen response
first_word c plan t bytes chosen response None e j = record { speaks_is = e; judged = j }
first_word c plan t bytes chosen response (Some d) e j = absurd (never_negotiated chosen response j.0 j.2)

row_connected : (c : Codecs) (plan : PostPlan) (steps : List Step) (es : List Seen) (f : IsFront c plan steps es) → speaks f.ss.stage ≡ None → f.ss.stage.row ≡ row.Connected
row_connected c plan steps es f none = elim (connected f.ss.stage.row f.ss.stage.dialect) [
  | inl here ↦ here
  | inr spoken ↦ absurd (let y : None ≡ Some f.ss.stage.dialect = sym none ∙ spoken in cc)
]

-- the exchange that its response makes
no_match : (c : Codecs) (plan : PostPlan) (steps : List Step) (q : Reading) (bytes response : List ℕ) → IsKnown c plan steps → IsReadAt c plan steps q → q.judged ≡ Negotiated None response → bytes ≡ frame response
    → Talks c plan.dialects.items (map seen_of (Does (Some q) (Send bytes) true ∷ steps)) (Negotiation None ∷ [])
no_match c plan steps q bytes response k i judged_is bytes_are =
    let past = map seen_of steps in
    let offers = plan.dialects.items in
    let f = front_of c plan steps i.es k i.left_done i.session_is in
    let same : i.t ≡ talked_of f.ss = same_talked i.t (talked_of f.ss) (sym i.course_is ∙ f.course_is) in
    let payload : List ℕ = payload_at i.at_front.count (unread i.es) in
    let judged = subst (λ (x : Judged). Judges c plan.dialects.items (speaks i.t.stage) (payload_at i.at_front.count (unread i.es)) x) judged_is i.at_front.is in
    let first = first_word c plan i.t (payload_at i.at_front.count (unread i.es)) None response (speaks i.t.stage) refl judged in
    let s = speaking c plan steps i.es f i.at_front.free in
    let silent : speaks f.ss.stage ≡ None = ap (λ (t : Talked). speaks t.stage) (sym same) ∙ first.speaks_is in
    let none : s.xs ≡ [] = none_yet f.ss.stage.row s.xs (row_connected c plan steps i.es f silent) s.rowed.has in
    let read : words_read i.es ≡ 0 = s.read_is ∙ ap length none in
    subst (λ (lives : Option (List Seen)). InSession lives (λ es. OneMore c plan.dialects.items es (map seen_of steps) bytes (Talks c plan.dialects.items (map seen_of steps)) (Negotiation None ∷ [])) (Negotiation None ∷ [] ≡ [])) (sym i.session_is)
    (record {
      newest = Negotiation None;
      earlier = [];
      xs_are = refl;
      is = record {
        payload = payload_at i.at_front.count (unread i.es);
        response = response;
        first = record {
          count = i.at_front.count;
          whole = ap (λ (n : ℕ). whole_at (behind_frames n (stream i.es))) (sym read) ∙ i.at_front.whole;
          payload_is = ap (λ (n : ℕ). payload_at i.at_front.count (behind_frames n (stream i.es))) read;
        };
        judged = first.judged;
        bytes_are = bytes_are;
      };
      before = subst (λ (xs : List Exchange). Talks c plan.dialects.items (map seen_of steps) xs) none s.talks;
    })

-- what is said is that response
said : (c : Codecs) (todo : Todo) (bytes response : List ℕ) → todo ≡ states.Say (Response response) → IsDone c todo (Send bytes) true → bytes ≡ frame response
said c todo bytes response is done =
    let d = subst (λ (x : Todo). IsDone c x (Send bytes) true) is done in
    let e : Send bytes ≡ Send d.0 = d.2 in
    let same : bytes ≡ d.0 = cc in
    same ∙ d.1

response_said : (c : Codecs) (plan : PostPlan) (steps : List Step) (q : Reading) (bytes response : List ℕ) → IsDoing c plan steps (Some q) (Send bytes) true → q.judged ≡ Negotiated None response → bytes ≡ frame response
response_said c plan steps q bytes response d judged_is =
    let agenda = ap (λ (l : Left). l.agenda) (hand_word c plan steps q d.read)
    ∙ ap (λ (x : Judged). word_asks plan d.read.t (map seen_of steps) (course plan steps) x q.shown) judged_is in
    let e : Some d.todo ≡ Some (states.Say (Response response)) = sym d.first_is ∙ ap first agenda in
    let is : d.todo ≡ states.Say (Response response) = cc in
    said c d.todo bytes response is d.done

unmatched_here : (c : Codecs) (plan : PostPlan) (steps : List Step) (q : Reading) (bytes : List ℕ) (cause : EndCause) (x : Judged) → IsKnown c plan (Does (Some q) (Send bytes) true ∷ steps) → q.judged ≡ x → unmatched_by x ≡ Some cause
    → IsCause c plan (Does (Some q) (Send bytes) true ∷ steps) cause
unmatched_here c plan steps q bytes cause (Negotiated None response) k judged_is h =
    let d = doing c plan (Some q) (Send bytes) true steps k.run in
    let before : IsKnown c plan steps = record { back = k.back; det = k.det; judges = k.judges; run = k.run.0; heard = k.heard } in
    let e : NoNegotiation ≡ cause = cc in
    subst (IsCause c plan (Does (Some q) (Send bytes) true ∷ steps)) e
    (HasNoMatch (Some q) bytes steps (no_match c plan steps q bytes response before d.read judged_is (response_said c plan steps q bytes response d judged_is)))
unmatched_here c plan steps q bytes cause (Negotiated (Some dialect) response) k judged_is h = cc
unmatched_here c plan steps q bytes cause (Asked r) k judged_is h = cc
unmatched_here c plan steps q bytes cause WrongSide k judged_is h = cc
unmatched_here c plan steps q bytes cause Refused k judged_is h = cc

call_here : (c : Codecs) (plan : PostPlan) (steps : List Step) (cause : EndCause) → IsKnown c plan steps → is_some (session (map seen_of steps)) ≡ true → done_cause steps ≡ Some cause → IsCause c plan steps cause
call_here c plan [] cause k l d = cc
call_here c plan (Hears at e ∷ steps) cause k l d = cc
call_here c plan (Does r (Give o) true ∷ steps) cause k l d = cc
call_here c plan (Does r (Give o) false ∷ steps) cause k l d = failed_cause c plan (Does r (Give o) false ∷ steps) cause l refl d
call_here c plan (Does None (Send bytes) true ∷ steps) cause k l d = cc
call_here c plan (Does (Some q) (Send bytes) true ∷ steps) cause k l d = unmatched_here c plan steps q bytes cause q.judged k refl d
call_here c plan (Does r (Send bytes) false ∷ steps) cause k l d = failed_cause c plan (Does r (Send bytes) false ∷ steps) cause l refl d
call_here c plan (Does r (Answer bytes) taken ∷ steps) cause k l d = cc
call_here c plan (Does r (End n) taken ∷ steps) cause k l d = cc

-- In every run.

applied : (c : Codecs) (plan : PostPlan) (steps : List Step) (cause : EndCause) → IsKnown c plan steps → (a : Applies c plan steps cause) → IsWordCause c plan steps cause a
applied c plan steps cause k (OfCall l e) = call_here c plan steps cause k l e
applied c plan steps cause k (OfDeadline j e) = tt
applied c plan steps cause k (OfHearing j d e) = tt
applied c plan steps cause k (OfFrame turn e) = λ fresh. frame_in c plan steps cause (session (map seen_of steps)) k fresh turn refl e
applied c plan steps cause k (OfPayload turn p) = λ fresh. payload_here c plan steps cause k fresh turn p

apply_words : (c : Codecs) (plan : PostPlan) (steps : List Step) → IsKnown c plan steps → ApplyWords c plan steps
apply_words c plan [] k = tt
apply_words c plan (Hears at e ∷ steps) k =
    let before : IsKnown c plan steps = record { back = k.back; det = k.det; judges = k.judges; run = k.run.0; heard = k.heard.0 } in
    (apply_words c plan steps before, λ cause. applied c plan (Hears at e ∷ steps) cause k)
apply_words c plan (Does r a taken ∷ steps) k =
    let before : IsKnown c plan steps = record { back = k.back; det = k.det; judges = k.judges; run = k.run.0; heard = k.heard } in
    (apply_words c plan steps before, λ cause. applied c plan (Does r a taken ∷ steps) cause k)

pub runs_apply_words : (c : Codecs) → RunsApplyWords c
runs_apply_words c site past posts before post behind back det judges run is =
    let p = post_at c past (length before + 1) 1 before post behind refl (subst (ArePostsOf c past 1) is (run_posts c site past posts run)) in
    apply_words c post.plan post.steps (record { back = back; det = det; judges = judges; run = p.run; heard = subst AreHeard p.seen_is (run_heard c site past posts (length before + 1) run) })
