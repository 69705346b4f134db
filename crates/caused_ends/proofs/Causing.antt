-- Each end has its cause, and each cause ends its session.
use Rattle.std.proofs.Common.{◌≡◌, ℕ, ◌+◌, Bool, true, false, not, ◌&&◌, if◌then◌else◌, List, [], ◌∷◌, length, map, Option, Some, None, is_some, Ok, refl, sym, ap, subst, ◌∙◌, inl, inr, ◌⊎◌}
use Rattle.charge_world.specs.declared.offer.Dialect.{Dialect}
use Rattle.charge_world.specs.declared.ports.Order.{Order}
use Rattle.charge_world.specs.declared.ports.Order.TheVariants as order
use Rattle.session_words.specs.declared.cause.EndCause.{EndCause}
use Rattle.session_words.specs.declared.cause.EndCause.TheVariants.{SendFailed, OrderFailed, NoNegotiation}
use Rattle.session_words.specs.declared.plan.PostPlan.{PostPlan}
use Rattle.session_words.specs.Causes.{number_of}
use Rattle.v2gtp_frames.specs.Reading.{whole_at, payload_at}
use Rattle.session_rules.specs.Causes.{word_cause}
use Rattle.session_rules.specs.Lines.{first_line}
use Rattle.session_rules.specs.Stages.{is_waiting}
use Rattle.post_spec.specs.Causes.{found_judged}
use Rattle.post_spec.specs.Codecs.{Judged, Codecs, Judges, judged_word}
use Rattle.post_spec.specs.Contactors.{live}
use Rattle.post_spec.specs.Course.{Talked, course}
use Rattle.post_spec.specs.Sessions.{session, with_seen, waits}
use Rattle.post_spec.specs.Spelled.{AreDetermined}
use Rattle.post_spec.specs.Steps.{Act, Give, Send, Answer, End, Seen, Did, Reading, Step, Hears, Does, seen_of}
use Rattle.station_spec.specs.States.{Agenda, Part, Repeating, Timing, Eventing, Wording, Session, State, Spoken, Todo, nothing, is_done, first, first_of}
use Rattle.station_spec.specs.States as states
use Rattle.station_spec.specs.Deciding.{opening_if, ending_by, decided}
use Rattle.station_spec.specs.Judging.{Payload as Wanted, speaks, wanted}
use Rattle.station_spec.specs.Acting.{state}
use Rattle.station_spec.specs.Next.{IsDone, IsQuiet}
use Rattle.station_laws.specs.PostRuns.{IsPostRun, ArePostsOf}
use Rattle.station_laws.proofs.Decided.{same_session}
use Rattle.station_laws.proofs.PostRuns.{run_posts, post_at}
use Rattle.read_runs.specs.Courses.{talked_in}
use Rattle.read_runs.specs.Facts.{newest_event}
use Rattle.read_runs.proofs.Agendas.{none_done}
use Rattle.read_runs.proofs.Courses.{courses_are_read}
use Rattle.read_runs.proofs.Facts.{facts_are_read}
use Rattle.read_sessions.specs.Sessions.{IsSessionOf}
use Rattle.read_sessions.proofs.Streams.{done_session}
use Rattle.read_agendas.specs.Rows.{again, front}
use Rattle.read_agendas.specs.Left.{Left, row, failed, replied, less, left}
use Rattle.read_agendas.proofs.Leaving.{steps_left}
use Rattle.caused_ends.specs.Applying.{unread, unmatched_in, call_cause, done_cause, is_repeat, is_owed, judges_heard, reads_on, lateness, telling, AsksNothing, IsWordsTurn, IsAtFront, EndsByPayload, Applies, OfCall, OfDeadline, OfHearing, OfFrame, OfPayload}
use Rattle.caused_ends.specs.Ending.{HasCome, FirstCause, IsCaused, HasNoCause, EndByCauses, RunsEndByCauses}
use Rattle.caused_ends.specs.Opening.{AppliesLive, OpenAtFirstCauses, RunsOpenFirst, IsReasoned, AreReasoned, RunsOpenForReasons}
use Rattle.caused_ends.proofs.Rows.{first_open, ending_undone, finish_is, absurd_bool, dead_late, dead_told, dead_front, row_taken, row_passed, call_reads, call_judges, repeat_send, repeat_answer}
use Rattle.caused_ends.proofs.Hands.{hand, fronting, IsReadAt, IsReadFor, IsDoing, decided_left, rows_left_done, doing, hand_left, hand_rows, hand_word, unread_hand, read_hand, word_ending}
use Rattle.caused_ends.proofs.Resting.{OpensIf, IsPast, Rest, Dead, Hearing, Repeated, Idle, Owes, Ends, IsKept, Follows, Hand, Opens, Tells, Says, Unmatched, Gives, Finishes, kept_hand}

none_some : {k : EndCause} → None ≡ Some k → ⊥
none_some h = cc

same_cause : (o : Option EndCause) (j k : EndCause) → o ≡ Some j → o ≡ Some k → j ≡ k
same_cause o j k e f = let x : Some j ≡ Some k = sym e ∙ f in cc

one_cause : (o : Option EndCause) (j k : EndCause) → o ≡ Some j → o ≡ Some k → Some j ≡ Some k
one_cause o j k e f = sym e ∙ f

-- What the first cause asks for: the end of the session, or that the payload be read that ends it.
abbrev Due : Codecs → PostPlan → List Step → EndCause → Type 0
Due c plan steps k = ((hand plan steps None).agenda.ending ≡ Some k) ⊎ ((is_done (hand plan steps None).agenda ≡ true) × EndsByPayload c plan steps k)

pub turn_call : (plan : PostPlan) (steps : List Step) (k : EndCause) → done_cause steps ≡ Some k → IsWordsTurn plan steps → ⊥
turn_call plan steps k d (inl u) = call_judges steps k d u.judged
turn_call plan steps k d (inr on) = call_reads steps k d on

call_applies : (c : Codecs) (plan : PostPlan) (steps : List Step) (j k : EndCause) → done_cause steps ≡ Some j → Applies c plan steps k → Some j ≡ Some k
call_applies c plan steps j k d (OfCall l e) = one_cause (done_cause steps) j k d e
call_applies c plan steps j k d (OfDeadline h e) = absurd (call_judges steps j d h)
call_applies c plan steps j k d (OfHearing h n e) = absurd (call_judges steps j d h)
call_applies c plan steps j k d (OfFrame turn e) = absurd (turn_call plan steps j d turn)
call_applies c plan steps j k d (OfPayload turn p) = absurd (turn_call plan steps j d turn)

-- no place where anything is judged
abbrev IsNoPlace : PostPlan → List Step → Type 0
IsNoPlace plan steps = (done_cause steps ≡ None) × (judges_heard steps ≡ false) × (reads_on steps ≡ false)

pub no_turn : (plan : PostPlan) (steps : List Step) → judges_heard steps ≡ false → reads_on steps ≡ false → IsWordsTurn plan steps → ⊥
no_turn plan steps j o (inl u) = absurd_bool (judges_heard steps) u.judged j
no_turn plan steps j o (inr on) = absurd_bool (reads_on steps) on o

no_place : (c : Codecs) (plan : PostPlan) (steps : List Step) (k : EndCause) → IsNoPlace plan steps → Applies c plan steps k → ⊥
no_place c plan steps k n (OfCall l e) = none_some (sym n.0 ∙ e)
no_place c plan steps k n (OfDeadline h e) = absurd_bool (judges_heard steps) h n.1
no_place c plan steps k n (OfHearing h d e) = absurd_bool (judges_heard steps) h n.1
no_place c plan steps k n (OfFrame turn e) = no_turn plan steps n.1 n.2 turn
no_place c plan steps k n (OfPayload turn p) = no_turn plan steps n.1 n.2 turn

dead_payload : (o : Option (List Seen)) (es : List Seen) → o ≡ None → o ≡ Some es → ⊥
dead_payload None es h k = cc
dead_payload (Some x) es h k = cc

dead_live : (o : Option (List Seen)) → o ≡ None → is_some o ≡ true → ⊥
dead_live None l h = cc
dead_live (Some x) l h = cc

dead_applies : (c : Codecs) (plan : PostPlan) (steps : List Step) (k : EndCause) → session (map seen_of steps) ≡ None → (course plan steps).session ≡ None → Applies c plan steps k → ⊥
dead_applies c plan steps k l s (OfCall h e) = dead_live (session (map seen_of steps)) l h
dead_applies c plan steps k l s (OfDeadline h e) = dead_late (course plan steps).session (session (map seen_of steps)) _ (live (map seen_of steps)) k l e
dead_applies c plan steps k l s (OfHearing h d e) = dead_told plan (map seen_of steps) (course plan steps) (newest_event (map seen_of steps)) k s e
dead_applies c plan steps k l s (OfFrame turn e) = dead_front (session (map seen_of steps)) (live (map seen_of steps)) k l e
dead_applies c plan steps k l s (OfPayload turn p) = dead_payload (session (map seen_of steps)) p.es l p.session_is

-- Where what was heard is judged.

front_silent : (o : Option (List Seen)) (es : List Seen) (on : Bool) (n : ℕ) → o ≡ Some es → waits es ≡ false → whole_at (unread es) ≡ Ok (Some n) → is_done (front o on) ≡ true
front_silent None es on n h w f = cc
front_silent (Some zs) es on n h w f =
    let z : es ≡ zs = cc in
    rw (sym (ap (λ (x : List Seen). whole_at (unread x)) z) ∙ f, sym (ap waits z) ∙ w) refl

payload_silent : (c : Codecs) (plan : PostPlan) (steps : List Step) (k : EndCause) → EndsByPayload c plan steps k → is_done (fronting steps) ≡ true
payload_silent c plan steps k p = front_silent (session (map seen_of steps)) p.es (live (map seen_of steps)) p.at_front.count p.session_is p.at_front.free p.at_front.whole

abbrev fronts : List Step → Part → Left
fronts steps p = first_line (row (fronting steps) Wording ∷ []) (record { part = p; agenda = nothing })

abbrev tells : PostPlan → List Step → Part → Left
tells plan steps p = first_line (row (telling plan steps) Wording ∷ row (fronting steps) Wording ∷ []) (record { part = p; agenda = nothing })

abbrev lates : PostPlan → List Step → Part → Left
lates plan steps p = first_line (row (lateness plan steps) Eventing ∷ row (telling plan steps) Wording ∷ row (fronting steps) Wording ∷ []) (record { part = p; agenda = nothing })

frame_due : (steps : List Step) (p : Part) (k : EndCause) → (fronting steps).ending ≡ Some k → (fronts steps p).agenda.ending ≡ Some k
frame_due steps p k e = ap (λ (l : Left). l.agenda.ending) (row_taken (fronting steps) Wording [] (record { part = p; agenda = nothing }) (ending_undone (fronting steps) k e)) ∙ e

front_done : (steps : List Step) (p : Part) → is_done (fronting steps) ≡ true → is_done (fronts steps p).agenda ≡ true
front_done steps p d = ap (λ (l : Left). is_done l.agenda) (row_passed (fronting steps) Wording [] (record { part = p; agenda = nothing }) d)

unheard_rows : (plan : PostPlan) (steps : List Step) (p : Part) → AsksNothing plan steps → lates plan steps p ≡ fronts steps p
unheard_rows plan steps p u =
    row_passed (lateness plan steps) Eventing (row (telling plan steps) Wording ∷ row (fronting steps) Wording ∷ []) (record { part = p; agenda = nothing }) u.in_time
    ∙ row_passed (telling plan steps) Wording (row (fronting steps) Wording ∷ []) (record { part = p; agenda = nothing }) u.asks_nothing

turn_rows : (plan : PostPlan) (steps : List Step) (p : Part) → reads_on steps ≡ false → IsWordsTurn plan steps → lates plan steps p ≡ fronts steps p
turn_rows plan steps p o (inl u) = unheard_rows plan steps p u
turn_rows plan steps p o (inr on) = absurd_bool (reads_on steps) on o

heard_due : (c : Codecs) (plan : PostPlan) (steps : List Step) (p : Part) (k : EndCause) → hand plan steps None ≡ lates plan steps p → done_cause steps ≡ None → reads_on steps ≡ false → Applies c plan steps k → Due c plan steps k
heard_due c plan steps p k h d o (OfCall l e) = absurd (none_some (sym d ∙ e))
heard_due c plan steps p k h d o (OfDeadline j e) =
    inl (ap (λ (l : Left). l.agenda.ending) (h ∙ row_taken (lateness plan steps) Eventing (row (telling plan steps) Wording ∷ row (fronting steps) Wording ∷ []) (record { part = p; agenda = nothing }) (ending_undone (lateness plan steps) k e)) ∙ e)
heard_due c plan steps p k h d o (OfHearing j n e) =
    inl (ap (λ (l : Left). l.agenda.ending)
    (h
    ∙ row_passed (lateness plan steps) Eventing (row (telling plan steps) Wording ∷ row (fronting steps) Wording ∷ []) (record { part = p; agenda = nothing }) n
    ∙ row_taken (telling plan steps) Wording (row (fronting steps) Wording ∷ []) (record { part = p; agenda = nothing }) (ending_undone (telling plan steps) k e))
    ∙ e)
heard_due c plan steps p k h d o (OfFrame turn e) = inl (ap (λ (l : Left). l.agenda.ending) (h ∙ turn_rows plan steps p o turn) ∙ frame_due steps p k e)
heard_due c plan steps p k h d o (OfPayload turn q) =
    inr (ap (λ (l : Left). is_done l.agenda) (h ∙ turn_rows plan steps p o turn) ∙ front_done steps p (payload_silent c plan steps k q), q)

owing_place : (o d : Bool) → o ≡ not d → d ≡ false → not o ≡ false
owing_place o d e f = ap not e ∙ ap (λ (b : Bool). not (not b)) f

hearing_due : (c : Codecs) (plan : PostPlan) (steps : List Step) (k : EndCause) (b : Bool) → is_done (again (map seen_of steps)) ≡ b → left plan steps ≡ record { part = Repeating; agenda = nothing } → done_cause steps ≡ None → reads_on steps ≡ false
    → judges_heard steps ≡ not (is_owed steps) → is_owed steps ≡ not (is_done (again (map seen_of steps))) → Applies c plan steps k → Due c plan steps k
hearing_due c plan steps k true a e d o j w x =
    heard_due c plan steps Repeating k
    (hand_rows plan steps Repeating nothing e refl
    ∙ row_passed (again (map seen_of steps)) Timing (row (lateness plan steps) Eventing ∷ row (telling plan steps) Wording ∷ row (fronting steps) Wording ∷ []) (record { part = Repeating; agenda = nothing }) a) d o x
hearing_due c plan steps k false a e d o j w x = absurd (no_place c plan steps k (d, j ∙ owing_place (is_owed steps) (is_done (again (map seen_of steps))) w a, o) x)

idle_due : (c : Codecs) (plan : PostPlan) (steps : List Step) (k : EndCause) → left plan steps ≡ record { part = Wording; agenda = nothing } → done_cause steps ≡ None → judges_heard steps ≡ false → Applies c plan steps k → Due c plan steps k
idle_due c plan steps k h d j (OfCall l e) = absurd (none_some (sym d ∙ e))
idle_due c plan steps k h d j (OfDeadline u e) = absurd_bool (judges_heard steps) u j
idle_due c plan steps k h d j (OfHearing u n e) = absurd_bool (judges_heard steps) u j
idle_due c plan steps k h d j (OfFrame turn e) = inl (ap (λ (l : Left). l.agenda.ending) (hand_rows plan steps Wording nothing h refl) ∙ frame_due steps Wording k e)
idle_due c plan steps k h d j (OfPayload turn q) = inr (ap (λ (l : Left). is_done l.agenda) (hand_rows plan steps Wording nothing h refl) ∙ front_done steps Wording (payload_silent c plan steps k q), q)

come_due : (c : Codecs) (plan : PostPlan) (steps : List Step) (k : EndCause) → (left plan steps).agenda.ending ≡ Some k → Due c plan steps k
come_due c plan steps k e = inl (ap (λ (l : Left). l.agenda.ending) (hand_left plan steps None (ending_undone (left plan steps).agenda k e)) ∙ e)

applies_due : (c : Codecs) (plan : PostPlan) (steps : List Step) (k : EndCause) → (session (map seen_of steps) ≡ None → (course plan steps).session ≡ None) → Rest c plan steps → ((j : EndCause) → HasCome c plan steps j → ⊥) → Applies c plan steps k → Due c plan steps k
applies_due c plan steps k s (Dead p y l e) n x = absurd (dead_applies c plan steps k l (s l) x)
applies_due c plan steps k s (Hearing e d o j w) n x = hearing_due c plan steps k (is_done (again (map seen_of steps))) refl e d o j w x
applies_due c plan steps k s (Repeated e d o j) n x = heard_due c plan steps Timing k (hand_rows plan steps Timing nothing e refl) d o x
applies_due c plan steps k s (Idle e d o j) n x = idle_due c plan steps k e d j x
applies_due c plan steps k s (Owes y e d o j) n x = absurd (no_place c plan steps k (d, j, o) x)
applies_due c plan steps k s (Ends j e b v o (inl h)) n x = absurd (n j h)
applies_due c plan steps k s (Ends j e b v o (inr y)) n x = come_due c plan steps k (e ∙ call_applies c plan steps j k y.0 x)

first_due : (c : Codecs) (plan : PostPlan) (steps : List Step) (k : EndCause) → (session (map seen_of steps) ≡ None → (course plan steps).session ≡ None) → IsKept c plan steps → FirstCause c plan steps k → Due c plan steps k
first_due c plan steps k s i (inl h) = come_due c plan steps k (i.come k h)
first_due c plan steps k s i (inr (x, n)) = applies_due c plan steps k s i.rest n x

-- A word that is read is the one that ends the session.

pub one_judged : (c : Codecs) (offers : List Dialect) (d : Option Dialect) (payload : List ℕ) (a b : Judged) → AreDetermined c → Judges c offers d payload a → Judges c offers d payload b → a ≡ b
one_judged c offers None payload a b det x y = det.negotiates offers payload a b x y
one_judged c offers (Some dialect) payload a b det x y = x.2 ∙ ap judged_word (det.reads dialect payload x.0 y.0 x.1 y.1) ∙ sym y.2

same_front : (c : Codecs) (plan : PostPlan) (t : Talked) (es : List Seen) (a b : Judged) → AreDetermined c → IsAtFront c plan t es a → IsAtFront c plan t es b → a ≡ b
same_front c plan t es a b det x y =
    let e : Ok (Some x.count) ≡ Ok (Some y.count) = sym x.whole ∙ y.whole in
    let n : x.count ≡ y.count = cc in
    one_judged c plan.dialects.items (speaks t.stage) (payload_at y.count (unread es)) a b det
    (subst (λ (m : ℕ). Judges c plan.dialects.items (speaks t.stage) (payload_at m (unread es)) a) n x.is) y.is

read_cause : (c : Codecs) (plan : PostPlan) (steps : List Step) (q : Reading) (k : EndCause) (t : Talked) (es : List Seen) → AreDetermined c → (i : IsReadAt c plan steps q) → (p : EndsByPayload c plan steps k) → i.t ≡ t → i.es ≡ es → p.t ≡ t → p.es ≡ es → q.judged ≡ p.judged
read_cause c plan steps q k t es det i p a b d e =
    same_front c plan t es q.judged p.judged det
    (subst (λ (x : Talked). IsAtFront c plan x es q.judged) a (subst (λ (x : List Seen). IsAtFront c plan i.t x q.judged) b i.at_front))
    (subst (λ (x : Talked). IsAtFront c plan x es p.judged) d (subst (λ (x : List Seen). IsAtFront c plan p.t x p.judged) e p.at_front))

some_talked : (a b : Talked) → Some a ≡ Some b → a ≡ b
some_talked a b h = cc

some_seen : (a b : List Seen) → Some a ≡ Some b → a ≡ b
some_seen a b h = cc

abbrev cause_in : PostPlan → List Step → Talked → Judged → Option EndCause
cause_in plan steps t x = word_cause false (found_judged t (map seen_of steps) (course plan steps) plan x)

payload_read : (c : Codecs) (plan : PostPlan) (steps : List Step) (q : Reading) (k : EndCause) → AreDetermined c → IsReadAt c plan steps q → EndsByPayload c plan steps k → (hand plan steps (Some q)).agenda.ending ≡ Some k
payload_read c plan steps q k det i p =
    let t = some_talked p.t i.t (sym p.course_is ∙ i.course_is) in
    let es = some_seen p.es i.es (sym p.session_is ∙ i.session_is) in
    let x = read_cause c plan steps q k i.t i.es det i p refl refl t es in
    ap (λ (l : Left). l.agenda.ending) (hand_word c plan steps q i) ∙ word_ending plan steps i.t q.judged q.shown
    ∙ ap (cause_in plan steps i.t) x ∙ ap (λ (y : Talked). cause_in plan steps y p.judged) (sym t) ∙ p.cause_is

abbrev EndsHand : PostPlan → List Step → EndCause → Option Reading → Type 0
EndsHand plan steps k r = (hand plan steps r).agenda.ending ≡ Some k

-- the first cause is what the next step is done of
due_hand : (c : Codecs) (plan : PostPlan) (steps : List Step) (r : Option Reading) (todo : Todo) (k : EndCause) → AreDetermined c → IsReadFor c plan steps r → first (hand plan steps r).agenda ≡ Some todo → Due c plan steps k → EndsHand plan steps k r
due_hand c plan steps r todo k det read f (inl e) = subst (EndsHand plan steps k) (sym (unread_hand c plan steps r read (ending_undone (hand plan steps None).agenda k e))) e
due_hand c plan steps r todo k det read f (inr (d, p)) =
    let x = read_hand c plan steps r todo read f d in
    subst (EndsHand plan steps k) (sym x.1) (payload_read c plan steps x.0 k det x.2 p)

-- What is left behind an act.

pub record IsStep (c : Codecs) (plan : PostPlan) (steps : List Step) (r : Option Reading) : Type 0 where
  pub hand_of : Hand c plan steps r (hand plan steps r)
  pub caused : (k : EndCause) → FirstCause c plan steps k → (hand plan steps r).agenda.ending ≡ Some k

mapped_some : (x : Seen) (o : Option (List Seen)) → is_some (with_seen x o) ≡ is_some o
mapped_some x None = refl
mapped_some x (Some es) = refl

mapped_none : (x : Seen) (o : Option (List Seen)) → is_some o ≡ false → with_seen x o ≡ None
mapped_none x None h = refl
mapped_none x (Some es) h = cc

uncaused : (c : Codecs) (plan : PostPlan) (steps : List Step) (r : Option Reading) → IsStep c plan steps r → (hand plan steps r).agenda.ending ≡ None → (k : EndCause) → FirstCause c plan steps k → ⊥
uncaused c plan steps r s n k h = none_some (sym n ∙ s.caused k h)

-- a call that is a cause, where none came before
abbrev CallLeft : PostPlan → List Step → Option Reading → Act → Bool → EndCause → Type 0
CallLeft plan steps r a taken k =
    (left plan (Does r a taken ∷ steps)).agenda ≡ (if is_some (session (map seen_of steps)) then ending_by k (live (Did a taken ∷ map seen_of steps)) else nothing)

left_as : (l : Left) (a : Agenda) → l.agenda ≡ a → l ≡ record { part = l.part; agenda = a }
left_as l a e = ap (λ (x : Agenda). record { part = l.part; agenda = x }) e

called_by : (c : Codecs) (plan : PostPlan) (steps : List Step) (r : Option Reading) (a : Act) (taken b : Bool) (k : EndCause) → IsPast (hand plan steps r).part → is_some (session (map seen_of steps)) ≡ b → session (Did a taken ∷ map seen_of steps) ≡ with_seen (Did a taken) (session (map seen_of steps)) → call_cause r a taken ≡ Some k
    → ((j : EndCause) → HasCome c plan (Does r a taken ∷ steps) j → ⊥) → (left plan (Does r a taken ∷ steps)).agenda ≡ (if b then ending_by k (live (Did a taken ∷ map seen_of steps)) else nothing) → Rest c plan (Does r a taken ∷ steps)
called_by c plan steps r a taken true k v l s d n e =
    Ends k (ap (λ (x : Agenda). x.ending) e) (ap (λ (x : Agenda). x.behind_reply) e) v (λ m. (ap (λ (x : Agenda). x.datagram) e, ap (λ (x : Agenda). x.order) e)) (inr (d, ap is_some s ∙ mapped_some (Did a taken) (session (map seen_of steps)) ∙ l, n))
called_by c plan steps r a taken false k v l s d n e =
    Dead (left plan (Does r a taken ∷ steps)).part v (s ∙ mapped_none (Did a taken) (session (map seen_of steps)) l) (left_as (left plan (Does r a taken ∷ steps)) nothing e)

called : (c : Codecs) (plan : PostPlan) (steps : List Step) (r : Option Reading) (a : Act) (taken : Bool) (k : EndCause) → IsPast (hand plan steps r).part → session (Did a taken ∷ map seen_of steps) ≡ with_seen (Did a taken) (session (map seen_of steps)) → call_cause r a taken ≡ Some k
    → ((j : EndCause) → HasCome c plan (Does r a taken ∷ steps) j → ⊥) → CallLeft plan steps r a taken k → Rest c plan (Does r a taken ∷ steps)
called c plan steps r a taken k v s d n e = called_by c plan steps r a taken (is_some (session (map seen_of steps))) k v refl s d n e

in_wording : (plan : PostPlan) (steps : List Step) (r : Option Reading) (a : Agenda) → hand plan steps r ≡ record { part = Wording; agenda = a } → IsPast (hand plan steps r).part
in_wording plan steps r a h = subst IsPast (sym (ap (λ (l : Left). l.part) h)) tt

in_timing : (plan : PostPlan) (steps : List Step) (r : Option Reading) (a : Agenda) → hand plan steps r ≡ record { part = Timing; agenda = a } → IsPast (hand plan steps r).part
in_timing plan steps r a h = subst IsPast (sym (ap (λ (l : Left). l.part) h)) tt

order_fails : (c : Codecs) (plan : PostPlan) (steps : List Step) (r : Option Reading) (o : Order) → IsStep c plan steps r → IsPast (hand plan steps r).part → (hand plan steps r).agenda.ending ≡ None → Rest c plan (Does r (Give o) false ∷ steps)
order_fails c plan steps r o s v n =
    called c plan steps r (Give o) false OrderFailed v refl refl (uncaused c plan steps r s n)
    (ap (λ (x : Option EndCause). failed x OrderFailed (is_some (session (map seen_of steps))) (live (Did (Give o) false ∷ map seen_of steps))) n)

send_fails : (c : Codecs) (plan : PostPlan) (steps : List Step) (r : Option Reading) (bytes : List ℕ) → IsStep c plan steps r → IsPast (hand plan steps r).part → (hand plan steps r).agenda.ending ≡ None → Rest c plan (Does r (Send bytes) false ∷ steps)
send_fails c plan steps r bytes s v n =
    called c plan steps r (Send bytes) false SendFailed v refl refl (uncaused c plan steps r s n)
    (ap (λ (x : Option EndCause). failed x SendFailed (is_some (session (map seen_of steps))) (live (Did (Send bytes) false ∷ map seen_of steps))) n)

unmatched_sent : (c : Codecs) (plan : PostPlan) (steps : List Step) (r : Option Reading) (bytes : List ℕ) (x : Spoken) → IsStep c plan steps r → hand plan steps r ≡ record { part = Wording; agenda = record nothing { reply = Some x; behind_reply = Some NoNegotiation } } → unmatched_in r ≡ Some NoNegotiation
    → Rest c plan (Does r (Send bytes) true ∷ steps)
unmatched_sent c plan steps r bytes x s h u =
    called c plan steps r (Send bytes) true NoNegotiation (in_wording plan steps r _ h) refl u (uncaused c plan steps r s (ap (λ (l : Left). l.agenda.ending) h))
    (ap (λ (l : Left). less (Send bytes) true (is_some (session (map seen_of steps))) (live (Did (Send bytes) true ∷ map seen_of steps)) l.agenda) h)

-- what an act leaves of what it is done of
abbrev lefts : List Step → Act → Bool → Left → Left
lefts steps a taken h = record { part = h.part; agenda = less a taken (is_some (session (map seen_of steps))) (live (Did a taken ∷ map seen_of steps)) h.agenda }

and_false : (a b : Bool) → a ≡ false → (a && b) ≡ false
and_false a b h = ap (λ (x : Bool). x && b) h

and_true : (a b : Bool) → a ≡ true → b ≡ true → (a && b) ≡ true
and_true a b h k = ap (λ (x : Bool). x && b) h ∙ k

opened : (c : Codecs) (plan : PostPlan) (steps : List Step) (r : Option Reading) → hand plan steps r ≡ record { part = Timing; agenda = record nothing { order = Some order.Open } } → is_repeat r (Give order.Open) true ≡ true → is_owed steps ≡ true → Rest c plan (Does r (Give order.Open) true ∷ steps)
opened c plan steps r h q o = Repeated (ap (lefts steps (Give order.Open) true) h) refl refl (and_true (is_repeat r (Give order.Open) true) (is_owed steps) q o)

answered : (c : Codecs) (plan : PostPlan) (steps : List Step) (r : Option Reading) (d bytes : List ℕ) (taken : Bool) → hand plan steps r ≡ record { part = Wording; agenda = record nothing { datagram = Some d } } → Rest c plan (Does r (Answer bytes) taken ∷ steps)
answered c plan steps r d bytes taken h = Idle (ap (lefts steps (Answer bytes) taken) h) refl refl (and_false (is_repeat r (Answer bytes) taken) (is_owed steps) (repeat_answer r bytes taken))

sent : (c : Codecs) (plan : PostPlan) (steps : List Step) (r : Option Reading) (x : Spoken) (bytes : List ℕ) → hand plan steps r ≡ record { part = Wording; agenda = record nothing { reply = Some x } } → unmatched_in r ≡ None → Rest c plan (Does r (Send bytes) true ∷ steps)
sent c plan steps r x bytes h u =
    Idle (ap (lefts steps (Send bytes) true) h) u (ap (λ (o : Option EndCause). not (is_some o)) u) (and_false (is_repeat r (Send bytes) true) (is_owed steps) (repeat_send r bytes true))

given : (c : Codecs) (plan : PostPlan) (steps : List Step) (r : Option Reading) (o : Order) (y : Option Spoken) → hand plan steps r ≡ record { part = Wording; agenda = record nothing { order = Some o; reply = y } } → Follows o y → is_repeat r (Give o) true ≡ false → Rest c plan (Does r (Give o) true ∷ steps)
given c plan steps r order.Close y h f q =
    Idle (ap (lefts steps (Give order.Close) true) h ∙ ap (λ (z : Option Spoken). record { part = Wording; agenda = record nothing { reply = z } }) f) refl refl (and_false (is_repeat r (Give order.Close) true) (is_owed steps) q)
given c plan steps r order.Open y h (x, e) q =
    Owes x (ap (lefts steps (Give order.Open) true) h ∙ ap (λ (z : Option Spoken). record { part = Wording; agenda = record nothing { reply = z } }) e) refl refl (and_false (is_repeat r (Give order.Open) true) (is_owed steps) q)
given c plan steps r (order.Limits v a w) y h (x, e) q =
    Owes x (ap (lefts steps (Give (order.Limits v a w)) true) h ∙ ap (λ (z : Option Spoken). record { part = Wording; agenda = record nothing { reply = z } }) e) refl refl (and_false (is_repeat r (Give (order.Limits v a w)) true) (is_owed steps) q)

-- an end that was decided stays so
abbrev IsOn : Act → Type 0
IsOn (Give o) = Unit {0}
IsOn (Send bytes) = Unit {0}
IsOn (Answer bytes) = Unit {0}
IsOn (End n) = ⊥

stays : (a : Act) (taken lives on : Bool) (h : Agenda) (k : EndCause) → IsOn a → h.ending ≡ Some k → h.behind_reply ≡ None → ((less a taken lives on h).ending ≡ Some k) × ((less a taken lives on h).behind_reply ≡ None)
stays (Give o) true lives on h k i e b = (e, b)
stays (Give o) false lives on h k i e b = (ap (λ (x : Option EndCause). (failed x OrderFailed lives on).ending) e, ap (λ (x : Option EndCause). (failed x OrderFailed lives on).behind_reply) e)
stays (Send bytes) true lives on h k i e b = (ap (λ (x : Option EndCause). (replied x lives on h).ending) b ∙ e, ap (λ (x : Option EndCause). (replied x lives on h).behind_reply) b ∙ b)
stays (Send bytes) false lives on h k i e b = (ap (λ (x : Option EndCause). (failed x SendFailed lives on).ending) e, ap (λ (x : Option EndCause). (failed x SendFailed lives on).behind_reply) e)
stays (Answer bytes) taken lives on h k i e b = (e, b)
stays (End n) taken lives on h k i e b = absurd i

come_on : (c : Codecs) (plan : PostPlan) (steps : List Step) (r : Option Reading) (a : Act) (taken : Bool) (k : EndCause) → IsOn a → FirstCause c plan steps k → HasCome c plan (Does r a taken ∷ steps) k
come_on c plan steps r (Give o) taken k i f = f
come_on c plan steps r (Send bytes) taken k i f = f
come_on c plan steps r (Answer bytes) taken k i f = f
come_on c plan steps r (End n) taken k i f = absurd i

finishing : (c : Codecs) (plan : PostPlan) (steps : List Step) (r : Option Reading) (a : Act) (taken : Bool) (k : EndCause) → IsOn a → (hand plan steps r).agenda.ending ≡ Some k → (hand plan steps r).agenda.behind_reply ≡ None → IsPast (hand plan steps r).part → FirstCause c plan steps k → Rest c plan (Does r a taken ∷ steps)
finishing c plan steps r a taken k i e b v f =
    let s = stays a taken (is_some (session (map seen_of steps))) (live (Did a taken ∷ map seen_of steps)) (hand plan steps r).agenda k i e b in
    Ends k s.0 s.1 v (λ n. absurd (n (come_on c plan steps r a taken k i f))) (inl (come_on c plan steps r a taken k i f))

-- Which act it is.

todo_is : (l : Left) (p : Part) (a : Agenda) (todo thing : Todo) → l ≡ record { part = p; agenda = a } → first l.agenda ≡ Some todo → first a ≡ Some thing → todo ≡ thing
todo_is l p a todo thing e f g = let x : Some todo ≡ Some thing = sym f ∙ ap (λ (y : Left). first y.agenda) e ∙ g in cc

abbrev RestOf : Codecs → PostPlan → List Step → Option Reading → Bool → Act → Type 0
RestOf c plan steps r taken a = Rest c plan (Does r a taken ∷ steps)

opens_rest : (c : Codecs) (plan : PostPlan) (steps : List Step) (r : Option Reading) (taken : Bool) → IsStep c plan steps r → hand plan steps r ≡ record { part = Timing; agenda = record nothing { order = Some order.Open } } → is_repeat r (Give order.Open) true ≡ true → is_owed steps ≡ true → Rest c plan (Does r (Give order.Open) taken ∷ steps)
opens_rest c plan steps r true s h q o = opened c plan steps r h q o
opens_rest c plan steps r false s h q o = order_fails c plan steps r order.Open s (in_timing plan steps r _ h) (ap (λ (l : Left). l.agenda.ending) h)

says_rest : (c : Codecs) (plan : PostPlan) (steps : List Step) (r : Option Reading) (x : Spoken) (bytes : List ℕ) (taken : Bool) → IsStep c plan steps r → hand plan steps r ≡ record { part = Wording; agenda = record nothing { reply = Some x } } → unmatched_in r ≡ None → Rest c plan (Does r (Send bytes) taken ∷ steps)
says_rest c plan steps r x bytes true s h u = sent c plan steps r x bytes h u
says_rest c plan steps r x bytes false s h u = send_fails c plan steps r bytes s (in_wording plan steps r _ h) (ap (λ (l : Left). l.agenda.ending) h)

unmatched_rest : (c : Codecs) (plan : PostPlan) (steps : List Step) (r : Option Reading) (x : Spoken) (bytes : List ℕ) (taken : Bool) → IsStep c plan steps r → hand plan steps r ≡ record { part = Wording; agenda = record nothing { reply = Some x; behind_reply = Some NoNegotiation } } → unmatched_in r ≡ Some NoNegotiation
    → Rest c plan (Does r (Send bytes) taken ∷ steps)
unmatched_rest c plan steps r x bytes true s h u = unmatched_sent c plan steps r bytes x s h u
unmatched_rest c plan steps r x bytes false s h u = send_fails c plan steps r bytes s (in_wording plan steps r _ h) (ap (λ (l : Left). l.agenda.ending) h)

gives_rest : (c : Codecs) (plan : PostPlan) (steps : List Step) (r : Option Reading) (o : Order) (y : Option Spoken) (taken : Bool) → IsStep c plan steps r → hand plan steps r ≡ record { part = Wording; agenda = record nothing { order = Some o; reply = y } } → Follows o y → is_repeat r (Give o) true ≡ false
    → Rest c plan (Does r (Give o) taken ∷ steps)
gives_rest c plan steps r o y true s h f q = given c plan steps r o y h f q
gives_rest c plan steps r o y false s h f q = order_fails c plan steps r o s (in_wording plan steps r _ h) (ap (λ (l : Left). l.agenda.ending) h)

told_rest : (c : Codecs) (plan : PostPlan) (steps : List Step) (r : Option Reading) (a : Act) (taken : Bool) (d : List ℕ) → hand plan steps r ≡ record { part = Wording; agenda = record nothing { datagram = Some d } } → IsDone c (states.Tell d) a taken → Rest c plan (Does r a taken ∷ steps)
told_rest c plan steps r a taken d h e = subst (RestOf c plan steps r taken) (sym e) (answered c plan steps r d d taken h)

hand_rest : (c : Codecs) (plan : PostPlan) (steps : List Step) (r : Option Reading) (a : Act) (taken : Bool) (todo : Todo) → IsOn a → IsStep c plan steps r → first (hand plan steps r).agenda ≡ Some todo → IsDone c todo a taken → Hand c plan steps r (hand plan steps r) → Rest c plan (Does r a taken ∷ steps)
hand_rest c plan steps r a taken todo i s f d (Opens h q o) =
    let t = todo_is (hand plan steps r) Timing (record nothing { order = Some order.Open }) todo (states.Give order.Open) h f refl in
    let e : a ≡ Give order.Open = subst (λ (x : Todo). IsDone c x a taken) t d in
    subst (RestOf c plan steps r taken) (sym e) (opens_rest c plan steps r taken s h q o)
hand_rest c plan steps r a taken todo i s f d (Tells g h) =
    let t = todo_is (hand plan steps r) Wording (record nothing { datagram = Some g }) todo (states.Tell g) h f refl in
    told_rest c plan steps r a taken g h (subst (λ (x : Todo). IsDone c x a taken) t d)
hand_rest c plan steps r a taken todo i s f d (Says x h u) =
    let t = todo_is (hand plan steps r) Wording (record nothing { reply = Some x }) todo (states.Say x) h f refl in
    let e = subst (λ (y : Todo). IsDone c y a taken) t d in
    subst (RestOf c plan steps r taken) (sym e.2) (says_rest c plan steps r x e.0 taken s h u)
hand_rest c plan steps r a taken todo i s f d (Unmatched x h u) =
    let t = todo_is (hand plan steps r) Wording (record nothing { reply = Some x; behind_reply = Some NoNegotiation }) todo (states.Say x) h f refl in
    let e = subst (λ (y : Todo). IsDone c y a taken) t d in
    subst (RestOf c plan steps r taken) (sym e.2) (unmatched_rest c plan steps r x e.0 taken s h u)
hand_rest c plan steps r a taken todo i s f d (Gives o y h g q p) =
    let t = todo_is (hand plan steps r) Wording (record nothing { order = Some o; reply = y }) todo (states.Give o) h f refl in
    let e : a ≡ Give o = subst (λ (x : Todo). IsDone c x a taken) t d in
    subst (RestOf c plan steps r taken) (sym e) (gives_rest c plan steps r o y taken s h g q)
hand_rest c plan steps r a taken todo i s f d (Finishes k e b v o g) = finishing c plan steps r a taken k i e b v g

-- Behind each step of a run.

ends_of : (c : Codecs) (plan : PostPlan) (steps : List Step) (r : Option Reading) (k : EndCause) → Hand c plan steps r (hand plan steps r) → (hand plan steps r).agenda.ending ≡ Some k → FirstCause c plan steps k
ends_of c plan steps r k (Opens h q o) e = absurd (none_some (sym (ap (λ (l : Left). l.agenda.ending) h) ∙ e))
ends_of c plan steps r k (Tells d h) e = absurd (none_some (sym (ap (λ (l : Left). l.agenda.ending) h) ∙ e))
ends_of c plan steps r k (Says x h u) e = absurd (none_some (sym (ap (λ (l : Left). l.agenda.ending) h) ∙ e))
ends_of c plan steps r k (Unmatched x h u) e = absurd (none_some (sym (ap (λ (l : Left). l.agenda.ending) h) ∙ e))
ends_of c plan steps r k (Gives o y h g q p) e = absurd (none_some (sym (ap (λ (l : Left). l.agenda.ending) h) ∙ e))
ends_of c plan steps r k (Finishes j d b v o f) e = let x : j ≡ k = (let y : Some j ≡ Some k = sym d ∙ e in cc) in subst (FirstCause c plan steps) x f

dead : (kept : Option Session) (o : Option Talked) → talked_in kept ≡ o → is_some kept ≡ false → o ≡ None
dead None o e h = sym e
dead (Some ss) o e h = cc

dead_course : (c : Codecs) (plan : PostPlan) (steps : List Step) → IsPostRun c plan steps → session (map seen_of steps) ≡ None → (course plan steps).session ≡ None
dead_course c plan steps run l = dead (state plan steps).session (course plan steps).session (courses_are_read c plan steps run).session_is ((facts_are_read plan steps).session_is ∙ ap is_some l)

a_step : (c : Codecs) (plan : PostPlan) (r : Option Reading) (a : Act) (taken : Bool) (steps : List Step) → AreDetermined c → IsPostRun c plan steps → IsDoing c plan steps r a taken → IsKept c plan steps → IsStep c plan steps r
a_step c plan r a taken steps det run d i =
    let dead = dead_course c plan steps run in
    record {
      hand_of = kept_hand c plan steps r d.todo i dead d.read d.first_is;
      caused = λ k f. due_hand c plan steps r d.todo k det d.read d.first_is (first_due c plan steps k dead i f);
    }

behind_of : (c : Codecs) (plan : PostPlan) (steps : List Step) (r : Option Reading) (k : EndCause) → Hand c plan steps r (hand plan steps r) → (hand plan steps r).agenda.ending ≡ Some k → (hand plan steps r).agenda.behind_reply ≡ None
behind_of c plan steps r k (Opens h q o) e = absurd (none_some (sym (ap (λ (l : Left). l.agenda.ending) h) ∙ e))
behind_of c plan steps r k (Tells d h) e = absurd (none_some (sym (ap (λ (l : Left). l.agenda.ending) h) ∙ e))
behind_of c plan steps r k (Says x h u) e = absurd (none_some (sym (ap (λ (l : Left). l.agenda.ending) h) ∙ e))
behind_of c plan steps r k (Unmatched x h u) e = absurd (none_some (sym (ap (λ (l : Left). l.agenda.ending) h) ∙ e))
behind_of c plan steps r k (Gives o y h g q p) e = absurd (none_some (sym (ap (λ (l : Left). l.agenda.ending) h) ∙ e))
behind_of c plan steps r k (Finishes j d b v o f) e = b

on_of : (a : Act) → IsOn a ⊎ ((n : ℕ) × (a ≡ End n))
on_of (Give o) = inl tt
on_of (Send bytes) = inl tt
on_of (Answer bytes) = inl tt
on_of (End n) = inr (n, refl)

come_first : (c : Codecs) (plan : PostPlan) (steps : List Step) (r : Option Reading) (a : Act) (taken : Bool) (k : EndCause) → HasCome c plan (Does r a taken ∷ steps) k → IsOn a × FirstCause c plan steps k
come_first c plan steps r (Give o) taken k h = (tt, h)
come_first c plan steps r (Send bytes) taken k h = (tt, h)
come_first c plan steps r (Answer bytes) taken k h = (tt, h)
come_first c plan steps r (End n) taken k h = absurd h

kept_come : (c : Codecs) (plan : PostPlan) (steps : List Step) (r : Option Reading) (a : Act) (taken : Bool) → IsStep c plan steps r → (k : EndCause) → HasCome c plan (Does r a taken ∷ steps) k → (left plan (Does r a taken ∷ steps)).agenda.ending ≡ Some k
kept_come c plan steps r a taken s k h =
    let x = come_first c plan steps r a taken k h in
    let e = s.caused k x.1 in
    (stays a taken (is_some (session (map seen_of steps))) (live (Did a taken ∷ map seen_of steps)) (hand plan steps r).agenda k x.0 e (behind_of c plan steps r k s.hand_of e)).0

past_of : (c : Codecs) (plan : PostPlan) (steps : List Step) (r : Option Reading) → Hand c plan steps r (hand plan steps r) → IsPast (hand plan steps r).part
past_of c plan steps r (Opens h q o) = in_timing plan steps r _ h
past_of c plan steps r (Tells d h) = in_wording plan steps r _ h
past_of c plan steps r (Says x h u) = in_wording plan steps r _ h
past_of c plan steps r (Unmatched x h u) = in_wording plan steps r _ h
past_of c plan steps r (Gives o y h g q p) = in_wording plan steps r _ h
past_of c plan steps r (Finishes k e b v o f) = v

ended_rest : (c : Codecs) (plan : PostPlan) (steps : List Step) (r : Option Reading) (n : ℕ) (taken : Bool) → IsStep c plan steps r → Rest c plan (Does r (End n) taken ∷ steps)
ended_rest c plan steps r n taken s = Dead (hand plan steps r).part (past_of c plan steps r s.hand_of) refl refl

step_kept : (c : Codecs) (plan : PostPlan) (r : Option Reading) (a : Act) (taken : Bool) (steps : List Step) → IsDoing c plan steps r a taken → IsStep c plan steps r → IsKept c plan (Does r a taken ∷ steps)
step_kept c plan r a taken steps d s = record {
  rest = elim (on_of a) [
    | inl i ↦ hand_rest c plan steps r a taken d.todo i s d.first_is d.done s.hand_of
    | inr x ↦ subst (RestOf c plan steps r taken) (sym x.1) (ended_rest c plan steps r x.0 taken s)
  ];
  come = kept_come c plan steps r a taken s;
}

pub kept : (c : Codecs) (plan : PostPlan) (steps : List Step) → AreDetermined c → IsPostRun c plan steps → IsKept c plan steps
kept c plan [] det run = record { rest = Dead Wording tt refl refl; come = λ k h. absurd h }
kept c plan (Hears at event ∷ steps) det run = record { rest = Hearing refl refl refl refl refl; come = λ k h. absurd h }
kept c plan (Does r a taken ∷ steps) det (run, acts) =
    let d = doing c plan r a taken steps (run, acts) in
    step_kept c plan r a taken steps d (a_step c plan r a taken steps det run d (kept c plan steps det run))

-- A whole block.

none_wanted : (p : Wanted) → None ≡ Some p → ⊥
none_wanted p h = cc

wants : (d : State) (ss : Session) (n : ℕ) → is_done d.agenda ≡ true → d.session ≡ Some ss → is_waiting ss.stage.row ≡ false → whole_at ss.unread ≡ Ok (Some n) → wanted d ≡ None → ⊥
wants d ss n e k w f h =
    let x : wanted d ≡ Some (record { dialect = speaks ss.stage; bytes = payload_at n ss.unread }) = rw (e, k, w, f) refl in
    none_wanted (record { dialect = speaks ss.stage; bytes = payload_at n ss.unread }) (sym h ∙ x)

payload_wanted : (d : State) (es zs : List Seen) (n : ℕ) (lives : Option (List Seen)) (keeps : Option Session) → lives ≡ Some es → IsSessionOf lives keeps → d.session ≡ keeps → is_done d.agenda ≡ true → waits es ≡ false → whole_at (unread es) ≡ Ok (Some n) → wanted d ≡ None → ⊥
payload_wanted d es zs n None keeps l i k e w f h = cc
payload_wanted d es zs n (Some us) None l i k e w f h = absurd i
payload_wanted d es zs n (Some us) (Some ss) l i k e w f h =
    let u : us ≡ es = cc in
    wants d ss n e k (i.waiting_is ∙ ap waits u ∙ w) (ap whole_at i.unread_is ∙ ap (λ (x : List Seen). whole_at (unread x)) u ∙ f) h

quiet_due : (c : Codecs) (plan : PostPlan) (steps : List Step) (k : EndCause) → IsPostRun c plan steps → IsQuiet plan (state plan steps) → Due c plan steps k → ⊥
quiet_due c plan steps k run q (inl e) =
    let d : is_done (hand plan steps None).agenda ≡ true = sym (ap (λ (l : Left). is_done l.agenda) (decided_left c plan steps run)) ∙ none_done (decided plan (state plan steps)).agenda q.none in
    absurd_bool (is_done (hand plan steps None).agenda) d (ending_undone (hand plan steps None).agenda k e)
quiet_due c plan steps k run q (inr (d, p)) =
    let done = none_done (decided plan (state plan steps)).agenda q.none in
    let state_done : is_done (state plan steps).agenda ≡ true = ap (λ (l : Left). is_done l.agenda) (steps_left c plan steps run) ∙ rows_left_done plan steps d in
    payload_wanted (decided plan (state plan steps)) p.es p.es p.at_front.count (session (map seen_of steps)) (state plan steps).session p.session_is (done_session c plan steps run state_done) (same_session plan (state plan steps)) done p.at_front.free p.at_front.whole q.no_word

pub no_cause : (c : Codecs) (plan : PostPlan) (steps : List Step) → AreDetermined c → IsPostRun c plan steps → IsQuiet plan (state plan steps) → HasNoCause c plan steps
no_cause c plan steps det run q k f = quiet_due c plan steps k run q (first_due c plan steps k (dead_course c plan steps run) (kept c plan steps det run) f)

-- An end.

ending_is : (c : Codecs) (todo : Todo) (n : ℕ) (taken : Bool) → IsDone c todo (End n) taken → (k : EndCause) × (todo ≡ states.Finish k) × (n ≡ number_of k)
ending_is c (states.Tell d) n taken e = cc
ending_is c (states.Give o) n taken e = cc
ending_is c (states.Say x) n taken (bytes, s, e) = cc
ending_is c (states.Finish k) n taken (e, t) = (k, refl, cc)

end_caused : (c : Codecs) (plan : PostPlan) (steps : List Step) (r : Option Reading) (n : ℕ) (taken : Bool) → IsDoing c plan steps r (End n) taken → IsStep c plan steps r → IsCaused c plan n steps
end_caused c plan steps r n taken d s =
    let x = ending_is c d.todo n taken d.done in
    let a = (hand plan steps r).agenda in
    let e = finish_is (hand plan steps r).agenda.datagram (hand plan steps r).agenda.order (hand plan steps r).agenda.reply (hand plan steps r).agenda.ending x.0 (d.first_is ∙ ap (λ (t : Todo). Some t) x.1) in
    record { cause = x.0; first = ends_of c plan steps r x.0 s.hand_of e; only = λ j f. same_cause (hand plan steps r).agenda.ending j x.0 (s.caused j f) e; number_is = x.2 }

steps_caused : (c : Codecs) (plan : PostPlan) (steps : List Step) → AreDetermined c → IsPostRun c plan steps → EndByCauses c plan steps
steps_caused c plan [] det run = tt
steps_caused c plan (Hears at event ∷ steps) det (run, q) = (steps_caused c plan steps det run, no_cause c plan steps det run q)
steps_caused c plan (Does r (Give o) taken ∷ steps) det (run, acts) = (steps_caused c plan steps det run, tt)
steps_caused c plan (Does r (Send bytes) taken ∷ steps) det (run, acts) = (steps_caused c plan steps det run, tt)
steps_caused c plan (Does r (Answer bytes) taken ∷ steps) det (run, acts) = (steps_caused c plan steps det run, tt)
steps_caused c plan (Does r (End n) taken ∷ steps) det (run, acts) =
    let d = doing c plan r (End n) taken steps (run, acts) in
    (steps_caused c plan steps det run, end_caused c plan steps r n taken d (a_step c plan r (End n) taken steps det run d (kept c plan steps det run)))

-- An order to open.

first_gives : (l : Left) (p : Part) (a : Agenda) (todo thing : Todo) (o : Order) (taken : Bool) (c : Codecs) → l ≡ record { part = p; agenda = a } → first l.agenda ≡ Some todo → first a ≡ Some thing → IsDone c todo (Give o) taken → IsDone c thing (Give o) taken
first_gives l p a todo thing o taken c e f g d = subst (λ (x : Todo). IsDone c x (Give o) taken) (todo_is l p a todo thing e f g) d

given_open : (o : Order) → Give order.Open ≡ Give o → o ≡ order.Open
given_open o h = cc

open_reason : (c : Codecs) (plan : PostPlan) (steps : List Step) (r : Option Reading) (taken : Bool) (todo : Todo) → first (hand plan steps r).agenda ≡ Some todo → IsDone c todo (Give order.Open) taken → Hand c plan steps r (hand plan steps r) → IsReasoned c plan r (Give order.Open) steps
open_reason c plan steps r taken todo f d (Opens h q o) = inl o
open_reason c plan steps r taken todo f d (Tells g h) =
    let e : Give order.Open ≡ Answer g = first_gives (hand plan steps r) Wording (record nothing { datagram = Some g }) todo (states.Tell g) order.Open taken c h f refl d in
    absurd cc
open_reason c plan steps r taken todo f d (Says x h u) =
    let e = first_gives (hand plan steps r) Wording (record nothing { reply = Some x }) todo (states.Say x) order.Open taken c h f refl d in
    absurd (let y : Give order.Open ≡ Send e.0 = e.2 in cc)
open_reason c plan steps r taken todo f d (Unmatched x h u) =
    let e = first_gives (hand plan steps r) Wording (record nothing { reply = Some x; behind_reply = Some NoNegotiation }) todo (states.Say x) order.Open taken c h f refl d in
    absurd (let y : Give order.Open ≡ Send e.0 = e.2 in cc)
open_reason c plan steps r taken todo f d (Gives o y h g q p) =
    inr (inl (p (given_open o (first_gives (hand plan steps r) Wording (record nothing { order = Some o; reply = y }) todo (states.Give o) order.Open taken c h f refl d))))
open_reason c plan steps r taken todo f d (Finishes k e b v o g) = inr (inr (k, g))

act_reason : (c : Codecs) (plan : PostPlan) (steps : List Step) (r : Option Reading) (a : Act) (taken : Bool) → IsDoing c plan steps r a taken → IsStep c plan steps r → IsReasoned c plan r a steps
act_reason c plan steps r (Give order.Open) taken d s = open_reason c plan steps r taken d.todo d.first_is d.done s.hand_of
act_reason c plan steps r (Give order.Close) taken d s = tt
act_reason c plan steps r (Give (order.Limits v i w)) taken d s = tt
act_reason c plan steps r (Send bytes) taken d s = tt
act_reason c plan steps r (Answer bytes) taken d s = tt
act_reason c plan steps r (End n) taken d s = tt

steps_reasoned : (c : Codecs) (plan : PostPlan) (steps : List Step) → AreDetermined c → IsPostRun c plan steps → AreReasoned c plan steps
steps_reasoned c plan [] det run = tt
steps_reasoned c plan (Hears at event ∷ steps) det (run, q) = steps_reasoned c plan steps det run
steps_reasoned c plan (Does r a taken ∷ steps) det (run, acts) =
    let d = doing c plan r a taken steps (run, acts) in
    (steps_reasoned c plan steps det run, act_reason c plan steps r a taken d (a_step c plan r a taken steps det run d (kept c plan steps det run)))

pub runs_open_for_reasons : (c : Codecs) → RunsOpenForReasons c
runs_open_for_reasons c site past posts before post behind det run here =
    let all = subst (ArePostsOf c past 1) here (run_posts c site past posts run) in
    let at = post_at c past (length before + 1) 1 before post behind refl all in
    steps_reasoned c post.plan post.steps det at.run

-- Where a cause applies first, a live contactor is opened.

opens_now : (c : Codecs) (plan : PostPlan) (steps : List Step) (r : Option Reading) (k : EndCause) → Hand c plan steps r (hand plan steps r) → (hand plan steps r).agenda.ending ≡ Some k → OpensIf c plan steps k (hand plan steps r).agenda
opens_now c plan steps r k (Opens h q o) e = absurd (none_some (sym (ap (λ (l : Left). l.agenda.ending) h) ∙ e))
opens_now c plan steps r k (Tells d h) e = absurd (none_some (sym (ap (λ (l : Left). l.agenda.ending) h) ∙ e))
opens_now c plan steps r k (Says x h u) e = absurd (none_some (sym (ap (λ (l : Left). l.agenda.ending) h) ∙ e))
opens_now c plan steps r k (Unmatched x h u) e = absurd (none_some (sym (ap (λ (l : Left). l.agenda.ending) h) ∙ e))
opens_now c plan steps r k (Gives o y h g q p) e = absurd (none_some (sym (ap (λ (l : Left). l.agenda.ending) h) ∙ e))
opens_now c plan steps r k (Finishes j d b v o f) e = subst (λ (x : EndCause). OpensIf c plan steps x (hand plan steps r).agenda) (same_cause (hand plan steps r).agenda.ending j k d e) o

some_todo : (a b : Todo) → Some a ≡ Some b → a ≡ b
some_todo a b h = cc

act_opens : (c : Codecs) (plan : PostPlan) (steps : List Step) (r : Option Reading) (a : Act) (taken : Bool) → IsDoing c plan steps r a taken → IsStep c plan steps r → AppliesLive c plan steps → a ≡ Give order.Open
act_opens c plan steps r a taken d s x =
    let e = s.caused x.cause (inr (x.applies, x.none_before)) in
    let o = opens_now c plan steps r x.cause s.hand_of e (x.none_before x.cause) in
    let f = first_open (hand plan steps r).agenda.datagram (hand plan steps r).agenda.order (hand plan steps r).agenda.reply (hand plan steps r).agenda.ending o.0 (o.1 ∙ ap opening_if x.live_is) in
    subst (λ (t : Todo). IsDone c t a taken) (some_todo d.todo (states.Give order.Open) (sym d.first_is ∙ f)) d.done

steps_open : (c : Codecs) (plan : PostPlan) (steps : List Step) → AreDetermined c → IsPostRun c plan steps → OpenAtFirstCauses c plan steps
steps_open c plan [] det run = tt
steps_open c plan (Hears at event ∷ steps) det (run, q) = (steps_open c plan steps det run, λ x. absurd (no_cause c plan steps det run q x.cause (inr (x.applies, x.none_before))))
steps_open c plan (Does r a taken ∷ steps) det (run, acts) =
    let d = doing c plan r a taken steps (run, acts) in
    (steps_open c plan steps det run, λ x. (r, taken, ap (λ (y : Act). Does r y taken) (act_opens c plan steps r a taken d (a_step c plan r a taken steps det run d (kept c plan steps det run)) x)))

pub runs_open_first : (c : Codecs) → RunsOpenFirst c
runs_open_first c site past posts before post behind det run here =
    let all = subst (ArePostsOf c past 1) here (run_posts c site past posts run) in
    let at = post_at c past (length before + 1) 1 before post behind refl all in
    steps_open c post.plan post.steps det at.run

pub runs_end_by_causes : (c : Codecs) → RunsEndByCauses c
runs_end_by_causes c site past posts before post behind det run here =
    let all = subst (ArePostsOf c past 1) here (run_posts c site past posts run) in
    let at = post_at c past (length before + 1) 1 before post behind refl all in
    (steps_caused c post.plan post.steps det at.run, λ q. no_cause c post.plan post.steps det at.run q)
