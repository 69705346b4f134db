-- What is left of a post behind each step of a run, and what its next step is done of.
use Rattle.std.proofs.Common.{◌≡◌, ℕ, Bool, true, false, not, if◌then◌else◌, List, [], ◌∷◌, map, Option, Some, None, is_some, refl, sym, ap, subst, ◌∙◌, inl, inr, ◌⊎◌}
use Rattle.charge_world.specs.declared.ports.Order.{Order}
use Rattle.charge_world.specs.declared.ports.Order.TheVariants as order
use Rattle.session_words.specs.declared.cause.EndCause.{EndCause}
use Rattle.session_words.specs.declared.cause.EndCause.TheVariants.{NoNegotiation, Refused as PayloadRefused, WrongSide as FromWrongSide}
use Rattle.session_words.specs.declared.code.Progress.TheVariants as progress
use Rattle.session_words.specs.declared.plan.PostPlan.{PostPlan}
use Rattle.session_words.specs.declared.word.Ask.{Ask}
use Rattle.session_words.specs.declared.word.Ask.TheVariants as ask
use Rattle.session_words.specs.declared.word.Request.{Request}
use Rattle.session_rules.specs.Causes.{word_cause}
use Rattle.session_rules.specs.Lines.{first_line}
use Rattle.session_rules.specs.Moves.{stage_behind}
use Rattle.session_rules.specs.Orders.{granted_order, order_of}
use Rattle.session_rules.specs.Reply.{reply_to}
use Rattle.session_rules.specs.Stages.{is_waiting}
use Rattle.session_rules.specs.Verdict.{verdict, is_accepted}
use Rattle.post_spec.specs.Causes.{found_judged}
use Rattle.post_spec.specs.Codecs.{Judged, Negotiated, Asked, WrongSide, Refused, Codecs}
use Rattle.post_spec.specs.Contactors.{live}
use Rattle.post_spec.specs.Course.{Talked, course, facts_of}
use Rattle.post_spec.specs.Kinds.{asks_opening}
use Rattle.post_spec.specs.Sessions.{session}
use Rattle.post_spec.specs.Steps.{Give, Seen, Reading, Step, seen_of}
use Rattle.station_spec.specs.States.{Response, Said, Agenda, Part, Repeating, Timing, Eventing, Wording, Spoken, Todo, nothing, is_done, first}
use Rattle.station_spec.specs.Deciding.{opening_if}
use Rattle.station_spec.specs.Judging.{order_by}
use Rattle.read_runs.specs.Facts.{newest_event}
use Rattle.read_sessions.proofs.Starts.{starts, closes_waiting}
use Rattle.coming_causes_open.specs.Causing.{WasAsked}
use Rattle.read_agendas.specs.Rows.{again, word_asks}
use Rattle.read_agendas.specs.Left.{Left, row, left}
use Rattle.caused_ends.specs.Applying.{unmatched_by, unmatched_in, done_cause, is_repeat, is_owed, judges_heard, lateness, telling, reads_on, IsWordsTurn, OfCall, OfDeadline, OfHearing, OfFrame, OfPayload}
use Rattle.caused_ends.specs.Ending.{HasCome, FirstCause}
use Rattle.caused_ends.proofs.Rows.{Asking, Ends as AsksEnd, Tells as AsksTell, Says as AsksSay, Ending, ending_undone, absurd_bool, again_opens, late_ends, told_asks, front_ends, dead_late, dead_told, dead_front, row_or, row_done}
use Rattle.caused_ends.proofs.Hands.{hand, fronting, IsReadAt, IsReadFor, hand_left, hand_rows, hand_word}

-- the cause of a session that is to end: it came before, or it is the newest call
abbrev pub Source : Codecs → PostPlan → List Step → EndCause → Type 0
Source c plan steps k =
    HasCome c plan steps k
    ⊎ ((done_cause steps ≡ Some k) × (is_some (session (map seen_of steps)) ≡ true) × ((earlier : EndCause) → HasCome c plan steps earlier → ⊥))

-- the order that was owed was looked at
abbrev pub IsPast : Part → Type 0
IsPast Repeating = ⊥
IsPast Timing = Unit {0}
IsPast Eventing = Unit {0}
IsPast Wording = Unit {0}

-- where its cause came just now, a live contactor is opened first
abbrev pub OpensIf : Codecs → PostPlan → List Step → EndCause → Agenda → Type 0
OpensIf c plan steps k a = (HasCome c plan steps k → ⊥) → (a.datagram ≡ None) × (a.order ≡ opening_if (live (map seen_of steps)))

-- what is left behind steps
pub data Rest (c : Codecs) (plan : PostPlan) (steps : List Step) : Type 0 where
  -- no session stands
  Dead : (p : Part) → IsPast p → session (map seen_of steps) ≡ None → left plan steps ≡ record { part = p; agenda = nothing } → Rest c plan steps
  -- a hearing is the newest step
  Hearing : left plan steps ≡ record { part = Repeating; agenda = nothing } → done_cause steps ≡ None → reads_on steps ≡ false
      → judges_heard steps ≡ not (is_owed steps) → is_owed steps ≡ not (is_done (again (map seen_of steps))) → Rest c plan steps
  -- an order to open that was owed
  Repeated : left plan steps ≡ record { part = Timing; agenda = nothing } → done_cause steps ≡ None → reads_on steps ≡ false → judges_heard steps ≡ true → Rest c plan steps
  -- all that was asked for is done
  Idle : left plan steps ≡ record { part = Wording; agenda = nothing } → done_cause steps ≡ None → reads_on steps ≡ true → judges_heard steps ≡ false → Rest c plan steps
  -- a reply is left
  Owes : (x : Spoken) → left plan steps ≡ record { part = Wording; agenda = record nothing { reply = Some x } } → done_cause steps ≡ None → reads_on steps ≡ false
      → judges_heard steps ≡ false → Rest c plan steps
  -- the session has a cause
  Ends : (k : EndCause) → (left plan steps).agenda.ending ≡ Some k → (left plan steps).agenda.behind_reply ≡ None → IsPast (left plan steps).part → OpensIf c plan steps k (left plan steps).agenda → Source c plan steps k → Rest c plan steps

pub record IsKept (c : Codecs) (plan : PostPlan) (steps : List Step) : Type 0 where
  pub rest : Rest c plan steps
  pub come : (k : EndCause) → HasCome c plan steps k → (left plan steps).agenda.ending ≡ Some k

pub source_first : (c : Codecs) (plan : PostPlan) (steps : List Step) (k : EndCause) → Source c plan steps k → FirstCause c plan steps k
source_first c plan steps k (inl h) = inl h
source_first c plan steps k (inr (d, l, n)) = inr (OfCall l d, n)

-- A reply follows an order of a word, but a Close.
abbrev pub Follows : Order → Option Spoken → Type 0
Follows order.Close y = y ≡ None
Follows order.Open y = (x : Spoken) × (y ≡ Some x)
Follows (order.Limits voltage current watts) y = (x : Spoken) × (y ≡ Some x)

-- what the next step is done of, where this is read for it
pub data Hand (c : Codecs) (plan : PostPlan) (steps : List Step) (r : Option Reading) (l : Left) : Type 0 where
  Opens : l ≡ record { part = Timing; agenda = record nothing { order = Some order.Open } } → is_repeat r (Give order.Open) true ≡ true → is_owed steps ≡ true → Hand c plan steps r l
  Tells : (d : List ℕ) → l ≡ record { part = Wording; agenda = record nothing { datagram = Some d } } → Hand c plan steps r l
  Says : (x : Spoken) → l ≡ record { part = Wording; agenda = record nothing { reply = Some x } } → unmatched_in r ≡ None → Hand c plan steps r l
  Unmatched : (x : Spoken) → l ≡ record { part = Wording; agenda = record nothing { reply = Some x; behind_reply = Some NoNegotiation } } → unmatched_in r ≡ Some NoNegotiation → Hand c plan steps r l
  Gives : (o : Order) (y : Option Spoken) → l ≡ record { part = Wording; agenda = record nothing { order = Some o; reply = y } } → Follows o y → is_repeat r (Give o) true ≡ false → (o ≡ order.Open → WasAsked plan steps r) → Hand c plan steps r l
  Finishes : (k : EndCause) → l.agenda.ending ≡ Some k → l.agenda.behind_reply ≡ None → IsPast l.part → OpensIf c plan steps k l.agenda → FirstCause c plan steps k → Hand c plan steps r l

-- where it is what is to be done
abbrev HandOf : Codecs → PostPlan → List Step → Option Reading → Todo → Left → Type 0
HandOf c plan steps r todo l = first l.agenda ≡ Some todo → Hand c plan steps r l

nothing_first : (todo : Todo) → first nothing ≡ Some todo → ⊥
nothing_first todo h = cc

-- What the rows ask for.

abbrev HasRow : Codecs → PostPlan → List Step → Agenda → Type 0
HasRow c plan steps a = (k : EndCause) → a.ending ≡ Some k → FirstCause c plan steps k

ending_hand : (c : Codecs) (plan : PostPlan) (steps : List Step) (r : Option Reading) (p : Part) (a : Agenda) → IsPast p → Ending (live (map seen_of steps)) a → HasRow c plan steps a → Hand c plan steps r (record { part = p; agenda = a })
ending_hand c plan steps r p a q e h = Finishes e.cause e.ending_is e.behind_is q (λ n. (e.datagram_is, e.order_is)) (h e.cause e.ending_is)

front_hand : (c : Codecs) (plan : PostPlan) (steps : List Step) (todo : Todo) (p : Part) → HasRow c plan steps (fronting steps)
    → HandOf c plan steps None todo (first_line (row (fronting steps) Wording ∷ []) (record { part = p; agenda = nothing }))
front_hand c plan steps todo p h =
    row_or (HandOf c plan steps None todo) (fronting steps) Wording [] (record { part = p; agenda = nothing })
    (λ u f. ending_hand c plan steps None Wording (fronting steps) tt (front_ends (session (map seen_of steps)) (live (map seen_of steps)) u) h)
    (λ d f. absurd (nothing_first todo f))

asking_hand : (c : Codecs) (plan : PostPlan) (steps : List Step) (a : Agenda) → Asking (live (map seen_of steps)) a → HasRow c plan steps a → Hand c plan steps None (record { part = Wording; agenda = a })
asking_hand c plan steps a (AsksEnd e) h = ending_hand c plan steps None Wording a tt e h
asking_hand c plan steps a (AsksTell d e) h = Tells d (ap (λ (x : Agenda). record { part = Wording; agenda = x }) e)
asking_hand c plan steps a (AsksSay x e) h = Says x (ap (λ (y : Agenda). record { part = Wording; agenda = y }) e) refl

told_hand : (c : Codecs) (plan : PostPlan) (steps : List Step) (todo : Todo) (p : Part) → HasRow c plan steps (telling plan steps) → (is_done (telling plan steps) ≡ true → HasRow c plan steps (fronting steps))
    → HandOf c plan steps None todo (first_line (row (telling plan steps) Wording ∷ row (fronting steps) Wording ∷ []) (record { part = p; agenda = nothing }))
told_hand c plan steps todo p h g =
    row_or (HandOf c plan steps None todo) (telling plan steps) Wording (row (fronting steps) Wording ∷ []) (record { part = p; agenda = nothing })
    (λ u f. asking_hand c plan steps (telling plan steps) (told_asks plan (map seen_of steps) (course plan steps) (newest_event (map seen_of steps)) u) h)
    (λ d. front_hand c plan steps todo p (g d))

late_hand : (c : Codecs) (plan : PostPlan) (steps : List Step) (todo : Todo) (p : Part) → HasRow c plan steps (lateness plan steps) → (is_done (lateness plan steps) ≡ true → HasRow c plan steps (telling plan steps))
    → (is_done (lateness plan steps) ≡ true → is_done (telling plan steps) ≡ true → HasRow c plan steps (fronting steps))
    → HandOf c plan steps None todo (first_line (row (lateness plan steps) Eventing ∷ row (telling plan steps) Wording ∷ row (fronting steps) Wording ∷ []) (record { part = p; agenda = nothing }))
late_hand c plan steps todo p h t g =
    row_or (HandOf c plan steps None todo) (lateness plan steps) Eventing (row (telling plan steps) Wording ∷ row (fronting steps) Wording ∷ []) (record { part = p; agenda = nothing })
    (λ u f. ending_hand c plan steps None Eventing (lateness plan steps) tt (late_ends (course plan steps).session (session (map seen_of steps)) _ (live (map seen_of steps)) u) h)
    (λ d. told_hand c plan steps todo p (t d) (g d))

again_hand : (c : Codecs) (plan : PostPlan) (steps : List Step) (todo : Todo) (p : Part) → (is_done (again (map seen_of steps)) ≡ false → is_owed steps ≡ true)
    → (is_done (again (map seen_of steps)) ≡ true → HandOf c plan steps None todo (first_line (row (lateness plan steps) Eventing ∷ row (telling plan steps) Wording ∷ row (fronting steps) Wording ∷ []) (record { part = p; agenda = nothing })))
    → HandOf c plan steps None todo (first_line (row (again (map seen_of steps)) Timing ∷ row (lateness plan steps) Eventing ∷ row (telling plan steps) Wording ∷ row (fronting steps) Wording ∷ []) (record { part = p; agenda = nothing }))
again_hand c plan steps todo p o g =
    row_or (HandOf c plan steps None todo) (again (map seen_of steps)) Timing (row (lateness plan steps) Eventing ∷ row (telling plan steps) Wording ∷ row (fronting steps) Wording ∷ []) (record { part = p; agenda = nothing })
    (λ u f. Opens (ap (λ (x : Agenda). record { part = Timing; agenda = x }) (again_opens (map seen_of steps) u)) refl (o u))
    g

-- Where what was heard is judged each of them is the first cause.

heard_rows : (c : Codecs) (plan : PostPlan) (steps : List Step) (todo : Todo) (p : Part) → judges_heard steps ≡ true → ((k : EndCause) → HasCome c plan steps k → ⊥)
    → HandOf c plan steps None todo (first_line (row (lateness plan steps) Eventing ∷ row (telling plan steps) Wording ∷ row (fronting steps) Wording ∷ []) (record { part = p; agenda = nothing }))
heard_rows c plan steps todo p j n =
    late_hand c plan steps todo p (λ k e. inr (OfDeadline j e, n)) (λ d k e. inr (OfHearing j d e, n))
    (λ d t k e. inr (OfFrame (inl (record { judged = j; in_time = d; asks_nothing = t })) e, n))

dead_rows : (c : Codecs) (plan : PostPlan) (steps : List Step) (todo : Todo) (p : Part) → session (map seen_of steps) ≡ None → (course plan steps).session ≡ None
    → HandOf c plan steps None todo (first_line (row (lateness plan steps) Eventing ∷ row (telling plan steps) Wording ∷ row (fronting steps) Wording ∷ []) (record { part = p; agenda = nothing }))
dead_rows c plan steps todo p l s =
    late_hand c plan steps todo p
    (λ k e. absurd (dead_late (course plan steps).session (session (map seen_of steps)) _ (live (map seen_of steps)) k l e))
    (λ d k e. absurd (dead_told plan (map seen_of steps) (course plan steps) (newest_event (map seen_of steps)) k s e))
    (λ d t k e. absurd (dead_front (session (map seen_of steps)) (live (map seen_of steps)) k l e))

-- A word that was read.

close_open : order.Close ≡ order.Open → ⊥
close_open h = cc

limits_open : (a b d : ℕ) → order.Limits a b d ≡ order.Open → ⊥
limits_open a b d h = cc

-- the order to open of an accepted request is what it asked for
asks_open : (plan : PostPlan) (told shown : ℕ) (a : Ask) → granted_order plan told shown a ≡ Some order.Open → asks_opening a ≡ true
asks_open plan told shown (ask.PowerDelivery progress.Stop tuple profile) h = refl
asks_open plan told shown (ask.PowerDelivery progress.Renegotiate tuple profile) h = refl
asks_open plan told shown (ask.PowerDelivery progress.Start tuple profile) h = cc
asks_open plan told shown (ask.PreCharge ready soc voltage current) h = cc
asks_open plan told shown (ask.CurrentDemand ready soc voltage current) h = cc
asks_open plan told shown ask.ChargingStatus h = cc
asks_open plan told shown a h = cc

granted_if : (b : Bool) (o : Option Order) → (if b then o else None) ≡ Some order.Open → (b ≡ true) × (o ≡ Some order.Open)
granted_if true o h = (refl, h)
granted_if false o h = cc

abbrev reading_of : ℕ → Judged → Option Reading
reading_of shown judged = Some (record { judged = judged; shown = shown })

was_asked : (plan : PostPlan) (steps : List Step) (q : Reading) (t : Talked) (r : Request) → q.judged ≡ Asked r → (course plan steps).session ≡ Some t → order_of t.stage (facts_of (map seen_of steps) (course plan steps)) plan r q.shown ≡ Some order.Open → WasAsked plan steps (Some q)
was_asked plan steps q t r e s h =
    let g = granted_if (is_accepted (verdict t.stage (facts_of (map seen_of steps) (course plan steps)) plan r)) (granted_order plan t.stage.told q.shown r.ask) h in
    record { talked = t; request = r; shown = q.shown; session_is = s; reading_is = ap (reading_of q.shown) e; accepted = g.0; opening = asks_open plan t.stage.told q.shown r.ask g.1 }

asked_hand : (c : Codecs) (plan : PostPlan) (steps : List Step) (q : Reading) (todo : Todo) (o : Option EndCause) (ord : Option Order) (w : Bool) (said : Spoken) → unmatched_by q.judged ≡ None → ((k : EndCause) → o ≡ Some k → FirstCause c plan steps k)
    → (ord ≡ Some order.Close → w ≡ true) → (w ≡ true → ord ≡ Some order.Close) → (ord ≡ Some order.Open → WasAsked plan steps (Some q))
    → HandOf c plan steps (Some q) todo (record { part = Wording; agenda = record nothing { order = order_by o (live (map seen_of steps)) ord; reply = if w then None else Some said; ending = o } })
asked_hand c plan steps q todo (Some k) ord w said u h f g p e = Finishes k refl refl tt (λ n. (refl, refl)) (h k refl)
asked_hand c plan steps q todo None None true said u h f g p e = absurd (let x : None ≡ Some order.Close = g refl in cc)
asked_hand c plan steps q todo None None false said u h f g p e = Says said refl u
asked_hand c plan steps q todo None (Some order.Close) true said u h f g p e = Gives order.Close None refl refl refl (λ x. absurd (close_open x))
asked_hand c plan steps q todo None (Some order.Close) false said u h f g p e = absurd (let x : false ≡ true = f refl in cc)
asked_hand c plan steps q todo None (Some order.Open) true said u h f g p e = absurd (let x : Some order.Open ≡ Some order.Close = g refl in cc)
asked_hand c plan steps q todo None (Some order.Open) false said u h f g p e = Gives order.Open (Some said) refl (said, refl) refl (λ x. p refl)
asked_hand c plan steps q todo None (Some (order.Limits a b d)) true said u h f g p e = absurd (let x : Some (order.Limits a b d) ≡ Some order.Close = g refl in cc)
asked_hand c plan steps q todo None (Some (order.Limits a b d)) false said u h f g p e = Gives (order.Limits a b d) (Some said) refl (said, refl) refl (λ x. absurd (limits_open a b d x))

judged_hand : (c : Codecs) (plan : PostPlan) (steps : List Step) (q : Reading) (todo : Todo) (t : Talked) (x : Judged) → q.judged ≡ x → (course plan steps).session ≡ Some t → is_waiting t.stage.row ≡ false
    → ((k : EndCause) → word_cause false (found_judged t (map seen_of steps) (course plan steps) plan x) ≡ Some k → FirstCause c plan steps k)
    → HandOf c plan steps (Some q) todo (record { part = Wording; agenda = word_asks plan t (map seen_of steps) (course plan steps) x q.shown })
judged_hand c plan steps q todo t (Negotiated None response) e v w h f = Unmatched (Response response) refl (ap unmatched_by e)
judged_hand c plan steps q todo t (Negotiated (Some dialect) response) e v w h f = Says (Response response) refl (ap unmatched_by e)
judged_hand c plan steps q todo t (Asked r) e v w h f =
    asked_hand c plan steps q todo (word_cause false (found_judged t (map seen_of steps) (course plan steps) plan (Asked r)))
    (order_of t.stage (facts_of (map seen_of steps) (course plan steps)) plan r q.shown)
    (is_waiting (stage_behind t.stage (facts_of (map seen_of steps) (course plan steps)) plan r q.shown).row)
    (Said t.stage.dialect (reply_to t.stage (facts_of (map seen_of steps) (course plan steps)) plan r q.shown)) (ap unmatched_by e) h
    (λ z. closes_waiting None (live (map seen_of steps)) t.stage (facts_of (map seen_of steps) (course plan steps)) plan r q.shown z)
    (λ z. let s = starts t.stage (facts_of (map seen_of steps) (course plan steps)) plan r q.shown w z in s.order)
    (λ z. was_asked plan steps q t r e v z) f
judged_hand c plan steps q todo t WrongSide e v w h f = Finishes FromWrongSide refl refl tt (λ n. (refl, refl)) (h FromWrongSide refl)
judged_hand c plan steps q todo t Refused e v w h f = Finishes PayloadRefused refl refl tt (λ n. (refl, refl)) (h PayloadRefused refl)

word_hand : (c : Codecs) (plan : PostPlan) (steps : List Step) (q : Reading) (todo : Todo) → IsReadAt c plan steps q → IsWordsTurn plan steps → ((k : EndCause) → HasCome c plan steps k → ⊥) → HandOf c plan steps (Some q) todo (hand plan steps (Some q))
word_hand c plan steps q todo i turn n =
    subst (HandOf c plan steps (Some q) todo) (sym (hand_word c plan steps q i))
    (judged_hand c plan steps q todo i.t q.judged refl i.course_is i.goes
    (λ k e. inr (OfPayload turn (record { t = i.t; es = i.es; judged = q.judged; course_is = i.course_is; session_is = i.session_is; at_front = i.at_front; cause_is = e }), n)))

-- Behind each rest.

no_come : (c : Codecs) (plan : PostPlan) (steps : List Step) → IsKept c plan steps → (p : Part) → left plan steps ≡ record { part = p; agenda = nothing } → (k : EndCause) → HasCome c plan steps k → ⊥
no_come c plan steps i p e k h = let x : None ≡ Some k = sym (ap (λ (l : Left). l.agenda.ending) e) ∙ i.come k h in cc

none_some : (o : Option (List Seen)) (es : List Seen) → o ≡ None → o ≡ Some es → ⊥
none_some None es h k = cc
none_some (Some x) es h k = cc

dead_hand : (c : Codecs) (plan : PostPlan) (steps : List Step) (todo : Todo) (p : Part) → IsPast p → session (map seen_of steps) ≡ None → (course plan steps).session ≡ None → left plan steps ≡ record { part = p; agenda = nothing } → HandOf c plan steps None todo (hand plan steps None)
dead_hand c plan steps todo Repeating y l s e = absurd y
dead_hand c plan steps todo Timing y l s e = subst (HandOf c plan steps None todo) (sym (hand_rows plan steps Timing nothing e refl)) (dead_rows c plan steps todo Timing l s)
dead_hand c plan steps todo Eventing y l s e =
    subst (HandOf c plan steps None todo) (sym (hand_rows plan steps Eventing nothing e refl))
    (told_hand c plan steps todo Eventing (λ k h. absurd (dead_told plan (map seen_of steps) (course plan steps) (newest_event (map seen_of steps)) k s h))
    (λ d k h. absurd (dead_front (session (map seen_of steps)) (live (map seen_of steps)) k l h)))
dead_hand c plan steps todo Wording y l s e =
    subst (HandOf c plan steps None todo) (sym (hand_rows plan steps Wording nothing e refl)) (front_hand c plan steps todo Wording (λ k h. absurd (dead_front (session (map seen_of steps)) (live (map seen_of steps)) k l h)))

not_owed : (j o d : Bool) → j ≡ not o → o ≡ not d → d ≡ true → j ≡ true
not_owed j o d e f g = e ∙ ap not f ∙ ap (λ (b : Bool). not (not b)) g

is_owing : (o d : Bool) → o ≡ not d → d ≡ false → o ≡ true
is_owing o d e f = e ∙ ap not f

pub hearing_hand : (c : Codecs) (plan : PostPlan) (steps : List Step) (todo : Todo) → IsKept c plan steps → left plan steps ≡ record { part = Repeating; agenda = nothing } → judges_heard steps ≡ not (is_owed steps) → is_owed steps ≡ not (is_done (again (map seen_of steps))) → HandOf c plan steps None todo (hand plan steps None)
hearing_hand c plan steps todo i e j o =
    subst (HandOf c plan steps None todo) (sym (hand_rows plan steps Repeating nothing e refl))
    (again_hand c plan steps todo Repeating (λ u. is_owing (is_owed steps) (is_done (again (map seen_of steps))) o u)
    (λ d. heard_rows c plan steps todo Repeating (not_owed (judges_heard steps) (is_owed steps) (is_done (again (map seen_of steps))) j o d) (no_come c plan steps i Repeating e)))

pub repeated_hand : (c : Codecs) (plan : PostPlan) (steps : List Step) (todo : Todo) → IsKept c plan steps → left plan steps ≡ record { part = Timing; agenda = nothing } → judges_heard steps ≡ true → HandOf c plan steps None todo (hand plan steps None)
repeated_hand c plan steps todo i e j =
    subst (HandOf c plan steps None todo) (sym (hand_rows plan steps Timing nothing e refl)) (heard_rows c plan steps todo Timing j (no_come c plan steps i Timing e))

pub idle_hand : (c : Codecs) (plan : PostPlan) (steps : List Step) (todo : Todo) → IsKept c plan steps → left plan steps ≡ record { part = Wording; agenda = nothing } → reads_on steps ≡ true → HandOf c plan steps None todo (hand plan steps None)
idle_hand c plan steps todo i e on =
    subst (HandOf c plan steps None todo) (sym (hand_rows plan steps Wording nothing e refl)) (front_hand c plan steps todo Wording (λ k h. inr (OfFrame (inr on) h, no_come c plan steps i Wording e)))

-- where a word was read no row asks for anything
rows_turn : (plan : PostPlan) (steps : List Step) (p : Part) → judges_heard steps ≡ true → is_done (first_line (row (lateness plan steps) Eventing ∷ row (telling plan steps) Wording ∷ row (fronting steps) Wording ∷ []) (record { part = p; agenda = nothing })).agenda ≡ true → IsWordsTurn plan steps
rows_turn plan steps p j h =
    let x = row_done (lateness plan steps) Eventing (row (telling plan steps) Wording ∷ row (fronting steps) Wording ∷ []) (record { part = p; agenda = nothing }) h in
    let y = row_done (telling plan steps) Wording (row (fronting steps) Wording ∷ []) (record { part = p; agenda = nothing }) x.1 in
    inl (record { judged = j; in_time = x.0; asks_nothing = y.0 })

hearing_turn : (plan : PostPlan) (steps : List Step) → left plan steps ≡ record { part = Repeating; agenda = nothing } → judges_heard steps ≡ not (is_owed steps) → is_owed steps ≡ not (is_done (again (map seen_of steps))) → is_done (hand plan steps None).agenda ≡ true → IsWordsTurn plan steps
hearing_turn plan steps e j o h =
    let x = row_done (again (map seen_of steps)) Timing (row (lateness plan steps) Eventing ∷ row (telling plan steps) Wording ∷ row (fronting steps) Wording ∷ []) (record { part = Repeating; agenda = nothing }) (sym (ap (λ (l : Left). is_done l.agenda) (hand_rows plan steps Repeating nothing e refl)) ∙ h) in
    rows_turn plan steps Repeating (not_owed (judges_heard steps) (is_owed steps) (is_done (again (map seen_of steps))) j o x.0) x.1

repeated_turn : (plan : PostPlan) (steps : List Step) → left plan steps ≡ record { part = Timing; agenda = nothing } → judges_heard steps ≡ true → is_done (hand plan steps None).agenda ≡ true → IsWordsTurn plan steps
repeated_turn plan steps e j h = rows_turn plan steps Timing j (sym (ap (λ (l : Left). is_done l.agenda) (hand_rows plan steps Timing nothing e refl)) ∙ h)

owes_unread : (c : Codecs) (plan : PostPlan) (steps : List Step) (r : Option Reading) → is_done (left plan steps).agenda ≡ false → IsReadFor c plan steps r → unmatched_in r ≡ None
owes_unread c plan steps None d i = refl
owes_unread c plan steps (Some q) d i = absurd_bool (is_done (left plan steps).agenda) i.left_done d

abbrev OpensLeft : Codecs → PostPlan → List Step → EndCause → Left → Type 0
OpensLeft c plan steps k l = OpensIf c plan steps k l.agenda

rest_hand : (c : Codecs) (plan : PostPlan) (steps : List Step) (r : Option Reading) (todo : Todo) → IsKept c plan steps → (session (map seen_of steps) ≡ None → (course plan steps).session ≡ None) → IsReadFor c plan steps r → Rest c plan steps → HandOf c plan steps r todo (hand plan steps r)
rest_hand c plan steps r todo i s read (Ends k e b y v src) f =
    let h = hand_left plan steps r (ending_undone (left plan steps).agenda k e) in
    Finishes k (ap (λ (l : Left). l.agenda.ending) h ∙ e) (ap (λ (l : Left). l.agenda.behind_reply) h ∙ b) (subst IsPast (sym (ap (λ (l : Left). l.part) h)) y) (subst (OpensLeft c plan steps k) (sym h) v) (source_first c plan steps k src)
rest_hand c plan steps r todo i s read (Owes x e d o j) f =
    let undone : is_done (left plan steps).agenda ≡ false = ap (λ (l : Left). is_done l.agenda) e in
    Says x (hand_left plan steps r undone ∙ e) (owes_unread c plan steps r undone read)
rest_hand c plan steps None todo i s read (Dead p y l e) f = dead_hand c plan steps todo p y l (s l) e f
rest_hand c plan steps (Some q) todo i s read (Dead p y l e) f = absurd (none_some (session (map seen_of steps)) read.es l read.session_is)
rest_hand c plan steps None todo i s read (Hearing e d o j w) f = hearing_hand c plan steps todo i e j w f
rest_hand c plan steps (Some q) todo i s read (Hearing e d o j w) f = word_hand c plan steps q todo read (hearing_turn plan steps e j w read.rows_done) (no_come c plan steps i Repeating e) f
rest_hand c plan steps None todo i s read (Repeated e d o j) f = repeated_hand c plan steps todo i e j f
rest_hand c plan steps (Some q) todo i s read (Repeated e d o j) f = word_hand c plan steps q todo read (repeated_turn plan steps e j read.rows_done) (no_come c plan steps i Timing e) f
rest_hand c plan steps None todo i s read (Idle e d o j) f = idle_hand c plan steps todo i e o f
rest_hand c plan steps (Some q) todo i s read (Idle e d o j) f = word_hand c plan steps q todo read (inr o) (no_come c plan steps i Wording e) f

pub kept_hand : (c : Codecs) (plan : PostPlan) (steps : List Step) (r : Option Reading) (todo : Todo) → IsKept c plan steps → (session (map seen_of steps) ≡ None → (course plan steps).session ≡ None) → IsReadFor c plan steps r → first (hand plan steps r).agenda ≡ Some todo → Hand c plan steps r (hand plan steps r)
kept_hand c plan steps r todo i s read f = rest_hand c plan steps r todo i s read i.rest f
