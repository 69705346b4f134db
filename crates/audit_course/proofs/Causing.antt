-- Which causes come with a step.
use Rattle.std.proofs.Common.{◌≡◌, ◌⊎◌, inl, inr, ◌↔◌, ℕ, ◌≤◌, ◌<◌, ◌==◌, Bool, true, false, List, [], ◌∷◌, Option, Some, None, refl, sym, ap, subst, ◌∙◌}
use Rattle.std.specs.Prelude.{not, ◌&&◌, ◌||◌, if◌then◌else◌, is_some, IsTrue, SomeIff}
use Rattle.std.specs.Option.{option_map}
use Rattle.std.proofs.lemmas.Bool.{and_parts}
use Rattle.charge_world.specs.declared.heard.What.{What}
use Rattle.charge_world.specs.declared.heard.What.TheVariants as what
use Rattle.charge_world.specs.declared.ports.Order.{Order}
use Rattle.charge_world.specs.declared.ports.Order.TheVariants as order
use Rattle.session_words.specs.declared.cause.EndCause.{EndCause}
use Rattle.session_words.specs.declared.cause.Timeout.{Timeout}
use Rattle.session_words.specs.declared.phase.Standing.{Standing}
use Rattle.session_words.specs.declared.plan.PostPlan.{PostPlan}
use Rattle.session_rules.specs.declared.causes.Watch.{Watch}
use Rattle.session_rules.specs.Causes.{word_cause}
use Rattle.session_rules.specs.Stages.{is_set_up}
use Rattle.session_timers.specs.Due.{never}
use Rattle.post_spec.specs.Causes.{due, running, is_set_up_in, found_word, watch}
use Rattle.post_spec.specs.Codecs.{Negotiated, Asked, WrongSide, Refused}
use Rattle.post_spec.specs.Contactors as contactors
use Rattle.post_spec.specs.Course.{Talked, Course, facts_of}
use Rattle.post_spec.specs.Facts.{now}
use Rattle.post_spec.specs.Sessions.{session, waits}
use Rattle.post_spec.specs.Steps.{Event, Came, Bytes, Gone, Datagram, Plant, Clock, Over, Give, Send, Answer, End, Seen, Reading, event_at}
use Rattle.post_spec.specs.Words.{HeardWord, Payload, Fault}
use Rattle.told_pasts.specs.Causes.{heard_cause, ComesNext, ComesWith, IsDue, IsHeard, HasNotSent, HasNotDriven, HasNoMatch, IsWord}
use Rattle.told_pasts.specs.Course.{told_course}
use Rattle.told_pasts.specs.Reading.{IsNext}
use Rattle.told_pasts.specs.Spelling.{ToldCodecs}
use Rattle.told_pasts.specs.Steps.{Said, Response, Replied, Other, Unasked, ToldStep, Hears, Does, Sends, seen_in}
use Rattle.audit_causes.specs.Values.{Comes}
use Rattle.audit_sessions.specs.declared.values.Moments.{Moments}
use Rattle.audit_sessions.specs.declared.values.SessionValues.{SessionValues}
use Rattle.audit_sessions.specs.Due.{IsReached}
use Rattle.audit_sessions.specs.Values.{IsSession, AreSeen}
use Rattle.audit_course.specs.declared.course.CourseValues.{CourseValues}
use Rattle.audit_course.specs.declared.words.NextWord.{NextWord}
use Rattle.audit_course.specs.declared.words.Saying.{Saying}
use Rattle.audit_course.specs.Coming.{Knows, found_as, waits_in, cause_of_word, cause_of_event, cause_heard, brings, IsDueNow, WordComes, is_close, is_unmatched}
use Rattle.audit_course.specs.Values.{course_of, word_as, said_as, IsNextWord}

differ : false ≡ true → ⊥
differ h = cc

-- ---- of tests

both : {A B : Type 0} (a b : Bool) → (IsTrue a ↔ A) → (IsTrue b ↔ B) → IsTrue (a && b) ↔ (A × B)
both true b h k = (λ is. (h.0 refl, k.0 is), λ p. k.1 p.1)
both false b h k = (λ is. absurd (differ is), λ p. absurd (differ (h.1 p.0)))

either : {A B : Type 0} (a b : Bool) → (IsTrue a ↔ A) → (IsTrue b ↔ B) → IsTrue (a || b) ↔ (A ⊎ B)
either true b h k = (λ is. inl (h.0 refl), λ p. refl)
either false b h k = (λ is. inr (k.0 is), λ p. elim p [ inl a ↦ absurd (differ (h.1 a)) | inr c ↦ k.1 c ])

not_so : IsTrue false ↔ ⊥
not_so = (λ is. differ is, λ p. absurd p)

is_so : IsTrue true ↔ Unit {0}
is_so = (λ is. tt, λ p. refl)

same_as : {A : Type 0} (a b : Bool) → a ≡ b → (IsTrue b ↔ A) → IsTrue a ↔ A
same_as a b is h = (λ t. h.0 (sym is ∙ t), λ p. is ∙ h.1 p)

the_some : {A : Type 0} (o : Option A) → is_some o ≡ true → (a : A) × (o ≡ Some a)
the_some None is = absurd (differ is)
the_some (Some a) is = (a, refl)

is_one : {A : Type 0} (o : Option A) (a : A) → o ≡ Some a → is_some o ≡ true
is_one {A = A} o a is = ap (λ (p : Option A). is_some p) is

-- ---- of a session

lives_same : (at : ℕ) (s : Option (List Seen)) (m : Option Moments) → IsSession at s m → is_some m ≡ is_some s
lives_same at None None h = refl
lives_same at None (Some m) h = absurd h
lives_same at (Some es) None h = absurd h
lives_same at (Some es) (Some m) h = refl

abbrev waits_of : Option (List Seen) → Bool
waits_of None = false
waits_of (Some es) = waits es

waits_same : (at : ℕ) (s : Option (List Seen)) (m : Option Moments) (es : List Seen) → IsSession at s m → s ≡ Some es → waits_in m ≡ waits es
waits_same at None m es h is = absurd (differ (ap (λ (o : Option (List Seen)). is_some o) is))
waits_same at (Some fs) None es h is = absurd h
waits_same at (Some fs) (Some m) es h is = h.waits_is ∙ ap (λ (o : Option (List Seen)). waits_of o) is

-- ---- a deadline

none_some : {A : Type 0} (a : A) → None ≡ Some a → ⊥
none_some {A = A} a is = differ (ap (λ (o : Option A). is_some o) is)

or_false : (b : Bool) → (b || false) ≡ b
or_false true = refl
or_false false = refl

unsome : {A : Type 0} (a b : A) → Some a ≡ Some b → a ≡ b
unsome a b is = cc

reached_same : (t : Talked) (past : List Seen) (d : IsDueNow (Some t) past) → IsReached t past d.es
reached_same t past d =
    let same : d.t ≡ t = sym (unsome t d.t d.talked_is) in
    record {
      session_is = d.session_is;
      reached = subst (λ (u : Talked). due (Some u) d.es ≤ now past) same d.reached;
      bound = subst (λ (u : Talked). due (Some u) d.es < never) same d.bound;
    }

due_some : (t : Talked) (past : List Seen) (v : SessionValues) (r : Option Timeout) (set_up : Bool) → AreSeen past v → is_set_up t.stage.row ≡ set_up
    → ((es : List Seen) → session past ≡ Some es → SomeIff r (IsReached t past es) (running set_up (waits es)))
    → IsTrue (is_some v.session && is_some r) ↔ IsDueNow (Some t) past
due_some t past v None set_up seen set told = (
  λ is. absurd (differ (and_parts (is_some v.session) false is).1),
  λ d. absurd (told d.es d.session_is (reached_same t past d)),
)
due_some t past v (Some timeout) set_up seen set told = (
  λ is. (let lives = lives_same (now past) (session past) v.session seen.session_is in
      let found = the_some (session past) (sym lives ∙ (and_parts (is_some v.session) true is).0) in
      let reached = (told found.0 found.1).0 in
      record { t = t; es = found.0; talked_is = refl; session_is = found.1; reached = reached.reached; bound = reached.bound }),
  λ d. ap (λ (b : Bool). b && true) (lives_same (now past) (session past) v.session seen.session_is ∙ is_one (session past) d.es d.session_is),
)

pub due_told : (o : Option Talked) (past : List Seen) (v : SessionValues) (r : Option Timeout) (set_up talking lives has all : Bool) → AreSeen past v → set_up ≡ is_set_up_in o
    → ((es : List Seen) (t : Talked) → session past ≡ Some es → is_set_up t.stage.row ≡ set_up → SomeIff r (IsReached t past es) (running set_up (waits es)))
    → talking ≡ is_some o → lives ≡ is_some v.session → has ≡ is_some r → all ≡ (talking && (lives && has)) → IsTrue all ↔ IsDueNow o past
due_told None past v r set_up talking lives has all seen set told talks_is lives_is has_is all_is =
    same_as all false (all_is ∙ ap (λ (b : Bool). b && (lives && has)) talks_is) (λ is. absurd (differ is), λ d. absurd (none_some d.t d.talked_is))
due_told (Some t) past v r set_up talking lives has all seen set told talks_is lives_is has_is all_is =
    same_as all (is_some v.session && is_some r)
    (all_is ∙ ap (λ (b : Bool). b && (lives && has)) talks_is ∙ ap (λ (b : Bool). b && has) lives_is ∙ ap (λ (b : Bool). is_some v.session && b) has_is)
    (due_some t past v r set_up seen (sym set) (λ es is. told es t is (sym set)))

-- ---- a hearing

event_same : (plan : PostPlan) (t : Talked) (past : List Seen) (at : ℕ) (event : Event)
    → heard_cause plan t past at event ≡ cause_of_event (watch plan t past (contactors.live past) at) event
event_same plan t past at (Came token) = refl
event_same plan t past at (Bytes bytes) = refl
event_same plan t past at Gone = refl
event_same plan t past at (Datagram bytes) = refl
event_same plan t past at (Plant event) = refl
event_same plan t past at Clock = refl
event_same plan t past at Over = refl

piece : (mine : Bool) (bytes : List ℕ) (w : Watch) → cause_of_event w (if mine then Bytes [] else Clock) ≡ cause_of_event w (if mine then Bytes bytes else Clock)
piece true bytes w = refl
piece false bytes w = refl

datagram : (mine : Bool) (bytes : List ℕ) (w : Watch) → cause_of_event w (if mine then Datagram [] else Clock) ≡ cause_of_event w (if mine then Datagram bytes else Clock)
datagram true bytes w = refl
datagram false bytes w = refl

no_bytes : (k : ℕ) (heard : What) (bytes : List ℕ) (w : Watch) → cause_of_event w (event_at k heard []) ≡ cause_of_event w (event_at k heard bytes)
no_bytes k (what.Came post token) bytes w = refl
no_bytes k (what.Bytes post n) bytes w = piece (post == k) bytes w
no_bytes k (what.Gone post) bytes w = refl
no_bytes k (what.Datagram post n) bytes w = datagram (post == k) bytes w
no_bytes k (what.Plant post event) bytes w = refl
no_bytes k what.Tick bytes w = refl
no_bytes k what.Over bytes w = refl

record HeardComes (plan : PostPlan) (o : Option Talked) (past : List Seen) (at : ℕ) (event : Event) : Type 0 where
  t : Talked
  cause : EndCause
  talked_is : o ≡ Some t
  cause_is : heard_cause plan t past at event ≡ Some cause

heard_cases : (plan : PostPlan) (o : Option Talked) (past : List Seen) (k at : ℕ) (heard : What) (bytes : List ℕ)
    → IsTrue (is_some (cause_heard o plan (contactors.standing past) (contactors.live past) at (event_at k heard []))) ↔ HeardComes plan o past at (event_at k heard bytes)
heard_cases plan None past k at heard bytes = (λ is. absurd (differ is), λ h. absurd (none_some h.t h.talked_is))
heard_cases plan (Some t) past k at heard bytes =
    let same : heard_cause plan t past at (event_at k heard bytes) ≡ cause_of_event (watch plan t past (contactors.live past) at) (event_at k heard []) =
    event_same plan t past at (event_at k heard bytes) ∙ sym (no_bytes k heard bytes (watch plan t past (contactors.live past) at)) in (
      λ is. (let found = the_some (cause_of_event (watch plan t past (contactors.live past) at) (event_at k heard [])) is in
          record { t = t; cause = found.0; talked_is = refl; cause_is = same ∙ found.1 }),
      λ h. ap (λ (o : Option EndCause). is_some o) (sym same)
          ∙ is_one (heard_cause plan t past at (event_at k heard bytes)) h.cause
          (ap (λ (u : Talked). heard_cause plan u past at (event_at k heard bytes)) (unsome t h.t h.talked_is) ∙ h.cause_is),
    )

-- ---- the next word

found_same : (t : Talked) (past : List Seen) (c : Course) (plan : PostPlan) (word : HeardWord) → found_as t.stage (facts_of past c) plan (word_as word) ≡ found_word t past c plan word
found_same t past c plan (Payload (Negotiated chosen response)) = refl
found_same t past c plan (Payload (Asked r)) = refl
found_same t past c plan (Payload WrongSide) = refl
found_same t past c plan (Payload Refused) = refl
found_same t past c plan (Fault fault) = refl

judged_same : (c : ToldCodecs) (plan : PostPlan) (steps : List ToldStep) (t : Talked) (v : SessionValues) (word : HeardWord) → AreSeen (seen_in steps) v
    → (next : IsNext c.words plan.dialects.items (seen_in steps) word)
    → word_cause (waits_in v.session) (found_as t.stage (facts_of (seen_in steps) (told_course plan steps)) plan (word_as word))
    ≡ word_cause (waits next.es) (found_word t (seen_in steps) (told_course plan steps) plan word)
judged_same c plan steps t v word seen next =
    ap (λ (b : Bool). word_cause b (found_as t.stage (facts_of (seen_in steps) (told_course plan steps)) plan (word_as word)))
    (waits_same (now (seen_in steps)) (session (seen_in steps)) v.session next.es seen.session_is next.hearing.session_is)
    ∙ ap (λ f. word_cause (waits next.es) f) (found_same t (seen_in steps) (told_course plan steps) plan word)

word_cases : (c : ToldCodecs) (plan : PostPlan) (steps : List ToldStep) (o : Option Talked) (v : SessionValues) (next : Option NextWord) → o ≡ (told_course plan steps).session
    → AreSeen (seen_in steps) v → IsNextWord c plan steps next
    → IsTrue (is_some (cause_of_word o (waits_in v.session) (facts_of (seen_in steps) (told_course plan steps)) plan next)) ↔ WordComes c plan steps
word_cases c plan steps None v next talked seen told = (λ is. absurd (differ is), λ w. absurd (none_some w.t (talked ∙ w.course_is)))
word_cases c plan steps (Some t) v None talked seen told = (λ is. absurd (differ is), λ w. absurd (none_some (word_as w.word) (told.told w.word w.next)))
word_cases c plan steps (Some t) v (Some it) talked seen told = (
  λ is. (let found = the_some (word_cause (waits_in v.session) (found_as t.stage (facts_of (seen_in steps) (told_course plan steps)) plan it)) is in
      let word = told.is in
      record {
        t = t;
        word = word.0;
        cause = found.0;
        course_is = sym talked;
        next = word.1;
        judged = sym (judged_same c plan steps t v word.0 seen word.1)
            ∙ ap (λ (w : NextWord). word_cause (waits_in v.session) (found_as t.stage (facts_of (seen_in steps) (told_course plan steps)) plan w))
            (sym (unsome it (word_as word.0) (told.told word.0 word.1)))
            ∙ found.1;
      }),
  λ w. is_one (word_cause (waits_in v.session) (found_as t.stage (facts_of (seen_in steps) (told_course plan steps)) plan it)) w.cause
      (ap (λ (n : NextWord). word_cause (waits_in v.session) (found_as t.stage (facts_of (seen_in steps) (told_course plan steps)) plan n))
      (unsome it (word_as w.word) (told.told w.word w.next))
      ∙ judged_same c plan steps t v w.word seen w.next
      ∙ ap (λ (u : Talked). word_cause (waits w.next.es) (found_word u (seen_in steps) (told_course plan steps) plan w.word)) (unsome t w.t (talked ∙ w.course_is))
      ∙ w.judged),
)

word_told : (c : ToldCodecs) (plan : PostPlan) (steps : List ToldStep) (course : CourseValues) (v : SessionValues) (stands : Standing) (next : Option NextWord) (cause : Option EndCause) (has : Bool)
    → Knows c plan steps course v stands next
    → cause ≡ cause_of_word (course_of course).session (waits_in v.session) (facts_of (seen_in steps) (course_of course)) plan next → has ≡ is_some cause
    → IsTrue has ↔ WordComes c plan steps
word_told c plan steps course v stands next cause has k is has_is =
    same_as has (is_some (cause_of_word (course_of course).session (waits_in v.session) (facts_of (seen_in steps) (told_course plan steps)) plan next))
    (has_is ∙ ap (λ (o : Option EndCause). is_some o) (is ∙ ap (λ (d : Course). cause_of_word (course_of course).session (waits_in v.session) (facts_of (seen_in steps) d) plan next) k.course_is))
    (word_cases c plan steps (course_of course).session v next (ap (λ (d : Course). d.session) k.course_is) k.seen_is k.next_is)

-- ---- a cause is one from outside the words, or the next word

abbrev Lives : List Seen → Type 0
Lives past = (es : List Seen) × (session past ≡ Some es)

abbrev Unmatched : Said → Type 0
Unmatched (Response None positive) = Unit {0}
Unmatched (Response (Some dialect) positive) = ⊥
Unmatched (Replied request reply watts) = ⊥
Unmatched Other = ⊥
Unmatched Unasked = ⊥

abbrev Outside : PostPlan → List ToldStep → Type 0
Outside plan [] = ⊥
Outside plan (Hears at event ∷ steps) =
    IsDueNow (told_course plan (Hears at event ∷ steps)).session (seen_in (Hears at event ∷ steps))
    ⊎ HeardComes plan (told_course plan (Hears at event ∷ steps)).session (seen_in steps) at event
Outside plan (Does reading (Give given) false ∷ steps) = Lives (seen_in steps)
Outside plan (Does reading (Give given) true ∷ steps) = ⊥
Outside plan (Does reading (Send bytes) taken ∷ steps) = ⊥
Outside plan (Does reading (Answer bytes) taken ∷ steps) = ⊥
Outside plan (Does reading (End cause) taken ∷ steps) = ⊥
Outside plan (Sends reading bytes false said ∷ steps) = Lives (seen_in steps)
Outside plan (Sends reading bytes true said ∷ steps) = Unmatched said

split : (c : ToldCodecs) (plan : PostPlan) (steps : List ToldStep) (cause : EndCause) → ComesWith c plan steps cause → Outside plan steps ⊎ (ComesNext steps × WordComes c plan steps)
split c plan steps cause (IsDue at event before t es course_is session_is reached bound) =
    inl (inl (record { t = t; es = es; talked_is = course_is; session_is = session_is; reached = reached; bound = bound }))
split c plan steps cause (IsHeard at event before t it course_is is) = inl (inr (record { t = t; cause = it; talked_is = course_is; cause_is = is }))
split c plan steps cause (HasNotSent reading bytes said before es session_is) = inl (es, session_is)
split c plan steps cause (HasNotDriven reading given before es session_is) = inl (es, session_is)
split c plan steps cause (HasNoMatch reading bytes positive before) = inl tt
split c plan steps cause (IsWord before t word it comes course_is next judged) =
    inr (comes, record { t = t; word = word; cause = it; course_is = course_is; next = next; judged = judged })

unmatched_comes : (c : ToldCodecs) (plan : PostPlan) (steps : List ToldStep) (reading : Option Reading) (bytes : List ℕ) (said : Said) → Unmatched said
    → Comes c plan (Sends reading bytes true said ∷ steps)
unmatched_comes c plan steps reading bytes (Response None positive) u = (_, HasNoMatch reading bytes positive steps)
unmatched_comes c plan steps reading bytes (Response (Some dialect) positive) u = absurd u
unmatched_comes c plan steps reading bytes (Replied request reply watts) u = absurd u
unmatched_comes c plan steps reading bytes Other u = absurd u
unmatched_comes c plan steps reading bytes Unasked u = absurd u

from_outside : (c : ToldCodecs) (plan : PostPlan) (steps : List ToldStep) → Outside plan steps → Comes c plan steps
from_outside c plan [] o = absurd o
from_outside c plan (Hears at event ∷ steps) o = elim o [
  | inl d ↦ (_, IsDue at event steps d.t d.es d.talked_is d.session_is d.reached d.bound)
  | inr h ↦ (h.cause, IsHeard at event steps h.t h.cause h.talked_is h.cause_is)
]
from_outside c plan (Does reading (Give given) false ∷ steps) o = (_, HasNotDriven reading given steps o.0 o.1)
from_outside c plan (Does reading (Give given) true ∷ steps) o = absurd o
from_outside c plan (Does reading (Send bytes) taken ∷ steps) o = absurd o
from_outside c plan (Does reading (Answer bytes) taken ∷ steps) o = absurd o
from_outside c plan (Does reading (End cause) taken ∷ steps) o = absurd o
from_outside c plan (Sends reading bytes false said ∷ steps) o = (_, HasNotSent reading bytes said steps o.0 o.1)
from_outside c plan (Sends reading bytes true said ∷ steps) o = unmatched_comes c plan steps reading bytes said o

comes_by : (c : ToldCodecs) (plan : PostPlan) (steps : List ToldStep) (outside next word any : Bool) → (IsTrue outside ↔ Outside plan steps) → (IsTrue next ↔ ComesNext steps)
    → (IsTrue word ↔ WordComes c plan steps) → any ≡ (outside || (next && word)) → IsTrue any ↔ Comes c plan steps
comes_by c plan steps outside next word any out on is any_is =
    let parts = same_as any (outside || (next && word)) any_is (either outside (next && word) out (both next word on is)) in (
      λ t. elim (parts.0 t) [ inl o ↦ from_outside c plan steps o | inr w ↦ (w.1.cause, IsWord steps w.1.t w.1.word w.1.cause w.0 w.1.course_is w.1.next w.1.judged) ],
      λ has. parts.1 (split c plan steps has.0 has.1),
    )

-- ---- with a hearing

brings_piece : (mine : Bool) (bytes : List ℕ) → brings (if mine then Bytes [] else Clock) ≡ brings (if mine then Bytes bytes else Clock)
brings_piece true bytes = refl
brings_piece false bytes = refl

brings_datagram : (mine : Bool) (bytes : List ℕ) → brings (if mine then Datagram [] else Clock) ≡ brings (if mine then Datagram bytes else Clock)
brings_datagram true bytes = refl
brings_datagram false bytes = refl

brings_same : (k : ℕ) (heard : What) (bytes : List ℕ) → brings (event_at k heard []) ≡ brings (event_at k heard bytes)
brings_same k (what.Came post token) bytes = refl
brings_same k (what.Bytes post n) bytes = brings_piece (post == k) bytes
brings_same k (what.Gone post) bytes = refl
brings_same k (what.Datagram post n) bytes = brings_datagram (post == k) bytes
brings_same k (what.Plant post event) bytes = refl
brings_same k what.Tick bytes = refl
brings_same k what.Over bytes = refl

brings_next : (at : ℕ) (event : Event) (steps : List ToldStep) → IsTrue (brings event) ↔ ComesNext (Hears at event ∷ steps)
brings_next at (Bytes bytes) steps = is_so
brings_next at (Came token) steps = not_so
brings_next at Gone steps = not_so
brings_next at (Datagram bytes) steps = not_so
brings_next at (Plant event) steps = not_so
brings_next at Clock steps = not_so
brings_next at Over steps = not_so

heard_same : (o p : Option Talked) (plan : PostPlan) (stood stands : Standing) (live lives : Bool) (at moment : ℕ) (event : Event)
    → o ≡ p → stood ≡ stands → live ≡ lives → moment ≡ at → cause_heard o plan stood live moment event ≡ cause_heard p plan stands lives at event
heard_same o p plan stood stands live lives at moment event a b d e = rw (a, b, d, e) refl

pub comes_heard_told : (c : ToldCodecs) (plan : PostPlan) (steps : List ToldStep) (k at : ℕ) (what : What) (bytes : List ℕ) (course : CourseValues) (v : SessionValues) (stands : Standing)
    (next : Option NextWord) (stood : Standing) (live due heard brought word any : Bool) (outside cause : Option EndCause)
    → Knows c plan (Hears at (event_at k what bytes) ∷ steps) course v stands next → stood ≡ contactors.standing (seen_in steps) → live ≡ contactors.live (seen_in steps)
    → (IsTrue due ↔ IsDueNow (course_of course).session (seen_in (Hears at (event_at k what bytes) ∷ steps)))
    → outside ≡ cause_heard (course_of course).session plan stood live v.moment (event_at k what []) → heard ≡ is_some outside
    → brought ≡ brings (event_at k what [])
    → cause ≡ cause_of_word (course_of course).session (waits_in v.session) (facts_of (seen_in (Hears at (event_at k what bytes) ∷ steps)) (course_of course)) plan next
    → word ≡ is_some cause → any ≡ ((due || heard) || (brought && word)) → IsTrue any ↔ Comes c plan (Hears at (event_at k what bytes) ∷ steps)
comes_heard_told c plan steps k at what bytes course v stands next stood live due heard brought word any outside cause known stood_is live_is due_is outside_is heard_is brought_is cause_is word_is any_is =
    let all = Hears at (event_at k what bytes) ∷ steps in
    let talked : (course_of course).session ≡ (told_course plan all).session = ap (λ (d : Course). d.session) known.course_is in
    comes_by c plan all (due || heard) brought word any
    (either due heard
    (subst (λ (o : Option Talked). IsTrue due ↔ IsDueNow o (seen_in all)) talked due_is)
    (same_as heard (is_some (cause_heard (told_course plan all).session plan (contactors.standing (seen_in steps)) (contactors.live (seen_in steps)) at (event_at k what [])))
    (heard_is ∙ ap (λ (o : Option EndCause). is_some o) (outside_is
    ∙ heard_same (course_of course).session (told_course plan all).session plan stood (contactors.standing (seen_in steps)) live (contactors.live (seen_in steps)) at v.moment
    (event_at k what []) talked stood_is live_is known.seen_is.now_is))
    (heard_cases plan (told_course plan all).session (seen_in steps) k at what bytes)))
    (same_as brought (brings (event_at k what bytes)) (brought_is ∙ brings_same k what bytes) (brings_next at (event_at k what bytes) steps))
    (word_told c plan all course v stands next cause word known cause_is word_is) any_is

-- ---- with an order

some_map : {A B : Type 0} (f : A → B) (o : Option A) → is_some (option_map f o) ≡ is_some o
some_map f None = refl
some_map f (Some a) = refl

living : (past : List Seen) → IsTrue (is_some (session past)) ↔ Lives past
living past = (λ is. the_some (session past) is, λ l. is_one (session past) l.0 l.1)

lives_told : (past : List Seen) (x : Seen) (v : SessionValues) (lives : Bool) → AreSeen (x ∷ past) v → session (x ∷ past) ≡ option_map (λ es. x ∷ es) (session past)
    → lives ≡ is_some v.session → IsTrue lives ↔ Lives past
lives_told past x v lives seen on is =
    same_as lives (is_some (session past))
    (is ∙ lives_same (now (x ∷ past)) (session (x ∷ past)) v.session seen.session_is ∙ ap (λ (o : Option (List Seen)). is_some o) on ∙ some_map (λ es. x ∷ es) (session past))
    (living past)

order_breaks : (plan : PostPlan) (reading : Option Reading) (given : Order) (taken lives broken : Bool) (steps : List ToldStep) → (IsTrue lives ↔ Lives (seen_in steps))
    → broken ≡ ((not taken && lives) || (taken && false)) → IsTrue (false || broken) ↔ Outside plan (Does reading (Give given) taken ∷ steps)
order_breaks plan reading given true lives broken steps h is = same_as broken false is not_so
order_breaks plan reading given false lives broken steps h is = same_as broken lives (is ∙ or_false lives) h

closes_next : (reading : Option Reading) (given : Order) (taken closing : Bool) (steps : List ToldStep) → closing ≡ (is_close given && taken)
    → IsTrue closing ↔ ComesNext (Does reading (Give given) taken ∷ steps)
closes_next reading order.Close true closing steps is = same_as closing true is is_so
closes_next reading order.Close false closing steps is = same_as closing false is not_so
closes_next reading order.Open taken closing steps is = same_as closing false is not_so
closes_next reading (order.Limits voltage current watts) taken closing steps is = same_as closing false is not_so

pub comes_driven_told : (c : ToldCodecs) (plan : PostPlan) (steps : List ToldStep) (reading : Option Reading) (given : Order) (taken : Bool) (course : CourseValues) (v : SessionValues)
    (stands : Standing) (next : Option NextWord) (lives broken closing word any : Bool) (cause : Option EndCause)
    → Knows c plan (Does reading (Give given) taken ∷ steps) course v stands next
    → lives ≡ is_some v.session → broken ≡ ((not taken && lives) || (taken && false)) → closing ≡ (is_close given && taken)
    → cause ≡ cause_of_word (course_of course).session (waits_in v.session) (facts_of (seen_in (Does reading (Give given) taken ∷ steps)) (course_of course)) plan next
    → word ≡ is_some cause → any ≡ ((false || broken) || (closing && word)) → IsTrue any ↔ Comes c plan (Does reading (Give given) taken ∷ steps)
comes_driven_told c plan steps reading given taken course v stands next lives broken closing word any cause known lives_is broken_is closing_is cause_is word_is any_is =
    comes_by c plan (Does reading (Give given) taken ∷ steps) (false || broken) closing word any
    (order_breaks plan reading given taken lives broken steps (lives_told (seen_in steps) _ v lives known.seen_is refl lives_is) broken_is)
    (closes_next reading given taken closing steps closing_is)
    (word_told c plan (Does reading (Give given) taken ∷ steps) course v stands next cause word known cause_is word_is) any_is

-- ---- with bytes that were sent

unmatched_told : (said : Said) → IsTrue (is_unmatched (said_as said)) ↔ Unmatched said
unmatched_told (Response None positive) = is_so
unmatched_told (Response (Some dialect) positive) = not_so
unmatched_told (Replied request reply watts) = not_so
unmatched_told Other = not_so
unmatched_told Unasked = not_so

sending_breaks : (plan : PostPlan) (reading : Option Reading) (bytes : List ℕ) (said : Said) (taken lives unmatched broken : Bool) (steps : List ToldStep) → (IsTrue lives ↔ Lives (seen_in steps))
    → (IsTrue unmatched ↔ Unmatched said) → broken ≡ ((not taken && lives) || (taken && unmatched)) → IsTrue (false || broken) ↔ Outside plan (Sends reading bytes taken said ∷ steps)
sending_breaks plan reading bytes said true lives unmatched broken steps h u is = same_as broken unmatched is u
sending_breaks plan reading bytes said false lives unmatched broken steps h u is = same_as broken lives (is ∙ or_false lives) h

taken_next : (reading : Option Reading) (bytes : List ℕ) (said : Said) (taken : Bool) (steps : List ToldStep) → IsTrue taken ↔ ComesNext (Sends reading bytes taken said ∷ steps)
taken_next reading bytes said true steps = is_so
taken_next reading bytes said false steps = not_so

pub comes_sent_told : (c : ToldCodecs) (plan : PostPlan) (steps : List ToldStep) (reading : Option Reading) (bytes : List ℕ) (said : Said) (saying : Saying) (taken : Bool) (course : CourseValues)
    (v : SessionValues) (stands : Standing) (next : Option NextWord) (lives unmatched broken word any : Bool) (cause : Option EndCause)
    → saying ≡ said_as said → Knows c plan (Sends reading bytes taken said ∷ steps) course v stands next
    → lives ≡ is_some v.session → unmatched ≡ is_unmatched saying → broken ≡ ((not taken && lives) || (taken && unmatched))
    → cause ≡ cause_of_word (course_of course).session (waits_in v.session) (facts_of (seen_in (Sends reading bytes taken said ∷ steps)) (course_of course)) plan next
    → word ≡ is_some cause → any ≡ ((false || broken) || (taken && word)) → IsTrue any ↔ Comes c plan (Sends reading bytes taken said ∷ steps)
comes_sent_told c plan steps reading bytes said saying taken course v stands next lives unmatched broken word any cause says known lives_is unmatched_is broken_is cause_is word_is any_is =
    comes_by c plan (Sends reading bytes taken said ∷ steps) (false || broken) taken word any
    (sending_breaks plan reading bytes said taken lives unmatched broken steps (lives_told (seen_in steps) _ v lives known.seen_is refl lives_is)
    (same_as unmatched (is_unmatched (said_as said)) (unmatched_is ∙ ap is_unmatched says) (unmatched_told said)) broken_is)
    (taken_next reading bytes said taken steps)
    (word_told c plan (Sends reading bytes taken said ∷ steps) course v stands next cause word known cause_is word_is) any_is

-- ---- with other acts none comes

none_by : (c : ToldCodecs) (plan : PostPlan) (steps : List ToldStep) → (Outside plan steps → ⊥) → (ComesNext steps → ⊥) → Comes c plan steps → ⊥
none_by c plan steps out on has = elim (split c plan steps has.0 has.1) [ inl o ↦ out o | inr w ↦ on w.0 ]

pub answer_is_none : (c : ToldCodecs) (plan : PostPlan) (steps : List ToldStep) (reading : Option Reading) (bytes : List ℕ) (taken : Bool)
    → Comes c plan (Does reading (Answer bytes) taken ∷ steps) → ⊥
answer_is_none c plan steps reading bytes taken has = none_by c plan (Does reading (Answer bytes) taken ∷ steps) (λ o. o) (λ n. n) has

pub end_is_none : (c : ToldCodecs) (plan : PostPlan) (steps : List ToldStep) (reading : Option Reading) (cause : ℕ) (taken : Bool)
    → Comes c plan (Does reading (End cause) taken ∷ steps) → ⊥
end_is_none c plan steps reading cause taken has = none_by c plan (Does reading (End cause) taken ∷ steps) (λ o. o) (λ n. n) has
