-- What a step changes of all that is kept.
use Rattle.std.proofs.Common.{◌≡◌, ◌↔◌, ℕ, max, ◌==◌, Bool, true, false, List, [], ◌∷◌, Option, Some, None, refl, sym, ap, subst, ◌∙◌, eq-eqb}
use Rattle.std.specs.Prelude.{if◌then◌else◌, is_some, IsTrue}
use Rattle.charge_world.specs.declared.entry.Entry.{Entry}
use Rattle.charge_world.specs.declared.entry.Entry.TheVariants as entry
use Rattle.charge_world.specs.declared.heard.Heard.{Heard as Hearing}
use Rattle.charge_world.specs.declared.ports.Order.{Order}
use Rattle.session_words.specs.declared.plan.PostPlan.{PostPlan}
use Rattle.post_spec.specs.Contactors.{standing, live}
use Rattle.post_spec.specs.Course.{Talked, Course, read_by}
use Rattle.session_rules.specs.Asks.{shows_watts}
use Rattle.post_spec.specs.Sessions.{arriving, session}
use Rattle.post_spec.specs.Steps.{Give, Send, Answer, End, Seen, Heard, Did, Reading, event_at, seen, moment}
use Rattle.told_pasts.specs.Checks.{is_heard, is_act_of}
use Rattle.told_pasts.specs.Course.{told_course}
use Rattle.told_pasts.specs.Spelling.{SpelledWatts, ToldCodecs}
use Rattle.told_pasts.specs.Steps.{Said, Response, Replied, Other, Unasked, ToldStep, Hears, Does, Sends, seen_in}
use Rattle.told_pasts.specs.Talk.{Reply, with_said, replies, spelled_or, spelled_by}
use Rattle.audit_sessions.specs.declared.values.Arrival.{Arrival}
use Rattle.audit_sessions.specs.declared.values.SessionValues.{SessionValues}
use Rattle.audit_sessions.specs.Values as sessions
use Rattle.audit_sessions.specs.Values.{AreSeen, arrival_of}
use Rattle.audit_contactors.specs.declared.values.ContactorValues.{ContactorValues}
use Rattle.audit_contactors.specs.Values as contactors
use Rattle.audit_course.specs.declared.course.CourseValues.{CourseValues}
use Rattle.audit_course.specs.declared.words.NextWord.{NextWord}
use Rattle.audit_course.specs.declared.words.Saying.{Saying}
use Rattle.audit_course.specs.declared.words.Saying.TheVariants as saying
use Rattle.audit_course.specs.Coming.{Knows}
use Rattle.audit_course.specs.Values.{course_of, said_as, IsRead, IsNextWord}
use Rattle.audit_posts.specs.Values.{IsMost, spelled_said}

differ : false ≡ true → ⊥
differ h = cc

pub seen_told : (k : ℕ) (past : List Entry) (steps : List ToldStep) (v : SessionValues) → seen_in steps ≡ seen k past → sessions.AreOf k past v → AreSeen (seen_in steps) v
seen_told k past steps v same h = subst (λ (p : List Seen). AreSeen p v) (sym same) h.seen_is

pub stands_told : (k : ℕ) (past : List Entry) (steps : List ToldStep) (v : ContactorValues) → seen_in steps ≡ seen k past → contactors.AreOf k past v
    → v.standing ≡ standing (seen_in steps)
stands_told k past steps v same h = h.stands ∙ ap standing (sym same)

pub live_told : (k : ℕ) (past : List Entry) (steps : List ToldStep) (v : ContactorValues) → seen_in steps ≡ seen k past → contactors.AreOf k past v
    → v.live ≡ live (seen_in steps)
live_told k past steps v same h = h.live_is ∙ ap live (sym same)

pub knows_told : (c : ToldCodecs) (plan : PostPlan) (k : ℕ) (past : List Entry) (steps : List ToldStep) (d : CourseValues) (s : SessionValues) (t : ContactorValues) (next : Option NextWord)
    → seen_in steps ≡ seen k past → sessions.AreOf k past s → contactors.AreOf k past t → course_of d ≡ told_course plan steps → IsNextWord c plan steps next
    → Knows c plan steps d s t.standing next
knows_told c plan k past steps d s t next same s_are t_are course_is next_is =
    record { course_is = course_is; seen_is = seen_told k past steps s same s_are; stands_is = stands_told k past steps t same t_are; next_is = next_is }

-- ---- a hearing

pub heard_seen : (k : ℕ) (heard : Hearing) (bytes : List ℕ) (past : List Entry) (steps : List ToldStep) (e : Entry) → e ≡ entry.Heard heard bytes → seen_in steps ≡ seen k past
    → seen_in (Hears (max (moment past) heard.at) (event_at k heard.what bytes) ∷ steps) ≡ seen k (e ∷ past)
heard_seen k heard bytes past steps e is same =
    ap (λ (s : List Seen). Heard (max (moment past) heard.at) (event_at k heard.what bytes) ∷ s) same ∙ sym (ap (λ (d : Entry). seen k (d ∷ past)) is)

some_arrival : (a : Option Arrival) → is_some a ≡ is_some (arrival_of a)
some_arrival None = refl
some_arrival (Some a) = refl

pub arriving_told : (k : ℕ) (past : List Entry) (steps : List ToldStep) (v : SessionValues) → seen_in steps ≡ seen k past → sessions.AreOf k past v
    → arriving (seen_in steps) ≡ arrival_of v.arrived
arriving_told k past steps v same h = (seen_told k past steps v same h).arrived_is

since_same : (b : Bool) (plan : PostPlan) (rs : List Reply) → (if b then 0 else spelled_by plan rs) ≡ spelled_by plan (if b then [] else rs)
since_same true plan rs = refl
since_same false plan rs = refl

pub spelled_heard : (plan : PostPlan) (steps : List ToldStep) (a : Option Arrival) (before later : ℕ) → arriving (seen_in steps) ≡ arrival_of a → before ≡ spelled_by plan (replies steps)
    → later ≡ (if is_some a then 0 else before) → later ≡ spelled_by plan (if is_some (arriving (seen_in steps)) then [] else replies steps)
spelled_heard plan steps a before later came before_is is =
    is ∙ ap (λ (n : ℕ). if is_some a then 0 else n) before_is
    ∙ ap (λ (b : Bool). if b then 0 else spelled_by plan (replies steps)) (some_arrival a ∙ ap (λ (o : Option Seen). is_some o) (sym came))
    ∙ since_same (is_some (arriving (seen_in steps))) plan (replies steps)

-- ---- its own acts

mine : {A : Type 0} (k : ℕ) (a b : A) → a ≡ (if k == k then a else b)
mine {A = A} k a b = sym (ap (λ (t : Bool). if t then a else b) (eq-eqb k k refl))

pub drove_seen : (k : ℕ) (reading : Option Reading) (given : Order) (taken : Bool) (past : List Entry) (steps : List ToldStep) (e : Entry) → e ≡ entry.Drove k given taken
    → seen_in steps ≡ seen k past → seen_in (Does reading (Give given) taken ∷ steps) ≡ seen k (e ∷ past)
drove_seen k reading given taken past steps e is same =
    ap (λ (s : List Seen). Did (Give given) taken ∷ s) same ∙ mine k (Did (Give given) taken ∷ seen k past) (seen k past) ∙ sym (ap (λ (d : Entry). seen k (d ∷ past)) is)

pub answered_seen : (k : ℕ) (bytes : List ℕ) (taken : Bool) (past : List Entry) (steps : List ToldStep) (e : Entry) → e ≡ entry.Answered k bytes taken
    → seen_in steps ≡ seen k past → seen_in (Does None (Answer bytes) taken ∷ steps) ≡ seen k (e ∷ past)
answered_seen k bytes taken past steps e is same =
    ap (λ (s : List Seen). Did (Answer bytes) taken ∷ s) same ∙ mine k (Did (Answer bytes) taken ∷ seen k past) (seen k past) ∙ sym (ap (λ (d : Entry). seen k (d ∷ past)) is)

pub ended_seen : (k cause : ℕ) (past : List Entry) (steps : List ToldStep) (e : Entry) → e ≡ entry.Ended k cause
    → seen_in steps ≡ seen k past → seen_in (Does None (End cause) true ∷ steps) ≡ seen k (e ∷ past)
ended_seen k cause past steps e is same =
    ap (λ (s : List Seen). Did (End cause) true ∷ s) same ∙ mine k (Did (End cause) true ∷ seen k past) (seen k past) ∙ sym (ap (λ (d : Entry). seen k (d ∷ past)) is)

pub sent_seen : (k : ℕ) (reading : Option Reading) (bytes : List ℕ) (taken : Bool) (said : Said) (past : List Entry) (steps : List ToldStep) (e : Entry) → e ≡ entry.Sent k bytes taken
    → seen_in steps ≡ seen k past → seen_in (Sends reading bytes taken said ∷ steps) ≡ seen k (e ∷ past)
sent_seen k reading bytes taken said past steps e is same =
    ap (λ (s : List Seen). Did (Send bytes) taken ∷ s) same ∙ mine k (Did (Send bytes) taken ∷ seen k past) (seen k past) ∙ sym (ap (λ (d : Entry). seen k (d ∷ past)) is)

other : {A : Type 0} (b : Bool) (x y : A) → b ≡ false → (if b then x else y) ≡ y
other {A = A} b x y is = ap (λ (t : Bool). if t then x else y) is

pub passed_seen : (k : ℕ) (e : Entry) (past : List Entry) → is_heard e ≡ false → is_act_of k e ≡ false → seen k (e ∷ past) ≡ seen k past
passed_seen k (entry.Heard heard bytes) past a b = absurd (differ (sym a))
passed_seen k entry.Lost past a b = refl
passed_seen k (entry.Sent post bytes taken) past a b = other (post == k) (Did (Send bytes) taken ∷ seen k past) (seen k past) b
passed_seen k (entry.Answered post bytes taken) past a b = other (post == k) (Did (Answer bytes) taken ∷ seen k past) (seen k past) b
passed_seen k (entry.Drove post given taken) past a b = other (post == k) (Did (Give given) taken ∷ seen k past) (seen k past) b
passed_seen k (entry.Dialed port taken) past a b = refl
passed_seen k (entry.Ended post cause) past a b = other (post == k) (Did (End cause) true ∷ seen k past) (seen k past) b

-- a word was judged, or none
pub read_some : (judged : Option NextWord) (shown : ℕ) (reading : Option Reading) → IsRead judged shown reading → is_some judged ≡ is_some reading
read_some None shown None h = refl
read_some None shown (Some reading) h = absurd h
read_some (Some word) shown None h = absurd h
read_some (Some word) shown (Some reading) h = refl

pub unread : (o : Option Talked) (past : List Seen) (c : Course) (plan : PostPlan) → c ≡ read_by o past c plan None
unread None past c plan = refl
unread (Some t) past c plan = refl

pub no_cause : {A : Type 0} → (A → ⊥) → IsTrue false ↔ A
no_cause none = (λ is. absurd (differ is), λ a. absurd (none a))

-- ---- what was said

-- of what was said, what its saying tells
abbrev pub Tells : (Said → Type 0) → Saying → Type 0
Tells P (saying.Response chosen positive) = P (Response chosen positive)
Tells P (saying.Replied request reply) = (watts : SpelledWatts) → P (Replied request reply watts)
Tells P saying.Other = P Other
Tells P saying.Unasked = P Unasked

tells : (P : Said → Type 0) (said : Said) → Tells P (said_as said) → P said
tells P (Response chosen positive) h = h
tells P (Replied request reply watts) h = h watts
tells P Other h = h
tells P Unasked h = h

pub told_by_saying : (P : Said → Type 0) (s : Saying) (said : Said) → s ≡ said_as said → Tells P s → P said
told_by_saying P s said is h = tells P said (subst (λ (t : Saying). Tells P t) is h)

-- the watts that it spells
said_most : (plan : PostPlan) (said : Said) (most before : ℕ) → IsMost plan said most → spelled_said (said_as said) most before ≡ spelled_or plan said before
said_most plan (Response chosen positive) most before h = refl
said_most plan (Replied request reply watts) most before h = ap (λ (n : ℕ). if shows_watts request.ask then n else before) h
said_most plan Other most before h = refl
said_most plan Unasked most before h = refl

with_same : (plan : PostPlan) (said : Said) (before judged : List Seen) (rs : List Reply) → spelled_or plan said (spelled_by plan rs) ≡ spelled_by plan (with_said said before judged rs)
with_same plan (Response chosen positive) before judged rs = refl
with_same plan (Replied request reply watts) before judged rs = refl
with_same plan Other before judged rs = refl
with_same plan Unasked before judged rs = refl

lives_if : (b : Bool) (plan : PostPlan) (said : Said) (past judged : List Seen) (rs : List Reply)
    → (if b then spelled_or plan said (spelled_by plan rs) else 0) ≡ spelled_by plan (if b then with_said said past judged rs else [])
lives_if true plan said past judged rs = with_same plan said past judged rs
lives_if false plan said past judged rs = refl

pub spelled_sent : (plan : PostPlan) (steps : List ToldStep) (said : Said) (s : Saying) (judged : List Seen) (lives : Bool) (most before later : ℕ)
    → s ≡ said_as said → IsMost plan said most → lives ≡ is_some (session (seen_in steps)) → before ≡ spelled_by plan (replies steps)
    → later ≡ (if lives then spelled_said s most before else 0)
    → later ≡ spelled_by plan (if is_some (session (seen_in steps)) then with_said said (seen_in steps) judged (replies steps) else [])
spelled_sent plan steps said s judged lives most before later says most_is lives_is before_is is =
    is ∙ ap (λ (t : Saying). if lives then spelled_said t most before else 0) says
    ∙ ap (λ (n : ℕ). if lives then n else 0) (said_most plan said most before most_is)
    ∙ ap (λ (n : ℕ). if lives then spelled_or plan said n else 0) before_is
    ∙ ap (λ (b : Bool). if b then spelled_or plan said (spelled_by plan (replies steps)) else 0) lives_is
    ∙ lives_if (is_some (session (seen_in steps))) plan said (seen_in steps) judged (replies steps)
