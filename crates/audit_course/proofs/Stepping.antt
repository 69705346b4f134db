-- What each step changes of the course.
use Rattle.std.proofs.Common.{◌≡◌, ℕ, ◌==◌, Bool, true, false, List, [], ◌∷◌, Option, Some, None, refl, sym, ap, ◌∙◌}
use Rattle.std.specs.Prelude.{if◌then◌else◌}
use Rattle.std.specs.Option.{option_map}
use Rattle.charge_world.specs.declared.heard.What.{What}
use Rattle.charge_world.specs.declared.heard.What.TheVariants as what
use Rattle.session_words.specs.declared.facts.Facts.{Facts}
use Rattle.session_words.specs.declared.plan.PostPlan.{PostPlan}
use Rattle.session_rules.specs.declared.stage.Stage.{Stage}
use Rattle.session_rules.specs.Stages.{confirmed}
use Rattle.post_spec.specs.Codecs.{Judged, Negotiated, Asked, WrongSide, Refused}
use Rattle.post_spec.specs.Course.{Talked, Course, facts_of, read_by, confirmed_in, acted}
use Rattle.post_spec.specs.Facts.{now}
use Rattle.post_spec.specs.Sessions.{arriving}
use Rattle.post_spec.specs.Steps.{Bytes, Datagram, Clock, Send, Seen, Reading, event_at}
use Rattle.told_pasts.specs.Course.{stage_said, talked_said, course_said, told_course}
use Rattle.told_pasts.specs.Steps.{Said, Response, Replied, Other, Unasked, ToldStep, Hears, Sends, seen_in}
use Rattle.audit_course.specs.declared.words.NextWord.{NextWord}
use Rattle.audit_course.specs.declared.words.Saying.{Saying}
use Rattle.audit_course.specs.Changes.{heard_by, read_as, read_if, stage_as, talked_as, sent_by}
use Rattle.audit_course.specs.Values.{judged_as, said_as, IsRead}

-- ---- a hearing

piece : (mine : Bool) (bytes : List ℕ) (o : Option Seen) (c : Course) → heard_by o (if mine then Bytes [] else Clock) c ≡ heard_by o (if mine then Bytes bytes else Clock) c
piece true bytes o c = refl
piece false bytes o c = refl

datagram : (mine : Bool) (bytes : List ℕ) (o : Option Seen) (c : Course) → heard_by o (if mine then Datagram [] else Clock) c ≡ heard_by o (if mine then Datagram bytes else Clock) c
datagram true bytes o c = refl
datagram false bytes o c = refl

no_bytes : (k : ℕ) (heard : What) (bytes : List ℕ) (o : Option Seen) (c : Course) → heard_by o (event_at k heard []) c ≡ heard_by o (event_at k heard bytes) c
no_bytes k (what.Came post token) bytes o c = refl
no_bytes k (what.Bytes post n) bytes o c = piece (post == k) bytes o c
no_bytes k (what.Gone post) bytes o c = refl
no_bytes k (what.Datagram post n) bytes o c = datagram (post == k) bytes o c
no_bytes k (what.Plant post event) bytes o c = refl
no_bytes k what.Tick bytes o c = refl
no_bytes k what.Over bytes o c = refl

pub heard_told : (plan : PostPlan) (steps : List ToldStep) (k at : ℕ) (heard : What) (bytes : List ℕ) (o : Option Seen) (c later : Course)
    → later ≡ heard_by o (event_at k heard []) c → arriving (seen_in steps) ≡ o → c ≡ told_course plan steps
    → later ≡ told_course plan (Hears at (event_at k heard bytes) ∷ steps)
heard_told plan steps k at heard bytes o c later is came same =
    is ∙ no_bytes k heard bytes o c
    ∙ ap (λ (p : Option Seen). heard_by p (event_at k heard bytes) c) (sym came)
    ∙ ap (λ (d : Course). heard_by (arriving (seen_in steps)) (event_at k heard bytes) d) same

-- ---- a word

read_same : (o : Option Talked) (past : List Seen) (c : Course) (plan : PostPlan) (judged : Judged) (shown : ℕ)
    → read_as o (facts_of past c) (now past) c plan (judged_as judged) shown ≡ read_by o past c plan (Some (record { judged = judged; shown = shown }))
read_same None past c plan judged shown = refl
read_same (Some t) past c plan (Negotiated chosen response) shown = refl
read_same (Some t) past c plan (Asked r) shown = refl
read_same (Some t) past c plan WrongSide shown = refl
read_same (Some t) past c plan Refused shown = refl

unread : (o : Option Talked) (past : List Seen) (c : Course) (plan : PostPlan) → c ≡ read_by o past c plan None
unread None past c plan = refl
unread (Some t) past c plan = refl

read_all : (past : List Seen) (c : Course) (plan : PostPlan) (judged : Option NextWord) (shown : ℕ) (reading : Option Reading) → IsRead judged shown reading
    → read_if c (facts_of past c) (now past) plan judged shown ≡ read_by c.session past c plan reading
read_all past c plan None shown None h = unread c.session past c plan
read_all past c plan None shown (Some reading) h = absurd h
read_all past c plan (Some word) shown None h = absurd h
read_all past c plan (Some word) shown (Some reading) h =
    ap (λ (w : NextWord). read_as c.session (facts_of past c) (now past) c plan w shown) h.0
    ∙ ap (λ (n : ℕ). read_as c.session (facts_of past c) (now past) c plan (judged_as reading.judged) n) h.1
    ∙ read_same c.session past c plan reading.judged reading.shown

pub read_told : (past : List Seen) (before c later : Course) (plan : PostPlan) (reading : Option Reading) (facts : Facts) (at : ℕ) (judged : Option NextWord) (shown : ℕ)
    → later ≡ read_if before facts at plan judged shown → before ≡ c → facts ≡ facts_of past before → at ≡ now past → IsRead judged shown reading
    → later ≡ read_by c.session past c plan reading
read_told past before c later plan reading facts at judged shown is same facts_are at_is h =
    is ∙ ap (λ (f : Facts). read_if before f at plan judged shown) facts_are
    ∙ ap (λ (n : ℕ). read_if before (facts_of past before) n plan judged shown) at_is
    ∙ ap (λ (d : Course). read_if d (facts_of past d) (now past) plan judged shown) same
    ∙ read_all past c plan judged shown reading h

-- ---- what was sent

stage_same : (said : Said) (s : Stage) → stage_as (said_as said) s ≡ stage_said said s
stage_same (Response chosen positive) s = refl
stage_same (Replied request reply watts) s = refl
stage_same Other s = refl
stage_same Unasked s = refl

taken_same : (said : Said) (o : Option Talked) → option_map (λ t. talked_as (said_as said) true t) o ≡ confirmed_in (talked_said said o)
taken_same said None = refl
taken_same said (Some t) = ap (λ (s : Stage). Some (record t { stage = confirmed s })) (stage_same said t.stage)

failed_same : (said : Said) (o : Option Talked) → option_map (λ t. talked_as (said_as said) false t) o ≡ talked_said said o
failed_same said None = refl
failed_same said (Some t) = ap (λ (s : Stage). Some (record t { stage = s })) (stage_same said t.stage)

sent_same : (said : Said) (taken : Bool) (bytes : List ℕ) (c : Course) → sent_by (said_as said) taken c ≡ acted (Send bytes) taken (course_said said c)
sent_same said true bytes c = ap (λ (o : Option Talked). record c { session = o }) (taken_same said c.session)
sent_same said false bytes c = ap (λ (o : Option Talked). record c { session = o }) (failed_same said c.session)

pub sent_told : (plan : PostPlan) (steps : List ToldStep) (reading : Option Reading) (bytes : List ℕ) (said : Said) (saying : Saying) (taken : Bool) (before later : Course)
    → later ≡ sent_by saying taken before → saying ≡ said_as said
    → before ≡ read_by (told_course plan steps).session (seen_in steps) (told_course plan steps) plan reading
    → later ≡ told_course plan (Sends reading bytes taken said ∷ steps)
sent_told plan steps reading bytes said saying taken before later is same course_is =
    is ∙ ap (λ (s : Saying). sent_by s taken before) same ∙ sent_same said taken bytes before
    ∙ ap (λ (c : Course). acted (Send bytes) taken (course_said said c)) course_is
