-- Whatever a trace tells, the watts that its posts were told stay within the limit.
use Rattle.std.proofs.Common.{◌≡◌, ◌⊎◌, inl, inr, ◌≤◌, ℕ, suc, ◌+◌, ◌-◌, max, Bool, true, false, ◌&&◌, List, [], ◌∷◌, ◌++◌, map, Option, Some, None, unwrap_or, refl, sym, ap, subst, ◌∙◌, arith}
use Rattle.std.specs.Prelude.{if◌then◌else◌}
use Rattle.std.specs.List.{sum_by}
use Rattle.std.proofs.lemmas.List.Sums.{sum_by-append, sum_by-cons}
use Rattle.charge_world.specs.declared.entry.Entry.{Entry}
use Rattle.charge_world.specs.declared.entry.Entry.TheVariants as entry
use Rattle.charge_world.specs.declared.offer.Dialect.{Dialect}
use Rattle.session_words.specs.declared.plan.PostPlan.{PostPlan}
use Rattle.session_words.specs.declared.plan.SitePlan.{SitePlan}
use Rattle.session_rules.specs.declared.stage.Stage.{Stage}
use Rattle.session_rules.specs.Asks.{asks, shows_watts}
use Rattle.session_rules.specs.Moves.{moved}
use Rattle.session_rules.specs.Verdict.{verdict, is_accepted}
use Rattle.post_spec.specs.Codecs.{Judged, Negotiated, Asked, WrongSide, Refused}
use Rattle.post_spec.specs.Course.{Talked, Course, opened, facts_of, read_by, acted, confirmed_in, told_in}
use Rattle.post_spec.specs.Sessions.{arriving}
use Rattle.post_spec.specs.Steps.{Event, Act, Give, Send, Answer, End, Seen, Heard, Did, Reading, moment, event_at}
use Rattle.told_pasts.specs.Course.{talked_said, course_said, told_course}
use Rattle.told_pasts.specs.Reading.{ShownTo, IsShownIn, IsReading}
use Rattle.told_pasts.specs.Site.{ToldPost, told_of, Shows, IsOther, IsSending, IsStep, hearing, OneDoes, ArePosts}
use Rattle.told_pasts.specs.Spelling.{ToldCodecs}
use Rattle.told_pasts.specs.Steps.{Said, Response, Replied, Other, Unasked, ToldStep, Hears, Does, Sends, seen_in}

-- ---- a hearing

opened_told : (came : Option Seen) (c : Course) → told_in (opened came c).session ≤ told_in c.session
opened_told None c = omega arith
opened_told (Some (Heard at event)) c = omega arith
opened_told (Some (Did act taken)) c = omega arith

heard_told : (plan : PostPlan) (at : ℕ) (event : Event) (steps : List ToldStep) → told_of (record { plan = plan; steps = Hears at event ∷ steps }) ≤ told_of (record { plan = plan; steps = steps })
heard_told plan at event steps = opened_told (arriving (seen_in steps)) (told_course plan steps)

all_heard : (event : ℕ → Event) (at k : ℕ) (posts : List ToldPost) → sum_by told_of (hearing event at k posts) ≤ sum_by told_of posts
all_heard event at k [] = omega arith
all_heard event at k (post ∷ posts) =
    let one = heard_told post.plan at (event k) post.steps in
    let rest = all_heard event at (suc k) posts in
    let this : ToldPost = record post { steps = Hears at (event k) ∷ post.steps } in
    omega (arith, one, rest, sum_by-cons told_of post posts, sum_by-cons told_of this (hearing event at (suc k) posts))

-- ---- an act

-- the watts are as before, or those that were shown
abbrev TellsSo : (ℕ → ℕ → Type 0) → ℕ → ℕ → ℕ → Type 0
TellsSo Share shown before now = (now ≡ before) ⊎ ((asked : ℕ) × Share asked shown × (now ≡ shown))

asked_told : (Share : ℕ → ℕ → Type 0) (a b : Bool) (asked shown : ℕ) (s m : Stage) → m.told ≡ (if b then shown else s.told) → ShownTo Share (a && b) asked shown → TellsSo Share shown s.told (if a then m else s).told
asked_told Share true true asked shown s m e t = inr (asked, t, e)
asked_told Share true false asked shown s m e t = inl e
asked_told Share false b asked shown s m e t = inl refl

chosen_told : (Share : ℕ → ℕ → Type 0) (t : Talked) (past : List Seen) (c : Course) (plan : PostPlan) (chosen : Option Dialect) (own : List ℕ) (shown : ℕ)
    → TellsSo Share shown t.stage.told (told_in (read_by (Some t) past c plan (Some (record { judged = Negotiated chosen own; shown = shown }))).session)
chosen_told Share t past c plan None own shown = inl refl
chosen_told Share t past c plan (Some dialect) own shown = inl refl

word_told : (Share : ℕ → ℕ → Type 0) (plan : PostPlan) (steps : List ToldStep) (c : Course) (session : Option Talked) (judged : Judged) (shown : ℕ) → c.session ≡ session → IsShownIn Share plan steps c session judged shown
    → TellsSo Share shown (told_in session) (told_in (read_by session (seen_in steps) c plan (Some (record { judged = judged; shown = shown }))).session)
word_told Share plan steps c None judged shown same is = inl (ap told_in same)
word_told Share plan steps c (Some t) (Negotiated chosen own) shown same is = chosen_told Share t (seen_in steps) c plan chosen own shown
word_told Share plan steps c (Some t) (Asked r) shown same is =
    asked_told Share (is_accepted (verdict t.stage (facts_of (seen_in steps) c) plan r)) (shows_watts r.ask) (unwrap_or (asks plan r.ask) t.asked) shown t.stage
    (moved t.stage (facts_of (seen_in steps) c) plan r shown) refl is
word_told Share plan steps c (Some t) WrongSide shown same is = inl (ap told_in same)
word_told Share plan steps c (Some t) Refused shown same is = inl (ap told_in same)

-- with the word that was judged for it
abbrev read_course : PostPlan → List ToldStep → Option Reading → Course
read_course plan steps reading = read_by (told_course plan steps).session (seen_in steps) (told_course plan steps) plan reading

record ReadsSo (Share : ℕ → ℕ → Type 0) (before now : ℕ) : Type 0 where
  tells : (now ≡ before) ⊎ ((asked : ℕ) × (shown : ℕ) × Share asked shown × (now ≡ shown))

none_told : (c : Course) (session : Option Talked) (past : List Seen) (plan : PostPlan) → c.session ≡ session → told_in (read_by session past c plan None).session ≡ told_in session
none_told c None past plan same = ap told_in same
none_told c (Some t) past plan same = ap told_in same

reading_told : (c : ToldCodecs) (Share : ℕ → ℕ → Type 0) (plan : PostPlan) (steps : List ToldStep) (act : Act) (reading : Option Reading) → IsReading c Share plan steps act reading
    → ReadsSo Share (told_in (told_course plan steps).session) (told_in (read_course plan steps reading).session)
reading_told c Share plan steps act None is = record { tells = inl (none_told (told_course plan steps) (told_course plan steps).session (seen_in steps) plan refl) }
reading_told c Share plan steps act (Some reading) is =
    elim (word_told Share plan steps (told_course plan steps) (told_course plan steps).session reading.judged reading.shown refl is.1) [
      | inl same ↦ record { tells = inl same }
      | inr (asked, share, now) ↦ record { tells = inr (asked, reading.shown, share, now) }
    ]

-- an act keeps them, or ends the session
said_told : (said : Said) (s : Option Talked) → told_in (talked_said said s) ≡ told_in s
said_told said None = refl
said_told (Response chosen positive) (Some t) = refl
said_told (Replied request reply watts) (Some t) = refl
said_told Other (Some t) = refl
said_told Unasked (Some t) = refl

confirmed_told : (s : Option Talked) → told_in (confirmed_in s) ≡ told_in s
confirmed_told None = refl
confirmed_told (Some t) = refl

acted_told : (act : Act) (taken : Bool) (c : Course) → told_in (acted act taken c).session ≤ told_in c.session
acted_told (Give order) taken c = omega arith
acted_told (Answer bytes) taken c = omega arith
acted_told (Send bytes) false c = omega arith
acted_told (Send bytes) true c = let e = confirmed_told c.session in omega (arith, e)
acted_told (End cause) taken c = omega arith

-- the watts of a post are no more than before, or within what the others leave
abbrev IsBounded : ℕ → ℕ → ℕ → ℕ → Type 0
IsBounded limit others before now = (now ≤ before) ⊎ (now ≤ limit - others)

bounded_by : (limit : ℕ) (front rest : List ToldPost) (before read now : ℕ) → ReadsSo (Shows limit front rest) before read → now ≤ read → IsBounded limit (sum_by told_of front + sum_by told_of rest) before now
bounded_by limit front rest before read now r less =
    elim r.tells [
      | inl same ↦ inl (omega arith)
      | inr (asked, shown, share, is) ↦ inr (let least = share.least in omega (arith, least, is, less))
    ]

other_told : (c : ToldCodecs) (limit : ℕ) (front rest : List ToldPost) (post : ToldPost) (act : Act) (taken : Bool) (step : ToldStep) → IsOther c (Shows limit front rest) post act taken step
    → IsBounded limit (sum_by told_of front + sum_by told_of rest) (told_of post) (told_of (record post { steps = step ∷ post.steps }))
other_told c limit front rest post act taken step is =
    subst (λ (s : ToldStep). IsBounded limit (sum_by told_of front + sum_by told_of rest) (told_of post) (told_of (record post { steps = s ∷ post.steps }))) (sym is.2)
    (bounded_by limit front rest (told_of post) (told_in (read_course post.plan post.steps is.0).session) (told_of (record post { steps = Does is.0 act taken ∷ post.steps }))
    (reading_told c (Shows limit front rest) post.plan post.steps act is.0 is.1) (acted_told act taken (read_course post.plan post.steps is.0)))

sent_told : (bytes : List ℕ) (taken : Bool) (said : Said) (c : Course) → told_in (acted (Send bytes) taken (course_said said c)).session ≤ told_in c.session
sent_told bytes taken said c = let a = acted_told (Send bytes) taken (course_said said c) in let s = said_told said c.session in omega (arith, a, s)

sending_told : (c : ToldCodecs) (limit : ℕ) (front rest : List ToldPost) (post : ToldPost) (bytes : List ℕ) (taken : Bool) (step : ToldStep) → IsSending c (Shows limit front rest) post bytes taken step
    → IsBounded limit (sum_by told_of front + sum_by told_of rest) (told_of post) (told_of (record post { steps = step ∷ post.steps }))
sending_told c limit front rest post bytes taken step is =
    subst (λ (s : ToldStep). IsBounded limit (sum_by told_of front + sum_by told_of rest) (told_of post) (told_of (record post { steps = s ∷ post.steps }))) (sym is.4)
    (bounded_by limit front rest (told_of post) (told_in (read_course post.plan post.steps is.0).session) (told_of (record post { steps = Sends is.0 bytes taken is.1 ∷ post.steps }))
    (reading_told c (Shows limit front rest) post.plan post.steps (Send bytes) is.0 is.2) (sent_told bytes taken is.1 (read_course post.plan post.steps is.0)))

step_told : (c : ToldCodecs) (limit : ℕ) (front rest : List ToldPost) (post : ToldPost) (act : Act) (taken : Bool) (step : ToldStep) → IsStep c (Shows limit front rest) post act taken step
    → IsBounded limit (sum_by told_of front + sum_by told_of rest) (told_of post) (told_of (record post { steps = step ∷ post.steps }))
step_told c limit front rest post (Give given) taken step is = other_told c limit front rest post (Give given) taken step is
step_told c limit front rest post (Send bytes) taken step is = sending_told c limit front rest post bytes taken step is
step_told c limit front rest post (Answer bytes) taken step is = other_told c limit front rest post (Answer bytes) taken step is
step_told c limit front rest post (End cause) taken step is = other_told c limit front rest post (End cause) taken step is

-- ---- all posts

sum_around : (front rest : List ToldPost) (post : ToldPost) → sum_by told_of (front ++ post ∷ rest) ≡ sum_by told_of front + (told_of post + sum_by told_of rest)
sum_around front rest post = sum_by-append told_of front (post ∷ rest) ∙ ap (λ (n : ℕ). sum_by told_of front + n) (sum_by-cons told_of post rest)

bounded_sum : (limit front rest before now : ℕ) → front + (before + rest) ≤ limit → IsBounded limit (front + rest) before now → front + (now + rest) ≤ limit
bounded_sum limit front rest before now within (inl less) = omega arith
bounded_sum limit front rest before now within (inr less) = omega arith

does_told : (c : ToldCodecs) (limit k : ℕ) (act : Act) (taken : Bool) (earlier later : List ToldPost) → OneDoes c limit k act taken earlier later → sum_by told_of earlier ≤ limit → sum_by told_of later ≤ limit
does_told c limit k act taken earlier later d within =
    let this : ToldPost = record d.post { steps = d.step ∷ d.post.steps } in
    let old : sum_by told_of earlier ≡ sum_by told_of d.before + (told_of d.post + sum_by told_of d.behind) = ap (sum_by told_of) d.earlier_are ∙ sum_around d.before d.behind d.post in
    let new : sum_by told_of later ≡ sum_by told_of d.before + (told_of this + sum_by told_of d.behind) = ap (sum_by told_of) d.later_are ∙ sum_around d.before d.behind this in
    let all = bounded_sum limit (sum_by told_of d.before) (sum_by told_of d.behind) (told_of d.post) (told_of this) (omega (arith, within, old)) (step_told c limit d.before d.behind d.post act taken d.step d.is) in
    omega (arith, new, all)

abbrev unstarted : PostPlan → ToldPost
unstarted plan = record { plan = plan; steps = [] }

none_yet : (plans : List PostPlan) → sum_by told_of (map unstarted plans) ≡ 0
none_yet [] = refl
none_yet (plan ∷ plans) =
    let rest = none_yet plans in
    omega (arith, rest, sum_by-cons told_of (unstarted plan) (map unstarted plans))

pub told_within : (c : ToldCodecs) (site : SitePlan) (past : List Entry) (posts : List ToldPost) → ArePosts c site past posts → sum_by told_of posts ≤ site.limit
told_within c site [] posts are = let e = ap (sum_by told_of) are in omega (arith, e, none_yet site.post.items)
told_within c site (entry.Heard heard bytes ∷ past) posts are =
    let before = told_within c site past are.0 are.1 in
    let heard_all = all_heard (λ k. event_at k heard.what bytes) (max (moment past) heard.at) 1 are.0 in
    let e = ap (sum_by told_of) are.2 in
    omega (arith, before, heard_all, e)
told_within c site (entry.Lost ∷ past) posts are = told_within c site past posts are
told_within c site (entry.Sent k bytes taken ∷ past) posts are = does_told c site.limit k (Send bytes) taken are.0 posts are.2 (told_within c site past are.0 are.1)
told_within c site (entry.Answered k bytes taken ∷ past) posts are = does_told c site.limit k (Answer bytes) taken are.0 posts are.2 (told_within c site past are.0 are.1)
told_within c site (entry.Drove k given taken ∷ past) posts are = does_told c site.limit k (Give given) taken are.0 posts are.2 (told_within c site past are.0 are.1)
told_within c site (entry.Dialed port taken ∷ past) posts are = told_within c site past posts are
told_within c site (entry.Ended k cause ∷ past) posts are = does_told c site.limit k (End cause) true are.0 posts are.2 (told_within c site past are.0 are.1)
