-- What a post of a foreign trace saw and went by.
use Rattle.std.proofs.Common.{◌≡◌, ◌≢◌, ◌<◌, ℕ, suc, ◌+◌, max, Bool, true, List, [], ◌∷◌, ◌++◌, length, map, Option, refl, sym, ap, subst, ◌∙◌, arith}
use Rattle.std.proofs.lemmas.Bool.{eq-eqb, ne_eqb}
use Rattle.std.proofs.lemmas.List.{map-append, length-map}
use Rattle.charge_world.specs.declared.entry.Entry.{Entry}
use Rattle.charge_world.specs.declared.entry.Entry.TheVariants as entry
use Rattle.session_words.specs.declared.plan.PostPlan.{PostPlan}
use Rattle.session_words.specs.declared.plan.SitePlan.{SitePlan}
use Rattle.post_spec.specs.Steps.{Event, Act, Give, Send, Answer, End, Seen, Heard, Did, Reading, moment, event_at, seen}
use Rattle.station_spec.specs.Sharing.{Post}
use Rattle.told_pasts.specs.Reading.{IsReading, IsSaid}
use Rattle.told_pasts.specs.Site.{ToldPost, Shows, IsOther, IsSending, IsStep, hearing, OneDoes, ArePosts, IsPostOf}
use Rattle.told_pasts.specs.Spelling.{ToldCodecs}
use Rattle.told_pasts.specs.Steps.{ToldStep, Hears, Does, Sends, seen_in}
use Rattle.own_traces.proofs.Places.{Of, plan_of}

-- ---- the steps of one post, whatever the others were told

-- what an act reads, beside some other posts
abbrev pub Reads : ToldCodecs → PostPlan → List ToldStep → Act → Option Reading → Type 0
Reads c plan steps act reading = (limit : ℕ) × (before : List ToldPost) × (behind : List ToldPost) × IsReading c (Shows limit before behind) plan steps act reading

-- a sending is a step of its own
abbrev pub IsOtherAct : Act → Type 0
IsOtherAct (Give order) = Unit {0}
IsOtherAct (Send bytes) = ⊥
IsOtherAct (Answer bytes) = Unit {0}
IsOtherAct (End cause) = Unit {0}

abbrev pub IsToldRun : ToldCodecs → PostPlan → List ToldStep → Type 0
IsToldRun c plan [] = Unit {0}
IsToldRun c plan (Hears at event ∷ steps) = IsToldRun c plan steps
IsToldRun c plan (Does reading act taken ∷ steps) = IsToldRun c plan steps × Reads c plan steps act reading × IsOtherAct act
IsToldRun c plan (Sends reading bytes taken said ∷ steps) =
    IsToldRun c plan steps × Reads c plan steps (Send bytes) reading × IsSaid c plan (seen_in steps) bytes said

pub record IsToldOf (c : ToldCodecs) (past : List Entry) (k : ℕ) (post : ToldPost) : Type 0 where
  pub run : IsToldRun c post.plan post.steps
  pub seen_is : seen k past ≡ seen_in post.steps

abbrev AreToldOf : ToldCodecs → List Entry → ℕ → List ToldPost → Type 0
AreToldOf c past k [] = Unit {0}
AreToldOf c past k (post ∷ posts) = IsToldOf c past k post × AreToldOf c past (suc k) posts

-- ---- an act of another post, and of this one

abbrev entry_of : ℕ → Act → Bool → Entry
entry_of k (Give order) taken = entry.Drove k order taken
entry_of k (Send bytes) taken = entry.Sent k bytes taken
entry_of k (Answer bytes) taken = entry.Answered k bytes taken
entry_of k (End cause) taken = entry.Ended k cause

seen_other : (k n : ℕ) (a : Act) (taken : Bool) (past : List Entry) → n ≢ k → seen k (entry_of n a taken ∷ past) ≡ seen k past
seen_other k n (Give order) taken past ne = let t = ne_eqb n k ne in rw t refl
seen_other k n (Send bytes) taken past ne = let t = ne_eqb n k ne in rw t refl
seen_other k n (Answer bytes) taken past ne = let t = ne_eqb n k ne in rw t refl
seen_other k n (End cause) taken past ne = let t = ne_eqb n k ne in rw t refl

abbrev IsEndTaken : Act → Bool → Type 0
IsEndTaken (Give order) taken = Unit {0}
IsEndTaken (Send bytes) taken = Unit {0}
IsEndTaken (Answer bytes) taken = Unit {0}
IsEndTaken (End cause) taken = taken ≡ true

seen_own : (k n : ℕ) (a : Act) (taken : Bool) (past : List Entry) → n ≡ k → IsEndTaken a taken → seen k (entry_of n a taken ∷ past) ≡ Did a taken ∷ seen k past
seen_own k n (Give order) taken past e t = let b = eq-eqb n k e in rw b refl
seen_own k n (Send bytes) taken past e t = let b = eq-eqb n k e in rw b refl
seen_own k n (Answer bytes) taken past e t = let b = eq-eqb n k e in rw b refl
seen_own k n (End cause) taken past e t = let b = eq-eqb n k e in rw (b, t) refl

others : (c : ToldCodecs) (past : List Entry) (n k : ℕ) (a : Act) (taken : Bool) (posts : List ToldPost) → n < k → AreToldOf c past k posts → AreToldOf c (entry_of n a taken ∷ past) k posts
others c past n k a taken [] less all = tt
others c past n k a taken (p ∷ posts) less all =
    (record { run = all.0.run; seen_is = seen_other k n a taken past (λ e. omega (arith, e, less)) ∙ all.0.seen_is }, others c past n (suc k) a taken posts (omega (arith, less)) all.1)

acted_at : (c : ToldCodecs) (past : List Entry) (n k : ℕ) (before : List ToldPost) (p q : ToldPost) (behind : List ToldPost) (a : Act) (taken : Bool) → n ≡ length before + k → IsEndTaken a taken
    → (IsToldRun c p.plan p.steps → IsToldRun c q.plan q.steps) → seen_in q.steps ≡ Did a taken ∷ seen_in p.steps
    → AreToldOf c past k (before ++ p ∷ behind) → AreToldOf c (entry_of n a taken ∷ past) k (before ++ q ∷ behind)
acted_at c past n k [] p q behind a taken e t run is all =
    let same : n ≡ k = omega (arith, e) in
    (record { run = run all.0.run; seen_is = seen_own k n a taken past same t ∙ ap (λ (xs : List Seen). Did a taken ∷ xs) all.0.seen_is ∙ sym is }, others c past n (suc k) a taken behind (omega (arith, same)) all.1)
acted_at c past n k (b ∷ before) p q behind a taken e t run is all =
    let l : length (b ∷ before) ≡ length before + 1 = omega arith in
    (record { run = all.0.run; seen_is = seen_other k n a taken past (λ s. omega (arith, e, l, s)) ∙ all.0.seen_is }, acted_at c past n (suc k) before p q behind a taken (omega (arith, e, l)) t run is all.1)

-- ---- a step

pub record IsLater (c : ToldCodecs) (post : ToldPost) (act : Act) (taken : Bool) (step : ToldStep) : Type 0 where
  pub run : IsToldRun c post.plan post.steps → IsToldRun c post.plan (step ∷ post.steps)
  pub is : seen_in (step ∷ post.steps) ≡ Did act taken ∷ seen_in post.steps

other_later : (c : ToldCodecs) (limit : ℕ) (before behind : List ToldPost) (post : ToldPost) (act : Act) (taken : Bool) (step : ToldStep) → IsOtherAct act → IsOther c (Shows limit before behind) post act taken step → IsLater c post act taken step
other_later c limit before behind post act taken step t x =
    subst (λ (s : ToldStep). IsLater c post act taken s) (sym x.2) (record { run = λ run. (run, (limit, before, behind, x.1), t); is = refl })

sending_later : (c : ToldCodecs) (limit : ℕ) (before behind : List ToldPost) (post : ToldPost) (bytes : List ℕ) (taken : Bool) (step : ToldStep) → IsSending c (Shows limit before behind) post bytes taken step → IsLater c post (Send bytes) taken step
sending_later c limit before behind post bytes taken step x =
    subst (λ (s : ToldStep). IsLater c post (Send bytes) taken s) (sym x.4) (record { run = λ run. (run, (limit, before, behind, x.2), x.3); is = refl })

step_later : (c : ToldCodecs) (limit : ℕ) (before behind : List ToldPost) (post : ToldPost) (act : Act) (taken : Bool) (step : ToldStep) → IsStep c (Shows limit before behind) post act taken step → IsLater c post act taken step
step_later c limit before behind post (Give given) taken step x = other_later c limit before behind post (Give given) taken step tt x
step_later c limit before behind post (Send bytes) taken step x = sending_later c limit before behind post bytes taken step x
step_later c limit before behind post (Answer bytes) taken step x = other_later c limit before behind post (Answer bytes) taken step tt x
step_later c limit before behind post (End cause) taken step x = other_later c limit before behind post (End cause) taken step tt x

does_later : (c : ToldCodecs) (past : List Entry) (limit k : ℕ) (a : Act) (taken : Bool) (earlier later : List ToldPost) → IsEndTaken a taken → OneDoes c limit k a taken earlier later → AreToldOf c past 1 earlier → AreToldOf c (entry_of k a taken ∷ past) 1 later
does_later c past limit k a taken earlier later t d all =
    let x = step_later c limit d.before d.behind d.post a taken d.step d.is in
    subst (AreToldOf c (entry_of k a taken ∷ past) 1) (sym d.later_are)
    (acted_at c past k 1 d.before d.post (record d.post { steps = d.step ∷ d.post.steps }) d.behind a taken d.place t x.run x.is (subst (AreToldOf c past 1) d.earlier_are all))

-- ---- a hearing

heard_all : (c : ToldCodecs) (past : List Entry) (e : Entry) (event : ℕ → Event) (at k : ℕ) (posts : List ToldPost) → ((j : ℕ) → seen j (e ∷ past) ≡ Heard at (event j) ∷ seen j past)
    → AreToldOf c past k posts → AreToldOf c (e ∷ past) k (hearing event at k posts)
heard_all c past e event at k [] sees all = tt
heard_all c past e event at k (p ∷ posts) sees all =
    (record { run = all.0.run; seen_is = sees k ∙ ap (λ (xs : List Seen). Heard at (event k) ∷ xs) all.0.seen_is }, heard_all c past e event at (suc k) posts sees all.1)

unseen : (c : ToldCodecs) (past : List Entry) (e : Entry) (k : ℕ) (posts : List ToldPost) → ((j : ℕ) → seen j (e ∷ past) ≡ seen j past) → AreToldOf c past k posts → AreToldOf c (e ∷ past) k posts
unseen c past e k [] sees all = tt
unseen c past e k (p ∷ posts) sees all = (record { run = all.0.run; seen_is = sees k ∙ all.0.seen_is }, unseen c past e (suc k) posts sees all.1)

unstarted : (c : ToldCodecs) (k : ℕ) (plans : List PostPlan) → AreToldOf c [] k (map (λ plan. record { plan = plan; steps = [] }) plans)
unstarted c k [] = tt
unstarted c k (plan ∷ plans) = (record { run = tt; seen_is = refl }, unstarted c (suc k) plans)

all_told : (c : ToldCodecs) (site : SitePlan) (past : List Entry) (posts : List ToldPost) → ArePosts c site past posts → AreToldOf c past 1 posts
all_told c site [] posts are = subst (AreToldOf c [] 1) (sym are) (unstarted c 1 site.post.items)
all_told c site (entry.Heard heard bytes ∷ past) posts are =
    subst (AreToldOf c (entry.Heard heard bytes ∷ past) 1) (sym are.2)
    (heard_all c past (entry.Heard heard bytes) (λ k. event_at k heard.what bytes) (max (moment past) heard.at) 1 are.0 (λ j. refl) (all_told c site past are.0 are.1))
all_told c site (entry.Lost ∷ past) posts are = unseen c past entry.Lost 1 posts (λ j. refl) (all_told c site past posts are)
all_told c site (entry.Sent k bytes taken ∷ past) posts are = does_later c past site.limit k (Send bytes) taken are.0 posts tt are.2 (all_told c site past are.0 are.1)
all_told c site (entry.Answered k bytes taken ∷ past) posts are = does_later c past site.limit k (Answer bytes) taken are.0 posts tt are.2 (all_told c site past are.0 are.1)
all_told c site (entry.Drove k given taken ∷ past) posts are = does_later c past site.limit k (Give given) taken are.0 posts tt are.2 (all_told c site past are.0 are.1)
all_told c site (entry.Dialed port taken ∷ past) posts are = unseen c past (entry.Dialed port taken) 1 posts (λ j. refl) (all_told c site past posts are)
all_told c site (entry.Ended k cause ∷ past) posts are = does_later c past site.limit k (End cause) true are.0 posts refl are.2 (all_told c site past are.0 are.1)

at_place : (c : ToldCodecs) (past : List Entry) (n k : ℕ) (before : List ToldPost) (p : ToldPost) (behind : List ToldPost) → n ≡ length before + k → AreToldOf c past k (before ++ p ∷ behind) → IsToldOf c past n p
at_place c past n k [] p behind e all = subst (λ (i : ℕ). IsToldOf c past i p) (omega (arith, e)) all.0
at_place c past n k (b ∷ before) p behind e all =
    let l : length (b ∷ before) ≡ length before + 1 = omega arith in
    at_place c past n (suc k) before p behind (omega (arith, e, l)) all.1

pub told_of : (c : ToldCodecs) (site : SitePlan) (past : List Entry) (k : ℕ) (post : ToldPost) → IsPostOf c site past k post → IsToldOf c past k post
told_of c site past k post is = at_place c past k 1 is.before post is.behind is.place (all_told c site past (is.before ++ post ∷ is.behind) is.posts)

-- ---- its plan

abbrev pub told_plan : ToldPost → PostPlan
told_plan post = post.plan

first_plans : (plans : List PostPlan) → map told_plan (map (λ plan. record { plan = plan; steps = [] }) plans) ≡ plans
first_plans [] = refl
first_plans (plan ∷ plans) = ap (λ (rest : List PostPlan). plan ∷ rest) (first_plans plans)

heard_plans : (event : ℕ → Event) (at k : ℕ) (posts : List ToldPost) → map told_plan (hearing event at k posts) ≡ map told_plan posts
heard_plans event at k [] = refl
heard_plans event at k (post ∷ posts) = ap (λ (rest : List PostPlan). post.plan ∷ rest) (heard_plans event at (suc k) posts)

does_plans : (c : ToldCodecs) (limit k : ℕ) (act : Act) (taken : Bool) (earlier later : List ToldPost) → OneDoes c limit k act taken earlier later → map told_plan later ≡ map told_plan earlier
does_plans c limit k act taken earlier later d =
    let this : ToldPost = record d.post { steps = d.step ∷ d.post.steps } in
    ap (map told_plan) d.later_are ∙ map-append told_plan d.before (this ∷ d.behind) ∙ sym (map-append told_plan d.before (d.post ∷ d.behind)) ∙ sym (ap (map told_plan) d.earlier_are)

pub posts_plans : (c : ToldCodecs) (site : SitePlan) (past : List Entry) (posts : List ToldPost) → ArePosts c site past posts → map told_plan posts ≡ site.post.items
posts_plans c site [] posts are = ap (map told_plan) are ∙ first_plans site.post.items
posts_plans c site (entry.Heard heard bytes ∷ past) posts are =
    ap (map told_plan) are.2 ∙ heard_plans (λ k. event_at k heard.what bytes) (max (moment past) heard.at) 1 are.0 ∙ posts_plans c site past are.0 are.1
posts_plans c site (entry.Lost ∷ past) posts are = posts_plans c site past posts are
posts_plans c site (entry.Sent k bytes taken ∷ past) posts are = does_plans c site.limit k (Send bytes) taken are.0 posts are.2 ∙ posts_plans c site past are.0 are.1
posts_plans c site (entry.Answered k bytes taken ∷ past) posts are = does_plans c site.limit k (Answer bytes) taken are.0 posts are.2 ∙ posts_plans c site past are.0 are.1
posts_plans c site (entry.Drove k given taken ∷ past) posts are = does_plans c site.limit k (Give given) taken are.0 posts are.2 ∙ posts_plans c site past are.0 are.1
posts_plans c site (entry.Dialed port taken ∷ past) posts are = posts_plans c site past posts are
posts_plans c site (entry.Ended k cause ∷ past) posts are = does_plans c site.limit k (End cause) true are.0 posts are.2 ∙ posts_plans c site past are.0 are.1

same_place : {A B C : Type 0} (f : A → C) (g : B → C) (xs : List A) (x : A) (us : List A) (ys : List B) (y : B) (vs : List B) → length xs ≡ length ys → map f (xs ++ x ∷ us) ≡ map g (ys ++ y ∷ vs) → f x ≡ g y
same_place f g [] x us [] y vs l e = cc
same_place f g [] x us (z ∷ ys) y vs l e = absurd (omega (arith, l))
same_place f g (z ∷ xs) x us [] y vs l e = absurd (omega (arith, l))
same_place f g (z ∷ xs) x us (w ∷ ys) y vs l e =
    let m : length (z ∷ xs) ≡ suc (length xs) = refl in
    let n : length (w ∷ ys) ≡ suc (length ys) = refl in
    let rest : map f (xs ++ x ∷ us) ≡ map g (ys ++ y ∷ vs) = cc in
    same_place f g xs x us ys y vs (omega (arith, l, m, n)) rest

pub same_plan : (c : ToldCodecs) (site : SitePlan) (past : List Entry) (k : ℕ) (post : ToldPost) (posts : List Post) → map plan_of posts ≡ site.post.items → (o : Of posts k) → IsPostOf c site past k post → post.plan ≡ o.post.plan
same_plan c site past k post posts plans o is =
    let m = is.place in
    let n = o.number in
    same_place told_plan plan_of is.before post is.behind o.before o.post o.behind (omega (arith, m, n))
    (posts_plans c site past (is.before ++ post ∷ is.behind) is.posts ∙ sym plans ∙ ap (map plan_of) o.posts_are)

-- the number of a post of a foreign trace is that of one of the run
pub number_of : (c : ToldCodecs) (site : SitePlan) (past : List Entry) (k : ℕ) (post : ToldPost) → IsPostOf c site past k post
    → (before : List PostPlan) × (plan : PostPlan) × (behind : List PostPlan) × (site.post.items ≡ before ++ plan ∷ behind) × (k ≡ length before + 1)
number_of c site past k post is =
    let l = length-map is.before told_plan in
    let m = is.place in
    (map told_plan is.before, post.plan, map told_plan is.behind, sym (posts_plans c site past (is.before ++ post ∷ is.behind) is.posts) ∙ map-append told_plan is.before (post ∷ is.behind), omega (arith, l, m))
