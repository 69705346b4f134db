-- The posts of a site, by their places.
use Rattle.std.proofs.Common.{◌≡◌, ◌<◌, ℕ, zero, suc, ◌+◌, max, Bool, true, List, [], ◌∷◌, ◌++◌, length, map, take, drop, get_or, refl, sym, ap, subst, ◌∙◌, arith}
use Rattle.std.proofs.Math.Seq.{split_at}
use Rattle.std.proofs.lemmas.List.{length-append, length-map, length-take-le, map-append, get_or-map, get_or_at}
use Rattle.charge_world.specs.declared.entry.Entry.{Entry}
use Rattle.charge_world.specs.declared.entry.Entry.TheVariants as entry
use Rattle.session_words.specs.declared.plan.PostPlan.{PostPlan}
use Rattle.session_words.specs.declared.plan.SitePlan.{SitePlan}
use Rattle.post_spec.specs.Steps.{Event, Act, Give, Send, Answer, End, moment, event_at}
use Rattle.told_pasts.specs.Site.{ToldPost, hearing, OneDoes, ArePosts, IsPostOf}
use Rattle.told_pasts.specs.Spelling.{ToldCodecs}
use Rattle.told_pasts.specs.Steps.{Hears}
use Rattle.audit_causes.specs.Values.{IsOnly}
use Rattle.determined_pasts.specs.Posts.{PostsAreOne}
use Rattle.trace_audit.specs.Seats.{IsAt}
use Rattle.trace_audit.proofs.Lists.{at_once}

-- ---- their plans

abbrev plan_of : ToldPost → PostPlan
plan_of post = post.plan

abbrev unstarted : PostPlan → ToldPost
unstarted plan = record { plan = plan; steps = [] }

first_plans : (plans : List PostPlan) → map plan_of (map unstarted plans) ≡ plans
first_plans [] = refl
first_plans (plan ∷ plans) = ap (λ (rest : List PostPlan). plan ∷ rest) (first_plans plans)

heard_plans : (event : ℕ → Event) (at k : ℕ) (posts : List ToldPost) → map plan_of (hearing event at k posts) ≡ map plan_of posts
heard_plans event at k [] = refl
heard_plans event at k (post ∷ posts) = ap (λ (rest : List PostPlan). post.plan ∷ rest) (heard_plans event at (suc k) posts)

does_plans : (c : ToldCodecs) (limit k : ℕ) (act : Act) (taken : Bool) (earlier later : List ToldPost) → OneDoes c limit k act taken earlier later → map plan_of later ≡ map plan_of earlier
does_plans c limit k act taken earlier later d =
    let this : ToldPost = record d.post { steps = d.step ∷ d.post.steps } in
    ap (map plan_of) d.later_are ∙ map-append plan_of d.before (this ∷ d.behind) ∙ sym (map-append plan_of d.before (d.post ∷ d.behind)) ∙ sym (ap (map plan_of) d.earlier_are)

posts_plans : (c : ToldCodecs) (site : SitePlan) (past : List Entry) (posts : List ToldPost) → ArePosts c site past posts → map plan_of posts ≡ site.post.items
posts_plans c site [] posts are = ap (map plan_of) are ∙ first_plans site.post.items
posts_plans c site (entry.Heard heard bytes ∷ past) posts are =
    ap (map plan_of) are.2 ∙ heard_plans (λ k. event_at k heard.what bytes) (max (moment past) heard.at) 1 are.0 ∙ posts_plans c site past are.0 are.1
posts_plans c site (entry.Lost ∷ past) posts are = posts_plans c site past posts are
posts_plans c site (entry.Sent k bytes taken ∷ past) posts are = does_plans c site.limit k (Send bytes) taken are.0 posts are.2 ∙ posts_plans c site past are.0 are.1
posts_plans c site (entry.Answered k bytes taken ∷ past) posts are = does_plans c site.limit k (Answer bytes) taken are.0 posts are.2 ∙ posts_plans c site past are.0 are.1
posts_plans c site (entry.Drove k given taken ∷ past) posts are = does_plans c site.limit k (Give given) taken are.0 posts are.2 ∙ posts_plans c site past are.0 are.1
posts_plans c site (entry.Dialed port taken ∷ past) posts are = posts_plans c site past posts are
posts_plans c site (entry.Ended k cause ∷ past) posts are = does_plans c site.limit k (End cause) true are.0 posts are.2 ∙ posts_plans c site past are.0 are.1

pub posts_count : (c : ToldCodecs) (site : SitePlan) (past : List Entry) (posts : List ToldPost) → ArePosts c site past posts → length posts ≡ length site.post.items
posts_count c site past posts are = sym (length-map posts plan_of) ∙ ap length (posts_plans c site past posts are)

pub plan_at : (c : ToldCodecs) (site : SitePlan) (past : List Entry) (posts : List ToldPost) (i : ℕ) (post : ToldPost) → ArePosts c site past posts → IsAt posts i post → IsAt site.post.items i post.plan
plan_at c site past posts i post are h = (
  let n = posts_count c site past posts are in let less = h.0 in omega (arith, n, less),
  ap plan_of h.1 ∙ sym (get_or-map plan_of posts i post post.plan h.0) ∙ ap (λ (plans : List PostPlan). get_or plans i post.plan) (posts_plans c site past posts are),
)

-- ---- one of them

pub split_post : (posts : List ToldPost) (i : ℕ) (post : ToldPost) → IsAt posts i post → posts ≡ take i posts ++ post ∷ drop (suc i) posts
split_post posts i post h = split_at posts i post h.0 ∙ ap (λ (p : ToldPost). take i posts ++ p ∷ drop (suc i) posts) (sym h.1)

pub place_of : (posts : List ToldPost) (i : ℕ) (post : ToldPost) → IsAt posts i post → i + 1 ≡ length (take i posts) + 1
place_of posts i post h = let less = h.0 in omega (arith, length-take-le i posts (omega (arith, less)), less)

pub post_of : (c : ToldCodecs) (site : SitePlan) (past : List Entry) (posts : List ToldPost) (i : ℕ) (post : ToldPost) → ArePosts c site past posts → IsAt posts i post → IsPostOf c site past (i + 1) post
post_of c site past posts i post are h = record {
  before = take i posts;
  behind = drop (suc i) posts;
  posts = subst (λ (ps : List ToldPost). ArePosts c site past ps) (split_post posts i post h) are;
  place = place_of posts i post h;
}

pub at_middle : (front : List ToldPost) (post : ToldPost) (rest : List ToldPost) → IsAt (front ++ post ∷ rest) (length front) post
at_middle front post rest = (
  let l = length-append front (post ∷ rest) in let m : length (post ∷ rest) ≡ suc (length rest) = refl in omega (arith, l, m),
  sym (get_or_at front post rest post (length front) refl),
)

pub at_post : (c : ToldCodecs) (site : SitePlan) (past : List Entry) (posts : List ToldPost) (i : ℕ) (other : ToldPost) → PostsAreOne c → ArePosts c site past posts → IsPostOf c site past (i + 1) other → IsAt posts i other
at_post c site past posts i other one are is =
    let place : length is.before ≡ i = let p = is.place in omega (arith, p) in
    subst (λ (n : ℕ). IsAt posts n other) place
    (subst (λ (ps : List ToldPost). IsAt ps (length is.before) other) (one site past (is.before ++ other ∷ is.behind) posts is.posts are) (at_middle is.before other is.behind))

pub only_post : (c : ToldCodecs) (site : SitePlan) (past : List Entry) (posts : List ToldPost) (i : ℕ) (post : ToldPost) → PostsAreOne c → ArePosts c site past posts → IsAt posts i post → IsOnly c site past (i + 1) post.plan post.steps
only_post c site past posts i post one are h = record {
  is = post_of c site past posts i post are h;
  only = λ other is. at_once posts i other post (at_post c site past posts i other one are is) h;
}

-- the number of a post
pub number_of : (c : ToldCodecs) (site : SitePlan) (past : List Entry) (k : ℕ) (post : ToldPost) → IsPostOf c site past k post → (i : ℕ) × (i < length site.post.items) × (k ≡ i + 1)
number_of c site past k post is =
    let all = posts_count c site past (is.before ++ post ∷ is.behind) is.posts in
    let l = length-append is.before (post ∷ is.behind) in
    let m : length (post ∷ is.behind) ≡ suc (length is.behind) = refl in
    (length is.before, omega (arith, all, l, m), is.place)

-- ---- what they hear

pub hearing_count : (event : ℕ → Event) (at k : ℕ) (posts : List ToldPost) → length (hearing event at k posts) ≡ length posts
hearing_count event at k [] = refl
hearing_count event at k (post ∷ posts) = ap suc (hearing_count event at (suc k) posts)

pub hearing_at : (event : ℕ → Event) (at k n : ℕ) (posts : List ToldPost) (i : ℕ) (p q : ToldPost) → n ≡ i + k → IsAt posts i p → IsAt (hearing event at k posts) i q
    → q ≡ record p { steps = Hears at (event n) ∷ p.steps }
hearing_at event at k n [] i p q same h m = absurd (let less = h.0 in omega (arith, less))
hearing_at event at k n (post ∷ posts) zero p q same h m =
    m.1 ∙ ap (λ (x : ToldPost). record x { steps = Hears at (event k) ∷ x.steps }) (sym h.1) ∙ ap (λ (j : ℕ). record p { steps = Hears at (event j) ∷ p.steps }) (let e : k ≡ n = omega (arith, same) in e)
hearing_at event at k n (post ∷ posts) (suc i) p q same h m =
    let l : length (post ∷ posts) ≡ suc (length posts) = refl in
    let less = h.0 in
    let long = hearing_count event at (suc k) posts in
    hearing_at event at (suc k) n posts i p q (omega (arith, same)) (omega (arith, less, l), h.1) (omega (arith, less, l, long), m.1)
