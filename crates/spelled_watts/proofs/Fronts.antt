-- What holds behind a run holds behind each of its entries, and behind each of the orders that close it.
use Rattle.std.proofs.Common.{◌≡◌, ◌∙◌, ℕ, suc, List, [], ◌∷◌, ◌++◌, map, Bool, true, false, MatchBool, inl, inr, refl, sym, ap, subst}
use Rattle.std.proofs.lemmas.List.{map-append}
use Rattle.charge_world.specs.declared.entry.Entry.{Entry}
use Rattle.charge_world.specs.declared.entry.Entry.TheVariants as entry
use Rattle.charge_world.specs.declared.heard.Heard.{Heard}
use Rattle.charge_world.specs.declared.ports.Order.TheVariants as order
use Rattle.session_words.specs.declared.plan.PostPlan.{PostPlan}
use Rattle.session_words.specs.declared.plan.SitePlan.{SitePlan}
use Rattle.post_spec.specs.Codecs.{Codecs}
use Rattle.post_spec.specs.Spelled.{IsSpelled, ReadsBack}
use Rattle.post_spec.specs.Steps.{seen}
use Rattle.station_spec.specs.Sharing.{Post, state_of}
use Rattle.station_spec.specs.Runs.{unheard, heard_from, HeardBy, Follows, IsRun, Closes}
use Rattle.spelled_watts.specs.Spelling.{SpellsWithin, AreSpelled, NegotiatesFirst, FrontsSpellWithin}
use Rattle.spelled_watts.proofs.Within.{runs_spell_within, drove_within}

-- ---- the plans of the posts stay

abbrev plan_of : Post → PostPlan
plan_of post = post.plan

unheard_plans : (plans : List PostPlan) → map plan_of (map unheard plans) ≡ plans
unheard_plans [] = refl
unheard_plans (plan ∷ plans) = ap (λ (more : List PostPlan). plan ∷ more) (unheard_plans plans)

heard_plans : (k at : ℕ) (heard : Heard) (bytes : List ℕ) (posts : List Post) → map plan_of (heard_from k at heard bytes posts) ≡ map plan_of posts
heard_plans k at heard bytes [] = refl
heard_plans k at heard bytes (p ∷ posts) = ap (λ (more : List PostPlan). p.plan ∷ more) (heard_plans (suc k) at heard bytes posts)

hearing_plans : (past : List Entry) (posts : List Post) (e : Entry) (later : List Post) → HeardBy past posts e later → map plan_of later ≡ map plan_of posts
hearing_plans past posts (entry.Heard heard bytes) later h = ap (map plan_of) h.2 ∙ heard_plans 1 _ heard bytes posts
hearing_plans past posts entry.Lost later h = ap (map plan_of) h
hearing_plans past posts (entry.Sent post bytes taken) later h = absurd h
hearing_plans past posts (entry.Answered post bytes taken) later h = absurd h
hearing_plans past posts (entry.Drove post order taken) later h = absurd h
hearing_plans past posts (entry.Dialed port taken) later h = absurd h
hearing_plans past posts (entry.Ended post cause) later h = absurd h

follows_plans : (c : Codecs) (site : SitePlan) (past : List Entry) (posts : List Post) (e : Entry) (later : List Post) → Follows c site past posts e later → map plan_of later ≡ map plan_of posts
follows_plans c site past posts e later (inl h) = hearing_plans past posts e later h.heard
follows_plans c site past posts e later (inr a) =
    ap (map plan_of) a.later_is ∙ map-append plan_of a.before _ ∙ sym (map-append plan_of a.before (a.post ∷ a.behind)) ∙ sym (ap (map plan_of) a.posts_are)

run_plans : (c : Codecs) (site : SitePlan) (past : List Entry) (posts : List Post) → IsRun c site past posts → map plan_of posts ≡ site.post.items
run_plans c site [] posts run = ap (map plan_of) run ∙ unheard_plans site.post.items
run_plans c site (e ∷ past) later run = follows_plans c site past run.0 e later run.2 ∙ run_plans c site past run.0 run.1

-- the watts that posts spell are said of their plans alone
same_spelled : (c : Codecs) (past : List Entry) (k : ℕ) (posts others : List Post) (watts : List ℕ) → map plan_of posts ≡ map plan_of others → AreSpelled c past k posts watts → AreSpelled c past k others watts
same_spelled c past k [] [] watts e a = a
same_spelled c past k [] (q ∷ others) watts e a = absurd cc
same_spelled c past k (p ∷ posts) [] watts e a = absurd cc
same_spelled c past k (p ∷ posts) (q ∷ others) [] e a = absurd a
same_spelled c past k (p ∷ posts) (q ∷ others) (w ∷ watts) e a =
    let here : p.plan ≡ q.plan = cc in
    let more : map plan_of posts ≡ map plan_of others = cc in
    (subst (λ (plan : PostPlan). IsSpelled c plan (seen k past) w) here a.0, same_spelled c past (suc k) posts others watts more a.1)

-- ---- the fronts of a run

pub front_run : (c : Codecs) (site : SitePlan) (newer front : List Entry) (posts : List Post) → IsRun c site (newer ++ front) posts → (then : List Post) × IsRun c site front then
front_run c site [] front posts run = (posts, run)
front_run c site (e ∷ newer) front posts run = front_run c site newer front run.0 run.1

abbrev AtFronts : (List Entry → Type 0) → List Entry → Type 0
AtFronts P past = (newer front : List Entry) → past ≡ newer ++ front → P front

front_spells : (c : Codecs) (site : SitePlan) (blocks : List Entry) (posts : List Post) → ReadsBack c → NegotiatesFirst c → IsRun c site blocks posts → AtFronts (λ front. SpellsWithin c site.limit front posts) blocks
front_spells c site blocks posts back neg run newer front is =
    let r = front_run c site newer front posts (subst (λ (es : List Entry). IsRun c site es posts) is run) in
    let s = runs_spell_within c site front r.0 back neg r.1 in
    let plans : map plan_of r.0 ≡ map plan_of posts = run_plans c site front r.0 r.1 ∙ sym (run_plans c site blocks posts run) in
    record { watts = s.watts; are = same_spelled c front 1 r.0 posts s.watts plans s.are; within = s.within }

-- ---- the orders that close it

on_top : (P : List Entry → Type 0) (e : Entry) (blocks : List Entry) → P (e ∷ blocks) → AtFronts P blocks → AtFronts P (e ∷ blocks)
on_top P e blocks here below [] front is = subst P is here
on_top P e blocks here below (x ∷ newer) front is = below newer front cc

closed_one : (b : Bool) (c : Codecs) (limit k : ℕ) (rest posts : List Post) (blocks past : List Entry)
    → ((earlier : List Entry) → Closes (suc k) rest earlier past → AtFronts (λ front. SpellsWithin c limit front posts) earlier → AtFronts (λ front. SpellsWithin c limit front posts) past)
    → MatchBool b ((taken : Bool) × Closes (suc k) rest (entry.Drove k order.Open taken ∷ blocks) past) (Closes (suc k) rest blocks past)
    → AtFronts (λ front. SpellsWithin c limit front posts) blocks → AtFronts (λ front. SpellsWithin c limit front posts) past
closed_one true c limit k rest posts blocks past next (taken, h) s =
    next (entry.Drove k order.Open taken ∷ blocks) h (on_top (λ front. SpellsWithin c limit front posts) (entry.Drove k order.Open taken) blocks (drove_within c limit blocks k order.Open taken posts (s [] blocks refl)) s)
closed_one false c limit k rest posts blocks past next h s = next blocks h s

closed_fronts : (c : Codecs) (limit k : ℕ) (rest posts : List Post) (blocks past : List Entry) → Closes k rest blocks past → AtFronts (λ front. SpellsWithin c limit front posts) blocks → AtFronts (λ front. SpellsWithin c limit front posts) past
closed_fronts c limit k [] posts blocks past h s = subst (λ (es : List Entry). AtFronts (λ front. SpellsWithin c limit front posts) es) (sym h) s
closed_fronts c limit k (p ∷ rest) posts blocks past h s =
    closed_one (state_of p).live c limit k rest posts blocks past (λ earlier g t. closed_fronts c limit (suc k) rest posts earlier past g t) h s

pub fronts_spell_within : (c : Codecs) → FrontsSpellWithin c
fronts_spell_within c site past blocks posts back neg run closes =
    closed_fronts c site.limit 1 posts posts blocks past closes (front_spells c site blocks posts back neg run)
