-- The watts that the replies of all posts spell, as their messages write them, stay within the limit.
use Rattle.std.proofs.Common.{◌≡◌, ◌≤◌, ◌<◌, ℕ, suc, ◌+◌, Bool, true, false, if◌then◌else◌, List, [], ◌∷◌, ◌++◌, length, map, is_some, refl, sym, ap, subst, ◌∙◌, inl, inr, arith}
use Rattle.std.specs.Prelude.{sum}
use Rattle.std.specs.List.{AllByRecursion, sum_by}
use Rattle.std.proofs.lemmas.List.{append_assoc, length-append}
use Rattle.std.proofs.lemmas.List.Sums.{sum_by-cons}
use Rattle.charge_world.specs.declared.entry.Entry.{Entry}
use Rattle.session_words.specs.declared.plan.PostPlan.{PostPlan}
use Rattle.session_words.specs.declared.plan.SitePlan.{SitePlan}
use Rattle.session_rules.specs.Asks.{shows_watts}
use Rattle.post_spec.specs.Kinds.{tell_watts}
use Rattle.post_spec.specs.Sessions.{arriving, session}
use Rattle.post_spec.specs.Spelled as post
use Rattle.post_spec.specs.Spelled.{IsSpelled, read_back}
use Rattle.post_spec.specs.Steps.{Give, Send, Answer, End, Seen, seen}
use Rattle.post_spec.specs.Talk.{Exchange, Talks}
use Rattle.station_spec.specs.Sharing.{Post}
use Rattle.station_spec.specs.Runs.{IsSiteRun}
use Rattle.spelled_watts.specs.Spelling.{AreSpelled}
use Rattle.spelled_watts.proofs.Fronts.{fronts_spell_within}
use Rattle.told_pasts.specs.Checks.{PassesLimit}
use Rattle.told_pasts.specs.Site.{ToldPost, told_of, spelled_of, ArePosts, IsPostOf}
use Rattle.told_pasts.specs.Spelling.{ToldCodecs, spelled_in}
use Rattle.told_pasts.specs.Steps as told
use Rattle.told_pasts.specs.Steps.{Said, Response, Replied, Other, Unasked, ToldStep, Sends, seen_in}
use Rattle.told_pasts.specs.Talk.{Reply, exchange_by, exchange_of, spelled, spelled_or, spelled_by, with_said, judged_by, judged_over, replies, talk}
use Rattle.faultless_pasts.proofs.Told.{told_within}
use Rattle.own_traces.proofs.Numbers.{sixth}
use Rattle.own_traces.proofs.Places.{plan_of, run_plans}
use Rattle.own_traces.proofs.Told.{IsToldRun, told_of as told_post, told_plan, posts_plans}
use Rattle.own_traces.specs.Owning.{TellsOwn}
use Rattle.own_traces.proofs.Pasts.{OwnPast, own_past}
use Rattle.own_traces.proofs.Saying.{SaidSo, WasResponse, WasReply}
use Rattle.own_traces.proofs.Talks.{AllSaid, all_said, talk_is}
use Rattle.own_traces.specs.Weighing.{WeighsRightly, PassesWeighed}

-- ---- each reply writes no more than it tells

abbrev IsWeighed : PostPlan → Said → Type 0
IsWeighed plan (Response chosen positive) = Unit {0}
IsWeighed plan (Replied request reply watts) = spelled_in plan watts ≤ tell_watts plan reply.tell
IsWeighed plan Other = Unit {0}
IsWeighed plan Unasked = Unit {0}

said_weighed : (c : ToldCodecs) (plan : PostPlan) (past : List Seen) (bytes : List ℕ) (said : Said) → TellsOwn c → WeighsRightly c → SaidSo c plan past bytes said → IsWeighed plan said
said_weighed c plan past bytes said own weighs (WasResponse chosen response payload first neg shut e) = tt
said_weighed c plan past bytes said own weighs (WasReply request d reply payload watts first speaks single ok encodes e spells) = weighs plan d reply payload watts encodes spells single

abbrev AreWeighed : PostPlan → List Reply → Type 0
AreWeighed plan = AllByRecursion (λ reply. IsWeighed plan reply.said)

with_weighed : (plan : PostPlan) (said : Said) (before judged : List Seen) (rs : List Reply) → IsWeighed plan said → AreWeighed plan rs → AreWeighed plan (with_said said before judged rs)
with_weighed plan (Response chosen positive) before judged rs h all = (h, all)
with_weighed plan (Replied request reply watts) before judged rs h all = (h, all)
with_weighed plan Other before judged rs h all = (h, all)
with_weighed plan Unasked before judged rs h all = all

none_if : (plan : PostPlan) (b : Bool) (rs : List Reply) → AreWeighed plan rs → AreWeighed plan (if b then [] else rs)
none_if plan true rs all = tt
none_if plan false rs all = all

all_when : (plan : PostPlan) (b : Bool) (rs : List Reply) → AreWeighed plan rs → AreWeighed plan (if b then rs else [])
all_when plan true rs all = all
all_when plan false rs all = tt

replies_weighed : (c : ToldCodecs) (plan : PostPlan) (steps : List ToldStep) → TellsOwn c → WeighsRightly c → IsToldRun c plan steps → AllSaid c plan steps → AreWeighed plan (replies steps)
replies_weighed c plan [] own weighs run all = tt
replies_weighed c plan (told.Hears at event ∷ steps) own weighs run all = none_if plan (is_some (arriving (seen_in steps))) (replies steps) (replies_weighed c plan steps own weighs run all)
replies_weighed c plan (told.Does r (Give o) taken ∷ steps) own weighs run all = replies_weighed c plan steps own weighs run.0 all
replies_weighed c plan (told.Does r (Send bytes) taken ∷ steps) own weighs run all = absurd run.2
replies_weighed c plan (told.Does r (Answer bytes) taken ∷ steps) own weighs run all = replies_weighed c plan steps own weighs run.0 all
replies_weighed c plan (told.Does r (End cause) taken ∷ steps) own weighs run all = tt
replies_weighed c plan (Sends r bytes taken said ∷ steps) own weighs run all =
    all_when plan (is_some (session (seen_in steps))) (with_said said (seen_in steps) (judged_by r (seen_in steps) (judged_over steps)) (replies steps))
    (with_weighed plan said (seen_in steps) (judged_by r (seen_in steps) (judged_over steps)) (replies steps) (said_weighed c plan (seen_in steps) bytes said own weighs all.2) (replies_weighed c plan steps own weighs run.0 all.0))

-- ---- so what is spelled is no more than what the talk spells

if_least : (b : Bool) (x y m n : ℕ) → x ≤ y → m ≤ n → (if b then x else m) ≤ (if b then y else n)
if_least true x y m n h k = h
if_least false x y m n h k = k

least_said : (plan : PostPlan) (said : Said) (before judged : List Seen) (rs : List Reply) → IsWeighed plan said → spelled_by plan rs ≤ post.spelled_by plan (map exchange_of rs)
    → spelled_or plan said (spelled_by plan rs) ≤ post.spelled_by plan (exchange_by said before ∷ map exchange_of rs)
least_said plan (Response chosen positive) before judged rs h rest = rest
least_said plan (Replied request reply watts) before judged rs h rest = if_least (shows_watts request.ask) (spelled_in plan watts) (tell_watts plan reply.tell) (spelled_by plan rs) (post.spelled_by plan (map exchange_of rs)) h rest
least_said plan Other before judged rs h rest = rest
least_said plan Unasked before judged rs h rest = rest

one_least : (plan : PostPlan) (reply : Reply) (rs : List Reply) → IsWeighed plan reply.said → spelled_by plan rs ≤ post.spelled_by plan (map exchange_of rs) → spelled_by plan (reply ∷ rs) ≤ post.spelled_by plan (map exchange_of (reply ∷ rs))
one_least plan reply rs h rest = least_said plan reply.said reply.before reply.judged rs h rest

talk_least : (plan : PostPlan) (rs : List Reply) → AreWeighed plan rs → spelled_by plan rs ≤ post.spelled_by plan (map exchange_of rs)
talk_least plan [] all = omega arith
talk_least plan (reply ∷ rs) all = one_least plan reply rs all.0 (talk_least plan rs all.1)

-- ---- a post

abbrev talk_spells : PostPlan → List Exchange → ℕ
talk_spells plan xs = post.spelled_by plan xs

length_more : (before : List ToldPost) (p : ToldPost) → length (before ++ p ∷ []) ≡ length before + 1
length_more before p = length-append before (p ∷ [])

post_least : (c : ToldCodecs) (post : ToldPost) (n : ℕ) (past : List Seen) → TellsOwn c → WeighsRightly c → IsToldRun c post.plan post.steps → seen_in post.steps ≡ past → OwnPast c.words post.plan (seen_in post.steps) → IsSpelled c.words post.plan past n → spelled_of post ≤ n
post_least c post n past own weighs run same o is =
    let said = all_said c post.plan post.steps own run o in
    let talked = talk_is c post.plan post.steps is.xs own run said (subst (λ (xs : List Seen). Talks c.words post.plan.dialects.items xs is.xs) (sym same) is.talks) in
    let least = talk_least post.plan (replies post.steps) (replies_weighed c post.plan post.steps own weighs run said) in
    let there : n ≡ talk_spells post.plan (talk post.steps) = is.watts_are ∙ ap (λ (xs : List Exchange). talk_spells post.plan xs) (sym talked) in
    omega (arith, least, there)

-- ---- all posts

all_least : (c : ToldCodecs) (site : SitePlan) (past behind front : List Entry) (k : ℕ) (before rest : List ToldPost) (runs : List Post) (watts : List ℕ) → TellsOwn c → WeighsRightly c → IsSiteRun c.words site past → past ≡ behind ++ front → k ≡ length before + 1
    → ArePosts c site front (before ++ rest) → map told_plan rest ≡ map plan_of runs → AreSpelled c.words front k runs watts → sum_by spelled_of rest ≤ sum watts
all_least c site past behind front k before [] runs watts own weighs r is number are plans spelled = omega arith
all_least c site past behind front k before (p ∷ rest) [] watts own weighs r is number are plans spelled = absurd (cc)
all_least c site past behind front k before (p ∷ rest) (q ∷ runs) [] own weighs r is number are plans spelled = absurd spelled
all_least c site past behind front k before (p ∷ rest) (q ∷ runs) (n ∷ watts) own weighs r is number are plans spelled =
    let here : p.plan ≡ q.plan = cc in
    let later : map told_plan rest ≡ map plan_of runs = cc in
    let post_is : IsPostOf c site front k p = record { before = before; behind = rest; posts = are; place = number } in
    let t = told_post c site front k p post_is in
    let o = subst (OwnPast c.words p.plan) t.seen_is (own_past c site past behind front k p own.reads_back own.determined r is post_is) in
    let one = post_least c p n (seen k front) own weighs t.run (sym t.seen_is) o (subst (λ (plan : PostPlan). IsSpelled c.words plan (seen k front) n) (sym here) spelled.0) in
    let l = length_more before p in
    let more = all_least c site past behind front (suc k) (before ++ p ∷ []) rest runs watts own weighs r is (omega (arith, number, l)) (subst (ArePosts c site front) (sym (append_assoc before (p ∷ []) rest)) are) later spelled.1 in
    let x = sum_by-cons spelled_of p rest in
    let y : sum (n ∷ watts) ≡ n + sum watts = sum_by-cons (λ (m : ℕ). m) n watts in
    omega (arith, one, more, x, y)

-- ---- the sixth check

not_less : (m n : ℕ) → m ≤ n → n < m → ⊥
not_less m n h k = omega (arith, h, k)

passes_limit : (c : ToldCodecs) (site : SitePlan) (past behind earlier : List Entry) (e : Entry) → TellsOwn c → WeighsRightly c → IsSiteRun c.words site past → past ≡ behind ++ e ∷ earlier → PassesLimit c site earlier e → ⊥
passes_limit c site past behind earlier e own weighs r is f =
    elim f.above [
      | inl above ↦
          let s = fronts_spell_within c.words site past r.blocks r.posts own.reads_back own.negotiates_first r.run r.closes behind (e ∷ earlier) is in
          let plans : map told_plan f.posts ≡ map plan_of r.posts = posts_plans c site (e ∷ earlier) f.posts f.are ∙ sym (run_plans c.words site r.blocks r.posts r.run) in
          let least = all_least c site past behind (e ∷ earlier) 1 [] f.posts r.posts s.watts own weighs r is refl f.are plans s.are in
          let w = s.within in
          omega (arith, above, least, w)
      | inr above ↦ not_less (sum_by told_of f.posts) site.limit (told_within c site (e ∷ earlier) f.posts f.are) above
    ]

pub sixth_passes : (c : ToldCodecs) → PassesWeighed c 6
sixth_passes c own weighs site past line r f = passes_limit c site past f.behind f.earlier f.e own weighs r f.past_is (sixth c site f.earlier f.e f.behind 6 refl f.fails)
