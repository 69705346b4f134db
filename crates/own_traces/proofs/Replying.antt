-- The checks on what is sent: no FAILED reply while the contactor is live, and each is the reply of its request.
use Rattle.std.proofs.Common.{◌≡◌, ℕ, Bool, List, ◌∷◌, ◌++◌, Option, refl, sym, ap, subst, ◌∙◌}
use Rattle.charge_world.specs.declared.entry.Entry.{Entry}
use Rattle.charge_world.specs.declared.entry.Entry.TheVariants as entry
use Rattle.session_words.specs.declared.plan.PostPlan.{PostPlan}
use Rattle.session_words.specs.declared.plan.SitePlan.{SitePlan}
use Rattle.post_spec.specs.Steps.{Send, Seen, Did, Reading, seen}
use Rattle.station_spec.specs.Runs.{IsSiteRun}
use Rattle.told_pasts.specs.Checks.{FailsLive, AnswersNothing}
use Rattle.told_pasts.specs.Reading.{IsSaid}
use Rattle.told_pasts.specs.Site.{ToldPost, IsPostOf}
use Rattle.told_pasts.specs.Spelling.{ToldCodecs}
use Rattle.told_pasts.specs.Steps.{Said, ToldStep, Sends, seen_in}
use Rattle.own_traces.proofs.Numbers.{second, ninth}
use Rattle.own_traces.proofs.Places.{run_plans, of_plan}
use Rattle.own_traces.proofs.Told.{IsToldRun, told_of, same_plan, number_of}
use Rattle.own_traces.specs.Owning.{TellsOwn, PassesOwn}
use Rattle.own_traces.proofs.Saying.{SaidSo, said_so, never_nothing, never_failed}
use Rattle.own_traces.proofs.Sending.{front_of, sees, Sending, sending}

-- what a post of a foreign trace said last
pub record Told (c : ToldCodecs) (plan : PostPlan) (past : List Seen) (bytes : List ℕ) (said : Said) : Type 0 where
  pub is : IsSaid c plan past bytes said

tails : (x y : Seen) (xs ys : List Seen) → x ∷ xs ≡ y ∷ ys → xs ≡ ys
tails x y xs ys e = cc

pub said_last : (c : ToldCodecs) (site : SitePlan) (k : ℕ) (bytes : List ℕ) (taken : Bool) (earlier : List Entry) (post : ToldPost) (reading : Option Reading) (said : Said) (steps : List ToldStep) → IsPostOf c site (entry.Sent k bytes taken ∷ earlier) k post
    → post.steps ≡ Sends reading bytes taken said ∷ steps → IsSaid c post.plan (seen k earlier) bytes said
said_last c site k bytes taken earlier post reading said steps is steps_are =
    let told = told_of c site (entry.Sent k bytes taken ∷ earlier) k post is in
    let run : IsToldRun c post.plan (Sends reading bytes taken said ∷ steps) = subst (IsToldRun c post.plan) steps_are told.run in
    let saw : Did (Send bytes) taken ∷ seen k earlier ≡ Did (Send bytes) taken ∷ seen_in steps = sym (sees k bytes taken earlier) ∙ told.seen_is ∙ ap seen_in steps_are in
    subst (λ (xs : List Seen). IsSaid c post.plan xs bytes said) (sym (tails _ _ (seen k earlier) (seen_in steps) saw)) run.2

pub said_at : (c : ToldCodecs) (site : SitePlan) (past behind earlier : List Entry) (k : ℕ) (bytes : List ℕ) (taken : Bool) (post : ToldPost) (reading : Option Reading) (said : Said) (steps : List ToldStep) → TellsOwn c → IsSiteRun c.words site past
    → past ≡ behind ++ entry.Sent k bytes taken ∷ earlier → IsPostOf c site (entry.Sent k bytes taken ∷ earlier) k post → post.steps ≡ Sends reading bytes taken said ∷ steps → SaidSo c post.plan (seen k earlier) bytes said
said_at c site past behind earlier k bytes taken post reading said steps own r is post_is steps_are =
    let front = front_of c.words site past behind (entry.Sent k bytes taken) earlier r refl is in
    let plans = run_plans c.words site (entry.Sent k bytes taken ∷ earlier) front.posts front.run in
    let o = of_plan front.posts k site.post.items (number_of c site (entry.Sent k bytes taken ∷ earlier) k post post_is) plans in
    let same = same_plan c site (entry.Sent k bytes taken ∷ earlier) k post front.posts plans o post_is in
    let s = sending c.words site k bytes taken earlier front.posts own.reads_back own.determined own.negotiates_first front.run o in
    let here : Sending c.words post.plan (seen k earlier) bytes = subst (λ (plan : PostPlan). Sending c.words plan (seen k earlier) bytes) (sym same) s in
    said_so c post.plan (seen k earlier) bytes said own here.lives here.sent (said_last c site k bytes taken earlier post reading said steps post_is steps_are)

-- ---- the ninth check

answers_each : (c : ToldCodecs) (site : SitePlan) (past behind earlier : List Entry) (e : Entry) → TellsOwn c → IsSiteRun c.words site past → past ≡ behind ++ e ∷ earlier → AnswersNothing c site earlier e → ⊥
answers_each c site past behind earlier e own r is f =
    let here : past ≡ behind ++ entry.Sent f.k f.bytes f.taken ∷ earlier = is ∙ ap (λ (x : Entry). behind ++ x ∷ earlier) f.entry_is in
    let post_is : IsPostOf c site (entry.Sent f.k f.bytes f.taken ∷ earlier) f.k f.post = subst (λ (x : Entry). IsPostOf c site (x ∷ earlier) f.k f.post) f.entry_is f.is in
    never_nothing c f.post.plan (seen f.k earlier) f.bytes f.said (said_at c site past behind earlier f.k f.bytes f.taken f.post f.reading f.said f.steps own r here post_is f.steps_are) f.nothing

pub ninth_passes : (c : ToldCodecs) → PassesOwn c 9
ninth_passes c own site past line r f = answers_each c site past f.behind f.earlier f.e own r f.past_is (ninth c site f.earlier f.e f.behind 9 refl f.fails)

-- ---- the second check

fails_none : (c : ToldCodecs) (site : SitePlan) (past behind earlier : List Entry) (e : Entry) → TellsOwn c → IsSiteRun c.words site past → past ≡ behind ++ e ∷ earlier → FailsLive c site earlier e → ⊥
fails_none c site past behind earlier e own r is f =
    let here : past ≡ behind ++ entry.Sent f.k f.bytes f.taken ∷ earlier = is ∙ ap (λ (x : Entry). behind ++ x ∷ earlier) f.entry_is in
    let post_is : IsPostOf c site (entry.Sent f.k f.bytes f.taken ∷ earlier) f.k f.post = subst (λ (x : Entry). IsPostOf c site (x ∷ earlier) f.k f.post) f.entry_is f.is in
    never_failed c f.post.plan (seen f.k earlier) f.bytes f.said (said_at c site past behind earlier f.k f.bytes f.taken f.post f.reading f.said f.steps own r here post_is f.steps_are) f.live_is f.failed

pub second_passes : (c : ToldCodecs) → PassesOwn c 2
second_passes c own site past line r f = fails_none c site past f.behind f.earlier f.e own r f.past_is (second c site f.earlier f.e f.behind 2 refl f.fails)
