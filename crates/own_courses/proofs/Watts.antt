-- The seventh check: a reply of the OK class that has watts writes those that were told.
use Rattle.std.proofs.Common.{◌≡◌, ℕ, List, [], ◌∷◌, ◌++◌, Option, Some, refl, sym, ap, subst, ◌∙◌}
use Rattle.charge_world.specs.declared.entry.Entry.{Entry}
use Rattle.charge_world.specs.declared.entry.Entry.TheVariants as entry
use Rattle.session_words.specs.declared.plan.PostPlan.{PostPlan}
use Rattle.session_words.specs.declared.plan.SitePlan.{SitePlan}
use Rattle.post_spec.specs.Course.{Talked, told_in}
use Rattle.post_spec.specs.Steps.{Step}
use Rattle.station_spec.specs.Runs.{IsSiteRun}
use Rattle.told_pasts.specs.Checks.{SpellsOthers}
use Rattle.told_pasts.specs.Course.{told_course}
use Rattle.told_pasts.specs.Site.{told_of, IsPostOf}
use Rattle.told_pasts.specs.Spelling.{ToldCodecs, AreTold}
use Rattle.told_pasts.specs.Steps.{Replied, ToldStep, Sends}
use Rattle.own_traces.specs.Owning.{TellsOwn}
use Rattle.own_traces.proofs.Numbers.{seventh}
use Rattle.own_traces.proofs.Places.{run_plans, of_plan}
use Rattle.own_traces.proofs.Sending.{front_of}
use Rattle.own_traces.proofs.Told.{number_of}
use Rattle.own_courses.specs.Writing.{WritesRightly, PassesWritten}
use Rattle.own_courses.proofs.Hands.{Wrote}
use Rattle.own_courses.proofs.Turns.{Along, post_one}

newest_wrote : (c : ToldCodecs) (plan : PostPlan) (t : ToldStep) (old : List ToldStep) (steps : List Step) → Along c plan (t ∷ old) steps → Wrote c plan (t ∷ old)
newest_wrote c plan t old [] a = absurd a
newest_wrote c plan t old (step ∷ steps) a = a.0.1

talked_one : (kept : Option Talked) (a b : Talked) → kept ≡ Some a → kept ≡ Some b → a ≡ b
talked_one kept a b e f = let x : Some a ≡ Some b = sym e ∙ f in cc

spells_told : (c : ToldCodecs) (site : SitePlan) (past behind earlier : List Entry) (e : Entry) → TellsOwn c → WritesRightly c → IsSiteRun c.words site past → past ≡ behind ++ e ∷ earlier → SpellsOthers c site earlier e → ⊥
spells_told c site past behind earlier e own writes r is f =
    let here : past ≡ behind ++ entry.Sent f.k f.bytes f.taken ∷ earlier = is ∙ ap (λ (x : Entry). behind ++ x ∷ earlier) f.entry_is in
    let post_is : IsPostOf c site (entry.Sent f.k f.bytes f.taken ∷ earlier) f.k f.post = subst (λ (x : Entry). IsPostOf c site (x ∷ earlier) f.k f.post) f.entry_is f.is in
    let front = front_of c.words site past behind (entry.Sent f.k f.bytes f.taken) earlier r refl here in
    let plans = run_plans c.words site (entry.Sent f.k f.bytes f.taken ∷ earlier) front.posts front.run in
    let o = of_plan front.posts f.k site.post.items (number_of c site (entry.Sent f.k f.bytes f.taken ∷ earlier) f.k f.post post_is) plans in
    let one = post_one c site (entry.Sent f.k f.bytes f.taken ∷ earlier) front.posts f.k f.post own front.run o post_is in
    let last = Sends f.reading f.bytes f.taken (Replied f.request f.reply f.watts) in
    let along : Along c o.post.plan (Sends f.reading f.bytes f.taken (Replied f.request f.reply f.watts) ∷ f.steps) o.post.steps = subst (λ (us : List ToldStep). Along c o.post.plan us o.post.steps) f.steps_are one.along in
    let wrote : Wrote c o.post.plan (Sends f.reading f.bytes f.taken (Replied f.request f.reply f.watts) ∷ f.steps) = newest_wrote c o.post.plan (Sends f.reading f.bytes f.taken (Replied f.request f.reply f.watts)) f.steps o.post.steps along in
    let w = wrote f.ok in
    let course_is : (told_course o.post.plan (Sends f.reading f.bytes f.taken (Replied f.request f.reply f.watts) ∷ f.steps)).session ≡ Some f.talked =
    subst (λ (us : List ToldStep). (told_course o.post.plan us).session ≡ Some f.talked) f.steps_are (subst (λ (p : PostPlan). (told_course p f.post.steps).session ≡ Some f.talked) one.plan_is f.course_is) in
    let same : w.t ≡ f.talked = talked_one (told_course o.post.plan (Sends f.reading f.bytes f.taken (Replied f.request f.reply f.watts) ∷ f.steps)).session w.t f.talked w.kept_is course_is in
    let are : AreTold o.post.plan w.t.stage.dialect w.t.stage.told f.watts = writes o.post.plan w.t.stage.dialect w.reply w.payload f.watts w.t.stage.told w.encodes w.spells w.tells in
    let there : AreTold o.post.plan f.talked.stage.dialect f.talked.stage.told f.watts = subst (λ (t : Talked). AreTold o.post.plan t.stage.dialect t.stage.told f.watts) same are in
    let told : f.talked.stage.told ≡ told_of f.post = sym (ap told_in f.course_is) in
    f.others (subst (λ (p : PostPlan). AreTold p f.talked.stage.dialect (told_of f.post) f.watts) (sym one.plan_is) (subst (λ (n : ℕ). AreTold o.post.plan f.talked.stage.dialect n f.watts) told there))

pub seventh_passes : (c : ToldCodecs) → PassesWritten c 7
seventh_passes c own writes site past line r f = spells_told c site past f.behind f.earlier f.e own writes r f.past_is (seventh c site f.earlier f.e f.behind 7 refl f.fails)
