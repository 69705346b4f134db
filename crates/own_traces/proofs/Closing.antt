-- The checks on what is closed: each order to close, and what is closed behind each block.
use Rattle.std.proofs.Common.{◌≡◌, ◌≢◌, ℕ, Bool, true, false, List, [], ◌∷◌, ◌++◌, map, Option, Some, None, refl, sym, ap, subst, ◌∙◌, inl, inr, ◌⊎◌}
use Rattle.std.specs.List.{AllByRecursion}
use Rattle.std.proofs.lemmas.Bool.{eq-eqb}
use Rattle.std.proofs.lemmas.List.{append_assoc}
use Rattle.charge_world.specs.declared.entry.Entry.{Entry}
use Rattle.charge_world.specs.declared.entry.Entry.TheVariants as entry
use Rattle.charge_world.specs.declared.ports.Order.TheVariants as order
use Rattle.session_words.specs.declared.plan.PostPlan.{PostPlan}
use Rattle.session_words.specs.declared.plan.SitePlan.{SitePlan}
use Rattle.contactor.specs.Standing as contactor
use Rattle.post_spec.specs.Codecs.{Codecs}
use Rattle.post_spec.specs.Contactors.{contactor_acts, with_feedback, feedback_in, closed}
use Rattle.post_spec.specs.Facts.{told_by}
use Rattle.post_spec.specs.Spelled.{ReadsBack}
use Rattle.post_spec.specs.Steps.{Give, Send, Answer, End, Seen, Heard, Did, Reading, Step, Does, seen, seen_of}
use Rattle.post_spec.specs.Words.{HeardWord}
use Rattle.station_laws.specs.PostRuns.{IsPostRun}
use Rattle.station_spec.specs.Runs.{IsSiteRun}
use Rattle.safe_runs.specs.Closing.{ClosesMandated}
use Rattle.safe_runs.specs.Started.{MandatedByOwn}
use Rattle.safe_runs.proofs.Safety.{runs_close}
use Rattle.mandated_runs.specs.Holding.{CouldNotOpen, IsHeldRightly, HoldsMandated}
use Rattle.mandated_runs.proofs.Holds.{runs_end}
use Rattle.served_sessions.proofs.Bytes.{AreHeard, stream_octets}
use Rattle.words_by_bytes.specs.Words.{NoneIsNext}
use Rattle.told_pasts.specs.Checks.{EndsBlock, ClosesUnmandated, StaysClosed, opened_in_vain}
use Rattle.told_pasts.specs.Site.{ToldPost, IsPostOf}
use Rattle.told_pasts.specs.Spelling.{ToldCodecs}
use Rattle.told_pasts.specs.Steps.{seen_in}
use Rattle.own_traces.proofs.Fronts.{followed}
use Rattle.own_traces.proofs.Numbers.{first, fifth}
use Rattle.own_traces.proofs.Places.{Of, run_plans, of_plan}
use Rattle.own_traces.proofs.Told.{told_of, same_plan, number_of}
use Rattle.own_traces.proofs.Words.{block_read}
use Rattle.own_traces.specs.Owning.{TellsOwn, PassesOwn}
use Rattle.own_traces.proofs.Pasts.{IsClosed, Still, Opened, OwnPast, own_past, steps_of}
use Rattle.own_traces.proofs.Sending.{front_of, newest_act}
use Rattle.own_traces.proofs.Resting.{Clear, reads_clear, closing_read}
use Rattle.own_traces.proofs.Reading.{clear_unjudged}
use Rattle.own_traces.proofs.Mandates.{mandated}

heard_by : (c : Codecs) (plan : PostPlan) (past : List Seen) (o : OwnPast c plan past) → IsClosed plan o.steps past → AreHeard past
heard_by c plan past o (Still e) = subst AreHeard (sym e) o.heard
heard_by c plan past o (Opened taken e quiet) = subst AreHeard (sym e) o.heard

pub own_heard : (c : Codecs) (plan : PostPlan) (past : List Seen) → OwnPast c plan past → AreHeard past
own_heard c plan past o = heard_by c plan past o o.closed

-- ---- an order to close

closes_seen : (k : ℕ) (taken : Bool) (earlier : List Entry) → seen k (entry.Drove k order.Close taken ∷ earlier) ≡ Did (Give order.Close) taken ∷ seen k earlier
closes_seen k taken earlier = let t = eq-eqb k k refl in rw t refl

close_clear : (c : Codecs) (plan : PostPlan) (r : Option Reading) (taken : Bool) (older : List Step) → IsPostRun c plan (Does r (Give order.Close) taken ∷ older) → Clear (map seen_of older)
close_clear c plan r taken older run =
    let x = closing_read c plan r taken older run in
    reads_clear c plan x.0 (Give order.Close) taken older (subst (λ (y : Option Reading). IsPostRun c plan (Does y (Give order.Close) taken ∷ older)) x.1 run)

closes_rightly : (c : ToldCodecs) (site : SitePlan) (past behind earlier : List Entry) (k : ℕ) (taken : Bool) (post : ToldPost) → TellsOwn c → IsSiteRun c.words site past → past ≡ behind ++ entry.Drove k order.Close taken ∷ earlier → IsPostOf c site earlier k post
    → MandatedByOwn c.words post.plan (seen k earlier) × Clear (seen k earlier)
closes_rightly c site past behind earlier k taken post own r is post_is =
    let front = front_of c.words site past behind (entry.Drove k order.Close taken) earlier r refl is in
    let plans = run_plans c.words site (entry.Drove k order.Close taken ∷ earlier) front.posts front.run in
    let o = of_plan front.posts k site.post.items (number_of c site earlier k post post_is) plans in
    let same = same_plan c site earlier k post front.posts plans o post_is in
    let all = runs_close c.words site (entry.Drove k order.Close taken ∷ earlier) front.posts o.before o.post o.behind own.reads_back front.run o.posts_are in
    let here : ClosesMandated c.words o.post.plan (Did (Give order.Close) taken ∷ seen k earlier) =
    subst (ClosesMandated c.words o.post.plan) (closes_seen k taken earlier) (subst (λ (i : ℕ). ClosesMandated c.words o.post.plan (seen i (entry.Drove k order.Close taken ∷ earlier))) (sym o.number) all) in
    let s = steps_of c.words site (entry.Drove k order.Close taken ∷ earlier) front.posts k own.reads_back own.determined front.run o in
    let n = newest_act (Give order.Close) taken (seen k earlier) o.post.steps (sym (closes_seen k taken earlier) ∙ s.seen_is) in
    let clear = close_clear c.words o.post.plan n.0 taken n.1 (subst (IsPostRun c.words o.post.plan) n.2 s.run) in
    (subst (λ (plan : PostPlan). MandatedByOwn c.words plan (seen k earlier)) (sym same) (here.1 taken refl), subst Clear (sym n.3) clear)

past_behind : (past behind : List Entry) (e : Entry) (earlier : List Entry) → past ≡ behind ++ e ∷ earlier → past ≡ (behind ++ e ∷ []) ++ earlier
past_behind past behind e earlier is = is ∙ sym (append_assoc behind (e ∷ []) earlier)

closes_mandated : (c : ToldCodecs) (site : SitePlan) (past behind earlier : List Entry) (e : Entry) → TellsOwn c → IsSiteRun c.words site past → past ≡ behind ++ e ∷ earlier → ClosesUnmandated c site earlier e → ⊥
closes_mandated c site past behind earlier e own r is f =
    let here : past ≡ behind ++ entry.Drove f.k order.Close f.taken ∷ earlier = is ∙ ap (λ (x : Entry). behind ++ x ∷ earlier) f.entry_is in
    let m = closes_rightly c site past behind earlier f.k f.taken f.post own r here f.is in
    let told = told_of c site earlier f.k f.post f.is in
    let own_one = own_past c site past (behind ++ e ∷ []) earlier f.k f.post own.reads_back own.determined r (past_behind past behind e earlier is) f.is in
    let o : OwnPast c.words f.post.plan (seen_in f.post.steps) = subst (OwnPast c.words f.post.plan) told.seen_is own_one in
    let by : MandatedByOwn c.words f.post.plan (seen_in f.post.steps) = subst (MandatedByOwn c.words f.post.plan) told.seen_is m.0 in
    let clear : Clear (seen_in f.post.steps) = subst Clear told.seen_is m.1 in
    f.unmandated (mandated c f.post.plan f.post.steps own told.run o (λ es l. stream_octets (seen_in f.post.steps) es (own_heard c.words f.post.plan (seen_in f.post.steps) o) l)
    (λ es l still ws later w v next. clear_unjudged c f.post.plan f.post.steps told.run clear) by)

pub first_passes : (c : ToldCodecs) → PassesOwn c 1
first_passes c own site past line r f = closes_mandated c site past f.behind f.earlier f.e own r f.past_is (first c site f.earlier f.e f.behind 1 refl f.fails)

-- ---- behind a block

fed_vain : (o : Option Bool) (acts : List contactor.Act) → opened_in_vain (with_feedback o acts) ≡ opened_in_vain acts
fed_vain None acts = refl
fed_vain (Some closed) acts = refl

in_vain : (since earlier : List Seen) → AllByRecursion (λ x. x ≢ Did (Give order.Close) true) since → opened_in_vain (contactor_acts (since ++ Did (Give order.Open) false ∷ earlier)) ≡ true
in_vain [] earlier none = refl
in_vain (Heard at event ∷ since) earlier none = fed_vain (told_by feedback_in event) (contactor_acts (since ++ Did (Give order.Open) false ∷ earlier)) ∙ in_vain since earlier none.1
in_vain (Did (Give order.Open) true ∷ since) earlier none = in_vain since earlier none.1
in_vain (Did (Give order.Open) false ∷ since) earlier none = refl
in_vain (Did (Give order.Close) true ∷ since) earlier none = absurd (none.0 refl)
in_vain (Did (Give order.Close) false ∷ since) earlier none = in_vain since earlier none.1
in_vain (Did (Give (order.Limits voltage current watts)) taken ∷ since) earlier none = in_vain since earlier none.1
in_vain (Did (Send bytes) taken ∷ since) earlier none = in_vain since earlier none.1
in_vain (Did (Answer bytes) taken ∷ since) earlier none = in_vain since earlier none.1
in_vain (Did (End cause) taken ∷ since) earlier none = in_vain since earlier none.1

not_opened : (past : List Seen) → CouldNotOpen past → opened_in_vain (contactor_acts past) ≡ true
not_opened past k = ap (λ (xs : List Seen). opened_in_vain (contactor_acts xs)) k.past_is ∙ in_vain k.since k.earlier k.no_close

held_rest : (c : Codecs) (plan : PostPlan) (more rest : List Seen) → HoldsMandated c plan (more ++ rest) → HoldsMandated c plan rest
held_rest c plan [] rest h = h
held_rest c plan (Heard at event ∷ more) rest h = held_rest c plan more rest h.0
held_rest c plan (Did act taken ∷ more) rest h = held_rest c plan more rest h

block_held : (c : Codecs) (site : SitePlan) (past behind front : List Entry) (k : ℕ) (r : IsSiteRun c site past) (o : Of r.posts k) → ReadsBack c → past ≡ behind ++ front → EndsBlock behind front → IsHeldRightly c o.post.plan (seen k front)
block_held c site past behind front k r o back is ends =
    let h = runs_end c site past r.blocks r.posts o.before o.post o.behind back r.run r.closes o.posts_are in
    let w : HoldsMandated c o.post.plan (seen k past) × IsHeldRightly c o.post.plan (seen k past) =
    subst (λ (i : ℕ). HoldsMandated c o.post.plan (seen i past) × IsHeldRightly c o.post.plan (seen i past)) (sym o.number) h in
    elim ends.follows [
      | inl newest ↦
          let whole : past ≡ front = is ∙ ap (λ (es : List Entry). es ++ front) newest in
          subst (λ (es : List Entry). IsHeldRightly c o.post.plan (seen k es)) whole w.1
      | inr follows ↦
          let f = followed k past behind front is follows in
          let there : HoldsMandated c o.post.plan (Heard f.at f.event ∷ seen k front) = held_rest c o.post.plan f.more (Heard f.at f.event ∷ seen k front) (subst (HoldsMandated c o.post.plan) f.is w.0) in
          there.1
    ]

none_next : {A : Type 0} (w : HeardWord) (later : List HeardWord) → [] ≡ w ∷ later → A
none_next w later e = cc

held_told : (c : ToldCodecs) (post : ToldPost) (past : List Seen) → opened_in_vain (contactor_acts past) ≡ false → MandatedByOwn c.words post.plan past ⊎ CouldNotOpen past → MandatedByOwn c.words post.plan past
held_told c post past unopened (inl m) = m
held_told c post past unopened (inr k) = absurd (let x : true ≡ false = sym (not_opened past k) ∙ unopened in cc)

stays_mandated : (c : ToldCodecs) (site : SitePlan) (past behind earlier : List Entry) (e : Entry) → TellsOwn c → IsSiteRun c.words site past → past ≡ behind ++ e ∷ earlier → StaysClosed c site earlier e behind → ⊥
stays_mandated c site past behind earlier e own r is f =
    let plans = run_plans c.words site r.blocks r.posts r.run in
    let o = of_plan r.posts f.k site.post.items (number_of c site (e ∷ earlier) f.k f.post f.is) plans in
    let same = same_plan c site (e ∷ earlier) f.k f.post r.posts plans o f.is in
    let held : IsHeldRightly c.words f.post.plan (seen f.k (e ∷ earlier)) =
    subst (λ (plan : PostPlan). IsHeldRightly c.words plan (seen f.k (e ∷ earlier))) (sym same) (block_held c.words site past behind (e ∷ earlier) f.k r o own.reads_back is f.ends) in
    let none : NoneIsNext c.words f.post.plan (seen f.k (e ∷ earlier)) =
    subst (λ (plan : PostPlan). NoneIsNext c.words plan (seen f.k (e ∷ earlier))) (sym same) (block_read c.words site past behind (e ∷ earlier) f.k r o is f.ends) in
    let told = told_of c site (e ∷ earlier) f.k f.post f.is in
    let own_one = own_past c site past behind (e ∷ earlier) f.k f.post own.reads_back own.determined r is f.is in
    let p : OwnPast c.words f.post.plan (seen_in f.post.steps) = subst (OwnPast c.words f.post.plan) told.seen_is own_one in
    let by : MandatedByOwn c.words f.post.plan (seen_in f.post.steps) = subst (MandatedByOwn c.words f.post.plan) told.seen_is (held_told c f.post (seen f.k (e ∷ earlier)) f.unopened (held f.closed_is)) in
    let no_next : NoneIsNext c.words f.post.plan (seen_in f.post.steps) = subst (NoneIsNext c.words f.post.plan) told.seen_is none in
    f.unmandated (mandated c f.post.plan f.post.steps own told.run p (λ es l. stream_octets (seen_in f.post.steps) es (own_heard c.words f.post.plan (seen_in f.post.steps) p) l)
    (λ es l still ws later w v next. none_next w later (sym (no_next es ws l v) ∙ next)) by)

pub fifth_passes : (c : ToldCodecs) → PassesOwn c 5
fifth_passes c own site past line r f = stays_mandated c site past f.behind f.earlier f.e own r f.past_is (fifth c site f.earlier f.e f.behind 5 refl f.fails)
