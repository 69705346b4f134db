-- Behind a block no word is left.
use Rattle.std.proofs.Common.{◌≡◌, ℕ, ◌+◌, Bool, true, false, List, [], ◌∷◌, ◌++◌, length, Option, Some, None, refl, sym, ap, subst, ◌∙◌, inl, inr, MatchBool}
use Rattle.charge_world.specs.declared.entry.Entry.{Entry}
use Rattle.charge_world.specs.declared.ports.Order.TheVariants as order
use Rattle.session_words.specs.declared.plan.PostPlan.{PostPlan}
use Rattle.session_words.specs.declared.plan.SitePlan.{SitePlan}
use Rattle.post_spec.specs.Codecs.{Codecs}
use Rattle.post_spec.specs.Contactors.{live}
use Rattle.post_spec.specs.Sessions.{session, with_seen, stream}
use Rattle.post_spec.specs.Steps.{Give, Seen, Heard, Did, seen}
use Rattle.post_spec.specs.Words.{HeardWord, Words, next_words}
use Rattle.station_spec.specs.Runs.{IsSiteRun}
use Rattle.station_laws.proofs.PostRuns.{quiet_at}
use Rattle.station_spec.specs.Runs.{AreQuiet}
use Rattle.safe_runs.proofs.Openings.{runs_end_open}
use Rattle.words_by_bytes.specs.Words.{NoneIsNext, AreRead}
use Rattle.words_by_bytes.proofs.Read.{runs_read_words}
use Rattle.told_pasts.specs.Checks.{EndsBlock, LeavesWord}
use Rattle.told_pasts.specs.Spelling.{ToldCodecs}
use Rattle.told_pasts.specs.Steps.{seen_in}
use Rattle.own_traces.specs.Own.{Passes}
use Rattle.own_traces.proofs.Fronts.{followed}
use Rattle.own_traces.proofs.Numbers.{tenth}
use Rattle.own_traces.proofs.Places.{Of, run_plans, of_plan}
use Rattle.own_traces.proofs.Told.{told_of, same_plan, number_of}

-- an order to open that closes a run is no word
opened_by : (c : Codecs) (plan : PostPlan) (past : List Seen) (taken : Bool) (kept : Option (List Seen)) (es : List Seen) (words : List HeardWord)
    → ((zs : List Seen) → kept ≡ Some zs → Words c plan.dialects.items (stream zs) words → next_words zs words ≡ [])
    → with_seen (Did (Give order.Open) taken) kept ≡ Some es → Words c plan.dialects.items (stream es) words → next_words es words ≡ []
opened_by c plan past taken None es words none l w = cc
opened_by c plan past taken (Some zs) es words none l w =
    let same : Did (Give order.Open) taken ∷ zs ≡ es = cc in
    let before : Words c plan.dialects.items (stream zs) words = subst (λ (us : List Seen). Words c plan.dialects.items (stream us) words) (sym same) w in
    ap (λ (us : List Seen). next_words us words) (sym same) ∙ none zs refl before

opened_none : (c : Codecs) (plan : PostPlan) (past : List Seen) (taken : Bool) → NoneIsNext c plan past → NoneIsNext c plan (Did (Give order.Open) taken ∷ past)
opened_none c plan past taken none es words l w = opened_by c plan past taken (session past) es words (λ zs k v. none zs words k v) l w

closed_read : (c : Codecs) (plan : PostPlan) (past blocks : List Seen) (b : Bool) → MatchBool b ((taken : Bool) × (past ≡ Did (Give order.Open) taken ∷ blocks)) (past ≡ blocks) → AreRead c plan blocks → NoneIsNext c plan blocks → AreRead c plan past × NoneIsNext c plan past
closed_read c plan past blocks true m read none = subst (λ (xs : List Seen). AreRead c plan xs × NoneIsNext c plan xs) (sym m.1) (read, opened_none c plan blocks m.0 none)
closed_read c plan past blocks false m read none = subst (λ (xs : List Seen). AreRead c plan xs × NoneIsNext c plan xs) (sym m) (read, none)

pub whole_read : (c : Codecs) (site : SitePlan) (past : List Entry) (k : ℕ) (r : IsSiteRun c site past) (o : Of r.posts k) → AreRead c o.post.plan (seen k past) × NoneIsNext c o.post.plan (seen k past)
whole_read c site past k r o =
    let n = length o.before + 1 in
    let x = runs_read_words c site r.blocks r.posts o.before o.post o.behind r.run o.posts_are in
    let y = runs_end_open c site past r.blocks r.posts o.before o.post o.behind r.run r.closes o.posts_are in
    subst (λ (i : ℕ). AreRead c o.post.plan (seen i past) × NoneIsNext c o.post.plan (seen i past)) (sym o.number)
    (closed_read c o.post.plan (seen n past) (seen n r.blocks) (live (seen n r.blocks)) y x.0 (x.1 (quiet_at o.before o.post o.behind (subst AreQuiet o.posts_are r.whole))))

read_rest : (c : Codecs) (plan : PostPlan) (more rest : List Seen) → AreRead c plan (more ++ rest) → AreRead c plan rest
read_rest c plan [] rest h = h
read_rest c plan (Heard at event ∷ more) rest h = read_rest c plan more rest h.0
read_rest c plan (Did act taken ∷ more) rest h = read_rest c plan more rest h

-- behind each block
pub block_read : (c : Codecs) (site : SitePlan) (past behind front : List Entry) (k : ℕ) (r : IsSiteRun c site past) (o : Of r.posts k) → past ≡ behind ++ front → EndsBlock behind front → NoneIsNext c o.post.plan (seen k front)
block_read c site past behind front k r o is ends =
    let w = whole_read c site past k r o in
    elim ends.follows [
      | inl newest ↦
          let whole : past ≡ front = is ∙ ap (λ (es : List Entry). es ++ front) newest in
          subst (λ (es : List Entry). NoneIsNext c o.post.plan (seen k es)) whole w.1
      | inr follows ↦
          let f = followed k past behind front is follows in
          let there : AreRead c o.post.plan (Heard f.at f.event ∷ seen k front) = read_rest c o.post.plan f.more (Heard f.at f.event ∷ seen k front) (subst (AreRead c o.post.plan) f.is w.0) in
          there.1
    ]

none_left : (word : HeardWord) (rest : List HeardWord) → [] ≡ word ∷ rest → ⊥
none_left word rest e = cc

leaves_no_word : (c : ToldCodecs) (site : SitePlan) (past behind earlier : List Entry) (e : Entry) → IsSiteRun c.words site past → past ≡ behind ++ e ∷ earlier → LeavesWord c site earlier e behind → ⊥
leaves_no_word c site past behind earlier e r is f =
    let told = told_of c site (e ∷ earlier) f.k f.post f.is in
    let plans = run_plans c.words site r.blocks r.posts r.run in
    let o = of_plan r.posts f.k site.post.items (number_of c site (e ∷ earlier) f.k f.post f.is) plans in
    let plan = same_plan c site (e ∷ earlier) f.k f.post r.posts plans o f.is in
    let none = block_read c.words site past behind (e ∷ earlier) f.k r o is f.ends in
    let here : NoneIsNext c.words f.post.plan (seen_in f.post.steps) = subst (NoneIsNext c.words f.post.plan) told.seen_is (subst (λ (p : PostPlan). NoneIsNext c.words p (seen f.k (e ∷ earlier))) (sym plan) none) in
    none_left f.word f.next.rest (sym (here f.next.es f.next.words f.next.hearing.session_is f.next.hearing.words_are) ∙ f.next.next)

pub tenth_passes : (c : ToldCodecs) → Passes c 10
tenth_passes c site past line r f = leaves_no_word c site past f.behind f.earlier f.e r f.past_is (tenth c site f.earlier f.e f.behind 10 refl f.fails)
