-- What a post went by up to any entry of a whole run, the orders that close it among them.
use Rattle.std.proofs.Common.{◌≡◌, ℕ, suc, ◌+◌, Bool, true, false, List, [], ◌∷◌, ◌++◌, length, map, refl, sym, ap, subst, ◌∙◌, inl, inr, ◌⊎◌, MatchBool, arith}
use Rattle.std.proofs.lemmas.List.{length-append, append_assoc}
use Rattle.charge_world.specs.declared.entry.Entry.{Entry}
use Rattle.charge_world.specs.declared.entry.Entry.TheVariants as entry
use Rattle.charge_world.specs.declared.ports.Order.TheVariants as order
use Rattle.session_words.specs.declared.plan.PostPlan.{PostPlan}
use Rattle.session_words.specs.declared.plan.SitePlan.{SitePlan}
use Rattle.post_spec.specs.Codecs.{Codecs}
use Rattle.post_spec.specs.Contactors.{live}
use Rattle.post_spec.specs.Spelled.{ReadsBack, AreDetermined}
use Rattle.post_spec.specs.Steps.{Give, Seen, Did, Step, seen, seen_of}
use Rattle.station_spec.specs.Acting.{state}
use Rattle.station_spec.specs.Next.{IsQuiet}
use Rattle.station_spec.specs.Sharing.{Post, state_of}
use Rattle.station_spec.specs.Runs.{IsRun, Closes, IsSiteRun, AreQuiet}
use Rattle.station_laws.specs.PostRuns.{IsPostRun, ArePostsOf}
use Rattle.station_laws.proofs.PostRuns.{run_posts, post_at, quiet_at}
use Rattle.safe_runs.proofs.Openings.{runs_end_open}
use Rattle.silent_runs.proofs.Silence.{runs_are_silent}
use Rattle.silent_runs.specs.Silent.{IsSilent}
use Rattle.served_sessions.proofs.Bytes.{AreHeard, run_heard}
use Rattle.next_words.specs.Next.{AreReadInOrder}
use Rattle.next_words.proofs.Order.{runs_read_in_order}
use Rattle.spelled_watts.proofs.Fronts.{front_run}
use Rattle.told_pasts.specs.Site.{ToldPost}
use Rattle.told_pasts.specs.Site as told
use Rattle.told_pasts.specs.Spelling.{ToldCodecs}
use Rattle.own_traces.proofs.Fronts.{seen_more}
use Rattle.own_traces.proofs.Places.{Of, run_plans, of_plan}
use Rattle.own_traces.proofs.Told.{same_plan, number_of}

-- the past is that of its steps, or an order to open closed it, behind a whole block
pub data IsClosed (plan : PostPlan) (steps : List Step) (past : List Seen) : Type 0 where
  Still : past ≡ map seen_of steps → IsClosed plan steps past
  Opened : (taken : Bool) → past ≡ Did (Give order.Open) taken ∷ map seen_of steps → IsQuiet plan (state plan steps) → IsClosed plan steps past

pub record OwnPast (c : Codecs) (plan : PostPlan) (past : List Seen) : Type 0 where
  pub steps : List Step
  pub run : IsPostRun c plan steps
  pub ordered : AreReadInOrder c plan steps
  pub silent : IsSilent (map seen_of steps)
  pub heard : AreHeard (map seen_of steps)
  pub closed : IsClosed plan steps past

-- ---- a post of a run

pub record Steps (c : Codecs) (k : ℕ) (past : List Entry) (post : Post) : Type 0 where
  pub run : IsPostRun c post.plan post.steps
  pub ordered : AreReadInOrder c post.plan post.steps
  pub silent : IsSilent (map seen_of post.steps)
  pub heard : AreHeard (map seen_of post.steps)
  pub seen_is : seen k past ≡ map seen_of post.steps

pub steps_of : (c : Codecs) (site : SitePlan) (past : List Entry) (posts : List Post) (k : ℕ) → ReadsBack c → AreDetermined c → IsRun c site past posts → (o : Of posts k) → Steps c k past o.post
steps_of c site past posts k back det run o =
    let all = subst (ArePostsOf c past 1) o.posts_are (run_posts c site past posts run) in
    let p = post_at c past k 1 o.before o.post o.behind o.number all in
    let quiet = runs_are_silent c site past posts o.before o.post o.behind run o.posts_are in
    record {
      run = p.run;
      ordered = runs_read_in_order c site past posts o.before o.post o.behind back det run o.posts_are;
      silent = subst IsSilent (ap (λ (i : ℕ). seen i past) (sym o.number) ∙ p.seen_is) quiet;
      heard = subst AreHeard p.seen_is (run_heard c site past posts k run);
      seen_is = p.seen_is;
    }

-- ---- a past ends with the blocks, or the blocks end with it

split_past : {A : Type 0} (a b c d : List A) → a ++ b ≡ c ++ d → ((m : List A) × (b ≡ m ++ d)) ⊎ ((m : List A) × (d ≡ m ++ b))
split_past [] b c d e = inl (c, e)
split_past (x ∷ a) b [] d e = inr (x ∷ a, sym e)
split_past (x ∷ a) b (y ∷ c) d e = let rest : a ++ b ≡ c ++ d = cc in split_past a b c d rest

closes_one : (j : ℕ) (posts : List Post) (blocks past : List Entry) (b : Bool) → ((bs : List Entry) → Closes (suc j) posts bs past → (newer : List Entry) × (past ≡ newer ++ bs))
    → MatchBool b ((taken : Bool) × Closes (suc j) posts (entry.Drove j order.Open taken ∷ blocks) past) (Closes (suc j) posts blocks past) → (newer : List Entry) × (past ≡ newer ++ blocks)
closes_one j posts blocks past true rest c =
    let r = rest (entry.Drove j order.Open c.0 ∷ blocks) c.1 in
    (r.0 ++ entry.Drove j order.Open c.0 ∷ [], r.1 ∙ sym (append_assoc r.0 (entry.Drove j order.Open c.0 ∷ []) blocks))
closes_one j posts blocks past false rest c = rest blocks c

closes_more : (j : ℕ) (posts : List Post) (blocks past : List Entry) → Closes j posts blocks past → (newer : List Entry) × (past ≡ newer ++ blocks)
closes_more j [] blocks past c = ([], c)
closes_more j (p ∷ posts) blocks past c = closes_one j posts blocks past (state_of p).live (λ bs d. closes_more (suc j) posts bs past d) c

-- between the blocks and the whole past a post sees one order to open at most
between : (whole blocks front m1 m2 : List Seen) (b : Bool) → MatchBool b ((taken : Bool) × (whole ≡ Did (Give order.Open) taken ∷ blocks)) (whole ≡ blocks) → whole ≡ m1 ++ front → front ≡ m2 ++ blocks
    → (front ≡ blocks) ⊎ ((taken : Bool) × (front ≡ Did (Give order.Open) taken ∷ blocks))
between whole blocks front m1 [] b m e f = inl f
between whole blocks front [] (x ∷ []) true m e f = inr (m.0, sym e ∙ m.1)
between whole blocks front (y ∷ m1) (x ∷ m2) true m e f = absurd (
    let l : length whole ≡ suc (length blocks) = ap length m.1 in
    let n : length whole ≡ length (y ∷ m1) + length front = ap length e ∙ length-append (y ∷ m1) front in
    let k : length front ≡ length (x ∷ m2) + length blocks = ap length f ∙ length-append (x ∷ m2) blocks in
    let p : length (y ∷ m1) ≡ suc (length m1) = refl in
    let q : length (x ∷ m2) ≡ suc (length m2) = refl in
    omega (arith, l, n, k, p, q))
between whole blocks front [] (x ∷ (z ∷ m2)) true m e f = absurd (
    let l : length whole ≡ suc (length blocks) = ap length m.1 in
    let n : length whole ≡ length front = ap length e in
    let k : length front ≡ length (x ∷ (z ∷ m2)) + length blocks = ap length f ∙ length-append (x ∷ (z ∷ m2)) blocks in
    let q : length (x ∷ (z ∷ m2)) ≡ suc (suc (length m2)) = refl in
    omega (arith, l, n, k, q))
between whole blocks front m1 (x ∷ m2) false m e f = absurd (
    let l : length whole ≡ length blocks = ap length m in
    let n : length whole ≡ length m1 + length front = ap length e ∙ length-append m1 front in
    let k : length front ≡ length (x ∷ m2) + length blocks = ap length f ∙ length-append (x ∷ m2) blocks in
    let q : length (x ∷ m2) ≡ suc (length m2) = refl in
    omega (arith, l, n, k, q))

closed_past : (c : Codecs) (k : ℕ) (blocks : List Entry) (post : Post) (past : List Seen) → Steps c k blocks post → IsQuiet post.plan (state post.plan post.steps) → (past ≡ seen k blocks) ⊎ ((taken : Bool) × (past ≡ Did (Give order.Open) taken ∷ seen k blocks))
    → OwnPast c post.plan past
closed_past c k blocks post past s quiet (inl e) = record { steps = post.steps; run = s.run; ordered = s.ordered; silent = s.silent; heard = s.heard; closed = Still (e ∙ s.seen_is) }
closed_past c k blocks post past s quiet (inr (taken, e)) =
    record { steps = post.steps; run = s.run; ordered = s.ordered; silent = s.silent; heard = s.heard; closed = Opened taken (e ∙ ap (λ (xs : List Seen). Did (Give order.Open) taken ∷ xs) s.seen_is) quiet }

-- ---- up to any entry

pub own_past : (c : ToldCodecs) (site : SitePlan) (past behind front : List Entry) (k : ℕ) (post : ToldPost) → ReadsBack c.words → AreDetermined c.words → IsSiteRun c.words site past → past ≡ behind ++ front → told.IsPostOf c site front k post
    → OwnPast c.words post.plan (seen k front)
own_past c site past behind front k post back det r is post_is =
    let number = number_of c site front k post post_is in
    let more = closes_more 1 r.posts r.blocks past r.closes in
    elim (split_past behind front more.0 r.blocks (sym is ∙ more.1)) [
      | inl (m, e) ↦
          let plans = run_plans c.words site r.blocks r.posts r.run in
          let o = of_plan r.posts k site.post.items number plans in
          let s = steps_of c.words site r.blocks r.posts k back det r.run o in
          let ends = runs_end_open c.words site past r.blocks r.posts o.before o.post o.behind r.run r.closes o.posts_are in
          let here : MatchBool (live (seen k r.blocks)) ((taken : Bool) × (seen k past ≡ Did (Give order.Open) taken ∷ seen k r.blocks)) (seen k past ≡ seen k r.blocks) =
          subst (λ (i : ℕ). MatchBool (live (seen i r.blocks)) ((taken : Bool) × (seen i past ≡ Did (Give order.Open) taken ∷ seen i r.blocks)) (seen i past ≡ seen i r.blocks)) (sym o.number) ends in
          let up = seen_more k behind front in
          let down = seen_more k m r.blocks in
          let one = between (seen k past) (seen k r.blocks) (seen k front) up.0 down.0 (live (seen k r.blocks)) here (ap (seen k) is ∙ up.1) (ap (seen k) e ∙ down.1) in
          subst (λ (plan : PostPlan). OwnPast c.words plan (seen k front)) (sym (same_plan c site front k post r.posts plans o post_is))
          (closed_past c.words k r.blocks o.post (seen k front) s (quiet_at o.before o.post o.behind (subst AreQuiet o.posts_are r.whole)) one)
      | inr (m, e) ↦
          let f = front_run c.words site m front r.posts (subst (λ (es : List Entry). IsRun c.words site es r.posts) e r.run) in
          let plans = run_plans c.words site front f.0 f.1 in
          let o = of_plan f.0 k site.post.items number plans in
          let s = steps_of c.words site front f.0 k back det f.1 o in
          subst (λ (plan : PostPlan). OwnPast c.words plan (seen k front)) (sym (same_plan c site front k post f.0 plans o post_is))
          (record { steps = o.post.steps; run = s.run; ordered = s.ordered; silent = s.silent; heard = s.heard; closed = Still s.seen_is })
    ]
