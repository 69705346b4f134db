-- What each post goes by in a run.
use Rattle.std.proofs.Common.{◌≡◌, ◌≢◌, ◌<◌, ℕ, suc, ◌+◌, max, Bool, true, List, [], ◌∷◌, ◌++◌, length, map, Option, refl, sym, ap, subst, ◌∙◌, arith, inl, inr}
use Rattle.std.proofs.lemmas.Bool.{eq-eqb, ne_eqb}
use Rattle.charge_world.specs.declared.entry.Entry.{Entry}
use Rattle.charge_world.specs.declared.entry.Entry.TheVariants as entry
use Rattle.charge_world.specs.declared.heard.Heard.{Heard}
use Rattle.session_words.specs.declared.plan.PostPlan.{PostPlan}
use Rattle.session_words.specs.declared.plan.SitePlan.{SitePlan}
use Rattle.station_spec.specs.Codecs.{Codecs}
use Rattle.station_spec.specs.Steps.{Act, Give, Send, Answer, End, Seen, Did, Step, Hears, Does, Reading, moment, event_at, seen, seen_of}
use Rattle.station_spec.specs.Steps as steps
use Rattle.station_spec.specs.States as states
use Rattle.station_spec.specs.Next.{IsDone}
use Rattle.station_spec.specs.Sharing.{Post}
use Rattle.station_spec.specs.Runs.{entry_of, with_step, unheard, heard_from, Rests, AreQuiet, HeardBy, MayAct, IsRun}
use Rattle.station_laws.specs.PostRuns.{IsPostRun, IsPostOf, ArePostsOf}

-- an entry of another post isn't seen, one of its own is
seen_other : (k n : ℕ) (a : Act) (taken : Bool) (past : List Entry) → n ≢ k → seen k (entry_of n a taken ∷ past) ≡ seen k past
seen_other k n (Give order) taken past ne = let t = ne_eqb n k ne in rw t refl
seen_other k n (Send bytes) taken past ne = let t = ne_eqb n k ne in rw t refl
seen_other k n (Answer bytes) taken past ne = let t = ne_eqb n k ne in rw t refl
seen_other k n (End cause) taken past ne = let t = ne_eqb n k ne in rw t refl

abbrev IsEndTaken : Act → Bool → Type 0
IsEndTaken (Give order) taken = Unit {0}
IsEndTaken (Send bytes) taken = Unit {0}
IsEndTaken (Answer bytes) taken = Unit {0}
IsEndTaken (End cause) taken = taken ≡ true

seen_own : (k n : ℕ) (a : Act) (taken : Bool) (past : List Entry) → n ≡ k → IsEndTaken a taken → seen k (entry_of n a taken ∷ past) ≡ Did a taken ∷ seen k past
seen_own k n (Give order) taken past e t = let b = eq-eqb n k e in rw b refl
seen_own k n (Send bytes) taken past e t = let b = eq-eqb n k e in rw b refl
seen_own k n (Answer bytes) taken past e t = let b = eq-eqb n k e in rw b refl
seen_own k n (End cause) taken past e t = let b = eq-eqb n k e in rw (b, t) refl

end_taken : (c : Codecs) (todo : states.Todo) (a : Act) (taken : Bool) → IsDone c todo a taken → IsEndTaken a taken
end_taken c (states.Tell datagram) a taken d = subst (λ (x : Act). IsEndTaken x taken) (sym d) tt
end_taken c (states.Give o) a taken d = subst (λ (x : Act). IsEndTaken x taken) (sym d) tt
end_taken c (states.Say spoken) a taken d = subst (λ (x : Act). IsEndTaken x taken) (sym d.2) tt
end_taken c (states.Finish cause) a taken d = subst (λ (x : Act). IsEndTaken x taken) (sym d.0) d.1

-- posts behind the acting one, or before it
others : (c : Codecs) (past : List Entry) (n k : ℕ) (a : Act) (taken : Bool) (posts : List Post) → n < k → ArePostsOf c past k posts → ArePostsOf c (entry_of n a taken ∷ past) k posts
others c past n k a taken [] less all = tt
others c past n k a taken (p ∷ posts) less all =
    (record { run = all.0.run; seen_is = seen_other k n a taken past (λ e. omega (arith, e, less)) ∙ all.0.seen_is }, others c past n (suc k) a taken posts (omega (arith, less)) all.1)

acted_at : (c : Codecs) (past : List Entry) (n k : ℕ) (before : List Post) (p : Post) (behind : List Post) (r : Option Reading) (a : Act) (taken : Bool) → n ≡ length before + k → IsEndTaken a taken
    → (IsPostRun c p.plan p.steps → IsPostRun c p.plan (Does r a taken ∷ p.steps))
    → ArePostsOf c past k (before ++ p ∷ behind) → ArePostsOf c (entry_of n a taken ∷ past) k (before ++ with_step (Does r a taken) p ∷ behind)
acted_at c past n k [] p behind r a taken e t run all =
    let same : n ≡ k = omega (arith, e) in
    (record { run = run all.0.run; seen_is = seen_own k n a taken past same t ∙ ap (λ (xs : List Seen). Did a taken ∷ xs) all.0.seen_is }, others c past n (suc k) a taken behind (omega (arith, same)) all.1)
acted_at c past n k (b ∷ before) p behind r a taken e t run all =
    let l : length (b ∷ before) ≡ length before + 1 = omega arith in
    (record { run = all.0.run; seen_is = seen_other k n a taken past (λ s. omega (arith, e, l, s)) ∙ all.0.seen_is }, acted_at c past n (suc k) before p behind r a taken (omega (arith, e, l)) t run all.1)

-- a hearing
heard_at : (c : Codecs) (past : List Entry) (k : ℕ) (h : Heard) (bytes : List ℕ) (posts : List Post) → AreQuiet posts → ArePostsOf c past k posts → ArePostsOf c (entry.Heard h bytes ∷ past) k (heard_from k (max (moment past) h.at) h bytes posts)
heard_at c past k h bytes [] quiet all = tt
heard_at c past k h bytes (p ∷ posts) quiet all =
    (record { run = (all.0.run, quiet.0); seen_is = ap (λ (xs : List Seen). steps.Heard (max (moment past) h.at) (event_at k h.what bytes) ∷ xs) all.0.seen_is }, heard_at c past (suc k) h bytes posts quiet.1 all.1)

lost_at : (c : Codecs) (past : List Entry) (k : ℕ) (posts : List Post) → ArePostsOf c past k posts → ArePostsOf c (entry.Lost ∷ past) k posts
lost_at c past k [] all = tt
lost_at c past k (p ∷ posts) all = (record { run = all.0.run; seen_is = all.0.seen_is }, lost_at c past (suc k) posts all.1)

heard_posts : (c : Codecs) (past : List Entry) (posts : List Post) (e : Entry) (later : List Post) → AreQuiet posts → HeardBy past posts e later → ArePostsOf c past 1 posts → ArePostsOf c (e ∷ past) 1 later
heard_posts c past posts (entry.Heard h bytes) later quiet heard all = subst (ArePostsOf c (entry.Heard h bytes ∷ past) 1) (sym heard.2) (heard_at c past 1 h bytes posts quiet all)
heard_posts c past posts entry.Lost later quiet heard all = subst (ArePostsOf c (entry.Lost ∷ past) 1) (sym heard) (lost_at c past 1 posts all)
heard_posts c past posts (entry.Sent post bytes taken) later quiet heard all = absurd heard
heard_posts c past posts (entry.Answered post bytes taken) later quiet heard all = absurd heard
heard_posts c past posts (entry.Drove post order taken) later quiet heard all = absurd heard
heard_posts c past posts (entry.Dialed port taken) later quiet heard all = absurd heard
heard_posts c past posts (entry.Ended post cause) later quiet heard all = absurd heard

acted_posts : (c : Codecs) (limit : ℕ) (past : List Entry) (posts : List Post) (e : Entry) (later : List Post) → MayAct c limit posts e later → ArePostsOf c past 1 posts → ArePostsOf c (e ∷ past) 1 later
acted_posts c limit past posts e later m all =
    let n = length m.before + 1 in
    let before : ArePostsOf c past 1 (m.before ++ m.post ∷ m.behind) = subst (ArePostsOf c past 1) m.posts_are all in
    let behind = acted_at c past n 1 m.before m.post m.behind m.reading m.act m.taken refl (end_taken c m.acts.todo m.act m.taken m.acts.done)
    (λ run. (run, (limit, m.before, m.behind, m.acts))) before in
    subst (λ (x : Entry). ArePostsOf c (x ∷ past) 1 later) (sym m.entry_is) (subst (ArePostsOf c (entry_of n m.act m.taken ∷ past) 1) (sym m.later_is) behind)

unheard_posts : (c : Codecs) (k : ℕ) (plans : List PostPlan) → ArePostsOf c [] k (map unheard plans)
unheard_posts c k [] = tt
unheard_posts c k (plan ∷ plans) = (record { run = tt; seen_is = refl }, unheard_posts c (suc k) plans)

pub run_posts : (c : Codecs) (site : SitePlan) (past : List Entry) (posts : List Post) → IsRun c site past posts → ArePostsOf c past 1 posts
run_posts c site [] posts run = subst (ArePostsOf c [] 1) (sym run) (unheard_posts c 1 site.post.items)
run_posts c site (e ∷ past) posts (before, run, inl hears) = heard_posts c past before e posts hears.whole hears.heard (run_posts c site past before run)
run_posts c site (e ∷ past) posts (before, run, inr acts) = acted_posts c site.limit past before e posts acts (run_posts c site past before run)

-- the post at a place
pub post_at : (c : Codecs) (past : List Entry) (n k : ℕ) (before : List Post) (p : Post) (behind : List Post) → n ≡ length before + k → ArePostsOf c past k (before ++ p ∷ behind) → IsPostOf c past n p
post_at c past n k [] p behind e all = subst (λ (i : ℕ). IsPostOf c past i p) (omega (arith, e)) all.0
post_at c past n k (b ∷ before) p behind e all = let l : length (b ∷ before) ≡ length before + 1 = omega arith in post_at c past n (suc k) before p behind (omega (arith, e, l)) all.1

pub quiet_at : (before : List Post) (p : Post) (behind : List Post) → AreQuiet (before ++ p ∷ behind) → Rests p
quiet_at [] p behind all = all.0
quiet_at (b ∷ before) p behind all = quiet_at before p behind all.1
