-- The posts of a whole run by their numbers; a number that is none of theirs has no act.
use Rattle.std.proofs.Common.{◌≡◌, ◌≤◌, ◌<◌, ℕ, zero, suc, ◌+◌, ◌==◌, Bool, true, false, ◌||◌, List, [], ◌∷◌, ◌++◌, length, map, refl, sym, ap, subst, ◌∙◌, inl, inr, ◌⊎◌, arith, MatchBool}
use Rattle.std.specs.Prelude.{nat_le}
use Rattle.std.specs.List.{list_any}
use Rattle.std.proofs.lemmas.Bool.{ne_eqb, leb-true, leb-false}
use Rattle.std.proofs.lemmas.List.{length-append, map-append, length-map}
use Rattle.charge_world.specs.declared.entry.Entry.{Entry}
use Rattle.charge_world.specs.declared.entry.Entry.TheVariants as entry
use Rattle.charge_world.specs.declared.heard.Heard.{Heard}
use Rattle.charge_world.specs.declared.ports.Order.TheVariants as order
use Rattle.session_words.specs.declared.plan.PostPlan.{PostPlan}
use Rattle.session_words.specs.declared.plan.SitePlan.{SitePlan}
use Rattle.post_spec.specs.Codecs.{Codecs}
use Rattle.post_spec.specs.Steps.{Act, Give, Send, Answer, End}
use Rattle.station_spec.specs.Sharing.{Post, state_of}
use Rattle.station_spec.specs.Runs.{entry_of, unheard, heard_from, HeardBy, Follows, IsRun, Closes, IsSiteRun}
use Rattle.told_pasts.specs.Checks.{is_act_of}

-- ---- the plans of the posts stay

abbrev pub plan_of : Post → PostPlan
plan_of post = post.plan

unheard_plans : (plans : List PostPlan) → map plan_of (map unheard plans) ≡ plans
unheard_plans [] = refl
unheard_plans (plan ∷ plans) = ap (λ (more : List PostPlan). plan ∷ more) (unheard_plans plans)

heard_plans : (k at : ℕ) (heard : Heard) (bytes : List ℕ) (posts : List Post) → map plan_of (heard_from k at heard bytes posts) ≡ map plan_of posts
heard_plans k at heard bytes [] = refl
heard_plans k at heard bytes (p ∷ posts) = ap (λ (more : List PostPlan). p.plan ∷ more) (heard_plans (suc k) at heard bytes posts)

hearing_plans : (past : List Entry) (posts : List Post) (e : Entry) (later : List Post) → HeardBy past posts e later → map plan_of later ≡ map plan_of posts
hearing_plans past posts (entry.Heard heard bytes) later h = ap (map plan_of) h.2 ∙ heard_plans 1 _ heard bytes posts
hearing_plans past posts entry.Lost later h = ap (map plan_of) h
hearing_plans past posts (entry.Sent post bytes taken) later h = absurd h
hearing_plans past posts (entry.Answered post bytes taken) later h = absurd h
hearing_plans past posts (entry.Drove post order taken) later h = absurd h
hearing_plans past posts (entry.Dialed port taken) later h = absurd h
hearing_plans past posts (entry.Ended post cause) later h = absurd h

follows_plans : (c : Codecs) (site : SitePlan) (past : List Entry) (posts : List Post) (e : Entry) (later : List Post) → Follows c site past posts e later → map plan_of later ≡ map plan_of posts
follows_plans c site past posts e later (inl h) = hearing_plans past posts e later h.heard
follows_plans c site past posts e later (inr a) =
    ap (map plan_of) a.later_is ∙ map-append plan_of a.before _ ∙ sym (map-append plan_of a.before (a.post ∷ a.behind)) ∙ sym (ap (map plan_of) a.posts_are)

pub run_plans : (c : Codecs) (site : SitePlan) (past : List Entry) (posts : List Post) → IsRun c site past posts → map plan_of posts ≡ site.post.items
run_plans c site [] posts run = ap (map plan_of) run ∙ unheard_plans site.post.items
run_plans c site (e ∷ past) later run = follows_plans c site past run.0 e later run.2 ∙ run_plans c site past run.0 run.1

run_count : (c : Codecs) (site : SitePlan) (past : List Entry) (posts : List Post) → IsRun c site past posts → length posts ≡ length site.post.items
run_count c site past posts run = sym (length-map posts plan_of) ∙ ap length (run_plans c site past posts run)

-- ---- one of them

pub record Of (posts : List Post) (k : ℕ) : Type 0 where
  pub before : List Post
  pub post : Post
  pub behind : List Post
  pub posts_are : posts ≡ before ++ post ∷ behind
  pub number : k ≡ length before + 1

split : (posts : List Post) (i : ℕ) → i < length posts → Of posts (i + 1)
split [] i less = absurd (omega (arith, less))
split (p ∷ posts) zero less = record { before = []; post = p; behind = posts; posts_are = refl; number = refl }
split (p ∷ posts) (suc i) less =
    let l : length (p ∷ posts) ≡ suc (length posts) = refl in
    let r = split posts i (omega (arith, less, l)) in
    let m : length (p ∷ r.before) ≡ suc (length r.before) = refl in
    let n = r.number in
    record { before = p ∷ r.before; post = r.post; behind = r.behind; posts_are = ap (λ (ps : List Post). p ∷ ps) r.posts_are; number = omega (arith, m, n) }

abbrev IsNumber : ℕ → ℕ → Type 0
IsNumber n k = (1 ≤ k) × (k ≤ n)

below : (n : ℕ) (b : Bool) (i : ℕ) → nat_le (suc i) n ≡ b → IsNumber n (suc i) ⊎ (IsNumber n (suc i) → ⊥)
below n true i is = inl (omega arith, leb-true (suc i) n is)
below n false i is = inr (λ post. omega (arith, leb-false (suc i) n is, post.1))

told_number : (n k : ℕ) → IsNumber n k ⊎ (IsNumber n k → ⊥)
told_number n zero = inr (λ is. omega (arith, is.0))
told_number n (suc i) = below n (nat_le (suc i) n) i refl

of_number : (posts : List Post) (k : ℕ) → IsNumber (length posts) k → Of posts k
of_number posts zero is = absurd (omega (arith, is.0))
of_number posts (suc i) is =
    let e : i + 1 ≡ suc i = omega arith in
    subst (Of posts) e (split posts i (omega (arith, is.1)))

-- ---- another number

another : (n post k : ℕ) → IsNumber n post → (IsNumber n k → ⊥) → (post == k) ≡ false
another n post k is none = ne_eqb post k (λ same. none (subst (IsNumber n) same is))

act_other : (n k j : ℕ) (a : Act) (taken : Bool) → IsNumber n j → (IsNumber n k → ⊥) → is_act_of k (entry_of j a taken) ≡ false
act_other n k j (Give given) taken is none = another n j k is none
act_other n k j (Send bytes) taken is none = another n j k is none
act_other n k j (Answer bytes) taken is none = another n j k is none
act_other n k j (End cause) taken is none = another n j k is none

heard_other : (k : ℕ) (past : List Entry) (posts : List Post) (e : Entry) (later : List Post) → HeardBy past posts e later → is_act_of k e ≡ false
heard_other k past posts (entry.Heard heard bytes) later h = refl
heard_other k past posts entry.Lost later h = refl
heard_other k past posts (entry.Sent post bytes taken) later h = absurd h
heard_other k past posts (entry.Answered post bytes taken) later h = absurd h
heard_other k past posts (entry.Drove post order taken) later h = absurd h
heard_other k past posts (entry.Dialed port taken) later h = absurd h
heard_other k past posts (entry.Ended post cause) later h = absurd h

follows_other : (c : Codecs) (site : SitePlan) (k : ℕ) (past : List Entry) (posts : List Post) (e : Entry) (later : List Post) → (IsNumber (length posts) k → ⊥) → Follows c site past posts e later → is_act_of k e ≡ false
follows_other c site k past posts e later none (inl h) = heard_other k past posts e later h.heard
follows_other c site k past posts e later none (inr a) =
    let l : length posts ≡ length a.before + length (a.post ∷ a.behind) = ap length a.posts_are ∙ length-append a.before (a.post ∷ a.behind) in
    let m : length (a.post ∷ a.behind) ≡ suc (length a.behind) = refl in
    ap (is_act_of k) a.entry_is ∙ act_other (length posts) k (length a.before + 1) a.act a.taken (omega arith, omega (arith, l, m)) none

none_or : (a b : Bool) → a ≡ false → b ≡ false → (a || b) ≡ false
none_or a b e f = rw (e, f) refl

run_other : (c : Codecs) (site : SitePlan) (k : ℕ) (past : List Entry) (posts : List Post) → IsRun c site past posts → (IsNumber (length site.post.items) k → ⊥) → list_any (is_act_of k) past ≡ false
run_other c site k [] posts run none = refl
run_other c site k (e ∷ past) later run none =
    let count = run_count c site past run.0 run.1 in
    none_or (is_act_of k e) (list_any (is_act_of k) past)
    (follows_other c site k past run.0 e later (λ is. none (subst (λ (n : ℕ). IsNumber n k) count is)) run.2)
    (run_other c site k past run.0 run.1 none)

closed_other : (n k j : ℕ) (posts : List Post) (blocks past : List Entry) (b : Bool) → IsNumber n j → (IsNumber n k → ⊥) → list_any (is_act_of k) blocks ≡ false
    → ((bs : List Entry) → list_any (is_act_of k) bs ≡ false → Closes (suc j) posts bs past → list_any (is_act_of k) past ≡ false)
    → MatchBool b ((taken : Bool) × Closes (suc j) posts (entry.Drove j order.Open taken ∷ blocks) past) (Closes (suc j) posts blocks past) → list_any (is_act_of k) past ≡ false
closed_other n k j posts blocks past true is none a rest c =
    rest (entry.Drove j order.Open c.0 ∷ blocks) (none_or (j == k) (list_any (is_act_of k) blocks) (another n j k is none) a) c.1
closed_other n k j posts blocks past false is none a rest c = rest blocks a c

closes_other : (n k j : ℕ) (posts : List Post) (blocks past : List Entry) → 1 ≤ j → j + length posts ≤ n + 1 → (IsNumber n k → ⊥) → list_any (is_act_of k) blocks ≡ false → Closes j posts blocks past → list_any (is_act_of k) past ≡ false
closes_other n k j [] blocks past one long none a c = ap (list_any (is_act_of k)) c ∙ a
closes_other n k j (p ∷ posts) blocks past one long none a c =
    let l : length (p ∷ posts) ≡ suc (length posts) = refl in
    closed_other n k j posts blocks past (state_of p).live (one, omega (arith, long, l)) none a
    (λ bs b d. closes_other n k (suc j) posts bs past (omega (arith, one)) (omega (arith, long, l)) none b d) c

-- ---- so of each number it can be told

pub told_place : (c : Codecs) (site : SitePlan) (past : List Entry) (k : ℕ) → (r : IsSiteRun c site past) → Of r.posts k ⊎ (list_any (is_act_of k) past ≡ false)
told_place c site past k r =
    let count = run_count c site r.blocks r.posts r.run in
    elim (told_number (length site.post.items) k) [
      | inl is ↦ inl (of_number r.posts k (subst (λ (n : ℕ). IsNumber n k) (sym count) is))
      | inr none ↦ inr (closes_other (length site.post.items) k 1 r.posts r.blocks past (omega arith) (omega (arith, count)) none (run_other c site k r.blocks r.posts r.run none) r.closes)
    ]

-- and a post of a plan has its place
pub of_plan : (posts : List Post) (k : ℕ) (plans : List PostPlan) → (before : List PostPlan) × (plan : PostPlan) × (behind : List PostPlan) × (plans ≡ before ++ plan ∷ behind) × (k ≡ length before + 1) → map plan_of posts ≡ plans → Of posts k
of_plan posts k plans (before, plan, behind, are, number) is =
    let count : length posts ≡ length plans = sym (length-map posts plan_of) ∙ ap length is in
    let l : length plans ≡ length before + length (plan ∷ behind) = ap length are ∙ length-append before (plan ∷ behind) in
    let m : length (plan ∷ behind) ≡ suc (length behind) = refl in
    of_number posts k (omega (arith, number), omega (arith, number, count, l, m))
