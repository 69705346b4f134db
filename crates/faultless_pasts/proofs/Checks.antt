-- Each check that doesn't fail.
use Rattle.std.proofs.Common.{◌≡◌, ◌⊎◌, inl, inr, ℕ, ◌+◌, ◌<◌, ◌≤◌, Bool, true, false, List, [], ◌∷◌, ◌++◌, length, map, drop, refl, ap, subst, arith}
use Rattle.std.specs.List.{list_any, sum_by}
use Rattle.charge_world.specs.declared.entry.Entry.{Entry}
use Rattle.session_words.specs.declared.plan.PostPlan.{PostPlan}
use Rattle.session_words.specs.declared.plan.SitePlan.{SitePlan}
use Rattle.post_spec.specs.Contactors.{contactor_acts, live}
use Rattle.post_spec.specs.Steps.{seen}
use Rattle.told_pasts.specs.Causes.{OwesOpen}
use Rattle.told_pasts.specs.Checks.{is_act_of, opens, in_block, opened_in_vain, ends_opened, OpensAlone}
use Rattle.told_pasts.specs.Faults.{FailsAt, Check1, Check2, Check3, Check4, Check5, Check6, Check8, IsFaultless}
use Rattle.told_pasts.specs.Safe.{IsSafeAt, IsSafe}
use Rattle.told_pasts.specs.Site.{ToldPost, told_of, spelled_of, ArePosts, IsPostOf}
use Rattle.told_pasts.specs.Spelling.{ToldCodecs}
use Rattle.faultless_pasts.specs.Faultless.{TellsMandated, FaultlessIsSafe}
use Rattle.faultless_pasts.proofs.Opening.{told}

-- ---- what isn't false

is_true : (b : Bool) → (b ≡ false → ⊥) → b ≡ true
is_true true h = refl
is_true false h = absurd (h refl)

is_false : (b : Bool) → (b ≡ true → ⊥) → b ≡ false
is_false true h = absurd (h refl)
is_false false h = refl

by_told : (P : Type 0) → P ⊎ (P → ⊥) → ((P → ⊥) → ⊥) → P
by_told P (inl p) h = p
by_told P (inr isnt) h = absurd (h isnt)

or_told : (P Q : Type 0) → P ⊎ (P → ⊥) → ((P → ⊥) → Q) → P ⊎ Q
or_told P Q (inl p) h = inl p
or_told P Q (inr isnt) h = inr (h isnt)

no_fault : (c : ToldCodecs) (site : SitePlan) (past behind earlier : List Entry) (e : Entry) (check : ℕ) → IsFaultless c site past → past ≡ behind ++ e ∷ earlier
    → FailsAt c site earlier e behind check → ⊥
no_fault c site past behind earlier e check none is fails =
    none (length earlier + 2) check (record { behind = behind; e = e; earlier = earlier; past_is = is; line_is = refl; fails = fails })

-- ---- at each entry

safe_at : (c : ToldCodecs) (site : SitePlan) (past behind earlier : List Entry) (e : Entry) (k : ℕ) → TellsMandated c site → IsFaultless c site past → past ≡ behind ++ e ∷ earlier
    → IsSafeAt c site k behind e earlier
safe_at c site past behind earlier e k tells none is = record {
  closes = λ taken post entry_is post_is. by_told _ (tells earlier k post post_is) (λ isnt.
      no_fault c site past behind earlier e 1 none is (Check1 (record { k = k; taken = taken; post = post; entry_is = entry_is; is = post_is; unmandated = isnt })));
  holds = λ post ends post_is closed_is. or_told _ _ (tells (e ∷ earlier) k post post_is) (λ isnt. is_true (opened_in_vain (contactor_acts (seen k (e ∷ earlier)))) (λ unopened.
      no_fault c site past behind earlier e 5 none is (Check5 (record { ends = ends; k = k; post = post; is = post_is; closed_is = closed_is; unmandated = isnt; unopened = unopened }))));
  caused = λ post answers post_is owes.
      no_fault c site past behind earlier e 3 none is (Check3 (record { k = k; passes = inl (answers, record { post = post; is = post_is; owes = owes }) }));
  again = λ acts begun unacted failed. is_true (opens e) (λ shut.
      no_fault c site past behind earlier e 4 none is (Check4 (record { k = k; forgets = inl (acts, shut, begun, unacted, failed) })));
  opened = λ ends failed. is_true (list_any (is_act_of k) (in_block (e ∷ earlier))) (λ unacted.
      no_fault c site past behind earlier e 4 none is (Check4 (record { k = k; forgets = inr (ends, unacted, failed) })));
  fails = λ bytes taken post reading said steps entry_is post_is steps_are failed. is_false (live (seen k earlier)) (λ live_is.
      no_fault c site past behind earlier e 2 none is (Check2 (record {
        k = k;
        bytes = bytes;
        taken = taken;
        post = post;
        reading = reading;
        said = said;
        steps = steps;
        entry_is = entry_is;
        is = post_is;
        steps_are = steps_are;
        failed = failed;
        live_is = live_is;
      })));
}

-- ---- at the end

abbrev unstarted : PostPlan → ToldPost
unstarted plan = record { plan = plan; steps = [] }

no_steps : (plans : List PostPlan) (before behind : List ToldPost) (post : ToldPost) → before ++ post ∷ behind ≡ map unstarted plans → post.steps ≡ []
no_steps [] [] behind post is = cc
no_steps [] (b ∷ before) behind post is = cc
no_steps (plan ∷ plans) [] behind post is =
    let same : post ≡ unstarted plan = cc in
    ap (λ (t : ToldPost). t.steps) same
no_steps (plan ∷ plans) (b ∷ before) behind post is = no_steps plans before behind post (ap (drop 1) is)

caused : (c : ToldCodecs) (site : SitePlan) (past : List Entry) (k : ℕ) → IsFaultless c site past → (post : ToldPost) → IsPostOf c site past k post → OwesOpen c post.plan post.steps
    → OpensAlone k past
caused c site [] k none post is owes =
    absurd (subst (OwesOpen c post.plan) (no_steps site.post.items is.before is.behind post is.posts) owes)
caused c site (e ∷ earlier) k none post is owes =
    by_told _ (told k (e ∷ earlier)) (λ isnt.
    no_fault c site (e ∷ earlier) [] earlier e 3 none refl (Check3 (record { k = k; passes = inr (refl, record { post = post; is = is; owes = owes }, isnt) })))

opened_last : (c : ToldCodecs) (site : SitePlan) (past : List Entry) (k : ℕ) → IsFaultless c site past → live (seen k past) ≡ true → ends_opened k past ≡ true
opened_last c site [] k none live_is = cc
opened_last c site (e ∷ earlier) k none live_is = is_true (ends_opened k (e ∷ earlier)) (λ left.
    no_fault c site (e ∷ earlier) [] earlier e 8 none refl (Check8 (record { newest = refl; k = k; live_is = live_is; left = left })))

safe : (c : ToldCodecs) (site : SitePlan) (past : List Entry) → TellsMandated c site → IsFaultless c site past → IsSafe c site past
safe c site past tells none k post is = record {
  each = λ behind e earlier past_is. safe_at c site past behind earlier e k tells none past_is;
  caused = caused c site past k none;
  ends = opened_last c site past k none;
}

-- ---- watts

no_watts : (plans : List PostPlan) → (sum_by spelled_of (map unstarted plans) ≡ 0) × (sum_by told_of (map unstarted plans) ≡ 0)
no_watts [] = (refl, refl)
no_watts (plan ∷ plans) =
    let rest = no_watts plans in
    (omega (arith, rest.0), omega (arith, rest.1))

not_above : (limit sum : ℕ) → (limit < sum → ⊥) → sum ≤ limit
not_above limit sum h = omega arith

within_at : (c : ToldCodecs) (site : SitePlan) (past behind earlier : List Entry) (posts : List ToldPost) → IsFaultless c site past → past ≡ behind ++ earlier → ArePosts c site earlier posts
    → (sum_by spelled_of posts ≤ site.limit) × (sum_by told_of posts ≤ site.limit)
within_at c site past behind [] posts none is are =
    let isnt = no_watts site.post.items in
    (omega (arith, ap (λ (ps : List ToldPost). sum_by spelled_of ps) are, isnt.0), omega (arith, ap (λ (ps : List ToldPost). sum_by told_of ps) are, isnt.1))
within_at c site past behind (e ∷ earlier) posts none is are = (
  not_above site.limit (sum_by spelled_of posts) (λ above. no_fault c site past behind earlier e 6 none is (Check6 (record { posts = posts; are = are; above = inl above }))),
  not_above site.limit (sum_by told_of posts) (λ above. no_fault c site past behind earlier e 6 none is (Check6 (record { posts = posts; are = are; above = inr above }))),
)

pub faultless_is_safe : (c : ToldCodecs) → FaultlessIsSafe c
faultless_is_safe c site past tells none =
    (safe c site past tells none, λ behind earlier posts is are. within_at c site past behind earlier posts none is are)
