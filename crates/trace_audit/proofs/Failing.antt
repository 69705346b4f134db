-- Which check fails at an entry, and for which post.
use Rattle.std.proofs.Common.{◌≡◌, inl, inr, ◌<◌, ◌≤◌, ℕ, ◌+◌, ◌-◌, ◌==◌, Bool, true, false, List, [], ◌∷◌, ◌++◌, length, Option, Some, None, refl, sym, ap, subst, ◌∙◌, arith}
use Rattle.std.specs.Prelude.{◌↔◌, ◌||◌, IsTrue}
use Rattle.std.specs.List.{AllByRecursion, list_any}
use Rattle.std.proofs.lemmas.Bool.{eqb-true, eqb-false}
use Rattle.charge_world.specs.Outside.{IsPost}
use Rattle.charge_world.specs.declared.entry.Entry.{Entry}
use Rattle.charge_world.specs.declared.entry.Entry.TheVariants as entry
use Rattle.session_words.specs.declared.plan.SitePlan.{SitePlan}
use Rattle.trace_reading.specs.Readings.{IsOf}
use Rattle.told_pasts.specs.Checks.{is_heard, IsNewest, HearingFollows, EndsBlock, PassesLimit}
use Rattle.told_pasts.specs.Faults.{FailsAt, Check1, Check2, Check3, Check4, Check5, Check6, Check7, Check8, Check9, Check10}
use Rattle.told_pasts.specs.Spelling.{ToldCodecs}
use Rattle.audit_checks.specs.declared.checks.Check.{Check}
use Rattle.audit_checks.specs.declared.checks.Check.TheVariants as check
use Rattle.audit_checks.specs.Checks.{number, FailsOf}
use Rattle.audit_checks.proofs.Posts.{are_posts}
use Rattle.trace_audit.specs.Verdicts.{IsEntryPlace, IsFirst, IsFirstOf, IsLeastOf, GoesOn}
use Rattle.trace_audit.proofs.Entries.{must_be_post, live_is_post, act_is_post}
use Rattle.trace_audit.proofs.Posts.{number_of}

differ : false ≡ true → ⊥
differ h = cc

-- ---- a check that fails, fails for a post of the plan

pub record Among (c : ToldCodecs) (site : SitePlan) (earlier : List Entry) (e : Entry) (behind : List Entry) (x : Check) : Type 0 where
  pub i : ℕ
  pub less : i < length site.post.items
  pub fails : FailsOf c site earlier e behind (i + 1) x

place_of : (n k : ℕ) → IsPost n k → (i : ℕ) × (i < n) × (k ≡ i + 1)
place_of n k is = (k - 1, omega (arith, is.0, is.1), omega (arith, is.0))

pub among : (c : ToldCodecs) (site : SitePlan) (earlier : List Entry) (e : Entry) (behind : List Entry) (k : ℕ) (x : Check) → AllByRecursion (IsOf (length site.post.items)) (e ∷ earlier) → 1 ≤ length site.post.items
    → FailsOf c site earlier e behind k x → Among c site earlier e behind x
among c site earlier e behind k check.ClosesUnmandated of some (f, same) =
    let n = number_of c site earlier f.k f.post f.is in record { i = n.0; less = n.1; fails = (f, n.2) }
among c site earlier e behind k check.FailsLive of some (f, same) =
    let n = number_of c site (e ∷ earlier) f.k f.post f.is in record { i = n.0; less = n.1; fails = (f, n.2) }
among c site earlier e behind k check.PassesCause of some (f, same) = elim f.passes [
  | inl (answers, owes) ↦ (let n = number_of c site earlier f.k owes.post owes.is in record { i = n.0; less = n.1; fails = (f, n.2) })
  | inr (newest, owes, alone) ↦ (let n = number_of c site (e ∷ earlier) f.k owes.post owes.is in record { i = n.0; less = n.1; fails = (f, n.2) })
]
among c site earlier e behind k check.ForgetsOpen of some (f, same) = elim f.forgets [
  | inl (acts, shut, begun, unacted, failed) ↦ (let n = place_of (length site.post.items) f.k (act_is_post (length site.post.items) f.k e of.0 acts) in record { i = n.0; less = n.1; fails = (f, n.2) })
  | inr (ends, unacted, failed) ↦ (let n = place_of (length site.post.items) f.k (must_be_post (length site.post.items) f.k (e ∷ earlier) of failed) in record { i = n.0; less = n.1; fails = (f, n.2) })
]
among c site earlier e behind k check.StaysClosed of some (f, same) =
    let n = number_of c site (e ∷ earlier) f.k f.post f.is in record { i = n.0; less = n.1; fails = (f, n.2) }
among c site earlier e behind k check.PassesLimit of some f = record { i = 0; less = some; fails = f }
among c site earlier e behind k check.SpellsOthers of some (f, same) =
    let n = number_of c site (e ∷ earlier) f.k f.post f.is in record { i = n.0; less = n.1; fails = (f, n.2) }
among c site earlier e behind k check.EndsLive of some (f, same) =
    let n = place_of (length site.post.items) f.k (live_is_post (length site.post.items) f.k (e ∷ earlier) of f.live_is) in record { i = n.0; less = n.1; fails = (f, n.2) }
among c site earlier e behind k check.AnswersNothing of some (f, same) =
    let n = number_of c site (e ∷ earlier) f.k f.post f.is in record { i = n.0; less = n.1; fails = (f, n.2) }
among c site earlier e behind k check.LeavesWord of some (f, same) =
    let n = number_of c site (e ∷ earlier) f.k f.post f.is in record { i = n.0; less = n.1; fails = (f, n.2) }

-- ---- numbers of checks

pub ten : (c : ToldCodecs) (site : SitePlan) (earlier : List Entry) (e : Entry) (behind : List Entry) (n : ℕ) → FailsAt c site earlier e behind n → (1 ≤ n) × (n ≤ 10)
ten c site earlier e behind n (Check1 f) = (omega arith, omega arith)
ten c site earlier e behind n (Check2 f) = (omega arith, omega arith)
ten c site earlier e behind n (Check3 f) = (omega arith, omega arith)
ten c site earlier e behind n (Check4 f) = (omega arith, omega arith)
ten c site earlier e behind n (Check5 f) = (omega arith, omega arith)
ten c site earlier e behind n (Check6 f) = (omega arith, omega arith)
ten c site earlier e behind n (Check7 f) = (omega arith, omega arith)
ten c site earlier e behind n (Check8 f) = (omega arith, omega arith)
ten c site earlier e behind n (Check9 f) = (omega arith, omega arith)
ten c site earlier e behind n (Check10 f) = (omega arith, omega arith)

-- what holds below a number, and of it
next_by : (P : ℕ → Type 0) (b : Bool) (i j : ℕ) → (j == i) ≡ b → ((m : ℕ) → m < i → P m) → P i → j < i + 1 → P j
next_by P true i j same below here less = subst P (sym (eqb-true j i same)) here
next_by P false i j apart below here less = below j (let other = eqb-false j i apart in omega (arith, other, less))

pub below_next : (P : ℕ → Type 0) (i : ℕ) → ((m : ℕ) → m < i → P m) → P i → (j : ℕ) → j < i + 1 → P j
below_next P i below here j less = next_by P (j == i) i j refl below here less

pub not_true : (b : Bool) → b ≡ false → IsTrue b → ⊥
not_true b is t = differ (sym is ∙ t)

pub not_less : (a b : ℕ) → (a < b → ⊥) → b ≤ a
not_less a b h = omega arith

-- none of the numbers from 1 to this one has it
pub none_before : (P : ℕ → Type 0) (i : ℕ) → ((j : ℕ) → j < i → P (j + 1) → ⊥) → (k : ℕ) → 1 ≤ k → P k → i + 1 ≤ k
none_before P i none k some p =
    not_less k (i + 1) (λ less.
    let place : (k - 1) + 1 ≡ k = omega (arith, some) in
    none (k - 1) (omega (arith, some, less)) (subst P (sym place) p))

-- ---- the first post

pub first_none : (c : ToldCodecs) (site : SitePlan) (earlier : List Entry) (e : Entry) (behind : List Entry) (x : Check) (o : Option ℕ) → o ≡ None → IsFirst c site earlier e behind x o
    → FailsAt c site earlier e behind (number x) → ⊥
first_none c site earlier e behind x None is h = h
first_none c site earlier e behind x (Some k) is h = absurd (let y : Some k ≡ None = is in cc)

pub first_some : (c : ToldCodecs) (site : SitePlan) (earlier : List Entry) (e : Entry) (behind : List Entry) (x : Check) (o : Option ℕ) (k : ℕ) → o ≡ Some k → IsFirst c site earlier e behind x o
    → IsFirstOf c site earlier e behind x k
first_some c site earlier e behind x None k is h = absurd (let y : None ≡ Some k = is in cc)
first_some c site earlier e behind x (Some j) k is h = let same : j ≡ k = (let y : Some j ≡ Some k = is in cc) in subst (IsFirstOf c site earlier e behind x) same h

-- the check of a number fails for the first post, and none of a lesser number
pub least_first : (c : ToldCodecs) (site : SitePlan) (earlier : List Entry) (e : Entry) (behind : List Entry) (x : Check) (n k : ℕ) → number x ≡ n → IsFirstOf c site earlier e behind x k
    → ((m : ℕ) → FailsAt c site earlier e behind m → n ≤ m) → IsLeastOf c site earlier e behind n k
least_first c site earlier e behind x n k is first least = record {
  is = subst (FailsAt c site earlier e behind) is ((are_posts c site earlier e behind x).1 (k, first.is));
  least = least;
  post = (x, is, first);
}

-- ---- places

pub some_follows : (behind : List Entry) → HearingFollows behind → IsNewest behind → ⊥
some_follows behind ([], heard, bytes, is) none = absurd (let x : entry.Heard heard bytes ∷ [] ≡ [] = sym is ∙ none in cc)
some_follows behind (e ∷ newer, heard, bytes, is) none = absurd (let x : e ∷ (newer ++ entry.Heard heard bytes ∷ []) ≡ [] = sym is ∙ none in cc)

ends_not : (earlier : List Entry) (e : Entry) (behind : List Entry) → GoesOn behind → EndsBlock behind (e ∷ earlier) → ⊥
ends_not earlier e behind on ends = elim ends.follows [ inl newest ↦ on.0 newest | inr hears ↦ on.1 hears ]

pub goes_place : (c : ToldCodecs) (site : SitePlan) (earlier : List Entry) (e : Entry) (behind : List Entry) (begun above : Bool) → begun ≡ list_any is_heard earlier → (IsTrue above ↔ PassesLimit c site earlier e) → GoesOn behind
    → IsEntryPlace c site earlier e behind (record { begun = begun; ends = false; last = false; above = above })
goes_place c site earlier e behind begun above is limit on = record {
  begun_is = is;
  ends_is = (λ t. absurd (differ t), λ ends. absurd (ends_not earlier e behind on ends));
  last_is = (λ t. absurd (differ t), λ newest. absurd (on.0 newest));
  above_is = limit;
}

begun_with : (earlier : List Entry) (e : Entry) (begun ends : Bool) → begun ≡ list_any is_heard earlier → ends ≡ (is_heard e || begun) → ends ≡ list_any is_heard (e ∷ earlier)
begun_with earlier e begun ends is made = made ∙ ap (λ (b : Bool). is_heard e || b) is

pub hears_place : (c : ToldCodecs) (site : SitePlan) (earlier : List Entry) (e : Entry) (behind : List Entry) (begun ends above : Bool) → begun ≡ list_any is_heard earlier → ends ≡ (is_heard e || begun) → (IsTrue above ↔ PassesLimit c site earlier e) → HearingFollows behind
    → IsEntryPlace c site earlier e behind (record { begun = begun; ends = ends; last = false; above = above })
hears_place c site earlier e behind begun ends above is made limit on =
    let all = begun_with earlier e begun ends is made in
    record {
      begun_is = is;
      ends_is = (λ t. record { begun = sym all ∙ t; follows = inr on }, λ h. all ∙ h.begun);
      last_is = (λ t. absurd (differ t), λ newest. absurd (some_follows behind on newest));
      above_is = limit;
    }

pub ends_place : (c : ToldCodecs) (site : SitePlan) (earlier : List Entry) (e : Entry) (behind : List Entry) (begun ends above : Bool) → begun ≡ list_any is_heard earlier → ends ≡ (is_heard e || begun) → (IsTrue above ↔ PassesLimit c site earlier e) → IsNewest behind
    → IsEntryPlace c site earlier e behind (record { begun = begun; ends = ends; last = true; above = above })
ends_place c site earlier e behind begun ends above is made limit on =
    let all = begun_with earlier e begun ends is made in
    record {
      begun_is = is;
      ends_is = (λ t. record { begun = sym all ∙ t; follows = inl on }, λ h. all ∙ h.begun);
      last_is = (λ t. on, λ newest. refl);
      above_is = limit;
    }
