-- An entry of one kind, at post k or at another one.
use Rattle.std.proofs.Common.{◌≡◌, ℕ, ◌==◌, Bool, true, false, List, Option, None, refl, sym, subst, eq-eqb}
use Rattle.std.specs.Prelude.{MatchBool, length, ◌≤◌}
use Rattle.std.proofs.lemmas.Bool.{eqb-true}
use Rattle.charge_world.specs.declared.entry.Entry.{Entry}
use Rattle.charge_world.specs.declared.entry.Entry.TheVariants as entry
use Rattle.charge_world.specs.declared.heard.Heard.{Heard as Hearing}
use Rattle.charge_world.specs.declared.ports.Order.{Order}
use Rattle.session_words.specs.declared.plan.PostPlan.{PostPlan}
use Rattle.post_spec.specs.Steps.{Give, Send}
use Rattle.told_pasts.specs.Spelling.{ToldCodecs}
use Rattle.told_pasts.specs.Steps.{ToldStep}
use Rattle.audit_course.specs.declared.words.NextWord.{NextWord}
use Rattle.audit_records.specs.Records.{JudgesWord}
use Rattle.audited_posts.specs.Posts.{JudgesAt, IsShort}

differ : false ≡ true → ⊥
differ h = cc

not_true : (b : Bool) → (b ≡ true → ⊥) → b ≡ false
not_true true h = absurd (h refl)
not_true false h = refl

pub apart : (a b : ℕ) → (a ≡ b → ⊥) → (a == b) ≡ false
apart a b h = not_true (a == b) (λ is. h (eqb-true a b is))

pub yes : (A B : Type 0) (b : Bool) → b ≡ true → A → MatchBool b A B
yes A B true is a = a
yes A B false is a = absurd (differ is)

pub no : (A B : Type 0) (b : Bool) → b ≡ false → B → MatchBool b A B
no A B true is o = absurd (differ (sym is))
no A B false is o = o

-- ---- which word it judges

pub judged_sent : (c : ToldCodecs) (plan : PostPlan) (k : ℕ) (steps : List ToldStep) (e : Entry) (w : Option NextWord) (at : ℕ) (bytes : List ℕ) (taken : Bool) → e ≡ entry.Sent at bytes taken
    → at ≡ k → JudgesWord c plan steps (Send bytes) w → JudgesAt c plan k steps e w
judged_sent c plan k steps e w at bytes taken is same j =
    subst (λ (x : Entry). JudgesAt c plan k steps x w) (sym is) (yes _ _ (at == k) (eq-eqb at k same) j)

pub judged_drove : (c : ToldCodecs) (plan : PostPlan) (k : ℕ) (steps : List ToldStep) (e : Entry) (w : Option NextWord) (at : ℕ) (given : Order) (taken : Bool) → e ≡ entry.Drove at given taken
    → at ≡ k → JudgesWord c plan steps (Give given) w → JudgesAt c plan k steps e w
judged_drove c plan k steps e w at given taken is same j =
    subst (λ (x : Entry). JudgesAt c plan k steps x w) (sym is) (yes _ _ (at == k) (eq-eqb at k same) j)

pub unsent : (c : ToldCodecs) (plan : PostPlan) (k : ℕ) (steps : List ToldStep) (e : Entry) (w : Option NextWord) (at : ℕ) (bytes : List ℕ) (taken : Bool) → e ≡ entry.Sent at bytes taken
    → (at ≡ k → ⊥) → w ≡ None → JudgesAt c plan k steps e w
unsent c plan k steps e w at bytes taken is other none =
    subst (λ (x : Entry). JudgesAt c plan k steps x w) (sym is) (no _ _ (at == k) (apart at k other) none)

pub undriven : (c : ToldCodecs) (plan : PostPlan) (k : ℕ) (steps : List ToldStep) (e : Entry) (w : Option NextWord) (at : ℕ) (given : Order) (taken : Bool) → e ≡ entry.Drove at given taken
    → (at ≡ k → ⊥) → w ≡ None → JudgesAt c plan k steps e w
undriven c plan k steps e w at given taken is other none =
    subst (λ (x : Entry). JudgesAt c plan k steps x w) (sym is) (no _ _ (at == k) (apart at k other) none)

-- ---- its bytes

pub short_piece : (e : Entry) (heard : Hearing) (bytes : List ℕ) → e ≡ entry.Heard heard bytes → IsShort e → length bytes ≤ 4096
short_piece e heard bytes is h = subst (λ (x : Entry). IsShort x) is h
