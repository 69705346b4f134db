-- What the texts of two files say of each other.
use Rattle.std.proofs.Common.{◌≡◌, ℕ, ◌<◌, List, length, Option, Some, None, Result, Ok, sym, ap, ◌∙◌, subst, arith}
use Rattle.std.proofs.lemmas.Slice.Zip.{AllZip-long}
use Rattle.std.specs.List.{AllZip}
use Rattle.std.specs.Prelude.{IsSomeAnd}
use Rattle.toml.specs.Data.{Members}
use Rattle.session_words.specs.declared.plan.SitePlan.{SitePlan}
use Rattle.plan_keys.specs.declared.fault.PlanFault.{PlanFault}
use Rattle.plan_keys.specs.Keys.{Holds, value_at}
use Rattle.plan_keys.specs.Faults.{text_says, told}
use Rattle.site_plan.specs.Keys.{post_tables}
use Rattle.site_plan.specs.Plans.{post_file, site_fault, IsSitePlanOf, site_told}
use Rattle.planned_traces.specs.Files.{FilesTold, AreTexts}

-- what follows from two facts of one text
pub both_of : (text : Option (List ℕ)) (P Q : List ℕ → Type 0) (R : Type 0) → ((t : List ℕ) → P t → Q t → R) → IsSomeAnd text P → IsSomeAnd text Q → R
both_of None P Q R f p q = absurd p
both_of (Some t) P Q R f p q = f t p q

no_fault : (fault : PlanFault) → None ≡ Some fault → ⊥
no_fault fault h = cc

-- a text that is a plan has no fault
pub planned : (fault : PlanFault) (plan : SitePlan) (text : List ℕ) → IsSitePlanOf text plan → site_told text ≡ Some fault → ⊥
planned fault plan text is first = no_fault fault (sym is.2 ∙ sym (ap (told site_fault) is.1) ∙ first)

pub same_table : (said : Result Members PlanFault) (a b : Members) → said ≡ Ok a → said ≡ Ok b → a ≡ b
same_table said a b h k =
    let both : Ok a ≡ Ok b = sym h ∙ k in cc

-- a text says how many posts there are
pub same_posts : (p q : SitePlan) (text : List ℕ) → IsSitePlanOf text p → IsSitePlanOf text q → length p.post.items ≡ length q.post.items
same_posts p q text a b =
    let table : a.0 ≡ b.0 = same_table (text_says text) a.0 b.0 a.1 b.1 in
    let posts = subst (λ (t : Members). AllZip (Holds post_file) (value_at post_tables t) p.post.items) table a.3.posts in
    AllZip-long (Holds post_file) _ p.post.items posts ∙ sym (AllZip-long (Holds post_file) _ q.post.items b.3.posts)

-- at the posts of one plan as at those of the other
pub other_plan : (files : FilesTold) (p q : SitePlan) (P : ℕ → List ℕ → Type 0) → IsSomeAnd files.plan (λ text. IsSitePlanOf text p) → AreTexts files q P
    → IsSomeAnd files.trace (P (length p.post.items))
other_plan files p q P is texts =
    let posts : length q.post.items ≡ length p.post.items =
    both_of files.plan _ _ (length q.post.items ≡ length p.post.items) (λ text a b. same_posts q p text b a) is texts.0 in
    subst (λ (n : ℕ). IsSomeAnd files.trace (P n)) posts texts.1

pub never : (n m : ℕ) → m ≡ n → n < m → ⊥
never n m is risen = omega (arith, is, risen)
