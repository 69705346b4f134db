-- What a reply of a post has of its session, and of watts and lists of one.
use Rattle.std.proofs.Common.{ℕ, zero, suc, ◌<◌, ◌≤◌, Bool, true, false, if◌then◌else◌, IsTrue, [], ◌∷◌, All, arith, lit≤, lit<}
use Rattle.std.specs.Prelude.{replicate}
use Rattle.session_words.specs.declared.facts.Facts.{Facts}
use Rattle.session_words.specs.declared.plan.PostPlan.{PostPlan}
use Rattle.session_words.specs.declared.session.SessionId.{SessionId}
use Rattle.session_words.specs.declared.word.Ask.{Ask}
use Rattle.session_words.specs.declared.word.Ask.TheVariants as ask
use Rattle.session_words.specs.declared.word.Request.{Request}
use Rattle.session_rules.specs.declared.stage.Stage.{Stage}
use Rattle.session_rules.specs.Moves.{moved, session_if, stage_behind}
use Rattle.session_rules.specs.Stages.{id_of, is_set_up, identifier}
use Rattle.session_rules.specs.Verdict.{verdict, is_accepted, joins}
use Rattle.word_values.specs.Amounts.{can_write_tenths}
use Rattle.message_tables.specs.Spellable.{CanSession}
use Rattle.written_words.specs.Posts.{IsTenths}
use Rattle.written_words.proofs.Numbers.{few_tenths}

choose : (b : Bool) (x y : SessionId) → CanSession x → CanSession y → CanSession (if b then x else y)
choose true x y hx hy = hx
choose false x y hx hy = hy

all_zero : (n : ℕ) → All (λ b. b < 256) (replicate n 0)
all_zero zero k d h = absurd (omega arith)
all_zero (suc n) zero d h = lit< tt
all_zero (suc n) (suc k) d h = all_zero n k d (omega arith)

zeros : CanSession (id_of (replicate 8 0))
zeros = (lit≤ tt, all_zero 8)

pub identifier_fits : (s : Stage) → CanSession s.session → CanSession (identifier s)
identifier_fits s h = choose (is_set_up s.row) s.session (id_of (replicate 8 0)) h zeros

session_fits : (s : Stage) (facts : Facts) (named : SessionId) (a : Ask) → CanSession s.session → CanSession named → CanSession (session_if s facts named a)
session_fits s facts named (ask.SessionSetup car) h n = choose (joins s.dialect facts named) named s.session n h
session_fits s facts named other h n = h

choose_stage : (b : Bool) (x y : Stage) → CanSession x.session → CanSession y.session → CanSession ((if b then x else y).session)
choose_stage true x y hx hy = hx
choose_stage false x y hx hy = hy

pub behind_fits : (s : Stage) (facts : Facts) (plan : PostPlan) (r : Request) (shown : ℕ) → CanSession s.session → CanSession r.session
    → CanSession ((stage_behind s facts plan r shown).session)
behind_fits s facts plan r shown h n =
    choose_stage (is_accepted (verdict s facts plan r)) (moved s facts plan r shown) s (session_fits s facts r.session r.ask h n) h

-- ---- amounts and lists

pub all_one : {X : Type 0} (P : X → Type 0) (x : X) → P x → All P (x ∷ [])
all_one P x p zero d h = p
all_one P x p (suc k) d h = absurd (omega arith)

pub tenths_fit : (n : ℕ) → IsTenths n → IsTrue (can_write_tenths n)
tenths_fit n h = few_tenths n (omega arith)

pub told_few : (b : Bool) (x y : ℕ) → x ≤ 1000000 → y ≤ 1000000 → (if b then x else y) < 32768000
told_few true x y hx hy = omega arith
told_few false x y hx hy = omega arith
