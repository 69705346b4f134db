-- A word that is judged is shown a share as its values tell.
use Rattle.std.proofs.Common.{◌≡◌, ℕ, Bool, true, false, List, Option, Some, None, refl, subst}
use Rattle.std.specs.Prelude.{◌&&◌, if◌then◌else◌, unwrap_or}
use Rattle.session_words.specs.declared.facts.Facts.{Facts}
use Rattle.session_words.specs.declared.plan.PostPlan.{PostPlan}
use Rattle.session_rules.specs.Asks.{asks, shows_watts}
use Rattle.session_rules.specs.Verdict.{verdict, is_accepted}
use Rattle.post_spec.specs.Codecs.{Judged, Negotiated, Asked, WrongSide, Refused}
use Rattle.post_spec.specs.Course.{Talked, Course, facts_of}
use Rattle.post_spec.specs.Steps.{Seen}
use Rattle.told_pasts.specs.Course.{told_course}
use Rattle.told_pasts.specs.Reading.{ShownTo, IsShownIn, IsShown}
use Rattle.told_pasts.specs.Steps.{ToldStep, seen_in}
use Rattle.audit_course.specs.Asking.{asked_by, IsShare}
use Rattle.audit_course.specs.Values.{judged_as}

share_if : (Shows : ℕ → ℕ → Type 0) (b : Bool) (watts shown : ℕ) → IsShare Shows (if b then Some watts else None) shown → ShownTo Shows b watts shown
share_if Shows true watts shown is = is
share_if Shows false watts shown is = is

shown_in : (Shows : ℕ → ℕ → Type 0) (plan : PostPlan) (steps : List ToldStep) (c : Course) (t : Option Talked) (word : Judged) (shown : ℕ)
    → IsShare Shows (asked_by t (facts_of (seen_in steps) c) plan (Some (judged_as word))) shown → IsShownIn Shows plan steps c t word shown
shown_in Shows plan steps c None word shown is = is
shown_in Shows plan steps c (Some t) (Negotiated chosen response) shown is = is
shown_in Shows plan steps c (Some t) (Asked r) shown is =
    share_if Shows (is_accepted (verdict t.stage (facts_of (seen_in steps) c) plan r) && shows_watts r.ask) (unwrap_or (asks plan r.ask) t.asked) shown is
shown_in Shows plan steps c (Some t) WrongSide shown is = is
shown_in Shows plan steps c (Some t) Refused shown is = is

pub shown_told : (Shows : ℕ → ℕ → Type 0) (plan : PostPlan) (steps : List ToldStep) (word : Judged) (shown : ℕ) (c : Course) (found : Option ℕ) → c ≡ told_course plan steps
    → found ≡ asked_by c.session (facts_of (seen_in steps) c) plan (Some (judged_as word)) → IsShare Shows found shown → IsShown Shows plan steps word shown
shown_told Shows plan steps word shown c found same is share =
    shown_in Shows plan steps (told_course plan steps) (told_course plan steps).session word shown
    (subst (λ (d : Course). IsShare Shows (asked_by d.session (facts_of (seen_in steps) d) plan (Some (judged_as word))) shown) same
    (subst (λ (o : Option ℕ). IsShare Shows o shown) is share))
