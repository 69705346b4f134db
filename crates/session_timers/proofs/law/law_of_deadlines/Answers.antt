use Rattle.std.proofs.Common.{◌≡◌, ℕ, List, Option, Some, None, refl, ap, ◌∙◌}
use Rattle.session_words.specs.declared.cause.Timeout.{Timeout}
use Rattle.session_timers.specs.declared.deadlines.Deadline.{Deadline}
use Rattle.session_timers.specs.Due.{Call, moments_of, due_of, reached, next_after, never}
use Rattle.session_timers.specs.Law.{IsDue, IsHit}
use Rattle.session_timers.proofs.LawLemmas.{due_found, due_given, Reaches, reached_is, is_reached, told_first, first_told, least}
use Rattle.session_timers.proofs.law.law_of_deadlines.Goals as goal

hit_found : (calls : List Call) (now : ℕ) (t : Timeout) → Reaches (due_of (moments_of calls)) now t → IsHit calls now t
hit_found calls now t r = record {
  moment = r.moment;
  due = due_found calls (record { timeout = t; moment = r.moment }) r.is;
  reached = r.reached;
  can_come = r.can_come;
}

pub returns-clause-hit : goal.returns-clause-hit
returns-clause-hit c = λ calls now t. (
  (λ e. hit_found calls now t (reached_is (due_of (moments_of calls)) now t e)),
  (λ h. ap (λ (o : Option Deadline). reached o now) (due_given calls t h.moment h.due) ∙ is_reached now t h.moment h.reached h.can_come),
)

pub returns-clause-next : goal.returns-clause-next
returns-clause-next c = λ calls t moment h. ap next_after (due_given calls t moment h)

never_in : (calls : List Call) (o : Option Deadline) → due_of (moments_of calls) ≡ o → ((t : Timeout) (moment : ℕ) → IsDue calls t moment → ⊥) → next_after o ≡ never
never_in calls None e none = refl
never_in calls (Some d) e none = absurd (none d.timeout d.moment (due_found calls d e))

pub returns-clause-never : goal.returns-clause-never
returns-clause-never c = λ calls none. never_in calls (due_of (moments_of calls)) refl none

pub returns-clause-first : goal.returns-clause-first
returns-clause-first c = λ calls now t order. (
  (λ e. told_first calls now t (hit_found calls now t (reached_is (due_of (moments_of calls)) now t e))),
  (λ h.
      let hit : IsHit calls now t = first_told calls now t order h.0 h.1 in
      ap (λ (o : Option Deadline). reached o now) (due_given calls t hit.moment hit.due) ∙ is_reached now t hit.moment hit.reached hit.can_come),
)

pub returns-clause-least : goal.returns-clause-least
returns-clause-least c = λ calls now t from order counts. least calls now t from order counts
