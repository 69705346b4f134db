-- Whether a post is mandated to close can be told.
use Rattle.std.proofs.Common.{◌≡◌, ◌⊎◌, inl, inr, Bool, true, false, List, refl}
use Rattle.std.specs.Prelude.{is_some}
use Rattle.std.specs.List.{list_all}
use Rattle.session_words.specs.declared.plan.PostPlan.{PostPlan}
use Rattle.session_rules.specs.Finishing.{is_ac}
use Rattle.post_spec.specs.Checked.{pre_charge_off}
use Rattle.post_spec.specs.Facts.{pilot, isolation}
use Rattle.post_spec.specs.Sessions.{arriving, session}
use Rattle.told_pasts.specs.Mandated.{IsMandated}
use Rattle.told_pasts.specs.Spelling.{ToldCodecs}
use Rattle.told_pasts.specs.Steps.{ToldStep, seen_in}
use Rattle.told_pasts.specs.Talk.{is_judged, judged_over, talk}
use Rattle.audit_mandates.specs.declared.values.MandateValues.{MandateValues}
use Rattle.audit_mandates.specs.Checking.{isolated}
use Rattle.audit_mandates.specs.Laws.{StartsTell}
use Rattle.audit_mandates.specs.Preparing.{prepared}
use Rattle.audit_mandates.specs.Starting.{started, is_good}
use Rattle.audit_mandates.specs.Values.{AreOf, Starts, is_mandated}
use Rattle.audit_mandates.proofs.Mandated.{mandated_told, mandated_back}
use Rattle.audit_mandates.proofs.Preparing.{differ}

-- there are values behind any steps
some_values : (ac : Bool) (steps : List ToldStep) → (v : MandateValues) × (ac ≡ v.ac) × AreOf steps v
some_values ac steps = (
  record {
    ac = ac;
    arrived = is_some (arriving (seen_in steps));
    lives = is_some (session (seen_in steps));
    pilot = pilot (seen_in steps);
    isolation = isolation (seen_in steps);
    judged = is_judged steps;
    judged_pilot = pilot (judged_over steps);
    good = list_all is_good (talk steps);
    preparation = prepared (talk steps);
    isolated = isolated steps;
    off = pre_charge_off (talk steps);
    started = started ac steps;
  },
  refl,
  (
    record { arrived_is = refl; lives_is = refl; judged_is = refl; state_is = refl; judged_state_is = refl; level_is = refl },
    record { good_is = refl; preparation_is = refl; held_is = refl; off_is = refl; begun_is = refl },
  ),
)

decide : (b : Bool) (P : Type 0) → (b ≡ true → P) → (P → b ≡ true) → P ⊎ (P → ⊥)
decide true P told back = inl (told refl)
decide false P told back = inr (λ p. differ (back p))

told : (c : ToldCodecs) (plan : PostPlan) (steps : List ToldStep) → Starts c plan steps ⊎ (Starts c plan steps → ⊥) → IsMandated c plan steps ⊎ (IsMandated c plan steps → ⊥)
told c plan steps (inl s) =
    let v = some_values (is_ac plan.mode) steps in
    decide (is_mandated true v.0) (IsMandated c plan steps) (mandated_told c plan steps v.0 true v.1 v.2 (λ is. s)) (mandated_back c plan steps v.0 true v.1 v.2 (λ starts. refl))
told c plan steps (inr none) =
    let v = some_values (is_ac plan.mode) steps in
    decide (is_mandated false v.0) (IsMandated c plan steps) (mandated_told c plan steps v.0 false v.1 v.2 (λ is. absurd (differ is)))
    (mandated_back c plan steps v.0 false v.1 v.2 (λ starts. absurd (none starts)))

pub starts_tell : (c : ToldCodecs) → StartsTell c
starts_tell c site tells past k post is = told c post.plan post.steps (tells past k post is)
