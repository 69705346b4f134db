-- One value that may be there.
use Rattle.std.proofs.Common.{◌≡◌, ℕ, Option, Some, None, sym, ◌∙◌, ap, subst}
use Rattle.std.specs.Option.{option_map}
use Rattle.charge_world.specs.declared.offer.Dialect.{Dialect}
use Rattle.session_words.specs.declared.plan.PostPlan.{PostPlan}
use Rattle.told_pasts.specs.Spelling.{Written}
use Rattle.audit_watts.specs.declared.values.WattValues.{WattValues}
use Rattle.audit_watts.specs.Values.{AreOf, no_watts}
use Rattle.reply_watts.specs.Values.{power_alone, current_alone}

module _ {X : Type 0} (plan : PostPlan) (spoken : Dialect) (told : ℕ) (f : X → Written) (o : Option X) (v : WattValues) where
  pub power_kept : (x : X) (w : Written) → o ≡ Some x → w ≡ f x → AreOf plan spoken told (power_alone (Some w)) v
      → AreOf plan spoken told (power_alone (option_map f o)) v
  power_kept x w is written h =
      subst (λ (p : Option Written). AreOf plan spoken told (power_alone p) v) (ap (λ (u : Written). Some u) written ∙ ap (option_map f) (sym is)) h

  pub no_power : o ≡ None → AreOf plan spoken told no_watts v → AreOf plan spoken told (power_alone (option_map f o)) v
  no_power is h = subst (λ (p : Option Written). AreOf plan spoken told (power_alone p) v) (ap (option_map f) (sym is)) h

  pub current_kept : (x : X) (w : Written) → o ≡ Some x → w ≡ f x → AreOf plan spoken told (current_alone (Some w)) v
      → AreOf plan spoken told (current_alone (option_map f o)) v
  current_kept x w is written h =
      subst (λ (p : Option Written). AreOf plan spoken told (current_alone p) v) (ap (λ (u : Written). Some u) written ∙ ap (option_map f) (sym is)) h

  pub no_current : o ≡ None → AreOf plan spoken told no_watts v → AreOf plan spoken told (current_alone (option_map f o)) v
  no_current is h = subst (λ (p : Option Written). AreOf plan spoken told (current_alone p) v) (ap (option_map f) (sym is)) h
