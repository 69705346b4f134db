-- What each value changes.
use Rattle.std.proofs.Common.{◌≡◌, ◌↔◌, ℕ, max, Bool, true, false, ◌∷◌, Option, Some, None, sym, ap, subst, ◌∙◌, arith}
use Rattle.std.specs.Prelude.{◌&&◌, IsTrue, IfSome}
use Rattle.std.proofs.lemmas.Bool.{and_parts}
use Rattle.charge_world.specs.declared.offer.Dialect.{Dialect}
use Rattle.session_words.specs.declared.plan.PostPlan.{PostPlan}
use Rattle.told_pasts.specs.Spelling.{Written, SpelledWatts, watts_of, power_in, current_in, most_in, Writes, WritesCurrent, WritesSchedule}
use Rattle.audit_watts.specs.declared.values.WattValues.{WattValues}
use Rattle.audit_watts.specs.Values.{AreOf}

and_both : (a b : Bool) → a ≡ true → b ≡ true → (a && b) ≡ true
and_both true b h k = k
and_both false b h k = cc

max_power : (most p c m : ℕ) → most ≡ max (max 0 c) m → max most p ≡ max (max p c) m
max_power most p c m is = omega (arith, is)

max_current : (most p c m : ℕ) → most ≡ max (max p 0) m → max most c ≡ max (max p c) m
max_current most p c m is = omega (arith, is)

max_p_max : (most p c m w : ℕ) → most ≡ max (max p c) m → max most w ≡ max (max p c) (max w m)
max_p_max most p c m w is = omega (arith, is)

pub power_told : (plan : PostPlan) (spoken : Dialect) (told : ℕ) (s : SpelledWatts) (v : WattValues) (w : Written) (watts : ℕ) (writes : Bool) → s.power ≡ None → watts ≡ watts_of w
    → (IsTrue writes ↔ Writes told w) → AreOf plan spoken told s v
    → AreOf plan spoken told (record s { power = Some w }) (record { most = max v.most watts; told = v.told && writes })
power_told plan spoken told s v w watts writes none watts_is same h = record {
  most_is = ap (max v.most) watts_is ∙ max_power v.most (watts_of w) (current_in plan s.current) (most_in s.p_max)
      (h.most_is ∙ ap (λ (o : Option Written). max (max (power_in o) (current_in plan s.current)) (most_in s.p_max)) none);
  told_is = (
    λ is. (let parts = and_parts v.told writes is in
        let all = h.told_is.0 parts.0 in
        record { power = same.0 parts.1; current = all.current; p_max = all.p_max }),
    λ all. and_both v.told writes
        (h.told_is.1 (record { power = subst (λ (o : Option Written). IfSome o (Writes told)) (sym none) tt; current = all.current; p_max = all.p_max }))
        (same.1 all.power),
  );
}

pub current_told : (plan : PostPlan) (spoken : Dialect) (told : ℕ) (s : SpelledWatts) (v : WattValues) (w : Written) (watts : ℕ) (writes : Bool) → s.current ≡ None
    → watts ≡ current_in plan (Some w) → (IsTrue writes ↔ WritesCurrent plan told w) → AreOf plan spoken told s v
    → AreOf plan spoken told (record s { current = Some w }) (record { most = max v.most watts; told = v.told && writes })
current_told plan spoken told s v w watts writes none watts_is same h = record {
  most_is = ap (max v.most) watts_is ∙ max_current v.most (power_in s.power) (current_in plan (Some w)) (most_in s.p_max)
      (h.most_is ∙ ap (λ (o : Option Written). max (max (power_in s.power) (current_in plan o)) (most_in s.p_max)) none);
  told_is = (
    λ is. (let parts = and_parts v.told writes is in
        let all = h.told_is.0 parts.0 in
        record { power = all.power; current = same.0 parts.1; p_max = all.p_max }),
    λ all. and_both v.told writes
        (h.told_is.1 (record { power = all.power; current = subst (λ (o : Option Written). IfSome o (WritesCurrent plan told)) (sym none) tt; p_max = all.p_max }))
        (same.1 all.current),
  );
}

pub p_max_told : (plan : PostPlan) (spoken : Dialect) (told : ℕ) (s : SpelledWatts) (v : WattValues) (w : Written) (watts : ℕ) (writes : Bool) → watts ≡ watts_of w
    → (IsTrue writes ↔ WritesSchedule spoken told w) → AreOf plan spoken told s v
    → AreOf plan spoken told (record s { p_max = w ∷ s.p_max }) (record { most = max v.most watts; told = v.told && writes })
p_max_told plan spoken told s v w watts writes watts_is same h = record {
  most_is = ap (max v.most) watts_is ∙ max_p_max v.most (power_in s.power) (current_in plan s.current) (most_in s.p_max) (watts_of w) h.most_is;
  told_is = (
    λ is. (let parts = and_parts v.told writes is in
        let all = h.told_is.0 parts.0 in
        record { power = all.power; current = all.current; p_max = (same.0 parts.1, all.p_max) }),
    λ all. and_both v.told writes (h.told_is.1 (record { power = all.power; current = all.current; p_max = all.p_max.1 })) (same.1 all.p_max.0),
  );
}
