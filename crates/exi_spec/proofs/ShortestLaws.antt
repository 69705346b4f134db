-- The shortest spelling of an Unsigned Integer.
use Rattle.std.proofs.Common.{◌≡◌, ℕ, zero, suc, ◌+◌, ◌*◌, ◌/◌, ◌%◌, ◌^◌, ◌<◌, ◌≤◌, Bool, true, false, ltb, List, [], ◌∷◌, ◌++◌, length, refl, sym, ap, subst, arith, inl, inr}
use Rattle.std.proofs.lemmas.Bool.{cases_lt, lt-ltb, le-ltb}
use Rattle.std.proofs.lemmas.List.{length-append}
use Rattle.std.proofs.lemmas.Nat.{div_below}
use Rattle.std.proofs.Math.Nat.{pow-suc}
use Rattle.exi_spec.specs.Items.{octet, followed, grouped, AreGroups, SpellsOctets, shortest_within}
use Rattle.exi_spec.specs.Laws.{IsShortest}
use Rattle.exi_spec.proofs.BitLaws.{length-number_bits}
use Rattle.exi_spec.proofs.OctetLaws.{only_octet, more_octets}

shortest_low : (more v : ℕ) → v < 128 → shortest_within more v ≡ octet false v
unfolding shortest_within
shortest_low zero v h = refl
shortest_low (suc more) v h = let low : ltb v 128 ≡ true = lt-ltb _ _ h in rw low refl

shortest_high : (more v : ℕ) → 128 ≤ v → shortest_within (suc more) v ≡ octet true (v % 128) ++ shortest_within more (v / 128)
unfolding shortest_within
shortest_high more v h = let high : ltb v 128 ≡ false = le-ltb _ _ h in rw high refl

length-octet : (more : Bool) (group : ℕ) → length (octet more group) ≡ 8
length-octet more group = ap suc (length-number_bits 7 group)

spelled_within : (more v : ℕ) → v < 128 ^ suc more → v < 2 ^ 64 → SpellsOctets (suc more) v (shortest_within more v)
spelled_within zero v bound range =
    let low : v < 128 = omega (arith, bound) in
    subst (λ (l : List Bool). SpellsOctets 1 v l) (sym (shortest_low zero v low)) (only_octet 1 v (omega arith) low)
spelled_within (suc more) v bound range =
    elim (cases_lt v 128) [
      | inl low ↦ subst (λ (l : List Bool). SpellsOctets (suc (suc more)) v l) (sym (shortest_low (suc more) v low)) (only_octet (suc (suc more)) v (omega arith) low)
      | inr high ↦
          let power : 128 ^ suc (suc more) ≡ 128 ^ suc more * 128 = pow-suc 128 (suc more) in
          let below : v / 128 < 128 ^ suc more = div_below v 128 (128 ^ suc more) (omega arith) (omega (arith, power, bound)) in
          let whole : v % 128 + 128 * (v / 128) ≡ v = omega arith in
          let later : SpellsOctets (suc more) (v / 128) (shortest_within more (v / 128)) = spelled_within more (v / 128) below (omega arith) in
          subst (λ (l : List Bool). SpellsOctets (suc (suc more)) v l) (sym (shortest_high more v high))
          (subst (λ (k : ℕ). SpellsOctets (suc (suc more)) k (octet true (v % 128) ++ shortest_within more (v / 128))) whole
          (more_octets (suc more) (v % 128) (v / 128) (shortest_within more (v / 128)) (omega arith) (omega (arith, whole, range)) later))
    ]

length-followed : (groups : List ℕ) → length (followed groups) ≡ 8 * length groups
length-followed [] = refl
length-followed (group ∷ groups) = omega (arith, length-append (octet true group) (followed groups), length-octet true group, length-followed groups)

-- no fewer octets have the value
least_within : (more v : ℕ) (groups : List ℕ) (last : ℕ) → length groups ≤ more → AreGroups groups → last < 128 → v ≡ grouped groups last → length (shortest_within more v) ≤ 8 * length groups + 8
least_within more v [] last count fit low is =
    let v_low : v < 128 = omega (arith, is, low) in
    omega (arith, ap length (shortest_low more v v_low), length-octet false v)
least_within zero v (group ∷ groups) last count fit low is = absurd (omega (arith, count))
least_within (suc more) v (group ∷ groups) last count fit low is =
    elim (cases_lt v 128) [
      | inl v_low ↦ omega (arith, ap length (shortest_low (suc more) v v_low), length-octet false v)
      | inr high ↦
          let next : v / 128 ≡ grouped groups last = omega (arith, is, fit.0) in
          let ih = least_within more (v / 128) groups last (omega (arith, count)) fit.1 low next in
          omega (arith, ih, ap length (shortest_high more v high), length-append (octet true (v % 128)) (shortest_within more (v / 128)), length-octet true (v % 128))
    ]

pub shortest : (value : ℕ) → value < 2 ^ 64 → IsShortest value
shortest value range =
    record {
      spelled = spelled_within 9 value (omega (arith, range)) range;
      least = λ bits s.
          omega (
            arith,
            least_within 9 value s.groups s.last (omega (arith, s.count)) s.groups_fit s.last_fits s.value_is,
            ap length s.spelled,
            length-append (followed s.groups) (octet false s.last),
            length-followed s.groups,
            length-octet false s.last,
          );
    }
