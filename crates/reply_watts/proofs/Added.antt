-- A list is added by its first, behind the others.
use Rattle.std.proofs.Common.{◌≡◌, ℕ, ◌-◌, ◌≤◌, List, [], ◌∷◌, ◌++◌, length, map, take, drop, get_or, refl, sym, ap, ap₂, ◌∙◌, subst, append_assoc, arith}
use Rattle.std.specs.List.{flat_map}
use Rattle.std.proofs.lemmas.List.{take_rest}
use Rattle.charge_world.specs.declared.offer.Dialect.{Dialect}
use Rattle.session_words.specs.declared.plan.PostPlan.{PostPlan}
use Rattle.told_pasts.specs.Spelling.{Written, SpelledWatts}
use Rattle.audit_watts.specs.declared.values.WattValues.{WattValues}
use Rattle.audit_watts.specs.Values.{AreOf}
use Rattle.reply_watts.specs.Values.{AreAdded}

-- one value in front
abbrev pub IsAdded : Dialect → ℕ → Written → WattValues → WattValues → Type 0
IsAdded spoken told w before behind =
    (plan : PostPlan) (s : SpelledWatts) → AreOf plan spoken told s before → AreOf plan spoken told (record s { p_max = w ∷ s.p_max }) behind

abbrev others : {X : Type 0} → List X → List X
others xs = take (length xs - 1) (drop 1 xs)

mapped : {X : Type 0} (f : X → Written) (xs : List X) (d : X) → 1 ≤ length xs → map f xs ≡ f (get_or xs 0 d) ∷ map f (drop 1 xs)
mapped f [] d some = absurd (omega (arith, some))
mapped f (x ∷ xs) d some = refl

joined : {X : Type 0} (g : X → List Written) (xs : List X) (d : X) → 1 ≤ length xs → flat_map g xs ≡ g (get_or xs 0 d) ++ flat_map g (drop 1 xs)
joined g [] d some = absurd (omega (arith, some))
joined g (x ∷ xs) d some = refl

pub entries_added : {X : Type 0} (spoken : Dialect) (told : ℕ) (f : X → Written) (xs : List X) (d : X) (w : Written) (before later behind : WattValues) → 1 ≤ length xs
    → w ≡ f (get_or xs 0 d) → AreAdded spoken told (map f (others xs)) before later → IsAdded spoken told w later behind
    → AreAdded spoken told (map f xs) before behind
entries_added spoken told f xs d w before later behind some first rest last plan s h =
    let is : w ∷ map f (others xs) ≡ map f xs = ap₂ (λ (v : Written) (vs : List Written). v ∷ vs) first (ap (map f) (take_rest xs 1)) ∙ sym (mapped f xs d some) in
    subst (λ (ws : List Written). AreOf plan spoken told (record s { p_max = ws ++ s.p_max }) behind) is (last plan _ (rest plan s h))

pub tuples_added : {X : Type 0} (spoken : Dialect) (told : ℕ) (g : X → List Written) (xs : List X) (d : X) (ws : List Written) (before later behind : WattValues) → 1 ≤ length xs
    → ws ≡ g (get_or xs 0 d) → AreAdded spoken told (flat_map g (others xs)) before later → AreAdded spoken told ws later behind
    → AreAdded spoken told (flat_map g xs) before behind
tuples_added spoken told g xs d ws before later behind some first rest last plan s h =
    let is : ws ++ flat_map g (others xs) ≡ flat_map g xs = ap₂ (λ (vs us : List Written). vs ++ us) first (ap (flat_map g) (take_rest xs 1)) ∙ sym (joined g xs d some) in
    let assoc : ws ++ (flat_map g (others xs) ++ s.p_max) ≡ flat_map g xs ++ s.p_max =
    sym (append_assoc ws (flat_map g (others xs)) s.p_max) ∙ ap (λ (vs : List Written). vs ++ s.p_max) is in
    subst (λ (vs : List Written). AreOf plan spoken told (record s { p_max = vs }) behind) assoc (last plan _ (rest plan s h))
