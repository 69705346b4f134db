-- What the posts were told together, through the calls.
use Rattle.std.proofs.Common.{◌≡◌, ℕ, ◌+◌, ◌-◌, ◌≤◌, List, [], ◌∷◌, sum, length, ap, ◌∙◌, inl, inr, arith}
use Rattle.std.proofs.lemmas.Bool.{cases_lt}
use Rattle.std.proofs.lemmas.List.{set_past}
use Rattle.std.proofs.lemmas.List.Sums.{sum_by-set}
use Rattle.power_share.specs.Sharing.{Sharing, Call, Ask, Tell, Release, After, Reached, IsShown, with_post, told_to_others}

-- the others were told at most what all were
pub others_le : (told : List ℕ) (post : ℕ) → told_to_others told post ≤ sum told
others_le told post =
    elim (cases_lt (post - 1) (length told)) [
      | inl here ↦ omega (arith, sum_by-set (λ x. x) told (post - 1) 0 0 here)
      | inr past ↦ let e : with_post told post 0 ≡ told = set_past told (post - 1) 0 past in omega (arith, ap sum e)
    ]

-- what the others leave may be told
pub told_within : (told : List ℕ) (post n limit : ℕ) → sum told ≤ limit → n + told_to_others told post ≤ limit → sum (with_post told post n) ≤ limit
told_within told post n limit old left =
    elim (cases_lt (post - 1) (length told)) [
      | inl here ↦ omega (arith, sum_by-set (λ x. x) told (post - 1) 0 0 here, sum_by-set (λ x. x) told (post - 1) n 0 here)
      | inr past ↦ let e : with_post told post n ≡ told = set_past told (post - 1) n past in omega (arith, ap sum e)
    ]

-- a share is within what the others leave
pub share_left : (s : Sharing) (post n : ℕ) → sum s.told ≤ s.limit → IsShown s post n → n + told_to_others s.told post ≤ s.limit
share_left s post n h shown = omega (arith, shown.least, others_le s.told post)

-- one call keeps the limit, and the sum within it
step_within : (call : Call) (old new : Sharing) (limit : ℕ) → old.limit ≡ limit → sum old.told ≤ limit → After call old new → (new.limit ≡ limit) × (sum new.told ≤ limit)
step_within (Ask post watts) old new limit e h after =
    (ap (λ (s : Sharing). s.limit) after ∙ e, omega (arith, ap (λ (s : Sharing). sum s.told) after))
step_within (Tell post watts) old new limit e h after =
    let left : watts + told_to_others old.told post ≤ old.limit = share_left old post watts (omega arith) after.0 in
    (ap (λ (s : Sharing). s.limit) after.1 ∙ e, omega (arith, ap (λ (s : Sharing). sum s.told) after.1, told_within old.told post watts limit h (omega arith)))
step_within (Release post) old new limit e h after =
    (ap (λ (s : Sharing). s.limit) after ∙ e, omega (arith, ap (λ (s : Sharing). sum s.told) after, others_le old.told post))

reached_within : (limit posts : ℕ) (calls : List Call) (s : Sharing) → Reached limit posts calls s → (s.limit ≡ limit) × (sum s.told ≤ limit)
reached_within limit posts [] s reached = (ap (λ (s : Sharing). s.limit) reached, omega (arith, ap (λ (s : Sharing). sum s.told) reached))
reached_within limit posts (call ∷ calls) s reached =
    let before = reached_within limit posts calls reached.0 reached.1 in
    step_within call reached.0 s limit before.0 before.1 reached.2

-- the told watts never add up to more than the limit
pub always_within : (limit posts : ℕ) (calls : List Call) (s : Sharing) → Reached limit posts calls s → sum s.told ≤ limit
always_within limit posts calls s reached = (reached_within limit posts calls s reached).1
