-- The global partition has the entries' items at their places.
use Rattle.std.proofs.Common.{◌≡◌, ℕ, zero, suc, ◌<◌, ◌≤◌, List, [], ◌∷◌, length, get_or, Some, None, refl, ap, arith}
use Rattle.std.specs.Prelude.{slice_get}
use Rattle.exi_strings.specs.Table.{global_of}

pub length-global_of : {T : Type 0} (entries : List (ℕ × T)) → length (global_of entries) ≡ length entries
length-global_of [] = refl
length-global_of (entry ∷ entries) = ap suc (length-global_of entries)

pub global_get : {T : Type 0} (entries : List (ℕ × T)) (i : ℕ) (e : ℕ × T) → i < length entries → e ≡ get_or entries i e → Some e.1 ≡ slice_get (global_of entries) i
global_get [] i e less is = absurd (omega arith)
global_get {T} (entry ∷ entries) zero e less is = ap (λ (p : ℕ × T). Some p.1) is
global_get (entry ∷ entries) (suc i) e less is = global_get entries i e (omega (arith, less)) is

pub global_none : {T : Type 0} (entries : List (ℕ × T)) (i : ℕ) → length entries ≤ i → None ≡ slice_get (global_of entries) i
global_none [] i more = refl
global_none (entry ∷ entries) zero more = absurd (omega (arith, more))
global_none (entry ∷ entries) (suc i) more = global_none entries i (omega (arith, more))
