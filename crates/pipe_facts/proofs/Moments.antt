-- What is to come at one place of a charger, where another place is set.
use Rattle.std.proofs.Common.{◌≡◌, ℕ, zero, suc, ◌<◌, ◌≤◌, if◌then◌else◌, List, [], ◌∷◌, Option, Some, None, refl, ap, sym, ◌∙◌, arith}
use Rattle.std.specs.Prelude.{slice_get, slice_set}
use Rattle.charge_world.specs.declared.ports.Order.{Order}
use Rattle.charge_world.specs.declared.ports.Order.TheVariants as order
use Rattle.plant_sim.specs.Charger.{Charger, later, came, ordered}

pub other_place : (ms : List (Option ℕ)) (p k : ℕ) (v : Option ℕ) → (p ≡ k → ⊥) → slice_get (slice_set ms p v) k ≡ slice_get ms k
other_place [] p k v n = refl
other_place (m ∷ ms) zero zero v n = absurd (n refl)
other_place (m ∷ ms) zero (suc k) v n = refl
other_place (m ∷ ms) (suc p) zero v n = refl
other_place (m ∷ ms) (suc p) (suc k) v n = other_place ms p k v (λ e. n (ap suc e))

pub same_place : (ms : List (Option ℕ)) (p : ℕ) (v w : Option ℕ) → slice_get ms p ≡ Some w → slice_get (slice_set ms p v) p ≡ Some v
same_place [] p v w e = absurd (let x : None ≡ Some w = e in cc)
same_place (m ∷ ms) zero v w e = refl
same_place (m ∷ ms) (suc p) v w e = same_place ms p v w e

-- a place at which nothing comes stays so
pub stays_empty : (ms : List (Option ℕ)) (p k : ℕ) → slice_get ms k ≡ Some None → slice_get (slice_set ms p None) k ≡ Some None
stays_empty [] p k e = e
stays_empty (m ∷ ms) zero zero e = refl
stays_empty (m ∷ ms) zero (suc k) e = e
stays_empty (m ∷ ms) (suc p) zero e = e
stays_empty (m ∷ ms) (suc p) (suc k) e = stays_empty ms p k e

pub apart : (p k : ℕ) → p < k → p ≡ k → ⊥
apart p k l e = omega (arith, l, e)

-- a car that comes changes the first four places
pub came_elsewhere : (s : Charger) (now k : ℕ) → 4 ≤ k → slice_get (came s now).moments k ≡ slice_get s.moments k
came_elsewhere s now k l =
    other_place (slice_set (slice_set (slice_set s.moments 0 (Some now)) 1 (Some now)) 2 (if s.free then None else later now 100)) 3 k (later now 300) (apart 3 k (omega (arith, l)))
    ∙ other_place (slice_set (slice_set s.moments 0 (Some now)) 1 (Some now)) 2 k (if s.free then None else later now 100) (apart 2 k (omega (arith, l)))
    ∙ other_place (slice_set s.moments 0 (Some now)) 1 k (Some now) (apart 1 k (omega (arith, l)))
    ∙ other_place s.moments 0 k (Some now) (apart 0 k (omega (arith, l)))

-- an order changes the last four
pub ordered_elsewhere : (s : Charger) (o : Order) (now k : ℕ) → k < 4 → slice_get (ordered s o now).moments k ≡ slice_get s.moments k
ordered_elsewhere s (order.Limits voltage current watts) now k l = other_place s.moments 4 k (later now 20) (λ e. apart k 4 l (sym e))
ordered_elsewhere s order.Close now k l = other_place s.moments 5 k (later now 50) (λ e. apart k 5 (omega (arith, l)) (sym e))
ordered_elsewhere s order.Open now k l =
    other_place (slice_set s.moments 6 (later now 50)) 7 k (later now 50) (λ e. apart k 7 (omega (arith, l)) (sym e))
    ∙ other_place s.moments 6 k (later now 50) (λ e. apart k 6 (omega (arith, l)) (sym e))
