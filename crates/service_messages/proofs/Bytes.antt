-- What is written is bytes, and what a room holds of them.
use Rattle.std.proofs.Common.{◌≡◌, ℕ, zero, suc, ◌<◌, List, [], ◌∷◌, ◌++◌, length, get_or, take, drop, refl, ap, subst}
use Rattle.document_laws.specs.Laws.{AreBytes}

pub front_bytes : (n : ℕ) (bytes : List ℕ) → ((i : ℕ) → get_or bytes i 0 < 256) → AreBytes (take n bytes)
front_bytes zero bytes fits = tt
front_bytes (suc n) [] fits = tt
front_bytes (suc n) (byte ∷ bytes) fits = (fits 0, front_bytes n bytes (λ i. fits (suc i)))

front : (bytes rest : List ℕ) → take (length bytes) (bytes ++ rest) ≡ bytes
front [] rest = refl
front (byte ∷ bytes) rest = ap (λ (l : List ℕ). byte ∷ l) (front bytes rest)

-- a room that was written whole holds what was written
pub whole_room : (len : ℕ) (new old : List ℕ) → length new ≡ len → take len (new ++ drop (length new) old) ≡ new
whole_room len new old is = subst (λ (n : ℕ). take n (new ++ drop (length new) old) ≡ new) is (front new (drop (length new) old))
