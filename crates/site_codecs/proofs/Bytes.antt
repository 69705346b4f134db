-- Bytes, each below 256.
use Rattle.std.proofs.Common.{ℕ, zero, suc, ◌<◌, List, [], ◌∷◌, get_or, take}
use Rattle.document_laws.specs.Laws.{AreBytes}

pub all_bytes : (bytes : List ℕ) → ((i : ℕ) → get_or bytes i 0 < 256) → AreBytes bytes
all_bytes [] fits = tt
all_bytes (byte ∷ bytes) fits = (fits 0, all_bytes bytes (λ i. fits (suc i)))

pub front_bytes : (n : ℕ) (bytes : List ℕ) → ((i : ℕ) → get_or bytes i 0 < 256) → AreBytes (take n bytes)
front_bytes zero bytes fits = tt
front_bytes (suc n) [] fits = tt
front_bytes (suc n) (byte ∷ bytes) fits = (fits 0, front_bytes n bytes (λ i. fits (suc i)))
