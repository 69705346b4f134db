-- What is written doesn't fail, and is bytes.
use Rattle.std.proofs.Common.{ℕ, zero, suc, ◌<◌, List, [], ◌∷◌, get_or, take, Result, Ok, Err, refl}
use Rattle.std.specs.Result.{IsOk, IsErr}
use Rattle.document_laws.specs.Laws.{AreBytes}

pub is_ok : {T E : Type 0} (r : Result T E) → (IsErr r → ⊥) → IsOk r
is_ok (Ok x) none = refl
is_ok (Err e) none = absurd (none refl)

pub front_bytes : (n : ℕ) (bytes : List ℕ) → ((i : ℕ) → get_or bytes i 0 < 256) → AreBytes (take n bytes)
front_bytes zero bytes fits = tt
front_bytes (suc n) [] fits = tt
front_bytes (suc n) (byte ∷ bytes) fits = (fits 0, front_bytes n bytes (λ i. fits (suc i)))
