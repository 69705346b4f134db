-- What doesn't fail.
use Rattle.std.proofs.Common.{Result, Ok, Err, refl}
use Rattle.std.specs.Result.{IsOk, IsErr}

pub is_ok : {T E : Type 0} (r : Result T E) → (IsErr r → ⊥) → IsOk r
is_ok (Ok x) none = refl
is_ok (Err e) none = absurd (none refl)
