-- A fact of an outcome from another.
use Rattle.std.specs.Prelude.{Result, Ok, Err, IfOk, IfErr}

pub ok_to : {T E : Type 0} (r : Result T E) (P Q : T → Type 0) → ((x : T) → P x → Q x) → IfOk r P → IfOk r Q
ok_to (Ok x) P Q f h = f x h
ok_to (Err e) P Q f h = tt

pub err_to : {T E : Type 0} (r : Result T E) (P Q : E → Type 0) → ((x : E) → P x → Q x) → IfErr r P → IfErr r Q
err_to (Ok x) P Q f h = tt
err_to (Err e) P Q f h = f e h
