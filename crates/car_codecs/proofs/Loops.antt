-- The loop that looks for a SchemaID.
use Rattle.std.proofs.Common.{◌≡◌, ℕ, suc, ◌+◌, ◌<◌, ◌==◌, Bool, true, false, if◌then◌else◌, List, length, drop, get_or, Option, Some, refl, ◌∙◌, ap, subst, arith}
use Rattle.std.proofs.Math.Seq.{drop-cons}
use Rattle.std.proofs.lemmas.Bool.{ne_eqb}
use Rattle.charge_world.specs.declared.offer.Dialect.{Dialect}
use Rattle.car_codec_laws.specs.Responding.{named_from}

skipped : (b : Bool) (x : Dialect) (rest : Option Dialect) → b ≡ false → (if b then Some x else rest) ≡ rest
skipped true x rest is = absurd (cc)
skipped false x rest is = refl

pub named_more : (place : ℕ) (ds : List Dialect) (i schema : ℕ) (d : Dialect) → i < length ds → (schema ≡ place → ⊥)
    → named_from place (drop i ds) schema ≡ named_from (place + 1) (drop (i + 1) ds) schema
named_more place ds i schema d lt other =
    let next : suc i ≡ i + 1 = omega arith in
    subst (λ (n : ℕ). named_from place (drop i ds) schema ≡ named_from (place + 1) (drop n ds) schema) next
    (ap (λ (xs : List Dialect). named_from place xs schema) (drop-cons ds i d lt)
    ∙ skipped (schema == place) (get_or ds i d) (named_from (place + 1) (drop (suc i) ds) schema) (ne_eqb schema place other))
