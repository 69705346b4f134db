use Rattle.std.proofs.Common.{◌≡◌, ℕ, true, List, ap, sym, subst, ◌∙◌}
use Rattle.std.proofs.Math.Bool.{Bool-set}
use Rattle.exi_schema.specs.Plain.{PlainKind}
use Rattle.exi_schema.specs.Schemas.{PlainSchema, is_schema}
use Rattle.din_schema.specs.Declarations.{kinds, names, values, roots, schema_fits, schema}

-- tables that tell the declarations meet the conditions
pub fits : (ks : List PlainKind) (ns : List (List ℕ)) (vs : List (List (List ℕ))) → ks ≡ kinds → ns ≡ names → vs ≡ values → is_schema ks ns vs 7 roots ≡ true
fits ks ns vs k n v =
    ap (λ x. is_schema x ns vs 7 roots) k ∙ ap (λ x. is_schema kinds x vs 7 roots) n ∙ ap (λ x. is_schema kinds names x 7 roots) v ∙ schema_fits

abbrev pub telling : (ks : List PlainKind) (ns : List (List ℕ)) (vs : List (List (List ℕ))) → is_schema ks ns vs 7 roots ≡ true → PlainSchema
telling ks ns vs p = record { kinds = ks; names = ns; values = vs; root_bits = 7; roots = roots; fits = p }

abbrev pub Tells : List PlainKind → List (List ℕ) → List (List (List ℕ)) → Type 0
Tells ks ns vs = (p : is_schema ks ns vs 7 roots ≡ true) → telling ks ns vs p ≡ schema

declared : Tells kinds names values
declared p =
    ap (telling kinds names values) (Bool-set (is_schema kinds names values 7 roots) true p schema_fits)

-- and tell the schema
pub same : (ks : List PlainKind) (ns : List (List ℕ)) (vs : List (List (List ℕ))) → ks ≡ kinds → ns ≡ names → vs ≡ values → Tells ks ns vs
same ks ns vs k n v =
    subst (λ x. Tells x ns vs) (sym k) (subst (λ x. Tells kinds x vs) (sym n) (subst (λ x. Tells kinds names x) (sym v) declared))
