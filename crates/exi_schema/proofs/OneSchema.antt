-- Schemas that declare the same are one.
use Rattle.std.proofs.Common.{◌≡◌, ℕ, true, List, ap, subst, sym}
use Rattle.std.proofs.Math.Bool.{Bool-set}
use Rattle.exi_schema.specs.declared.tables.RootOf.{RootOf}
use Rattle.exi_schema.specs.Plain.{PlainKind}
use Rattle.exi_schema.specs.Schemas.{PlainSchema, is_schema}

abbrev made : (kinds : List PlainKind) (names : List (List ℕ)) (values : List (List (List ℕ))) (bits : ℕ) (roots : List RootOf) → is_schema kinds names values bits roots ≡ true → PlainSchema
made kinds names values bits roots fits = record { kinds = kinds; names = names; values = values; root_bits = bits; roots = roots; fits = fits }

abbrev IsOne : PlainSchema → List PlainKind → List (List ℕ) → List (List (List ℕ)) → ℕ → List RootOf → Type 0
IsOne t kinds names values bits roots = (fits : is_schema kinds names values bits roots ≡ true) → made kinds names values bits roots fits ≡ t

pub one_schema : (s t : PlainSchema) → s.kinds ≡ t.kinds → s.names ≡ t.names → s.values ≡ t.values → s.root_bits ≡ t.root_bits → s.roots ≡ t.roots → s ≡ t
one_schema s t kinds names values bits roots =
    let same : IsOne t t.kinds t.names t.values t.root_bits t.roots =
    λ fits. ap (λ (h : is_schema t.kinds t.names t.values t.root_bits t.roots ≡ true). made t.kinds t.names t.values t.root_bits t.roots h) (Bool-set _ _ fits t.fits) in
    let one = subst (λ (x : List RootOf). IsOne t t.kinds t.names t.values t.root_bits x) (sym roots) same in
    let two = subst (λ (x : ℕ). IsOne t t.kinds t.names t.values x s.roots) (sym bits) one in
    let three = subst (λ (x : List (List (List ℕ))). IsOne t t.kinds t.names x s.root_bits s.roots) (sym values) two in
    let four = subst (λ (x : List (List ℕ)). IsOne t t.kinds x s.values s.root_bits s.roots) (sym names) three in
    let five = subst (λ (x : List PlainKind). IsOne t x s.names s.values s.root_bits s.roots) (sym kinds) four in
    five s.fits
