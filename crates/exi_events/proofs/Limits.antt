-- Document numbers and event codes have at most 32 bits.
use Rattle.std.proofs.Common.{ℕ, ◌<◌, ◌≤◌, nat_le, List, length, arith}
use Rattle.std.proofs.lemmas.Bool.{leb-true}
use Rattle.std.specs.List.{list_all}
use Rattle.exi_schema.specs.Schemas.{PlainSchema, are_kinds, are_roots, are_words, are_values, is_root}
use Rattle.exi_schema.specs.Offers.{IsWidth}
use Rattle.exi_schema.proofs.Conditions.{and-l, and-r}

pub few_root_bits : (s : PlainSchema) → s.root_bits ≤ 32
few_root_bits s =
    let texts : List (List ℕ) = s.names in
    let two = and-l _ (are_words texts) (and-l _ (are_values s.kinds s.values) s.fits) in
    let rooted = and-r (are_kinds (length texts) s.kinds) (are_roots s.root_bits (length texts) s.kinds s.roots) two in
    let three = and-l _ _ (and-l _ _ rooted) in
    let bits = and-r (nat_le 1 (length s.roots)) (nat_le s.root_bits 32) (and-l _ (list_all (is_root s.root_bits (length texts) s.kinds) s.roots) three) in
    leb-true s.root_bits 32 bits

pub few_code_bits : (n width : ℕ) → IsWidth n width → n < 65536 → width ≤ 32
few_code_bits n width is few = let low : width ≤ 16 = is.least 16 (omega (arith, few)) in omega (arith, low)

pub code_width : (n width : ℕ) → IsWidth n width → n < 65536 → width ≤ 16
code_width n width is few = is.least 16 (omega (arith, few))
