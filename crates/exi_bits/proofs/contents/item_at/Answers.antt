use Rattle.std.proofs.Common.{◌≡◌, ℕ, ◌+◌, ◌-◌, Bool, true, false, ◌∷◌, drop, sym, subst, arith}
use Rattle.std.proofs.lemmas.List.{length-drop}
use Rattle.exi_spec.specs.Bits.{bits_of}
use Rattle.exi_spec.proofs.BitLaws.{length-bits_of}
use Rattle.exi_bits.specs.Lent.{items_in}
use Rattle.exi_bits.proofs.Items.{text_not_refused, first_of_text, rest_of_text, binary_long, first_of_binary, rest_of_binary, as_kind}
use Rattle.exi_bits.proofs.contents.item_at.Goals as goal

pub unreachable-requires : goal.unreachable-requires
unreachable-requires c =
    let bits = bits_of c.args.payload.now in
    text_not_refused bits c.args.bit c.args.n c.in-Err.field-0 c.requires.some (as_kind c.args.is_text true bits c.args.bit c.args.n c.if-is_text.true c.requires.spelled) c.in-Err.ensures.found

pub unreachable-requires-in-None : goal.unreachable-requires-in-None
unreachable-requires-in-None c =
    let bits = bits_of c.args.payload.now in
    let left = binary_long bits c.args.bit c.args.n (as_kind c.args.is_text false bits c.args.bit c.args.n c.if-is_text.false c.requires.spelled) in
    omega (arith, left, length-drop c.args.bit bits, length-bits_of c.args.payload.now, c.in-None.ensures, c.requires.some)

pub returns-in-Ok-clause-first : goal.returns-in-Ok-clause-first
returns-in-Ok-clause-first c =
    let bits = bits_of c.args.payload.now in
    let span = as_kind c.args.is_text true bits c.args.bit c.args.n c.if-is_text.true c.requires.spelled in
    subst (λ (k : Bool). items_in k c.args.n (drop c.args.bit bits) ≡ c.from.result ∷ items_in k (c.args.n - 1) (drop (c.args.bit + c.in-Ok.bits) bits)) (sym c.if-is_text.true)
    (subst (λ (x : ℕ). items_in true c.args.n (drop c.args.bit bits) ≡ x ∷ items_in true (c.args.n - 1) (drop (c.args.bit + c.in-Ok.bits) bits)) (sym c.from.ensures)
    (first_of_text bits c.args.bit c.args.n c.in-Ok.bits c.in-Ok.c c.requires.some span c.in-Ok.ensures.found))

pub returns-in-Ok-clause-rest : goal.returns-in-Ok-clause-rest
returns-in-Ok-clause-rest c =
    let bits = bits_of c.args.payload.now in
    let span = as_kind c.args.is_text true bits c.args.bit c.args.n c.if-is_text.true c.requires.spelled in
    as_kind true c.args.is_text bits (c.args.bit + c.in-Ok.bits) (c.args.n - 1) (sym c.if-is_text.true)
    (rest_of_text bits c.args.bit c.args.n c.in-Ok.bits c.in-Ok.c c.requires.some span c.in-Ok.ensures.found)

pub returns-in-Some-clause-first : goal.returns-in-Some-clause-first
returns-in-Some-clause-first c =
    let bits = bits_of c.args.payload.now in
    subst (λ (k : Bool). items_in k c.args.n (drop c.args.bit bits) ≡ c.in-Some.byte ∷ items_in k (c.args.n - 1) (drop (c.args.bit + 8) bits)) (sym c.if-is_text.false)
    (first_of_binary bits c.args.bit c.args.n c.in-Some.byte c.requires.some c.in-Some.ensures.0 c.in-Some.ensures.2)

pub returns-in-Some-clause-rest : goal.returns-in-Some-clause-rest
returns-in-Some-clause-rest c =
    let bits = bits_of c.args.payload.now in
    as_kind false c.args.is_text bits (c.args.bit + 8) (c.args.n - 1) (sym c.if-is_text.false)
    (rest_of_binary bits c.args.bit c.args.n c.requires.some (omega (arith, length-bits_of c.args.payload.now, c.requires.within))
    (as_kind c.args.is_text false bits c.args.bit c.args.n c.if-is_text.false c.requires.spelled))
