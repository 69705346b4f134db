use Rattle.std.proofs.Common.{◌≡◌, ℕ, ◌^◌, ◌<◌, false, refl, get_or, subst, arith}
use Rattle.exi_spec.specs.Bits.{number_of}
use Rattle.exi_spec.proofs.PlaceLaws.{number_of_take-lt, doubled_fits}
use Rattle.exi_spec.proofs.PlainSteps.{number_more, bool_byte-le}
use Rattle.exi_spec.proofs.plain.octet_of.Goals as goal

pub loop-bit-init : goal.loop-bit-init
unfolding number_of
loop-bit-init c = refl

pub overflow_mul-value : goal.overflow_mul-value
overflow_mul-value c =
    let below : c.loop-bit.value < 2 ^ c.loop-bit.bit-index = rw c.loop-bit.invariant (number_of_take-lt c.loop-bit.bit-index c.args.bits.now) in
    let fits = doubled_fits c.loop-bit.bit-index 8 c.loop-bit.value (omega (arith, c.loop-bit-test.true, c.requires)) (omega arith) below in
    omega (arith, fits)

pub overflow_add-value : goal.overflow_add-value
overflow_add-value c =
    let below : c.loop-bit.value < 2 ^ c.loop-bit.bit-index = rw c.loop-bit.invariant (number_of_take-lt c.loop-bit.bit-index c.args.bits.now) in
    let fits = doubled_fits c.loop-bit.bit-index 8 c.loop-bit.value (omega (arith, c.loop-bit-test.true, c.requires)) (omega arith) below in
    omega (arith, fits, c.from.ensures, bool_byte-le (get_or c.args.bits.now c.loop-bit.bit-index false))

pub loop-bit-preserved : goal.loop-bit-preserved
loop-bit-preserved c = number_more c.args.bits.now c.loop-bit.bit-index c.loop-bit.value c.from.result c.loop-bit-test.true c.from.ensures c.loop-bit.invariant

pub returns-clause-range : goal.returns-clause-range
returns-clause-range c =
    let below : c.loop-bit.value < 2 ^ c.loop-bit.bit-index = rw c.loop-bit.invariant (number_of_take-lt c.loop-bit.bit-index c.args.bits.now) in
    let last : c.loop-bit.bit-index ≡ 8 = omega (arith, c.requires) in
    let P : ℕ → Type 0 = λ k. c.loop-bit.value < 2 ^ k in
    subst P last below
