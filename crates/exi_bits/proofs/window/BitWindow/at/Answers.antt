use Rattle.std.proofs.Common.{◌≡◌, ◌+◌, ◌-◌, ◌*◌, ◌<◌, arith}
use Rattle.exi_spec.proofs.BitLaws.{length-bits_of}
use Rattle.exi_bits.proofs.Held.{loaded}
use Rattle.exi_bits.proofs.window.BitWindow.at.Goals as goal

pub invariant_of-result : goal.invariant_of-result
invariant_of-result c =
    let passed : c.args.place - 8 * c.min-first.result < 64 = omega (arith, c.if-passed-ge64.false) in
    let place_is : c.args.place ≡ 8 * c.min-first.result + (c.args.place - 8 * c.min-first.result) = omega (arith, c.min-first.ensures) in (
      c.requires.room,
      omega (arith, passed, c.in_ok-word.ensures.within),
      omega arith,
      loaded c.args.payload.now c.min-first.result c.in_ok-word.word c.args.place _ c.in_ok-word.ensures.within c.in_ok-word.ensures.spelled place_is passed,
    )

pub returns-clause-held : goal.returns-clause-held
returns-clause-held c = grind (arith, length-bits_of c.args.payload.now)
