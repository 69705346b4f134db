use Rattle.std.proofs.Common.{rules, ◌^◌, ◌≤◌, arith}
use Rattle.std.proofs.Math.Nat.{pow-le-pow_right}
use Rattle.exi_spec.specs.Bits.{bits_of}
use Rattle.exi_bits.proofs.Held.{held_on, held_taken}
use Rattle.exi_bits.proofs.window.BitWindow.take_bits.Goals as goal

pub overflow_cast-value-2 : goal.overflow_cast-value-2
overflow_cast-value-2 c =
    let below = (held_taken (bits_of c.self.inside.payload.now) c.self.inside.place c.self.inside.held c.self.inside.word c.args.n c.if-self-n.false c.self.invariant.2 c.self.invariant.3 (search rules)).1.range in
    let within : 2 ^ c.args.n ≤ 2 ^ 32 = pow-le-pow_right {n = 2} (omega arith) {i = c.args.n} {j = 32} c.requires in
    omega (arith, below, within)

pub invariant_of-self : goal.invariant_of-self
invariant_of-self c = (
  c.self.invariant.0,
  omega (arith, c.self.invariant.1, c.if-self-n.false),
  omega (arith, c.self.invariant.2),
  held_on (bits_of c.self.inside.payload.now) c.self.inside.place c.self.inside.held c.self.inside.word c.args.n c.if-self-n.false c.self.invariant.2 c.self.invariant.3,
)

pub returns-clause-taken : goal.returns-clause-taken
returns-clause-taken c = rw (← c.self.view_is) (held_taken (bits_of c.self.inside.payload.now) c.self.inside.place c.self.inside.held c.self.inside.word c.args.n c.if-self-n.false c.self.invariant.2 c.self.invariant.3 (search rules))
