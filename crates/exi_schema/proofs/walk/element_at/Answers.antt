use Rattle.std.proofs.Common.{◌∙◌, ap, Some, arith}
use Rattle.exi_schema.proofs.TablesTell.{found_in, passed_in}
use Rattle.exi_schema.proofs.walk.element_at.Goals as goal

pub loop-at-preserved : goal.loop-at-preserved
loop-at-preserved c =
    let r = passed_in c.args.here c.args.attributes c.loop-at.at c.loop-at.copies c.loop-at.left c.args.particles.now _ (omega arith) c.if-left-particle.false c.loop-at.invariant.0 in (r.0, r.1 ∙ c.loop-at.invariant.1)

pub returns-then-left-particle : goal.returns-then-left-particle
returns-then-left-particle c =
    ap Some c.element_step.ensures ∙ found_in c.args.here c.args.attributes c.loop-at.at c.loop-at.copies c.loop-at.left c.args.particles.now _ _ (omega arith) c.if-left-particle.true ∙ c.loop-at.invariant.1
