use Rattle.std.proofs.Common.{arith}
use Rattle.exi_schema.proofs.Widths.{told_width}
use Rattle.exi_schema.proofs.walk.width_for.Goals as goal

pub returns : goal.returns
returns c = told_width c.args.n (omega (arith, c.requires))
