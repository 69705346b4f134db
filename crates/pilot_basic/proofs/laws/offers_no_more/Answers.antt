use Rattle.std.proofs.Common.{arith}
use Rattle.pilot_basic.proofs.laws.offers_no_more.Goals as goal

pub returns-clause-one : goal.returns-clause-one
returns-clause-one c = λ amps d other a b. omega (arith, a.greatest other b.allowed, b.greatest d a.allowed)
