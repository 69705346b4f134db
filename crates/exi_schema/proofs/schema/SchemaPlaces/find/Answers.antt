use Rattle.std.proofs.Common.{rules, IsTrue, arith}
use Rattle.exi_schema.specs.Offers.{offers}
use Rattle.exi_schema.specs.Told.{schema_of}
use Rattle.exi_schema.proofs.Finding.{later_still, nowhere}
use Rattle.exi_schema.proofs.schema.SchemaPlaces.find.Goals as goal

pub loop-code-preserved : goal.loop-code-preserved
loop-code-preserved c =
    later_still (offers (schema_of c.args.self.now).kinds c.args.place) c.args.sought c.loop-code.code c.advance-step.result c.loop-code.invariant c.advance-step.ensures.taken
    (λ meant. let is : IsTrue c.is_sought.result = c.is_sought.ensures.1 meant in absurd (search (rules, is, c.if-is_sought.false)))

pub returns-clause-none : goal.returns-clause-none
returns-clause-none c = λ _ code step is meant.
    nowhere (offers (schema_of c.args.self.now).kinds c.args.place) c.args.sought c.loop-code.code c.loop-code.invariant (omega (arith, c.codes-codes.ensures.offered, c.loop-code-test.false)) code step is meant
