use Rattle.std.proofs.Common.{arith}
use Rattle.exi_tables.proofs.Offered.{few_offers}
use Rattle.exi_tables.proofs.compiled.RowsPlaces.codes.Goals as goal

pub overflow_cast-result : goal.overflow_cast-result
overflow_cast-result g c = let few = few_offers g.D.Declared.schema c.args.place c.requires in grind (arith, few)
