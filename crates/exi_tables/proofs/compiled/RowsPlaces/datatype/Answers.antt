use Rattle.std.proofs.Common.{arith}
use Rattle.exi_tables.proofs.Reading.{table_of}
use Rattle.exi_tables.proofs.compiled.RowsPlaces.datatype.Goals as goal

pub returns : goal.returns
returns g c =
    (table_of g.D.Declared.schema c.args.kind c.self.inside.kinds.items c.index.result.now c.requires (omega arith) c.self.invariant.0 c.index.ensures).datatype
