use Rattle.std.proofs.Common.{List, subst, sym, arith}
use Rattle.exi_schema.specs.declared.places.SequenceChild.{SequenceChild}
use Rattle.exi_schema.specs.Sequences.{TellsSequence, KeepsSequence}
use Rattle.exi_tables.proofs.Reading.{table_of}
use Rattle.exi_tables.proofs.compiled.RowsPlaces.sequence.Goals as goal

pub returns-clause-tells : goal.returns-clause-tells
returns-clause-tells g c =
    let s = g.D.Declared.schema in
    let table = table_of s c.args.kind c.self.inside.kinds.items c.index.result.now c.requires (omega arith) c.self.invariant.0 c.index.ensures in
    let Tells : List SequenceChild → Type 0 = λ l. TellsSequence s.kinds (record { kind = c.args.kind; particle = 0; copies = 0; attributes = 0 }) l in
    subst Tells (sym c.as_slice.ensures.value) table.sequence

pub returns-clause-whole : goal.returns-clause-whole
returns-clause-whole g c = λ _.
    let s = g.D.Declared.schema in
    let table = table_of s c.args.kind c.self.inside.kinds.items c.index.result.now c.requires (omega arith) c.self.invariant.0 c.index.ensures in
    let Keeps : List SequenceChild → Type 0 = λ l. KeepsSequence s.kinds (record { kind = c.args.kind; particle = 0; copies = 0; attributes = 0 }) l in
    subst Keeps (sym c.as_slice.ensures.value) table.whole
