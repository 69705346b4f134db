use Rattle.std.proofs.Common.{arith, ◌∙◌}
use Rattle.exi_schema.specs.Sequences.{IsOptionalSequence}
use Rattle.exi_tables.proofs.OptionalSequenced.{lent_is}
use Rattle.exi_tables.proofs.Reading.{table_of}
use Rattle.exi_tables.proofs.compiled.RowsPlaces.optional_sequence.Goals as goal

pub returns-clause-tells : goal.returns-clause-tells
returns-clause-tells g c =
    let s = g.D.Declared.schema in
    let table = table_of s c.args.kind c.self.inside.kinds.items c.index.result.now c.requires (omega arith) c.self.invariant.0 c.index.ensures in
    lent_is c.as_ref.result (IsOptionalSequence s.kinds (record { kind = c.args.kind; particle = 0; copies = 0; attributes = 0 })) _ c.as_ref.ensures.value table.optional

pub returns-clause-whole : goal.returns-clause-whole
returns-clause-whole g c = λ _ all is.
    let s = g.D.Declared.schema in
    let table = table_of s c.args.kind c.self.inside.kinds.items c.index.result.now c.requires (omega arith) c.self.invariant.0 c.index.ensures in
    c.as_ref.ensures.value ∙ table.each_optional all is
