use Rattle.std.proofs.Common.{ℕ, length, ap, ◌∙◌, arith, rules}
use Rattle.std.proofs.lemmas.Int.{to_z-of_z}
use Rattle.std.specs.Int.{w128}
use Rattle.exi_spec.specs.Items.{shortest_unsigned}
use Rattle.exi_bits.specs.Pens.{written_bits}
use Rattle.exi_reading.specs.Meaning.{texts_in}
use Rattle.exi_writing.proofs.LengthLaws.{truth_bits, ordinal_bits, number_bits_of, bytes_bits, same_long}
use Rattle.exi_writing.proofs.needed.value_bits.Goals as goal

pub returns-in-Bool-clause-bits : goal.returns-in-Bool-clause-bits
returns-in-Bool-clause-bits c = truth_bits c.args.datatype (texts_in (written_bits c.args.pen.now) c.args.table.now.entries) c.args.name c.in-Bool.field-0 c.args.value.now c.in-Bool.is c.requires.value

pub returns-in-Ordinal-clause-bits : goal.returns-in-Ordinal-clause-bits
returns-in-Ordinal-clause-bits c =
    same_long _ c.ordinal_bits.result _ c.from.ensures
    (ordinal_bits c.args.datatype (texts_in (written_bits c.args.pen.now) c.args.table.now.entries) c.args.name c.in-Ordinal.ordinal c.ordinal_bits.result c.args.value.now c.in-Ordinal.is c.ordinal_bits.ensures.bits)

pub returns-in-Number-clause-bits : goal.returns-in-Number-clause-bits
returns-in-Number-clause-bits c =
    same_long _ c.number_bits.result _ c.from-in-Number.ensures
    (number_bits_of c.args.datatype (texts_in (written_bits c.args.pen.now) c.args.table.now.entries) c.args.name c.number_bits.result _ c.in-Number.number c.args.value.now c.in-Number.is (to_z-of_z w128 c.in-Number.number (search rules)) c.number_bits.ensures.bits)

pub returns-in-Binary-clause-bits : goal.returns-in-Binary-clause-bits
returns-in-Binary-clause-bits c =
    bytes_bits c.args.datatype (texts_in (written_bits c.args.pen.now) c.args.table.now.entries) c.args.name c.unsigned_bits.result _ c.in-Binary.span c.args.value.now c.in-Binary.is c.requires.value
    (c.unsigned_bits.ensures.bits ∙ ap (λ (n : ℕ). length (shortest_unsigned n)) (c.from-in-Binary.ensures ∙ c.len.ensures.items))
    (omega (arith, c.from-in-Binary-2.ensures, c.from-in-Binary-3.ensures, c.len-in-Binary.ensures.items))
