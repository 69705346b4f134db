use Rattle.std.proofs.Common.{refl, ap, ◌∙◌, arith, rules}
use Rattle.std.proofs.lemmas.Result.{err_from_is_err_and}
use Rattle.std.proofs.lemmas.Int.{to_z-of_z}
use Rattle.std.specs.Int.{w64, w128}
use Rattle.exi_bits.specs.declared.span.SpanAt.{SpanAt}
use Rattle.exi_values.specs.Table.{Table}
use Rattle.exi_reading.specs.declared.reader.PayloadReader.TheInside.{Inside}
use Rattle.exi_schema.specs.declared.tables.Datatype.TheVariants.{Bool, Named, Bounded, Unsigned, Signed, Binary, Text}
use Rattle.exi_values.specs.declared.Value.TheVariants as value
use Rattle.exi_reading.proofs.Values.{takes_too, unsigned_takes, signed_takes, bounded_takes, signed_refused, value_ok, value_refused}
use Rattle.exi_reading.proofs.reader.PayloadReader.take_value.Goals as goal
use Rattle.exi_reading.proofs.reader.PayloadReader.take_value.Goals.{in-Bool+in_ok-take_truth-in-Bool, in-Named+in_ok-take_code-in-Named, in-Bounded+in_ok-take_bounded-in-Bounded, in-Unsigned+in_ok-value-in-Unsigned, in-Signed+in_ok-take_signed-in-Signed, in-Binary+in_ok-take_binary-in-Binary, in-Text+in_ok-text-in-Text}

pub returns-in_err-value-in-Unsigned-clause-refused : goal.returns-in_err-value-in-Unsigned-clause-refused
returns-in_err-value-in-Unsigned-clause-refused c =
    let p = err_from_is_err_and c.from_residual-in_err-value-in-Unsigned.result c.from_residual-in_err-value-in-Unsigned.ensures.1 in
    rw (p.1, p.2) (value_refused c.args.datatype (Unsigned c.in-Unsigned.most) c.args.table.now.entries c.args.name _ _ _ c.in-Unsigned.is c.self.view_is
    (0, (c.in_err-value-in-Unsigned.ensures.refused, refl), omega (arith, c.in_err-value-in-Unsigned.ensures.at)))

pub returns-in_err-take_signed-in-Signed-clause-refused : goal.returns-in_err-take_signed-in-Signed-clause-refused
returns-in_err-take_signed-in-Signed-clause-refused c =
    let p = err_from_is_err_and c.from_residual-in_err-take_signed-in-Signed.result c.from_residual-in_err-take_signed-in-Signed.ensures.1 in
    rw (p.1, p.2) (value_refused c.args.datatype (Signed c.in-Signed.least c.in-Signed.most) c.args.table.now.entries c.args.name _ _ _ c.in-Signed.is c.self.view_is
    (signed_refused c.in-Signed.least c.in-Signed.most _ _ _ _ (to_z-of_z w64 c.in-Signed.least (search rules)) (to_z-of_z w64 c.in-Signed.most (search rules)) c.in_err-take_signed-in-Signed.ensures.refused))

pub returns-in_err-take_binary-in-Binary-clause-refused : goal.returns-in_err-take_binary-in-Binary-clause-refused
returns-in_err-take_binary-in-Binary-clause-refused c =
    let p = err_from_is_err_and c.from_residual-in_err-take_binary-in-Binary.result c.from_residual-in_err-take_binary-in-Binary.ensures.1 in
    rw (p.1, p.2) (value_refused c.args.datatype (Binary c.in-Binary.most) c.args.table.now.entries c.args.name _ _ _ c.in-Binary.is c.self.view_is
    c.in_err-take_binary-in-Binary.ensures.refused)

pub returns-in_err-text-in-Text-clause-refused : goal.returns-in_err-text-in-Text-clause-refused
returns-in_err-text-in-Text-clause-refused c =
    let p = err_from_is_err_and c.from_residual-in_err-text-in-Text.result c.from_residual-in_err-text-in-Text.ensures.1 in
    rw (p.1, p.2) (value_refused c.args.datatype (Text c.in-Text.most) c.args.table.now.entries c.args.name _ _ _ c.in-Text.is c.self.view_is
    c.in_err-text-in-Text.ensures.refused)

pub returns-clause-ok : goal.returns-clause-ok
returns-clause-ok c =
    elim c.match-datatype.branch [
      | in-Bool+in_ok-take_truth-in-Bool w ↦
          value_ok c.args.datatype (Bool) (value.Bool w.in_ok-take_truth-in-Bool.field-0) c.args.table.now.entries c.args.table.now.entries _ c.args.name _ _ _ _ c.match-datatype.result w.in-Bool.is w.result-is c.self.view_is
          (ap (λ (t : Table SpanAt). t.entries) w.table-is) (ap (λ (i : Inside). i.cursor) w.self-inside-is)
          (takes_too _ _ _ _ (λ bits s. (s, refl)) w.in_ok-take_truth-in-Bool.ensures.ok)
      | in-Named+in_ok-take_code-in-Named w ↦
          value_ok c.args.datatype (Named w.in-Named.count) (value.Ordinal w.in_ok-take_code-in-Named.field-0) c.args.table.now.entries c.args.table.now.entries _ c.args.name _ _ _ _ c.match-datatype.result w.in-Named.is w.result-is c.self.view_is
          (ap (λ (t : Table SpanAt). t.entries) w.table-is) (ap (λ (i : Inside). i.cursor) w.self-inside-is)
          (takes_too _ _ _ _ (λ bits s. (s, refl)) w.in_ok-take_code-in-Named.ensures.ok)
      | in-Bounded+in_ok-take_bounded-in-Bounded w ↦
          value_ok c.args.datatype (Bounded w.in-Bounded.least w.in-Bounded.count) (value.Number _) c.args.table.now.entries c.args.table.now.entries _ c.args.name _ _ _ _ c.match-datatype.result w.in-Bounded.is w.result-is c.self.view_is
          (ap (λ (t : Table SpanAt). t.entries) w.table-is) (ap (λ (i : Inside). i.cursor) w.self-inside-is)
          (bounded_takes w.in-Bounded.least _ w.in_ok-take_bounded-in-Bounded.field-0 _ _ c.args.name _ _ _ (to_z-of_z w64 w.in-Bounded.least (search rules))
          (to_z-of_z w128 w.in_ok-take_bounded-in-Bounded.field-0 (search rules)) w.in_ok-take_bounded-in-Bounded.ensures.ok)
      | in-Unsigned+in_ok-value-in-Unsigned w ↦
          value_ok c.args.datatype (Unsigned w.in-Unsigned.most) (value.Number _) c.args.table.now.entries c.args.table.now.entries _ c.args.name _ _ _ _ c.match-datatype.result w.in-Unsigned.is w.result-is c.self.view_is
          (ap (λ (t : Table SpanAt). t.entries) w.table-is) (ap (λ (i : Inside). i.cursor) w.self-inside-is)
          (unsigned_takes w.in-Unsigned.most w.in_ok-value-in-Unsigned.value c.args.name _ _ _ _ (to_z-of_z w128 w.from.result (search rules) ∙ w.from.ensures) w.in_ok-value-in-Unsigned.ensures.range w.in_ok-value-in-Unsigned.ensures.ok)
      | in-Signed+in_ok-take_signed-in-Signed w ↦
          value_ok c.args.datatype (Signed w.in-Signed.least w.in-Signed.most) (value.Number _) c.args.table.now.entries c.args.table.now.entries _ c.args.name _ _ _ _ c.match-datatype.result w.in-Signed.is w.result-is c.self.view_is
          (ap (λ (t : Table SpanAt). t.entries) w.table-is) (ap (λ (i : Inside). i.cursor) w.self-inside-is)
          (signed_takes w.in-Signed.least w.in-Signed.most _ _ w.in_ok-take_signed-in-Signed.field-0 _ c.args.name _ _ _ (to_z-of_z w64 w.in-Signed.least (search rules)) (to_z-of_z w64 w.in-Signed.most (search rules))
          (to_z-of_z w128 w.in_ok-take_signed-in-Signed.field-0 (search rules)) w.in_ok-take_signed-in-Signed.ensures.low w.in_ok-take_signed-in-Signed.ensures.high w.in_ok-take_signed-in-Signed.ensures.ok)
      | in-Binary+in_ok-take_binary-in-Binary w ↦
          value_ok c.args.datatype (Binary w.in-Binary.most) (value.Binary w.in_ok-take_binary-in-Binary.field-0) c.args.table.now.entries c.args.table.now.entries _ c.args.name _ _ _ _ c.match-datatype.result w.in-Binary.is w.result-is c.self.view_is
          (ap (λ (t : Table SpanAt). t.entries) w.table-is) (ap (λ (i : Inside). i.cursor) w.self-inside-is)
          (takes_too _ _ _ _ (λ bits s. (w.in_ok-take_binary-in-Binary.ensures.range, s, refl)) w.in_ok-take_binary-in-Binary.ensures.ok)
      | in-Text+in_ok-text-in-Text w ↦
          value_ok c.args.datatype (Text w.in-Text.most) (value.Text w.in_ok-text-in-Text.text) c.args.table.now.entries w.take_text.new.table.entries _ c.args.name _ _ _ _ c.match-datatype.result w.in-Text.is w.result-is c.self.view_is
          (ap (λ (t : Table SpanAt). t.entries) w.table-is) (ap (λ (i : Inside). i.cursor) w.self-inside-is)
          (takes_too _ _ _ _ (λ bits s. (s, w.in_ok-text-in-Text.ensures.few)) w.in_ok-text-in-Text.ensures.ok)
    ]
