use Rattle.std.proofs.Common.{◌≡◌, ◌∷◌, [], ◌++◌, length, refl, ap, subst, rules}
use Rattle.std.proofs.lemmas.Result.{on_ok_weaker, on_err_weaker}
use Rattle.std.proofs.lemmas.Int.{to_z-of_z}
use Rattle.std.specs.Int.{w128}
use Rattle.std.specs.Str.{chars}
use Rattle.exi_spec.specs.Bits.{bits_of}
use Rattle.exi_spec.specs.Items.{shortest_unsigned}
use Rattle.exi_bits.specs.Lent.{items_of}
use Rattle.exi_bits.specs.Pens.{written_bits}
use Rattle.exi_reading.specs.Trees.{Truth, Ordinal, Number, Bytes, Text}
use Rattle.exi_reading.specs.Values.{IsValue, Entries}
use Rattle.exi_reading.specs.Meaning.{texts_in, value_of}
use Rattle.exi_reading.specs.Value.{Value}
use Rattle.exi_reading.specs.Value.TheVariants as value
use Rattle.exi_writing.specs.Entering.{WritesTextInto}
use Rattle.exi_writing.specs.Writing.{WritesPlain}
use Rattle.exi_writing.proofs.Pens.{on_err, more_of}
use Rattle.exi_writing.proofs.Strings.{are_kept}
use Rattle.exi_writing.proofs.Whole.{truth_written, ordinal_written, number_written, bytes_written, text_written, value_puts, text_puts, full_exactly}
use Rattle.exi_writing.proofs.value.put_parts.Goals as goal

-- ---- a Boolean

pub returns-in-Bool-clause-ok : goal.returns-in-Bool-clause-ok
returns-in-Bool-clause-ok c =
    on_ok_weaker c.put_bit.result
    (λ w. value_puts c.args.datatype c.args.value.now (value.Bool c.in-Bool.truth) c.args.table.now.entries c.args.name c.args.pen.now c.put_bit.new.self
    (λ bits. bits ≡ c.in-Bool.truth ∷ []) c.in-Bool.is c.requires.texts
    (λ bits is. truth_written c.args.datatype _ c.args.name c.in-Bool.truth bits (subst (λ (v : Value). IsValue c.args.datatype (value_of v)) c.in-Bool.is c.requires.value) is)
    (c.in-Bool.truth ∷ [], refl, w))
    c.put_bit.ensures.ok

pub returns-in-Bool-clause-texts : goal.returns-in-Bool-clause-texts
returns-in-Bool-clause-texts c =
    are_kept c.args.pen.now c.put_bit.new.self c.args.table.now.entries
    (more_of c.put_bit.result (λ bits. bits ≡ c.in-Bool.truth ∷ []) _ _ (on_ok_weaker c.put_bit.result (λ w. (c.in-Bool.truth ∷ [], refl, w)) c.put_bit.ensures.ok) c.put_bit.ensures.stays)
    c.requires.texts

pub returns-in-Bool-clause-full : goal.returns-in-Bool-clause-full
returns-in-Bool-clause-full c =
    full_exactly c.put_bit.result c.args.datatype (texts_in (written_bits c.args.pen.now) c.args.table.now.entries) c.args.name (value_of c.args.value.now) (Truth c.in-Bool.truth) c.args.pen.now c.put_bit.new.self
    (λ bits. bits ≡ c.in-Bool.truth ∷ []) (ap value_of c.in-Bool.is)
    (λ bits is. (_, truth_written c.args.datatype _ c.args.name c.in-Bool.truth bits (subst (λ (v : Value). IsValue c.args.datatype (value_of v)) c.in-Bool.is c.requires.value) is))
    (on_ok_weaker c.put_bit.result (λ w. (c.in-Bool.truth ∷ [], refl, w)) c.put_bit.ensures.ok)
    (on_err c.put_bit.result _ (λ err. (c.in-Bool.truth ∷ [], refl, c.put_bit.ensures.full.0 err)))

-- ---- an ordinal

pub returns-in-Ordinal-clause-ok : goal.returns-in-Ordinal-clause-ok
returns-in-Ordinal-clause-ok c =
    on_ok_weaker c.put_ordinal.result
    (value_puts c.args.datatype c.args.value.now (value.Ordinal c.in-Ordinal.ordinal) c.args.table.now.entries c.args.name c.args.pen.now c.put_ordinal.new.pen
    (WritesPlain c.args.datatype (Ordinal c.in-Ordinal.ordinal)) c.in-Ordinal.is c.requires.texts
    (λ bits s. ordinal_written c.args.datatype _ c.args.name c.in-Ordinal.ordinal bits s))
    c.put_ordinal.ensures.ok

pub returns-in-Ordinal-clause-texts : goal.returns-in-Ordinal-clause-texts
returns-in-Ordinal-clause-texts c =
    are_kept c.args.pen.now c.put_ordinal.new.pen c.args.table.now.entries (more_of c.put_ordinal.result _ _ _ c.put_ordinal.ensures.ok c.put_ordinal.ensures.stays) c.requires.texts

pub returns-in-Ordinal-clause-full : goal.returns-in-Ordinal-clause-full
returns-in-Ordinal-clause-full c =
    full_exactly c.put_ordinal.result c.args.datatype (texts_in (written_bits c.args.pen.now) c.args.table.now.entries) c.args.name (value_of c.args.value.now) (Ordinal c.in-Ordinal.ordinal) c.args.pen.now c.put_ordinal.new.pen
    (WritesPlain c.args.datatype (Ordinal c.in-Ordinal.ordinal)) (ap value_of c.in-Ordinal.is)
    (λ bits s. (_, ordinal_written c.args.datatype _ c.args.name c.in-Ordinal.ordinal bits s))
    c.put_ordinal.ensures.ok c.put_ordinal.ensures.full

-- ---- an integer

pub returns-in-Number-clause-ok : goal.returns-in-Number-clause-ok
returns-in-Number-clause-ok c =
    on_ok_weaker c.put_number.result
    (value_puts c.args.datatype c.args.value.now (value.Number c.in-Number.number) c.args.table.now.entries c.args.name c.args.pen.now c.put_number.new.pen
    _ c.in-Number.is c.requires.texts
    (λ bits s. number_written c.args.datatype _ c.args.name _ c.in-Number.number bits (to_z-of_z w128 c.in-Number.number (search rules)) s))
    c.put_number.ensures.ok

pub returns-in-Number-clause-texts : goal.returns-in-Number-clause-texts
returns-in-Number-clause-texts c =
    are_kept c.args.pen.now c.put_number.new.pen c.args.table.now.entries (more_of c.put_number.result _ _ _ c.put_number.ensures.ok c.put_number.ensures.stays) c.requires.texts

pub returns-in-Number-clause-full : goal.returns-in-Number-clause-full
returns-in-Number-clause-full c =
    full_exactly c.put_number.result c.args.datatype (texts_in (written_bits c.args.pen.now) c.args.table.now.entries) c.args.name (value_of c.args.value.now) (Number c.in-Number.number) c.args.pen.now c.put_number.new.pen
    _ (ap value_of c.in-Number.is)
    (λ bits s. (_, number_written c.args.datatype _ c.args.name _ c.in-Number.number bits (to_z-of_z w128 c.in-Number.number (search rules)) s))
    c.put_number.ensures.ok c.put_number.ensures.full

-- ---- a Binary

pub returns-in-Binary-clause-ok : goal.returns-in-Binary-clause-ok
returns-in-Binary-clause-ok c =
    on_ok_weaker c.put_binary.result
    (λ w. value_puts c.args.datatype c.args.value.now (value.Binary c.in-Binary.span) c.args.table.now.entries c.args.name c.args.pen.now c.put_binary.new.pen
    (λ bits. bits ≡ shortest_unsigned (length (items_of c.in-Binary.span)) ++ bits_of (items_of c.in-Binary.span)) c.in-Binary.is c.requires.texts
    (λ bits is. bytes_written c.args.datatype _ c.args.name (items_of c.in-Binary.span) bits (subst (λ (v : Value). IsValue c.args.datatype (value_of v)) c.in-Binary.is c.requires.value) is)
    (shortest_unsigned (length (items_of c.in-Binary.span)) ++ bits_of (items_of c.in-Binary.span), refl, w))
    c.put_binary.ensures.ok

pub returns-in-Binary-clause-texts : goal.returns-in-Binary-clause-texts
returns-in-Binary-clause-texts c = are_kept c.args.pen.now c.put_binary.new.pen c.args.table.now.entries c.put_binary.ensures.more c.requires.texts

pub returns-in-Binary-clause-full : goal.returns-in-Binary-clause-full
returns-in-Binary-clause-full c =
    full_exactly c.put_binary.result c.args.datatype (texts_in (written_bits c.args.pen.now) c.args.table.now.entries) c.args.name (value_of c.args.value.now) (Bytes (items_of c.in-Binary.span)) c.args.pen.now c.put_binary.new.pen
    (λ bits. bits ≡ shortest_unsigned (length (items_of c.in-Binary.span)) ++ bits_of (items_of c.in-Binary.span)) (ap value_of c.in-Binary.is)
    (λ bits is. (_, bytes_written c.args.datatype _ c.args.name (items_of c.in-Binary.span) bits (subst (λ (v : Value). IsValue c.args.datatype (value_of v)) c.in-Binary.is c.requires.value) is))
    (on_ok_weaker c.put_binary.result (λ w. (shortest_unsigned (length (items_of c.in-Binary.span)) ++ bits_of (items_of c.in-Binary.span), refl, w)) c.put_binary.ensures.ok)
    (on_err_weaker c.put_binary.result (λ needs. (shortest_unsigned (length (items_of c.in-Binary.span)) ++ bits_of (items_of c.in-Binary.span), refl, needs)) c.put_binary.ensures.full)

-- ---- a text that is lent

pub returns-in-Text-clause-ok : goal.returns-in-Text-clause-ok
returns-in-Text-clause-ok c =
    on_ok_weaker c.put_text.result
    (text_puts c.args.datatype c.args.value.now (value.Text c.in-Text.span) c.args.table.now.entries c.put_text.new.table.entries c.args.name (items_of c.in-Text.span) c.args.pen.now c.put_text.new.pen
    c.in-Text.is refl c.requires.value)
    c.put_text.ensures.ok

pub returns-in-Text-clause-full : goal.returns-in-Text-clause-full
returns-in-Text-clause-full c =
    full_exactly c.put_text.result c.args.datatype (texts_in (written_bits c.args.pen.now) c.args.table.now.entries) c.args.name (value_of c.args.value.now) (Text (items_of c.in-Text.span)) c.args.pen.now c.put_text.new.pen
    (λ bits. (after : Entries) × WritesTextInto (texts_in (written_bits c.args.pen.now) c.args.table.now.entries) c.args.name (items_of c.in-Text.span) bits after) (ap value_of c.in-Text.is)
    (λ bits s. (s.0, text_written c.args.datatype _ _ c.args.name (items_of c.in-Text.span) bits (subst (λ (v : Value). IsValue c.args.datatype (value_of v)) c.in-Text.is c.requires.value) s.1))
    (on_ok_weaker c.put_text.result (λ p. (p.0, (_, p.1), p.2)) c.put_text.ensures.ok) c.put_text.ensures.full

-- ---- a text of the program

pub returns-in-Written-clause-ok : goal.returns-in-Written-clause-ok
returns-in-Written-clause-ok c =
    on_ok_weaker c.put_text-in-Written.result
    (text_puts c.args.datatype c.args.value.now (value.Written c.in-Written.text) c.args.table.now.entries c.put_text-in-Written.new.table.entries c.args.name (chars c.in-Written.text.now) c.args.pen.now c.put_text-in-Written.new.pen
    c.in-Written.is refl c.requires.value)
    c.put_text-in-Written.ensures.ok

pub returns-in-Written-clause-full : goal.returns-in-Written-clause-full
returns-in-Written-clause-full c =
    full_exactly c.put_text-in-Written.result c.args.datatype (texts_in (written_bits c.args.pen.now) c.args.table.now.entries) c.args.name (value_of c.args.value.now) (Text (chars c.in-Written.text.now)) c.args.pen.now c.put_text-in-Written.new.pen
    (λ bits. (after : Entries) × WritesTextInto (texts_in (written_bits c.args.pen.now) c.args.table.now.entries) c.args.name (chars c.in-Written.text.now) bits after) (ap value_of c.in-Written.is)
    (λ bits s. (s.0, text_written c.args.datatype _ _ c.args.name (chars c.in-Written.text.now) bits (subst (λ (v : Value). IsValue c.args.datatype (value_of v)) c.in-Written.is c.requires.value) s.1))
    (on_ok_weaker c.put_text-in-Written.result (λ p. (p.0, (_, p.1), p.2)) c.put_text-in-Written.ensures.ok) c.put_text-in-Written.ensures.full
