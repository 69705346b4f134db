use Rattle.std.proofs.Common.{◌<◌, ◌^◌, rules, arith, get_or, []}
use Rattle.std.proofs.lemmas.Int.{to_z-of_z}
use Rattle.std.proofs.lemmas.List.{length-map}
use Rattle.std.specs.Int.{w128}
use Rattle.exi_schema.specs.Told.{schema_of}
use Rattle.value_text.proofs.NameForms.{get_below, values_within, texts_ascii, texts_count, texts_some, short_fits, is_numeric}
use Rattle.value_text.proofs.ValueForms.{formed_truth, no_truth, formed_number, no_number_there, formed_bytes, no_bytes, formed_text, no_text, formed_word, no_word, names_there}
use Rattle.value_text.proofs.cursor.TextCursor.value.Goals as goal

pub returns-in-Ok-clause-taken : goal.returns-in-Ok-clause-taken
returns-in-Ok-clause-taken c = formed_truth (schema_of c.args.schema.now) c.args.kind c.args.datatype c.args.self.now c.in-Ok.behind c.in-Ok.truth c.in-Bool.is c.in-Ok.ensures.taken

pub returns-in-Err-clause-fault : goal.returns-in-Err-clause-fault
returns-in-Err-clause-fault c = no_truth (schema_of c.args.schema.now) c.args.kind c.args.datatype c.args.self.now c.in-Err.place c.in-Bool.is c.in-Err.ensures.fault

pub returns-in-Ok-number-clause-taken : goal.returns-in-Ok-number-clause-taken
returns-in-Ok-number-clause-taken c =
    let g = c.in-Ok-number.ensures.taken in
    rw (to_z-of_z w128 c.in-Ok-number.number (short_fits c.in-Ok-number.number g.2))
    (formed_number (schema_of c.args.schema.now) c.args.kind c.args.datatype c.args.self.now c.in-Ok-number.behind c.in-Ok-number.number (is_numeric c.args.datatype c.in-Bounded.is) g)

pub returns-in-Err-number-clause-fault : goal.returns-in-Err-number-clause-fault
returns-in-Err-number-clause-fault c = no_number_there (schema_of c.args.schema.now) c.args.kind c.args.datatype c.args.self.now c.in-Err-number.place (is_numeric c.args.datatype c.in-Bounded.is) c.in-Err-number.ensures.fault

pub returns-in-Ok-bytes-clause-taken : goal.returns-in-Ok-bytes-clause-taken
returns-in-Ok-bytes-clause-taken c = formed_bytes (schema_of c.args.schema.now) c.args.kind c.in-Binary.most c.args.datatype c.args.self.now c.in-Ok-bytes.behind c.in-Ok-bytes.bytes.items c.in-Binary.is c.in-Ok-bytes.ensures.taken

pub returns-in-Err-bytes-clause-fault : goal.returns-in-Err-bytes-clause-fault
returns-in-Err-bytes-clause-fault c = no_bytes (schema_of c.args.schema.now) c.args.kind c.in-Binary.most c.args.datatype c.args.self.now c.in-Err-bytes.fault c.in-Binary.is c.in-Err-bytes.ensures.fault

pub returns-in-Ok-quoted-clause-taken : goal.returns-in-Ok-quoted-clause-taken
returns-in-Ok-quoted-clause-taken c = formed_text (schema_of c.args.schema.now) c.args.kind c.in-Text.most c.args.datatype c.args.self.now c.in-Ok-quoted.behind _ c.in-Text.is c.in-Ok-quoted.ensures.taken

pub returns-in-Err-quoted-clause-fault : goal.returns-in-Err-quoted-clause-fault
returns-in-Err-quoted-clause-fault c = no_text (schema_of c.args.schema.now) c.args.kind c.in-Text.most c.args.datatype c.args.self.now c.in-Err-quoted.fault c.in-Text.is c.in-Err-quoted.ensures.fault

pub bounds-schema-kind : goal.bounds-schema-kind
bounds-schema-kind c = values_within c.args.schema.now c.args.kind c.in-Named.count c.args.datatype c.requires c.in-Named.is

pub word-requires-clause-ascii : goal.word-requires-clause-ascii
word-requires-clause-ascii c =
    texts_ascii c.args.schema.now c.args.kind _ (values_within c.args.schema.now c.args.kind c.in-Named.count c.args.datatype c.requires c.in-Named.is)

pub word-requires-clause-any : goal.word-requires-clause-any
word-requires-clause-any c =
    let within = values_within c.args.schema.now c.args.kind c.in-Named.count c.args.datatype c.requires c.in-Named.is in
    omega (arith, texts_count c.args.schema.now c.args.kind c.in-Named.count c.args.datatype (record { ref_ptr = (0, 0); now = [] }) c.requires c.in-Named.is within, texts_some (schema_of c.args.schema.now) c.args.kind c.in-Named.count c.args.datatype c.requires c.in-Named.is)

pub overflow_cast-result : goal.overflow_cast-result
overflow_cast-result c =
    let within = values_within c.args.schema.now c.args.kind c.in-Named.count c.args.datatype c.requires c.in-Named.is in
    let fits : c.in-Named.count < 2 ^ 32 = search rules in
    let below = get_below _ c.in-Ok-word.ordinal _ c.in-Ok-word.ensures.taken.2 in
    omega (arith, below, fits, length-map (get_or c.args.schema.now.values.now c.args.kind (record { ref_ptr = (0, 0); now = [] })).now (λ t. t.now), texts_count c.args.schema.now c.args.kind c.in-Named.count c.args.datatype (record { ref_ptr = (0, 0); now = [] }) c.requires c.in-Named.is within)

pub returns-in-Ok-word-clause-taken : goal.returns-in-Ok-word-clause-taken
returns-in-Ok-word-clause-taken c =
    let within = values_within c.args.schema.now c.args.kind c.in-Named.count c.args.datatype c.requires c.in-Named.is in
    formed_word (schema_of c.args.schema.now) c.args.kind c.in-Named.count c.in-Ok-word.ordinal _ c.args.datatype c.args.self.now c.in-Ok-word.behind c.in-Named.is (names_there c.args.schema.now c.args.kind _ within) c.in-Ok-word.ensures.taken

pub returns-in-Err-word-clause-fault : goal.returns-in-Err-word-clause-fault
returns-in-Err-word-clause-fault c =
    let within = values_within c.args.schema.now c.args.kind c.in-Named.count c.args.datatype c.requires c.in-Named.is in
    no_word (schema_of c.args.schema.now) c.args.kind c.in-Named.count _ c.args.datatype c.args.self.now c.in-Err-word.place c.in-Named.is (names_there c.args.schema.now c.args.kind _ within) c.in-Err-word.ensures.fault
