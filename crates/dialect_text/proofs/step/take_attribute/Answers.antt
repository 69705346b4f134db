use Rattle.std.proofs.Common.{arith, sym, subst, ◌∙◌}
use Rattle.std.proofs.lemmas.Result.{err_from_is_err_and}
use Rattle.exi_schema.specs.Told.{schema_of}
use Rattle.dialect_text.specs.Dialect.{Within}
use Rattle.dialect_text.specs.Scanning.{IsSound}
use Rattle.dialect_text.proofs.Named.{all_index}
use Rattle.dialect_text.proofs.Parts.{IsMarked}
use Rattle.dialect_text.proofs.Starts.{attributes_marked, attribute_name_stalls, attribute_within, attribute_known, attribute_answer, attribute_value_answer, named_fits}
use Rattle.dialect_text.proofs.step.take_attribute.Goals as goal

pub take_name-requires-clause-names : goal.take_name-requires-clause-names
take_name-requires-clause-names c = λ k d low.
    (all_index (IsMarked (schema_of c.args.schema.now)) c.as_slice.result.now k d (attributes_marked (schema_of c.args.schema.now) c.args.attributes.now c.as_slice.result.now c.in_ok-awaited.awaited.items c.requires.fit c.in_ok-awaited.ensures c.as_slice.ensures.value) low).0

pub take_name-requires-clause-ends : goal.take_name-requires-clause-ends
take_name-requires-clause-ends c = λ k d low.
    (all_index (IsMarked (schema_of c.args.schema.now)) c.as_slice.result.now k d (attributes_marked (schema_of c.args.schema.now) c.args.attributes.now c.as_slice.result.now c.in_ok-awaited.awaited.items c.requires.fit c.in_ok-awaited.ensures c.as_slice.ensures.value) low).1

pub returns-in_err-at-clause-fault : goal.returns-in_err-at-clause-fault
returns-in_err-at-clause-fault c = λ above has.
    let p = err_from_is_err_and c.from_residual-in_err-at.result c.from_residual-in_err-at.ensures.1 in
    rw (p.1, p.2) (attribute_name_stalls (schema_of c.args.schema.now) c.args.top above c.args.attributes.now c.as_slice.result.now c.in_ok-awaited.awaited.items c.args.cursor.now _
    (subst (λ x. IsSound (schema_of c.args.schema.now) (Within x)) has c.requires.sound) c.requires.fit c.requires.kind c.in_ok-awaited.ensures c.as_slice.ensures.value c.in_err-at.ensures.fault)

pub offset_bounds-attributes-at : goal.offset_bounds-attributes-at
offset_bounds-attributes-at c =
    omega (arith, attribute_within c.args.attributes.now (schema_of c.args.schema.now) c.as_slice.result.now c.in_ok-awaited.awaited.items c.in_ok-at.at c.args.cursor.now c.take_name.new.cursor c.in_ok-awaited.ensures c.as_slice.ensures.value c.in_ok-at.ensures.taken)

pub bounds-attributes-at : goal.bounds-attributes-at
bounds-attributes-at c =
    attribute_within c.args.attributes.now (schema_of c.args.schema.now) c.as_slice.result.now c.in_ok-awaited.awaited.items c.in_ok-at.at c.args.cursor.now c.take_name.new.cursor c.in_ok-awaited.ensures c.as_slice.ensures.value c.in_ok-at.ensures.taken

pub unreachable-requires : goal.unreachable-requires
unreachable-requires c =
    let known = attribute_known c.args.attributes.now (schema_of c.args.schema.now) c.as_slice.result.now c.in_ok-awaited.awaited.items c.in_ok-at.at _ c.args.cursor.now c.take_name.new.cursor c.kind_of_attribute.result
    c.in_ok-awaited.ensures c.as_slice.ensures.value c.in_ok-at.ensures.taken c.kind_of_attribute.ensures in
    c.in_default.not-Some known.0 known.1

pub take_value-requires-clause-kind : goal.take_value-requires-clause-kind
take_value-requires-clause-kind c = (named_fits (schema_of c.args.schema.now) c.args.attributes.now _ c.in-Some.kind c.requires.fit (sym c.kind_of_attribute.ensures ∙ c.in-Some.is)).0

pub take_value-requires-clause-simple : goal.take_value-requires-clause-simple
take_value-requires-clause-simple c = (named_fits (schema_of c.args.schema.now) c.args.attributes.now _ c.in-Some.kind c.requires.fit (sym c.kind_of_attribute.ensures ∙ c.in-Some.is)).1

pub returns-in_err-value-clause-fault : goal.returns-in_err-value-clause-fault
returns-in_err-value-clause-fault c = λ above has.
    let p = err_from_is_err_and c.from_residual-in_err-value.result c.from_residual-in_err-value.ensures.1 in
    rw (p.1, p.2) (attribute_value_answer (schema_of c.args.schema.now) c.args.elements.now c.args.top c.args.attributes.now c.as_slice.result.now c.in_ok-awaited.awaited.items c.in_ok-at.at c.in-Some.kind _
    c.args.cursor.now c.take_name.new.cursor c.kind_of_attribute.result above _ c.in_ok-awaited.ensures c.as_slice.ensures.value c.in_ok-at.ensures.taken c.kind_of_attribute.ensures c.in-Some.is
    c.requires.kind c.requires.sound c.requires.fit c.in_err-value.ensures.fault has)

pub returns-clause-ok : goal.returns-clause-ok
returns-clause-ok c = λ above has.
    attribute_answer (schema_of c.args.schema.now) c.args.elements.now c.fill.new.self c.args.top c.args.attributes.now c.as_slice.result.now c.in_ok-awaited.awaited.items c.in_ok-at.at c.in-Some.kind _ _
    c.args.cursor.now c.take_name.new.cursor c.take_value.new.cursor c.kind_of_attribute.result above c.in_ok-awaited.ensures c.as_slice.ensures.value c.in_ok-at.ensures.taken c.kind_of_attribute.ensures c.in-Some.is
    c.requires.kind c.requires.sound c.requires.before c.in_ok-value.ensures.ok c.fill.ensures has
