use Rattle.std.proofs.Common.{arith}
use Rattle.std.proofs.lemmas.Result.{err_from_is_err_and}
use Rattle.exi_schema.specs.Told.{schema_of}
use Rattle.dialect_text.proofs.Named.{all_index}
use Rattle.dialect_text.proofs.Parts.{IsMarked, roots_marked, root_taken, root_within, root_stalls}
use Rattle.dialect_text.proofs.step.take_root.Goals as goal

pub take_name-requires-clause-names : goal.take_name-requires-clause-names
take_name-requires-clause-names c = λ k d low.
    (all_index (IsMarked (schema_of c.args.schema.now)) c.as_slice.result.now k d (roots_marked (schema_of c.args.schema.now) c.as_slice.result.now c.in_ok-awaited.awaited.items c.in_ok-awaited.ensures c.as_slice.ensures.value) low).0

pub take_name-requires-clause-ends : goal.take_name-requires-clause-ends
take_name-requires-clause-ends c = λ k d low.
    (all_index (IsMarked (schema_of c.args.schema.now)) c.as_slice.result.now k d (roots_marked (schema_of c.args.schema.now) c.as_slice.result.now c.in_ok-awaited.awaited.items c.in_ok-awaited.ensures c.as_slice.ensures.value) low).1

pub returns-in_err-at-clause-fault : goal.returns-in_err-at-clause-fault
returns-in_err-at-clause-fault c =
    let p = err_from_is_err_and c.from_residual-in_err-at.result c.from_residual-in_err-at.ensures.1 in
    rw (p.1, p.2) (root_stalls (schema_of c.args.schema.now) c.as_slice.result.now c.in_ok-awaited.awaited.items c.args.cursor.now _ c.in_ok-awaited.ensures c.as_slice.ensures.value c.in_err-at.ensures.fault)

pub offset_bounds-schema-at : goal.offset_bounds-schema-at
offset_bounds-schema-at c =
    omega (arith, root_within (schema_of c.args.schema.now) c.as_slice.result.now c.in_ok-awaited.awaited.items c.in_ok-at.at c.args.cursor.now c.take_name.new.cursor c.in_ok-awaited.ensures c.as_slice.ensures.value c.in_ok-at.ensures.taken)

pub bounds-schema-at : goal.bounds-schema-at
bounds-schema-at c =
    root_within (schema_of c.args.schema.now) c.as_slice.result.now c.in_ok-awaited.awaited.items c.in_ok-at.at c.args.cursor.now c.take_name.new.cursor c.in_ok-awaited.ensures c.as_slice.ensures.value c.in_ok-at.ensures.taken

pub returns-clause-ok : goal.returns-clause-ok
returns-clause-ok c =
    root_taken (schema_of c.args.schema.now) c.as_slice.result.now c.in_ok-awaited.awaited.items c.in_ok-at.at _ c.args.cursor.now c.take_name.new.cursor c.in_ok-awaited.ensures c.as_slice.ensures.value c.in_ok-at.ensures.taken
