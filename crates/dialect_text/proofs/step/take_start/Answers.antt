use Rattle.std.proofs.Common.{arith, subst}
use Rattle.std.proofs.lemmas.Result.{err_from_is_err_and}
use Rattle.exi_schema.specs.Plain.{plain_particles}
use Rattle.exi_schema.specs.Told.{schema_of}
use Rattle.dialect_text.specs.Dialect.{Within}
use Rattle.dialect_text.specs.Scanning.{IsSound}
use Rattle.dialect_text.proofs.Named.{all_index}
use Rattle.dialect_text.proofs.Parts.{IsMarked}
use Rattle.dialect_text.proofs.ElementStarts.{elements_marked, element_stalls, element_answer, element_known, element_room, taken_within, index_got}
use Rattle.dialect_text.proofs.step.take_start.Goals as goal

pub take_name-requires-clause-names : goal.take_name-requires-clause-names
take_name-requires-clause-names c = λ k d low.
    (all_index (IsMarked (schema_of c.args.schema.now)) c.as_slice.result.now k d (elements_marked (schema_of c.args.schema.now) (plain_particles c.args.particles.now) c.as_slice.result.now c.in_ok-awaited.awaited.items c.requires.fit c.in_ok-awaited.ensures.only c.as_slice.ensures.value) low).0

pub take_name-requires-clause-ends : goal.take_name-requires-clause-ends
take_name-requires-clause-ends c = λ k d low.
    (all_index (IsMarked (schema_of c.args.schema.now)) c.as_slice.result.now k d (elements_marked (schema_of c.args.schema.now) (plain_particles c.args.particles.now) c.as_slice.result.now c.in_ok-awaited.awaited.items c.requires.fit c.in_ok-awaited.ensures.only c.as_slice.ensures.value) low).1

pub returns-in_err-at-clause-fault : goal.returns-in_err-at-clause-fault
returns-in_err-at-clause-fault c = λ above has.
    let p = err_from_is_err_and c.from_residual-in_err-at.result c.from_residual-in_err-at.ensures.1 in
    rw (p.1, p.2) (element_stalls (schema_of c.args.schema.now) c.args.top above (plain_particles c.args.particles.now) c.as_slice.result.now c.in_ok-awaited.awaited.items c.args.cursor.now _
    (subst (λ x. IsSound (schema_of c.args.schema.now) (Within x)) has c.requires.sound) c.requires.fit c.requires.kind c.in_ok-awaited.ensures.only c.in_ok-awaited.ensures.each c.as_slice.ensures.value c.in_err-at.ensures.fault)

pub index-requires : goal.index-requires
index-requires c = omega (arith, c.in_ok-awaited.awaited.ok.0, taken_within (schema_of c.args.schema.now) c.as_slice.result.now c.in_ok-awaited.awaited.items c.in_ok-at.at c.args.cursor.now c.take_name.new.cursor c.as_slice.ensures.value c.in_ok-at.ensures.taken)

pub unreachable-requires : goal.unreachable-requires
unreachable-requires c =
    let known = element_known (schema_of c.args.schema.now) (plain_particles c.args.particles.now) c.in_ok-awaited.awaited.items c.in_ok-at.at c.index.result.now c.kind_of_element.result c.in_ok-awaited.ensures.only
    (index_got c.in_ok-awaited.awaited.items c.in_ok-at.at c.index.result.now (taken_within (schema_of c.args.schema.now) c.as_slice.result.now c.in_ok-awaited.awaited.items c.in_ok-at.at c.args.cursor.now c.take_name.new.cursor c.as_slice.ensures.value c.in_ok-at.ensures.taken) c.index.ensures) c.kind_of_element.ensures in
    c.in_default.not-Some known.0 known.1

pub push-requires : goal.push-requires
push-requires c =
    element_room (schema_of c.args.schema.now) c.args.elements.now c.fill.new.self c.args.top (plain_particles c.args.particles.now) c.index.result.now.name c.in-Some.kind c.kind_of_element.result c.requires.top c.requires.sound c.requires.kind
    c.kind_of_element.ensures c.in-Some.is c.fill.ensures

pub returns-clause-ok : goal.returns-clause-ok
returns-clause-ok c = λ above has.
    element_answer (schema_of c.args.schema.now) c.args.elements.now c.fill.new.self c.push.new.self c.args.top (plain_particles c.args.particles.now) c.as_slice.result.now c.in_ok-awaited.awaited.items c.in_ok-at.at c.in-Some.kind c.index.result.now
    c.args.cursor.now c.take_name.new.cursor c.kind_of_element.result above c.in_ok-awaited.ensures.only c.as_slice.ensures.value c.in_ok-at.ensures.taken
    (index_got c.in_ok-awaited.awaited.items c.in_ok-at.at c.index.result.now (taken_within (schema_of c.args.schema.now) c.as_slice.result.now c.in_ok-awaited.awaited.items c.in_ok-at.at c.args.cursor.now c.take_name.new.cursor c.as_slice.ensures.value c.in_ok-at.ensures.taken) c.index.ensures) c.kind_of_element.ensures c.in-Some.is
    c.requires.kind c.fill.ensures c.push.ensures has
