use Rattle.std.proofs.Common.{refl, arith}
use Rattle.exi_schema.specs.Told.{schema_of}
use Rattle.exi_schema.specs.Plain.{plain_particles}
use Rattle.dialect_text.proofs.Cursors.{not_next}
use Rattle.dialect_text.proofs.PartsOf.{ok_then, err_then, complex_attributes, complex_particles, behind_sign, stalls_behind_sign, behind_none, stalls_behind_none, no_sign, no_attributes}
use Rattle.dialect_text.proofs.step.take_behind_gap.Goals as goal

pub take_attribute-requires-clause-fit : goal.take_attribute-requires-clause-fit
take_attribute-requires-clause-fit c = complex_attributes (schema_of c.args.schema.now) c.args.top.kind c.args.attributes.now (plain_particles c.args.particles.now) c.requires.complex

pub take_start-requires-clause-fit : goal.take_start-requires-clause-fit
take_start-requires-clause-fit c = complex_particles (schema_of c.args.schema.now) c.args.top.kind c.args.attributes.now (plain_particles c.args.particles.now) c.requires.complex

pub take_start-requires-else-awaits_attribute-clause-fit :
    goal.take_start-requires-else-awaits_attribute-clause-fit
take_start-requires-else-awaits_attribute-clause-fit c = complex_particles (schema_of c.args.schema.now) c.args.top.kind c.args.attributes.now (plain_particles c.args.particles.now) c.requires.complex

pub returns-then-take_char-clause-ok : goal.returns-then-take_char-clause-ok
returns-then-take_char-clause-ok c = λ above has.
    ok_then _ _ c.take_attribute.result (λ said p. behind_sign (schema_of c.args.schema.now) c.args.elements.now c.take_attribute.new.elements c.args.top above _ c.args.cursor.now c.take_char.new.self c.take_attribute.new.cursor has
    c.if-awaits_attribute.ensures.0 c.if-take_char.ensures p) (c.take_attribute.ensures.ok above has)

pub returns-then-take_char-clause-fault : goal.returns-then-take_char-clause-fault
returns-then-take_char-clause-fault c = λ above has.
    err_then _ _ c.take_attribute.result (λ fault p. stalls_behind_sign (schema_of c.args.schema.now) c.args.elements.now c.args.top above c.args.attributes.now (plain_particles c.args.particles.now) c.args.cursor.now c.take_char.new.self fault has c.requires.complex c.requires.sound
    c.if-awaits_attribute.ensures.0 c.if-awaits_attribute.ensures.1 c.if-take_char.ensures p) (c.take_attribute.ensures.fault above has)

pub returns-else-take_char-clause-ok : goal.returns-else-take_char-clause-ok
returns-else-take_char-clause-ok c = λ above has.
    ok_then _ _ c.take_start.result (λ said p. behind_none (schema_of c.args.schema.now) c.args.elements.now c.take_start.new.elements c.args.top above _ c.args.cursor.now c.take_char.new.self c.take_start.new.cursor
    c.if-take_char.ensures.0 (no_sign (schema_of c.args.schema.now) c.args.top above c.args.cursor.now (not_next 64 c.args.cursor.now.rest.now (omega arith) c.if-take_char.ensures.1)) p) (c.take_start.ensures.ok above has)

pub returns-else-take_char-clause-fault : goal.returns-else-take_char-clause-fault
returns-else-take_char-clause-fault c = λ above has.
    err_then _ _ c.take_start.result (λ fault p. stalls_behind_none (schema_of c.args.schema.now) c.args.top above c.args.cursor.now c.take_char.new.self fault
    c.if-take_char.ensures.0 (no_sign (schema_of c.args.schema.now) c.args.top above c.args.cursor.now (not_next 64 c.args.cursor.now.rest.now (omega arith) c.if-take_char.ensures.1)) p) (c.take_start.ensures.fault above has)

pub returns-else-awaits_attribute-clause-ok : goal.returns-else-awaits_attribute-clause-ok
returns-else-awaits_attribute-clause-ok c = λ above has.
    ok_then _ _ c.take_start-else-awaits_attribute.result (λ said p. behind_none (schema_of c.args.schema.now) c.args.elements.now c.take_start-else-awaits_attribute.new.elements c.args.top above _ c.args.cursor.now c.args.cursor.now
    c.take_start-else-awaits_attribute.new.cursor refl (no_attributes (schema_of c.args.schema.now) c.args.top above c.args.attributes.now (plain_particles c.args.particles.now) c.args.cursor.now c.requires.complex c.if-awaits_attribute.ensures) p)
    (c.take_start-else-awaits_attribute.ensures.ok above has)

pub returns-else-awaits_attribute-clause-fault : goal.returns-else-awaits_attribute-clause-fault
returns-else-awaits_attribute-clause-fault c = λ above has.
    err_then _ _ c.take_start-else-awaits_attribute.result (λ fault p. stalls_behind_none (schema_of c.args.schema.now) c.args.top above c.args.cursor.now c.args.cursor.now fault
    refl (no_attributes (schema_of c.args.schema.now) c.args.top above c.args.attributes.now (plain_particles c.args.particles.now) c.args.cursor.now c.requires.complex c.if-awaits_attribute.ensures) p)
    (c.take_start-else-awaits_attribute.ensures.fault above has)
