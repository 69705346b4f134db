use Rattle.std.proofs.Common.{ap, subst, ◌∙◌, arith}
use Rattle.exi_schema.specs.Told.{schema_of}
use Rattle.value_text.specs.declared.cursor.TextCursor.{TextCursor}
use Rattle.value_text.specs.Scanning.{Passes}
use Rattle.exi_schema.specs.Plain.{plain_particles}
use Rattle.dialect_text.specs.Dialect.{gap}
use Rattle.dialect_text.proofs.Cursors.{not_next}
use Rattle.dialect_text.proofs.PartsOf.{ok_then, err_then}
use Rattle.dialect_text.proofs.Whole.{part_end, part_stalls, part_taken, part_fault}
use Rattle.dialect_text.proofs.step.take_part.Goals as goal

pub returns-then-take_char-clause-ok : goal.returns-then-take_char-clause-ok
returns-then-take_char-clause-ok c =
    part_end (schema_of c.args.schema.now) c.args.elements.now c.pop.new.self c.args.top c.args.attributes.now (plain_particles c.args.particles.now) c.args.cursor.now c.take_char.new.self c.requires.top c.requires.complex c.if-take_char.ensures c.pop.ensures

pub returns-then-not-take_gap-clause-fault : goal.returns-then-not-take_gap-clause-fault
returns-then-not-take_gap-clause-fault c =
    let p = part_stalls (schema_of c.args.schema.now) c.args.elements.now c.args.top c.args.attributes.now (plain_particles c.args.particles.now) c.args.cursor.now c.requires.top c.requires.complex c.if-not-take_gap.ensures.1 (not_next 125 c.args.cursor.now.rest.now (omega arith) c.if-take_char.ensures.1)
    (λ rest e. not_next 32 c.take_char.new.self.rest.now (omega arith) c.if-not-take_gap.ensures.2 rest (ap (λ (x : TextCursor). x.rest.now) c.if-take_char.ensures.0 ∙ e)) in
    (p.0, p.1, ap (λ (x : TextCursor). x.place) (c.if-not-take_gap.ensures.0 ∙ c.if-take_char.ensures.0) ∙ p.2)

pub returns-clause-ok : goal.returns-clause-ok
returns-clause-ok c =
    let passes : Passes c.args.cursor.now (gap c.args.top.filling) c.take_gap.new.cursor = subst (λ (x : TextCursor). Passes x (gap c.args.top.filling) c.take_gap.new.cursor) c.if-take_char.ensures.0 c.if-not-take_gap.ensures in
    ok_then _ _ c.take_behind_gap.result (λ said p. part_taken (schema_of c.args.schema.now) c.args.elements.now c.take_behind_gap.new.elements c.args.top c.args.attributes.now (plain_particles c.args.particles.now) _ c.args.cursor.now c.take_gap.new.cursor
    c.take_behind_gap.new.cursor c.requires.top c.requires.complex passes (not_next 125 c.args.cursor.now.rest.now (omega arith) c.if-take_char.ensures.1) p) (c.take_behind_gap.ensures.ok c.requires.top.0 c.requires.top.1)

pub returns-clause-fault : goal.returns-clause-fault
returns-clause-fault c =
    let passes : Passes c.args.cursor.now (gap c.args.top.filling) c.take_gap.new.cursor = subst (λ (x : TextCursor). Passes x (gap c.args.top.filling) c.take_gap.new.cursor) c.if-take_char.ensures.0 c.if-not-take_gap.ensures in
    err_then _ _ c.take_behind_gap.result (λ fault p. part_fault (schema_of c.args.schema.now) c.args.elements.now c.args.top c.args.attributes.now (plain_particles c.args.particles.now) c.args.cursor.now c.take_gap.new.cursor fault c.requires.top c.requires.complex
    c.requires.sound passes (not_next 125 c.args.cursor.now.rest.now (omega arith) c.if-take_char.ensures.1) p) (c.take_behind_gap.ensures.fault c.requires.top.0 c.requires.top.1)
