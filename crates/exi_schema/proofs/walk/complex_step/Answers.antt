use Rattle.std.proofs.Common.{◌≤◌, length, arith, ◌∙◌}
use Rattle.exi_schema.specs.Offers.{through_required}
use Rattle.exi_schema.specs.Plain.{plain_particles}
use Rattle.exi_schema.proofs.Walks.{through_short, found_attribute, found_element}
use Rattle.exi_schema.proofs.walk.complex_step.Goals as goal

pub bounds-left-code : goal.bounds-left-code
bounds-left-code c =
    let short : length (through_required c.split_at.result.1.now) ≤ length c.split_at.result.1.now = through_short c.split_at.result.1.now in
    omega (arith, short, c.if-code-count.true, c.attribute_count-count.ensures)

pub overflow_add-place : goal.overflow_add-place
overflow_add-place c =
    let short : length (through_required c.split_at.result.1.now) ≤ length c.split_at.result.1.now = through_short c.split_at.result.1.now in
    omega (arith, short, c.if-code-count.true, c.attribute_count-count.ensures, c.split_at.ensures.back_len, c.requires.attributes)

pub attribute_step-requires : goal.attribute_step-requires
attribute_step-requires c =
    let short : length (through_required c.split_at.result.1.now) ≤ length c.split_at.result.1.now = through_short c.split_at.result.1.now in
    omega (arith, short, c.if-code-count.true, c.attribute_count-count.ensures, c.split_at.ensures.back_len, c.requires.attributes)

pub element_at-requires-clause-offered : goal.element_at-requires-clause-offered
element_at-requires-clause-offered c =
    let is = c.attribute_count-count.ensures in
    rw (is, c.split_at.ensures.back) ((found_element c.args.place c.args.attributes.now (plain_particles c.args.particles.now) c.args.code (rw (is, c.split_at.ensures.back) at c.if-code-count.false) c.requires.offered).0)

pub returns-then-code-count : goal.returns-then-code-count
returns-then-code-count c =
    rw (c.attribute_step.ensures, c.split_at.ensures.back) (found_attribute c.args.place c.args.attributes.now (plain_particles c.args.particles.now) c.args.code _ (rw (c.attribute_count-count.ensures, c.split_at.ensures.back) at c.if-code-count.true))

pub returns-else-code-count : goal.returns-else-code-count
returns-else-code-count c =
    c.element_at.ensures ∙ rw (c.attribute_count-count.ensures, c.split_at.ensures.back) ((found_element c.args.place c.args.attributes.now (plain_particles c.args.particles.now) c.args.code (rw (c.attribute_count-count.ensures, c.split_at.ensures.back) at c.if-code-count.false) c.requires.offered).1)
