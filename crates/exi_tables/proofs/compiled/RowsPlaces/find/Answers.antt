use Rattle.std.proofs.Common.{rules, ◌∙◌, ◌<◌, ◌≤◌, Some, ap, length, sym, IsTrue, arith}
use Rattle.std.specs.Prelude.{slice_get}
use Rattle.std.proofs.lemmas.Option.{slice_get-get_or}
use Rattle.exi_schema.specs.Offers.{offers}
use Rattle.exi_schema.proofs.Finding.{later_still, nowhere}
use Rattle.exi_tables.proofs.Offered.{offer_fits, few_offers}
use Rattle.exi_tables.proofs.compiled.RowsPlaces.find.Goals as goal

pub overflow_cast-result : goal.overflow_cast-result
overflow_cast-result g c =
    let few = few_offers g.D.Declared.schema c.args.place c.requires in
    let same = ap length c.row-row.ensures.steps in
    grind (arith, few, same)

pub returns-then-is_sought-clause-offered : goal.returns-then-is_sought-clause-offered
returns-then-is_sought-clause-offered g c =
    let less : c.loop-code.code < length c.row-row.result.now.steps.items = grind arith in
    sym (ap Some c.index-step.ensures ∙ sym (slice_get-get_or c.row-row.result.now.steps.items c.loop-code.code c.index-step.result.now less)
    ∙ ap (λ steps. slice_get steps c.loop-code.code) c.row-row.ensures.steps)

pub returns-then-is_sought-clause-of_schema : goal.returns-then-is_sought-clause-of_schema
returns-then-is_sought-clause-of_schema g c =
    let less : c.loop-code.code < length c.row-row.result.now.steps.items = grind arith in
    offer_fits g.D.Declared.schema c.args.place c.loop-code.code c.index-step.result.now c.requires
    (ap Some c.index-step.ensures ∙ sym (slice_get-get_or c.row-row.result.now.steps.items c.loop-code.code c.index-step.result.now less)
    ∙ ap (λ steps. slice_get steps c.loop-code.code) c.row-row.ensures.steps)

pub returns-then-is_sought-clause-few : goal.returns-then-is_sought-clause-few
returns-then-is_sought-clause-few g c = omega (arith, few_offers g.D.Declared.schema c.args.place c.requires)

pub loop-code-preserved : goal.loop-code-preserved
loop-code-preserved g c =
    let less : c.loop-code.code < length c.row-row.result.now.steps.items = grind arith in
    later_still (offers g.D.Declared.schema.kinds c.args.place) c.args.sought c.loop-code.code c.index-step.result.now c.loop-code.invariant
    (ap Some c.index-step.ensures ∙ sym (slice_get-get_or c.row-row.result.now.steps.items c.loop-code.code c.index-step.result.now less)
    ∙ ap (λ steps. slice_get steps c.loop-code.code) c.row-row.ensures.steps)
    (λ meant. let is : IsTrue c.is_sought.result = c.is_sought.ensures.1 meant in absurd (search (rules, is, c.if-is_sought.false)))

pub returns-clause-none : goal.returns-clause-none
returns-clause-none g c = λ _ code step is meant.
    let all : length c.row-row.result.now.steps.items ≤ c.loop-code.code = grind arith in
    let same = ap length c.row-row.ensures.steps in
    nowhere (offers g.D.Declared.schema.kinds c.args.place) c.args.sought c.loop-code.code c.loop-code.invariant (omega (arith, all, same)) code step is meant
