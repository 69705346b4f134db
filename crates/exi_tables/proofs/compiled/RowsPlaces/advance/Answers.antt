use Rattle.std.proofs.Common.{◌≡◌, ◌∙◌, ◌<◌, Some, ap, length, subst, sym, List}
use Rattle.std.specs.Prelude.{slice_get}
use Rattle.std.proofs.lemmas.Option.{slice_get-get_or}
use Rattle.exi_schema.specs.declared.places.Step.{Step}
use Rattle.exi_schema.specs.Offers.{offers}
use Rattle.exi_tables.proofs.Offered.{offer_fits}
use Rattle.exi_tables.proofs.compiled.RowsPlaces.advance.Goals as goal

pub returns-clause-of_schema : goal.returns-clause-of_schema
returns-clause-of_schema g c =
    let is = c.row-row.ensures.steps in
    let P : List Step → Type 0 = λ steps. c.args.code < length steps in
    let less : c.args.code < length c.row-row.result.now.steps.items = subst P (sym is) c.requires.code in
    let taken : Some c.index.result.now ≡ slice_get (offers g.D.Declared.schema.kinds c.args.place) c.args.code =
    ap Some c.index.ensures ∙ sym (slice_get-get_or c.row-row.result.now.steps.items c.args.code c.index.result.now less)
    ∙ ap (λ steps. slice_get steps c.args.code) is in
    offer_fits g.D.Declared.schema c.args.place c.args.code c.index.result.now c.requires.place taken
