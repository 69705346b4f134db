use Rattle.std.proofs.Common.{◌≡◌, ◌<◌, ◌∙◌, ap, sym, subst, length, List}
use Rattle.std.specs.Prelude.{slice_get}
use Rattle.exi_schema.specs.declared.places.Step.{Step}
use Rattle.app_schema.proofs.Placed.{offer_fits}
use Rattle.app_schema.proofs.places.NegotiationPlacesPlaces.advance.Goals as goal

pub step-requires : goal.step-requires
step-requires c = subst (λ (steps : List Step). c.args.code < length steps) (sym c.row_at.ensures) c.requires.code

pub returns-clause-taken : goal.returns-clause-taken
returns-clause-taken c = c.step.ensures ∙ ap (λ (steps : List Step). slice_get steps c.args.code) c.row_at.ensures

pub returns-clause-of_schema : goal.returns-clause-of_schema
returns-clause-of_schema c =
    offer_fits c.args.place c.args.code c.step.result c.requires.place (c.step.ensures ∙ ap (λ (steps : List Step). slice_get steps c.args.code) c.row_at.ensures)
