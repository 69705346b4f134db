use Rattle.std.proofs.Common.{ap, subst, length, List, ◌∙◌}
use Rattle.exi_schema.specs.declared.places.Step.{Step}
use Rattle.exi_schema.specs.Offers.{IsWidth}
use Rattle.app_schema.proofs.places.NegotiationPlacesPlaces.codes.Goals as goal

pub returns-clause-offered : goal.returns-clause-offered
returns-clause-offered c = c.codes.ensures.offered ∙ ap length c.row_at.ensures

pub returns-clause-width : goal.returns-clause-width
returns-clause-width c = subst (λ (steps : List Step). IsWidth (length steps) c.codes.result.width) c.row_at.ensures c.codes.ensures.width
