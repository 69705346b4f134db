use Rattle.std.proofs.Common.{subst, length, List}
use Rattle.exi_schema.specs.declared.places.Step.{Step}
use Rattle.exi_schema.specs.Offers.{IsWidth}
use Rattle.app_schema.proofs.places.NegotiationPlacesPlaces.width.Goals as goal

pub returns : goal.returns
returns c = subst (λ (steps : List Step). IsWidth (length steps) c.width.result) c.row_at.ensures c.width.ensures
