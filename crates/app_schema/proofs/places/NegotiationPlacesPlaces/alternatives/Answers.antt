use Rattle.std.proofs.Common.{ap, length, ◌∙◌}
use Rattle.app_schema.proofs.places.NegotiationPlacesPlaces.alternatives.Goals as goal

pub returns : goal.returns
returns c = c.count.ensures ∙ ap length c.row_at.ensures
