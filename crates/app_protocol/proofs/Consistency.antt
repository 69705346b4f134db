-- The declarations of the negotiation are consistent.
use Rattle.std.proofs.Common.{◌≡◌, true, refl}
use Rattle.tree_text.specs.Consistent.{are_consistent}
use Rattle.app_schema.specs.Declarations.{negotiation_schema}

pub is_consistent_negotiation : are_consistent negotiation_schema.kinds ≡ true
is_consistent_negotiation = refl
