use Rattle.message_parts.proofs.Putting.{optional_named}
use Rattle.message_parts.proofs.part.optional_children.Goals as goal

pub returns : goal.returns
returns g c = optional_named _ _ _ _ _ _ _ _ _ c.in_ok-first.ensures c.in_ok-second.ensures c.in_ok-third.ensures
