use Rattle.payload_commands.proofs.PickFollowing.{followed}
use Rattle.payload_commands.proofs.pick_laws.fates_of_wants_are_followed.Goals as goal

pub returns : goal.returns
returns c = followed c.one_fate_of_wants.ensures
