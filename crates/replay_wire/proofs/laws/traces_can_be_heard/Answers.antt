use Rattle.replay_wire.proofs.Recordings.{all_can}
use Rattle.replay_wire.proofs.laws.traces_can_be_heard.Goals as goal

pub returns : goal.returns
returns c = all_can
