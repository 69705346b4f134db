use Rattle.replay_command.proofs.Itself.{writes_itself as itself}
use Rattle.replay_command.proofs.laws.writes_itself.Goals as goal

pub returns : goal.returns
returns g c = itself _ g.met.C.LawfulCodec.determined c.replays_itself.ensures
