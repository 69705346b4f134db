use Rattle.std.proofs.Common.{◌∙◌}
use Rattle.secc_machine.proofs.Quiet.{opened}
use Rattle.secc_machine.proofs.post.Post.hear.Goals as goal

pub feed-requires-clause-read : goal.feed-requires-clause-read
feed-requires-clause-read c = opened _ _ (c.self.view_is ∙ c.open_arrived.ensures) c.requires.read
