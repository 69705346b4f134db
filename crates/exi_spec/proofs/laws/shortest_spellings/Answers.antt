use Rattle.exi_spec.proofs.ShortestLaws.{shortest}
use Rattle.exi_spec.proofs.laws.shortest_spellings.Goals as goal

pub returns : goal.returns
returns c value range = shortest value range
