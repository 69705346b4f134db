use Rattle.exi_spec.proofs.Readers.{exact, characters_read}
use Rattle.exi_spec.proofs.laws.characters.Goals as goal

pub returns : goal.returns
returns c = exact _ _ _ characters_read
