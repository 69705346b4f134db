use Rattle.exi_spec.proofs.Readers.{exact, unsigned_read}
use Rattle.exi_spec.proofs.laws.unsigned_integers.Goals as goal

pub returns : goal.returns
returns c = exact _ _ _ unsigned_read
