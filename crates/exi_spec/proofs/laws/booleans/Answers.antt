use Rattle.exi_spec.proofs.Readers.{exact, booleans_read}
use Rattle.exi_spec.proofs.laws.booleans.Goals as goal

pub returns : goal.returns
returns c = exact _ _ _ booleans_read
