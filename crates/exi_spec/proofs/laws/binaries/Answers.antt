use Rattle.exi_spec.proofs.Readers.{exact, binaries_read}
use Rattle.exi_spec.proofs.laws.binaries.Goals as goal

pub returns : goal.returns
returns c n = exact _ _ _ (binaries_read n)
