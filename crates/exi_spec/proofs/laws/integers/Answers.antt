use Rattle.exi_spec.proofs.Readers.{exact, integers_read}
use Rattle.exi_spec.proofs.laws.integers.Goals as goal

pub returns : goal.returns
returns c = exact _ _ _ integers_read
