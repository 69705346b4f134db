use Rattle.exi_spec.proofs.Readers.{exact, numbers_read}
use Rattle.exi_spec.proofs.laws.numbers.Goals as goal

pub returns : goal.returns
returns c n = exact _ _ _ (numbers_read n)
