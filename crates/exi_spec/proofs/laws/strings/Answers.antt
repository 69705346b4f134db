use Rattle.exi_spec.proofs.Readers.{exact, strings_read}
use Rattle.exi_spec.proofs.laws.strings.Goals as goal

pub returns : goal.returns
returns c n = exact _ _ _ (strings_read n)
