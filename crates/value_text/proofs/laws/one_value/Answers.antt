use Rattle.value_text.proofs.OneValue.{one_value}
use Rattle.value_text.proofs.laws.one_value.Goals as goal

pub returns : goal.returns
returns c = one_value
