use Rattle.service_spec.proofs.OneWant.{one_wanted}
use Rattle.service_spec.proofs.laws.one_want.Goals as goal

pub returns : goal.returns
returns c = one_wanted
