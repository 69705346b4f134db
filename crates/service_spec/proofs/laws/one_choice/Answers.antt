use Rattle.service_spec.proofs.OneChoice.{one_picked, picked_apart}
use Rattle.service_spec.proofs.laws.one_choice.Goals as goal

pub returns : goal.returns
returns c = record { one = one_picked; apart = picked_apart }
