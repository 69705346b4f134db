use Rattle.value_text.specs.Scanning.{IsAnyFormed, IsAnyAwaited}
use Rattle.value_text.proofs.FrontLaws.{one_longest}
use Rattle.value_text.proofs.laws.one_longest_front.Goals as goal

pub returns-clause-values : goal.returns-clause-values
returns-clause-values c = λ s kind datatype. one_longest (IsAnyFormed s kind datatype)

pub returns-clause-names : goal.returns-clause-names
returns-clause-names c = λ s awaited. one_longest (IsAnyAwaited s awaited)
