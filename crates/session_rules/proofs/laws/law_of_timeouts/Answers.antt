use Rattle.session_rules.proofs.TimeoutLemmas.{runs_by_row}
use Rattle.session_rules.proofs.laws.law_of_timeouts.Goals as goal

pub returns : goal.returns
returns c = runs_by_row
