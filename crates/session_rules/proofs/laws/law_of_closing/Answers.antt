use Rattle.session_rules.proofs.ClosingLemmas.{closes_right}
use Rattle.session_rules.proofs.laws.law_of_closing.Goals as goal

pub returns : goal.returns
returns c = closes_right
