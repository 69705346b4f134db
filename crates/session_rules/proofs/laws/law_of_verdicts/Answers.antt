use Rattle.session_rules.proofs.VerdictLemmas.{accepts_without_line, answers_in_dialect}
use Rattle.session_rules.proofs.laws.law_of_verdicts.Goals as goal

pub returns-clause-accepted : goal.returns-clause-accepted
returns-clause-accepted c = accepts_without_line

pub returns-clause-codes : goal.returns-clause-codes
returns-clause-codes c = answers_in_dialect
