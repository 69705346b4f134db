use Rattle.session_rules.proofs.ScheduleLemmas.{schedules_within, spells_schedule}
use Rattle.session_rules.proofs.laws.law_of_schedules.Goals as goal

pub returns-clause-spelled : goal.returns-clause-spelled
returns-clause-spelled c = spells_schedule

pub returns-clause-within : goal.returns-clause-within
returns-clause-within c = schedules_within
