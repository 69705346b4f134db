use Rattle.message_tables.proofs.Numbers.{notify_named, notify_small, status_named, status_small, mode_named, mode_small, second_named, second_small}
use Rattle.message_tables.proofs.numbers_are_those_of_names.Goals as goal

pub returns-clause-notifications : goal.returns-clause-notifications
returns-clause-notifications c = notify_named

pub returns-clause-few_notifications : goal.returns-clause-few_notifications
returns-clause-few_notifications c = notify_small

pub returns-clause-status_codes : goal.returns-clause-status_codes
returns-clause-status_codes c = status_named

pub returns-clause-few_status_codes : goal.returns-clause-few_status_codes
returns-clause-few_status_codes c = status_small

pub returns-clause-modes : goal.returns-clause-modes
returns-clause-modes c = mode_named

pub returns-clause-few_modes : goal.returns-clause-few_modes
returns-clause-few_modes c = mode_small

pub returns-clause-seconds : goal.returns-clause-seconds
returns-clause-seconds c = second_named

pub returns-clause-few_seconds : goal.returns-clause-few_seconds
returns-clause-few_seconds c = second_small
