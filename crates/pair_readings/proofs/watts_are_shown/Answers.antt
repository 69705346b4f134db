use Rattle.pair_readings.proofs.Watts as watts
use Rattle.pair_readings.proofs.watts_are_shown.Goals as goal

pub returns-clause-asked : goal.returns-clause-asked
returns-clause-asked c = watts.some_watts_are_asked

pub returns-clause-shown : goal.returns-clause-shown
returns-clause-shown c = watts.some_watts_are_shown
