use Rattle.dialect_sizes.proofs.Narrow.{iso_narrow, din_narrow, app_narrow}
use Rattle.dialect_sizes.proofs.laws.codes_are_narrow.Goals as goal

pub returns-clause-iso : goal.returns-clause-iso
returns-clause-iso c = iso_narrow

pub returns-clause-din : goal.returns-clause-din
returns-clause-din c = din_narrow

pub returns-clause-app : goal.returns-clause-app
returns-clause-app c = app_narrow
