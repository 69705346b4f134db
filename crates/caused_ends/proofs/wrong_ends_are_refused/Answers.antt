use Rattle.caused_ends.proofs.WrongEnds as proofs
use Rattle.caused_ends.proofs.wrong_ends_are_refused.Goals as goal

pub returns-clause-for_nothing : goal.returns-clause-for_nothing
returns-clause-for_nothing g c = proofs.ends_for_nothing _

pub returns-clause-by_another : goal.returns-clause-by_another
returns-clause-by_another g c = proofs.ends_by_another _

pub returns-clause-by_later : goal.returns-clause-by_later
returns-clause-by_later g c = proofs.ends_by_later _

pub returns-clause-goes_on : goal.returns-clause-goes_on
returns-clause-goes_on g c = proofs.goes_on _

pub returns-clause-goes_on_late : goal.returns-clause-goes_on_late
returns-clause-goes_on_late g c = proofs.goes_on_late _

pub returns-clause-rightly : goal.returns-clause-rightly
returns-clause-rightly g c = proofs.ends_rightly _
