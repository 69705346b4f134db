use Rattle.schedule_answers.proofs.Usable.{usable_iff}
use Rattle.schedule_answers.proofs.tuples.are_usable.Goals as goal

pub returns : goal.returns
returns c = usable_iff _ _ c.all_usable.ensures
