use Rattle.standing_causes_open.proofs.Coming.{causes_open}
use Rattle.standing_causes_open.proofs.opens_where_causes_stand.Goals as goal

pub returns : goal.returns
returns g c = causes_open _
