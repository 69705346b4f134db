-- Own: why no hearing follows.
use Rattle.std.specs.Prelude.{Bool, true, false, Option, Some, None, Result, Ok, Err}
use Rattle.charge_world.specs.declared.heard.What.{What}
use Rattle.charge_world.specs.declared.heard.What.TheVariants as what
use Rattle.end_turns.specs.declared.ending.Ended.{Ended}
use Rattle.end_turns.specs.declared.ending.Ended.TheVariants as ended
use Rattle.end_turns.specs.declared.ending.Last.{Last}
use Rattle.end_turns.specs.declared.ending.Last.TheVariants.{Over, Lost, Turns}

abbrev pub ended_by : Last → Ended
ended_by Over = ended.Over
ended_by Lost = ended.Lost
ended_by Turns = ended.Turns

abbrev pub turns_if : Bool → Option Last
turns_if true = Some Turns
turns_if false = None

-- behind what was heard, where the end is over or isn't
abbrev pub last_by : What → Bool → Option Last
last_by (what.Came post token) over = turns_if over
last_by (what.Bytes post n) over = turns_if over
last_by (what.Gone post) over = turns_if over
last_by (what.Datagram post n) over = turns_if over
last_by (what.Plant post event) over = turns_if over
last_by what.Tick over = turns_if over
last_by what.Over over = Some Over

-- the same where a line of a turn couldn't be written
abbrev pub ended_so : {E : Type 0} → Result Last E → Ended
ended_so (Ok last) = ended_by last
ended_so (Err fault) = ended.TraceFault
