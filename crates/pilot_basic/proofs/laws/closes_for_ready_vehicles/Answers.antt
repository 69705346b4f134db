use Rattle.contactor.specs.Calls.{acts_of}
use Rattle.pilot_basic.specs.Machine.{calls_of}
use Rattle.pilot_basic.proofs.CloseLaws.{live_by_last, closed_when_ready}
use Rattle.pilot_basic.proofs.laws.closes_for_ready_vehicles.Goals as goal

pub returns : goal.returns
returns c = λ past run close. closed_when_ready past run (live_by_last (acts_of (calls_of past)) close)
