use Rattle.wire_events.proofs.Closer.{turns_come_closer}
use Rattle.wire_events.proofs.law.law_of_turns.Goals as goal

pub returns : goal.returns
returns c = turns_come_closer
