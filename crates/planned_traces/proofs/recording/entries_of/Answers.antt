use Rattle.planned_traces.proofs.Readings.{all_of}
use Rattle.planned_traces.proofs.recording.entries_of.Goals as goal

pub returns-clause-of : goal.returns-clause-of
returns-clause-of c = all_of c.args.posts c.args.bytes.now c.trace_of.result c.trace_of.ensures.read
