use Rattle.pair_readings.proofs.Codecs as codecs
use Rattle.pair_readings.proofs.ends_understand_each_other.Goals as goal

pub returns-clause-requests : goal.returns-clause-requests
returns-clause-requests g c = codecs.requests_are_heard _ _

pub returns-clause-replies : goal.returns-clause-replies
returns-clause-replies g c = codecs.replies_are_heard _ _
