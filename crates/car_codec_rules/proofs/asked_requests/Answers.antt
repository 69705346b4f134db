use Rattle.car_codec_rules.proofs.Asked as asked
use Rattle.car_codec_rules.proofs.asked_requests.Goals as goal

pub returns-clause-spelled : goal.returns-clause-spelled
returns-clause-spelled c = asked.asked_spelled

pub returns-clause-no_profile : goal.returns-clause-no_profile
returns-clause-no_profile c = asked.asked_without_profile
