use Rattle.site_codec_rules.proofs.Given as given
use Rattle.site_codec_rules.proofs.given_replies.Goals as goal

pub returns-clause-spelled : goal.returns-clause-spelled
returns-clause-spelled c = given.given_spelled

pub returns-clause-brief : goal.returns-clause-brief
returns-clause-brief c = given.given_brief
