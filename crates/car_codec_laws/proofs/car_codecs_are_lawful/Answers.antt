use Rattle.car_codec_laws.proofs.Choices as choices
use Rattle.car_codec_laws.proofs.Lawful as laws
use Rattle.car_codec_laws.proofs.car_codecs_are_lawful.Goals as goal

pub returns-clause-reads_back : goal.returns-clause-reads_back
returns-clause-reads_back c = laws.reads_back

pub returns-clause-determined : goal.returns-clause-determined
returns-clause-determined c = laws.are_determined

pub returns-clause-offered : goal.returns-clause-offered
returns-clause-offered c = choices.chooses_offered
