use Rattle.site_codec_laws.proofs.Lawful as laws
use Rattle.site_codec_laws.proofs.codecs_are_lawful.Goals as goal

pub returns-clause-reads_back : goal.returns-clause-reads_back
returns-clause-reads_back c = laws.reads_back

pub returns-clause-determined : goal.returns-clause-determined
returns-clause-determined c = laws.are_determined

pub returns-clause-judges : goal.returns-clause-judges
returns-clause-judges c = laws.judges_all
