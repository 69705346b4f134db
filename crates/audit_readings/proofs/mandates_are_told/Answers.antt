use Rattle.faultless_pasts.specs.Faultless.{told_codecs}
use Rattle.faultless_pasts.proofs.Checks.{faultless_is_safe}
use Rattle.audit_mandates.proofs.Telling.{starts_tell}
use Rattle.audit_readings.proofs.Once.{starts_told}
use Rattle.audit_readings.proofs.mandates_are_told.Goals as goal

pub returns-clause-starts : goal.returns-clause-starts
returns-clause-starts g c = starts_told (told_codecs g.R.Coded.negotiates g.R.Coded.reads g.R.Coded.encodes g.R.ToldCoded.responds g.R.ToldCoded.watts) g.met.R.ToldReader.determined g.met.R.ToldReader.judges_first g.met.R.ToldReader.judges_later

pub returns-clause-mandated : goal.returns-clause-mandated
returns-clause-mandated g c = λ site.
    starts_tell (told_codecs g.R.Coded.negotiates g.R.Coded.reads g.R.Coded.encodes g.R.ToldCoded.responds g.R.ToldCoded.watts) site
    (starts_told (told_codecs g.R.Coded.negotiates g.R.Coded.reads g.R.Coded.encodes g.R.ToldCoded.responds g.R.ToldCoded.watts) g.met.R.ToldReader.determined g.met.R.ToldReader.judges_first g.met.R.ToldReader.judges_later site)

pub returns-clause-safe : goal.returns-clause-safe
returns-clause-safe g c = λ site past none.
    faultless_is_safe (told_codecs g.R.Coded.negotiates g.R.Coded.reads g.R.Coded.encodes g.R.ToldCoded.responds g.R.ToldCoded.watts) site past
    (starts_tell (told_codecs g.R.Coded.negotiates g.R.Coded.reads g.R.Coded.encodes g.R.ToldCoded.responds g.R.ToldCoded.watts) site
    (starts_told (told_codecs g.R.Coded.negotiates g.R.Coded.reads g.R.Coded.encodes g.R.ToldCoded.responds g.R.ToldCoded.watts) g.met.R.ToldReader.determined g.met.R.ToldReader.judges_first g.met.R.ToldReader.judges_later site))
    none
