use Rattle.iso_codec.proofs.codec.read_iso.Goals as goal

pub returns-clause-read : goal.returns-clause-read
returns-clause-read c = c.read_here.ensures.read

pub returns-clause-refused : goal.returns-clause-refused
returns-clause-refused c = c.read_here.ensures.refused
