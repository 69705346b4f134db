use Rattle.std.proofs.Common.{take, ap}
use Rattle.session_words.specs.Causes.{number_of}
use Rattle.car_acts.specs.Deeds.{act_of}
use Rattle.car_acts.proofs.deeds.Deed.done.Goals as goal

pub returns-in-Say-clause-by : goal.returns-in-Say-clause-by
returns-in-Say-clause-by c room spoken = (spoken, take c.in-Say.field-0 room, ap (act_of room spoken) c.in-Say.is)

pub returns-in-Finish-clause-by : goal.returns-in-Finish-clause-by
returns-in-Finish-clause-by c room spoken = (number_of c.in-Finish.field-0, ap (act_of room spoken) c.in-Finish.is)

pub returns-in-Seek-clause-by : goal.returns-in-Seek-clause-by
returns-in-Seek-clause-by c room spoken = (c.in-Seek.field-0, ap (act_of room spoken) c.in-Seek.is)
