use Rattle.exi_reading.proofs.Places.{entered_there}
use Rattle.exi_reading.proofs.texts.enter.Goals as goal

pub returns-clause-texts : goal.returns-clause-texts
returns-clause-texts c =
    entered_there c.args.text.now c.args.table.now.entries c.args.name c.at.result c.enter.new.self c.args.table.now.cap
    c.in-Ok.ensures.ok c.at.ensures.at c.requires.kind c.requires.texts c.at.ensures.spelled
