use Rattle.exi_events.proofs.Shorts.{code_full}
use Rattle.exi_events.proofs.short.push_code.Goals as goal

pub returns-clause-none : goal.returns-clause-none
returns-clause-none c none bits spelled = code_full c.args.count c.index_width.result c.args.code c.args.word.now bits c.index_width.ensures.least spelled (c.push.ensures.none none)
