use Rattle.std.proofs.Common.{arith}
use Rattle.payload_commands.proofs.ScheduleTexts.{text_in, memory_in}
use Rattle.payload_commands.proofs.answers.answer_text.Goals as goal

pub answer_of-requires-clause-departs : goal.answer_of-requires-clause-departs
answer_of-requires-clause-departs c = omega (arith, c.requires.need.departs)

pub answer_of-requires-clause-day : goal.answer_of-requires-clause-day
answer_of-requires-clause-day c = c.requires.need.day

pub answer_of-requires-clause-watts : goal.answer_of-requires-clause-watts
answer_of-requires-clause-watts c = omega (arith, c.requires.need.most_watts)

pub returns-in-Ok-clause-text : goal.returns-in-Ok-clause-text
returns-in-Ok-clause-text c =
    text_in c.args.need c.args.payload.now c.in-Ok.answer c.lines_of.result c.in-Ok.ensures.answer c.lines_of.ensures.lines

pub returns-in-Ok-clause-fault : goal.returns-in-Ok-clause-fault
returns-in-Ok-clause-fault c = memory_in c.args.need c.args.payload.now c.lines_of.result c.lines_of.ensures.memory
