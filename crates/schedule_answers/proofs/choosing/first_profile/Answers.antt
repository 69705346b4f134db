use Rattle.schedule_answers.proofs.Answering.{missed_more, missed_all, first_answer}
use Rattle.schedule_answers.proofs.choosing.first_profile.Goals as goal

pub returns-in-Some : goal.returns-in-Some
returns-in-Some c =
    first_answer c.args.need c.args.tuples.now c.loop-tuple.tuple-index c.tuple-item.result c.in-Some.profile c.loop-tuple-test.true c.tuple-item.is
    c.loop-tuple.invariant c.in-Some.ensures

pub loop-tuple-preserved : goal.loop-tuple-preserved
loop-tuple-preserved c =
    missed_more c.args.need c.args.tuples.now c.loop-tuple.tuple-index c.tuple-item.result c.loop-tuple-test.true c.tuple-item.is
    c.loop-tuple.invariant c.in-None.ensures

pub returns : goal.returns
returns c = missed_all c.args.need c.args.tuples.now c.loop-tuple.tuple-index c.loop-tuple-test.false c.loop-tuple.invariant
