use Rattle.post_spec.specs.Codecs.{codecs}
use Rattle.car_spec.specs.Codecs as car_codecs
use Rattle.pair_talk.specs.Sides.{sides}
use Rattle.pair_talk.proofs.Pipes.{going_by, awaits_by, at_by, left_by_part, left_before, over_there}
use Rattle.pair_talk.proofs.piping.leave.Goals as goal

pub returns-then-has_come-clause-leaves : goal.returns-then-has_come-clause-leaves
returns-then-has_come-clause-leaves g c st plan h rest k =
    let cs = codecs g.C.Coded.negotiates g.C.Coded.reads g.C.Coded.encodes in
    let ccs = car_codecs.codecs g.D.CarCoded.offers g.D.CarCoded.responds g.D.CarCoded.reads g.D.CarCoded.encodes in
    let s = sides c.args.pair.now in
    let going = going_by g.C.Coded.reads c.args.has_come s c.if-has_come.true c.requires.ready in
    let at = at_by cs ccs st plan h c.args.has_come s c.if-has_come.true k in
    left_by_part cs ccs st plan h (sides c.part.new.pair) (c.part.ensures.parts st plan h (over_there cs ccs st plan h s going (c.requires.over c.if-has_come.true) at))

pub returns-else-has_come-clause-leaves : goal.returns-else-has_come-clause-leaves
returns-else-has_come-clause-leaves g c st plan h rest k =
    let cs = codecs g.C.Coded.negotiates g.C.Coded.reads g.C.Coded.encodes in
    let ccs = car_codecs.codecs g.D.CarCoded.offers g.D.CarCoded.responds g.D.CarCoded.reads g.D.CarCoded.encodes in
    let s = sides c.args.pair.now in
    left_before cs ccs st plan h s rest (awaits_by cs ccs st plan h c.args.has_come s c.if-has_come.false k)
