use Rattle.std.proofs.Common.{◌∷◌}
use Rattle.post_spec.specs.Codecs.{codecs}
use Rattle.car_spec.specs.Codecs as car_codecs
use Rattle.pipe_spec.specs.Histories.{CarComes}
use Rattle.pair_talk.specs.Sides.{sides}
use Rattle.pair_talk.proofs.Pipes.{waiting_by, awaits_by, begins_first, begun_before}
use Rattle.pair_talk.proofs.Sessions.{came_at, came_sound}
use Rattle.pair_talk.proofs.Steps.{at_same}
use Rattle.pair_talk.proofs.piping.begin.Goals as goal

pub answer-requires : goal.answer-requires
answer-requires g c =
    let w = waiting_by g.C.Coded.reads c.args.has_come (sides c.args.pair.now) c.if-not-has_come.true c.requires.ready in
    came_sound g.C.Coded.reads (sides c.args.pair.now) (sides c.come.new.self) w.ready w.rules w.turns w.quiet c.come.ensures

pub returns-then-not-has_come-clause-begins : goal.returns-then-not-has_come-clause-begins
returns-then-not-has_come-clause-begins g c st plan h k =
    let cs = codecs g.C.Coded.negotiates g.C.Coded.reads g.C.Coded.encodes in
    let ccs = car_codecs.codecs g.D.CarCoded.offers g.D.CarCoded.responds g.D.CarCoded.reads g.D.CarCoded.encodes in
    let s = sides c.args.pair.now in
    let a = awaits_by cs ccs st plan h c.args.has_come s c.if-not-has_come.true k in
    let came = at_same cs ccs st plan (CarComes plan ∷ h) _ (sides c.come.new.self) c.come.ensures (came_at cs ccs st plan h s a) in
    begins_first cs ccs st plan h c.args.has_come (sides c.answer.new.pair) c.if-not-has_come.true (c.answer.ensures.acts st plan (CarComes plan ∷ h) came)

pub returns-else-not-has_come-clause-begins : goal.returns-else-not-has_come-clause-begins
returns-else-not-has_come-clause-begins g c st plan h k =
    let cs = codecs g.C.Coded.negotiates g.C.Coded.reads g.C.Coded.encodes in
    let ccs = car_codecs.codecs g.D.CarCoded.offers g.D.CarCoded.responds g.D.CarCoded.reads g.D.CarCoded.encodes in
    begun_before cs ccs st plan h c.args.has_come (sides c.args.pair.now) c.if-not-has_come.false k
