use Rattle.std.proofs.Common.{sym, ◌∙◌}
use Rattle.post_spec.specs.Codecs.{codecs}
use Rattle.car_spec.specs.Codecs as car_codecs
use Rattle.pair_talk.specs.Sides.{sides}
use Rattle.pair_talk.proofs.Pipes.{turn_keeps, turns_once, turns_none}
use Rattle.pair_talk.proofs.piping.turn_on.Goals as goal

pub returns-then-not-is_over-clause-turns : goal.returns-then-not-is_over-clause-turns
returns-then-not-is_over-clause-turns g c st plan h k e =
    let cs = codecs g.C.Coded.negotiates g.C.Coded.reads g.C.Coded.encodes in
    let ccs = car_codecs.codecs g.D.CarCoded.offers g.D.CarCoded.responds g.D.CarCoded.reads g.D.CarCoded.encodes in
    turns_once cs ccs st plan h (sides c.args.pair.now) (sides c.turn.new.pair) _ (sym c.is_over.ensures ∙ c.if-not-is_over.true) c.requires.going.sound k (turn_keeps g.C.Coded.reads (sides c.args.pair.now) (sides c.turn.new.pair) c.requires.going.early c.turn.ensures.sound c.turn.ensures.post c.turn.ensures.car c.turn.ensures.time) (c.turn.ensures.goes st plan h k)

pub returns-else-not-is_over-clause-turns : goal.returns-else-not-is_over-clause-turns
returns-else-not-is_over-clause-turns g c st plan h k e =
    let cs = codecs g.C.Coded.negotiates g.C.Coded.reads g.C.Coded.encodes in
    let ccs = car_codecs.codecs g.D.CarCoded.offers g.D.CarCoded.responds g.D.CarCoded.reads g.D.CarCoded.encodes in
    turns_none cs ccs st plan h (sides c.args.pair.now) _ (sym c.is_over.ensures ∙ c.if-not-is_over.false) c.requires.going k e
