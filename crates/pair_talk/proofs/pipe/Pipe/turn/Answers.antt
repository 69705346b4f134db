use Rattle.std.proofs.Common.{true, sym, subst}
use Rattle.post_spec.specs.Codecs.{codecs}
use Rattle.car_spec.specs.Codecs as car_codecs
use Rattle.pair_talk.specs.Pipes.{PipeState, StandsFor, Turns, begun}
use Rattle.pair_talk.specs.Sides.{sides}
use Rattle.pair_talk.specs.Turning.{last_hearing}
use Rattle.pair_talk.proofs.Pipes.{turns}
use Rattle.pair_talk.proofs.pipe.Pipe.turn.Goals as goal

pub returns-clause-turns : goal.returns-clause-turns
returns-clause-turns g c st plan h k =
    let cs = codecs g.C.Coded.negotiates g.C.Coded.reads g.C.Coded.encodes in
    let ccs = car_codecs.codecs g.D.CarCoded.offers g.D.CarCoded.responds g.D.CarCoded.reads g.D.CarCoded.encodes in
    let before = c.self.inside in
    let new : PipeState = record { sides = sides c.turn_on.new.pair; has_come = true; heard = last_hearing c.turn_on.new.last } in
    let there = subst (StandsFor cs ccs st plan h) (sym c.self.view_is) k in
    subst (λ (p : PipeState). Turns cs ccs st plan (begun p.has_come plan h) new) c.self.view_is
    (turns cs ccs st plan (begun before.has_come plan h) (sides c.begin.new.pair) (last_hearing before.last) new there.heard_is (c.begin.ensures.begins st plan h there.keeps) (λ k at e. c.turn_on.ensures.turns st plan k at e))
