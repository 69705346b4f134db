use Rattle.std.proofs.Common.{◌≡◌, ◌∷◌, ◌∙◌, ap, arith}
use Rattle.post_spec.specs.Codecs.{codecs}
use Rattle.car_spec.specs.Codecs as car_codecs
use Rattle.pair_talk.specs.Sides.{Sides, sides}
use Rattle.pipe_spec.specs.Histories.{CarComes}
use Rattle.pair_talk.proofs.Sessions.{came_at, came_sound, ends_by}
use Rattle.pair_talk.proofs.Steps.{at_same, goes_on, then}
use Rattle.pair_talk.proofs.session.hold_session.Goals as goal

pub answer-requires : goal.answer-requires
answer-requires g c = came_sound g.C.Coded.reads (sides c.args.pair.now) (sides c.come.new.self) c.requires.ready c.requires.rules c.requires.few c.requires.quiet c.come.ensures

pub go_on-requires-clause-early : goal.go_on-requires-clause-early
go_on-requires-clause-early g c =
    let m : (sides c.answer.new.pair).moment ≡ (sides c.args.pair.now).moment = c.answer.ensures.kept.moment_is ∙ ap (λ (s : Sides). s.moment) c.come.ensures in
    let early = c.requires.early in
    omega (arith, m, early)

pub returns-clause-ends : goal.returns-clause-ends
returns-clause-ends g c st plan before k =
    let cs = codecs g.C.Coded.negotiates g.C.Coded.reads g.C.Coded.encodes in
    let ccs = car_codecs.codecs g.D.CarCoded.offers g.D.CarCoded.responds g.D.CarCoded.reads g.D.CarCoded.encodes in
    let h = CarComes plan ∷ before in
    let came = at_same cs ccs st plan h _ (sides c.come.new.self) c.come.ensures (came_at cs ccs st plan before (sides c.args.pair.now) k) in
    let a = goes_on cs ccs st plan h (sides c.answer.new.pair) (c.answer.ensures.acts st plan h came) in
    let b = then cs ccs st plan h (sides c.answer.new.pair) (sides c.go_on.new.pair) a (c.go_on.ensures.goes st plan _ a.at) in
    ends_by cs ccs st plan before (sides c.go_on.new.pair) c.go_on.ensures.sound c.go_on.ensures.post c.go_on.ensures.car c.go_on.ensures.over b
