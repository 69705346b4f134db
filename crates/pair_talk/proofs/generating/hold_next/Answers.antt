use Rattle.std.proofs.Common.{◌∷◌, ◌++◌, sym, ap, subst, arith}
use Rattle.post_spec.specs.Codecs.{codecs}
use Rattle.station_spec.specs.Next.{IsQuiet}
use Rattle.car_spec.specs.Codecs as car_codecs
use Rattle.pipe_spec.specs.Histories.{NumberIsDrawn}
use Rattle.pair_ends.specs.Ends.{PostSide, IsReadySide}
use Rattle.pair_talk.specs.Sides.{Sides, sides}
use Rattle.pair_talk.proofs.Generated.{draw_sound, draw_over, next_are_held}
use Rattle.pair_talk.proofs.Partings.{awaits_next}
use Rattle.pair_talk.proofs.generating.hold_next.Goals as goal

pub part-requires-clause-sound : goal.part-requires-clause-sound
part-requires-clause-sound g c = draw_sound g.C.Coded.reads (sides c.args.pair.now) c.drawn_car-car.new.numbers c.requires.sound

pub hold_session-requires-clause-ready : goal.hold_session-requires-clause-ready
hold_session-requires-clause-ready g c = subst (IsReadySide g.C.Coded.reads) (sym (ap (λ (x : Sides). x.post) c.take.ensures.plan)) c.part.ensures.sound.ready

pub hold_session-requires-clause-few : goal.hold_session-requires-clause-few
hold_session-requires-clause-few g c =
    let t = ap (λ (x : Sides). x.turns) c.take.ensures.plan in
    let few = c.part.ensures.sound.turns in
    omega (arith, t, few)

pub hold_session-requires-clause-quiet : goal.hold_session-requires-clause-quiet
hold_session-requires-clause-quiet g c = subst (λ (p : PostSide). IsQuiet p.plan p.post) (sym (ap (λ (x : Sides). x.post) c.take.ensures.plan)) c.part.ensures.quiet

pub hold_session-requires-clause-early : goal.hold_session-requires-clause-early
hold_session-requires-clause-early g c =
    let m = ap (λ (x : Sides). x.moment) c.take.ensures.plan in
    let t = c.part.ensures.time in
    let early = c.requires.early in
    omega (arith, m, t, early)

pub returns-clause-held : goal.returns-clause-held
returns-clause-held g c seed count k =
    let cs = codecs g.C.Coded.negotiates g.C.Coded.reads g.C.Coded.encodes in
    let ccs = car_codecs.codecs g.D.CarCoded.offers g.D.CarCoded.responds g.D.CarCoded.reads g.D.CarCoded.encodes in
    let plan = c.drawn_car-car.result in
    let s = sides c.args.pair.now in
    let mid = sides c.part.new.pair in
    let h = NumberIsDrawn ∷ NumberIsDrawn ∷ k.history in
    let p = c.part.ensures.parts k.station k.plan h (draw_over cs ccs k.station k.plan k.history s c.drawn_car-car.new.numbers c.drawn_car-car.ensures.numbers k.over) in
    let a = awaits_next cs ccs k.station k.plan plan h mid (sides c.take.new.self) c.take.ensures.plan p in
    let e = c.hold_session.ensures.ends k.station plan (p.gone ++ h) a in
    next_are_held cs ccs plan seed count s (sides c.hold_session.new.pair) c.drawn_car-car.ensures.car c.hold_session.ensures.sound.turns k k.plan mid p e
