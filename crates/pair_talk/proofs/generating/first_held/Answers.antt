use Rattle.std.proofs.Common.{ℕ, [], ◌∷◌, ◌∙◌, sym, ap, subst, arith}
use Rattle.post_spec.specs.Codecs.{codecs}
use Rattle.station_spec.specs.Next.{IsQuiet}
use Rattle.car_spec.specs.Codecs as car_codecs
use Rattle.pipe_spec.specs.Histories.{NumberIsDrawn, joined, ported}
use Rattle.pair_ends.specs.Ends.{PostSide, IsReadySide}
use Rattle.pair_talk.specs.Sides.{Sides, sides, with_plan}
use Rattle.pair_talk.proofs.Generated.{first_awaits, first_are_held}
use Rattle.pair_talk.proofs.Sessions.{new_ready, new_quiet}
use Rattle.pair_talk.proofs.generating.first_held.Goals as goal

pub hold_session-requires-clause-ready : goal.hold_session-requires-clause-ready
hold_session-requires-clause-ready g c =
    let s = sides c.in_ok-pair.pair in
    subst (IsReadySide g.C.Coded.reads) (sym (ap (λ (x : Sides). x.post) c.take.ensures.plan)) (new_ready g.C.Coded.reads c.fixed.result c.fixed_car.result c.args.seed s c.in_ok-pair.ensures)

pub hold_session-requires-clause-few : goal.hold_session-requires-clause-few
hold_session-requires-clause-few g c =
    let t = ap (λ (x : Sides). x.turns) c.take.ensures.plan in
    let few = c.in_ok-pair.ensures.few in
    omega (arith, t, few)

pub hold_session-requires-clause-quiet : goal.hold_session-requires-clause-quiet
hold_session-requires-clause-quiet g c =
    let s = sides c.in_ok-pair.pair in
    subst (λ (p : PostSide). IsQuiet p.plan p.post) (sym (ap (λ (x : Sides). x.post) c.take.ensures.plan)) (new_quiet c.fixed.result c.fixed_car.result c.args.seed s c.in_ok-pair.ensures)

pub hold_session-requires-clause-early : goal.hold_session-requires-clause-early
hold_session-requires-clause-early g c =
    let m = ap (λ (x : Sides). x.moment) c.take.ensures.plan in
    let none = c.in_ok-pair.ensures.moment_is in
    omega (arith, m, none)

pub returns-clause-held : goal.returns-clause-held
returns-clause-held g c =
    let cs = codecs g.C.Coded.negotiates g.C.Coded.reads g.C.Coded.encodes in
    let ccs = car_codecs.codecs g.D.CarCoded.offers g.D.CarCoded.responds g.D.CarCoded.reads g.D.CarCoded.encodes in
    let site = c.fixed.result in
    let old = c.fixed_car.result in
    let plan = c.drawn_car-car.result in
    let s = sides c.in_ok-pair.pair in
    let n = c.in_ok-pair.ensures in
    let taken = c.take.ensures.plan ∙ ap (λ (m : ℕ). with_plan (ported (joined plan)) (record s { number = m })) c.drawn_car-car.ensures.numbers in
    let a = first_awaits cs ccs site old plan c.args.seed s (sides c.take.new.self) n taken in
    let e = c.hold_session.ensures.ends _ plan (NumberIsDrawn ∷ NumberIsDrawn ∷ []) a in
    first_are_held cs ccs site old plan c.args.seed s (sides c.hold_session.new.pair) c.fixed.ensures.fields c.fixed.ensures.within.turns.0 n c.drawn_car-car.ensures.car c.hold_session.ensures.sound.turns e
