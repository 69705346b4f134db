use Rattle.std.proofs.Common.{sym, ◌∙◌}
use Rattle.post_spec.specs.Codecs.{codecs}
use Rattle.car_spec.specs.Codecs as car_codecs
use Rattle.pair_talk.specs.Sides.{sides}
use Rattle.pair_talk.proofs.Happened.{station_heard, car_heard, waited, station_sound, heard_car_sound, later_sound, car_less}
use Rattle.pair_talk.proofs.turning.pass_on.Goals as goal

pub returns-then-not-is_empty-clause-goes : goal.returns-then-not-is_empty-clause-goes
returns-then-not-is_empty-clause-goes g c st plan h k none =
    let cs = codecs g.C.Coded.negotiates g.C.Coded.reads g.C.Coded.encodes in
    let ccs = car_codecs.codecs g.D.CarCoded.offers g.D.CarCoded.responds g.D.CarCoded.reads g.D.CarCoded.encodes in
    let s = sides c.args.pair.now in
    station_heard cs ccs st plan h s (sides c.station_hears.new.self) _ c.station_hears.ensures.heard c.requires.sound c.requires.post c.requires.car c.requires.goes_on none (sym c.is_empty.ensures ∙ c.if-not-is_empty.true) c.station_hears.ensures.sides k

pub returns-then-not-is_empty-clause-sound : goal.returns-then-not-is_empty-clause-sound
returns-then-not-is_empty-clause-sound g c = station_sound g.C.Coded.reads (sides c.args.pair.now) (sides c.station_hears.new.self) c.requires.post c.station_hears.ensures.sides c.requires.sound

pub returns-then-not-is_empty-2-clause-goes : goal.returns-then-not-is_empty-2-clause-goes
returns-then-not-is_empty-2-clause-goes g c st plan h k none =
    let cs = codecs g.C.Coded.negotiates g.C.Coded.reads g.C.Coded.encodes in
    let ccs = car_codecs.codecs g.D.CarCoded.offers g.D.CarCoded.responds g.D.CarCoded.reads g.D.CarCoded.encodes in
    let s = sides c.args.pair.now in
    car_heard cs ccs st plan h s (sides c.car_hears.new.self) _ c.nothing.ensures c.requires.sound c.requires.post c.requires.car c.requires.goes_on none (sym c.is_empty.ensures ∙ c.if-not-is_empty.false)
    (sym c.is_empty-else-not-is_empty.ensures ∙ c.if-not-is_empty-2.true) c.car_hears.ensures k

pub returns-then-not-is_empty-2-clause-sound : goal.returns-then-not-is_empty-2-clause-sound
returns-then-not-is_empty-2-clause-sound g c = heard_car_sound g.C.Coded.reads (sides c.args.pair.now) (sides c.car_hears.new.self) c.car_hears.ensures c.requires.sound

pub returns-then-not-is_empty-2-clause-lessens : goal.returns-then-not-is_empty-2-clause-lessens
returns-then-not-is_empty-2-clause-lessens g c =
    car_less g.C.Coded.reads (sides c.args.pair.now) (sides c.car_hears.new.self) c.requires.sound c.requires.goes_on c.requires.post (sym c.is_empty-else-not-is_empty.ensures ∙ c.if-not-is_empty-2.true) c.car_hears.ensures

pub returns-else-not-is_empty-2-clause-goes : goal.returns-else-not-is_empty-2-clause-goes
returns-else-not-is_empty-2-clause-goes g c st plan h k none =
    let cs = codecs g.C.Coded.negotiates g.C.Coded.reads g.C.Coded.encodes in
    let ccs = car_codecs.codecs g.D.CarCoded.offers g.D.CarCoded.responds g.D.CarCoded.reads g.D.CarCoded.encodes in
    let s = sides c.args.pair.now in
    waited cs ccs st plan h s (sides c.wait.new.self) _ c.of.ensures c.requires.sound c.requires.post c.requires.car c.requires.goes_on none (sym c.is_empty.ensures ∙ c.if-not-is_empty.false)
    (sym c.is_empty-else-not-is_empty.ensures ∙ c.if-not-is_empty-2.false) c.wait.ensures k

pub returns-else-not-is_empty-2-clause-sound : goal.returns-else-not-is_empty-2-clause-sound
returns-else-not-is_empty-2-clause-sound g c = later_sound g.C.Coded.reads (sides c.args.pair.now) (sides c.wait.new.self) c.requires.post c.wait.ensures c.requires.sound
