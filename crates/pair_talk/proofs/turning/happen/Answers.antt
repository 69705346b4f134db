use Rattle.std.proofs.Common.{sym, subst}
use Rattle.plant_sim.specs.Charger.{Charger, NoneReached}
use Rattle.post_spec.specs.Codecs.{codecs}
use Rattle.car_spec.specs.Codecs as car_codecs
use Rattle.pair_talk.specs.Sides.{sides}
use Rattle.pair_talk.proofs.Happened.{told, told_heard, told_sound}
use Rattle.pair_talk.proofs.Steps.{at_same}
use Rattle.pair_talk.proofs.turning.happen.Goals as goal

pub returns-in-Some-clause-goes : goal.returns-in-Some-clause-goes
returns-in-Some-clause-goes g c st plan h k =
    let cs = codecs g.C.Coded.negotiates g.C.Coded.reads g.C.Coded.encodes in
    let ccs = car_codecs.codecs g.D.CarCoded.offers g.D.CarCoded.responds g.D.CarCoded.reads g.D.CarCoded.encodes in
    let s = sides c.args.pair.now in
    told cs ccs st plan h s (sides c.tell.new.self) c.in-Some.event c.next.new.self _ (told_heard (sides c.args.pair.now) (sides c.tell.new.self) c.in-Some.event c.next.new.self _ c.tell.ensures c.of.ensures) c.requires.sound c.requires.post c.requires.car c.requires.goes_on c.in-Some.ensures c.tell.ensures k

pub returns-in-Some-clause-sound : goal.returns-in-Some-clause-sound
returns-in-Some-clause-sound g c = told_sound g.C.Coded.reads (sides c.args.pair.now) (sides c.tell.new.self) c.in-Some.event c.next.new.self c.bound_event.ensures c.requires.post c.tell.ensures c.requires.sound

pub returns-in-None-clause-goes : goal.returns-in-None-clause-goes
returns-in-None-clause-goes g c st plan h k =
    let cs = codecs g.C.Coded.negotiates g.C.Coded.reads g.C.Coded.encodes in
    let ccs = car_codecs.codecs g.D.CarCoded.offers g.D.CarCoded.responds g.D.CarCoded.reads g.D.CarCoded.encodes in
    let s = sides c.args.pair.now in
    let e = c.in-None.ensures.1 in
    let new = c.next.new.self in
    let there = at_same cs ccs st plan h s (record s { post = record s.post { charger = new } }) (λ i. record s { post = record s.post { charger = e i } }) k in
    c.pass_on.ensures.goes st plan h there (subst (λ (x : Charger). NoneReached x.moments s.moment) (sym e) c.in-None.ensures.0)
