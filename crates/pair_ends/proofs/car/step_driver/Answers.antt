use Rattle.std.proofs.Common.{sym, subst}
use Rattle.car_spec.specs.Codecs.{codecs}
use Rattle.car_spec.specs.Deciding.{decided}
use Rattle.car_spec.specs.States.{State, first}
use Rattle.car_acts.specs.Deeds.{act_of, spoken_in, DoesNext}
use Rattle.car_acts.specs.Sound.{CanSay}
use Rattle.car_acts.proofs.Next.{next_deed}
use Rattle.car_acts.proofs.Runs.{deed_sound, deed_work}
use Rattle.car_acts.proofs.Sound.{decided_sound}
use Rattle.pair_ends.proofs.Driven.{taken, does, none_first, goes_by, sound_by, work_by}
use Rattle.pair_ends.proofs.car.step_driver.Goals as goal

pub prepare-requires-clause-can : goal.prepare-requires-clause-can
prepare-requires-clause-can g c =
    let sound = decided_sound c.args.driver.now.plan c.args.driver.now.car c.requires.plan c.requires.sound in
    subst (λ (s : State). CanSay s.agenda.spoken) (sym c.decide.ensures) sound.spoken

pub returns-in-Some-clause-goes : goal.returns-in-Some-clause-goes
returns-in-Some-clause-goes g c =
    let cs = codecs g.D.CarCoded.offers g.D.CarCoded.responds g.D.CarCoded.reads g.D.CarCoded.encodes in
    let old = c.args.driver.now in
    let mid = c.decide.new.self in
    let deed = c.in-Some.deed in
    let room = c.prepare.new.room in
    let n = next_deed cs old.plan old.car mid room deed c.decide.ensures c.in-Some.ensures in
    let d : DoesNext cs old.plan (decided old.plan old.car) room deed = n.0 in
    let act = act_of room (spoken_in d.todo) deed in
    let said = spoken_in d.todo in
    does cs old c.keep.new.driver mid room deed c.args.tally.now c.carry_out.new.tally c.args.way.now c.carry_out.new.way d c.decide.ensures c.keep.ensures.plan (c.keep.ensures.car room said)
    (c.carry_out.ensures.tally said) (c.carry_out.ensures.short said) (c.carry_out.ensures.sent said)

pub returns-in-Some-clause-sound : goal.returns-in-Some-clause-sound
returns-in-Some-clause-sound g c =
    let cs = codecs g.D.CarCoded.offers g.D.CarCoded.responds g.D.CarCoded.reads g.D.CarCoded.encodes in
    let old = c.args.driver.now in
    let mid = c.decide.new.self in
    let deed = c.in-Some.deed in
    let room = c.prepare.new.room in
    let n = next_deed cs old.plan old.car mid room deed c.decide.ensures c.in-Some.ensures in
    let d : DoesNext cs old.plan (decided old.plan old.car) room deed = n.0 in
    let act = act_of room (spoken_in d.todo) deed in
    deed_sound cs old.plan old.car mid c.keep.new.driver.car room deed _ d c.requires.plan c.requires.sound c.decide.ensures (c.keep.ensures.car room (spoken_in d.todo))

pub returns-in-Some-clause-work : goal.returns-in-Some-clause-work
returns-in-Some-clause-work g c e =
    let cs = codecs g.D.CarCoded.offers g.D.CarCoded.responds g.D.CarCoded.reads g.D.CarCoded.encodes in
    let old = c.args.driver.now in
    let mid = c.decide.new.self in
    let deed = c.in-Some.deed in
    let room = c.prepare.new.room in
    let n = next_deed cs old.plan old.car mid room deed c.decide.ensures c.in-Some.ensures in
    let d : DoesNext cs old.plan (decided old.plan old.car) room deed = n.0 in
    let act = act_of room (spoken_in d.todo) deed in
    deed_work cs old.plan old.car mid c.keep.new.driver.car room deed _ d c.law_of_acts.ensures c.requires.plan c.requires.sound (taken deed) c.decide.ensures (c.keep.ensures.car room (spoken_in d.todo))

pub returns-in-None-clause-goes : goal.returns-in-None-clause-goes
returns-in-None-clause-goes g c =
    let cs = codecs g.D.CarCoded.offers g.D.CarCoded.responds g.D.CarCoded.reads g.D.CarCoded.encodes in
    let old = c.args.driver.now in
    let mid = c.decide.new.self in
    let none = none_first cs old.plan (first mid.agenda) c.prepare.new.room c.in-None.ensures in
    goes_by cs old c.read_word.new.driver mid c.args.tally.now c.read_word.new.tally c.args.way.now c.read_word.result c.decide.ensures none c.read_word.ensures.plan c.read_word.ensures.read

pub returns-in-None-clause-sound : goal.returns-in-None-clause-sound
returns-in-None-clause-sound g c =
    let cs = codecs g.D.CarCoded.offers g.D.CarCoded.responds g.D.CarCoded.reads g.D.CarCoded.encodes in
    let old = c.args.driver.now in
    let mid = c.decide.new.self in
    let none = none_first cs old.plan (first mid.agenda) c.prepare.new.room c.in-None.ensures in
    sound_by cs old.plan old.car mid c.read_word.new.driver.car c.args.tally.now c.read_word.new.tally c.read_word.result g.met.D.CarCodec.chooses_offered c.requires.plan c.requires.sound c.decide.ensures none c.read_word.ensures.read

pub returns-in-None-clause-work : goal.returns-in-None-clause-work
returns-in-None-clause-work g c e =
    let cs = codecs g.D.CarCoded.offers g.D.CarCoded.responds g.D.CarCoded.reads g.D.CarCoded.encodes in
    let old = c.args.driver.now in
    let mid = c.decide.new.self in
    work_by cs old.plan old.car mid c.read_word.new.driver.car c.args.tally.now c.read_word.new.tally c.read_word.result c.law_of_words.ensures c.requires.plan c.decide.ensures c.read_word.ensures.read e
