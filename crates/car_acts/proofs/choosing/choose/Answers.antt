use Rattle.std.proofs.Common.{sym, subst}
use Rattle.car_spec.specs.Codecs.{codecs}
use Rattle.car_spec.specs.States.{State}
use Rattle.car_acts.specs.Sound.{CanSay}
use Rattle.car_acts.proofs.Next.{next_deed}
use Rattle.car_acts.proofs.Sound.{decided_sound}
use Rattle.car_acts.proofs.choosing.choose.Goals as goal

pub prepare-requires-clause-can : goal.prepare-requires-clause-can
prepare-requires-clause-can g c =
    let sound = decided_sound c.args.driver.now.plan c.args.driver.now.car c.requires.plan c.requires.sound in
    subst (λ (s : State). CanSay s.agenda.spoken) (sym c.decide.ensures) sound.spoken

pub returns-in-Some-clause-next : goal.returns-in-Some-clause-next
returns-in-Some-clause-next g c =
    let cs = codecs g.C.CarCoded.offers g.C.CarCoded.responds g.C.CarCoded.reads g.C.CarCoded.encodes in
    next_deed cs c.args.driver.now.plan c.args.driver.now.car c.decide.new.self c.prepare.new.room c.in-Some.deed c.decide.ensures c.in-Some.ensures
