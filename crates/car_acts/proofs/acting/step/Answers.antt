use Rattle.std.proofs.Common.{◌≡◌, ℕ, true, List, length, sym, subst, ◌∙◌, arith}
use Rattle.charge_world.specs.Outside.{GrowsByOne}
use Rattle.endpoint.specs.Telling.{IsTraced, IsWrittenSo}
use Rattle.endpoint.proofs.Carry.{carries_none, carries_one, text_to, done_so}
use Rattle.car_spec.specs.Codecs.{codecs}
use Rattle.car_spec.specs.Deciding.{decided}
use Rattle.car_spec.specs.States.{State}
use Rattle.car_spec.specs.Steps.{entry_of}
use Rattle.car_acts.specs.Deeds.{act_of, spoken_in, DoesNext}
use Rattle.car_acts.specs.Driving.{InRun}
use Rattle.car_acts.proofs.Next.{deed_seeks, room_is}
use Rattle.car_acts.proofs.Runs.{rests_run, read_run, deed_run, rests_sound, read_sounds, deed_sound, rests_quiet, read_work, deed_work}
use Rattle.car_acts.proofs.acting.step.Goals as goal

pub returns-in-Rest-clause-carried : goal.returns-in-Rest-clause-carried
returns-in-Rest-clause-carried g c k =
    let cs = codecs g.C.CarCoded.offers g.C.CarCoded.responds g.C.CarCoded.reads g.C.CarCoded.encodes in
    let old = c.args.driver.now in
    let new = c.choose.new.driver in
    carries_none _ (InRun cs old.plan k old.car old.report) (InRun cs old.plan k new.car new.report)
    (λ past r. rests_run cs old.plan k old.car new.car old.report new.report past c.in-Rest.ensures.next.0 c.in-Rest.ensures.next.1 c.choose.ensures.report r)

pub returns-in-Rest-clause-sound : goal.returns-in-Rest-clause-sound
returns-in-Rest-clause-sound g c = rests_sound c.args.driver.now.plan c.args.driver.now.car c.choose.new.driver.car c.requires.sound c.in-Rest.ensures.next.0 c.in-Rest.ensures.next.1

pub returns-in-Rest-clause-quiet : goal.returns-in-Rest-clause-quiet
returns-in-Rest-clause-quiet g c e = rests_quiet c.args.driver.now.plan c.args.driver.now.car c.choose.new.driver.car c.in-Rest.ensures.next.0 c.in-Rest.ensures.next.1

pub returns-in-Read-clause-carried : goal.returns-in-Read-clause-carried
returns-in-Read-clause-carried g c k =
    let cs = codecs g.C.CarCoded.offers g.C.CarCoded.responds g.C.CarCoded.reads g.C.CarCoded.encodes in
    let old = c.args.driver.now in
    let new = c.choose.new.driver in
    carries_none _ (InRun cs old.plan k old.car old.report) (InRun cs old.plan k new.car new.report)
    (λ past r. read_run cs old.plan k old.car new.car old.report new.report past c.in-Read.ensures.next.1 c.choose.ensures.report r)

pub returns-in-Read-clause-sound : goal.returns-in-Read-clause-sound
returns-in-Read-clause-sound g c =
    let cs = codecs g.C.CarCoded.offers g.C.CarCoded.responds g.C.CarCoded.reads g.C.CarCoded.encodes in
    read_sounds cs c.args.driver.now.plan c.args.driver.now.car c.choose.new.driver.car g.met.C.CarCodec.chooses_offered c.requires.plan c.requires.sound c.in-Read.ensures.next.1

pub returns-in-Read-clause-work : goal.returns-in-Read-clause-work
returns-in-Read-clause-work g c e =
    let cs = codecs g.C.CarCoded.offers g.C.CarCoded.responds g.C.CarCoded.reads g.C.CarCoded.encodes in
    read_work cs c.args.driver.now.plan c.args.driver.now.car c.choose.new.driver.car c.law_of_words.ensures c.requires.plan c.in-Read.ensures.next.1

pub keep-requires : goal.keep-requires
keep-requires g c e =
    let cs = codecs g.C.CarCoded.offers g.C.CarCoded.responds g.C.CarCoded.reads g.C.CarCoded.encodes in
    let old = c.args.driver.now in
    subst (λ (s : State). s.agenda.seeks ≡ true) (sym c.in-Do.ensures.next.1) (deed_seeks cs old.plan (decided old.plan old.car) c.choose.new.room c.in-Do.deed c.in-Do.ensures.next.0 e)

pub returns-in-Do-clause-carried : goal.returns-in-Do-clause-carried
returns-in-Do-clause-carried g c k =
    let cs = codecs g.C.CarCoded.offers g.C.CarCoded.responds g.C.CarCoded.reads g.C.CarCoded.encodes in
    let old = c.args.driver.now in
    let mid = c.choose.new.driver in
    let new = c.keep.new.driver in
    let room = c.as_slice.result.now in
    let deed = c.in-Do.deed in
    let taken = c.perform-outcome.result.taken in
    let count : length c.choose.new.room ≡ c.args.desk.now.room.len = omega (arith, c.choose.auto.room, c.as_mut_slice.ensures.len) in
    let d = subst (λ (r : List ℕ). DoesNext cs old.plan (decided old.plan old.car) r deed) (sym (c.as_slice.ensures.value ∙ room_is c.choose.new.room _ _ count)) c.in-Do.ensures.next.0 in
    let e = entry_of (act_of room (spoken_in d.todo) deed) taken in
    let grown = subst (GrowsByOne (g.W.Wire.past c.args.wire.now) (g.W.Wire.past c.perform-outcome.new.wire)) (c.call-call.ensures.entry (spoken_in d.todo) taken) c.perform-outcome.ensures.grown in
    carries_one _ _ e (InRun cs old.plan k old.car old.report) (InRun cs old.plan k new.car new.report) grown
    (λ past r. deed_run cs old.plan k old.car mid.car new.car old.report mid.report new.report past room deed taken d (c.call-call.ensures.may taken c.perform-outcome.ensures.may) c.in-Do.ensures.next.1 c.choose.ensures.report
    (c.keep.ensures.car room (spoken_in d.todo)) c.keep.ensures.report r)

pub returns-in-Do-clause-traced : goal.returns-in-Do-clause-traced
returns-in-Do-clause-traced g c =
    let written = c.perform-outcome.result.written in
    text_to _ _ _ _ (IsTraced c.args.hearing) (IsWrittenSo c.args.hearing written) (IsWrittenSo c.args.hearing c.done.result)
    (λ past text h. done_so c.args.hearing written c.done.result past text c.done.ensures.ok c.done.ensures.failed h) c.perform-outcome.ensures.traced

pub returns-in-Do-clause-plan : goal.returns-in-Do-clause-plan
returns-in-Do-clause-plan g c = c.keep.ensures.plan ∙ c.choose.ensures.plan

pub returns-in-Do-clause-sound : goal.returns-in-Do-clause-sound
returns-in-Do-clause-sound g c =
    let cs = codecs g.C.CarCoded.offers g.C.CarCoded.responds g.C.CarCoded.reads g.C.CarCoded.encodes in
    let old = c.args.driver.now in
    let mid = c.choose.new.driver in
    let new = c.keep.new.driver in
    let room = c.as_slice.result.now in
    let deed = c.in-Do.deed in
    let taken = c.perform-outcome.result.taken in
    let count : length c.choose.new.room ≡ c.args.desk.now.room.len = omega (arith, c.choose.auto.room, c.as_mut_slice.ensures.len) in
    let d = subst (λ (r : List ℕ). DoesNext cs old.plan (decided old.plan old.car) r deed) (sym (c.as_slice.ensures.value ∙ room_is c.choose.new.room _ _ count)) c.in-Do.ensures.next.0 in
    deed_sound cs old.plan old.car mid.car new.car room deed taken d c.requires.plan c.requires.sound c.in-Do.ensures.next.1 (c.keep.ensures.car room (spoken_in d.todo))

pub returns-in-Do-clause-work : goal.returns-in-Do-clause-work
returns-in-Do-clause-work g c e =
    let cs = codecs g.C.CarCoded.offers g.C.CarCoded.responds g.C.CarCoded.reads g.C.CarCoded.encodes in
    let old = c.args.driver.now in
    let mid = c.choose.new.driver in
    let new = c.keep.new.driver in
    let room = c.as_slice.result.now in
    let deed = c.in-Do.deed in
    let taken = c.perform-outcome.result.taken in
    let count : length c.choose.new.room ≡ c.args.desk.now.room.len = omega (arith, c.choose.auto.room, c.as_mut_slice.ensures.len) in
    let d = subst (λ (r : List ℕ). DoesNext cs old.plan (decided old.plan old.car) r deed) (sym (c.as_slice.ensures.value ∙ room_is c.choose.new.room _ _ count)) c.in-Do.ensures.next.0 in
    deed_work cs old.plan old.car mid.car new.car room deed taken d c.law_of_acts.ensures c.requires.plan c.requires.sound (c.call-call.ensures.may taken c.perform-outcome.ensures.may) c.in-Do.ensures.next.1 (c.keep.ensures.car room (spoken_in d.todo))
