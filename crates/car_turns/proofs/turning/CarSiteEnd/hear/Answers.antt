use Rattle.std.proofs.Common.{◌∙◌, arith}
use Rattle.charge_world.specs.declared.entry.Entry.{Entry}
use Rattle.charge_world.specs.declared.entry.Entry.TheVariants as entry
use Rattle.charge_world.specs.Outside.{bytes_of}
use Rattle.endpoint.specs.Knowing.{known_behind, AwaitsLine}
use Rattle.endpoint.specs.Telling.{IsTraced, IsCutHere, IsWrittenSo}
use Rattle.endpoint.proofs.Bounds.{of_eight}
use Rattle.endpoint.proofs.Carry.{carries_then, text_then, text_to}
use Rattle.endpoint.proofs.Written.{err_written}
use Rattle.end_turns.specs.Turns.{Hears}
use Rattle.car_spec.specs.Codecs.{codecs}
use Rattle.car_spec.specs.Until.{until}
use Rattle.car_acts.specs.Driving.{InRun}
use Rattle.car_turns.proofs.Heard.{hears_run, same_plan, heard_so}
use Rattle.car_turns.proofs.turning.CarSiteEnd.hear.Goals as goal

pub answer-requires-clause-plan : goal.answer-requires-clause-plan
answer-requires-clause-plan g c = rw c.take_in.ensures.plan c.requires.rests.rules

pub answer-requires-clause-sound : goal.answer-requires-clause-sound
answer-requires-clause-sound g c = rw c.take_in.ensures.plan (heard_so c.args.self.now.driver.plan c.args.self.now.driver.car c.take_in.new.driver.car c.args.now _ c.requires.lives c.requires.rests.sound c.take_in.ensures.car)

pub write_heard-requires-clause-post : goal.write_heard-requires-clause-post
write_heard-requires-clause-post g c = of_eight 1 c.args.heard.now.what (omega arith) c.requires.post

pub returns-in_err-write_heard-clause-carried : goal.returns-in_err-write_heard-clause-carried
returns-in_err-write_heard-clause-carried g c plan k goes_on left clock =
    let cs = codecs g.C.CarCoded.offers g.C.CarCoded.responds g.C.CarCoded.reads g.C.CarCoded.encodes in
    let first = c.args.self.now.driver in
    let mid = c.take_in.new.driver in
    rw c.take_in.ensures.plan
    (hears_run _ cs first.plan k first.car mid.car first.report mid.report c.args.heard.now (bytes_of c.args.heard.now.what c.args.room.now) c.args.now goes_on left c.requires.lives c.requires.rests.quiet
    c.requires.post c.take_in.ensures.bounds clock c.take_in.ensures.car c.take_in.ensures.report)

pub returns-in_err-write_heard-clause-traced : goal.returns-in_err-write_heard-clause-traced
returns-in_err-write_heard-clause-traced g c n number =
    let e : Entry = entry.Heard c.args.heard.now (bytes_of c.args.heard.now.what c.args.room.now) in
    let m = c.args.hearing in
    let r = c.from_residual.result in
    text_to _ _ _ _ (AwaitsLine n e) IsCutHere (IsWrittenSo m r) (λ past text t. err_written m r past text c.from_residual.ensures.0 t) (c.in_err-write_heard.ensures.traced n _ number)

pub returns-in_err-write_heard-clause-kept : goal.returns-in_err-write_heard-clause-kept
returns-in_err-write_heard-clause-kept g c = c.take_in.ensures.plan

pub returns-clause-traced : goal.returns-clause-traced
returns-clause-traced g c n number =
    let e : Entry = entry.Heard c.args.heard.now (bytes_of c.args.heard.now.what c.args.room.now) in
    let m = c.args.hearing in
    text_then _ _ _ _ _ _ (AwaitsLine n e) (IsTraced m) (IsWrittenSo m c.answer.result) (c.in_ok-write_heard.ensures.traced n _ number) c.answer.ensures.traced

pub returns-clause-carried : goal.returns-clause-carried
returns-clause-carried g c plan k goes_on left clock =
    let cs = codecs g.C.CarCoded.offers g.C.CarCoded.responds g.C.CarCoded.reads g.C.CarCoded.encodes in
    let first = c.args.self.now.driver in
    let mid = c.take_in.new.driver in
    let last = c.answer.new.driver in
    let bytes = bytes_of c.args.heard.now.what c.args.room.now in
    let known = known_behind k c.args.heard.now bytes (until first.plan first.car) in
    rw (c.answer.ensures.plan ∙ c.take_in.ensures.plan)
    (carries_then _ _ _ (Hears (InRun cs first.plan k first.car first.report) c.args.heard.now bytes) (InRun cs first.plan known mid.car mid.report) (InRun cs first.plan known last.car last.report)
    (hears_run _ cs first.plan k first.car mid.car first.report mid.report c.args.heard.now bytes c.args.now goes_on left c.requires.lives c.requires.rests.quiet
    c.requires.post c.take_in.ensures.bounds clock c.take_in.ensures.car c.take_in.ensures.report)
    (same_plan _ _ cs mid.plan first.plan known mid.car last.car mid.report last.report c.take_in.ensures.plan (c.answer.ensures.carried known)))

pub returns-clause-kept : goal.returns-clause-kept
returns-clause-kept g c = c.answer.ensures.plan ∙ c.take_in.ensures.plan
