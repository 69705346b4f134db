use Rattle.std.proofs.Common.{◌<◌, Ok, sym, ap, subst, ◌∙◌, arith}
use Rattle.session_words.specs.declared.plan.CarPlan.{CarPlan}
use Rattle.endpoint.specs.Telling.{IsTraced, IsCutHere, IsWrittenSo}
use Rattle.endpoint.proofs.Carry.{carries_then, text_then, text_to}
use Rattle.endpoint.proofs.Faults.{fault_ok, text_told}
use Rattle.endpoint.proofs.Written.{err_written}
use Rattle.car_codec.specs.Requests.{IsPlan}
use Rattle.car_spec.specs.Codecs.{codecs}
use Rattle.evcc_machine.specs.Work.{work}
use Rattle.car_acts.specs.Driving.{InRun}
use Rattle.car_acts.specs.Sound.{IsSound}
use Rattle.car_turns.proofs.Heard.{same_plan}
use Rattle.car_turns.proofs.turning.answer.Goals as goal

pub returns-in_err-step-clause-carried : goal.returns-in_err-step-clause-carried
returns-in_err-step-clause-carried g c k =
    let cs = codecs g.C.CarCoded.offers g.C.CarCoded.responds g.C.CarCoded.reads g.C.CarCoded.encodes in
    let first = c.args.driver.now in
    let mid = c.loop.driver in
    let last = c.step.new.driver in
    carries_then _ _ _ (InRun cs first.plan k first.car first.report) (InRun cs first.plan k mid.car mid.report) (InRun cs first.plan k last.car last.report) (c.loop.invariant.carried k)
    (same_plan _ _ cs mid.plan first.plan k mid.car last.car mid.report last.report c.loop.invariant.plan (c.step.ensures.carried k))

pub returns-in_err-step-clause-sound : goal.returns-in_err-step-clause-sound
returns-in_err-step-clause-sound g c = subst (λ (p : CarPlan). IsSound p c.step.new.driver.car) c.loop.invariant.plan c.step.ensures.sound

pub returns-in_err-step-clause-plan : goal.returns-in_err-step-clause-plan
returns-in_err-step-clause-plan g c = c.step.ensures.plan ∙ c.loop.invariant.plan

pub loop-preserved : goal.loop-preserved
loop-preserved g c =
    let cs = codecs g.C.CarCoded.offers g.C.CarCoded.responds g.C.CarCoded.reads g.C.CarCoded.encodes in
    let first = c.args.driver.now in
    let mid = c.loop.driver in
    let last = c.step.new.driver in
    record {
      carried = λ k. carries_then _ _ _ (InRun cs first.plan k first.car first.report) (InRun cs first.plan k mid.car mid.report) (InRun cs first.plan k last.car last.report) (c.loop.invariant.carried k)
          (same_plan _ _ cs mid.plan first.plan k mid.car last.car mid.report last.report c.loop.invariant.plan (c.step.ensures.carried k));
      traced = text_then _ _ _ _ _ _ (IsTraced c.args.hearing) (IsTraced c.args.hearing) (IsTraced c.args.hearing) c.loop.invariant.traced c.in_ok-step.ensures.traced;
      plan = c.step.ensures.plan ∙ c.loop.invariant.plan;
      rules = subst IsPlan (sym c.step.ensures.plan) c.loop.invariant.rules;
      sound = subst (λ (p : CarPlan). IsSound p last.car) (sym c.step.ensures.plan) c.step.ensures.sound;
      writes = fault_ok _ _ _ c.in_ok-step.ensures.writes ∙ c.loop.invariant.writes;
      untils = λ told. c.step.ensures.untils told ∙ c.loop.invariant.untils (text_told _ _ _ _ (IsTraced c.args.hearing) (IsWrittenSo c.args.hearing c.step.result) c.step.ensures.traced told);
      started = c.step.ensures.started ∙ c.loop.invariant.started;
      posts = c.step.ensures.posts ∙ c.loop.invariant.posts;
      faults = omega (arith, c.loop.invariant.faults, c.step.ensures.faults);
    }

pub loop-smaller : goal.loop-smaller
loop-smaller g c = subst (λ (p : CarPlan). work p c.step.new.driver.car < work c.loop.driver.plan c.loop.driver.car) (sym c.step.ensures.plan) (c.step.ensures.work (c.in_ok-step.was ∙ ap Ok c.if-branch.true))

pub returns-clause-carried : goal.returns-clause-carried
returns-clause-carried g c k =
    let cs = codecs g.C.CarCoded.offers g.C.CarCoded.responds g.C.CarCoded.reads g.C.CarCoded.encodes in
    let first = c.args.driver.now in
    let mid = c.loop.driver in
    let last = c.step.new.driver in
    carries_then _ _ _ (InRun cs first.plan k first.car first.report) (InRun cs first.plan k mid.car mid.report) (InRun cs first.plan k last.car last.report) (c.loop.invariant.carried k)
    (same_plan _ _ cs mid.plan first.plan k mid.car last.car mid.report last.report c.loop.invariant.plan (c.step.ensures.carried k))

pub returns-clause-sound : goal.returns-clause-sound
returns-clause-sound g c = subst (λ (p : CarPlan). IsSound p c.step.new.driver.car) c.loop.invariant.plan c.step.ensures.sound

pub returns-clause-plan : goal.returns-clause-plan
returns-clause-plan g c = c.step.ensures.plan ∙ c.loop.invariant.plan

pub returns-in_err-step-clause-traced : goal.returns-in_err-step-clause-traced
returns-in_err-step-clause-traced g c =
    let h = c.args.hearing in
    let r = c.from_residual.result in
    text_then _ _ _ _ _ _ (IsTraced h) (IsTraced h) (IsWrittenSo h r) c.loop.invariant.traced
    (text_to _ _ _ _ (IsTraced h) IsCutHere (IsWrittenSo h r) (λ past text t. err_written h r past text c.from_residual.ensures.0 t) c.in_err-step.ensures.traced)

pub returns-clause-traced : goal.returns-clause-traced
returns-clause-traced g c = text_then _ _ _ _ _ _ (IsTraced c.args.hearing) (IsTraced c.args.hearing) (IsTraced c.args.hearing) c.loop.invariant.traced c.in_ok-step.ensures.traced
