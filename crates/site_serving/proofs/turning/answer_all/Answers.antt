use Rattle.std.proofs.Common.{◌≡◌, ◌∙◌, refl, arith}
use Rattle.session_words.specs.declared.plan.SitePlan.{SitePlan}
use Rattle.post_spec.specs.Codecs.{codecs}
use Rattle.site_acts.specs.Serving.{InBlock}
use Rattle.endpoint.specs.Telling.{IsTraced, IsWrittenSo}
use Rattle.endpoint.proofs.Carry.{carries_then, text_then}
use Rattle.endpoint.proofs.Faults.{fault_ok, text_told}
use Rattle.site_serving.proofs.turning.answer_all.Goals as goal

pub returns-in_err-answer-clause-carried : goal.returns-in_err-answer-clause-carried
returns-in_err-answer-clause-carried g c site k lim =
    let cs = codecs g.C.Coded.negotiates g.C.Coded.reads g.C.Coded.encodes in
    carries_then _ _ _ (InBlock cs site k c.args.places.now) (InBlock cs site k c.loop-i.places) (InBlock cs site k c.answer.new.places) (c.loop-i.invariant.carried site k lim) (c.answer.ensures.carried site k lim)

pub loop-i-preserved : goal.loop-i-preserved
loop-i-preserved g c = record {
  carried = λ site k lim. let cs = codecs g.C.Coded.negotiates g.C.Coded.reads g.C.Coded.encodes in
      carries_then _ _ _ (InBlock cs site k c.args.places.now) (InBlock cs site k c.loop-i.places) (InBlock cs site k c.answer.new.places) (c.loop-i.invariant.carried site k lim) (c.answer.ensures.carried site k lim);
  traced = text_then _ _ _ _ _ _ (IsTraced c.args.hearing) (IsTraced c.args.hearing) (IsTraced c.args.hearing) c.loop-i.invariant.traced c.in_ok-answer.ensures.traced;
  ready = c.answer.ensures.ready;
  quiet = c.in_ok-answer.ensures.quiet;
  writes = fault_ok _ _ _ c.in_ok-answer.ensures.writes ∙ c.loop-i.invariant.writes;
  untils = λ told. c.answer.ensures.untils told ∙ c.loop-i.invariant.untils (text_told _ _ _ _ (IsTraced c.args.hearing) (IsWrittenSo c.args.hearing c.answer.result) c.answer.ensures.traced told);
  started = c.answer.ensures.started ∙ c.loop-i.invariant.started;
  posts = c.answer.ensures.posts ∙ c.loop-i.invariant.posts;
  faults = omega (arith, c.loop-i.invariant.faults, c.answer.ensures.faults);
}
