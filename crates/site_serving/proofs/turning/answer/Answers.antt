use Rattle.std.proofs.Common.{◌≡◌, ◌∙◌, refl, arith}
use Rattle.session_words.specs.declared.plan.SitePlan.{SitePlan}
use Rattle.post_spec.specs.Codecs.{codecs}
use Rattle.site_acts.specs.Serving.{InBlock}
use Rattle.endpoint.specs.Telling.{IsTraced, IsWrittenSo}
use Rattle.endpoint.proofs.Carry.{carries_then, text_then}
use Rattle.endpoint.proofs.Faults.{fault_ok, text_told}
use Rattle.site_serving.proofs.turning.answer.Goals as goal

pub returns-in_err-act-clause-carried : goal.returns-in_err-act-clause-carried
returns-in_err-act-clause-carried g c site k lim =
    let cs = codecs g.C.Coded.negotiates g.C.Coded.reads g.C.Coded.encodes in
    carries_then _ _ _ (InBlock cs site k c.args.places.now) (InBlock cs site k c.loop.places) (InBlock cs site k c.act.new.places) (c.loop.invariant.carried site k lim) (c.act.ensures.carried site k lim)

pub loop-preserved : goal.loop-preserved
loop-preserved g c = record {
  carried = λ site k lim. let cs = codecs g.C.Coded.negotiates g.C.Coded.reads g.C.Coded.encodes in
      carries_then _ _ _ (InBlock cs site k c.args.places.now) (InBlock cs site k c.loop.places) (InBlock cs site k c.act.new.places) (c.loop.invariant.carried site k lim) (c.act.ensures.carried site k lim);
  traced = text_then _ _ _ _ _ _ (IsTraced c.args.hearing) (IsTraced c.args.hearing) (IsTraced c.args.hearing) c.loop.invariant.traced c.in_ok-act.ensures.traced;
  ready = c.act.ensures.ready;
  quiet = c.act.ensures.quiet;
  writes = fault_ok _ _ _ c.in_ok-act.ensures.writes ∙ c.loop.invariant.writes;
  untils = λ told. c.act.ensures.untils told ∙ c.loop.invariant.untils (text_told _ _ _ _ (IsTraced c.args.hearing) (IsWrittenSo c.args.hearing c.act.result) c.act.ensures.traced told);
  started = c.act.ensures.started ∙ c.loop.invariant.started;
  posts = c.act.ensures.posts ∙ c.loop.invariant.posts;
  faults = omega (arith, c.loop.invariant.faults, c.act.ensures.faults);
}

pub returns-clause-carried : goal.returns-clause-carried
returns-clause-carried g c site k lim =
    let cs = codecs g.C.Coded.negotiates g.C.Coded.reads g.C.Coded.encodes in
    carries_then _ _ _ (InBlock cs site k c.args.places.now) (InBlock cs site k c.loop.places) (InBlock cs site k c.act.new.places) (c.loop.invariant.carried site k lim) (c.act.ensures.carried site k lim)
