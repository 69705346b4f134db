use Rattle.std.proofs.Common.{subst, Option, ap}
use Rattle.std.specs.Option.{option_map}
use Rattle.post_spec.specs.Steps.{Give}
use Rattle.told_pasts.specs.Steps.{seen_in}
use Rattle.faultless_pasts.specs.Faultless.{told_codecs}
use Rattle.audit_streams.specs.declared.reader.ToldWord.{ToldWord}
use Rattle.audit_readings.specs.Readings.{JudgesSo}
use Rattle.audit_records.proofs.Ordering.{seen_told, stands_told, repeats_told, reached_told}
use Rattle.audit_records.proofs.Told.{one_judged}
use Rattle.audit_records.proofs.orders.judged_at_order.Goals as goal

pub returns-in-None : goal.returns-in-None
returns-in-None g c plan k past steps h v =
    let all = told_codecs g.R.Coded.negotiates g.R.Coded.reads g.R.Coded.encodes g.R.ToldCoded.responds g.R.ToldCoded.watts in
    subst (λ (o : Option ToldWord). JudgesSo all plan steps (Give c.args.order.now) o) (ap (option_map (λ word. word.now)) c.in-None.is)
    (c.judged_by.ensures plan steps (Give c.args.order.now) h v.mandate_is.0.judged_is (c.order_judges-judges.ensures plan steps
    (repeats_told steps c.args.kept.now.contactor.standing c.must_open.result c.must_open.ensures (stands_told k past steps c.args.kept.now.contactor v.seen_is v.contactor_is))
    (reached_told plan steps c.args.kept.now.course c.is_due-reached.result v.course_is (c.is_due-reached.ensures (seen_in steps) (seen_told k past steps c.args.kept.now.sessions v.seen_is v.sessions_are)))))

pub returns-in-Some : goal.returns-in-Some
returns-in-Some g c plan k past steps h v =
    let all = told_codecs g.R.Coded.negotiates g.R.Coded.reads g.R.Coded.encodes g.R.ToldCoded.responds g.R.ToldCoded.watts in
    one_judged all plan steps (Give c.args.order.now) c.in-Some.word.now c.word_told.result c.word_told.ensures
    (subst (λ (o : Option ToldWord). JudgesSo all plan steps (Give c.args.order.now) o) (ap (option_map (λ word. word.now)) c.in-Some.is)
    (c.judged_by.ensures plan steps (Give c.args.order.now) h v.mandate_is.0.judged_is (c.order_judges-judges.ensures plan steps
    (repeats_told steps c.args.kept.now.contactor.standing c.must_open.result c.must_open.ensures (stands_told k past steps c.args.kept.now.contactor v.seen_is v.contactor_is))
    (reached_told plan steps c.args.kept.now.course c.is_due-reached.result v.course_is (c.is_due-reached.ensures (seen_in steps) (seen_told k past steps c.args.kept.now.sessions v.seen_is v.sessions_are))))))
