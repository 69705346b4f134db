use Rattle.std.proofs.Common.{◌<◌, ◌-◌, ◌^◌, length, ◌∙◌, arith}
use Rattle.std.specs.Prelude.{reverse}
use Rattle.std.proofs.lemmas.List.{length-reverse}
use Rattle.faultless_pasts.specs.Faultless.{told_codecs}
use Rattle.audit_command.proofs.Verdicts.{of_posts, verdict}
use Rattle.audit_command.proofs.auditing.first_fault.Goals as goal

pub returns-clause-verdict : goal.returns-clause-verdict
returns-clause-verdict g c =
    let all = told_codecs g.R.Coded.negotiates g.R.Coded.reads g.R.Coded.encodes g.R.ToldCoded.responds g.R.ToldCoded.watts in
    let past = reverse c.args.entries.now in
    let few : length past < 2 ^ 64 - 2 = omega (arith, length-reverse c.args.entries.now, c.requires.few) in
    let taken = c.take_all.ensures.taken c.in_ok-auditor.ensures.taken in
    verdict all c.take_all.new.auditor.plan c.args.plan.now c.args.entries.now c.finish.result (c.take_all.ensures.plan ∙ c.in_ok-auditor.ensures.plan)
    (c.finish.ensures.fault past few taken) (c.finish.ensures.safe past few taken)

pub returns-clause-post : goal.returns-clause-post
returns-clause-post g c =
    let all = told_codecs g.R.Coded.negotiates g.R.Coded.reads g.R.Coded.encodes g.R.ToldCoded.responds g.R.ToldCoded.watts in
    let past = reverse c.args.entries.now in
    let few : length past < 2 ^ 64 - 2 = omega (arith, length-reverse c.args.entries.now, c.requires.few) in
    let taken = c.take_all.ensures.taken c.in_ok-auditor.ensures.taken in
    of_posts all c.take_all.new.auditor.plan c.args.plan.now c.args.entries.now c.finish.result (c.take_all.ensures.plan ∙ c.in_ok-auditor.ensures.plan) (c.finish.ensures.post past few taken)
