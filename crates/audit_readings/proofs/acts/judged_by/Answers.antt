use Rattle.std.proofs.Common.{sym, ◌∙◌}
use Rattle.told_pasts.specs.Steps.{seen_in}
use Rattle.faultless_pasts.specs.Faultless.{told_codecs}
use Rattle.audit_readings.proofs.Judging.{judges_told, judges_none}
use Rattle.audit_readings.proofs.acts.judged_by.Goals as goal

pub returns-then-may_judge : goal.returns-then-may_judge
returns-then-may_judge g c plan steps act h e is =
    judges_told (told_codecs g.R.Coded.negotiates g.R.Coded.reads g.R.Coded.encodes g.R.ToldCoded.responds g.R.ToldCoded.watts) plan steps act c.args.judged c.args.judges _ _
    (sym c.may_judge.ensures ∙ c.if-may_judge.true) e is (c.free_word.ensures plan.dialects.items (seen_in steps) h) c.payload_in.ensures

pub returns-else-may_judge : goal.returns-else-may_judge
returns-else-may_judge g c plan steps act h e is =
    judges_none (told_codecs g.R.Coded.negotiates g.R.Coded.reads g.R.Coded.encodes g.R.ToldCoded.responds g.R.ToldCoded.watts) plan steps act c.args.judged c.args.judges
    (sym c.may_judge.ensures ∙ c.if-may_judge.false) e is
