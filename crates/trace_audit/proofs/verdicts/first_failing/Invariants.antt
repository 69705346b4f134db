use Rattle.std.proofs.Common.{ℕ, ◌+◌, ◌<◌, List}
use Rattle.charge_world.specs.declared.entry.Entry.{Entry}
use Rattle.session_words.specs.declared.plan.SitePlan.{SitePlan}
use Rattle.told_pasts.specs.Site.{ToldPost}
use Rattle.faultless_pasts.specs.Faultless.{told_codecs}
use Rattle.audit_checks.specs.Checks.{FailsOf}
use Rattle.trace_audit.specs.Seats.{AreJudged}
use Rattle.trace_audit.specs.Verdicts.{IsEntryPlace}
use Rattle.trace_audit.proofs.verdicts.first_failing.Given as goal

abbrev pub invariant-loop-i : goal.invariant-loop-i
invariant-loop-i g l = (site : SitePlan) (earlier behind : List Entry) (posts : List ToldPost)
    → AreJudged (told_codecs g.R.Coded.negotiates g.R.Coded.reads g.R.Coded.encodes g.R.ToldCoded.responds g.R.ToldCoded.watts) site earlier l.entry posts l.seats
    → IsEntryPlace (told_codecs g.R.Coded.negotiates g.R.Coded.reads g.R.Coded.encodes g.R.ToldCoded.responds g.R.ToldCoded.watts) site earlier l.entry behind l.place
    → (j : ℕ) → j < l.i → FailsOf (told_codecs g.R.Coded.negotiates g.R.Coded.reads g.R.Coded.encodes g.R.ToldCoded.responds g.R.ToldCoded.watts) site earlier l.entry behind (j + 1) l.check → ⊥
