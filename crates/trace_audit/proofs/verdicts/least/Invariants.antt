use Rattle.std.proofs.Common.{ℕ, ◌<◌, List}
use Rattle.charge_world.specs.declared.entry.Entry.{Entry}
use Rattle.session_words.specs.declared.plan.SitePlan.{SitePlan}
use Rattle.told_pasts.specs.Site.{ToldPost}
use Rattle.faultless_pasts.specs.Faultless.{told_codecs}
use Rattle.told_pasts.specs.Faults.{FailsAt}
use Rattle.trace_audit.specs.Seats.{AreJudged}
use Rattle.trace_audit.specs.Verdicts.{IsEntryPlace}
use Rattle.trace_audit.proofs.verdicts.least.Given as goal

abbrev pub invariant-loop-number : goal.invariant-loop-number
invariant-loop-number g l = (site : SitePlan) (earlier behind : List Entry) (posts : List ToldPost)
    → AreJudged (told_codecs g.R.Coded.negotiates g.R.Coded.reads g.R.Coded.encodes g.R.ToldCoded.responds g.R.ToldCoded.watts) site earlier l.entry posts l.seats
    → IsEntryPlace (told_codecs g.R.Coded.negotiates g.R.Coded.reads g.R.Coded.encodes g.R.ToldCoded.responds g.R.ToldCoded.watts) site earlier l.entry behind l.place
    → (m : ℕ) → m < l.number → FailsAt (told_codecs g.R.Coded.negotiates g.R.Coded.reads g.R.Coded.encodes g.R.ToldCoded.responds g.R.ToldCoded.watts) site earlier l.entry behind m → ⊥
