use Rattle.std.proofs.Common.{◌≡◌, ℕ, ◌+◌, ◌<◌, ◌≤◌, get_or}
use Rattle.session_words.specs.declared.plan.PostPlan.{PostPlan}
use Rattle.faultless_pasts.specs.Faultless.{told_codecs}
use Rattle.trace_audit.specs.Seats.{IsAt, Passing}
use Rattle.trace_audit.specs.declared.seats.Seat.{Seat}
use Rattle.trace_audit.proofs.seats.pass_all.Given as goal

abbrev pub invariant-loop-i : goal.invariant-loop-i
invariant-loop-i g l = record {
  behind : (j : ℕ) (plan : PostPlan) (old new : Seat) → j < l.i → IsAt l.plans j plan → IsAt l.initial.seats j old → IsAt l.seats j new
      → Passing (told_codecs g.R.Coded.negotiates g.R.Coded.reads g.R.Coded.encodes g.R.ToldCoded.responds g.R.ToldCoded.watts) plan (j + 1) l.entry l.shown old new;
  before : (j : ℕ) (d : Seat) → l.i ≤ j → get_or l.seats j d ≡ get_or l.initial.seats j d;
}
