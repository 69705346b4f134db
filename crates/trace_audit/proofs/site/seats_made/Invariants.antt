use Rattle.std.proofs.Common.{◌≡◌, ℕ, ◌+◌, [], length}
use Rattle.session_words.specs.declared.plan.PostPlan.{PostPlan}
use Rattle.faultless_pasts.specs.Faultless.{told_codecs}
use Rattle.audit_streams.specs.Streams.{IsEven}
use Rattle.trace_audit.specs.Seats.{IsAt, IsSeat}
use Rattle.trace_audit.specs.declared.seats.Seat.{Seat}
use Rattle.trace_audit.proofs.site.seats_made.Given as goal

abbrev pub invariant-loop-post : goal.invariant-loop-post
invariant-loop-post g l = record {
  count : length l.seats.items ≡ l.post-index;
  each : (i : ℕ) (plan : PostPlan) (s : Seat) → IsAt l.plan.post.items i plan → IsAt l.seats.items i s
      → IsSeat (told_codecs g.R.Coded.negotiates g.R.Coded.reads g.R.Coded.encodes g.R.ToldCoded.responds g.R.ToldCoded.watts) plan (i + 1) [] [] s × IsEven s.post.stream;
}
