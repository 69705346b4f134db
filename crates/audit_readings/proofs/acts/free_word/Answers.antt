use Rattle.std.proofs.Common.{sym, ◌∙◌}
use Rattle.audit_streams.specs.Streams.{kept_in}
use Rattle.audit_readings.proofs.Judging.{free_kept, free_none}
use Rattle.audit_readings.proofs.acts.free_word.Goals as goal

pub returns-then-is_kept : goal.returns-then-is_kept
returns-then-is_kept g c offers past h =
    free_kept _ offers past (kept_in c.args.stream.now) _ c.next.result (sym c.is_kept.ensures ∙ c.if-is_kept.true) c.unanswered.ensures.value (c.next.ensures offers past h)

pub returns-else-is_kept : goal.returns-else-is_kept
returns-else-is_kept g c offers past h =
    free_none _ offers past (kept_in c.args.stream.now) c.next.result (sym c.is_kept.ensures ∙ c.if-is_kept.false) (c.next.ensures offers past h)
