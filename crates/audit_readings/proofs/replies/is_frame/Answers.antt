use Rattle.std.proofs.Common.{◌<◌, sym, arith}
use Rattle.std.proofs.lemmas.List.Elements.{All-from_get_or}
use Rattle.audit_readings.proofs.Saying.{frame_by}
use Rattle.audit_readings.proofs.replies.is_frame.Goals as goal

pub returns : goal.returns
returns c =
    frame_by c.args.bytes.now c.whole_frame.result c.fills.result (All-from_get_or (λ x. x < 256) c.args.bytes.now 0 (λ i lt. omega (arith, c.type_inv.bytes i))) (sym c.whole_frame.ensures.value) c.fills.ensures
