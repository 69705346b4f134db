use Rattle.std.proofs.Common.{◌∙◌, sym, ap}
use Rattle.v2gtp_frames.specs.Reading.{whole_at}
use Rattle.audit_streams.proofs.Past.{true_false}
use Rattle.audit_streams.proofs.Taken.{kept_fault}
use Rattle.audit_streams.proofs.streams.WordStream.look.Goals as goal

pub returns-in-Err : goal.returns-in-Err
returns-in-Err g c bytes count k none = (
  kept_fault _ c.args.offers.now bytes count c.args.self.now c.in-Err.fault (λ over. true_false c.is_over.result (c.is_over.ensures.1 over) c.if-is_over.false)
      (ap whole_at (sym c.bytes.ensures) ∙ sym c.whole_frame.ensures.value ∙ c.in-Err.is) none k,
  tt,
)
