use Rattle.std.proofs.Common.{sym, subst}
use Rattle.v2gtp_frames.proofs.Taking.{taking_shrinks}
use Rattle.audit_streams.specs.Streams.{Skips}
use Rattle.audit_streams.proofs.Taken.{skips_more}
use Rattle.audit_streams.proofs.streams.skip_frames.Goals as goal

pub loop-unread-smaller : goal.loop-unread-smaller
loop-unread-smaller c =
    let h = c.has_frame.ensures.whole.0 c.loop-unread-test.true in
    taking_shrinks c.loop-unread.unread c.pass.new.self h.0 h.1 c.pass.ensures

pub loop-unread-preserved : goal.loop-unread-preserved
loop-unread-preserved c =
    let h = c.has_frame.ensures.whole.0 c.loop-unread-test.true in
    subst (Skips c.args.unread.now) (sym c.pass.ensures) (skips_more c.args.unread.now c.loop-unread.unread h.0 c.has_frame.ensures.bytes h.1 c.loop-unread.invariant)
