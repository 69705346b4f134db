use Rattle.v2gtp_frames.proofs.Taking.{front_shrinks, takes_front}
use Rattle.v2gtp_frames.proofs.splitting.take_frames.Goals as goal

pub loop-fault-smaller : goal.loop-fault-smaller
loop-fault-smaller c = front_shrinks c.loop-fault.reader c.take_frame.new.reader c.in_ok-take_frame.field-0 c.in-Payload.payload c.in_ok-take_frame.ensures.front c.in-Payload.is c.in_ok-take_frame.ensures.left

pub loop-fault-preserved : goal.loop-fault-preserved
loop-fault-preserved c =
    takes_front c.args.reader.now c.loop-fault.reader c.take_frame.new.reader c.args.payloads.now.items c.loop-fault.payloads.items c.push.new.self.items c.in_ok-take_frame.field-0 c.in-Payload.payload
    c.loop-fault.invariant c.in_ok-take_frame.ensures.front c.in-Payload.is c.in_ok-take_frame.ensures.left c.in_ok-push-in-Payload.ensures.items
