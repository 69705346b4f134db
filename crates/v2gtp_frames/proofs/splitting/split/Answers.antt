use Rattle.std.proofs.Common.{◌∙◌, ap, ◌+◌, drop}
use Rattle.v2gtp_frames.specs.Splits.{joined, payload_bytes}
use Rattle.v2gtp_frames.specs.Taking.{answer_of}
use Rattle.v2gtp_frames.proofs.Pieces.{more_joined, ends_wrong, ends_right, only_one, starts_stream, starts_each, starts_bytes, starts_read}
use Rattle.v2gtp_frames.proofs.splitting.split.Goals as goal

pub loop-piece-init : goal.loop-piece-init
loop-piece-init c = record {
  stream = starts_stream c.new-payloads.result.items c.in_ok-reader.reader (joined c.args.pieces.now) c.new-payloads.ensures.items c.in_ok-reader.ensures;
  each = starts_each c.new-payloads.result.items c.new-payloads.ensures.items;
  bytes = starts_bytes c.in_ok-reader.reader c.in_ok-reader.ensures;
  read = starts_read c.in_ok-reader.reader c.in_ok-reader.ensures;
}

pub loop-piece-preserved : goal.loop-piece-preserved
loop-piece-preserved c = record {
  stream = more_joined c.args.pieces.now c.loop-piece.piece-index c.piece-item.result c.deref.result.now c.loop-piece.reader c.take_piece.new.reader c.loop-piece.payloads.items c.take_piece.new.payloads.items
      c.loop-piece-test.true c.piece-item.is c.deref.ensures.value c.in_ok-fault.ensures.taken c.loop-piece.invariant.stream;
  each = c.in_ok-fault.ensures.taken.each c.loop-piece.invariant.each;
  bytes = c.in_ok-fault.ensures.taken.bytes;
  read = c.in_ok-fault.ensures.end ∙ ap answer_of c.in_default.is;
}

pub returns-in-Some-clause-frames : goal.returns-in-Some-clause-frames
returns-in-Some-clause-frames c =
    ends_wrong (joined c.args.pieces.now) c.take_piece.new.reader (joined (drop (c.loop-piece.piece-index + 1) c.args.pieces.now)) c.take_piece.new.payloads.items c.in_ok-fault.field-0 c.in-Some.fault
    (more_joined c.args.pieces.now c.loop-piece.piece-index c.piece-item.result c.deref.result.now c.loop-piece.reader c.take_piece.new.reader c.loop-piece.payloads.items c.take_piece.new.payloads.items
    c.loop-piece-test.true c.piece-item.is c.deref.ensures.value c.in_ok-fault.ensures.taken c.loop-piece.invariant.stream)
    (c.in_ok-fault.ensures.taken.each c.loop-piece.invariant.each) c.in_ok-fault.ensures.end c.in-Some.is

pub returns-in-Some-clause-only : goal.returns-in-Some-clause-only
returns-in-Some-clause-only c =
    let ends = ends_wrong (joined c.args.pieces.now) c.take_piece.new.reader (joined (drop (c.loop-piece.piece-index + 1) c.args.pieces.now)) c.take_piece.new.payloads.items c.in_ok-fault.field-0 c.in-Some.fault
    (more_joined c.args.pieces.now c.loop-piece.piece-index c.piece-item.result c.deref.result.now c.loop-piece.reader c.take_piece.new.reader c.loop-piece.payloads.items c.take_piece.new.payloads.items
    c.loop-piece-test.true c.piece-item.is c.deref.ensures.value c.in_ok-fault.ensures.taken c.loop-piece.invariant.stream)
    (c.in_ok-fault.ensures.taken.each c.loop-piece.invariant.each) c.in_ok-fault.ensures.end c.in-Some.is in
    only_one (joined c.args.pieces.now) ends.0 (payload_bytes c.take_piece.new.payloads.items) ends.1

pub returns-clause-frames : goal.returns-clause-frames
returns-clause-frames c =
    ends_right c.args.pieces.now c.loop-piece.piece-index c.loop-piece.reader c.loop-piece.payloads.items c.loop-piece-test.false c.loop-piece.invariant.stream c.loop-piece.invariant.each c.loop-piece.invariant.read

pub returns-clause-only : goal.returns-clause-only
returns-clause-only c =
    let ends = ends_right c.args.pieces.now c.loop-piece.piece-index c.loop-piece.reader c.loop-piece.payloads.items c.loop-piece-test.false c.loop-piece.invariant.stream c.loop-piece.invariant.each c.loop-piece.invariant.read in
    only_one (joined c.args.pieces.now) ends.0 (payload_bytes c.loop-piece.payloads.items) ends.1
