use Rattle.std.proofs.Common.{arith}
use Rattle.v2gtp_frames.proofs.Pieces.{fed_bytes}
use Rattle.v2gtp_frames.proofs.splitting.take_piece.Goals as goal

pub take_frames-requires : goal.take_frames-requires
take_frames-requires c = fed_bytes c.args.reader.now c.args.piece.now c.feed.new.self c.requires.bytes (λ i. omega (arith, c.type_inv.piece i)) c.feed.ensures
