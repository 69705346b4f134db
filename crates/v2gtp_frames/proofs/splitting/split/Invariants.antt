use Rattle.std.proofs.Common.{◌≡◌, ◌<◌, All, ◌++◌, drop, None, Ok}
use Rattle.v2gtp_frames.specs.Frames.{IsPayload}
use Rattle.v2gtp_frames.specs.Reading.{whole_at}
use Rattle.v2gtp_frames.specs.Splits.{joined, payload_bytes}
use Rattle.v2gtp_frames.specs.Taking.{stream_of}
use Rattle.v2gtp_frames.proofs.splitting.split.Given as goal

abbrev pub invariant-loop-piece : goal.invariant-loop-piece
invariant-loop-piece l = record {
  stream : stream_of l.payloads.items l.reader ++ joined (drop l.piece-index l.pieces) ≡ joined l.pieces;
  each : All IsPayload (payload_bytes l.payloads.items);
  bytes : All (λ byte. byte < 256) l.reader;
  read : whole_at l.reader ≡ Ok None;
}
