-- Own: how the frames at the front of a reader are taken, one after another.
use Rattle.std.specs.Prelude.{◌≡◌, ℕ, ◌<◌, List, ◌++◌, length, All, Option, Some, None, Result, Ok, Err, Vec}
use Rattle.std.specs.List.{flat_map}
use Rattle.std.specs.declared.alloc.Global.{Global}
use Rattle.v2gtp_frames.specs.declared.FrameFault.{FrameFault}
use Rattle.v2gtp_frames.specs.declared.splitting.Front.{Front}
use Rattle.v2gtp_frames.specs.declared.splitting.Front.TheVariants.{Waits, Wrong, Payload}
use Rattle.v2gtp_frames.specs.Frames.{frame, IsPayload}
use Rattle.v2gtp_frames.specs.Reading.{whole_at, payload_at}
use Rattle.v2gtp_frames.specs.Splits.{payload_bytes}

-- what stood at the front of these bytes
abbrev pub IsFront : List ℕ → Front → Type 0
IsFront bytes Waits = whole_at bytes ≡ Ok None
IsFront bytes (Wrong fault) = whole_at bytes ≡ Err fault
IsFront bytes (Payload payload) = (whole_at bytes ≡ Ok (Some (length payload.items))) × (payload.items ≡ payload_at (length payload.items) bytes)

-- the reader's answer where it gives no payload
abbrev pub answer_of : Option FrameFault → Result (Option ℕ) FrameFault
answer_of None = Ok None
answer_of (Some fault) = Err fault

-- the payloads and the bytes behind them, as one stream
abbrev pub stream_of : List (Vec ℕ Global) → List ℕ → List ℕ
stream_of payloads bytes = flat_map frame (payload_bytes payloads) ++ bytes

-- frames were moved from the bytes to the payloads, and the stream is the same
pub record Takes (old new : List ℕ) (before after : List (Vec ℕ Global)) : Type 0 where
  pub stream : stream_of after new ≡ stream_of before old
  pub each : All IsPayload (payload_bytes before) → All IsPayload (payload_bytes after)
  pub bytes : All (λ byte. byte < 256) new
