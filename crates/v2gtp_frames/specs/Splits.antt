-- Own: a stream that came in pieces, and what is read of it.
use Rattle.std.specs.Prelude.{ℕ, List, map, Option, Some, None, Vec}
use Rattle.std.specs.declared.alloc.Global.{Global}
use Rattle.std.specs.List.{flat_map}
use Rattle.v2gtp_frames.specs.declared.FrameFault.{FrameFault}
use Rattle.v2gtp_frames.specs.Frames.{IsFault, IsRight}

-- the stream that came in these pieces
abbrev pub joined : List (Vec ℕ Global) → List ℕ
joined pieces = flat_map (λ piece. piece.items) pieces

-- the bytes of each payload
abbrev pub payload_bytes : List (Vec ℕ Global) → List (List ℕ)
payload_bytes payloads = map (λ payload. payload.items) payloads

-- the fault is the first wrong whole field of the rest, if there is one
abbrev pub IsFirstFault : List ℕ → Option FrameFault → Type 0
IsFirstFault rest None = IsRight rest
IsFirstFault rest (Some fault) = IsFault rest fault
