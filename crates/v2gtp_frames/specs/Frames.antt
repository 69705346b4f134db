-- V2GTP, ISO 15118-2:2014 section 7.8.3: a frame is a header and a payload. On the TCP stream the payload type is 0x8001;
-- a payload has at most 65,536 bytes (own).
use Rattle.std.specs.Prelude.{◌≡◌, ◌≢◌, ℕ, ◌<◌, ◌≤◌, List, ◌++◌, length, All}
use Rattle.std.specs.List.{flat_map}
use Rattle.v2gtp_frames.specs.declared.FrameFault.{FrameFault}
use Rattle.v2gtp_frames.specs.Header.{version, header, version_of, type_of, length_of}
use Rattle.v2gtp_frames.specs.declared.FrameFault.TheVariants.{BadVersion, BadType, LongPayload}

-- the frame of a payload on the TCP stream
abbrev pub frame : List ℕ → List ℕ
frame payload = header 0x8001 (length payload) ++ payload

abbrev pub IsPayload : List ℕ → Type 0
IsPayload payload = length payload ≤ 65536

-- no whole frame stands at the front
abbrev pub IsRest : List ℕ → Type 0
IsRest rest = (payload more : List ℕ) → IsPayload payload → rest ≢ frame payload ++ more

-- the stream is these payloads' frames, as many as there are, and then a rest
pub record Frames (stream : List ℕ) (payloads : List (List ℕ)) (rest : List ℕ) : Type 0 where
  pub whole : stream ≡ flat_map frame payloads ++ rest
  pub each : All IsPayload payloads
  pub longest : IsRest rest

-- the first whole field of the rest that is wrong, with its value
abbrev pub IsFault : List ℕ → FrameFault → Type 0
IsFault rest (BadVersion v) = (2 ≤ length rest) × (v ≡ version_of rest) × (v ≢ version)
IsFault rest (BadType t) = (4 ≤ length rest) × (version_of rest ≡ version) × (t ≡ type_of rest) × (t ≢ 0x8001)
IsFault rest (LongPayload n) =
    (8 ≤ length rest) × (version_of rest ≡ version) × (type_of rest ≡ 0x8001) × (n ≡ length_of rest) × (65536 < n)

-- each whole field of the rest is right
abbrev pub IsRight : List ℕ → Type 0
IsRight rest = (fault : FrameFault) → IsFault rest fault → ⊥
