-- Own: reading the frame at the front of a stream, field by field. That it is what the frames of the stream are is the
-- contract of `split`.
use Rattle.std.specs.Prelude.{◌≡◌, ℕ, zero, suc, ◌+◌, List, length, take, drop, not, ◌==◌, nat_lt, if◌then◌else◌, Option, Some, None, Result, Ok, Err}
use Rattle.std.specs.Borrow.{Bor}
use Rattle.v2gtp_frames.specs.Header.{version, version_of, type_of, length_of}
use Rattle.v2gtp_frames.specs.declared.FrameFault.{FrameFault}
use Rattle.v2gtp_frames.specs.declared.FrameFault.TheVariants.{BadVersion, BadType, LongPayload}

-- the payload length of the whole frame at the front: none yet, or the first wrong field
unfoldable pub whole_at : List ℕ → Result (Option ℕ) FrameFault
whole_at bytes =
    if nat_lt (length bytes) 2 then Ok None
    else if not (version_of bytes == version) then Err (BadVersion (version_of bytes))
    else if nat_lt (length bytes) 4 then Ok None
    else if not (type_of bytes == 0x8001) then Err (BadType (type_of bytes))
    else if nat_lt (length bytes) 8 then Ok None
    else if nat_lt 65536 (length_of bytes) then Err (LongPayload (length_of bytes))
    else if nat_lt (length bytes) (8 + length_of bytes) then Ok None
    else Ok (Some (length_of bytes))

-- the bytes of a payload of this length at the front
abbrev pub payload_at : ℕ → List ℕ → List ℕ
payload_at n bytes = take n (drop 8 bytes)

-- what is left once the frame at the front is taken, where there is a whole one
abbrev pub behind : Result (Option ℕ) FrameFault → List ℕ → List ℕ
behind (Ok (Some n)) bytes = drop (8 + n) bytes
behind (Ok None) bytes = bytes
behind (Err fault) bytes = bytes

-- the answer on these bytes: the payload at the front, none yet, or the fault
abbrev pub IsNext : List ℕ → Result (Option (Bor (List ℕ))) FrameFault → Type 0
IsNext bytes (Ok (Some p)) = (whole_at bytes ≡ Ok (Some (length p.now))) × (p.now ≡ payload_at (length p.now) bytes)
IsNext bytes (Ok None) = whole_at bytes ≡ Ok None
IsNext bytes (Err fault) = whole_at bytes ≡ Err fault

-- what is left of the bytes once the frame at their front is taken
abbrev pub behind_front : List ℕ → List ℕ
behind_front bytes = behind (whole_at bytes) bytes

-- what stands behind the first n whole frames
abbrev pub behind_frames : ℕ → List ℕ → List ℕ
behind_frames zero bytes = bytes
behind_frames (suc n) bytes = behind_front (behind_frames n bytes)
