-- V2GTP, ISO 15118-2:2014 section 7.8.3: the header of a frame, its version and the inverse of that (01 FE), a payload type
-- and the payload's length, each with its highest byte first.
use Rattle.std.specs.Prelude.{ℕ, List, ◌++◌, drop}
use Rattle.byteorder.specs.Endian.{big_bytes, big_number}

abbrev pub version : ℕ
version = 0x01fe

-- the header of a frame of this payload type, whose payload has n bytes
abbrev pub header : ℕ → ℕ → List ℕ
header kind n = big_bytes 2 version ++ big_bytes 2 kind ++ big_bytes 4 n

-- the fields of the header at the front of some bytes
abbrev pub version_of : List ℕ → ℕ
version_of bytes = big_number 2 bytes

abbrev pub type_of : List ℕ → ℕ
type_of bytes = big_number 2 (drop 2 bytes)

abbrev pub length_of : List ℕ → ℕ
length_of bytes = big_number 4 (drop 4 bytes)
