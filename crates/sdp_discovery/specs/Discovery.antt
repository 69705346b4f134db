-- SECC discovery (SDP): ISO 15118-2:2014, section 7.10.1. A datagram is one V2GTP frame (section 7.8.3).
use Rattle.std.specs.Prelude.{◌≡◌, ◌≢◌, ℕ, ◌+◌, ◌^◌, ◌<◌, ◌≤◌, Bool, false, if◌then◌else◌, List, [], ◌∷◌, ◌++◌, length, drop, slice_index, ◌⊎◌}
use Rattle.byteorder.specs.Endian.{big_bytes}
use Rattle.v2gtp_frames.specs.Header.{version, header, version_of, type_of, length_of}
use Rattle.sdp_discovery.specs.declared.fault.SdpFault.{SdpFault}
use Rattle.sdp_discovery.specs.declared.fault.SdpFault.TheVariants.{BadVersion, BadType, BadLength, BadSecurity, BadTransport}
use Rattle.sdp_discovery.specs.declared.message.SdpRequest.{SdpRequest}
use Rattle.sdp_discovery.specs.declared.message.SdpResponse.{SdpResponse}

-- the payload types of a discovery request and of a discovery response
abbrev pub request_type : ℕ
request_type = 0x9000

abbrev pub response_type : ℕ
response_type = 0x9001

-- the security byte: 0x00 for TLS, 0x10 for none
abbrev pub security : Bool → ℕ
security tls = if tls then 0x00 else 0x10

-- the transport byte of TCP
abbrev pub tcp : ℕ
tcp = 0x00

-- a request is a header and the security and transport that are asked for
abbrev pub request_spelling : SdpRequest → List ℕ
request_spelling request = header request_type 2 ++ security request.tls ∷ tcp ∷ []

-- a response is a header, an IPv6 address, a port, and the security and transport there
abbrev pub response_spelling : SdpResponse → List ℕ
response_spelling response =
    header response_type 20 ++ response.address ++ big_bytes 2 response.port ++ security response.tls ∷ tcp ∷ []

-- the post's answer where it listens on a port of the loopback address ::ffff:127.0.0.1, without TLS (own)
abbrev pub loopback : List ℕ
loopback = 0 ∷ 0 ∷ 0 ∷ 0 ∷ 0 ∷ 0 ∷ 0 ∷ 0 ∷ 0 ∷ 0 ∷ 0xff ∷ 0xff ∷ 127 ∷ 0 ∷ 0 ∷ 1 ∷ []

abbrev pub answer_on : ℕ → SdpResponse
answer_on port = record { address = loopback; port = port; tls = false }

-- what an address and a port are: 16 bytes, and a number of 16 bits
abbrev pub IsResponse : SdpResponse → Type 0
IsResponse response = (length response.address ≡ 16) × (response.port < 2 ^ 16)

-- the last two bytes of a datagram, whose payload has this size
abbrev pub security_of : ℕ → List ℕ → ℕ
security_of size bytes = slice_index bytes (size + 6)

abbrev pub transport_of : ℕ → List ℕ → ℕ
transport_of size bytes = slice_index bytes (size + 7)

-- the fields up to here are there and are right
abbrev pub HasVersion : List ℕ → Type 0
HasVersion bytes = (2 ≤ length bytes) × (version_of bytes ≡ version)

abbrev pub HasType : ℕ → List ℕ → Type 0
HasType kind bytes = HasVersion bytes × (4 ≤ length bytes) × (type_of bytes ≡ kind)

abbrev pub HasLength : ℕ → ℕ → List ℕ → Type 0
HasLength kind size bytes = HasType kind bytes × (length bytes ≡ 8 + size) × (length_of bytes ≡ size)

abbrev pub HasSecurity : ℕ → ℕ → List ℕ → Type 0
HasSecurity kind size bytes = HasLength kind size bytes × ((security_of size bytes ≡ 0x00) ⊎ (security_of size bytes ≡ 0x10))

-- the first fault of a datagram that is to be of this type, with a payload of this size. A field that the
-- datagram is too short for has a wrong length.
abbrev pub IsFault : ℕ → ℕ → List ℕ → SdpFault → Type 0
IsFault kind size bytes (BadVersion found) = (2 ≤ length bytes) × (found ≡ version_of bytes) × (found ≢ version)
IsFault kind size bytes (BadType found) = HasVersion bytes × (4 ≤ length bytes) × (found ≡ type_of bytes) × (found ≢ kind)
IsFault kind size bytes BadLength =
    (length bytes < 2)
    ⊎ (HasVersion bytes × (length bytes < 4))
    ⊎ (HasType kind bytes × ((length bytes ≢ 8 + size) ⊎ (length_of bytes ≢ size)))
IsFault kind size bytes (BadSecurity found) =
    HasLength kind size bytes × (found ≡ security_of size bytes) × (found ≢ 0x00) × (found ≢ 0x10)
IsFault kind size bytes (BadTransport found) =
    HasSecurity kind size bytes × (found ≡ transport_of size bytes) × (found ≢ tcp)

abbrev pub IsRequestFault : List ℕ → SdpFault → Type 0
IsRequestFault bytes fault = IsFault request_type 2 bytes fault

abbrev pub IsResponseFault : List ℕ → SdpFault → Type 0
IsResponseFault bytes fault = IsFault response_type 20 bytes fault
