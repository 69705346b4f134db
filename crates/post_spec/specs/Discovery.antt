-- ISO 15118-2:2014, section 7.10.1: which datagram is answered, and by what. A request may ask for TLS; the answer never has it. The
-- address is the loopback ::ffff:127.0.0.1 (own).
use Rattle.std.specs.Prelude.{ℕ, Bool, true, false, ◌||◌, nat_eq, if◌then◌else◌, List, [], ◌∷◌, Option, Some, None}
use Rattle.std.specs.Cmp.Lexicographic.{pointwise}
use Rattle.sdp_discovery.specs.Discovery.{request_spelling, response_spelling}

abbrev pub is_request_of : Bool → List ℕ → Bool
is_request_of tls datagram = pointwise nat_eq datagram (request_spelling (record { tls = tls }))

abbrev pub is_request : List ℕ → Bool
is_request datagram = is_request_of true datagram || is_request_of false datagram

abbrev pub loopback : List ℕ
loopback = 0 ∷ 0 ∷ 0 ∷ 0 ∷ 0 ∷ 0 ∷ 0 ∷ 0 ∷ 0 ∷ 0 ∷ 0xff ∷ 0xff ∷ 127 ∷ 0 ∷ 0 ∷ 1 ∷ []

-- the answer at a post with this TCP port, where the datagram is a request
abbrev pub answer_of : ℕ → List ℕ → Option (List ℕ)
answer_of port datagram =
    if is_request datagram then Some (response_spelling (record { address = loopback; port = port; tls = false })) else None
