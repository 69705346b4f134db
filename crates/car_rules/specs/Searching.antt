-- ISO 15118-2:2014, 7.10.1 (the car's discovery): when a car asks for a post, and which answer it takes. One UDP port without multicast
-- is own.
use Rattle.std.specs.Prelude.{ℕ, ◌+◌, nat_eq, nat_lt, ◌==◌, Bool, true, false, not, ◌&&◌, if◌then◌else◌, List, take, drop, Option, Some, None}
use Rattle.std.specs.Cmp.Lexicographic.{pointwise}
use Rattle.byteorder.specs.Endian.{big_number}
use Rattle.session_words.specs.declared.cause.EndCause.TheVariants as cause
use Rattle.session_words.specs.declared.plan.CarPlan.{CarPlan}
use Rattle.sdp_discovery.specs.declared.message.SdpResponse.{SdpResponse}
use Rattle.sdp_discovery.specs.Discovery.{request_spelling, response_spelling}
use Rattle.car_rules.specs.declared.deadlines.CarDue.{CarDue}
use Rattle.car_rules.specs.declared.searching.Search.{Search}
use Rattle.car_rules.specs.Deadlines.{due, due_at}

-- nothing was asked yet
abbrev pub first_search : Search
first_search = record { asked = 0; last = 0; dialed = false }

-- the car still looks for a post
abbrev pub is_searching : CarPlan → Search → Bool
is_searching plan s = nat_lt 0 plan.sdp && not s.dialed

-- when the next request is due: the first at once, each other 250 ms behind the one before, and none behind the 50th
abbrev pub next_request : CarPlan → Search → Option ℕ
next_request plan s =
    if is_searching plan s && nat_lt s.asked 50 then (if s.asked == 0 then Some 0 else due_at s.last 250) else None

-- nobody answers
abbrev pub search_due : CarPlan → Search → Option CarDue
search_due plan s = if is_searching plan s && not (nat_lt s.asked 50) then due cause.NoOffer s.last 250 else None

-- a request was sent at this moment
abbrev pub asked_at : ℕ → Search → Search
asked_at now s = record s { asked = s.asked + 1; last = now }

abbrev pub dialed : Search → Search
dialed s = record s { dialed = true }

-- what a request says: no TLS
abbrev pub search_datagram : List ℕ
search_datagram = request_spelling (record { tls = false })

-- the response without TLS that a datagram of 28 bytes can be
abbrev pub response_in : List ℕ → SdpResponse
response_in datagram = record {
  address = take 16 (drop 8 datagram);
  port = big_number 2 (drop 24 datagram);
  tls = false;
}

-- the port of a readable response without TLS
abbrev pub port_of : List ℕ → Option ℕ
port_of datagram =
    if pointwise nat_eq datagram (response_spelling (response_in datagram)) then Some (response_in datagram).port else None
