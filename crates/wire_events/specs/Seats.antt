-- Own: one post of a wire over sockets: what can be told of it, and whose turn it is.
use Rattle.std.specs.Prelude.{◌≡◌, ◌⊎◌, ℕ, zero, suc, ◌-◌, ◌^◌, ◌<◌, ◌≤◌, ◌&&◌, nat_le, Bool, true, false, not}
use Rattle.wire_events.specs.declared.seat.Line.{Line}
use Rattle.wire_events.specs.declared.seat.Line.TheVariants as line
use Rattle.wire_events.specs.declared.seat.Socket.{Socket}
use Rattle.wire_events.specs.declared.seat.Socket.TheVariants as socket
use Rattle.wire_events.specs.declared.seat.Kind.{Kind}
use Rattle.wire_events.specs.declared.seat.Kind.TheVariants as kind
use Rattle.wire_events.specs.declared.seat.Seat.{Seat}

-- a post without a connection, of which nothing is due
abbrev pub blank : Seat
blank = record { line = line.Free; listener = false; stream = false; discovery = false; due = 2 ^ 64 - 1; last = kind.Bytes }

abbrev pub raised : Seat → Socket → Bool → Seat
raised seat socket.Listener ready = record seat { listener = ready }
raised seat socket.Stream ready = record seat { stream = ready }
raised seat socket.Discovery ready = record seat { discovery = ready }

abbrev pub is_held : Line → Bool
is_held line.Held = true
is_held line.Free = false
is_held line.Waiting = false

abbrev pub is_waiting : Line → Bool
is_waiting line.Waiting = true
is_waiting line.Free = false
is_waiting line.Held = false

-- something of this kind can be told at a moment. While a connection waits to be told, none is accepted and no bytes are read
abbrev pub is_due : Seat → ℕ → Kind → Bool
is_due seat now kind.Came = is_waiting seat.line
is_due seat now kind.Plant = nat_le seat.due now
is_due seat now kind.Accept = seat.listener && not (is_waiting seat.line)
is_due seat now kind.Datagram = seat.discovery
is_due seat now kind.Bytes = seat.stream && is_held seat.line

-- the place of a kind in the order in which they take turns
abbrev pub place : Kind → ℕ
place kind.Came = 0
place kind.Plant = 1
place kind.Accept = 2
place kind.Datagram = 3
place kind.Bytes = 4

-- the kind at a place
abbrev pub kind_at : ℕ → Kind
kind_at zero = kind.Came
kind_at (suc zero) = kind.Plant
kind_at (suc (suc zero)) = kind.Accept
kind_at (suc (suc (suc zero))) = kind.Datagram
kind_at (suc (suc (suc (suc n)))) = kind.Bytes

abbrev pub NoKindDue : Seat → ℕ → Type 0
NoKindDue seat now = (k : Kind) → is_due seat now k ≡ false

-- no kind from one place on and below another is due
abbrev pub NoKindIn : Seat → ℕ → ℕ → ℕ → Type 0
NoKindIn seat now from to = (k : Kind) → from ≤ place k → place k < to → is_due seat now k ≡ false

pub record FirstKind (seat : Seat) (now from to : ℕ) (k : Kind) : Type 0 where
  pub due : is_due seat now k ≡ true
  pub later : from ≤ place k
  pub within : place k < to
  pub first : NoKindIn seat now from (place k)

-- going round behind `last`, a comes before b
abbrev pub IsSooner : ℕ → ℕ → ℕ → Type 0
IsSooner last a b = ((last < a) × (a < b)) ⊎ ((a < b) × (b ≤ last)) ⊎ ((b ≤ last) × (last < a))

-- the kind whose turn it is: due, and none that is due comes before it, going round behind the one told last
pub record NextKind (seat : Seat) (now : ℕ) (k : Kind) : Type 0 where
  pub due : is_due seat now k ≡ true
  pub first : (other : Kind) → IsSooner (place seat.last) (place other) (place k) → is_due seat now other ≡ false
