-- Own: the posts of a wire over sockets: what becomes of their connections, whose turn it is, and how long nothing is due.
use Rattle.std.specs.Prelude.{◌≡◌, ◌⊎◌, ℕ, ◌-◌, ◌<◌, ◌≤◌, List, length, replicate, slice_index_or, slice_set}
use Rattle.wire_events.specs.declared.seat.Line.{Line}
use Rattle.wire_events.specs.declared.seat.Line.TheVariants as line
use Rattle.wire_events.specs.declared.seat.Kind.{Kind}
use Rattle.wire_events.specs.declared.seat.Seat.{Seat}
use Rattle.wire_events.specs.declared.board.Step.{Step}
use Rattle.wire_events.specs.declared.board.Step.TheVariants as step
use Rattle.wire_events.specs.Seats.{blank, IsSooner, NextKind, NoKindDue}

-- the posts, how many connections may still end before the wire is over, and the place of the post whose turn was last
pub record Posts : Type 0 where
  pub seats : List Seat
  pub left : ℕ
  pub last : ℕ

abbrev pub new_board : ℕ → ℕ → Posts
new_board posts sessions = record { seats = replicate posts blank; left = sessions; last = 7 }

abbrev pub seat_of : Posts → ℕ → Seat
seat_of w place = slice_index_or w.seats place blank

abbrev pub line_of : Posts → ℕ → Line
line_of w place = (seat_of w place).line

abbrev pub with_seat : Posts → ℕ → Seat → Posts
with_seat w place seat = record w { seats = slice_set w.seats place seat }

abbrev pub with_line : Posts → ℕ → Line → Posts
with_line w place line = with_seat w place (record (seat_of w place) { line = line })

-- one connection more has ended
abbrev pub ended : Posts → Posts
ended w = record w { left = w.left - 1 }

-- a connection was accepted at a post, by how its line stood
abbrev pub accepted : Posts → ℕ → Line → Posts
accepted w place line.Free = with_line w place line.Held
accepted w place line.Held = ended (with_line w place line.Waiting)
accepted w place line.Waiting = ended (with_line w place line.Waiting)

-- the connection of a post ended, where there was one
abbrev pub closed : Posts → ℕ → Line → Posts
closed w place line.Held = ended (with_line w place line.Free)
closed w place line.Free = w
closed w place line.Waiting = w

-- the turn of a post went by
abbrev pub told : Posts → ℕ → Kind → Posts
told w place kind = record (with_seat w place (record (seat_of w place) { last = kind })) { last = place }

-- ---- whose turn it is

-- nothing is due at the places from one on and below another
abbrev pub NoneIn : Posts → ℕ → ℕ → ℕ → Type 0
NoneIn w now from to = (place : ℕ) → from ≤ place → place < to → NoKindDue (seat_of w place) now

abbrev pub NothingDue : Posts → ℕ → Type 0
NothingDue w now = NoneIn w now 0 (length w.seats)

-- the first of those places of which something is due
pub record FirstTurn (w : Posts) (now from to place : ℕ) (kind : Kind) : Type 0 where
  pub later : from ≤ place
  pub within : place < to
  pub turn : NextKind (seat_of w place) now kind
  pub first : NoneIn w now from place

-- something is due of the post, and of none that comes before it, going round behind the last one
pub record NextTurn (w : Posts) (now place : ℕ) (kind : Kind) : Type 0 where
  pub within : place < length w.seats
  pub turn : NextKind (seat_of w place) now kind
  pub first : (other : ℕ) → other < length w.seats → IsSooner w.last other place → NoKindDue (seat_of w other) now

-- the least of a moment and those at which the chargers of the first n posts tell something
pub record LeastDue (w : Posts) (until n moment : ℕ) : Type 0 where
  pub within : moment ≤ until
  pub each : (place : ℕ) → place < n → moment ≤ (seat_of w place).due
  pub one : (moment ≡ until) ⊎ ((place : ℕ) × (place < n) × (moment ≡ (seat_of w place).due))

-- what is done at a moment, when the wire is to wait until another one at most
abbrev pub IsStep : Posts → ℕ → ℕ → Step → Type 0
IsStep w now until step.Over = w.left ≡ 0
IsStep w now until (step.Turn place kind) = (0 < w.left) × NextTurn w now place kind
IsStep w now until step.Tick = (0 < w.left) × NothingDue w now × (until ≤ now)
IsStep w now until (step.Wait moment) = (0 < w.left) × NothingDue w now × (now < moment) × LeastDue w until (length w.seats) moment
