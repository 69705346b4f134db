-- Own: no post is passed over: each turn of another one brings it closer.
use Rattle.std.specs.Prelude.{◌≡◌, ◌≢◌, ◌⊎◌, ℕ, ◌+◌, ◌<◌, ◌≤◌, true, length}
use Rattle.wire_events.specs.declared.seat.Kind.{Kind}
use Rattle.wire_events.specs.Seats.{is_due}
use Rattle.wire_events.specs.Boards.{Posts, seat_of, NextTurn}

-- how many steps a place lies behind another one, from 1 to 8, going round 8 places
abbrev pub IsBehind : ℕ → ℕ → ℕ → Type 0
IsBehind last place steps = ((last < place) × (last + steps ≡ place)) ⊎ ((place ≤ last) × (last + steps ≡ place + 8))

-- something is due of a post, and it is the turn of another one: then it lies fewer steps behind that one than behind the one before.
-- So a post of which something stays due has its turn after at most seven others
pub record IsPassedOver (w : Posts) (now turn place : ℕ) : Type 0 where
  pub posts : length w.seats ≤ 8
  pub last : w.last < 8
  pub kind : Kind
  pub turn_is : NextTurn w now turn kind
  pub within : place < length w.seats
  pub waits : Kind
  pub due : is_due (seat_of w place) now waits ≡ true
  pub other : place ≢ turn

abbrev pub TurnsComeCloser : Type 0
TurnsComeCloser = (w : Posts) (now turn place after before : ℕ) → IsPassedOver w now turn place →
    IsBehind turn place after → IsBehind w.last place before → after < before
