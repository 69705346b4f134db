-- Own: the room in which the bytes of a hearing stand.
use Rattle.std.specs.Prelude.{ℕ, ◌≤◌}
use Rattle.charge_world.specs.declared.heard.What.{What}
use Rattle.charge_world.specs.declared.heard.What.TheVariants as what

-- the bytes of a piece or a datagram are the first of a room of so many
abbrev pub FitsIn : What → ℕ → Type 0
FitsIn (what.Came post token) room = Unit {0}
FitsIn (what.Bytes post n) room = n ≤ room
FitsIn (what.Gone post) room = Unit {0}
FitsIn (what.Datagram post n) room = n ≤ room
FitsIn (what.Plant post event) room = Unit {0}
FitsIn what.Tick room = Unit {0}
FitsIn what.Over room = Unit {0}
