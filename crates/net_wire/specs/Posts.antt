-- Own: how many posts a wire over sockets was started with.
use Rattle.std.specs.Prelude.{ℕ, length, Option, Some, None}
use Rattle.charge_world.specs.declared.ports.Ports.{Ports}
use Rattle.charge_world.specs.Outside.{posts_of}
use Rattle.net_wire.specs.declared.open.OpenWire.{OpenWire}

abbrev pub posts_in : OpenWire → ℕ
posts_in wire = length wire.board.seats

-- of a wire that couldn't be opened those that it was to be started with; none before it was started
abbrev pub posts_started : Option OpenWire → Option Ports → ℕ
posts_started (Some wire) ports = posts_in wire
posts_started None (Some ports) = posts_of ports
posts_started None None = 0
