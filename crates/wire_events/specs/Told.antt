-- Own: what a read comes to, and the numbers of sockets.
use Rattle.std.specs.Prelude.{ℕ, zero, suc, ◌+◌, ◌*◌}
use Rattle.charge_world.specs.declared.heard.What.{What}
use Rattle.charge_world.specs.declared.heard.What.TheVariants as what
use Rattle.wire_events.specs.declared.keys.Key.{Key}
use Rattle.wire_events.specs.declared.seat.Socket.{Socket}
use Rattle.wire_events.specs.declared.seat.Socket.TheVariants as socket

-- a read without bytes tells that the connection ended
abbrev pub read_of : ℕ → ℕ → What
read_of post zero = what.Gone post
read_of post (suc n) = what.Bytes post (suc n)

abbrev pub socket_number : Socket → ℕ
socket_number socket.Listener = 0
socket_number socket.Stream = 1
socket_number socket.Discovery = 2

abbrev pub key_number : Key → ℕ
key_number key = 3 * key.place + socket_number key.socket
