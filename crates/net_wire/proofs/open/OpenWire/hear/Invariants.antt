use Rattle.std.proofs.Common.{◌≡◌}
use Rattle.net_wire.specs.Posts.{posts_in}
use Rattle.net_wire.proofs.open.OpenWire.hear.Given as goal

abbrev pub invariant-loop : goal.invariant-loop
invariant-loop g l = posts_in l.self ≡ posts_in l.fn.self
