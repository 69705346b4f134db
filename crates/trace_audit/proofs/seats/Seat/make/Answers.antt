use Rattle.std.proofs.Common.{refl}
use Rattle.trace_audit.proofs.seats.Seat.make.Goals as goal

pub returns : goal.returns
returns g c = (λ k. record { are = c.in_ok-post.ensures.0 k; alone_is = refl }, c.in_ok-post.ensures.1)
