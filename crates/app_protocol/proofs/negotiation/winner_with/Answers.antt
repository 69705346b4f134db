use Rattle.std.proofs.Common.{refl}
use Rattle.app_protocol.specs.Messages.{protocol_of}
use Rattle.app_protocol.proofs.Winners.{stays, stays_none, first, lower}
use Rattle.app_protocol.proofs.negotiation.winner_with.Goals as goal

pub returns-in_default : goal.returns-in_default
returns-in_default c taken won = stays_none c.args.offers.now taken c.args.best (protocol_of c.args.protocol.now) c.in_default.ensures won

pub returns-in-None : goal.returns-in-None
returns-in-None c taken won =
    let none = rw c.in-None.is at won in
    first c.args.offers.now taken _ (protocol_of c.args.protocol.now) none c.in-Some.ensures refl c.accepted.ensures

pub returns-then-winner-old : goal.returns-then-winner-old
returns-then-winner-old c taken won =
    let some = rw c.in-Some-best.is at won in
    lower c.args.offers.now taken c.in-Some-best.old _ (protocol_of c.args.protocol.now) some c.if-winner-old.true c.in-Some.ensures refl c.accepted.ensures

pub returns-else-winner-old : goal.returns-else-winner-old
returns-else-winner-old c taken won =
    let some = rw c.in-Some-best.is at won in
    stays c.args.offers.now taken c.in-Some-best.old (protocol_of c.args.protocol.now) (λ d m. c.if-winner-old.false) some
