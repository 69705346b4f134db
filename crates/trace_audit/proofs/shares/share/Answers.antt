use Rattle.std.proofs.Common.{◌≡◌, ◌+◌, ◌-◌, min, take, drop, ap, arith}
use Rattle.std.specs.List.{sum_by}
use Rattle.trace_audit.specs.Shares.{told_at}
use Rattle.trace_audit.proofs.Lists.{at_of}
use Rattle.trace_audit.proofs.Levels.{shared, rest_of}
use Rattle.trace_audit.proofs.shares.share.Goals as goal

pub returns : goal.returns
returns c =
    let seats = c.args.seats.now in
    let i = c.args.i in
    let rest = ap (sum_by told_at) (rest_of seats (i + 1)) in
    let is : c.min.result ≡ min c.shown-most.result (c.args.limit - (sum_by told_at (take i seats) + sum_by told_at (drop (i + 1) seats))) =
    omega (arith, c.min.ensures, c.from-2.ensures, c.saturating_sub-left.ensures, c.from.ensures, c.told_to.ensures.value, c.told_to-2.ensures.value, rest) in
    shared c.args.limit seats i c.args.asked c.shown-most.result c.min.result (at_of seats i c.requires.within).0 c.asks_of.result c.requires.within c.requires.few c.asks_of.ensures c.shown-most.ensures is
