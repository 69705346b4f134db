use Rattle.std.proofs.Common.{◌≡◌, ◌+◌, ◌-◌, min, take, drop, ap, arith}
use Rattle.std.specs.List.{sum_by}
use Rattle.site_posts.specs.Places.{told_at}
use Rattle.site_posts.specs.Filling.{no_place}
use Rattle.site_posts.proofs.Levels.{shared, rest_of}
use Rattle.site_posts.proofs.sharing.share.Goals as goal

pub returns : goal.returns
returns c =
    let places = c.args.places.now in
    let i = c.args.i in
    let rest = ap (sum_by told_at) (rest_of places (i + 1)) in
    let is : c.min.result ≡ min c.shown-most.result (c.args.limit - (sum_by told_at (take i places) + sum_by told_at (drop (i + 1) places))) =
    omega (arith, c.min.ensures, c.from-2.ensures, c.saturating_sub-left.ensures, c.from.ensures, c.told_to.ensures.value, c.told_to-2.ensures.value, rest) in
    shared c.args.limit places i c.args.asked c.shown-most.result c.min.result no_place c.asks_of.result c.requires.within c.requires.few c.asks_of.ensures c.shown-most.ensures is
