use Rattle.site_posts.proofs.Levels.{until_more}
use Rattle.site_posts.proofs.hearing.until.Goals as goal

pub loop-i-preserved : goal.loop-i-preserved
loop-i-preserved c =
    until_more c.args.places.now c.loop-i.i c.index-places-i.result c.loop-i.least c.next_due.result c.min-least.result c.loop-i-test.true c.index-places-i.is c.loop-i.invariant c.next_due.ensures c.min-least.ensures
