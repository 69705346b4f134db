use Rattle.site_posts.specs.Places.{AsksOf}
use Rattle.site_posts.proofs.sharing.asks_of.Given as goal

abbrev pub invariant-loop-i : goal.invariant-loop-i
invariant-loop-i l = AsksOf l.limit l.places l.i l.shares
