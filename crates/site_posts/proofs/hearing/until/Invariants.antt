use Rattle.std.proofs.Common.{◌≡◌, take, map, min}
use Rattle.std.specs.Prelude.{fold}
use Rattle.session_timers.specs.Due.{never}
use Rattle.site_posts.specs.Places.{due_at}
use Rattle.site_posts.proofs.hearing.until.Given as goal

abbrev pub invariant-loop-i : goal.invariant-loop-i
invariant-loop-i l = l.least ≡ fold min never (map due_at (take l.i l.places))
