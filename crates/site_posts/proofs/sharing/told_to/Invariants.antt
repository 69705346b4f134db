use Rattle.std.proofs.Common.{◌≡◌, ◌≤◌, ◌*◌, take}
use Rattle.std.specs.List.{sum_by}
use Rattle.site_posts.specs.Places.{told_at}
use Rattle.site_posts.proofs.sharing.told_to.Given as goal

abbrev pub invariant-loop-i : goal.invariant-loop-i
invariant-loop-i l = record {
  sum : l.sum ≡ sum_by told_at (take l.i l.places);
  few : l.sum ≤ l.i * 4294967296;
}
