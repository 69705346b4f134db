use Rattle.std.proofs.Common.{◌≡◌, ◌+◌, ◌<◌, ◌≤◌, ℕ, get_or}
use Rattle.site_posts.specs.declared.place.Place.{Place}
use Rattle.site_posts.specs.Places.{heard_place}
use Rattle.site_posts.proofs.hearing.hear_all.Given as goal

abbrev pub invariant-loop-i : goal.invariant-loop-i
invariant-loop-i l = record {
  behind : (j : ℕ) (d : Place) → j < l.i → get_or l.places j d ≡ heard_place (j + 1) l.now l.heard.what l.bytes (get_or l.initial.places j d);
  before : (j : ℕ) (d : Place) → l.i ≤ j → get_or l.places j d ≡ get_or l.initial.places j d;
}
