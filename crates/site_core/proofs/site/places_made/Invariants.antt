use Rattle.std.proofs.Common.{◌≡◌, map, take}
use Rattle.std.specs.List.{All}
use Rattle.station_spec.specs.Runs.{unheard}
use Rattle.site_codec.specs.Replies.{IsPlan}
use Rattle.site_posts.specs.Places.{place_of}
use Rattle.site_core.proofs.site.places_made.Given as goal

abbrev pub invariant-loop-post : goal.invariant-loop-post
invariant-loop-post l = record {
  made : l.places.items ≡ map place_of (map unheard (take l.post-index l.plan.post.items));
  plans : All (λ p. IsPlan p.plan) l.places.items;
}
