-- Own: what a post that is alone at its site does next.
use Rattle.std.specs.Prelude.{◌≡◌, ℕ, ◌≤◌, true, List, [], length, Option}
use Rattle.plant_sim.specs.Charger.{Charger}
use Rattle.post_spec.specs.Codecs.{Codecs}
use Rattle.post_spec.specs.Steps.{Act, Reading}
use Rattle.station_spec.specs.Acting.{acted}
use Rattle.station_spec.specs.Judging.{filled}
use Rattle.station_spec.specs.Next.{Acts}
use Rattle.station_spec.specs.Sharing.{Shows}
use Rattle.site_posts.specs.declared.place.Place.{Place}
use Rattle.site_posts.specs.Places.{RestsAt}
use Rattle.pipe_spec.specs.Histories.{station_says}
use Rattle.pair_ends.specs.declared.tallies.PostTally.{PostTally}
use Rattle.pair_ends.specs.Ends.{charger_behind, IsSent}
use Rattle.pair_ends.specs.Tallies.{post_did}

pub record AloneDoes (c : Codecs) (limit now : ℕ) (p : Place) (charger : Charger) (t : PostTally) (way : List ℕ) (new : Place) (charger_new : Charger) (t_new : PostTally) (way_new : List ℕ) : Type 0 where
  pub reading : Option Reading
  pub act : Act
  pub acts : Acts c p.plan (Shows limit [] []) p.post reading act true
  pub plan_is : new.plan ≡ p.plan
  pub post_is : new.post ≡ acted act true (filled p.plan reading p.post)
  pub charger_is : charger_new ≡ charger_behind act now charger
  pub tally_is : t_new ≡ post_did act t
  pub short : length (station_says act) ≤ 1032
  pub sent : IsSent (station_says act) way way_new

pub record AloneRests (p : Place) (charger : Charger) (t : PostTally) (way : List ℕ) (new : Place) (charger_new : Charger) (t_new : PostTally) (way_new : List ℕ) : Type 0 where
  pub rests : RestsAt p
  pub new_is : new ≡ p
  pub charger_is : charger_new ≡ charger
  pub tally_is : t_new ≡ t
  pub way_is : way_new ≡ way
