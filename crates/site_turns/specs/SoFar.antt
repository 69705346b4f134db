-- Own: what a site keeps of a run: its posts, and what was heard so far.
use Rattle.std.specs.Prelude.{◌≡◌, ℕ, ◌<◌, false, List, ◌∷◌}
use Rattle.charge_world.specs.declared.entry.Entry.{Entry}
use Rattle.charge_world.specs.declared.entry.Entry.TheVariants as entry
use Rattle.charge_world.specs.declared.heard.Heard.{Heard}
use Rattle.session_words.specs.declared.plan.SitePlan.{SitePlan}
use Rattle.post_spec.specs.Codecs.{Codecs}
use Rattle.station_spec.specs.Blocks.{hearings, is_last}
use Rattle.site_posts.specs.declared.place.Place.{Place}
use Rattle.endpoint.specs.declared.hearing.SoFar.{SoFar}
use Rattle.endpoint.specs.Knowing.{Known}
use Rattle.site_acts.specs.Serving.{InBlock}

-- the past is a run of the plan so far: the posts keep what their steps in it tell, and these are its greatest moment and its hearings
pub record IsSoFar (c : Codecs) (plan : SitePlan) (so_far : SoFar) (places : List Place) (past : List Entry) : Type 0 where
  pub known : Known
  pub block : InBlock c plan known places past
  pub clock_is : known.clock ≡ so_far.moment
  pub heard_is : known.heard ≡ so_far.hearing

-- this was heard behind such a run, in which neither Over was heard nor a hearing lost, and which left the plan a turn
pub record IsNext (c : Codecs) (plan : SitePlan) (so_far : SoFar) (heard : Heard) (bytes : List ℕ) (places : List Place) (past : List Entry) : Type 0 where
  pub earlier : List Entry
  pub past_is : past ≡ entry.Heard heard bytes ∷ earlier
  pub run : IsSoFar c plan so_far places earlier
  pub goes_on : is_last earlier ≡ false
  pub left : hearings earlier < plan.turns
