-- Own: what holds of a past that is told, and of the posts at that moment.
use Rattle.std.specs.Prelude.{◌≡◌, ℕ, List, map, Option}
use Rattle.charge_world.specs.declared.entry.Entry.{Entry}
use Rattle.charge_world.specs.declared.offer.Dialect.{Dialect}
use Rattle.session_words.specs.declared.plan.SitePlan.{SitePlan}
use Rattle.session_words.specs.declared.word.Word.{Word}
use Rattle.post_spec.specs.Codecs.{Codecs}
use Rattle.station_spec.specs.Sharing.{Post}
use Rattle.station_spec.specs.Runs.{IsRun}
use Rattle.station_spec.specs.Until.{AreUntils}
use Rattle.endpoint.specs.Knowing.{Known, IsKnown}
use Rattle.site_codec.specs.Replies.{IsPlan}
use Rattle.site_posts.specs.declared.place.Place.{Place}
use Rattle.site_posts.specs.Places.{place_of}
use Rattle.site_posts.specs.Sound.{IsSound}

-- a post whose codecs can spell what it says
pub record IsReady (Reads : Dialect → List ℕ → Option Word → Type 0) (p : Place) : Type 0 where
  pub plan : IsPlan p.plan
  pub sound : IsSound Reads p.plan p.post

-- the posts keep what their steps in a run tell
pub record InBlock (c : Codecs) (site : SitePlan) (k : Known) (places : List Place) (past : List Entry) : Type 0 where
  pub posts : List Post
  pub run : IsRun c site past posts
  pub are : places ≡ map place_of posts
  pub known_is : IsKnown k past
  pub untils_are : AreUntils c site past k.untils
