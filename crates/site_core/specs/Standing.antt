-- Own: a site between its hearings, as an end of a charge.
use Rattle.std.specs.Prelude.{◌≡◌, ℕ, List, map}
use Rattle.charge_world.specs.declared.entry.Entry.{Entry}
use Rattle.session_words.specs.declared.plan.SitePlan.{SitePlan}
use Rattle.post_spec.specs.Codecs.{Codecs}
use Rattle.station_spec.specs.Sharing.{Post}
use Rattle.station_spec.specs.Runs.{Closes}
use Rattle.endpoint.specs.Knowing.{Known}
use Rattle.site_posts.specs.declared.place.Place.{Place}
use Rattle.site_posts.specs.Places.{place_of}
use Rattle.site_acts.specs.Serving.{InBlock}

-- what it keeps, without the memory in which it makes frames and lines
pub record Standing : Type 0 where
  pub places : List Place
  pub limit : ℕ
  pub turns : ℕ

-- the past is a run of the site by this plan
pub record IsRunBy (c : Codecs) (plan : SitePlan) (s : Standing) (k : Known) (past : List Entry) : Type 0 where
  pub limit_is : plan.limit ≡ s.limit
  pub turns_is : plan.turns ≡ s.turns
  pub block : InBlock c plan k s.places past

-- whichever posts these are, they are closed in order of number
abbrev pub ClosesAll : List Place → List Entry → List Entry → Type 0
ClosesAll places blocks past = (posts : List Post) → places ≡ map place_of posts → Closes 1 posts blocks past
