-- Own: the watts of a site at every moment of a past.
use Rattle.std.specs.Prelude.{◌≡◌, ◌≤◌, List, ◌++◌}
use Rattle.charge_world.specs.declared.entry.Entry.{Entry}
use Rattle.session_words.specs.declared.plan.SitePlan.{SitePlan}
use Rattle.post_spec.specs.Codecs.{Codecs}
use Rattle.station_spec.specs.Sharing.{Post, told_total}
use Rattle.station_spec.specs.Runs.{IsRun}
use Rattle.spelled_watts.specs.Spelling.{SpellsWithin}

-- a past is a run, and of whichever posts it is one, what they were told is within the limit
pub record TellsWithin (c : Codecs) (site : SitePlan) (past : List Entry) : Type 0 where
  pub posts : List Post
  pub run : IsRun c site past posts
  pub within : (told : List Post) → IsRun c site past told → told_total told ≤ site.limit

-- Behind each entry of the blocks, and before the first, what the posts were told stays within the limit; and behind each entry of the whole
-- past, the orders that close it among them, so does what their last replies spell.
pub record StaysWithin (c : Codecs) (site : SitePlan) (blocks past : List Entry) (posts : List Post) : Type 0 where
  pub tells : (newer front : List Entry) → blocks ≡ newer ++ front → TellsWithin c site front
  pub spells : (newer front : List Entry) → past ≡ newer ++ front → SpellsWithin c site.limit front posts
