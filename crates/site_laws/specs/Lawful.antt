-- What holds of every past that a site was served with (IEC 61851-1, annex A; IEC 61851-23; ISO 15118-2:2014, sections 8.4, 8.7 and 8.8).
use Rattle.std.specs.Prelude.{◌≡◌, ◌+◌, List, ◌∷◌, ◌++◌, length}
use Rattle.charge_world.specs.declared.entry.Entry.{Entry}
use Rattle.session_words.specs.declared.plan.SitePlan.{SitePlan}
use Rattle.post_spec.specs.Codecs.{Codecs}
use Rattle.post_spec.specs.Steps.{seen}
use Rattle.station_spec.specs.Sharing.{Post}
use Rattle.station_spec.specs.Runs.{IsRun, IsSiteRun, Closes}
use Rattle.blocks_of_runs.specs.CutRuns.{StopInBlocks}
use Rattle.site_laws.specs.Limits.{StaysWithin}
use Rattle.site_laws.specs.Posts.{IsLawfulPost}
use Rattle.site_laws.specs.Whole.{IsLawfulWhole}

-- The past is a list of blocks, a hearing and then what each post answers, part by part, up to where the run stops. Each post is safe, silent
-- without a session, and serves each session that conforms; at every moment the watts that the posts were told, and those that the last replies of all
-- spell, stay within the limit; and where the run isn't cut, each post is served up to its end, and isolated
pub record IsLawful (c : Codecs) (site : SitePlan) (past : List Entry) : Type 0 where
  pub blocks : List Entry
  pub posts : List Post
  pub run : IsRun c site blocks posts
  pub in_blocks : StopInBlocks c site blocks posts
  pub closed : Closes 1 posts blocks past
  pub within : StaysWithin c site blocks past posts
  pub each : (before : List Post) (post : Post) (behind : List Post) → posts ≡ before ++ post ∷ behind
      → IsLawfulPost c post.plan post.steps (seen (length before + 1) blocks) (seen (length before + 1) past)
  pub whole : (uncut : IsSiteRun c site past) (before : List Post) (post : Post) (behind : List Post) → uncut.posts ≡ before ++ post ∷ behind
      → IsLawfulWhole c (length before + 1) post (seen (length before + 1) past)
