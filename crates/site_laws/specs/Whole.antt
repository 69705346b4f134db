-- ISO 15118-2:2014, sections 8.4 and 8.8, and own: what holds besides of a post in a run that isn't cut, up to its end.
use Rattle.std.specs.Prelude.{◌≡◌, ℕ, ◌+◌, List, ◌∷◌, ◌++◌, length}
use Rattle.charge_world.specs.declared.entry.Entry.{Entry}
use Rattle.session_words.specs.declared.plan.SitePlan.{SitePlan}
use Rattle.post_spec.specs.Codecs.{Codecs}
use Rattle.post_spec.specs.Steps.{Seen, seen}
use Rattle.station_spec.specs.Sharing.{Post}
use Rattle.station_spec.specs.Runs.{IsSiteRun}
use Rattle.isolated_runs.specs.Isolated.{AreAlike}
use Rattle.conforming_runs.specs.Conforming.{Conforming}
use Rattle.applied_causes.specs.Serving.{AreServed, RestsIn}

-- what post n did, whose part of the past is `past`, it does in each whole run of any site, whatever the other posts are and do there: where it
-- has the same plan, hears the same at the same moments, and its outcomes and shown watts are the same as far as both have some
abbrev pub IsIsolated : Codecs → ℕ → Post → List Seen → Type 0
IsIsolated c n post past = (site : SitePlan) (others : List Entry) (run : IsSiteRun c site others) (before : List Post) (alike : Post)
    (behind : List Post) → run.posts ≡ before ++ alike ∷ behind → n ≡ length before + 1
    → AreAlike post alike past (seen n others) → seen n others ≡ past

-- post n of a whole run, with the orders that close it: where its last session conforms, it is served up to the end; and it is isolated
pub record IsLawfulWhole (c : Codecs) (n : ℕ) (post : Post) (past : List Seen) : Type 0 where
  pub served : Conforming post.plan post.steps → AreServed c post.plan past
  pub up_to_date : Conforming post.plan post.steps → RestsIn c post.plan past
  pub isolated : IsIsolated c n post past
