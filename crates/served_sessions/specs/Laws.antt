-- ISO 15118-2:2014, sections 8.4 and 8.8: every conforming session is served.
use Rattle.std.specs.Prelude.{◌≡◌, ◌+◌, List, ◌∷◌, ◌++◌, length}
use Rattle.charge_world.specs.declared.entry.Entry.{Entry}
use Rattle.session_words.specs.declared.plan.SitePlan.{SitePlan}
use Rattle.post_spec.specs.Codecs.{Codecs}
use Rattle.post_spec.specs.Spelled.{ReadsBack}
use Rattle.post_spec.specs.Steps.{Step, seen}
use Rattle.station_spec.specs.Sharing.{Post}
use Rattle.station_spec.specs.Runs.{IsRun, IsSiteRun}
use Rattle.conforming_runs.specs.Conforming.{Conforming}
use Rattle.served_sessions.specs.Serving.{AreServed, RestsIn, IsWellServed}

-- in every run, of each post and each of its sessions: behind any of its steps, where the session to which they have come conforms
abbrev pub RunsServe : Codecs → Type 0
RunsServe c = (site : SitePlan) (past : List Entry) (posts before : List Post) (post : Post) (behind : List Post)
    → ReadsBack c → IsRun c site past posts → posts ≡ before ++ post ∷ behind
    → (newer front : List Step) → post.steps ≡ newer ++ front → Conforming post.plan front → IsWellServed c post.plan front

-- in every whole run of a site, with the orders that close it, where the last session of a post conforms
abbrev pub WholeRunsServe : Codecs → Type 0
WholeRunsServe c = (site : SitePlan) (past : List Entry) (before : List Post) (post : Post) (behind : List Post)
    → ReadsBack c → (run : IsSiteRun c site past) → run.posts ≡ before ++ post ∷ behind
    → Conforming post.plan post.steps
    → AreServed c post.plan (seen (length before + 1) past) × RestsIn c post.plan (seen (length before + 1) past)
