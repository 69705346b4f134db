-- Own: the watts that the posts were told stay within the limit of the site.
use Rattle.std.specs.Prelude.{◌≤◌, List}
use Rattle.charge_world.specs.declared.entry.Entry.{Entry}
use Rattle.session_words.specs.declared.plan.SitePlan.{SitePlan}
use Rattle.station_spec.specs.Codecs.{Codecs}
use Rattle.station_spec.specs.Sharing.{Post, told_total}
use Rattle.station_spec.specs.Runs.{IsRun}

-- after every entry of a run
abbrev pub RunsTellWithin : Codecs → Type 0
RunsTellWithin c = (site : SitePlan) (past : List Entry) (posts : List Post) → IsRun c site past posts → told_total posts ≤ site.limit
