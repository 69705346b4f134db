-- Own: a whole run of a station that is replayed under its plan is the same run.
use Rattle.std.specs.Prelude.{◌≡◌, ◌≢◌, List, [], reverse}
use Rattle.charge_world.specs.declared.entry.Entry.{Entry}
use Rattle.session_words.specs.declared.plan.SitePlan.{SitePlan}
use Rattle.post_spec.specs.Codecs.{Codecs}
use Rattle.post_spec.specs.Spelled.{AreDetermined}
use Rattle.station_spec.specs.Runs.{IsSiteRun}
use Rattle.replay_wire.specs.Replays.{IsReplayOf}

-- a run in which nothing was heard has no past
abbrev pub ReplaysItself : Codecs → Type 0
ReplaysItself c = (site : SitePlan) (past again : List Entry) → AreDetermined c → IsSiteRun c site past → IsSiteRun c site again
    → past ≢ [] → again ≢ [] → IsReplayOf (reverse past) again → past ≡ again
