use Rattle.std.proofs.Common.{◌≡◌}
use Rattle.station_spec.specs.Runs.{Closes}
use Rattle.site_serving.specs.Serving.{ClosesTo}
use Rattle.endpoint.proofs.Carry.{carries_from}
use Rattle.site_serving.proofs.Shutting.{closes_none}
use Rattle.site_turns.proofs.closing.cut_all.Goals as goal

pub returns-clause-closed : goal.returns-clause-closed
returns-clause-closed g c posts blocks are =
    carries_from _ _ (λ past. past ≡ blocks) (ClosesTo posts 0 blocks) (Closes 1 posts blocks) (λ past e. closes_none posts blocks past e) (c.close_unwritten.ensures.closed posts blocks are)
