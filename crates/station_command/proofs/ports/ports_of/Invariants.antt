use Rattle.std.proofs.Common.{◌≡◌, take, map}
use Rattle.arrayvec.specs.ArrayVec.{array_vec_len}
use Rattle.station_command.specs.Ports.{pair_of}
use Rattle.station_command.proofs.ports.ports_of.Given as goal

abbrev pub invariant-loop-post : goal.invariant-loop-post
invariant-loop-post l = record {
  pairs : l.pairs.items ≡ map pair_of (take l.post-index l.plan.post.items);
  count : array_vec_len l.pairs ≡ l.post-index;
}
