use Rattle.std.proofs.Common.{◌≡◌, map}
use Rattle.toml.specs.View.{members_view}
use Rattle.plan_keys.specs.Faults.{least_unknown}
use Rattle.plan_keys.proofs.Unknown.{FirstIsLeast}
use Rattle.plan_keys.proofs.keys.unknown_key.Given as goal

abbrev pub invariant-loop-name : goal.invariant-loop-name
invariant-loop-name l = record {
  ascends : FirstIsLeast (map (λ s. s.now) l.names) l.name-iterator;
  least : least_unknown (map (λ s. s.now) l.names) (members_view l.name-iterator) ≡ least_unknown (map (λ s. s.now) l.names) (members_view l.table.entries);
}
