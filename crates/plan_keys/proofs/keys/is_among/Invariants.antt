use Rattle.std.proofs.Common.{◌≡◌, drop, map}
use Rattle.plan_keys.specs.Faults.{is_known}
use Rattle.plan_keys.proofs.keys.is_among.Given as goal

abbrev pub invariant-loop-known : goal.invariant-loop-known
invariant-loop-known l = is_known (map (λ r. r.now) (drop l.known-index l.names)) l.name ≡ is_known (map (λ r. r.now) l.names) l.name
