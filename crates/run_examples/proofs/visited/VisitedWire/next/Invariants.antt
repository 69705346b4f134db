use Rattle.std.proofs.Common.{◌≡◌}
use Rattle.run_examples.proofs.visited.VisitedWire.next.Given as goal

abbrev pub invariant-loop : goal.invariant-loop
invariant-loop g l = record {
  started : g.W.Wire.started l.self.wire ≡ g.W.Wire.started l.fn.self.wire;
  posts : g.W.Wire.posts l.self.wire ≡ g.W.Wire.posts l.fn.self.wire;
  faults : g.W.Wire.faults l.self.wire ≡ g.W.Wire.faults l.fn.self.wire;
}
