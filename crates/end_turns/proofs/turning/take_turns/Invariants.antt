use Rattle.std.proofs.Common.{◌≡◌, ◌≤◌, ℕ, List, false}
use Rattle.endpoint.specs.Telling.{Carries, CarriesText, IsTraced}
use Rattle.end_turns.specs.Turns.{Waits}
use Rattle.end_turns.proofs.turning.take_turns.Given as goal

abbrev pub invariant-loop : goal.invariant-loop
invariant-loop g l =
    let E = g.E.End in
    let W = g.W.Wire in
    record {
      carried : (plan : E.Plan) (before : List ℕ) → Carries (W.past l.initial.wire) (W.past l.wire)
          (Waits (E.runs plan (E.state l.initial.near)) l.initial.so_far (W.untils l.initial.wire) before) (Waits (E.runs plan (E.state l.near)) l.so_far (W.untils l.wire) before);
      traced : CarriesText (W.past l.initial.wire) (W.past l.wire) (g.J.Sink.taken l.initial.trace) (g.J.Sink.taken l.trace) (IsTraced l.initial.so_far.hearing) (IsTraced l.so_far.hearing);
      hearing : l.so_far.hearing ≡ l.counter;
      kept : E.kept (E.state l.near) ≡ E.kept (E.state l.initial.near);
      rests : E.rests (E.state l.near);
      lives : E.over (E.state l.near) ≡ false;
      writes : g.J.Sink.faults l.trace ≡ g.J.Sink.faults l.initial.trace;
      started : W.started l.wire ≡ W.started l.initial.wire;
      posts : W.posts l.wire ≡ W.posts l.initial.wire;
      faults : W.faults l.initial.wire ≤ W.faults l.wire;
    }
