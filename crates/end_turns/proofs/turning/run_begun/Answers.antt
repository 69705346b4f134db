use Rattle.std.proofs.Common.{◌≡◌, [], sym, ◌∙◌, ap, arith}
use Rattle.endpoint.specs.Knowing.{known_first}
use Rattle.endpoint.specs.Telling.{IsTraced, IsWrittenSo}
use Rattle.endpoint.proofs.Carry.{carries_from, text_then, text_to}
use Rattle.end_turns.specs.Ending.{HasRun, TracedAs}
use Rattle.end_turns.specs.Lasts.{ended_so}
use Rattle.end_turns.specs.Turns.{Waits, Stops, ClosedText}
use Rattle.end_turns.proofs.Finished.{run_closed, closed_text, lost_last}
use Rattle.end_turns.proofs.Turns.{waits_first}
use Rattle.end_turns.proofs.turning.run_begun.Goals as goal

pub returns-clause-ran : goal.returns-clause-ran
returns-clause-ran g c plan =
    let E = g.E.End in
    let W = g.W.Wire in
    let first = E.state c.args.near.now in
    let s = E.state c.take_turns-last.new.near in
    let n = E.turns_in (E.kept first) in
    let start = W.past c.args.wire.now in
    let mid = W.past c.take_turns-last.new.wire in
    let waited = W.untils c.take_turns-last.new.wire in
    let u = W.untils c.args.wire.now in
    let last = c.take_turns-last.result in
    rw c.finish.ensures.same
    (rw c.take_turns-last.ensures.kept
    (run_closed start mid (W.past c.finish.new.wire) (E.runs plan s) (E.closes s) (E.rests s) n (E.over s) last c.finish.result waited u (W.untils c.finish.new.wire) (λ past. (past ≡ []) × E.runs plan first known_first past)
    c.take_turns-last.ensures.rests c.finish.ensures.how
    (carries_from start mid (λ past. (past ≡ []) × E.runs plan first known_first past) (Waits (E.runs plan first) c.nothing.result u u) (Stops (E.runs plan s) n (E.over s) (ended_so last) waited u)
    (λ past p. waits_first (E.runs plan first) c.nothing.result u past c.nothing.ensures p.1) (c.take_turns-last.ensures.carried plan u))
    c.finish.ensures.closed c.finish.ensures.orders c.finish.ensures.untils))

pub returns-clause-trace : goal.returns-clause-trace
returns-clause-trace g c =
    let hearing = c.take_turns-last.new.so_far.hearing in
    text_to _ _ _ _ (IsTraced 0) (ClosedText c.finish.result hearing) (TracedAs c.finish.result) (λ past text t. closed_text c.finish.result hearing past text t)
    (text_then _ _ _ _ _ _ (IsTraced 0) (IsWrittenSo hearing c.take_turns-last.result) (ClosedText c.finish.result hearing) (rw c.nothing.ensures at c.take_turns-last.ensures.traced) c.finish.ensures.traced)

pub returns-clause-kept : goal.returns-clause-kept
returns-clause-kept g c = ap g.E.End.kept c.finish.ensures.same ∙ c.take_turns-last.ensures.kept

pub returns-clause-trace_fault : goal.returns-clause-trace_fault
returns-clause-trace_fault g c = c.finish.ensures.writes (g.J.Sink.faults c.args.trace.now) c.take_turns-last.ensures.writes

pub returns-clause-lost : goal.returns-clause-lost
returns-clause-lost g c e = omega (arith, c.take_turns-last.ensures.lost (lost_last c.take_turns-last.result c.finish.result c.finish.ensures.how e), c.finish.ensures.faults)
