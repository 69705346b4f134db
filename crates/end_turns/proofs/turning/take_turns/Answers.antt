use Rattle.std.proofs.Common.{◌≡◌, Ok, sym, ap, subst, ◌∙◌, arith}
use Rattle.endpoint.specs.Telling.{IsTraced}
use Rattle.endpoint.proofs.Carry.{carries_then, carries_to, text_then}
use Rattle.endpoint.proofs.Faults.{fault_ok}
use Rattle.end_turns.specs.declared.ending.Ended.TheVariants as ended
use Rattle.end_turns.specs.Lasts.{ended_by, ended_so}
use Rattle.end_turns.specs.Turns.{Waits, Stops}
use Rattle.end_turns.proofs.Turns.{stopped_cut, stop_turns}
use Rattle.end_turns.proofs.turning.take_turns.Goals as goal

pub turn-requires-clause-left : goal.turn-requires-clause-left
turn-requires-clause-left g c = omega (arith, c.loop.invariant.hearing, c.loop-test.true, c.turns-end.ensures, ap g.E.End.turns_in c.loop.invariant.kept)

pub returns-in_err-turn-clause-carried : goal.returns-in_err-turn-clause-carried
returns-in_err-turn-clause-carried g c plan before =
    let E = g.E.End in
    let new = E.state c.turn.new.near in
    let n = E.turns_in (E.kept (E.state c.args.near.now)) in
    let waited = g.W.Wire.untils c.turn.new.wire in
    let first = Waits (E.runs plan (E.state c.args.near.now)) c.args.so_far.now (g.W.Wire.untils c.args.wire.now) before in
    let mid = Waits (E.runs plan (E.state c.loop.near)) c.loop.so_far (g.W.Wire.untils c.loop.wire) before in
    let cut = Stops (E.runs plan new) n (E.over new) ended.TraceFault waited before in
    carries_to _ _ first cut (Stops (E.runs plan new) n (E.over new) (ended_so c.from_residual.result) waited before) (λ past s. stopped_cut _ (E.runs plan new) n (E.over new) c.from_residual.result waited before past c.from_residual.ensures.0 s)
    (carries_then _ _ _ first mid cut (c.loop.invariant.carried plan before) (rw c.loop.invariant.kept at (c.in_err-turn.ensures.carried plan before)))

pub returns-in_err-turn-clause-kept : goal.returns-in_err-turn-clause-kept
returns-in_err-turn-clause-kept g c = c.turn.ensures.kept ∙ c.loop.invariant.kept

pub returns-in-Some-clause-carried : goal.returns-in-Some-clause-carried
returns-in-Some-clause-carried g c plan before =
    let E = g.E.End in
    let new = E.state c.turn.new.near in
    let n = E.turns_in (E.kept (E.state c.args.near.now)) in
    let first = Waits (E.runs plan (E.state c.args.near.now)) c.args.so_far.now (g.W.Wire.untils c.args.wire.now) before in
    let mid = Waits (E.runs plan (E.state c.loop.near)) c.loop.so_far (g.W.Wire.untils c.loop.wire) before in
    carries_then _ _ _ first mid (Stops (E.runs plan new) n (E.over new) (ended_by c.in-Some.last) (g.W.Wire.untils c.turn.new.wire) before) (c.loop.invariant.carried plan before)
    (rw c.loop.invariant.kept at (rw c.in-Some.is at (c.in_ok-turn.ensures.carried plan before)))

pub returns-in-Some-clause-kept : goal.returns-in-Some-clause-kept
returns-in-Some-clause-kept g c = c.turn.ensures.kept ∙ c.loop.invariant.kept

pub loop-preserved : goal.loop-preserved
loop-preserved g c =
    let E = g.E.End in
    record {
      carried = λ plan before.
          let first = Waits (E.runs plan (E.state c.args.near.now)) c.args.so_far.now (g.W.Wire.untils c.args.wire.now) before in
          let mid = Waits (E.runs plan (E.state c.loop.near)) c.loop.so_far (g.W.Wire.untils c.loop.wire) before in
          carries_then _ _ _ first mid (Waits (E.runs plan (E.state c.turn.new.near)) c.turn.new.so_far (g.W.Wire.untils c.turn.new.wire) before) (c.loop.invariant.carried plan before)
          (rw c.in-None.is at (c.in_ok-turn.ensures.carried plan before));
      traced = text_then _ _ _ _ _ _ (IsTraced c.args.so_far.now.hearing) (IsTraced c.loop.so_far.hearing) (IsTraced c.turn.new.so_far.hearing) c.loop.invariant.traced c.in_ok-turn.ensures.traced;
      hearing = omega (arith, c.turn.ensures.hearing, c.loop.invariant.hearing);
      kept = c.turn.ensures.kept ∙ c.loop.invariant.kept;
      rests = c.in_ok-turn.ensures.rests;
      lives = c.turn.ensures.lives (c.in_ok-turn.was ∙ ap Ok c.in-None.is);
      writes = fault_ok _ _ _ c.in_ok-turn.ensures.writes ∙ c.loop.invariant.writes;
      started = c.turn.ensures.started ∙ c.loop.invariant.started;
      posts = c.turn.ensures.posts ∙ c.loop.invariant.posts;
      faults = omega (arith, c.turn.ensures.faults, c.loop.invariant.faults);
    }

pub returns-clause-carried : goal.returns-clause-carried
returns-clause-carried g c plan before =
    let E = g.E.End in
    let n = E.turns_in (E.kept (E.state c.args.near.now)) in
    let s = E.state c.loop.near in
    let all : c.loop.so_far.hearing ≡ n = omega (arith, c.loop.invariant.hearing, c.loop-test.false, c.loop.auto.counter-end, c.turns-end.ensures) in
    let waited = g.W.Wire.untils c.loop.wire in
    carries_to _ _ (Waits (E.runs plan (E.state c.args.near.now)) c.args.so_far.now (g.W.Wire.untils c.args.wire.now) before) (Waits (E.runs plan s) c.loop.so_far waited before) (Stops (E.runs plan s) n (E.over s) ended.Turns waited before)
    (λ past w. stop_turns (E.runs plan s) n (E.over s) c.loop.so_far waited before past all (λ k r. g.met.E.End.known plan s k past r) w) (c.loop.invariant.carried plan before)

pub returns-in-Some-clause-traced : goal.returns-in-Some-clause-traced
returns-in-Some-clause-traced g c =
    text_then _ _ _ _ _ _ (IsTraced c.args.so_far.now.hearing) (IsTraced c.loop.so_far.hearing) (IsTraced c.turn.new.so_far.hearing) c.loop.invariant.traced c.in_ok-turn.ensures.traced
