use Rattle.std.proofs.Common.{◌≡◌, []}
use Rattle.endpoint.specs.Knowing.{known_first}
use Rattle.endpoint.specs.Telling.{IsTraced}
use Rattle.endpoint.proofs.Carry.{carries_none, text_then}
use Rattle.endpoint.proofs.Faults.{fault_ok}
use Rattle.endpoint.proofs.Written.{begin_ok}
use Rattle.end_turns.specs.declared.ending.Ended.TheVariants as ended
use Rattle.end_turns.specs.Ending.{HasRun, TracedAs}
use Rattle.end_turns.proofs.Finished.{none_run, begin_failed, turn_faults, faults_behind}
use Rattle.end_turns.proofs.turning.run.Goals as goal

pub returns-in-Err-clause-ran : goal.returns-in-Err-clause-ran
returns-in-Err-clause-ran g c plan =
    let E = g.E.End in
    let s = E.state c.args.near.now in
    let u = g.W.Wire.untils c.args.wire.now in
    let n = E.turns_in (E.kept s) in
    carries_none _ (λ past. (past ≡ []) × E.runs plan s known_first past) (HasRun (E.runs plan s) (E.closes s) (E.rests s) n (E.over s) ended.TraceFault u u)
    (λ past p. none_run (E.runs plan s) (E.closes s) (E.rests s) n (E.over s) u past c.requires.idle p.1)

pub returns-in-Err-clause-trace : goal.returns-in-Err-clause-trace
returns-in-Err-clause-trace g c = begin_failed _ _ _ c.in-Err.ensures.failed

pub returns-in-Ok-clause-trace : goal.returns-in-Ok-clause-trace
returns-in-Ok-clause-trace g c =
    text_then _ _ _ _ _ _ (λ past text. (past ≡ []) × (text ≡ [])) (IsTraced 0) (TracedAs c.run_begun.result) (begin_ok _ _ _ c.in-Ok.ensures.ok) c.run_begun.ensures.trace

pub returns-in-Err-clause-trace_fault : goal.returns-in-Err-clause-trace_fault
returns-in-Err-clause-trace_fault g c = turn_faults _ _ _ c.in-Err.ensures.faults

pub returns-in-Ok-clause-trace_fault : goal.returns-in-Ok-clause-trace_fault
returns-in-Ok-clause-trace_fault g c = faults_behind _ _ _ c.run_begun.result (fault_ok _ _ _ c.in-Ok.ensures.faults) c.run_begun.ensures.trace_fault
