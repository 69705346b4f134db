use Rattle.std.proofs.Common.{◌≡◌, ℕ, ◌+◌, List, [], ◌∷◌, take, get_or, sym, ap, ◌∙◌, arith}
use Rattle.schedules.specs.declared.power.Step.{Step}
use Rattle.schedules.specs.Steps.{held, watts_at}
use Rattle.schedules.proofs.Holding.{held_begun, held_waiting}
use Rattle.schedules.proofs.Turned.{watts_more}
use Rattle.schedules.proofs.offer.watts_at.Goals as goal
use Rattle.schedules.proofs.offer.watts_at.Goals.{then-step-second, else-step-second}

pub loop-step-preserved : goal.loop-step-preserved
loop-step-preserved c =
    let i : ℕ = c.loop-step.step-index in
    let item : Step = get_or c.args.steps.now i (record { start = 0; watts = 0 }) in
    let front : ℕ = watts_at (take i c.args.steps.now) c.args.second in
    let more : watts_at (take (i + 1) c.args.steps.now) c.args.second ≡ held front (item ∷ []) c.args.second =
    watts_more c.args.steps.now i (record { start = 0; watts = 0 }) c.args.second c.loop-step-test.true in
    elim c.if-step-second.branch [
      | then-step-second w ↦ w.watts-is ∙ sym (held_begun item [] front c.args.second w.if-step-second.true) ∙ sym more
      | else-step-second w ↦ w.watts-is ∙ c.loop-step.invariant ∙ sym (held_waiting item [] front c.args.second w.if-step-second.false) ∙ sym more
    ]
