use Rattle.std.proofs.Common.{◌≡◌, ℕ, ◌+◌, List, [], ◌∷◌, ◌++◌, length, drop, get_or, sym, ap, ◌∙◌, arith}
use Rattle.std.proofs.lemmas.List.{append-nil, append_assoc, drop_all}
use Rattle.schedules.specs.declared.power.Step.{Step}
use Rattle.schedules.specs.Turning.{merged}
use Rattle.schedules.proofs.Turned.{merged_same, merged_more}
use Rattle.schedules.proofs.offer.merged_with.Goals as goal
use Rattle.schedules.proofs.offer.merged_with.Goals.{then-step-held, else-step-held}

pub loop-step-preserved : goal.loop-step-preserved
loop-step-preserved c =
    let i : ℕ = c.loop-step.step-index in
    let item : Step = get_or c.args.steps.now i (record { start = 0; watts = 0 }) in
    let offer : List Step = c.loop-step.offer.items in
    let rest : List Step = drop (i + 1) c.args.steps.now in
    elim c.if-step-held.branch [
      | then-step-held w ↦
          let more : merged c.loop-step.held (drop i c.args.steps.now) ≡ item ∷ merged item.watts rest =
          merged_more c.loop-step.held c.args.steps.now i (record { start = 0; watts = 0 }) c.loop-step-test.true w.if-step-held.true in
          let along : (offer ++ item ∷ []) ++ merged item.watts rest ≡ offer ++ (item ∷ merged item.watts rest) = append_assoc offer (item ∷ []) (merged item.watts rest) in
          let long : length c.if-step-held.offer.items ≡ length w.push-then-step-held.new.self.items = cc in
          record { all = cc; few = omega (arith, c.loop-step.invariant.few, w.push-then-step-held.ensures.len, long) }
      | else-step-held w ↦
          let same : merged c.loop-step.held (drop i c.args.steps.now) ≡ merged c.loop-step.held rest =
          merged_same c.loop-step.held c.args.steps.now i (record { start = 0; watts = 0 }) c.loop-step-test.true w.if-step-held.false in
          let long : length c.if-step-held.offer.items ≡ length c.loop-step.offer.items = cc in
          record { all = cc; few = omega (arith, c.loop-step.invariant.few, long) }
    ]

pub returns : goal.returns
returns c =
    let offer : List Step = c.loop-step.offer.items in
    sym (append-nil offer)
    ∙ ap (λ (xs : List Step). offer ++ merged c.loop-step.held xs) (sym (drop_all c.loop-step.step-index c.args.steps.now c.loop-step-test.false))
    ∙ c.loop-step.invariant.all
